-- Writes, one after the other.
use Rattle.std.proofs.Common.{◌≡◌, ℕ, ◌+◌, List, [], ◌∷◌, ◌++◌, Some, None, take, drop, refl, sym, ap, ◌∙◌, append_assoc, append-nil, take-add, take-append-drop}
use Rattle.definitions.specs.Values.{Text}
use Rattle.serving.specs.Transfers.{Transfer, transferred_bytes}
use Rattle.serving.specs.Writing.{Writes, WritesSome, IsBroken}

pub transferred-append : (ts us : List Transfer) → transferred_bytes (ts ++ us) ≡ transferred_bytes ts ++ transferred_bytes us
transferred-append [] us = refl
transferred-append (None ∷ ts) us = transferred-append ts us
transferred-append (Some b ∷ ts) us = ap (λ t. b ++ t) (transferred-append ts us) ∙ sym (append_assoc b (transferred_bytes ts) (transferred_bytes us))

pub took_some : (ts : List Transfer) (b : Text) → transferred_bytes (ts ++ (Some b ∷ [])) ≡ transferred_bytes ts ++ b
took_some ts b = transferred-append ts (Some b ∷ []) ∙ ap (λ t. transferred_bytes ts ++ t) (append-nil b)

pub took_nothing : (ts : List Transfer) → transferred_bytes (ts ++ (None ∷ [])) ≡ transferred_bytes ts
took_nothing ts = transferred-append ts (None ∷ []) ∙ append-nil (transferred_bytes ts)

pub took_none : (n : ℕ) (bytes : Text) → n ≡ 0 → ◌≡◌ {A = Transfer} (Some (take n bytes)) (Some [])
took_none n bytes e = rw e refl

pub writes_nothing : (before : List Transfer) → Writes before [] before
writes_nothing before = record { writes = []; on = sym (append-nil before); whole = refl }

-- one after the other
pub writes_on : (before middle after : List Transfer) (a b : Text) → Writes before a middle → Writes middle b after → Writes before (a ++ b) after
writes_on before middle after a b x y = record {
  writes = x.writes ++ y.writes;
  on = y.on ∙ ap (λ ts. ts ++ y.writes) x.on ∙ append_assoc before x.writes y.writes;
  whole = transferred-append x.writes y.writes ∙ ap (λ t. t ++ transferred_bytes y.writes) x.whole ∙ ap (λ t. a ++ t) y.whole;
}

-- .. and the second breaks off
pub writes_some_on : (before middle after : List Transfer) (a b : Text) → Writes before a middle → WritesSome middle b after → WritesSome before (a ++ b) after
writes_some_on before middle after a b x y = record {
  writes = x.writes ++ y.writes;
  last = y.last;
  on = y.on ∙ ap (λ ts. ts ++ (y.writes ++ (y.last ∷ []))) x.on ∙ append_assoc before x.writes (y.writes ++ (y.last ∷ []))
      ∙ ap (λ ts. before ++ ts) (sym (append_assoc x.writes y.writes (y.last ∷ [])));
  rest = y.rest;
  part = ap (λ t. a ++ t) y.part ∙ sym (append_assoc a (transferred_bytes y.writes) y.rest)
      ∙ ap (λ t. (t ++ transferred_bytes y.writes) ++ y.rest) (sym x.whole) ∙ ap (λ t. t ++ y.rest) (sym (transferred-append x.writes y.writes));
  broken = y.broken;
}

-- a part of more bytes
pub writes_some_of : (before after : List Transfer) (a b : Text) → WritesSome before a after → WritesSome before (a ++ b) after
writes_some_of before after a b x = record {
  writes = x.writes;
  last = x.last;
  on = x.on;
  rest = x.rest ++ b;
  part = ap (λ t. t ++ b) x.part ∙ append_assoc (transferred_bytes x.writes) x.rest b;
  broken = x.broken;
}

-- one write more
pub writes_next : (before middle after : List Transfer) (bytes : Text) (start n : ℕ) → Writes before (take start bytes) middle
    → after ≡ middle ++ (Some (take n (drop start bytes)) ∷ []) → Writes before (take (start + n) bytes) after
writes_next before middle after bytes start n x e =
    let y : Writes middle (take n (drop start bytes)) after = record { writes = Some (take n (drop start bytes)) ∷ []; on = e; whole = append-nil _ } in
    let z = writes_on before middle after (take start bytes) (take n (drop start bytes)) x y in
    record { writes = z.writes; on = z.on; whole = z.whole ∙ sym (take-add start n bytes) }

pub breaks_off : (before middle after : List Transfer) (bytes : Text) (start : ℕ) (t : Transfer) → Writes before (take start bytes) middle
    → after ≡ middle ++ (t ∷ []) → IsBroken t → WritesSome before bytes after
breaks_off before middle after bytes start t x e b = record {
  writes = x.writes;
  last = t;
  on = e ∙ ap (λ ts. ts ++ (t ∷ [])) x.on ∙ append_assoc before x.writes (t ∷ []);
  rest = drop start bytes;
  part = sym (take-append-drop start bytes) ∙ ap (λ w. w ++ drop start bytes) (sym x.whole);
  broken = b;
}
