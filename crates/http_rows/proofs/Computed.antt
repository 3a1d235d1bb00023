-- Tests that compute, and that what they tell holds.
use Rattle.std.proofs.Common.{refl, ap, sym, leb-true, ltb-true, eqb-true, true≢false}
use Rattle.std.specs.Prelude.{◌≡◌, ℕ, List, [], ◌∷◌, ◌++◌, Bool, true, false, cond, ◌&&◌, Option, Some, None, length, nat_lt, nat_le, ◌==◌, All, IsTrue, MatchBool}
use Rattle.std.specs.List.{list_all}
use Rattle.std.specs.Bool.{Decides}
use Rattle.std.specs.Str.{is_utf8, bytes_eq}
use Rattle.std.proofs.lemmas.Str.{IsUtf8-from_is_utf8}
use Rattle.std.proofs.lemmas.Slice.Eq.{bytes_eq-Decides}
use Rattle.std.proofs.lemmas.List.Elements.{All-cons, All-nil}
use Rattle.httparse.specs.Grammar.{Field, IsField, IsToken, is_token, is_token_byte, is_uri_byte, is_value_byte, AllPass, RequestHead, IsRequestHead, print_request}
use Rattle.definitions.specs.Values.{Text}
use Rattle.http_definitions.specs.Heads.{IsSmall, line_feeds, body_length, is_last}
use Rattle.http_definitions.specs.Streams.{Message, without_line_ends, BeginsWith, BeginsWithHead, Spells}

-- ---- tests
pub both : (a b : Bool) → (a && b) ≡ true → (a ≡ true) × (b ≡ true)
both true b e = (refl, e)
both false b e = absurd (true≢false (sym e))

pub same_bytes : (xs ys : Text) → bytes_eq xs ys ≡ true → xs ≡ ys
same_bytes xs ys e = x (bytes_eq xs ys) e (bytes_eq-Decides xs ys)
  where
    x : (b : Bool) → b ≡ true → Decides b (xs ≡ ys) → xs ≡ ys
    x true e d = d.0 refl
    x false e d = absurd (true≢false (sym e))

pub all_pass : (p : ℕ → Bool) (xs : Text) → list_all p xs ≡ true → AllPass p xs
all_pass p [] e = All-nil _
all_pass p (x ∷ xs) e = let a = both (p x) (list_all p xs) e in All-cons (λ b. IsTrue (p b)) x xs a.0 (all_pass p xs a.1)

abbrev pub is_field : Field → Bool
is_field f = is_token f.name && list_all is_value_byte f.raw

token_is : (t : Text) → is_token t ≡ true → IsToken t
token_is t e = let a = both (nat_lt 0 (length t)) (list_all is_token_byte t) e in (ltb-true _ _ a.0, all_pass is_token_byte t a.1)

field_is : (f : Field) → is_field f ≡ true → IsField f
field_is f e =
    let a = both (is_token f.name) (list_all is_value_byte f.raw) e in
    record { name = token_is f.name a.0; raw = all_pass is_value_byte f.raw a.1 }

fields_are : (fs : List Field) → list_all is_field fs ≡ true → All IsField fs
fields_are [] e = All-nil _
fields_are (f ∷ fs) e = let a = both (is_field f) (list_all is_field fs) e in All-cons IsField f fs (field_is f a.0) (fields_are fs a.1)

abbrev is_ending : RequestHead → Bool
is_ending h = nat_le h.minor 1 && list_all is_field h.fields

abbrev is_target : RequestHead → Bool
is_target h = nat_lt 0 (length h.target) && (list_all is_uri_byte h.target && is_utf8 h.target)

abbrev pub is_head : RequestHead → Bool
is_head h = is_token h.method && (is_target h && is_ending h)

pub head_is : (h : RequestHead) → is_head h ≡ true → IsRequestHead h
head_is h e =
    let a = both (is_token h.method) (is_target h && is_ending h) e in
    let b = both (is_target h) (is_ending h) a.1 in
    let c = both (nat_lt 0 (length h.target)) (list_all is_uri_byte h.target && is_utf8 h.target) b.0 in
    let d = both (list_all is_uri_byte h.target) (is_utf8 h.target) c.1 in
    let f = both (nat_le h.minor 1) (list_all is_field h.fields) b.1 in
    record {
      method = token_is h.method a.0;
      target = (ltb-true _ _ c.0, all_pass is_uri_byte h.target d.0);
      target_text = IsUtf8-from_is_utf8 h.target d.1;
      minor = leb-true _ _ f.0;
      fields = fields_are h.fields f.1;
    }

abbrev pub is_small : RequestHead → Bool
is_small h = nat_le (length (print_request h)) 16384 && nat_le (line_feeds (print_request h)) 66

pub small_is : (h : RequestHead) → is_small h ≡ true → IsSmall h
small_is h e =
    let a = both (nat_le (length (print_request h)) 16384) (nat_le (line_feeds (print_request h)) 66) e in
    (leb-true _ _ a.0, leb-true _ _ a.1)

-- ---- streams
abbrev pub is_some_of : Option ℕ → ℕ → Bool
is_some_of None n = false
is_some_of (Some m) n = m == n

abbrev pub begins_with : Text → Message → Text → Bool
begins_with bytes m more =
    bytes_eq bytes (print_request m.head ++ (m.body ++ more)) && (is_head m.head && (is_small m.head && is_some_of (body_length m.head) (length m.body)))

abbrev pub nothing : List Message → Bool
nothing [] = true
nothing _ = false

-- the bytes behind the first ones
abbrev pub behind : Text → Text → Text
behind [] bytes = bytes
behind (x ∷ xs) [] = []
behind (x ∷ xs) (b ∷ bytes) = behind xs bytes

abbrev pub spells : Text → List Message → Text → Bool
spells bytes [] rest = bytes_eq rest (without_line_ends bytes)
spells bytes (m ∷ ms) rest =
    let more = behind (print_request m.head ++ m.body) (without_line_ends bytes) in
    begins_with (without_line_ends bytes) m more && cond (is_last m.head) (nothing ms && bytes_eq rest (without_line_ends more)) (spells more ms rest)

some_is : (o : Option ℕ) (n : ℕ) → is_some_of o n ≡ true → o ≡ Some n
some_is None n e = absurd (true≢false (sym e))
some_is (Some m) n e = ap Some (eqb-true m n e)

pub begins_if : (bytes : Text) (m : Message) (more : Text) → begins_with bytes m more ≡ true → BeginsWith bytes m more
begins_if bytes m more e =
    let told = is_some_of (body_length m.head) (length m.body) in
    let a = both (bytes_eq bytes (print_request m.head ++ (m.body ++ more))) (is_head m.head && (is_small m.head && told)) e in
    let b = both (is_head m.head) (is_small m.head && told) a.1 in
    let c = both (is_small m.head) told b.1 in
    (((head_is m.head b.0, same_bytes _ _ a.0), small_is m.head c.0), some_is _ _ c.1)

nothing_is : (ms : List Message) → nothing ms ≡ true → ms ≡ []
nothing_is [] e = refl
nothing_is (m ∷ ms) e = absurd (true≢false (sym e))

pub spells_if : (bytes : Text) (ms : List Message) (rest : Text) → spells bytes ms rest ≡ true → Spells bytes ms rest
spells_if bytes [] rest e = same_bytes _ _ e
spells_if bytes (m ∷ ms) rest e =
    let more = behind (print_request m.head ++ m.body) (without_line_ends bytes) in
    let a = both (begins_with (without_line_ends bytes) m more)
    (cond (is_last m.head) (nothing ms && bytes_eq rest (without_line_ends more)) (spells more ms rest)) e in
    (more, begins_if _ m more a.0, either (is_last m.head) (λ f. spells_if more ms rest f) a.1)
  where
    either : (b : Bool) → (spells (behind (print_request m.head ++ m.body) (without_line_ends bytes)) ms rest ≡ true
        → Spells (behind (print_request m.head ++ m.body) (without_line_ends bytes)) ms rest)
        → cond b (nothing ms && bytes_eq rest (without_line_ends (behind (print_request m.head ++ m.body) (without_line_ends bytes))))
        (spells (behind (print_request m.head ++ m.body) (without_line_ends bytes)) ms rest) ≡ true
        → MatchBool b ((ms ≡ []) × (rest ≡ without_line_ends (behind (print_request m.head ++ m.body) (without_line_ends bytes))))
        (Spells (behind (print_request m.head ++ m.body) (without_line_ends bytes)) ms rest)
    either true go e =
        let a = both (nothing ms) (bytes_eq rest (without_line_ends (behind (print_request m.head ++ m.body) (without_line_ends bytes)))) e in
        (nothing_is ms a.0, same_bytes _ _ a.1)
    either false go e = go e

pub begins_head_if : (bytes : Text) (h : RequestHead) (more : Text) → (bytes_eq bytes (print_request h ++ more) && (is_head h && is_small h)) ≡ true → BeginsWithHead bytes h more
begins_head_if bytes h more e =
    let a = both (bytes_eq bytes (print_request h ++ more)) (is_head h && is_small h) e in
    let b = both (is_head h) (is_small h) a.1 in
    ((head_is h b.0, same_bytes _ _ a.0), small_is h b.1)
