-- A token read from its text, escape by escape, and the tokens of a text one by one.
use Rattle.std.proofs.Common.{◌≡◌, ◌≢◌, ℕ, suc, ◌+◌, ◌<◌, ◌≤◌, ◌==◌, List, [], ◌∷◌, ◌++◌, Bool, true, false, cond, Option, Some, None, option_map, option_and_then, get_or, drop, length, refl, sym, ap, ◌∙◌, arith, append-nil, append_assoc, length-append}
use Rattle.std.proofs.lemmas.Bool.{eqb-true, ne_eqb}
use Rattle.std.proofs.lemmas.List.{at_drop_more, at_drop_all}
use Rattle.std.proofs.lemmas.Str.{IsUtf8-drop, IsCharBoundary-after_ascii}
use Rattle.std.proofs.Math.Seq.{drop-append-add, get_or-append_seam}
use Rattle.std.specs.List.{slice_split}
use Rattle.std.specs.Str.{IsUtf8}
use Rattle.definitions.specs.Values.{Text}
use Rattle.definitions.specs.Pointers.{unescaped_token, pointer_of}
use Rattle.definitions.specs.Lists.{each}
use Rattle.lemmas.proofs.PointerTexts.{kept_byte}
use Rattle.json_pointer.specs.Escapes.{escape_before}

-- what is done, and then what is left
abbrev pub resumed : {A : Type 0} → List A → Option (List A) → Option (List A)
resumed done = option_map (λ r. done ++ r)

resumed-more : {A : Type 0} (done more : List A) (o : Option (List A)) → resumed (done ++ more) o ≡ resumed done (resumed more o)
resumed-more done more None = refl
resumed-more done more (Some r) = ap Some (append_assoc done more r)

pub resumed-nil : {A : Type 0} (o : Option (List A)) → resumed [] o ≡ o
resumed-nil None = refl
resumed-nil (Some r) = refl

-- ---- the bytes of a token
abbrev pub HasNoTilde : Text → Type 0
HasNoTilde bs = (i : ℕ) → i < length bs → get_or bs i 0 ≢ 126

-- up to the first `~` a token stands as it is
kept : (xs ys : Text) → HasNoTilde xs → unescaped_token (xs ++ ys) ≡ resumed xs (unescaped_token ys)
kept [] ys h = sym (resumed-nil (unescaped_token ys))
kept (x ∷ xs) ys h =
    let first : x ≢ 126 = h 0 (omega arith) in
    kept_byte x (xs ++ ys) (ne_eqb x 126 first)
    ∙ ap (resumed (x ∷ [])) (kept xs ys (λ i within. h (suc i) (omega arith)))
    ∙ sym (resumed-more (x ∷ []) xs (unescaped_token ys))

by_escape : (a b : Bool) (o : Option Text) → cond a (resumed (126 ∷ []) o) (cond b (resumed (47 ∷ []) o) None)
    ≡ option_and_then (λ c. resumed (c ∷ []) o) (cond a (Some 126) (cond b (Some 47) None))
by_escape true b o = refl
by_escape false true o = refl
by_escape false false o = refl

escape : (ds : Text) → unescaped_token (126 ∷ ds) ≡ option_and_then (λ c. resumed (c ∷ []) (unescaped_token (drop 1 ds))) (escape_before ds)
escape [] = refl
escape (d ∷ ds) = by_escape (d == 48) (d == 49) (unescaped_token ds)

to_escape : (done before after rest : Text) → rest ≡ before ++ 126 ∷ after → HasNoTilde before
    → resumed done (unescaped_token rest) ≡ resumed (done ++ before) (option_and_then (λ c. resumed (c ∷ []) (unescaped_token (drop 1 after))) (escape_before after))
to_escape done before after rest cut plain =
    ap (λ bs. resumed done (unescaped_token bs)) cut ∙ ap (resumed done) (kept before (126 ∷ after) plain)
    ∙ sym (resumed-more done before (unescaped_token (126 ∷ after))) ∙ ap (resumed (done ++ before)) (escape after)

-- one more run and its escape
pub token_more : (done before after rest : Text) (c : ℕ) → rest ≡ before ++ 126 ∷ after → HasNoTilde before → escape_before after ≡ Some c
    → resumed ((done ++ before) ++ c ∷ []) (unescaped_token (drop 1 after)) ≡ resumed done (unescaped_token rest)
token_more done before after rest c cut plain e =
    resumed-more (done ++ before) (c ∷ []) (unescaped_token (drop 1 after))
    ∙ sym (to_escape done before after rest cut plain ∙ ap (λ o. resumed (done ++ before) (option_and_then (λ c. resumed (c ∷ []) (unescaped_token (drop 1 after))) o)) e)

-- a `~` that begins no escape
pub token_none : (done before after rest : Text) → rest ≡ before ++ 126 ∷ after → HasNoTilde before → escape_before after ≡ None
    → resumed done (unescaped_token rest) ≡ None
token_none done before after rest cut plain e =
    to_escape done before after rest cut plain ∙ ap (λ o. resumed (done ++ before) (option_and_then (λ c. resumed (c ∷ []) (unescaped_token (drop 1 after))) o)) e

-- the last run
pub token_last : (done rest : Text) → HasNoTilde rest → resumed done (unescaped_token rest) ≡ Some (done ++ rest)
token_last done rest plain =
    ap (resumed done) (ap unescaped_token (sym (append-nil rest)) ∙ kept rest [] plain ∙ ap Some (append-nil rest))

by_escape-small : (a b : Bool) (c : ℕ) → cond a (Some 126) (cond b (Some 47) None) ≡ Some c → c < 128
by_escape-small true b c e = let is : 126 ≡ c = cc in omega arith
by_escape-small false true c e = let is : 47 ≡ c = cc in omega arith
by_escape-small false false c e = cc

pub escape-small : (ds : Text) (c : ℕ) → escape_before ds ≡ Some c → c < 128
escape-small [] c e = cc
escape-small (d ∷ ds) c e = by_escape-small (d == 48) (d == 49) c e

by_first : (d : ℕ) (a b : Bool) (c : ℕ) → (d == 48) ≡ a → (d == 49) ≡ b → cond a (Some 126) (cond b (Some 47) None) ≡ Some c → d < 128
by_first d true b c ea eb e = let is : d ≡ 48 = eqb-true d 48 ea in omega arith
by_first d false true c ea eb e = let is : d ≡ 49 = eqb-true d 49 eb in omega arith
by_first d false false c ea eb e = cc

pub escape-first : (ds : Text) (c : ℕ) → escape_before ds ≡ Some c → (0 < length ds) × (get_or ds 0 0 < 128)
escape-first [] c e = cc
escape-first (d ∷ ds) c e = (omega arith, by_first d (d == 48) (d == 49) c refl refl e)

-- ---- the tokens of a text
each_at : (parts : List Text) (n : ℕ) (part : Text) → n < length parts → part ≡ get_or parts n part
    → each unescaped_token (drop n parts) ≡ option_and_then (λ y. resumed (y ∷ []) (each unescaped_token (drop (n + 1) parts))) (unescaped_token part)
each_at parts n part within is =
    at_drop_more (each unescaped_token) parts n part within ∙ ap (λ p. each unescaped_token (p ∷ drop (n + 1) parts)) (sym is)

pub tokens_more : (done parts : List Text) (n : ℕ) (part token : Text) → n < length parts → part ≡ get_or parts n part → unescaped_token part ≡ Some token
    → resumed (done ++ token ∷ []) (each unescaped_token (drop (n + 1) parts)) ≡ resumed done (each unescaped_token (drop n parts))
tokens_more done parts n part token within is e =
    resumed-more done (token ∷ []) (each unescaped_token (drop (n + 1) parts))
    ∙ sym (ap (resumed done) (each_at parts n part within is ∙ ap (option_and_then (λ y. resumed (y ∷ []) (each unescaped_token (drop (n + 1) parts)))) e))

pub tokens_none : (done parts : List Text) (n : ℕ) (part : Text) → n < length parts → part ≡ get_or parts n part → unescaped_token part ≡ None
    → resumed done (each unescaped_token (drop n parts)) ≡ None
tokens_none done parts n part within is e =
    ap (resumed done) (each_at parts n part within is ∙ ap (option_and_then (λ y. resumed (y ∷ []) (each unescaped_token (drop (n + 1) parts)))) e)

pub tokens_all : (done parts : List Text) (n : ℕ) → length parts ≤ n → resumed done (each unescaped_token (drop n parts)) ≡ Some done
tokens_all done parts n past = ap (resumed done) (at_drop_all (each unescaped_token) parts n past) ∙ ap Some (append-nil done)

-- ---- a text after its first `~`
pub text_after : (before after rest : Text) → rest ≡ before ++ 126 ∷ after → IsUtf8 rest → IsUtf8 after
text_after before after rest cut text =
    let within : length before < length rest = rw cut (simp length-append (omega arith)) in
    let tilde : get_or rest (length before) 0 ≡ 126 = rw cut (get_or-append_seam before 126 after 0) in
    let small : get_or rest (length before) 0 < 128 = omega arith in
    let left : drop (length before + 1) rest ≡ after = rw cut (drop-append-add before (126 ∷ after) 1) in
    rw left at (IsUtf8-drop rest (length before + 1) text (IsCharBoundary-after_ascii rest (length before) text within small))

-- ---- what is no pointer's text
by_slash : (c : ℕ) (cs : Text) (b : Bool) → (c == 47) ≡ b → ((rest : Text) → c ∷ cs ≢ 47 ∷ rest) → cond b (each unescaped_token (slice_split (λ d. d == 47) cs)) None ≡ None
by_slash c cs true e other = absurd (other cs (ap (λ x. x ∷ cs) (eqb-true c 47 e)))
by_slash c cs false e other = refl

pub no_pointer : (bs : Text) → bs ≢ [] → ((rest : Text) → bs ≢ 47 ∷ rest) → pointer_of bs ≡ None
no_pointer [] some other = absurd (some refl)
no_pointer (c ∷ cs) some other = by_slash c cs (c == 47) refl other
