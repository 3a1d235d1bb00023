-- A pointer's text, read back, and what is read, written.
use Rattle.std.proofs.Common.{◌≡◌, ℕ, Bool, true, false, cond, List, [], ◌∷◌, ◌++◌, map, ◌==◌, Some, None, codes, Option, option_map, flat_map, option_and_then, sym, refl, ap, ◌∙◌, ap₂, append-nil}
use Rattle.std.proofs.lemmas.Bool.{eqb-true}
use Rattle.std.proofs.lemmas.List.Elements.{All-from_recursion}
use Rattle.std.proofs.lemmas.List.Splits.{slice_split_none, slice_split_at}
use Rattle.std.specs.List.{AllByRecursion as Each, slice_split, onto_first}
use Rattle.definitions.specs.Values.{Text}
use Rattle.definitions.specs.Pointers.{Pointer, escaped_byte, pointer_text, unescaped_token, pointer_of}
use Rattle.definitions.specs.Lists.{each}

abbrev IsNoSlash : ℕ → Type 0
IsNoSlash c = (c == 47) ≡ false

abbrev escaped : Text → Text
escaped = flat_map escaped_byte

abbrev parts_of : Text → List Text
parts_of = slice_split (λ c. c == 47)

abbrev led : List Text → Text
led = flat_map (λ part. 47 ∷ part)

-- the escape of a byte, by what the byte is
abbrev escape : Bool → Bool → ℕ → Text
escape is_tilde is_slash c = cond is_tilde (codes "~0") (cond is_slash (codes "~1") (c ∷ []))

pub kept_byte : (c : ℕ) (rest : Text) → (c == 126) ≡ false → unescaped_token (c ∷ rest) ≡ option_map (λ r. c ∷ r) (unescaped_token rest)
kept_byte c [] e = rw e refl
kept_byte c (d ∷ rest) e = rw e refl

-- ---- a token's text holds no `/`, and is read back
byte_back : (c : ℕ) (cs rest : Text) (a b : Bool) → (c == 126) ≡ a → (c == 47) ≡ b → unescaped_token rest ≡ Some cs
    → unescaped_token (escape a b c ++ rest) ≡ Some (c ∷ cs)
byte_back c cs rest true b ea eb e = ap (option_map (λ r. 126 ∷ r)) e ∙ ap (λ x. Some (x ∷ cs)) (sym (eqb-true c 126 ea))
byte_back c cs rest false true ea eb e = ap (option_map (λ r. 47 ∷ r)) e ∙ ap (λ x. Some (x ∷ cs)) (sym (eqb-true c 47 eb))
byte_back c cs rest false false ea eb e = kept_byte c rest ea ∙ ap (option_map (λ r. c ∷ r)) e

token_back : (token : Text) → unescaped_token (escaped token) ≡ Some token
token_back [] = refl
token_back (c ∷ cs) = byte_back c cs (escaped cs) (c == 126) (c == 47) refl refl (token_back cs)

no_slash_byte : (c : ℕ) (rest : Text) (a b : Bool) → (c == 47) ≡ b → Each IsNoSlash rest → Each IsNoSlash (escape a b c ++ rest)
no_slash_byte c rest true b e h = (refl, (refl, h))
no_slash_byte c rest false true e h = (refl, (refl, h))
no_slash_byte c rest false false e h = (e, h)

no_slash : (token : Text) → Each IsNoSlash (escaped token)
no_slash [] = tt
no_slash (c ∷ cs) = no_slash_byte c (escaped cs) (c == 126) (c == 47) refl (no_slash cs)

cut : (token : Text) (tokens : Pointer) → parts_of (escaped token ++ pointer_text tokens) ≡ map escaped (token ∷ tokens)
cut token [] =
    ap parts_of (append-nil (escaped token))
    ∙ slice_split_none (λ c. c == 47) (escaped token) (All-from_recursion IsNoSlash (escaped token) (no_slash token))
cut token (next ∷ tokens) =
    slice_split_at (λ c. c == 47) (escaped token) 47 (escaped next ++ pointer_text tokens) (All-from_recursion IsNoSlash (escaped token) (no_slash token)) refl
    ∙ ap (λ parts. escaped token ∷ parts) (cut next tokens)

each_back : (tokens : Pointer) → each unescaped_token (map escaped tokens) ≡ Some tokens
each_back [] = refl
each_back (token ∷ tokens) = rw (token_back token, each_back tokens) refl

pub read_back : (p : Pointer) → pointer_of (pointer_text p) ≡ Some p
read_back [] = refl
read_back (token ∷ tokens) = ap (each unescaped_token) (cut token tokens) ∙ each_back (token ∷ tokens)

-- ---- a part without a `/` is the text of the token that is read from it
mapped : (c : ℕ) (o : Option Text) (u : Text) → option_map (λ r. c ∷ r) o ≡ Some u → (r : Text) × ((o ≡ Some r) × (c ∷ r ≡ u))
mapped c None u e = cc
mapped c (Some r) u e = (r, (refl, cc))

abbrev IsWritten : Text → Type 0
IsWritten t = (u : Text) → unescaped_token t ≡ Some u → escaped u ≡ t

last_written : (c : ℕ) (u : Text) (a b : Bool) → (c == 126) ≡ a → (c == 47) ≡ b → b ≡ false → cond a None (Some (c ∷ [])) ≡ Some u → escaped u ≡ c ∷ []
last_written c u true b ea eb plain e = cc
last_written c u false true ea eb plain e = cc
last_written c u false false ea eb plain e =
    let is : c ∷ [] ≡ u = cc in
    rw (← is, ea, eb) refl

pair_written : (c d : ℕ) (cs u : Text) (a x y : Bool) → (c == 126) ≡ a → (d == 48) ≡ x → (d == 49) ≡ y → IsNoSlash c → IsWritten cs → IsWritten (d ∷ cs)
    → cond a (cond x (option_map (λ r. 126 ∷ r) (unescaped_token cs)) (cond y (option_map (λ r. 47 ∷ r) (unescaped_token cs)) None)) (option_map (λ r. c ∷ r) (unescaped_token (d ∷ cs))) ≡ Some u
    → escaped u ≡ c ∷ d ∷ cs
pair_written c d cs u true true y ea ex ey plain short long e =
    let was = mapped 126 (unescaped_token cs) u e in
    rw (← was.1.1, eqb-true c 126 ea, eqb-true d 48 ex) (ap (λ r. 126 ∷ 48 ∷ r) (short was.0 was.1.0))
pair_written c d cs u true false true ea ex ey plain short long e =
    let was = mapped 47 (unescaped_token cs) u e in
    rw (← was.1.1, eqb-true c 126 ea, eqb-true d 49 ey) (ap (λ r. 126 ∷ 49 ∷ r) (short was.0 was.1.0))
pair_written c d cs u true false false ea ex ey plain short long e = cc
pair_written c d cs u false x y ea ex ey plain short long e =
    let was = mapped c (unescaped_token (d ∷ cs)) u e in
    rw (← was.1.1, ea, plain) (ap (λ r. c ∷ r) (long was.0 was.1.0))

token_written : (t : Text) → Each IsNoSlash t → IsWritten t
token_written [] plain u e = let is : [] ≡ u = cc in rw (← is) refl
token_written (c ∷ []) plain u e = last_written c u (c == 126) (c == 47) refl refl plain.0 e
token_written (c ∷ d ∷ cs) plain u e =
    pair_written c d cs u (c == 126) (d == 48) (d == 49) refl refl refl plain.0 (token_written cs plain.1.1) (token_written (d ∷ cs) plain.1) e

-- ---- the parts between the slashes
onto_no_slash : (c : ℕ) (parts : List Text) → IsNoSlash c → Each (Each IsNoSlash) parts → Each (Each IsNoSlash) (onto_first c parts)
onto_no_slash c [] e h = ((e, tt), tt)
onto_no_slash c (part ∷ parts) e h = ((e, h.0), h.1)

byte_parts : (c : ℕ) (parts : List Text) (b : Bool) → (c == 47) ≡ b → Each (Each IsNoSlash) parts → Each (Each IsNoSlash) (cond b ([] ∷ parts) (onto_first c parts))
byte_parts c parts true e h = (tt, h)
byte_parts c parts false e h = onto_no_slash c parts e h

parts_no_slash : (cs : Text) → Each (Each IsNoSlash) (parts_of cs)
parts_no_slash [] = (tt, tt)
parts_no_slash (c ∷ cs) = byte_parts c (parts_of cs) (c == 47) refl (parts_no_slash cs)

onto_led : (c : ℕ) (cs : Text) (parts : List Text) → led parts ≡ 47 ∷ cs → led (onto_first c parts) ≡ 47 ∷ c ∷ cs
onto_led c cs [] e = cc
onto_led c cs (part ∷ parts) e =
    let rest : part ++ led parts ≡ cs = cc in
    ap (λ r. 47 ∷ c ∷ r) rest

byte_led : (c : ℕ) (cs : Text) (parts : List Text) (b : Bool) → (c == 47) ≡ b → led parts ≡ 47 ∷ cs → led (cond b ([] ∷ parts) (onto_first c parts)) ≡ 47 ∷ c ∷ cs
byte_led c cs parts true e h = rw (h, eqb-true c 47 e) refl
byte_led c cs parts false e h = onto_led c cs parts h

parts_led : (cs : Text) → led (parts_of cs) ≡ 47 ∷ cs
parts_led [] = refl
parts_led (c ∷ cs) = byte_led c cs (parts_of cs) (c == 47) refl (parts_led cs)

abbrev AreWritten : List Text → Type 0
AreWritten parts = (p : Pointer) → each unescaped_token parts ≡ Some p → pointer_text p ≡ led parts

more_written : (part : Text) (parts : List Text) (o : Option Text) (os : Option Pointer) → unescaped_token part ≡ o → each unescaped_token parts ≡ os
    → IsWritten part → AreWritten parts → (p : Pointer) → option_and_then (λ y. option_map (λ ys. y ∷ ys) os) o ≡ Some p → pointer_text p ≡ led (part ∷ parts)
more_written part parts None os eo es one more p e = cc
more_written part parts (Some t) None eo es one more p e = cc
more_written part parts (Some t) (Some ts) eo es one more p e =
    let is : t ∷ ts ≡ p = cc in
    rw (← is) (ap₂ (λ x y. 47 ∷ x ++ y) (one t eo) (more ts es))

parts_written : (parts : List Text) → Each (Each IsNoSlash) parts → AreWritten parts
parts_written [] h p e = let is : [] ≡ p = cc in rw (← is) refl
parts_written (part ∷ parts) h p e =
    more_written part parts (unescaped_token part) (each unescaped_token parts) refl refl (token_written part h.0) (parts_written parts h.1) p e

by_first : (c : ℕ) (cs : Text) (p : Pointer) (b : Bool) → (c == 47) ≡ b → cond b (each unescaped_token (parts_of cs)) None ≡ Some p → pointer_text p ≡ c ∷ cs
by_first c cs p true e h = parts_written (parts_of cs) (parts_no_slash cs) p h ∙ parts_led cs ∙ ap (λ x. x ∷ cs) (sym (eqb-true c 47 e))
by_first c cs p false e h = cc

pub read_text : (t : Text) (p : Pointer) → pointer_of t ≡ Some p → pointer_text p ≡ t
read_text [] p e = let is : [] ≡ p = cc in rw (← is) refl
read_text (c ∷ cs) p e = by_first c cs p (c == 47) refl e
