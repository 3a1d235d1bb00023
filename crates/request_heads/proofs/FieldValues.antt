-- What the fields of a head say, by the fields that a parser found.
use Rattle.std.proofs.Common.{refl, sym, ap, ap₂, ◌∙◌, subst, arith, leb-true, true≢false}
use Rattle.std.specs.Prelude.{◌≡◌, ◌≤◌, ℕ, List, [], ◌∷◌, Bool, true, false, cond, ◌&&◌, ◌||◌, ◌==◌, Option, Some, None, option_and_then, length, nat_lt, nat_le, map, filter, codes}
use Rattle.std.specs.List.{list_all, list_any}
use Rattle.std.specs.Char.{is_ascii_digit}
use Rattle.std.specs.Str.{str_eq_ignore_ascii_case}
use Rattle.std.specs.Str.Parse.{digits_value}
use Rattle.httparse.specs.Grammar.{Field, field_value, RequestHead}
use Rattle.httparse.specs.Spans.{span_bytes, header_bytes, name_and_value}
use Rattle.httparse.specs.declared.spans.HeaderSpan.{HeaderSpan}
use Rattle.definitions.specs.Values.{Text, entry}
use Rattle.definitions.specs.Limits.{limits}
use Rattle.http_definitions.specs.Heads.{values, methods, is_length, length_by, body_length, most_length_digits}
use Rattle.request_heads.specs.Fields.{values_at, body_length_at}

-- ---- values
map_kept : {A B : Type 0} (f : A → B) (b : Bool) (x : A) (xs : List A) → map f (cond b (x ∷ xs) xs) ≡ cond b (f x ∷ map f xs) (map f xs)
map_kept f true x xs = refl
map_kept f false x xs = refl

kept_alike : (a b : Bool) (v w : Text) (vs ws : List Text) → a ≡ b → v ≡ w → vs ≡ ws → cond a (v ∷ vs) vs ≡ cond b (w ∷ ws) ws
kept_alike a b v w vs ws p q r = cc

pub values_are : (name window : Text) (headers : List HeaderSpan) (fields : List Field) → map (header_bytes window) headers ≡ map name_and_value fields
    → values_at name window headers ≡ map field_value (filter (λ f. str_eq_ignore_ascii_case name f.name) fields)
values_are name window [] [] e = refl
values_are name window [] (f ∷ fs) e = absurd (cc e)
values_are name window (x ∷ xs) [] e = absurd (cc e)
values_are name window (x ∷ xs) (f ∷ fs) e =
    let first : header_bytes window x ≡ name_and_value f = cc e in
    let rest : map (header_bytes window) xs ≡ map name_and_value fs = cc e in
    map_kept (λ (h : HeaderSpan). span_bytes window h.value) (str_eq_ignore_ascii_case name (span_bytes window x.name)) x
    (filter (λ (h : HeaderSpan). str_eq_ignore_ascii_case name (span_bytes window h.name)) xs)
    ∙ kept_alike _ _ _ _ _ _ (ap (λ (p : Text × Text). str_eq_ignore_ascii_case name p.0) first) (ap (λ (p : Text × Text). p.1) first) (values_are name window xs fs rest)
    ∙ sym (map_kept field_value (str_eq_ignore_ascii_case name f.name) f (filter (λ (g : Field). str_eq_ignore_ascii_case name g.name) fs))

-- ---- bodies
none_either_way : {A : Type 0} (b : Bool) → ◌≡◌ {A = Option A} (cond b None None) None
none_either_way true = refl
none_either_way false = refl

pub refused_by_method : (h : RequestHead) → entry h.method methods ≡ None → body_length h ≡ None
refused_by_method h e =
    ap (λ o. cond (length (values (codes "transfer-encoding") h) == 0) (option_and_then (length_by (values (codes "content-length") h)) o) None) e
    ∙ none_either_way (length (values (codes "transfer-encoding") h) == 0)

pub body_is : (window : Text) (headers : List HeaderSpan) (h : RequestHead) (must_tell : Bool) → map (header_bytes window) headers ≡ map name_and_value h.fields
    → entry h.method methods ≡ Some must_tell → body_length_at window headers must_tell ≡ body_length h
body_is window headers h must_tell same known =
    let codings = values_are (codes "transfer-encoding") window headers h.fields same in
    let lengths = values_are (codes "content-length") window headers h.fields same in
    ap₂ (λ (ts vs : List Text). cond (length ts == 0) (length_by vs must_tell) None) codings lengths
    ∙ ap (λ o. cond (length (values (codes "transfer-encoding") h) == 0) (option_and_then (length_by (values (codes "content-length") h)) o) None) (sym known)

second : (a b : Bool) → (a && b) ≡ true → b ≡ true
second true b e = e
second false b e = absurd (true≢false (sym e))

-- a length that is told is within the limit
bounded : (t : Text) (b : Bool) (n : ℕ) → is_length t ≡ b → cond b (Some (digits_value 10 t)) None ≡ Some n → n ≤ limits.body_bytes
bounded t false n e told = absurd (cc told)
bounded t true n e told =
    let same : digits_value 10 t ≡ n = cc told in
    let inner = second (nat_lt 0 (length t)) (nat_le (length t) most_length_digits && (list_all is_ascii_digit t && nat_le (digits_value 10 t) limits.body_bytes)) e in
    let last = second (list_all is_ascii_digit t) (nat_le (digits_value 10 t) limits.body_bytes)
    (second (nat_le (length t) most_length_digits) (list_all is_ascii_digit t && nat_le (digits_value 10 t) limits.body_bytes) inner) in
    subst (λ k. k ≤ limits.body_bytes) same (leb-true _ _ last)

untold : (b : Bool) (n : ℕ) → ◌≡◌ {A = Option ℕ} (cond b None (Some 0)) (Some n) → n ≤ limits.body_bytes
untold true n e = absurd (cc e)
untold false n e = let same : n ≡ 0 = cc e in omega (arith, same)

pub length_by_bounded : (vs : List Text) (must_tell : Bool) (n : ℕ) → length_by vs must_tell ≡ Some n → n ≤ limits.body_bytes
length_by_bounded [] must_tell n e = untold must_tell n e
length_by_bounded (t ∷ []) must_tell n e = bounded t (is_length t) n refl e
length_by_bounded (t ∷ u ∷ ts) must_tell n e = absurd (cc e)

told_within : (t : Bool) (o : Option Bool) (vs : List Text) (n : ℕ) → cond t (option_and_then (length_by vs) o) None ≡ Some n → n ≤ limits.body_bytes
told_within false o vs n e = absurd (cc e)
told_within true None vs n e = absurd (cc e)
told_within true (Some b) vs n e = length_by_bounded vs b n e

pub body_bounded : (h : RequestHead) (n : ℕ) → body_length h ≡ Some n → n ≤ limits.body_bytes
body_bounded h n e = told_within (length (values (codes "transfer-encoding") h) == 0) (entry h.method methods) (values (codes "content-length") h) n e

-- ---- one value after the other
pub one_length : (vs ws : List Text) (v : Text) (must_tell : Bool) → vs ≡ v ∷ ws → ws ≡ []
    → length_by vs must_tell ≡ cond (is_length v) (Some (digits_value 10 v)) None
one_length vs ws v must_tell e none = ap (λ (ts : List Text). length_by ts must_tell) (e ∙ ap (λ (ts : List Text). v ∷ ts) none)

pub two_lengths : (vs ws us : List Text) (v u : Text) (must_tell : Bool) → vs ≡ v ∷ ws → ws ≡ u ∷ us → length_by vs must_tell ≡ None
two_lengths vs ws us v u must_tell e more = ap (λ (ts : List Text). length_by ts must_tell) (e ∙ ap (λ (ts : List Text). v ∷ ts) more)

pub first_passes : (f : Text → Bool) (vs ws : List Text) (v : Text) → vs ≡ v ∷ ws → f v ≡ true → list_any f vs ≡ true
first_passes f vs ws v e pass = ap (list_any f) e ∙ ap (λ (b : Bool). b || list_any f ws) pass

pub first_fails : (f : Text → Bool) (vs ws : List Text) (v : Text) → vs ≡ v ∷ ws → f v ≡ false → list_any f vs ≡ list_any f ws
first_fails f vs ws v e fail = ap (list_any f) e ∙ ap (λ (b : Bool). b || list_any f ws) fail
