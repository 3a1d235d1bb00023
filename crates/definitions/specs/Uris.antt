-- The parts of a URI reference (RFC 3986): splitting, recomposition, identifiers.
use Rattle.std.specs.Prelude.{◌≡◌, IsTrue, true, ℕ, [], ◌∷◌, ◌++◌, Bool, false, ◌&&◌, ◌||◌, not, if◌then◌else◌, Option, Some, None, nat_eq, ◌==◌, codes, drop, is_some, is_none, unwrap_or}
use Rattle.std.specs.List.{list_all, list_any, starts_with, slice_split}
use Rattle.definitions.specs.Bytes.{colon, is_digit, is_letter, number_sign, question_mark, slash}
use Rattle.definitions.specs.Lists.{cut_at, split_before}
use Rattle.definitions.specs.Values.{Text, same_text}

pub record Parts : Type 0 where
  pub scheme : Option Text
  pub authority : Option Text
  pub path : Text
  pub query : Option Text
  pub fragment : Option Text

-- ---- Appendix B

abbrev pub is_scheme_byte : ℕ → Bool
is_scheme_byte c = is_letter c || is_digit c || list_any (λ d. d == c) (codes "+-.")

-- section 3.1: a letter, and then letters, digits, `+`, `-` and `.`
abbrev pub is_scheme : Text → Bool
is_scheme [] = false
is_scheme (c ∷ cs) = is_letter c && list_all is_scheme_byte cs

abbrev pub scheme_and_rest : Text → Option Text × Text
scheme_and_rest s =
    let r = cut_at (λ c. c == colon) s in
    if is_some r.1 && is_scheme r.0 then (Some (r.0), unwrap_or r.1 []) else (None, s)

abbrev pub authority_and_path : Text → Option Text × Text
authority_and_path s =
    if starts_with nat_eq s (codes "//")
    then (let r = split_before (λ c. c == slash) (drop 2 s) in (Some (r.0), r.1))
    else (None, s)

abbrev pub split : Text → Parts
split text =
    let f = cut_at (λ c. c == number_sign) text in
    let q = cut_at (λ c. c == question_mark) f.0 in
    let s = scheme_and_rest q.0 in
    let a = authority_and_path s.1 in
    record { scheme = s.0; authority = a.0; path = a.1; query = q.1; fragment = f.1 }

-- ---- section 5.3
abbrev pub led_by : Text → Option Text → Text
led_by sign None = []
led_by sign (Some s) = sign ++ s

abbrev pub ended_by : Option Text → Text → Text
ended_by None sign = []
ended_by (Some s) sign = s ++ sign

abbrev pub recompose : Parts → Text
recompose p =
    ended_by p.scheme (codes ":") ++ (led_by (codes "//") p.authority ++ (p.path ++ (led_by (codes "?") p.query ++ led_by (codes "#") p.fragment)))

abbrev pub begins : Text → Text → Bool
begins text prefix = starts_with nat_eq text prefix

-- the text without its fragment
abbrev pub without_fragment : Text → Text
without_fragment text = (cut_at (λ c. c == number_sign) text).0

-- ---- identifiers: a scheme, no fragment, no dot segment, and a text that splits into the same parts again
abbrev pub is_dot_segment : Text → Bool
is_dot_segment s = same_text s (codes ".") || same_text s (codes "..")

abbrev pub is_identifier : Parts → Bool
is_identifier p =
    is_some p.scheme && is_none p.fragment
    && not (list_any is_dot_segment (slice_split (λ c. c == slash) p.path))
    && (is_some p.authority || not (begins p.path (codes "//")))

-- ---- parts that some text splits into
abbrev pub is_free_of : Text → Text → Bool
is_free_of signs part = not (list_any (λ c. list_any (λ d. d == c) signs) part)

abbrev pub option_all : (Text → Bool) → Option Text → Bool
option_all p None = true
option_all p (Some t) = p t

-- a path after an authority is empty or begins with `/`; without one it doesn't begin with `//`, and without a scheme
-- too nothing of it reads as one
abbrev pub is_path_of : Parts → Bool
is_path_of p =
    if is_some p.authority then same_text p.path [] || begins p.path (codes "/")
    else not (begins p.path (codes "//")) && (is_some p.scheme || is_none ((scheme_and_rest p.path).0))

abbrev pub are_parts : Parts → Bool
are_parts p =
    option_all is_scheme p.scheme && option_all (is_free_of (codes "/?#")) p.authority
    && (is_free_of (codes "?#") p.path && is_path_of p)
    && option_all (is_free_of (codes "#")) p.query

-- the parts of a text are the only ones that recompose to it
pub record SplitsOnce : Type 0 where
  pub recomposes : (t : Text) → recompose (split t) ≡ t
  pub splits : (t : Text) → IsTrue (are_parts (split t))
  pub only : (p : Parts) → IsTrue (are_parts p) → split (recompose p) ≡ p
