-- JSON Pointer (RFC 6901).
use Rattle.std.specs.Prelude.{ℕ, ◌+◌, ◌*◌, ◌-◌, ◌/◌, ◌%◌, List, [], ◌∷◌, Bool, true, false, ◌&&◌, ◌||◌, not, if◌then◌else◌, Option, Some, None, nat_lt, ◌==◌, length, option_and_then, option_map, slice_get, flat_map, codes}
use Rattle.std.specs.List.{list_all, list_any, slice_split}
use Rattle.definitions.specs.Bytes.{digit_one, digit_zero, is_capital, is_digit, is_small, percent_sign, slash, tilde}
use Rattle.definitions.specs.Lists.{each}
use Rattle.definitions.specs.Values.{Text, Value, array, object, elements_list, members_list, entry, same_text}

-- a pointer is its reference tokens
abbrev pub Pointer : Type 0
Pointer = List Text

abbrev pub same_pointer : Pointer → Pointer → Bool
same_pointer [] [] = true
same_pointer (t ∷ ts) (u ∷ us) = same_text t u && same_pointer ts us
same_pointer _ _ = false

abbrev pub number_from : ℕ → Text → ℕ
number_from n [] = n
number_from n (c ∷ cs) = number_from (10 * n + (c - digit_zero)) cs

-- section 4: `0`, or digits that don't begin with a zero
abbrev pub array_index : Text → Option ℕ
array_index [] = None
array_index (c ∷ cs) =
    if list_all is_digit (c ∷ cs) && ((length cs == 0) || not (c == digit_zero)) then Some (number_from 0 (c ∷ cs)) else None

-- what a token finds
abbrev pub child : Text → Value → Option Value
child token (array vs) = option_and_then (slice_get (elements_list vs)) (array_index token)
child token (object ms) = entry token (members_list ms)
child token _ = None

abbrev pub find : Pointer → Value → Option Value
find [] v = Some v
find (token ∷ tokens) v = option_and_then (find tokens) (child token v)

-- ---- section 3: `~0` for `~` and `~1` for `/`
abbrev pub escaped_byte : ℕ → Text
escaped_byte c = if c == tilde then codes "~0" else if c == slash then codes "~1" else c ∷ []

abbrev pub pointer_text : Pointer → Text
pointer_text = flat_map (λ token. slash ∷ flat_map escaped_byte token)

-- a token as it was before its `/` and `~` were escaped
abbrev pub unescaped_token : Text → Option Text
unescaped_token [] = Some []
unescaped_token (c ∷ []) = if c == tilde then None else Some (c ∷ [])
unescaped_token (c ∷ d ∷ cs) =
    if c == tilde then (if d == digit_zero then option_map (λ r. tilde ∷ r) (unescaped_token cs) else if d == digit_one then option_map (λ r. slash ∷ r) (unescaped_token cs) else None)
    else option_map (λ r. c ∷ r) (unescaped_token (d ∷ cs))

-- the pointer whose text this is
abbrev pub pointer_of : Text → Option Pointer
pointer_of [] = Some []
pointer_of (c ∷ cs) = if c == slash then each unescaped_token (slice_split (λ d. d == slash) cs) else None

-- ---- section 6: the bytes that stand in a URI fragment as they are (RFC 3986, 3.5)
abbrev pub is_fragment_byte : ℕ → Bool
is_fragment_byte c =
    is_digit c || is_capital c || is_small c
    || list_any (λ d. d == c) (codes "-._~!$&'()*+,;=:@/?")

abbrev pub hex_digit : ℕ → ℕ
hex_digit n = if nat_lt n 10 then digit_zero + n else 55 + n

abbrev pub percent_encoded_text : Text → Text
percent_encoded_text = flat_map (λ c. if is_fragment_byte c then c ∷ [] else percent_sign ∷ hex_digit (c / 16) ∷ hex_digit (c % 16) ∷ [])

abbrev pub fragment_text : Pointer → Text
fragment_text p = percent_encoded_text (pointer_text p)
