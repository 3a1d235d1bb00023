-- A text has no more tokens than bytes, but for one that marks a fault.
use Rattle.std.proofs.Common.{ℕ, suc, ◌≤◌, List, [], ◌∷◌, Bool, true, false, length, arith}
use Rattle.json.specs.Token.{Token, begin_object, end_object, begin_array, end_array, key, string, number, boolean, null, bad}
use Rattle.json.specs.Lex.{Lexeme, token, comma, colon, Class, quote, backslash, operator, space, other, class, Mode, between, in_word, in_string, in_escape, lex, lex_byte, Place, fresh, after_value, after_comma, after_key, punctuate, place_token, if_allowed, may_begin, may_close, begins_colon, tokens}

byte_short : (m : Mode) (c : Class) (x : ℕ) (xs : List ℕ) → ((next : Mode) → length (lex next xs) ≤ length xs) → length (lex_byte m c x xs (λ next. lex next xs)) ≤ suc (length xs)
byte_short between quote x xs more = omega (arith, more in_string)
byte_short between backslash x xs more = omega (arith, more in_word)
byte_short between operator x xs more = omega (arith, more between)
byte_short between space x xs more = omega (arith, more between)
byte_short between other x xs more = omega (arith, more in_word)
byte_short in_word quote x xs more = omega (arith, more in_word)
byte_short in_word backslash x xs more = omega (arith, more in_word)
byte_short in_word operator x xs more = omega (arith, more between)
byte_short in_word space x xs more = omega (arith, more between)
byte_short in_word other x xs more = omega (arith, more in_word)
byte_short in_string quote x xs more = omega (arith, more between)
byte_short in_string backslash x xs more = omega (arith, more in_escape)
byte_short in_string operator x xs more = omega (arith, more in_string)
byte_short in_string space x xs more = omega (arith, more in_string)
byte_short in_string other x xs more = omega (arith, more in_string)
byte_short in_escape c x xs more = omega (arith, more in_string)

lexemes_short : (m : Mode) (xs : List ℕ) → length (lex m xs) ≤ length xs
unfolding lex
lexemes_short m [] = omega arith
lexemes_short m (x ∷ xs) = byte_short m (class x) x xs (λ next. lexemes_short next xs)

allowed : (b : Bool) (t : Token) (next : Place) (k : Place → List Token) (n : ℕ) → length (k next) ≤ suc n → length (if_allowed b t k next) ≤ suc (suc n)
allowed true t next k n more = omega arith
allowed false t next k n more = omega arith

placed_short : (p : Place) (t : Token) (before_colon : Bool) (k : Place → List Token) (n : ℕ) → ((next : Place) → length (k next) ≤ suc n) → length (place_token p t before_colon k) ≤ suc (suc n)
placed_short p begin_object b k n more = allowed (may_begin p) begin_object fresh k n (more fresh)
placed_short p end_object b k n more = allowed (may_close p) end_object after_value k n (more after_value)
placed_short p begin_array b k n more = allowed (may_begin p) begin_array fresh k n (more fresh)
placed_short p end_array b k n more = allowed (may_close p) end_array after_value k n (more after_value)
placed_short p (key s) b k n more = omega arith
placed_short p (string s) true k n more = allowed (may_begin p) (key s) after_key k n (more after_key)
placed_short p (string s) false k n more = allowed (may_begin p) (string s) after_value k n (more after_value)
placed_short p (number s) b k n more = allowed (may_begin p) (number s) after_value k n (more after_value)
placed_short p (boolean c) b k n more = allowed (may_begin p) (boolean c) after_value k n (more after_value)
placed_short p null b k n more = allowed (may_begin p) null after_value k n (more after_value)
placed_short p bad b k n more = omega arith

punctuated_short : (p : Place) (ls : List Lexeme) → length (punctuate p ls) ≤ suc (length ls)
unfolding punctuate
punctuated_short fresh [] = omega arith
punctuated_short after_value [] = omega arith
punctuated_short after_comma [] = omega arith
punctuated_short after_key [] = omega arith
punctuated_short fresh (token t ∷ ls) = placed_short fresh t (begins_colon ls) (λ next. punctuate next ls) (length ls) (λ next. punctuated_short next ls)
punctuated_short after_value (token t ∷ ls) = placed_short after_value t (begins_colon ls) (λ next. punctuate next ls) (length ls) (λ next. punctuated_short next ls)
punctuated_short after_comma (token t ∷ ls) = placed_short after_comma t (begins_colon ls) (λ next. punctuate next ls) (length ls) (λ next. punctuated_short next ls)
punctuated_short after_key (token t ∷ ls) = placed_short after_key t (begins_colon ls) (λ next. punctuate next ls) (length ls) (λ next. punctuated_short next ls)
punctuated_short fresh (comma ∷ ls) = omega arith
punctuated_short after_value (comma ∷ ls) = omega (arith, punctuated_short after_comma ls)
punctuated_short after_comma (comma ∷ ls) = omega arith
punctuated_short after_key (comma ∷ ls) = omega arith
punctuated_short fresh (colon ∷ ls) = omega arith
punctuated_short after_value (colon ∷ ls) = omega arith
punctuated_short after_comma (colon ∷ ls) = omega arith
punctuated_short after_key (colon ∷ ls) = omega (arith, punctuated_short fresh ls)

pub tokens_short : (bytes : List ℕ) → length (tokens bytes) ≤ suc (length bytes)
tokens_short bytes = omega (arith, punctuated_short fresh (lex between bytes), lexemes_short between bytes)
