-- The strings and keys among the tokens of a UTF-8 text are UTF-8.
use Rattle.std.proofs.Common.{◌≡◌, ℕ, suc, ◌+◌, ◌<◌, Bool, true, false, cond, List, [], ◌∷◌, length, get_or, drop, ◌==◌, Some, None, Option, sym, refl, ap, ◌∙◌, subst, add-one, arith, length-drop}
use Rattle.std.proofs.Math.Seq.{drop-cons}
use Rattle.std.proofs.lemmas.Bool.{eqb-true}
use Rattle.std.proofs.lemmas.Str.{IsUtf8-drop, IsCharBoundary-after_ascii, is_utf8-from_IsUtf8}
use Rattle.std.specs.List.{AllByRecursion as Each}
use Rattle.std.specs.Str.{IsUtf8, is_utf8}
use Rattle.json.specs.Ascii as ascii
use Rattle.json.specs.Token.{Token, begin_object, end_object, begin_array, end_array, key, string, number, boolean, null, bad}
use Rattle.json.specs.Text.{content, plain}
use Rattle.json.specs.Word.{word, literal, number_before, ends_word, after_number, head, is_operator, is_space}
use Rattle.json.specs.Lex.{Lexeme, token, comma, colon, Class, quote, backslash, operator, space, other, class, Mode, between, in_word, in_string, in_escape, lex, lex_byte, operator_lexeme, string_token, Place, fresh, after_value, after_comma, after_key, punctuate, place_token, if_allowed, may_begin, may_close, begins_colon, tokens}
use Rattle.definition_laws.proofs.StringContents.{content_utf8}

abbrev pub IsText : Token → Type 0
IsText (key s) = is_utf8 s ≡ true
IsText (string s) = is_utf8 s ≡ true
IsText _ = Unit {0}

abbrev IsTextLexeme : Lexeme → Type 0
IsTextLexeme (token t) = IsText t
IsTextLexeme _ = Unit {0}

-- ---- lexemes
of_both : (b : Bool) (t u : Token) → IsText t → IsText u → IsText (cond b t u)
of_both true t u h k = h
of_both false t u h k = k

number_text : (t : List ℕ) (o : Option (List ℕ)) → IsText (number_before t o)
number_text t None = tt
number_text t (Some rest) = of_both (ends_word rest) (number _) bad tt tt

word_text : (t : List ℕ) → IsText (word t)
unfolding word
word_text t =
    of_both (head t == ascii.lower_t) (literal ascii.true_text (boolean true) t) _ (of_both _ (boolean true) bad tt tt)
    (of_both (head t == ascii.lower_f) (literal ascii.false_text (boolean false) t) _ (of_both _ (boolean false) bad tt tt)
    (of_both (head t == ascii.lower_n) (literal ascii.null_text null t) _ (of_both _ null bad tt tt) (number_text t (after_number t))))

operator_at : (a b c d e : Bool) → IsTextLexeme (cond a (token begin_object) (cond b (token end_object) (cond c (token begin_array) (cond d (token end_array) (cond e comma colon)))))
operator_at true b c d e = tt
operator_at false true c d e = tt
operator_at false false true d e = tt
operator_at false false false true e = tt
operator_at false false false false true = tt
operator_at false false false false false = tt

operator_text : (x : ℕ) → IsTextLexeme (operator_lexeme x)
operator_text x = operator_at (x == ascii.open_brace) (x == ascii.close_brace) (x == ascii.open_bracket) (x == ascii.close_bracket) (x == ascii.comma)

string_text : (o : Option (List ℕ)) → ((s : List ℕ) → o ≡ Some s → is_utf8 s ≡ true) → IsText (string_token o)
string_text None h = tt
string_text (Some s) h = h s refl

byte_text : (m : Mode) (c : Class) (x : ℕ) (xs : List ℕ) → (c ≡ quote → IsUtf8 xs) → ((next : Mode) → Each IsTextLexeme (lex next xs))
    → Each IsTextLexeme (lex_byte m c x xs (λ next. lex next xs))
byte_text between quote x xs text more = (string_text (content plain xs) (λ s e. is_utf8-from_IsUtf8 s (content_utf8 xs s (text refl) e)), more in_string)
byte_text between backslash x xs text more = (tt, more in_word)
byte_text between operator x xs text more = (operator_text x, more between)
byte_text between space x xs text more = more between
byte_text between other x xs text more = (word_text (x ∷ xs), more in_word)
byte_text in_word quote x xs text more = more in_word
byte_text in_word backslash x xs text more = more in_word
byte_text in_word operator x xs text more = (operator_text x, more between)
byte_text in_word space x xs text more = more between
byte_text in_word other x xs text more = more in_word
byte_text in_string quote x xs text more = more between
byte_text in_string backslash x xs text more = more in_escape
byte_text in_string operator x xs text more = more in_string
byte_text in_string space x xs text more = more in_string
byte_text in_string other x xs text more = more in_string
byte_text in_escape c x xs text more = more in_string

quote_at : (a b c d : Bool) → cond a quote (cond b backslash (cond c operator (cond d space other))) ≡ quote → a ≡ true
quote_at true b c d e = refl
quote_at false true c d e = cc
quote_at false false true d e = cc
quote_at false false false true e = cc
quote_at false false false false e = cc

is_quote : (x : ℕ) → class x ≡ quote → x ≡ 34
is_quote x e = eqb-true x 34 (quote_at (x == ascii.quote) (x == ascii.backslash) (is_operator x) (is_space x) e)

lexemes_text : (bytes : List ℕ) → IsUtf8 bytes → (m : Mode) (i : ℕ) (xs : List ℕ) → xs ≡ drop i bytes → Each IsTextLexeme (lex m xs)
unfolding lex
lexemes_text bytes text m i [] at = tt
lexemes_text bytes text m i (x ∷ xs) at =
    let long : length (x ∷ xs) ≡ length (drop i bytes) = ap length at in
    let within : i < length bytes = omega (arith, length-drop i bytes) in
    let here : x ∷ xs ≡ get_or bytes i 0 ∷ drop (suc i) bytes = at ∙ drop-cons bytes i 0 within in
    let first : x ≡ get_or bytes i 0 = cc in
    let rest : xs ≡ drop (suc i) bytes = cc in
    byte_text m (class x) x xs
    (λ e.
    let small : get_or bytes i 0 < 128 = omega (arith, is_quote x e) in
    subst IsUtf8 (ap (λ n. drop n bytes) (add-one i) ∙ sym rest) (IsUtf8-drop bytes (i + 1) text (IsCharBoundary-after_ascii bytes i text within small)))
    (λ next. lexemes_text bytes text next (suc i) xs rest)

-- ---- commas and colons
allowed : (b : Bool) (t : Token) (next : Place) (k : Place → List Token) → IsText t → Each IsText (k next) → Each IsText (if_allowed b t k next)
allowed true t next k h more = (h, more)
allowed false t next k h more = (tt, tt)

placed_text : (p : Place) (t : Token) (before_colon : Bool) (k : Place → List Token) → IsText t → ((next : Place) → Each IsText (k next)) → Each IsText (place_token p t before_colon k)
placed_text p begin_object b k h more = allowed (may_begin p) begin_object fresh k tt (more fresh)
placed_text p end_object b k h more = allowed (may_close p) end_object after_value k tt (more after_value)
placed_text p begin_array b k h more = allowed (may_begin p) begin_array fresh k tt (more fresh)
placed_text p end_array b k h more = allowed (may_close p) end_array after_value k tt (more after_value)
placed_text p (key s) b k h more = (tt, tt)
placed_text p (string s) true k h more = allowed (may_begin p) (key s) after_key k h (more after_key)
placed_text p (string s) false k h more = allowed (may_begin p) (string s) after_value k h (more after_value)
placed_text p (number s) b k h more = allowed (may_begin p) (number s) after_value k tt (more after_value)
placed_text p (boolean c) b k h more = allowed (may_begin p) (boolean c) after_value k tt (more after_value)
placed_text p null b k h more = allowed (may_begin p) null after_value k tt (more after_value)
placed_text p bad b k h more = (tt, tt)

punctuated_text : (p : Place) (ls : List Lexeme) → Each IsTextLexeme ls → Each IsText (punctuate p ls)
unfolding punctuate
punctuated_text fresh [] h = tt
punctuated_text after_value [] h = tt
punctuated_text after_comma [] h = (tt, tt)
punctuated_text after_key [] h = (tt, tt)
punctuated_text fresh (token t ∷ ls) h = placed_text fresh t (begins_colon ls) (λ next. punctuate next ls) h.0 (λ next. punctuated_text next ls h.1)
punctuated_text after_value (token t ∷ ls) h = placed_text after_value t (begins_colon ls) (λ next. punctuate next ls) h.0 (λ next. punctuated_text next ls h.1)
punctuated_text after_comma (token t ∷ ls) h = placed_text after_comma t (begins_colon ls) (λ next. punctuate next ls) h.0 (λ next. punctuated_text next ls h.1)
punctuated_text after_key (token t ∷ ls) h = placed_text after_key t (begins_colon ls) (λ next. punctuate next ls) h.0 (λ next. punctuated_text next ls h.1)
punctuated_text fresh (comma ∷ ls) h = (tt, tt)
punctuated_text after_value (comma ∷ ls) h = punctuated_text after_comma ls h.1
punctuated_text after_comma (comma ∷ ls) h = (tt, tt)
punctuated_text after_key (comma ∷ ls) h = (tt, tt)
punctuated_text fresh (colon ∷ ls) h = (tt, tt)
punctuated_text after_value (colon ∷ ls) h = (tt, tt)
punctuated_text after_comma (colon ∷ ls) h = (tt, tt)
punctuated_text after_key (colon ∷ ls) h = punctuated_text fresh ls h.1

pub tokens_text : (bytes : List ℕ) → IsUtf8 bytes → Each IsText (tokens bytes)
tokens_text bytes text = punctuated_text fresh (lex between bytes) (lexemes_text bytes text between 0 bytes refl)
