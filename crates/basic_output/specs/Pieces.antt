-- The output's text, piece by piece.
use Rattle.std.specs.Prelude.{◌≡◌, ℕ, List, [], ◌∷◌, ◌++◌, Bool, true, false, not, ◌&&◌, ◌||◌, ◌==◌, nat_le, codes, flat_map, map, pos}
use Rattle.std.specs.List.{list_all}
use Rattle.json.specs.Print.{escape, quoted}
use Rattle.definitions.specs.Answers.{absolute_location}
use Rattle.definitions.specs.Applied.{OutputUnit}
use Rattle.definitions.specs.Bytes.{is_capital, is_digit, is_small, number_sign, slash}
use Rattle.definitions.specs.Pointers.{fragment_text, pointer_text}
use Rattle.definitions.specs.Schemas.{Identity}
use Rattle.definitions.specs.Texts.{text}
use Rattle.definitions.specs.Values.{Text, array, integer, string, to_elements}
use Rattle.json.specs.Token.{Token}
use Rattle.json_doc.specs.NamedMembers.{name_text}
use Rattle.json_doc.specs.Tokens.{elements_tokens}
use Rattle.json_doc.specs.declared.named_members.Name.{Name}

-- a byte that stands in a string of JSON as it is
abbrev pub is_unescaped : ℕ → Bool
is_unescaped c = nat_le 32 c && (not (c == 34) && not (c == 92))

-- a byte that also stands as it is in a pointer and in its fragment: a letter, a digit, `$`, `-`, `.` or `_`
abbrev pub is_plain : ℕ → Bool
is_plain c = is_small c || (is_capital c || (is_digit c || (c == 36 || (c == 45 || (c == 46 || c == 95)))))

-- tokens of which nothing is escaped, each led by a `/`
abbrev pub plain_text : List Text → Text
plain_text = flat_map (λ token. slash ∷ token)

abbrev pub are_plain : List Text → Bool
are_plain = list_all (λ t. list_all is_plain t)

-- ---- texts, each later one behind a comma
abbrev pub later_texts : List Text → Text
later_texts = flat_map (λ t. 44 ∷ t)

abbrev pub joined_texts : List Text → Text
joined_texts [] = []
joined_texts (t ∷ ts) = t ++ later_texts ts

-- the text of a list of names
abbrev pub names_text : List Text → Text
names_text names = text (array (to_elements (map string names)))

-- the tokens behind the bracket that opens a list of names, or of indexes
abbrev pub name_tokens : List Name → List Token
name_tokens names = elements_tokens (to_elements (map string (map name_text names)))

abbrev pub index_tokens : List ℕ → List Token
index_tokens indexes = elements_tokens (to_elements (map (λ index. integer (pos index)) indexes))

-- ---- what the units are called
abbrev pub kind_key : Bool → Text
kind_key true = codes ",\"annotation\":"
kind_key false = codes ",\"error\":"

-- ---- a unit's text
-- how the text begins, up to where this location ends
abbrev pub head_text : Text → Text
head_text location = codes "{\"absoluteKeywordLocation\":\"" ++ escape location

-- the text is that head, up to a pointer in the resource with this URI
abbrev pub IsHead : Identity → Text → Type 0
IsHead origin t = t ≡ head_text (origin.0 ++ (number_sign ∷ fragment_text origin.1))

unfoldable pub unit_text : Bool → OutputUnit → Text
unit_text valid u =
    codes "{\"absoluteKeywordLocation\":" ++ (quoted (absolute_location u) ++ (kind_key valid ++ (text u.says
    ++ (codes ",\"instanceLocation\":" ++ (quoted (pointer_text u.instance_location)
    ++ (codes ",\"keywordLocation\":" ++ (quoted (pointer_text u.path) ++ codes "}")))))))
