-- The pieces are the definitions' text.
use Rattle.std.proofs.Common.{◌≡◌, Bool, true, false, List, [], ◌∷◌, ◌++◌, codes, map, refl, sym, ap, ap₂, ◌∙◌, append_assoc}
use Rattle.std.specs.Prelude.{if◌then◌else◌}
use Rattle.json.specs.Print.{escape_byte}
use Rattle.serde_json.specs.Written.{items_text}
use Rattle.definitions.specs.Answers.{unit_value, units_value}
use Rattle.definitions.specs.Applied.{OutputUnit}
use Rattle.definitions.specs.Texts.{items_of, text}
use Rattle.definitions.specs.Values.{Text, Value, array, to_elements}
use Rattle.basic_output.specs.Pieces.{joined_texts, later_texts, unit_text}
use Rattle.output_texts.specs.Outputs.{kind, opening, text_around, units_output}

abbrev in_brackets : List Text → Text
in_brackets ts = 91 ∷ (joined_texts ts ++ 93 ∷ [])

later_items : (vs : List Value) → items_text true (items_of (to_elements vs)) ≡ later_texts (map text vs) ++ 93 ∷ []
later_items [] = refl
later_items (v ∷ vs) =
    ap (λ r. 44 ∷ (text v ++ r)) (later_items vs) ∙ ap (λ r. 44 ∷ r) (sym (append_assoc (text v) (later_texts (map text vs)) (93 ∷ [])))

array_pieces : (vs : List Value) → text (array (to_elements vs)) ≡ in_brackets (map text vs)
array_pieces [] = refl
array_pieces (v ∷ vs) =
    ap (λ r. 91 ∷ (text v ++ r)) (later_items vs) ∙ ap (λ r. 91 ∷ r) (sym (append_assoc (text v) (later_texts (map text vs)) (93 ∷ [])))

unit_pieces : (valid : Bool) (u : OutputUnit) → text (unit_value (kind valid) u) ≡ unit_text valid u
unfolding escape_byte unit_text
unit_pieces true u = refl
unit_pieces false u = refl

unit_texts : (valid : Bool) (us : List OutputUnit) → map text (map (unit_value (kind valid)) us) ≡ map (unit_text valid) us
unit_texts valid [] = refl
unit_texts valid (u ∷ us) = ap₂ (λ t ts. t ∷ ts) (unit_pieces valid u) (unit_texts valid us)

units_pieces : (valid : Bool) (us : List OutputUnit) → text (units_value (kind valid) us) ≡ in_brackets (map (unit_text valid) us)
units_pieces valid us = array_pieces (map (unit_value (kind valid)) us) ∙ ap in_brackets (unit_texts valid us)

pub output_pieces : (valid : Bool) (us : List OutputUnit) → text (units_output valid us) ≡ text_around valid (map (unit_text valid) us)
unfolding escape_byte
output_pieces true us =
    ap (λ t. codes "{\"annotations\":" ++ (t ++ codes ",\"valid\":true}")) (units_pieces true us)
    ∙ ap (λ t. opening true ++ t) (append_assoc (joined_texts (map (unit_text true) us)) (93 ∷ []) (codes ",\"valid\":true}"))
output_pieces false us =
    ap (λ t. codes "{\"errors\":" ++ (t ++ codes ",\"valid\":false}")) (units_pieces false us)
    ∙ ap (λ t. opening false ++ t) (append_assoc (joined_texts (map (unit_text false) us)) (93 ∷ []) (codes ",\"valid\":false}"))
