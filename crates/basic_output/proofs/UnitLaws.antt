-- Units' texts: put among others, and made of their parts.
use Rattle.std.proofs.Common.{◌≡◌, ◌++◌, ◌∷◌, [], ℕ, Bool, List, codes, length, min, true, append_assoc, ap, ap₂, ◌∙◌, refl, sym}
use Rattle.std.proofs.lemmas.Grind.{flat_map-append}
use Rattle.std.proofs.lemmas.List.{drop_min, take_min}
use Rattle.std.specs.List.{insert, list_all}
use Rattle.json.specs.Print.{escape, escape_byte, quoted}
use Rattle.definitions.specs.Pointers.{Pointer, fragment_text, pointer_text}
use Rattle.definitions.specs.Texts.{text}
use Rattle.definitions.specs.Schemas.{Identity}
use Rattle.definitions.specs.Values.{Text, Value, string}
use Rattle.basic_output.specs.declared.location.Location.{Location}
use Rattle.basic_output.specs.declared.unit_text.message_buffer.Form.{Form}
use Rattle.basic_output.specs.declared.unit_text.message_buffer.Form.TheVariants.{NotMet, Unescaped, Written}
use Rattle.basic_output.specs.declared.unit_text.message_buffer.Message.{Message}
use Rattle.basic_output.specs.Parts.{AreTextsOf, formed_text, parts_text, path_key, quotation, message_ending, message_text, text_of_unit, unit_end}
use Rattle.basic_output.specs.Pieces.{IsHead, is_unescaped, kind_key, unit_text}
use Rattle.basic_output.proofs.PlainLaws.{fragment_append, unescaped_message}

-- a position past the end is the end
pub insert_min : {A : Type 0} (xs : List A) (i : ℕ) (x : A) → insert xs (min i (length xs)) x ≡ insert xs i x
insert_min xs i x = ap₂ (λ a b. a ++ x ∷ b) (take_min i xs) (drop_min i xs)

-- ---- a unit of its parts
-- the head with what leads onward from it
opened : (uri : Text) (pointer onward : Pointer) (head written rest : Text) → IsHead (uri, pointer) head → written ≡ escape (fragment_text onward)
    → head ++ (written ++ 34 ∷ rest) ≡ codes "{\"absoluteKeywordLocation\":" ++ (quoted (uri ++ 35 ∷ fragment_text (pointer ++ onward)) ++ rest)
opened uri pointer onward head written rest is_head behind =
    let base = uri ++ 35 ∷ fragment_text pointer in
    let location = uri ++ 35 ∷ fragment_text (pointer ++ onward) in
    let parts : base ++ fragment_text onward ≡ location =
    append_assoc uri (35 ∷ fragment_text pointer) (fragment_text onward) ∙ ap (λ t. uri ++ 35 ∷ t) (sym (fragment_append pointer onward)) in
    let all : escape base ++ written ≡ escape location =
    ap (λ t. escape base ++ t) behind ∙ sym (flat_map-append escape_byte base (fragment_text onward)) ∙ ap escape parts in
    ap (λ t. t ++ (written ++ 34 ∷ rest)) is_head
    ∙ ap (λ t. codes "{\"absoluteKeywordLocation\":" ++ (34 ∷ t)) (sym (append_assoc (escape base) written (34 ∷ rest)) ∙ ap (λ t. t ++ 34 ∷ rest) all ∙ sym (append_assoc (escape location) (34 ∷ []) rest))

closed : (written t rest : Text) → written ≡ escape t → 34 ∷ (written ++ 34 ∷ rest) ≡ quoted t ++ rest
closed written t rest same = ap (λ s. 34 ∷ (s ++ 34 ∷ rest)) same ∙ ap (λ s. 34 ∷ s) (sym (append_assoc (escape t) (34 ∷ []) rest))

abbrev places_text : Pointer → Pointer → Text
places_text instance_location path =
    codes ",\"instanceLocation\":" ++ (quoted (pointer_text instance_location) ++ (codes ",\"keywordLocation\":" ++ (quoted (pointer_text path) ++ codes "}")))

-- the texts of the locations, from the key of the instance's on
places : (l : Location) {origin : Identity} {onward instance_location path : Pointer} → AreTextsOf l origin onward instance_location path
    → codes ",\"instanceLocation\":\"" ++ (l.instance_location.now ++ (path_key ++ (l.path.now ++ unit_end))) ≡ places_text instance_location path
places l {origin} {onward} {instance_location} {path} are =
    let here = pointer_text instance_location in
    ap (λ t. codes ",\"instanceLocation\":" ++ t) (closed l.instance_location.now here (codes ",\"keywordLocation\":\"" ++ (l.path.now ++ unit_end)) are.instance_location)
    ∙ ap (λ t. codes ",\"instanceLocation\":" ++ (quoted here ++ (codes ",\"keywordLocation\":" ++ t))) (closed l.path.now (pointer_text path) (codes "}") are.path)

-- the three texts around what it says
around : (f : Form) (t rest : Text) → quotation f ++ (t ++ (message_ending f ++ rest)) ≡ formed_text f t ++ (codes ",\"instanceLocation\":\"" ++ rest)
around NotMet t rest = ap (λ u. 34 ∷ u) (sym (append_assoc t (codes " is not met\"") (codes ",\"instanceLocation\":\"" ++ rest)))
around Unescaped t rest = ap (λ u. 34 ∷ u) (sym (append_assoc t (34 ∷ []) (codes ",\"instanceLocation\":\"" ++ rest)))
around Written t rest = refl

-- of its parts
pub unit_parts : (annotates : Bool) (l : Location) (v : Value) (s : Message) → message_text s ≡ text v → parts_text (record { annotates = annotates; location = l; message = s }) ≡ text_of_unit annotates l v
unit_parts annotates l v s message =
    let rest = l.instance_location.now ++ (path_key ++ (l.path.now ++ unit_end)) in
    let kind = kind_key annotates in
    ap (λ t. l.head.now ++ (l.onward.now ++ t))
    (append_assoc (34 ∷ kind) (quotation s.form) (s.text.now ++ (message_ending s.form ++ rest))
    ∙ ap (λ t. 34 ∷ (kind ++ t)) (around s.form s.text.now rest ∙ ap (λ t. t ++ (codes ",\"instanceLocation\":\"" ++ rest)) message))

-- where the texts are those of a location, it is the unit's text there
pub unit_located : (annotates : Bool) (l : Location) (v : Value) (origin : Identity) (onward instance_location path : Pointer) → AreTextsOf l origin onward instance_location path
    → text_of_unit annotates l v ≡ unit_text annotates (record { path = path; resource = origin.0; pointer = origin.1 ++ onward; instance_location = instance_location; says = v })
unfolding unit_text
unit_located annotates l v origin onward instance_location path are =
    let kind = kind_key annotates in
    ap (λ t. l.head.now ++ (l.onward.now ++ (34 ∷ (kind ++ (text v ++ t))))) (places l are)
    ∙ opened origin.0 origin.1 onward l.head.now l.onward.now (kind ++ (text v ++ places_text instance_location path)) are.head are.onward

pub message_not_met : (name : Text) → list_all is_unescaped name ≡ true → formed_text NotMet name ≡ text (string (name ++ codes " is not met"))
message_not_met name unescaped = sym (unescaped_message name unescaped)
