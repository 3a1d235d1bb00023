-- A unit's text, put together of its parts.
use Rattle.std.specs.Prelude.{◌≡◌, ◌+◌, ◌∷◌, ◌++◌, [], ℕ, Bool, codes, length}
use Rattle.json.specs.Print.{escape}
use Rattle.definitions.specs.Pointers.{Pointer, fragment_text, pointer_text}
use Rattle.definitions.specs.Schemas.{Identity}
use Rattle.definitions.specs.Texts.{text}
use Rattle.definitions.specs.Values.{Text, Value}
use Rattle.basic_output.specs.Pieces.{IsHead, kind_key}
use Rattle.basic_output.specs.declared.location.Location.{Location}
use Rattle.basic_output.specs.declared.unit_text.message_buffer.Form.{Form}
use Rattle.basic_output.specs.declared.unit_text.message_buffer.Form.TheVariants.{NotMet, Unescaped, Written}
use Rattle.basic_output.specs.declared.unit_text.UnitParts.{UnitParts}
use Rattle.basic_output.specs.declared.unit_text.message_buffer.Message.{Message}

-- what stands between the instance location and the path, and behind the path
abbrev pub path_key : Text
path_key = codes "\",\"keywordLocation\":\""

abbrev pub unit_end : Text
unit_end = codes "\"}"

-- what stands before the text of what the unit says, and behind it, up to the instance location
abbrev pub quotation : Form → Text
quotation NotMet = 34 ∷ []
quotation Unescaped = 34 ∷ []
quotation Written = []

abbrev pub message_opening : Bool → Form → Text
message_opening annotates form = (34 ∷ kind_key annotates) ++ quotation form

abbrev pub message_ending : Form → Text
message_ending NotMet = codes " is not met\",\"instanceLocation\":\""
message_ending Unescaped = codes "\",\"instanceLocation\":\""
message_ending Written = codes ",\"instanceLocation\":\""

-- what it says
abbrev pub formed_text : Form → Text → Text
formed_text NotMet name = 34 ∷ (name ++ codes " is not met\"")
formed_text Unescaped string = 34 ∷ (string ++ 34 ∷ [])
formed_text Written value = value

abbrev pub message_text : Message → Text
message_text s = formed_text s.form s.text.now

-- the unit
abbrev pub parts_text : UnitParts → Text
parts_text u =
    u.location.head.now ++ (u.location.onward.now ++ (message_opening u.annotates u.message.form ++ (u.message.text.now ++ (message_ending u.message.form
    ++ (u.location.instance_location.now ++ (path_key ++ (u.location.path.now ++ unit_end)))))))

-- how long the texts are that differ from unit to unit
abbrev pub texts_length : UnitParts → ℕ
texts_length u =
    length u.location.head.now + (length u.location.onward.now + (length u.message.text.now + (length u.location.instance_location.now + length u.location.path.now)))

-- the text of a unit at a location that says a value
abbrev pub text_of_unit : Bool → Location → Value → Text
text_of_unit annotates l v =
    l.head.now ++ (l.onward.now ++ (34 ∷ (kind_key annotates ++ (text v ++ (codes ",\"instanceLocation\":\"" ++ (l.instance_location.now ++ (path_key ++ (l.path.now ++ unit_end))))))))

-- its texts are those of these locations, as they stand in the output: that of a keyword to which a pointer leads on from the origin, that
-- of the instance, and that along the evaluation path
pub record AreTextsOf (l : Location) (origin : Identity) (further here way : Pointer) : Type 0 where
  pub head : IsHead origin l.head.now
  pub onward : l.onward.now ≡ escape (fragment_text further)
  pub instance_location : l.instance_location.now ≡ escape (pointer_text here)
  pub path : l.path.now ≡ escape (pointer_text way)
