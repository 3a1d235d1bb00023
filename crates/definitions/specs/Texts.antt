-- The value that a JSON text is, and the text of a value (RFC 8259), by the words of `serde_json`.
use Rattle.std.specs.Prelude.{Option, Some, None, Result, Ok, Err, option_map, option_and_then, if◌then◌else◌}
use Rattle.std.specs.Str.{is_utf8}
use Rattle.serde_json.specs.Find.{as_integer, of_integer}
use Rattle.serde_json.specs.Read.{read}
use Rattle.serde_json.specs.Written.{compact_text}
use Rattle.definitions.specs.Values.{Text, Value, Elements, Members, null, boolean, integer, string, array, object, no_elements, element, no_members, member}
use Rattle.definitions.specs.Faults.{Fault, bad_json, bad_number}
use Rattle.serde_json.specs.Data as json

-- ---- writing: the value as `serde_json` has it, and its text with no space
abbrev mutual
  pub data_of : Value → json.Data
  data_of null = json.null
  data_of (boolean b) = json.boolean b
  data_of (integer z) = json.number (of_integer z)
  data_of (string s) = json.string s
  data_of (array vs) = json.array (items_of vs)
  data_of (object ms) = json.object (json_members_of ms)

  pub items_of : Elements → json.Items
  items_of no_elements = json.no_items
  items_of (element v vs) = json.item (data_of v) (items_of vs)

  pub json_members_of : Members → json.Members
  json_members_of no_members = json.no_members
  json_members_of (member n v ms) = json.member n (data_of v) (json_members_of ms)

abbrev pub text : Value → Text
text v = compact_text (data_of v)

-- ---- reading: the value of what `serde_json` read, and none where a number in it isn't a whole number of 64 bits
abbrev mutual
  pub value_of : json.Data → Option Value
  value_of json.null = Some null
  value_of (json.boolean b) = Some (boolean b)
  value_of (json.number n) = option_map integer (as_integer n)
  value_of (json.string s) = Some (string s)
  value_of (json.array ds) = option_map array (elements_of ds)
  value_of (json.object ms) = option_map object (members_of ms)

  pub elements_of : json.Items → Option Elements
  elements_of json.no_items = Some no_elements
  elements_of (json.item d ds) = option_and_then (λ v. option_map (element v) (elements_of ds)) (value_of d)

  pub members_of : json.Members → Option Members
  members_of json.no_members = Some no_members
  members_of (json.member n d ms) = option_and_then (λ v. option_map (member n v) (members_of ms)) (value_of d)

abbrev pub value_or_bad_number : Option Value → Result Value Fault
value_or_bad_number (Some v) = Ok v
value_or_bad_number None = Err bad_number

abbrev pub value_or_bad_json : Option json.Data → Result Value Fault
value_or_bad_json (Some d) = value_or_bad_number (value_of d)
value_or_bad_json None = Err bad_json

-- the value that the bytes spell. `serde_json`'s own reading, `read`, is none above a nesting of 127, lets the last of
-- repeated names win and gives members in byte order of names
abbrev pub parsed_value : Text → Result Value Fault
parsed_value bytes = if is_utf8 bytes then value_or_bad_json (read bytes) else Err bad_json
