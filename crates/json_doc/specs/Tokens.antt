-- The tokens of a value's text, as `json` writes them.
use Rattle.std.specs.Prelude.{List}
use Rattle.json.specs.Token.{Token}
use Rattle.json.specs.Tree as tree
use Rattle.serde_json.specs.Written.{outline, items_outline, members_outline}
use Rattle.definitions.specs.Values.{Value, Elements, Members}
use Rattle.definitions.specs.Texts.{data_of, items_of, json_members_of}

abbrev pub value_tokens : Value → List Token
value_tokens v = tree.json_tokens (outline (data_of v))

-- with the closing bracket
abbrev pub elements_tokens : Elements → List Token
elements_tokens vs = tree.items_tokens (items_outline (items_of vs))

abbrev pub members_tokens : Members → List Token
members_tokens ms = tree.members_tokens (members_outline (json_members_of ms))
