-- The tokens of bodies, as `json` writes them.
use Rattle.std.specs.Prelude.{ℕ, List, [], ◌∷◌, Option, Some, None, Bool, codes, decimal, map}
use Rattle.json.specs.Token.{Token, key, string, number}
use Rattle.json.specs.Tree as tree
use Rattle.serde_json.specs.Written.{outline, items_outline}
use Rattle.definitions.specs.Values.{Text, Value, to_elements}
use Rattle.definitions.specs.Texts.{data_of, items_of}
use Rattle.definitions.specs.Texts.{text}
use Rattle.definitions.specs.Faults.{Fault}
use Rattle.http_definitions.specs.ReplyTexts.{stored_value, fault_value, http_text, refused_status}

abbrev pub value_tokens : Value → List Token
value_tokens v = tree.json_tokens (outline (data_of v))

-- the documents of a batch, with the closing bracket
abbrev pub elements_tokens : List (Text × Bool) → List Token
elements_tokens ds = tree.items_tokens (items_outline (items_of (to_elements (map (stored_value (codes "uri")) ds))))

abbrev pub at_tokens : Option Text → List Token
at_tokens (Some at) = key (codes "at") ∷ string at ∷ []
at_tokens None = []

abbrev pub entry_tokens : Option ℕ → List Token
entry_tokens (Some k) = key (codes "entry") ∷ number (decimal k) ∷ []
entry_tokens None = []

-- the whole refusal, of this entry of a batch
abbrev pub refusal_text : Bool → Option ℕ → Fault → Text
refusal_text closes entry f = http_text closes (refused_status f) (text (fault_value entry f))
