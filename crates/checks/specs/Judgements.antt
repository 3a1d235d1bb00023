-- What a schema says of an instance, or the first fault, where both are judged at once and without a registry.
use Rattle.std.specs.Prelude.{[], ◌∷◌, Bool, false, if◌then◌else◌, Option, Some, None, Result, Ok, Err, option_map, codes}
use Rattle.definitions.specs.Answers.{answer}
use Rattle.definitions.specs.Faults.{Fault, bad_input, bad_pattern, unresolved}
use Rattle.definitions.specs.Patterns.{has_match, regular_search}
use Rattle.definitions.specs.Reach.{least, missing_references}
use Rattle.definitions.specs.Searches.{is_regular, builds}
use Rattle.definitions.specs.Resolution.{base_form}
use Rattle.definitions.specs.Scanning.{scan_fault}
use Rattle.definitions.specs.Schemas.{Document, document_from}
use Rattle.definitions.specs.Texts.{parsed_value}
use Rattle.definitions.specs.Values.{Text, Value, string, get}
use Rattle.evaluator.specs.Reports.{report_or_fault}

-- whether the instance is valid, and the text of the output
abbrev pub Judgement : Type 0
Judgement = Result (Bool × Text) Fault

abbrev pub after : {A B : Type 0} → Result A Fault → (A → Result B Fault) → Result B Fault
after (Ok x) f = f x
after (Err e) f = Err e

abbrev pub unless_fault : {A : Type 0} → Option Fault → Result A Fault → Result A Fault
unless_fault None r = r
unless_fault (Some f) r = Err f

-- the schema, where its scan finds no fault and the grammar reads its patterns
unfoldable pub accepted_schema : Text → Value → Result Value Fault
accepted_schema base v = unless_fault (scan_fault base v) (if is_regular regular_search v then Ok v else Err bad_pattern)

-- what one document says, where all its references name schemas
unfoldable pub said_by : Document → Value → Judgement
said_by d x = unless_fault (option_map unresolved (least (missing_references (d ∷ [])))) (report_or_fault (answer has_match (d ∷ []) d.canonical x))

-- the URI's fault comes before the schema's, these before the instance's, and these before those of references and of the
-- evaluation. The schema stands under the base form of the URI
unfoldable pub judgement : Text → Result Value Fault → Result Value Fault → Judgement
judgement uri schema instance =
    after (base_form uri) (λ base. after schema (λ v. after (accepted_schema base v) (λ v. after instance (λ x. said_by (document_from base v) x))))

-- ---- a pattern that the grammar reads may be refused, where it is too big once it is built
abbrev pub is_for_pattern : Fault → Bool → Bool
is_for_pattern bad_pattern has_patterns = has_patterns
is_for_pattern _ has_patterns = false

-- nothing is wrong with the schema under this base, and it has patterns
unfoldable pub builds_under : Result Text Fault → Result Value Fault → Bool
builds_under base schema = builds regular_search base schema

abbrev pub builds_patterns : Text → Result Value Fault → Bool
builds_patterns uri schema = builds_under (base_form uri) schema

-- ---- one object that holds them
pub record Input : Type 0 where
  pub uri : Text
  pub schema : Value
  pub instance : Value

abbrev pub default_uri : Text
default_uri = codes "urn:schemareg:root"

abbrev pub uri_in : Option Value → Result Text Fault
uri_in None = Ok default_uri
uri_in (Some (string s)) = Ok s
uri_in (Some v) = Err bad_input

abbrev pub member_in : Option Value → Result Value Fault
member_in (Some v) = Ok v
member_in None = Err bad_input

abbrev pub input_in : Value → Result Input Fault
input_in v =
    after (uri_in (get (codes "uri") v)) (λ uri. after (member_in (get (codes "schema") v)) (λ schema. after (member_in (get (codes "instance") v))
    (λ instance. Ok (record { uri = uri; schema = schema; instance = instance }))))

abbrev pub input_of : Text → Result Input Fault
input_of bytes = after (parsed_value bytes) input_in

abbrev pub judgement_of : Result Input Fault → Judgement
judgement_of input = after input (λ i. judgement i.uri (Ok i.schema) (Ok i.instance))

abbrev pub builds_patterns_of : Result Input Fault → Bool
builds_patterns_of (Ok i) = builds_patterns i.uri (Ok i.schema)
builds_patterns_of (Err f) = false
