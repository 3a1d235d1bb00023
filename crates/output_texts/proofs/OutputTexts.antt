-- The output of an outcome, by what it reports, and the length of its text.
use Rattle.std.proofs.Common.{◌≡◌, ◌+◌, ◌++◌, ℕ, List, [], ◌∷◌, Bool, true, false, codes, length, map, min, refl, sym, ap, ◌∙◌, arith}
use Rattle.std.proofs.lemmas.List.{length-append}
use Rattle.std.specs.Prelude.{if◌then◌else◌}
use Rattle.definitions.specs.Applied.{Outcome, OutputUnit}
use Rattle.definitions.specs.Answers.{output_text, output_value, units_value}
use Rattle.definitions.specs.Texts.{text}
use Rattle.definitions.specs.Values.{Text, Value, boolean, object, to_members}
use Rattle.basic_output.specs.Pieces.{joined_texts, unit_text}
use Rattle.output_texts.specs.Outputs.{ending, opening, reported_units, text_around, units_output}
use Rattle.output_texts.proofs.PieceLaws.{output_pieces}

output_of : (valid : Bool) (annotations errors us : List OutputUnit) → (if valid then annotations else errors) ≡ us
    → units_output valid us
    ≡ object (to_members (
    (if◌then◌else◌ {A = Text × Value} valid (codes "annotations", units_value (codes "annotation") annotations) (codes "errors", units_value (codes "error") errors))
    ∷ (codes "valid", boolean valid) ∷ []))
output_of true annotations errors us e = ap (units_output true) (sym e)
output_of false annotations errors us e = ap (units_output false) (sym e)

-- the output with what an outcome reports is that of the outcome
outcome_output : (o : Outcome) (valid : Bool) (us : List OutputUnit) → o.valid ≡ valid → reported_units o ≡ us → units_output valid us ≡ output_value o
outcome_output o valid us judged same = ap (λ b. units_output b us) (sym judged) ∙ output_of o.valid o.annotations o.errors us same

pub output_is : (o : Outcome) (valid : Bool) (ts : List Text) → o.valid ≡ valid → ts ≡ map (unit_text valid) (reported_units o) → text_around valid ts ≡ output_text o
output_is o valid ts judged same =
    ap (text_around valid) same ∙ sym (output_pieces valid (reported_units o)) ∙ ap text (outcome_output o valid (reported_units o) judged refl)

-- how long it is
pub whole_longer : (most joined front one back two : ℕ) (valid : Bool) (ts : List Text) → joined ≡ min (length (joined_texts ts)) most
    → front ≡ length (opening valid) → one ≡ min (joined + front) most → back ≡ length (ending valid) → two ≡ min (one + back) most
    → two ≡ min (length (text_around valid ts)) most
whole_longer most joined front one back two valid ts counted before begun behind all =
    let whole : length (text_around valid ts) ≡ length (opening valid) + (length (joined_texts ts) + length (ending valid)) =
    length-append (opening valid) (joined_texts ts ++ ending valid)
    ∙ ap (λ n. length (opening valid) + n) (length-append (joined_texts ts) (ending valid)) in
    omega (arith, whole, counted, before, begun, behind, all)
