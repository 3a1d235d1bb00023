use Rattle.std.proofs.Common.{◌∙◌, sym, ap, ap₂, map, if◌then◌else◌, Some, None, length, pos, ◌==◌, List, Option, ℕ, true, codes, refl}
use Rattle.definitions.specs.Values.{Text, Value, string, array, boolean, integer, to_elements, is_object, elements}
use Rattle.definitions.specs.Keywords.{prefix_items}
use Rattle.definitions.specs.Evaluated.{last_index, once, part_indexes}
use Rattle.applicators.proofs.Annotated.{names-properties, names-patterns, names-others, names-unevaluated, indexes-prefix, if_some-by_count, all_of}
use Rattle.applicators.proofs.annotating.annotate.Goals as goal

abbrev names_on : Value → List Text → Option Value
names_on x ns = if is_object x then Some (array (to_elements (map string ns))) else None

pub returns-in-Properties : goal.returns-in-Properties
returns-in-Properties c a rules run names indexes v same applied ns is =
    let each = rw c.in-Properties.is at ns in
    rw c.in-Properties.is
    (c.annotate_names.ensures ∙ ap₂ names_on (sym same) (each ∙ names-properties rules run names indexes a (codes "properties") v))

pub returns-in-PatternProperties : goal.returns-in-PatternProperties
returns-in-PatternProperties c a rules run names indexes v same applied ns is =
    let each = rw c.in-PatternProperties.is at ns in
    rw c.in-PatternProperties.is
    (c.annotate_names-in-PatternProperties.ensures
    ∙ ap₂ names_on (sym same) (each ∙ ap once (names-patterns rules run names indexes a (codes "patternProperties") v)))

pub returns-in-AdditionalProperties : goal.returns-in-AdditionalProperties
returns-in-AdditionalProperties c a rules run names indexes v same applied ns is =
    let each = rw c.in-AdditionalProperties.is at ns in
    rw c.in-AdditionalProperties.is
    (c.annotate_names-in-AdditionalProperties.ensures ∙ ap₂ names_on (sym same) (each ∙ names-others rules run names indexes a (codes "additionalProperties") v))

pub returns-in-UnevaluatedProperties : goal.returns-in-UnevaluatedProperties
returns-in-UnevaluatedProperties c a rules run names indexes v same applied ns is =
    let each = rw c.in-UnevaluatedProperties.is at ns in
    rw c.in-UnevaluatedProperties.is
    (c.annotate_names-in-UnevaluatedProperties.ensures ∙ ap₂ names_on (sym same) (each ∙ names-unevaluated rules run names indexes a (codes "unevaluatedProperties") v))

abbrev prefix_on : Value → ℕ → List ℕ → Option Value
prefix_on x n is = if n == 0 then None else Some (if n == length (elements x) then boolean true else integer (pos (last_index is)))

pub returns-in-PrefixItems : goal.returns-in-PrefixItems
returns-in-PrefixItems c a rules run names indexes v same applied ns is =
    let number = rw c.in-PrefixItems.is at applied in
    let each = rw c.in-PrefixItems.is at is in
    let os = all_of rules run names indexes a (codes "prefixItems") v prefix_items in
    rw c.in-PrefixItems.is
    (c.annotate_prefix.ensures
    ∙ ap₂ (λ x is. prefix_on x c.args.applied is) (sym same) (each ∙ indexes-prefix rules run names indexes a (codes "prefixItems") v)
    ∙ ap (λ n. prefix_on a.instance n (part_indexes os)) number
    ∙ if_some-by_count os (if length os == length (elements a.instance) then boolean true else integer (pos (last_index (part_indexes os)))) (length os) refl)
