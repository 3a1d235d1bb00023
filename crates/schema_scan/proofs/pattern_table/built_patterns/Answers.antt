use Rattle.std.proofs.Common.{◌≡◌, ◌+◌, ◌++◌, [], ◌∷◌, List, String, Global, map, take, string_bytes, refl, sym, ap, ap₂, ◌∙◌}
use Rattle.std.proofs.lemmas.List.{take_all}
use Rattle.std.specs.List.{list_all}
use Rattle.definitions.specs.Patterns.{is_read}
use Rattle.lemmas.proofs.Lists.{map-take_more}
use Rattle.schema_scan.proofs.HeldPatterns.{read_pushed}
use Rattle.schema_scan.proofs.pattern_table.built_patterns.Goals as goal

pub loop-text-init : goal.loop-text-init
loop-text-init c = record { built = c.in_ok-patterns.ensures.items; read = refl }

pub loop-text-preserved : goal.loop-text-preserved
loop-text-preserved c =
    let us = c.args.texts.now in
    let i = c.loop-text.text-index in
    let u = c.text-item.result in
    let text : c.in_ok-build_within.field-0 ≡ string_bytes u = c.in_ok-build_within.ensures.ok ∙ c.as_str.ensures.value in
    let more : map string_bytes (take (i + 1) us) ≡ map string_bytes (take i us) ++ string_bytes u ∷ [] = map-take_more string_bytes us i u c.loop-text-test.true c.text-item.is in
    record {
      built = c.in_ok-push.ensures.items ∙ ap₂ (λ ts t. ts ++ t ∷ []) c.loop-text.invariant.built text ∙ sym more;
      read = read_pushed (map string_bytes (take i us)) (map string_bytes (take (i + 1) us)) (string_bytes u) more c.loop-text.invariant.read (ap is_read (sym text) ∙ c.in_ok-build_within.ensures.read);
    }

pub returns-clause-built : goal.returns-clause-built
returns-clause-built c =
    c.loop-text.invariant.built ∙ ap (λ (us : List (String Global)). map string_bytes us) (take_all c.loop-text.text-index c.args.texts.now c.loop-text-test.false)

pub returns-clause-read : goal.returns-clause-read
returns-clause-read c =
    ap (λ (us : List (String Global)). list_all is_read (map string_bytes us)) (sym (take_all c.loop-text.text-index c.args.texts.now c.loop-text-test.false)) ∙ c.loop-text.invariant.read
