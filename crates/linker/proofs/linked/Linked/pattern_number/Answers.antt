use Rattle.std.proofs.Common.{◌≡◌, false, true, is_some, option_and_then, slice_get, sym, ap, ◌∙◌}
use Rattle.schema_scan.specs.CompiledDocuments.{compiled_base, compiled_patterns, compiled_value}
use Rattle.linker.specs.PatternNumbers.{pattern_text}
use Rattle.linker.proofs.Patterns.{document_pattern}
use Rattle.linker.proofs.linked.Linked.pattern_number.Goals as goal

pub returns-clause-text : goal.returns-clause-text
unfolding pattern_text
returns-clause-text c = λ s stands has.
    let d = c.in_ok-compiled.compiled.now in
    let at = sym c.in_ok-compiled.ensures in
    ap (option_and_then (λ x. slice_get (compiled_patterns x) c.pattern_number.result)) at
    ∙ c.pattern_number.ensures (document_pattern (compiled_base d) (compiled_value d) s c.args.text.now (stands d at) has)

pub returns-in_err-compiled-clause-there : goal.returns-in_err-compiled-clause-there
returns-in_err-compiled-clause-there c there = let never : false ≡ true = ap is_some c.in_err-compiled.ensures ∙ there in cc
