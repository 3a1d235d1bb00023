use Rattle.std.proofs.Common.{None, is_some, true≢false, sym, ap, ◌∙◌}
use Rattle.schema_scan.specs.CompiledDocuments.{compiled_view}
use Rattle.linker.specs.LinkedDocuments.{linked_documents}
use Rattle.linker.proofs.FirstHolders.{root_of_first}
use Rattle.linker.proofs.Tables.{found_holds}
use Rattle.linker.proofs.linked.Linked.resource_uri.Goals as goal

pub returns-in-None-resource_uri : goal.returns-in-None-resource_uri
returns-in-None-resource_uri c = λ _.
    let holds = found_holds (linked_documents c.args.self.now) c.args.uri.now (compiled_view c.in-Some.document.now) (sym c.in-Some.ensures) in
    absurd (true≢false (sym holds.1 ∙ sym c.in-None-resource_uri.ensures.held))

pub returns-in-None : goal.returns-in-None
returns-in-None c = λ there. absurd (true≢false (sym there ∙ ap is_some (sym (root_of_first c.args.self.now c.args.uri.now None c.in-None.ensures))))
