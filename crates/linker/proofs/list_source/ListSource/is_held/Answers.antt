use Rattle.std.proofs.Common.{ap, sym, ◌∙◌, is_some, Bor}
use Rattle.std.specs.Global.{Global}
use Rattle.std.specs.declared.rc.Rc.{Rc}
use Rattle.definitions.specs.Reach.{holds_resource}
use Rattle.schema_scan.specs.CompiledDocuments.{compiled_view}
use Rattle.schema_scan.specs.declared.compiled.Compiled.{Compiled}
use Rattle.linker.specs.ListedDocuments.{listed_documents}
use Rattle.lemmas.proofs.Options.{is_some-map}
use Rattle.linker.proofs.Adding.{is_some-find}
use Rattle.linker.proofs.list_source.ListSource.is_held.Goals as goal

pub returns : goal.returns
returns c =
    c.is_some.ensures
    ∙ sym (is_some-map (λ (d : Bor (Rc Compiled Global)). compiled_view d.now.value) c.holder.result)
    ∙ ap is_some c.holder.ensures
    ∙ is_some-find (holds_resource c.args.uri.now) (listed_documents c.args.self.now)
