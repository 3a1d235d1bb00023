use Rattle.std.proofs.Common.{Some, None, option_map, ap, sym, ◌∙◌}
use Rattle.std.specs.Global.{Global}
use Rattle.std.specs.declared.rc.Rc.{Rc}
use Rattle.definitions.specs.Values.{same_text}
use Rattle.schema_scan.specs.CompiledDocuments.{compiled_view}
use Rattle.schema_scan.specs.declared.compiled.Compiled.{Compiled}
use Rattle.tenant_hub.proofs.NamedDocuments.{names_a_document}
use Rattle.tenant_hub.proofs.bundling.has_document.Goals as goal

pub returns-in-Some-clause-ok : goal.returns-in-Some-clause-ok
returns-in-Some-clause-ok g c =
    c.eq.ensures ∙ ap (same_text c.args.uri.now) (c.canonical.ensures ∙ ap (λ d. (compiled_view d).canonical) c.deref.ensures)
    ∙ names_a_document (g.S.Source.documents c.args.source.now) c.args.uri.now (g.met.S.Source.sound c.args.source.now) (Some (compiled_view c.in-Some.document.value))
    (sym (ap (option_map (λ (it : Rc Compiled Global). compiled_view it.value)) c.in-Some.is) ∙ c.in_ok-document.ensures.held)

pub returns-in-None-clause-ok : goal.returns-in-None-clause-ok
returns-in-None-clause-ok g c =
    names_a_document (g.S.Source.documents c.args.source.now) c.args.uri.now (g.met.S.Source.sound c.args.source.now) None
    (sym (ap (option_map (λ (it : Rc Compiled Global). compiled_view it.value)) c.in-None.is) ∙ c.in_ok-document.ensures.held)
