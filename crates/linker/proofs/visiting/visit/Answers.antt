use Rattle.std.proofs.Common.{ap, sym, ◌∙◌, subst}
use Rattle.std.specs.List.{list_any}
use Rattle.std.specs.Option.{option_map}
use Rattle.definitions.specs.Documents.{Ascend}
use Rattle.definitions.specs.Reach.{holds_resource}
use Rattle.schema_scan.specs.CompiledDocuments.{compiled_view}
use Rattle.linker.specs.CompoundDocuments.{compound_documents}
use Rattle.linker.specs.SharedDocuments.{shared_documents}
use Rattle.linker.proofs.Tables.{no_holder}
use Rattle.linker.specs.Visits.{AreCompound}
use Rattle.linker.proofs.Visits.{adds_none, adds_held, adds_kept}
use Rattle.linker.proofs.visiting.visit.Goals as goal

pub is_reached-requires : goal.is_reached-requires
is_reached-requires g c =
    let same = sym c.deref.ensures.value in
    record {
      ascend = subst (λ ds. Ascend (shared_documents ds)) same c.requires.part.ascend;
      known = subst (λ ds. AreCompound (shared_documents ds) (compound_documents c.args.compound.now)) same c.requires.known;
    }

pub keep-requires : goal.keep-requires
keep-requires g c = record { ascend = c.requires.part.ascend; known = c.requires.known }

pub returns-then-is_reached-clause-ok : goal.returns-then-is_reached-clause-ok
returns-then-is_reached-clause-ok g c =
    adds_held (g.S.Source.documents c.args.source.now) c.args.uri.now _ _ (g.met.S.Source.sound c.args.source.now) c.requires.part
    (ap (λ ds. list_any (holds_resource c.args.uri.now) (shared_documents ds)) (sym c.deref.ensures.value) ∙ sym c.is_reached.ensures ∙ c.if-is_reached.true)

pub returns-in_ok-keep-in-Some-clause-ok : goal.returns-in_ok-keep-in-Some-clause-ok
returns-in_ok-keep-in-Some-clause-ok g c =
    adds_kept (g.S.Source.documents c.args.source.now) c.args.uri.now (compiled_view c.in-Some.document.value) _ _ _ _
    (g.met.S.Source.sound c.args.source.now) c.requires.part
    (sym c.in_ok-document.ensures.held ∙ ap (option_map (λ d. compiled_view d.value)) c.in-Some.is)
    c.in_ok-keep-in-Some.ensures.kept

pub returns-in-None-clause-ok : goal.returns-in-None-clause-ok
returns-in-None-clause-ok g c =
    adds_none (g.S.Source.documents c.args.source.now) (holds_resource c.args.uri.now) _ _ c.requires.part.ascend
    (no_holder (g.S.Source.documents c.args.source.now) c.args.uri.now
    (sym c.in_ok-document.ensures.held ∙ ap (option_map (λ d. compiled_view d.value)) c.in-None.is))
