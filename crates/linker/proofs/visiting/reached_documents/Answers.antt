use Rattle.std.proofs.Common.{◌≡◌, [], length, ap, sym, ◌∙◌, subst, arith}
use Rattle.definitions.specs.Reach.{holds_resource, refers_to}
use Rattle.schema_scan.specs.CompiledDocuments.{compiled_view}
use Rattle.linker.specs.CompoundDocuments.{compound_documents}
use Rattle.linker.specs.SharedDocuments.{shared_documents}
use Rattle.linker.specs.Visits.{Adds, AreCompound, IsPart}
use Rattle.linker.proofs.Compound.{embed_alike, none_compound}
use Rattle.linker.proofs.Positions.{shared_as_long}
use Rattle.linker.proofs.Shared.{shared_empty, shared_none, shared_pushed}
use Rattle.linker.proofs.Visits.{IsVisit, begun, finished, gone_on, no_more, none_part, part_after}
use Rattle.linker.proofs.visiting.reached_documents.Goals as goal

pub visit-requires : goal.visit-requires
visit-requires g c =
    let all = g.S.Source.documents c.args.source.now in
    let reached = sym (ap shared_documents c.new-reached.ensures.items ∙ shared_none) in
    record {
      part = subst (λ ds. IsPart ds all) reached (none_part all);
      known = subst (λ ds. AreCompound ds (compound_documents c.new-compound.result)) reached
          (subst (AreCompound []) (sym c.new-compound.ensures) none_compound);
    }

pub follow-requires : goal.follow-requires
follow-requires g c = record {
  part = subst (IsPart (shared_documents c.loop-document.reached.items)) (sym c.loop-document.invariant.same) c.loop-document.invariant.visit.part;
  known = c.loop-document.invariant.known;
}

pub loop-document-init : goal.loop-document-init
loop-document-init g c =
    let all = g.S.Source.documents c.args.source.now in
    let adds = subst (λ ds. Adds all (holds_resource c.args.resource.now) ds (shared_documents c.new-waiting.result.items) (shared_documents c.visit.new.reached.items) (shared_documents c.visit.new.waiting.items))
    (ap shared_documents c.new-reached.ensures.items ∙ shared_none) c.in_ok-visit.ensures.ok in
    record {
      same = c.in_ok-visit.ensures.same;
      visit = begun all c.args.resource.now (shared_documents c.visit.new.reached.items) (shared_documents c.visit.new.waiting.items) (none_part all)
          (subst (λ ds. Adds all (holds_resource c.args.resource.now) [] ds (shared_documents c.visit.new.reached.items) (shared_documents c.visit.new.waiting.items))
          (ap shared_documents c.new-waiting.ensures.items ∙ shared_none) adds);
      known = c.in_ok-visit.ensures.known;
    }

pub loop-document-smaller : goal.loop-document-smaller
loop-document-smaller g c =
    let all = g.S.Source.documents c.args.source.now in
    let d = compiled_view c.deref.result.now in
    let adds : Adds all (refers_to d) (shared_documents c.loop-document.reached.items) (shared_documents c.pop.new.self.items) (shared_documents c.follow.new.reached.items) (shared_documents c.follow.new.waiting.items) =
    subst (λ ds. Adds ds (refers_to d) (shared_documents c.loop-document.reached.items) (shared_documents c.pop.new.self.items) (shared_documents c.follow.new.reached.items) (shared_documents c.follow.new.waiting.items))
    c.loop-document.invariant.same c.in_ok-follow.ensures.ok in
    omega (
      arith,
      adds.one_for_one,
      no_more (shared_documents c.follow.new.reached.items) all (g.met.S.Source.sound c.args.source.now).ascend (part_after all (refers_to d) _ _ _ _ c.loop-document.invariant.visit.part adds),
      no_more (shared_documents c.loop-document.reached.items) all (g.met.S.Source.sound c.args.source.now).ascend c.loop-document.invariant.visit.part,
      shared_as_long c.loop-document.reached.items,
      shared_as_long c.pop.new.self.items,
      shared_as_long c.follow.new.reached.items,
      shared_as_long c.follow.new.waiting.items,
      c.in-Some.ensures.len,
    )

pub loop-document-preserved : goal.loop-document-preserved
loop-document-preserved g c =
    let all = g.S.Source.documents c.args.source.now in
    let d = compiled_view c.in-Some.document.value in
    let here = subst (λ ds. Adds ds (refers_to (compiled_view c.deref.result.now)) (shared_documents c.loop-document.reached.items) (shared_documents c.pop.new.self.items) (shared_documents c.follow.new.reached.items) (shared_documents c.follow.new.waiting.items))
    c.loop-document.invariant.same c.in_ok-follow.ensures.ok in
    let adds = subst (λ e. Adds all (refers_to (compiled_view e)) (shared_documents c.loop-document.reached.items) (shared_documents c.pop.new.self.items) (shared_documents c.follow.new.reached.items) (shared_documents c.follow.new.waiting.items))
    c.deref.ensures here in
    record {
      same = c.in_ok-follow.ensures.same ∙ c.loop-document.invariant.same;
      visit = gone_on all c.args.resource.now d _ _ _ _
          (subst (IsVisit all c.args.resource.now (shared_documents c.loop-document.reached.items))
          (ap shared_documents c.in-Some.ensures.items ∙ shared_pushed c.pop.new.self.items c.in-Some.document) c.loop-document.invariant.visit) adds;
      known = c.in_ok-follow.ensures.known;
    }

pub returns-clause-ok : goal.returns-clause-ok
returns-clause-ok g c =
    let all = g.S.Source.documents c.args.source.now in
    let none : length c.loop-document.waiting.items ≡ 0 = omega (arith, c.in_default.ensures.cases.0) in
    finished all c.args.resource.now (shared_documents c.loop-document.reached.items) (g.met.S.Source.sound c.args.source.now).ascend
    (subst (IsVisit all c.args.resource.now (shared_documents c.loop-document.reached.items)) (shared_empty c.loop-document.waiting.items none) c.loop-document.invariant.visit)

pub returns-clause-known : goal.returns-clause-known
returns-clause-known g c =
    let all = g.S.Source.documents c.args.source.now in
    embed_alike all (shared_documents c.loop-document.reached.items) (compound_documents c.loop-document.compound) (g.met.S.Source.sound c.args.source.now)
    c.loop-document.invariant.visit.part c.loop-document.invariant.known
