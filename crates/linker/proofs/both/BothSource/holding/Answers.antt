use Rattle.std.proofs.Common.{◌≡◌, Option, Result, IfOk, option_map, find, refl, sym, ap, ◌∙◌, subst}
use Rattle.definitions.specs.Reach.{holds_resource}
use Rattle.definitions.specs.Schemas.{Document}
use Rattle.schema_scan.specs.CompiledDocuments.{compiled_view}
use Rattle.linker.proofs.BothSources.{found_in_first, found_in_second}
use Rattle.linker.proofs.both.BothSource.holding.Goals as goal

carried : {X E : Type 0} (r : Result X E) (f : X → Option Document) (o p : Option Document) → o ≡ p → IfOk r (λ d. f d ≡ o) → IfOk r (λ d. f d ≡ p)
carried r f o p e h = subst (λ x. IfOk r (λ d. f d ≡ x)) e h

pub returns-in-Some-clause-held : goal.returns-in-Some-clause-held
returns-in-Some-clause-held g c =
    let both = c.args.self.now in
    sym (found_in_first (g.A.Source.documents both.first) (g.B.Source.documents both.second) c.args.resource.now (compiled_view c.in-Some.document.value)
    (g.met.A.Source.sound both.first) (g.met.B.Source.sound both.second) both.apart
    (sym c.in_ok-document.ensures.held ∙ ap (option_map (λ d. compiled_view d.value)) c.in-Some.is))

pub returns-in-None-clause-held : goal.returns-in-None-clause-held
returns-in-None-clause-held g c =
    let both = c.args.self.now in
    carried c.holding-in-None.result _ _ _
    (sym (found_in_second (g.A.Source.documents both.first) (g.B.Source.documents both.second) c.args.resource.now (find (holds_resource c.args.resource.now) (g.B.Source.documents both.second))
    (g.met.A.Source.sound both.first) (g.met.B.Source.sound both.second) both.apart
    (sym c.in_ok-document.ensures.held ∙ ap (option_map (λ d. compiled_view d.value)) c.in-None.is) refl))
    c.holding-in-None.ensures.held
