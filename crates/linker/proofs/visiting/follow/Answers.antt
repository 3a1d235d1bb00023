use Rattle.std.proofs.Common.{◌≡◌, ℕ, ◌+◌, ◌<◌, length, get_or, ◌||◌, ◌∷◌, [], List, String, Bool, true, false, map, take, string_bytes, ap, refl, sym, ◌∙◌, subst}
use Rattle.std.proofs.lemmas.List.Folds.{list_any-append}
use Rattle.std.proofs.lemmas.List.{take_all}
use Rattle.std.specs.Global.{Global}
use Rattle.std.specs.List.{list_any}
use Rattle.definitions.specs.Values.{Text}
use Rattle.definitions.specs.Uris.{without_fragment}
use Rattle.definitions.specs.Schemas.{Document}
use Rattle.definitions.specs.Reach.{holds_resource, references_in}
use Rattle.lemmas.proofs.Lists.{map-take_more}
use Rattle.schema_scan.specs.CompiledDocuments.{compiled_view}
use Rattle.linker.specs.SharedDocuments.{shared_documents}
use Rattle.linker.specs.Visits.{Adds, IsPart}
use Rattle.linker.proofs.Visits.{adds_none, adds_then, part_after}
use Rattle.linker.proofs.visiting.follow.Goals as goal

-- whether one of these references names a resource of the document
abbrev named_by : List Text → Document → Bool
named_by rs e = list_any (λ r. holds_resource (without_fragment r) e) rs

or_false : (a b : Bool) → (a || (b || false)) ≡ (a || b)
or_false true b = refl
or_false false true = refl
or_false false false = refl

named_more : (items : List (String Global)) (i : ℕ) (s : String Global) (uri : Text) → i < length items → s ≡ get_or items i s → uri ≡ without_fragment (string_bytes s)
    → (e : Document) → named_by (map string_bytes (take (i + 1) items)) e ≡ (named_by (map string_bytes (take i items)) e || holds_resource uri e)
named_more items i s uri l is named e =
    ap (λ rs. named_by rs e) (map-take_more string_bytes items i s l is)
    ∙ list_any-append (λ r. holds_resource (without_fragment r) e) (map string_bytes (take i items)) (string_bytes s ∷ [])
    ∙ or_false (named_by (map string_bytes (take i items)) e) (holds_resource (without_fragment (string_bytes s)) e)
    ∙ ap (λ u. named_by (map string_bytes (take i items)) e || holds_resource u e) (sym named)

pub loop-reference-init : goal.loop-reference-init
loop-reference-init g c = record { same = refl; adds = adds_none (g.S.Source.documents c.args.source.now) _ _ _ c.requires.part.ascend (λ d i. refl); known = c.requires.known }

pub visit-requires : goal.visit-requires
visit-requires g c = record {
  part = subst (IsPart (shared_documents c.loop-reference.reached.items)) (sym c.loop-reference.invariant.same)
      (part_after (g.S.Source.documents c.args.source.now) _ _ _ _ _ c.requires.part c.loop-reference.invariant.adds);
  known = c.loop-reference.invariant.known;
}

pub loop-reference-preserved : goal.loop-reference-preserved
loop-reference-preserved g c =
    let all = g.S.Source.documents c.args.source.now in
    let step : Adds all (holds_resource c.without_fragment.result.now) (shared_documents c.loop-reference.reached.items) (shared_documents c.loop-reference.waiting.items)
    (shared_documents c.visit.new.reached.items) (shared_documents c.visit.new.waiting.items) =
    subst (λ ds. Adds ds (holds_resource c.without_fragment.result.now) (shared_documents c.loop-reference.reached.items) (shared_documents c.loop-reference.waiting.items)
    (shared_documents c.visit.new.reached.items) (shared_documents c.visit.new.waiting.items)) c.loop-reference.invariant.same c.in_ok-visit.ensures.ok in
    record {
      same = c.in_ok-visit.ensures.same ∙ c.loop-reference.invariant.same;
      adds = adds_then all _ _ _ _ _ _ _ _ _ c.loop-reference.invariant.adds step
          (named_more c.references-reference-items.result.now c.loop-reference.reference-index c.reference-item.result c.without_fragment.result.now c.loop-reference-test.true c.reference-item.is
          (c.without_fragment.ensures ∙ ap without_fragment c.deref.ensures));
      known = c.in_ok-visit.ensures.known;
    }

pub returns-clause-ok : goal.returns-clause-ok
returns-clause-ok g c =
    let items : List (String Global) = c.references-reference-items.result.now in
    let whole : map string_bytes (take c.loop-reference.reference-index items) ≡ references_in (compiled_view c.args.document.now) =
    ap (map string_bytes) (take_all c.loop-reference.reference-index items c.loop-reference-test.false) ∙ c.references-reference-items.ensures in
    subst (λ rs. Adds (g.S.Source.documents c.args.source.now) (named_by rs) (shared_documents c.args.reached.now.items) (shared_documents c.args.waiting.now.items)
    (shared_documents c.loop-reference.reached.items) (shared_documents c.loop-reference.waiting.items)) whole c.loop-reference.invariant.adds
