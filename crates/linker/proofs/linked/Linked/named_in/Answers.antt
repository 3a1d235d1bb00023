use Rattle.std.proofs.Common.{◌≡◌, Bor, List, IfSome, Ok, Option, Some, None, true, option_map, sym, ap, ◌∙◌}
use Rattle.definitions.specs.Fragments.{Fragment, plain_name}
use Rattle.definitions.specs.Schemas.{Schema}
use Rattle.definitions.specs.Targets.{dynamic_by, is_dynamic_anchor, target_by}
use Rattle.definitions.specs.Values.{Text}
use Rattle.linker.specs.DynamicTargets.{has_anchor}
use Rattle.linker.specs.LinkedDocuments.{linked_schemas}
use Rattle.schema_scan.specs.Locateds.{located_view}
use Rattle.uri_ref.specs.FragmentViews.{fragment_view}
use Rattle.linker.specs.AbsoluteReferences.{target_of}
use Rattle.linker.proofs.NamedSchemas.{anchor_there, read}
use Rattle.linker.proofs.linked.Linked.named_in.Goals as goal

anchor_where : (table : List Schema) (uri : Text) (f : Fragment) (s : Schema) (o : Option (Bor Text)) → Some s ≡ target_by table uri f
    → IfSome o (λ a. (f ≡ plain_name a.now) × (is_dynamic_anchor a.now s ≡ true)) → IfSome o (λ a. has_anchor table a.now ≡ true)
anchor_where table uri f s None e own = tt
anchor_where table uri f s (Some a) e own = anchor_there table uri a.now s (ap (target_by table uri) (sym own.0) ∙ sym e) own.1

pub returns-in-None : goal.returns-in-None
returns-in-None c = λ text is.
    let table = linked_schemas c.args.self.now in
    let r = c.args.named.now in
    let nothing : None ≡ target_of table r =
    ap (option_map located_view) (sym c.in-None.is) ∙ c.in_ok-target.ensures ∙ ap (λ u. target_by table u (fragment_view r.fragment)) c.as_str.ensures.value in
    read table text r None is nothing (λ scope. ap (option_map (λ first. dynamic_by table scope first (Ok (fragment_view r.fragment)))) nothing) tt

pub returns-in-Some : goal.returns-in-Some
returns-in-Some c = λ text is.
    let table = linked_schemas c.args.self.now in
    let r = c.args.named.now in
    let target = c.in-Some.target in
    let anchor = c.dynamic_anchor-anchor in
    let found : Some (located_view target) ≡ target_of table r =
    ap (option_map located_view) (sym c.in-Some.is) ∙ c.in_ok-target.ensures ∙ ap (λ u. target_by table u (fragment_view r.fragment)) c.as_str.ensures.value in
    read table text r (Some (record { target = target; anchor = anchor.result })) is found
    (λ scope. ap Some (anchor.ensures.named table scope) ∙ ap (option_map (λ first. dynamic_by table scope first (Ok (fragment_view r.fragment)))) found)
    (anchor_where table _ _ (located_view target) anchor.result found anchor.ensures.own)
