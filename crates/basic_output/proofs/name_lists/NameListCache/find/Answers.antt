use Rattle.std.proofs.Common.{◌≡◌, ℕ, Bool, true, false, Some, IfSome, map, refl, sym, ap, ◌∙◌, subst}
use Rattle.std.proofs.lemmas.Option.{slice_get_read}
use Rattle.std.specs.Bool.{OnTrue, then_some}
use Rattle.std.specs.List.{slice_get}
use Rattle.json_doc.specs.NamedMembers.{name_text}
use Rattle.basic_output.specs.NameLists.{IsKept}
use Rattle.basic_output.specs.Pieces.{names_text}
use Rattle.basic_output.proofs.name_lists.NameListCache.find.Goals as goal

holds : {T Q : Type 0} (P : T → Type 0) (b : Bool) (x : T) → OnTrue b Q → (Q → P x) → IfSome (then_some b x) P
holds P true x q f = f q
holds P false x q f = tt

pub returns : goal.returns
returns c =
    let found = c.in_ok-get.ensures.lookup in
    let kept = c.in_ok-get.field-0.now in
    let there : slice_get c.args.self.now.texts.items c.place_of-place.result ≡ Some kept =
    ap (λ ts. slice_get ts c.place_of-place.result) (sym c.deref.ensures.value) ∙ slice_get_read c.deref.result.now _ c.place_of-place.result kept refl found.3.0 found.1 in
    let is = λ (i : ℕ). IsKept c.args.self.now i (names_text (map name_text c.args.names.now)) in
    subst (λ r. IfSome r is) (sym c.then_some.ensures) (holds is c.is_of.result c.place_of-place.result c.is_of.ensures (λ e. (kept, there, e)))
