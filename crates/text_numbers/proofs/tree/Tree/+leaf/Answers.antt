use Rattle.std.proofs.Common.{◌≡◌, ◌∙◌, Some, None, length, map, option_map, ap, refl, sym}
use Rattle.std.specs.Prelude.{slice_get}
use Rattle.std.specs.List.{position_from}
use Rattle.std.specs.Option.{option_map_or}
use Rattle.std.proofs.lemmas.Option.{slice_get-map, slice_get_past, slice_get_read}
use Rattle.text_numbers.specs.Trees.{leaf_of}
use Rattle.text_numbers.specs.Turns.{goes_aside}
use Rattle.text_numbers.specs.declared.tree.Tree.TheViews.{out-Tree}
use Rattle.text_numbers.proofs.TreeViews.{leaf_of-at}
use Rattle.text_numbers.proofs.tree.Tree.+leaf.Goals as goal

pub returns-in-Some-get : goal.returns-in-Some-get
returns-in-Some-get t c =
    let tree = c.args.self.now in
    let text = c.args.text.now in
    let index = c.in-Some.index in
    let asides = c.deref-in-Some.result.now in
    let aside = c.in-Some-get.aside.now in
    let read : slice_get asides index ≡ Some aside = slice_get_read asides (length asides) index aside refl c.in-Some-get.ensures.lookup.3.0 c.in-Some-get.ensures.lookup.1 in
    let seen : slice_get (map leaf_of (out-Tree tree).asides.items) index ≡ Some (leaf_of aside) =
    ap (λ trees. slice_get (map leaf_of trees) index) (sym c.deref-in-Some.ensures.value) ∙ slice_get-map leaf_of asides index ∙ ap (option_map leaf_of) read in
    c.leaf.ensures
    ∙ ap (λ o. option_map_or (λ leads. leads text) o (out-Tree tree).end) (sym seen)
    ∙ leaf_of-at tree text (Some index)
    (c.in-Some.ensures ∙ ap (position_from (λ turn. goes_aside turn text) 0) c.deref.ensures.value)

pub returns-in-None-get : goal.returns-in-None-get
returns-in-None-get t c =
    let tree = c.args.self.now in
    let text = c.args.text.now in
    let index = c.in-Some.index in
    let asides = c.deref-in-Some.result.now in
    let seen : slice_get (map leaf_of (out-Tree tree).asides.items) index ≡ None =
    ap (λ trees. slice_get (map leaf_of trees) index) (sym c.deref-in-Some.ensures.value) ∙ slice_get-map leaf_of asides index
    ∙ ap (option_map leaf_of) (slice_get_past asides index c.in-None-get.ensures.lookup.3) in
    ap (λ o. option_map_or (λ leads. leads text) o (out-Tree tree).end) (sym seen)
    ∙ leaf_of-at tree text (Some index)
    (c.in-Some.ensures ∙ ap (position_from (λ turn. goes_aside turn text) 0) c.deref.ensures.value)

pub returns-in-None : goal.returns-in-None
returns-in-None t c =
    leaf_of-at c.args.self.now c.args.text.now None
    (c.in-None.ensures ∙ ap (position_from (λ turn. goes_aside turn c.args.text.now) 0) c.deref.ensures.value)
