use Rattle.std.proofs.Common.{◌≡◌, ◌<◌, ◌++◌, ◌∷◌, [], filter, length, map, not, subst, ap, sym, ◌∙◌, arith}
use Rattle.text_numbers.specs.Places.{AreSame, Divides, is_side}
use Rattle.text_numbers.specs.Turns.{turned}
use Rattle.text_numbers.specs.Trees.{Tells, leaf_of, only_leaf}
use Rattle.text_numbers.specs.declared.tree.Tree.{Tree}
use Rattle.text_numbers.specs.declared.tree.Tree.TheOpen.{Tree-F}
use Rattle.text_numbers.specs.declared.tree.Tree.TheViews.{roll-Tree}
use Rattle.text_numbers.specs.declared.tree.Turn.{Turn}
use Rattle.text_numbers.proofs.TreeViews.{leaf_of-roll}
use Rattle.text_numbers.proofs.Sameness.{part_alike, part_falls}
use Rattle.text_numbers.proofs.Telling.{TurnsTell, leaf_tells, more_turns_tell, tells_alike}
use Rattle.text_numbers.proofs.building.+built.Goals as goal

pub built-requires : goal.built-requires
built-requires t c =
    let texts = map (λ t. t.now) c.args.texts.now in
    let left = c.loop-at.left.items in
    let at = c.in-Some.at in
    let divided = c.in_ok-is_below.field-0 in
    let divides = subst (λ ns. Divides texts ns at.position at.bound) c.deref.ensures.value c.in-Some.ensures.parts in
    let falls : length divided.aside.items < length left = part_falls texts left divided.aside.items at.position at.bound divided.is_below divides c.in_ok-is_below.ensures.aside in (
      omega arith,
      part_alike (is_side texts at.position at.bound divided.is_below) texts left divided.aside.items at.position at.bound divides c.in_ok-is_below.ensures.aside,
    )

pub loop-at-smaller : goal.loop-at-smaller
loop-at-smaller t c =
    let texts = map (λ t. t.now) c.args.texts.now in
    let left = c.loop-at.left.items in
    let at = c.in-Some.at in
    let divided = c.in_ok-is_below.field-0 in
    let divides = subst (λ ns. Divides texts ns at.position at.bound) c.deref.ensures.value c.in-Some.ensures.parts in
    part_falls texts left divided.ahead.items at.position at.bound (not divided.is_below) divides c.in_ok-is_below.ensures.ahead

pub loop-at-preserved : goal.loop-at-preserved
loop-at-preserved t c =
    let texts = map (λ t. t.now) c.args.texts.now in
    let left = c.loop-at.left.items in
    let at = c.in-Some.at in
    let divided = c.in_ok-is_below.field-0 in
    let divides = subst (λ ns. Divides texts ns at.position at.bound) c.deref.ensures.value c.in-Some.ensures.parts in
    let falls : length divided.ahead.items < length left = part_falls texts left divided.ahead.items at.position at.bound (not divided.is_below) divides c.in_ok-is_below.ensures.ahead in
    let turn : Turn = record { position = at.position; bound = at.bound; is_below = divided.is_below } in
    let aside = c.in_ok-built.field-0 in
    let tells : Tells (leaf_of aside) texts (filter (is_side texts at.position at.bound divided.is_below) left) =
    subst (λ ns. Tells (leaf_of aside) texts ns) c.in_ok-is_below.ensures.aside c.in_ok-built.ensures in
    let pushed = more_turns_tell c.loop-at.turns.items c.loop-at.asides.items turn aside texts left divided.ahead.items c.args.numbers.items c.loop-at.invariant.tell tells c.in_ok-is_below.ensures.ahead in
    record {
      alike = part_alike (is_side texts at.position at.bound (not divided.is_below)) texts left divided.ahead.items at.position at.bound divides c.in_ok-is_below.ensures.ahead;
      tell = subst (λ as_pushed. TurnsTell as_pushed c.push.new.self.items texts divided.ahead.items c.args.numbers.items) (sym c.in_ok-push-2.ensures.items)
          (subst (λ as_pushed. TurnsTell (c.loop-at.turns.items ++ turn ∷ []) as_pushed texts divided.ahead.items c.args.numbers.items) (sym c.in_ok-push.ensures.items) pushed);
      fewer = omega arith;
    }

pub returns : goal.returns
returns t c =
    let texts = map (λ t. t.now) c.args.texts.now in
    let left = c.loop-at.left.items in
    let turns = c.loop-at.turns.items in
    let leaves = map leaf_of c.loop-at.asides.items in
    let tree : Tree-F Tree = record { turns = c.loop-at.turns; asides = c.loop-at.asides; end = c.only_leaf.result } in
    let same : AreSame texts left = subst (λ ns. AreSame texts ns) c.deref.ensures.value c.in_default.ensures.same in
    let leaf : c.only_leaf.result ≡ only_leaf left = c.only_leaf.ensures ∙ ap only_leaf c.deref-2.ensures.value in
    tells_alike (leaf_of (roll-Tree tree)) (λ text. turned turns leaves text (only_leaf left)) texts c.args.numbers.items
    (λ text. leaf_of-roll tree text ∙ ap (turned turns leaves text) leaf)
    (c.loop-at.invariant.tell.tell (λ text. only_leaf left) (leaf_tells texts left same))
