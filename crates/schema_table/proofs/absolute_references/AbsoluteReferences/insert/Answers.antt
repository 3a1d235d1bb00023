use Rattle.std.proofs.Common.{◌≡◌, ◌&&◌, Some, cond, length, arith, sym, subst, ap, ◌∙◌}
use Rattle.definitions.specs.Resolution.{target_uri}
use Rattle.definitions.specs.Values.{Text, same_text}
use Rattle.schema_table.specs.PairNumbers.{pair_number}
use Rattle.uri_ref.specs.AbsoluteReferences.{IsReadAs}
use Rattle.uri_ref.specs.declared.absolute_references.AbsoluteReference.{AbsoluteReference}
use Rattle.schema_table.proofs.Readings.{AreSound, AreWithin, IsNumbered, still-sound, still-within}
use Rattle.schema_table.proofs.absolute_references.AbsoluteReferences.insert.Goals as goal

abbrev Says : Text → Text → AbsoluteReference → Type 0
Says uri text r = IsReadAs (target_uri uri text) (Some r)

pub invariant_of-self : goal.invariant_of-self
invariant_of-self c =
    let before = c.args.self.now in
    record {
      within = subst (λ ys. AreWithin before.numbers ys) (sym c.in_err-push.ensures.items) before.within;
      sound = subst (λ ys. AreSound Says before.numbers ys) (sym c.in_err-push.ensures.items) before.sound;
    }

pub invariant_of-self-in-Ok : goal.invariant_of-self-in-Ok
invariant_of-self-in-Ok c =
    let before = c.args.self.now in
    let after = c.add_pair.new.numbers in
    let uri = c.args.resource.now in
    let text = c.args.reference.now in
    let xs = before.read.items in
    let last : c.len-number.result ≡ length xs = omega arith in
    let numbered : IsNumbered before.numbers after uri text xs = λ u t.
    c.in-Ok.ensures u t ∙ ap (λ k. cond (same_text u uri && same_text t text) (Some k) (pair_number before.numbers u t)) last in
    record {
      within = subst (λ ys. AreWithin after ys) (sym c.in_ok-push.ensures.items) (still-within before.numbers after uri text xs c.args.read before.within numbered);
      sound = subst (λ ys. AreSound Says after ys) (sym c.in_ok-push.ensures.items)
          (still-sound Says before.numbers after uri text xs c.args.read before.within numbered before.sound c.requires);
    }
