use Rattle.std.proofs.Common.{sym, ◌∙◌, subst}
use Rattle.json_doc.specs.Members.{AreBelow, AreNotBelow}
use Rattle.json_doc.specs.NameMaps.{IsAboveNone}
use Rattle.json_doc.proofs.Views.{members_value-out}
use Rattle.json_doc.proofs.Entries.{above_none_parts, are_below, are_not_below, cut_twice}
use Rattle.json_doc.proofs.members.Members.cut_between.Goals as goal

pub returns-clause-all : goal.returns-clause-all
returns-clause-all c =
    rw (c.of.ensures, c.of-2.ensures, c.of-3.ensures)
    (cut_twice c.split_at_name.result.0.now c.split_at_name.result.1.now c.split_at_name-2.result.0.now c.split_at_name-2.result.1.now c.args.self.now.entries
    (c.split_at_name.ensures.all ∙ c.as_slice.ensures.all) c.split_at_name-2.ensures.all ∙ sym (members_value-out c.args.self.now))

pub returns-clause-before : goal.returns-clause-before
returns-clause-before c = subst (AreBelow c.args.low.now) (sym c.of.ensures) (are_below c.args.low.now c.split_at_name.result.0.now c.split_at_name.ensures.below)

pub returns-clause-within : goal.returns-clause-within
returns-clause-within c =
    let parts = above_none_parts c.args.low.now c.split_at_name-2.result.0.now c.split_at_name-2.result.1.now (subst (IsAboveNone c.args.low.now) (sym c.split_at_name-2.ensures.all) c.split_at_name.ensures.others) in (
      subst (AreNotBelow c.args.low.now) (sym c.of-2.ensures) (are_not_below c.args.low.now c.split_at_name-2.result.0.now parts.0),
      subst (AreBelow c.args.high.now) (sym c.of-2.ensures) (are_below c.args.high.now c.split_at_name-2.result.0.now c.split_at_name-2.ensures.below),
    )

pub returns-clause-after : goal.returns-clause-after
returns-clause-after c =
    let parts = above_none_parts c.args.low.now c.split_at_name-2.result.0.now c.split_at_name-2.result.1.now (subst (IsAboveNone c.args.low.now) (sym c.split_at_name-2.ensures.all) c.split_at_name.ensures.others) in (
      subst (AreNotBelow c.args.low.now) (sym c.of-3.ensures) (are_not_below c.args.low.now c.split_at_name-2.result.1.now parts.1),
      subst (AreNotBelow c.args.high.now) (sym c.of-3.ensures) (are_not_below c.args.high.now c.split_at_name-2.result.1.now c.split_at_name-2.ensures.others),
    )
