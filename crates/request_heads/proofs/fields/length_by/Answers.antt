use Rattle.std.proofs.Common.{sym, ap, ◌∙◌, rules, cond}
use Rattle.std.specs.Prelude.{List, Some, None}
use Rattle.std.specs.Str.Parse.{digits_value}
use Rattle.definitions.specs.Values.{Text}
use Rattle.http_definitions.specs.Heads.{is_length, length_by}
use Rattle.request_heads.proofs.FieldValues.{one_length, two_lengths}
use Rattle.request_heads.proofs.fields.length_by.Goals as goal

pub returns-in-None : goal.returns-in-None
returns-in-None c =
    c.untold_length.ensures ∙ sym (ap (λ (vs : List Text). length_by vs c.args.must_tell) (c.in-None.ensures.none (search rules)))

pub returns-in-None-next_named : goal.returns-in-None-next_named
returns-in-None-next_named c =
    c.told_length.ensures
    ∙ ap (λ (t : Text). cond (is_length t) (Some (digits_value 10 t)) None) c.of.ensures
    ∙ sym (one_length _ _ _ c.args.must_tell c.in-Some.ensures.some.values (c.in-None-next_named.ensures.none (search rules)))

pub returns-in-Some-next_named : goal.returns-in-Some-next_named
returns-in-Some-next_named c =
    sym (two_lengths _ _ _ _ _ c.args.must_tell c.in-Some.ensures.some.values c.in-Some-next_named.ensures.some.values)
