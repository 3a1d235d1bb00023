use Rattle.std.proofs.Common.{rules, tests, ◌==◌}
use Rattle.std.specs.Str.{str_eq_ignore_ascii_case}
use Rattle.std.specs.Prelude.{codes}
use Rattle.std.proofs.lemmas.Iterator.Search.{any_from_yields_List}
use Rattle.std.proofs.lemmas.Iterator.Splits.{YieldsList-from_slice_split}
use Rattle.httparse.specs.Ascii.{comma}
use Rattle.httparse.specs.Grammar.{trim_ows}
use Rattle.request_heads.proofs.names.asks_to_close.Goals as goal

pub returns : goal.returns
returns c =
    any_from_yields_List (λ part. str_eq_ignore_ascii_case (codes "close") (trim_ows part)) _ _ _ c.any.ensures.ran
    (YieldsList-from_slice_split _ (λ b. b == comma) c.args.value.now c.split.ensures.rest c.split.ensures.done c.split.ensures.closure (λ x b q k. search (rules, tests)))
    (λ x b q k. search (rules, tests))
