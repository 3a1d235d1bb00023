use Rattle.std.proofs.Common.{rules, tests, lit<}
use Rattle.std.proofs.lemmas.Iterator.Search.{any_from_yields_List}
use Rattle.std.proofs.lemmas.Iterator.Splits.{YieldsList-from_str_split}
use Rattle.definitions.specs.Uris.{is_dot_segment}
use Rattle.uri_ref.proofs.parts.has_dot_segment.Goals as goal

pub returns : goal.returns
returns c =
    any_from_yields_List is_dot_segment _ _ _ c.any.ensures.ran (YieldsList-from_str_split 47 c.args.path.now (lit< tt) c.split.ensures.text c.split.ensures.has_more c.split.ensures.pattern) (λ x b q k. search (rules, tests))
