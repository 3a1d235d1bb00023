use Rattle.std.proofs.Common.{◌∙◌}
use Rattle.json_doc.specs.Docs.{value, members_value}
use Rattle.bundler.proofs.Puts.{put_is}
use Rattle.bundler.proofs.embedding.with_entry.Goals as goal

pub returns-clause-ok : goal.returns-clause-ok
returns-clause-ok c = c.in_ok-insert.ensures.ok ∙ put_is c.args.name.now (value c.args.member) (members_value c.args.members)
