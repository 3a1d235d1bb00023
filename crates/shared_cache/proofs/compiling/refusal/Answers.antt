use Rattle.definitions.specs.Uris.{recompose}
use Rattle.json_doc.specs.Docs.{value}
use Rattle.shared_cache.proofs.DeepDocuments.{deep_is_refused}
use Rattle.shared_cache.proofs.compiling.refusal.Goals as goal

pub unreachable-requires : goal.unreachable-requires
unreachable-requires c = deep_is_refused (recompose c.args.base.now) (value c.args.document.now) c.requires c.in-Ok.ensures.sound
