use Rattle.std.proofs.Common.{Ok, sym, ap, ◌∙◌}
use Rattle.definitions.specs.Caches.{CacheKey}
use Rattle.definitions.specs.Values.{Value}
use Rattle.json_doc.specs.Docs.{value}
use Rattle.shared_cache.proofs.ReadValues.{read_as}
use Rattle.shared_cache.proofs.cache.Cache.compiled_and_kept.Goals as goal

pub keep-requires-clause-compiled : goal.keep-requires-clause-compiled
keep-requires-clause-compiled c = (
  c.in_ok-compiled.ensures.base ∙ c.split.ensures.recomposes ∙ c.base.ensures ∙ ap (λ (l : CacheKey). l.0) c.deref.ensures,
  read_as c.args.key.now.value.1 (value c.args.document.now) c.requires.reads ∙ ap (λ (v : Value). Ok v) (sym c.in_ok-compiled.ensures.value),
)
