use Rattle.std.proofs.Common.{◌≡◌, true, sym, subst}
use Rattle.json_doc.specs.Docs.{value}
use Rattle.shared_cache.specs.Readings.{is_read_as, read_value}
use Rattle.shared_cache.proofs.ReadValues.{is_read, spelled}
use Rattle.shared_cache.proofs.key.Key.of.Goals as goal

pub returns-clause-reads_back : goal.returns-clause-reads_back
returns-clause-reads_back c = λ flat.
    subst (λ t. is_read_as t (value c.args.document.now) ≡ true) (sym c.shrink_to_fit.ensures.bytes) (is_read _ _ (c.in_ok-text.ensures.reads_back flat))

pub returns-clause-spells : goal.returns-clause-spells
returns-clause-spells c = λ flat.
    subst (λ t. read_value t ≡ value c.args.document.now) (sym c.shrink_to_fit.ensures.bytes) (spelled _ _ (c.in_ok-text.ensures.reads_back flat))
