-- The first quota that documents are over.
use Rattle.std.proofs.Common.{◌≡◌, ◌<◌, ◌≤◌, Bool, true, false, not, List, ◌++◌, Some, None, length, nat_lt, refl, sym}
use Rattle.std.proofs.lemmas.Bool.{not-false, not-true}
use borrow.Author.Tests.{lt-ltb, le-ltb}
use Rattle.definitions.specs.Documents.{bytes_of}
use Rattle.definitions.specs.Faults.{quota_documents, quota_bytes}
use Rattle.definitions.specs.Lists.{first, when}
use Rattle.definitions.specs.Registries.{Registry, quota_faults}
use Rattle.definitions.specs.Schemas.{Document}

by_quotas : (g : Registry) (ds : List Document) (many large : Bool) → nat_lt g.most_documents (length ds) ≡ many → nat_lt g.most_bytes (bytes_of ds) ≡ large
    → first (when many quota_documents ++ when large quota_bytes) ≡ first (quota_faults g ds)
by_quotas g ds many large e h = rw (sym e, sym h) refl

pub too_many : (g : Registry) (ds : List Document) → g.most_documents < length ds → Some quota_documents ≡ first (quota_faults g ds)
too_many g ds more = by_quotas g ds true (nat_lt g.most_bytes (bytes_of ds)) (lt-ltb g.most_documents (length ds) more) refl

pub within_quotas : (g : Registry) (ds : List Document) → length ds ≤ g.most_documents → true ≡ not (nat_lt g.most_bytes (bytes_of ds)) → None ≡ first (quota_faults g ds)
within_quotas g ds few small =
    by_quotas g ds false false (le-ltb g.most_documents (length ds) few) (not-true (nat_lt g.most_bytes (bytes_of ds)) (sym small))

pub too_large : (g : Registry) (ds : List Document) → length ds ≤ g.most_documents → false ≡ not (nat_lt g.most_bytes (bytes_of ds)) → Some quota_bytes ≡ first (quota_faults g ds)
too_large g ds few large =
    by_quotas g ds false true (le-ltb g.most_documents (length ds) few) (not-false (nat_lt g.most_bytes (bytes_of ds)) (sym large))
