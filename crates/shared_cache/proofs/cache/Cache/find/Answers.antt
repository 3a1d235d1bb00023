use Rattle.std.proofs.Common.{◌∷◌, List, sym, ap}
use Rattle.std.specs.Map.{remove_entry}
use Rattle.lru.specs.LruCache.{IsValid, lru_cache}
use Rattle.definitions.specs.Caches.{CacheKey}
use Rattle.shared_cache.proofs.KeyUses.{Shared, Stands, stands, test, equal, made_by, made_remove, promoted_keys, absent_from_lookup}
use Rattle.shared_cache.proofs.cache.Cache.find.Goals as goal

pub invariant_of-self : goal.invariant_of-self
invariant_of-self c =
    let k : Shared = c.args.key.now in
    let es = c.self.inside.entries.entries in
    let s : Stands k es c.in-Some.found.now = stands k es c.in-Some.found.now c.self.invariant (sym c.in-Some.ensures) in
    rw (c.promote.ensures.entries, s.found) (s.compiled, made_remove k es c.self.invariant)

pub returns-in_ok-found-in-Some-clause-found : goal.returns-in_ok-found-in-Some-clause-found
returns-in_ok-found-in-Some-clause-found c =
    let k : Shared = c.args.key.now in
    let es = c.self.inside.entries.entries in
    let s : Stands k es c.in-Some.found.now = stands k es c.in-Some.found.now c.self.invariant (sym c.in-Some.ensures) in
    rw c.in_ok-found-in-Some.ensures.cases (made_by k es c.in-Some.found.now s)

pub returns-in_ok-found-in-Some-clause-used : goal.returns-in_ok-found-in-Some-clause-used
returns-in_ok-found-in-Some-clause-used c =
    let k : Shared = c.args.key.now in
    let es = c.self.inside.entries.entries in
    let n = c.self.inside.entries.cap in
    let s : Stands k es c.in-Some.found.now = stands k es c.in-Some.found.now c.self.invariant (sym c.in-Some.ensures) in
    let valid : IsValid equal (lru_cache (s.entry ∷ remove_entry (test k) es) n) = rw (c.promote.ensures.entries, s.found) at c.len.ensures.valid in
    rw (← c.self.view_is, c.promote.ensures.entries, s.found)
    (ap (λ (ks : List CacheKey). record { keys = ks; capacity = n }) (promoted_keys k s.entry es n s.is_key valid))

pub returns-in-None-clause-absent : goal.returns-in-None-clause-absent
returns-in-None-clause-absent c = λ _. rw (← c.self.view_is) (absent_from_lookup c.args.key.now c.self.inside.entries.entries (sym c.in-None.ensures))
