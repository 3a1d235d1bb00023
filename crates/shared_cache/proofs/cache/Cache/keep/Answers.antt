use Rattle.std.proofs.Common.{◌≡◌, ◌-◌, ◌⊎◌, List, refl, ap, inl, inr}
use Rattle.lru.specs.LruCache.{lru_cache, put_entries}
use Rattle.definitions.specs.Caches.{CacheKey}
use Rattle.shared_cache.proofs.KeyUses.{Shared, Kept, IsNew, is_new, equal, made_take, put_keys, put_or_not}
use Rattle.shared_cache.proofs.cache.Cache.keep.Goals as goal

pub invariant_of-self : goal.invariant_of-self
invariant_of-self c =
    let k : Shared = c.in-Ok-Ok.key in
    let compiled : Kept = c.in-Ok-Ok.compiled in
    let es = c.self.inside.entries.entries in
    let n = c.self.inside.entries.cap in
    let same_key = rw c.in-Ok-Ok.is-0 at c.clone-key_copy.ensures.cases in
    let same_made = rw c.in-Ok-Ok.is-1 at c.clone-compiled_copy.ensures.cases in
    let absent = rw (← c.self.view_is) at c.requires.new in
    let new : IsNew c.args.key.now es = is_new c.args.key.now es absent in
    let done : (c.put.new.self ≡ lru_cache (put_entries equal c.self.inside.entries k compiled) n) ⊎ (c.put.new.self ≡ c.self.inside.entries) = put_or_not c.put.result c.put.ensures.entries c.put.ensures.err in
    elim done [
      | inl e ↦ rw (e, same_key, new.absent) (rw same_made c.requires.compiled, made_take (n - 1) es c.self.invariant)
      | inr e ↦ rw e c.self.invariant
    ]

pub returns-in-Ok-Ok : goal.returns-in-Ok-Ok
returns-in-Ok-Ok c =
    let k : Shared = c.in-Ok-Ok.key in
    let compiled : Kept = c.in-Ok-Ok.compiled in
    let es = c.self.inside.entries.entries in
    let n = c.self.inside.entries.cap in
    let same_key = rw c.in-Ok-Ok.is-0 at c.clone-key_copy.ensures.cases in
    let absent = rw (← c.self.view_is) at c.requires.new in
    let new : IsNew c.args.key.now es = is_new c.args.key.now es absent in
    let done : (c.put.new.self ≡ lru_cache (put_entries equal c.self.inside.entries k compiled) n) ⊎ (c.put.new.self ≡ c.self.inside.entries) = put_or_not c.put.result c.put.ensures.entries c.put.ensures.err in
    let keys_after = put_keys c.args.key.now compiled es n c.len.ensures.valid.2 new in
    rw (← c.self.view_is) (elim done [
      | inl e ↦ rw (e, same_key, new.absent) (inl (ap (λ (ks : List CacheKey). record { keys = ks; capacity = n }) keys_after))
      | inr e ↦ rw e (inr (refl, absent))
    ])
