-- What a look-up, a promotion and an insertion do to the keys.
use Rattle.std.proofs.Common.{◌≡◌, ◌≤◌, ◌<◌, ◌-◌, ℕ, zero, suc, Bool, true, false, not, cond, List, [], ◌∷◌, map, take, length, Some, None, Result, Ok, Err, ◌⊎◌, inl, inr, Global, bytes_eq, refl, sym, ap, ap₂, subst, ◌∙◌, arith}
use Rattle.std.proofs.lemmas.Bool.{and_parts}
use Rattle.std.proofs.lemmas.List.{take_all}
use Rattle.std.proofs.lemmas.Option.{same_Some, none-some}
use Rattle.std.proofs.lemmas.Slice.Eq.{bytes_eq-Decides}
use Rattle.std.specs.List.{AllByRecursion, IsDistinct, filter, list_any}
use Rattle.std.specs.Result.{OnOk, OnErr}
use Rattle.std.specs.Map.{keys_of, lookup, lookup_entry, remove_entry}
use Rattle.std.specs.declared.rc.Rc.{Rc}
use Rattle.lru.specs.LruCache.{IsValid, lru_cache}
use Rattle.definitions.specs.Caches.{CacheKey, same_key}
use Rattle.schema_scan.specs.declared.compiled.Compiled.{Compiled}
use Rattle.shared_cache.specs.Entries.{Entry, IsMadeBy, AreMade}

abbrev pub Shared : Type 0
Shared = Rc CacheKey Global

abbrev pub Kept : Type 0
Kept = Rc Compiled Global

abbrev pub equal : Shared → Shared → Bool
equal j l = same_key j.value l.value

abbrev pub keys : List Entry → List CacheKey
keys es = map (λ e. e.0.value) es

-- keys that pass the test are one key
one_key : (k l : CacheKey) → same_key k l ≡ true → l ≡ k
one_key k l h =
    let p = and_parts (bytes_eq k.0 l.0) (bytes_eq k.1 l.1) h in
    sym (ap₂ (λ a b. (a, b)) ((bytes_eq-Decides k.0 l.0).0 p.0) ((bytes_eq-Decides k.1 l.1).0 p.1))

keys_take : (n : ℕ) (es : List Entry) → keys (take n es) ≡ take n (keys es)
keys_take zero es = refl
keys_take (suc n) [] = refl
keys_take (suc n) (e ∷ es) = ap (λ r. e.0.value ∷ r) (keys_take n es)

pub made_take : (n : ℕ) (es : List Entry) → AreMade es → AreMade (take n es)
made_take zero es h = tt
made_take (suc n) [] h = tt
made_take (suc n) (e ∷ es) h = (h.0, made_take n es h.1)

length_keys : (es : List Entry) → length (keys es) ≡ length es
length_keys [] = refl
length_keys (e ∷ es) = ap suc (length_keys es)

module _ (k : Shared) where
  abbrev pub test : Shared → Bool
  test l = same_key k.value l.value

  abbrev pub other : CacheKey → Bool
  other l = not (same_key k.value l)

  -- ---- an entry that is found
  pub record Stands (es : List Entry) (c : Kept) : Type 0 where
    pub entry : Entry
    pub found : lookup_entry test es ≡ Some entry
    pub is_value : entry.1 ≡ c
    pub is_key : entry.0.value ≡ k.value
    pub compiled : IsMadeBy entry.0.value entry.1.value

  stands_at : (b : Bool) (e : Entry) (es : List Entry) (c : Kept) → test e.0 ≡ b → IsMadeBy e.0.value e.1.value
      → (lookup test es ≡ Some c → Stands es c) → cond b (Some e.1) (lookup test es) ≡ Some c → Stands (e ∷ es) c
  stands_at true e es c is m later eq = record { entry = e; found = rw is refl; is_value = same_Some _ _ eq; is_key = one_key _ _ is; compiled = m }
  stands_at false e es c is m later eq =
      let s = later eq in
      record { entry = s.entry; found = rw is s.found; is_value = s.is_value; is_key = s.is_key; compiled = s.compiled }

  pub stands : (es : List Entry) (c : Kept) → AreMade es → lookup test es ≡ Some c → Stands es c
  stands [] c h eq = absurd (none-some _ eq)
  stands (e ∷ es) c h eq = stands_at (test e.0) e es c refl h.0 (stands es c h.1) eq

  pub made_by : (es : List Entry) (c : Kept) → Stands es c → IsMadeBy k.value c.value
  made_by es c s = subst (λ (j : CacheKey). IsMadeBy j c.value) s.is_key (subst (λ (r : Kept). IsMadeBy s.entry.0.value r.value) s.is_value s.compiled)

  made_at : (b : Bool) (e : Entry) (es rest : List Entry) → IsMadeBy e.0.value e.1.value → AreMade es → AreMade rest → AreMade (cond b es (e ∷ rest))
  made_at true e es rest m h r = h
  made_at false e es rest m h r = (m, r)

  pub made_remove : (es : List Entry) → AreMade es → AreMade (remove_entry test es)
  made_remove [] h = tt
  made_remove (e ∷ es) h = made_at (test e.0) e es _ h.0 h.1 (made_remove es h.1)

  -- ---- the other keys
  filter_at : (b : Bool) (e : Entry) (es rest : List Entry) → filter other (keys rest) ≡ filter other (keys es) → test e.0 ≡ b
      → filter other (keys (cond b es (e ∷ rest))) ≡ filter other (e.0.value ∷ keys es)
  filter_at true e es rest same is = rw is refl
  filter_at false e es rest same is = rw is (ap (λ r. e.0.value ∷ r) same)

  filter_remove : (es : List Entry) → filter other (keys (remove_entry test es)) ≡ filter other (keys es)
  filter_remove [] = refl
  filter_remove (e ∷ es) = filter_at (test e.0) e es (remove_entry test es) (filter_remove es) refl

  filter_apart : (es : List Entry) → AllByRecursion (λ l. test l ≡ false) (keys_of es) → filter other (keys es) ≡ keys es
  filter_apart [] h = refl
  filter_apart (e ∷ es) h = let is : test e.0 ≡ false = h.0 in rw is (ap (λ r. e.0.value ∷ r) (filter_apart es h.1))

  -- the keys after the promotion of the entry that is found
  pub promoted_keys : (e : Entry) (es : List Entry) (n : ℕ) → e.0.value ≡ k.value → IsValid equal (lru_cache (e ∷ remove_entry test es) n)
      → keys (e ∷ remove_entry test es) ≡ take n (k.value ∷ filter other (keys es))
  unfolding IsDistinct
  promoted_keys e es n is valid =
      let rest = remove_entry test es in
      let apart : AllByRecursion (λ l. test l ≡ false) (keys_of rest) = subst (λ (j : CacheKey). AllByRecursion (λ l. same_key j l.value ≡ false) (keys_of rest)) is valid.0.0 in
      let others : filter other (keys es) ≡ keys rest = sym (filter_remove es) ∙ filter_apart rest apart in
      let few : length (keys (e ∷ rest)) ≤ n = rw (length_keys (e ∷ rest)) valid.1 in
      sym (take_all n (keys (e ∷ rest)) few) ∙ ap₂ (λ (j : CacheKey) (ks : List CacheKey). take n (j ∷ ks)) is (sym others)

  -- ---- a key that is new
  pub record IsNew (es : List Entry) : Type 0 where
    pub absent : lookup_entry test es ≡ None
    pub others : filter other (keys es) ≡ keys es

  new_at : (b : Bool) (e : Entry) (es : List Entry) → test e.0 ≡ b → (list_any (same_key k.value) (keys es) ≡ false → IsNew es)
      → (if_any : list_any (same_key k.value) (keys (e ∷ es)) ≡ false) → IsNew (e ∷ es)
  new_at true e es is later h = let h' = rw is at h in cc
  new_at false e es is later h =
      let s = later (rw is at h) in
      record { absent = rw is s.absent; others = rw is (ap (λ r. e.0.value ∷ r) s.others) }

  pub is_new : (es : List Entry) → list_any (same_key k.value) (keys es) ≡ false → IsNew es
  is_new [] h = record { absent = refl; others = refl }
  is_new (e ∷ es) h = new_at (test e.0) e es refl (is_new es) h

  absent_at : (b : Bool) (e : Entry) (es : List Entry) → test e.0 ≡ b → (lookup test es ≡ None → list_any (same_key k.value) (keys es) ≡ false)
      → cond b (Some e.1) (lookup test es) ≡ None → list_any (same_key k.value) (keys (e ∷ es)) ≡ false
  absent_at true e es is later eq = absurd (none-some _ (sym eq))
  absent_at false e es is later eq = rw is (later eq)

  pub absent_from_lookup : (es : List Entry) → lookup test es ≡ None → list_any (same_key k.value) (keys es) ≡ false
  absent_from_lookup [] eq = refl
  absent_from_lookup (e ∷ es) eq = absent_at (test e.0) e es refl (absent_from_lookup es) eq

  shorter : (n : ℕ) (ks : List CacheKey) → 0 < n → k.value ∷ take (n - 1) ks ≡ take n (k.value ∷ ks)
  shorter zero ks h = absurd (omega arith)
  shorter (suc n) ks h = ap (λ m. k.value ∷ take m ks) (omega arith)

  -- the keys after its insertion
  pub put_keys : (c : Kept) (es : List Entry) (n : ℕ) → 0 < n → IsNew es → keys ((k, c) ∷ take (n - 1) es) ≡ take n (k.value ∷ filter other (keys es))
  put_keys c es n more new =
      ap (λ ks. k.value ∷ ks) (keys_take (n - 1) es) ∙ shorter n (keys es) more ∙ ap (λ (ks : List CacheKey). take n (k.value ∷ ks)) (sym new.others)

pub put_or_not : {T E P Q : Type 0} (r : Result T E) → OnOk r P → OnErr r Q → P ⊎ Q
put_or_not (Ok x) p q = inl p
put_or_not (Err e) p q = inr q
