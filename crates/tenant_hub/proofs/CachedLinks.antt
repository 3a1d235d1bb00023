-- A link that is found, those that are left where one is let go, and one that is put.
use Rattle.std.proofs.Common.{◌≡◌, ◌-◌, ◌<◌, ℕ, List, [], ◌∷◌, Some, String, Global, Contains, Result, Ok, Err, length, take, string_bytes, bytes_eq, sym, subst, inl, inr, arith}
use Rattle.std.proofs.lemmas.List.{length-take-le}
use Rattle.std.proofs.lemmas.Option.{none-some, same_Some}
use Rattle.std.proofs.lemmas.Slice.Eq.{bytes_eq-Decides}
use Rattle.std.specs.List.{slice_get}
use Rattle.std.specs.Result.{OnOk, OnErr}
use Rattle.std.specs.String.{string_eq}
use Rattle.definitions.specs.Schemas.{Document}
use Rattle.definitions.specs.Values.{Text}
use Rattle.definition_laws.proofs.Membership.{is_first}
use Rattle.linker.specs.declared.linked.Linked.{Linked}
use Rattle.lru.proofs.CallerLemmas.{Contains-put_entries, Contains-take}
use Rattle.lru.proofs.Splits.{Contains-nil}
use Rattle.lru.specs.LruCache.{LruCache, last_entry, lru_cache, put_entries}
use Rattle.tenant_hub.specs.CachedLinks.{AreLinksOf, IsLinkOfBase}
use Rattle.tenant_hub.specs.declared.links.Links.{Links}

abbrev Entry : Type 0
Entry = String Global × Linked

pub fewer : (es : List Entry) (e : Entry) → last_entry es ≡ Some e → length (take (length es - 1) es) < length es
fewer [] e h = absurd (none-some _ h)
fewer (x ∷ xs) e h = let short = length-take-le (length (x ∷ xs) - 1) (x ∷ xs) (omega arith) in omega (arith, short)

at_first : (es : List Entry) (e : Entry) → Some e ≡ slice_get es 0 → Contains es e
at_first [] e at = absurd (none-some e (sym at))
at_first (x ∷ xs) e at = subst (Contains (x ∷ xs)) (same_Some x e (sym at)) (is_first x xs)

pub none_kept : (ds : List Document) (links : Links) → links.entries.entries ≡ [] → AreLinksOf ds links
unfolding AreLinksOf
none_kept ds links none = λ e among. absurd (Contains-nil e (subst (λ es. Contains es e) none among))

module _ (ds : List Document) (links : Links) (all : AreLinksOf ds links) where
  -- the first of those that are kept, where its base form is this one
  pub first : (uri : Text) (base : String Global) (l : Linked) → Some (base, l) ≡ slice_get links.entries.entries 0 → string_bytes base ≡ uri → IsLinkOfBase ds uri l
  unfolding AreLinksOf
  first uri base l at same = subst (λ u. IsLinkOfBase ds u l) same (all (base, l) (at_first links.entries.entries (base, l) at))

  pub left : (n cap count most : ℕ) → AreLinksOf ds (record { entries = lru_cache (take n links.entries.entries) cap; reached = count; most = most })
  unfolding AreLinksOf
  left n cap count most = λ e among. all e (Contains-take n links.entries.entries e among)

  stored : (uri : String Global) (l : Linked) → IsLinkOfBase ds (string_bytes uri) l → (e : Entry) → Contains (put_entries string_eq links.entries uri l) e
      → IsLinkOfBase ds (string_bytes e.0) e.1
  unfolding AreLinksOf
  stored uri l is e among = elim (Contains-put_entries string_eq links.entries uri l e among) [
    | inl was ↦ all e was
    | inr put ↦ subst (λ m. IsLinkOfBase ds (string_bytes e.0) m) (sym put.0) (elim put.1 [
      | inl same ↦ subst (λ k. IsLinkOfBase ds (string_bytes k) l) (sym same) is
      | inr old ↦ subst (λ u. IsLinkOfBase ds u l) ((bytes_eq-Decides (string_bytes uri) (string_bytes e.0)).0 old.2) is
    ])
  ]

  pub put : {X E : Type 0} (uri : String Global) (l : Linked) → IsLinkOfBase ds (string_bytes uri) l → (r : Result X E) (after : LruCache (String Global) Linked) (cap count most : ℕ)
      → OnOk r (after ≡ lru_cache (put_entries string_eq links.entries uri l) cap) → OnErr r (after ≡ links.entries)
      → AreLinksOf ds (record { entries = after; reached = count; most = most })
  unfolding AreLinksOf
  put uri l is (Ok x) after cap count most stores keeps = rw stores (stored uri l is)
  put uri l is (Err x) after cap count most stores keeps = rw keeps all
