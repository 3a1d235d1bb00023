-- What a URI reaches among kept documents.
use Rattle.std.proofs.Common.{◌≡◌, Bool, true, false, not, ◌↔◌, List, map, Contains, filter, sym, refl, ap, ◌∙◌, subst, inl, inr}
use Rattle.std.proofs.lemmas.Cmp.{nat_list_cmp_total, tied_itself}
use Rattle.std.specs.Cmp.Lexicographic.{slice_cmp, bytes_decides}
use Rattle.std.specs.Ordering.{nat_cmp}
use Rattle.definitions.specs.Values.{Text, same_text}
use Rattle.definitions.specs.Lists.{has_repeat}
use Rattle.definitions.specs.Schemas.{Document}
use Rattle.definitions.specs.Reach.{reach, IsReached, holds, referred}
use Rattle.definitions.specs.Alike.{Agree}
use Rattle.definitions.specs.Documents.{documents_with, others_of}
use Rattle.definitions.specs.Searches.{Search}
use Rattle.definitions.specs.Keeping.{AreKept}
use Rattle.definition_laws.specs.Reaching.{IsUnreached}
use Rattle.definition_laws.proofs.Membership.{in_filter, from_filter}
use Rattle.definition_laws.proofs.Placing.{same_ascending, ascending_distinct}
use Rattle.definition_laws.proofs.ReachedSets.{reach_is_least, reach_as_filter}
use Rattle.definition_laws.proofs.PlacedDocuments.{key_of, from_placed, in_placed}
use Rattle.definition_laws.proofs.KeptDocuments.{part_kept}

-- ---- what is reached
pub kept_distinct : (search : Search) (ds : List Document) → AreKept search ds → has_repeat same_text (map key_of ds) ≡ false
kept_distinct search ds kept =
    ascending_distinct (slice_cmp nat_cmp) same_text
    (λ t u e. ap (slice_cmp nat_cmp t) (sym ((bytes_decides t u).0 e)) ∙ tied_itself nat_list_cmp_total t)
    (map key_of ds) kept.ordered

pub kept_reach_is_least : (search : Search) (ds : List Document) → AreKept search ds → (uri : Text) (d : Document) → Contains (reach ds uri) d ↔ IsReached ds uri d
kept_reach_is_least search ds kept uri = reach_is_least ds uri (kept_distinct search ds kept)

pub reached_kept : (search : Search) (ds : List Document) (uri : Text) → AreKept search ds → AreKept search (reach ds uri)
reached_kept search ds uri kept =
    let part : (p : Document → Bool) × (reach ds uri ≡ filter p ds) = reach_as_filter ds uri in
    subst (AreKept search) (sym part.1) (part_kept search part.0 ds kept)

pub same_reached_agree : (search : Search) (ds es : List Document) (uri : Text) → AreKept search ds → AreKept search es
    → ((d : Document) → IsReached ds uri d ↔ IsReached es uri d) → Agree ds es uri
same_reached_agree search ds es uri kept_ds kept_es same =
    same_ascending (slice_cmp nat_cmp) nat_list_cmp_total key_of (reach ds uri) (reach es uri)
    (reached_kept search ds uri kept_ds).ordered (reached_kept search es uri kept_es).ordered
    (λ d c. (kept_reach_is_least search es kept_es uri d).1 ((same d).0 ((kept_reach_is_least search ds kept_ds uri d).0 c)))
    (λ d c. (kept_reach_is_least search ds kept_ds uri d).1 ((same d).1 ((kept_reach_is_least search es kept_es uri d).0 c)))

-- ---- what isn't reached
-- from documents to others that have those of them that are reached
reached_in : (G H : List Document) (uri : Text) → ((e : Document) → IsReached G uri e → Contains G e → Contains H e) → (e : Document) → IsReached G uri e → IsReached H uri e
reached_in G H uri stays e (holds c h) = holds (stays e (holds c h) c) h
reached_in G H uri stays e (referred {d = d} r c h) = referred (reached_in G H uri stays d r) (stays e (referred r c h) c) h

pub unreached_put : (search : Search) (ds : List Document) (d : Document) (uri : Text) → AreKept search ds → AreKept search (documents_with d ds)
    → IsUnreached ds uri d.canonical → IsUnreached (documents_with d ds) uri d.canonical → Agree ds (documents_with d ds) uri
unreached_put search ds d uri kept kept_after before after =
    same_reached_agree search ds (documents_with d ds) uri kept kept_after
    (λ e. (
      reached_in ds (documents_with d ds) uri (λ x r c. in_placed d x ds (before x r) c) e,
      reached_in (documents_with d ds) ds uri (λ x r c. elim (from_placed d x ds c) [
        | inl itself ↦ absurd (after x r (ap key_of (sym itself)))
        | inr other ↦ other
      ]) e,
    ))

pub unreached_delete : (search : Search) (ds : List Document) (b uri : Text) → AreKept search ds → IsUnreached ds uri b → Agree ds (others_of b ds) uri
unreached_delete search ds b uri kept unreached =
    same_reached_agree search ds (others_of b ds) uri kept (part_kept search (λ d. not (same_text b d.canonical)) ds kept)
    (λ e. (
      reached_in ds (others_of b ds) uri (λ x r c.
          in_filter (λ d. not (same_text b d.canonical)) x ds c (unlike x r (same_text b x.canonical) refl)) e,
      reached_in (others_of b ds) ds uri (λ x r c. (from_filter (λ d. not (same_text b d.canonical)) x ds c).0) e,
    ))
  where
    unlike : (x : Document) → IsReached ds uri x → (same : Bool) → same_text b x.canonical ≡ same → not same ≡ true
    unlike x r true e = absurd (unreached x r (sym ((bytes_decides b x.canonical).0 e)))
    unlike x r false e = refl
