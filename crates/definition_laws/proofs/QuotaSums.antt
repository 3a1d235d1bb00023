-- Sums over documents of which one is put or deleted.
use Rattle.std.proofs.Common.{◌≡◌, ℕ, suc, ◌+◌, Bool, true, false, not, List, [], ◌∷◌, length, sum_by, Contains, None, Ordering, Less, Equal, Greater, refl, sym, ap, ◌∙◌, arith}
use Rattle.std.proofs.lemmas.Cmp.{nat_list_cmp_total}
use Rattle.std.proofs.lemmas.List.Sums.{sum_by-cons}
use Rattle.std.specs.Cmp.Lexicographic.{slice_cmp, bytes_decides}
use Rattle.std.specs.Ordering.{nat_cmp}
use Rattle.definitions.specs.Values.{Text, same_text}
use Rattle.definitions.specs.Texts.{text}
use Rattle.definitions.specs.Schemas.{Document}
use Rattle.definitions.specs.Searches.{Search}
use Rattle.definitions.specs.Documents.{document_of, others_of, documents_with, bytes_of, Ascend}
use Rattle.definitions.specs.Registries.{Registry}
use Rattle.definitions.specs.Keeping.{IsKept}
use Rattle.definition_laws.specs.Quotas.{documents_at, IsAdded, IsTakenOff}
use Rattle.definition_laws.proofs.Membership.{is_first, is_later}
use Rattle.definition_laws.proofs.Placing.{tail_ascending, first_below}
use Rattle.definition_laws.proofs.Replacing.{all_kept, below_all}
use Rattle.definition_laws.proofs.PlacedDocuments.{key_of, tied}
use Rattle.definition_laws.proofs.JoinedDocuments.{IsOther, other, tie_at}

-- ---- where the others are
unfound : (uri : Text) (ds : List Document) → ((d : Document) → Contains ds d → IsOther uri d) → document_of ds uri ≡ None
unfound uri [] h = refl
unfound uri (d ∷ ds) h = rw (h d (is_first d ds)) (unfound uri ds (λ e c. h e (is_later d e ds c)))

unlike_less : Less ≡ Equal → ⊥
unlike_less e = cc

unlike_greater : Greater ≡ Equal → ⊥
unlike_greater e = cc

rest_other : (uri : Text) (e : Document) (es : List Document) → Ascend (e ∷ es) → uri ≡ e.canonical → (x : Document) → Contains es x → IsOther uri x
rest_other uri e es sorted is x c =
    other uri x (λ same. unlike_less (sym (first_below (slice_cmp nat_cmp) nat_list_cmp_total key_of e x es sorted c) ∙ tie_at e.canonical x.canonical (sym is ∙ same)))

below_other : (d e : Document) (es : List Document) → Ascend (e ∷ es) → slice_cmp nat_cmp d.canonical e.canonical ≡ Less → (x : Document) → Contains (e ∷ es) x → IsOther d.canonical x
below_other d e es sorted less x c =
    other d.canonical x (λ same. unlike_less (sym (below_all (slice_cmp nat_cmp) nat_list_cmp_total key_of d e es sorted less x c) ∙ tie_at d.canonical x.canonical same))

-- ---- of numbers alone
put_first : (all rest own : ℕ) → all ≡ own + rest → all + 0 ≡ rest + own
put_first all rest own e = omega (arith, e)

put_instead : (after one before rest own old : ℕ) → after ≡ own + rest → one ≡ old + 0 → before ≡ old + rest → after + one ≡ before + own
put_instead after one before rest own old e f g = omega (arith, e, f, g)

put_later : (after part before rest own first one : ℕ) → after ≡ first + part → before ≡ first + rest → part + one ≡ rest + own → after + one ≡ before + own
put_later after part before rest own first one e f g = omega (arith, e, f, g)

left_first : (rest one before first : ℕ) → one ≡ first + 0 → before ≡ first + rest → rest + one ≡ before
left_first rest one before first e f = omega (arith, e, f)

left_later : (after part before rest first one : ℕ) → after ≡ first + part → before ≡ first + rest → part + one ≡ rest → after + one ≡ before
left_later after part before rest first one e f g = omega (arith, e, f, g)

-- ---- what each document adds
module _ (f : Document → ℕ) where
  added_at : (d e : Document) (es : List Document) (o : Ordering) → slice_cmp nat_cmp d.canonical e.canonical ≡ o → Ascend (e ∷ es)
      → sum_by f (documents_with d es) + sum_by f (documents_at d.canonical es) ≡ sum_by f es + f d
      → sum_by f (documents_with d (e ∷ es)) + sum_by f (documents_at d.canonical (e ∷ es)) ≡ sum_by f (e ∷ es) + f d
  added_at d e es Less is sorted more =
      rw (is, unfound d.canonical (e ∷ es) (below_other d e es sorted is))
      (put_first (sum_by f (d ∷ e ∷ es)) (sum_by f (e ∷ es)) (f d) (sum_by-cons f d (e ∷ es)))
  added_at d e es Equal is sorted more =
      rw (is, (bytes_decides d.canonical e.canonical).1 (tied d.canonical e.canonical is))
      (put_instead (sum_by f (d ∷ es)) (sum_by f (e ∷ [])) (sum_by f (e ∷ es)) (sum_by f es) (f d) (f e) (sum_by-cons f d es) (sum_by-cons f e []) (sum_by-cons f e es))
  added_at d e es Greater is sorted more =
      rw (is, other d.canonical e (λ same. unlike_greater (sym is ∙ tie_at d.canonical e.canonical same)))
      (put_later (sum_by f (e ∷ documents_with d es)) (sum_by f (documents_with d es)) (sum_by f (e ∷ es)) (sum_by f es) (f d) (f e) (sum_by f (documents_at d.canonical es))
      (sum_by-cons f e (documents_with d es)) (sum_by-cons f e es) more)

  pub added : (d : Document) (ds : List Document) → Ascend ds → sum_by f (documents_with d ds) + sum_by f (documents_at d.canonical ds) ≡ sum_by f ds + f d
  added d [] sorted = put_first (sum_by f (d ∷ [])) (sum_by f []) (f d) (sum_by-cons f d [])
  added d (e ∷ es) sorted =
      added_at d e es (slice_cmp nat_cmp d.canonical e.canonical) refl sorted (added d es (tail_ascending (slice_cmp nat_cmp) nat_list_cmp_total key_of e es sorted))

  taken_off_at : (uri : Text) (e : Document) (es : List Document) (b : Bool) → same_text uri e.canonical ≡ b → Ascend (e ∷ es)
      → sum_by f (others_of uri es) + sum_by f (documents_at uri es) ≡ sum_by f es
      → sum_by f (others_of uri (e ∷ es)) + sum_by f (documents_at uri (e ∷ es)) ≡ sum_by f (e ∷ es)
  taken_off_at uri e es true is sorted more =
      let all : others_of uri es ≡ es = all_kept (λ d. not (same_text uri d.canonical)) es
      (λ x c. ap not (rest_other uri e es sorted ((bytes_decides uri e.canonical).0 is) x c)) in
      rw (is, all) (left_first (sum_by f es) (sum_by f (e ∷ [])) (sum_by f (e ∷ es)) (f e) (sum_by-cons f e []) (sum_by-cons f e es))
  taken_off_at uri e es false is sorted more =
      rw is
      (left_later (sum_by f (e ∷ others_of uri es)) (sum_by f (others_of uri es)) (sum_by f (e ∷ es)) (sum_by f es) (f e) (sum_by f (documents_at uri es))
      (sum_by-cons f e (others_of uri es)) (sum_by-cons f e es) more)

  pub taken_off : (uri : Text) (ds : List Document) → Ascend ds → sum_by f (others_of uri ds) + sum_by f (documents_at uri ds) ≡ sum_by f ds
  taken_off uri [] sorted = refl
  taken_off uri (e ∷ es) sorted =
      taken_off_at uri e es (same_text uri e.canonical) refl sorted (taken_off uri es (tail_ascending (slice_cmp nat_cmp) nat_list_cmp_total key_of e es sorted))

-- ---- their number
one_more : (all rest len : ℕ) → all ≡ 1 + rest → rest ≡ len → all ≡ suc len
one_more all rest len e f = omega (arith, e, f)

pub counted : (ds : List Document) → sum_by (λ (d : Document). 1) ds ≡ length ds
counted [] = refl
counted (d ∷ ds) =
    one_more (sum_by (λ (d : Document). 1) (d ∷ ds)) (sum_by (λ (d : Document). 1) ds) (length ds) (sum_by-cons (λ (d : Document). 1) d ds) (counted ds)

in_place : (a b c i j k n : ℕ) → a ≡ i → b ≡ j → c ≡ k → a + b ≡ c + n → i + j ≡ k + n
in_place a b c i j k n e f g h = omega (arith, e, f, g, h)

in_place_of : (a b c i j k : ℕ) → a ≡ i → b ≡ j → c ≡ k → a + b ≡ c → i + j ≡ k
in_place_of a b c i j k e f g h = omega (arith, e, f, g, h)

own_bytes : (a b n m : ℕ) → m ≡ n + 0 → a ≡ b + n → a ≡ b + m
own_bytes a b n m e f = omega (arith, e, f)

pub add_up : (search : Search) (g : Registry) → IsKept search g → ((d : Document) → IsAdded g.documents d) × ((uri : Text) → IsTakenOff g.documents uri)
add_up search g kept = (add, take_off)
  where
    add : (d : Document) → IsAdded g.documents d
    add d = record {
      documents =
          in_place (sum_by (λ (e : Document). 1) (documents_with d g.documents)) (sum_by (λ (e : Document). 1) (documents_at d.canonical g.documents)) (sum_by (λ (e : Document). 1) g.documents)
          (length (documents_with d g.documents)) (length (documents_at d.canonical g.documents)) (length g.documents) 1
          (counted (documents_with d g.documents)) (counted (documents_at d.canonical g.documents)) (counted g.documents) (added (λ (e : Document). 1) d g.documents kept.ordered);
      bytes =
          own_bytes (bytes_of (documents_with d g.documents) + bytes_of (documents_at d.canonical g.documents)) (bytes_of g.documents) (length (text d.value)) (bytes_of (d ∷ []))
          (sum_by-cons (λ (e : Document). length (text e.value)) d []) (added (λ (e : Document). length (text e.value)) d g.documents kept.ordered);
    }

    take_off : (uri : Text) → IsTakenOff g.documents uri
    take_off uri = record {
      documents =
          in_place_of (sum_by (λ (e : Document). 1) (others_of uri g.documents)) (sum_by (λ (e : Document). 1) (documents_at uri g.documents)) (sum_by (λ (e : Document). 1) g.documents)
          (length (others_of uri g.documents)) (length (documents_at uri g.documents)) (length g.documents)
          (counted (others_of uri g.documents)) (counted (documents_at uri g.documents)) (counted g.documents) (taken_off (λ (e : Document). 1) uri g.documents kept.ordered);
      bytes = taken_off (λ (e : Document). length (text e.value)) uri g.documents kept.ordered;
    }
