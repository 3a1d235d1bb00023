-- A document that is put or taken out where one stands.
use Rattle.std.proofs.Common.{◌≡◌, ℕ, zero, suc, List, [], ◌∷◌, not, map, get_or, Contains, Less, Equal, sym, refl, ap, ◌∙◌, subst, arith}
use Rattle.std.proofs.Math.ListN.{set}
use Rattle.std.proofs.lemmas.Cmp.{nat_list_cmp_total}
use Rattle.std.proofs.lemmas.List.Elements.{Contains-get_or}
use Rattle.std.specs.Cmp.Lexicographic.{slice_cmp, bytes_decides}
use Rattle.std.specs.List.{remove}
use Rattle.std.specs.Ordering.{nat_cmp, ordering_reverse}
use Rattle.definitions.specs.Documents.{others_of, documents_with, Ascend}
use Rattle.definitions.specs.Schemas.{Document}
use Rattle.definitions.specs.Values.{Text, same_text}
use Rattle.definition_laws.proofs.JoinedDocuments.{IsOther, other, tie_at}
use Rattle.definition_laws.proofs.PlacedDocuments.{key_of}
use Rattle.definition_laws.proofs.Placing.{tail_ascending, first_below}
use Rattle.definition_laws.proofs.Replacing.{all_kept}
use Rattle.linker.specs.Positions.{StandsAt}

unlike : Less ≡ Equal → ⊥
unlike e = cc

-- ---- the first, where another stands at the place
further : (e : Document) (es : List Document) (uri : Text) (at : ℕ) → StandsAt (e ∷ es) uri (suc at) → StandsAt es uri at
further e es uri at stands = record { inside = omega (arith, stands.inside); named = λ d. stands.named d }

below_it : (e : Document) (es : List Document) (uri : Text) (at : ℕ) → Ascend (e ∷ es) → StandsAt (e ∷ es) uri (suc at) → slice_cmp nat_cmp e.canonical uri ≡ Less
below_it e es uri at ascend stands =
    let rest = further e es uri at stands in
    subst (λ u. slice_cmp nat_cmp e.canonical u ≡ Less) (rest.named e)
    (first_below (slice_cmp nat_cmp) nat_list_cmp_total key_of e (get_or es at e) es ascend (Contains-get_or es at e rest.inside))

-- ---- instead of it
pub put_instead : (d : Document) (ds : List Document) (at : ℕ) → Ascend ds → StandsAt ds d.canonical at → set ds at d ≡ documents_with d ds
put_instead d [] at ascend stands = absurd (omega (arith, stands.inside))
put_instead d (e ∷ es) zero ascend stands = rw (tie_at d.canonical e.canonical (sym (stands.named e))) refl
put_instead d (e ∷ es) (suc at) ascend stands =
    rw (nat_list_cmp_total.antisymm d.canonical e.canonical ∙ ap ordering_reverse (below_it e es d.canonical at ascend stands))
    (ap (λ r. e ∷ r) (put_instead d es at (tail_ascending (slice_cmp nat_cmp) nat_list_cmp_total key_of e es ascend) (further e es d.canonical at stands)))

-- ---- without it
rest_other : (e : Document) (es : List Document) (uri : Text) → Ascend (e ∷ es) → e.canonical ≡ uri → (x : Document) → Contains es x → IsOther uri x
rest_other e es uri ascend named x c =
    other uri x (λ same. unlike (sym (first_below (slice_cmp nat_cmp) nat_list_cmp_total key_of e x es ascend c) ∙ tie_at e.canonical x.canonical (named ∙ same)))

pub left_out : (uri : Text) (ds : List Document) (at : ℕ) → Ascend ds → StandsAt ds uri at → remove ds at ≡ others_of uri ds
left_out uri [] at ascend stands = absurd (omega (arith, stands.inside))
left_out uri (e ∷ es) zero ascend stands =
    let named = stands.named e in
    rw ((bytes_decides uri e.canonical).1 (sym named))
    (sym (all_kept (λ d. not (same_text uri d.canonical)) es (λ x c. ap not (rest_other e es uri ascend named x c))))
left_out uri (e ∷ es) (suc at) ascend stands =
    rw (other uri e (λ same. unlike (sym (below_it e es uri at ascend stands) ∙ tie_at e.canonical uri (sym same))))
    (ap (λ r. e ∷ r) (left_out uri es at (tail_ascending (slice_cmp nat_cmp) nat_list_cmp_total key_of e es ascend) (further e es uri at stands)))

-- where none stands
pub none_left_out : (uri : Text) (ds : List Document) → ((d : Document) → Contains ds d → d.canonical ≡ uri → ⊥) → others_of uri ds ≡ ds
none_left_out uri ds absent = all_kept (λ d. not (same_text uri d.canonical)) ds (λ d c. ap not (other uri d (λ same. absent d c (sym same))))

-- ---- images
pub map-remove : {X Y : Type 0} (f : X → Y) (xs : List X) (at : ℕ) → map f (remove xs at) ≡ remove (map f xs) at
map-remove f [] zero = refl
map-remove f [] (suc at) = refl
map-remove f (x ∷ xs) zero = refl
map-remove f (x ∷ xs) (suc at) = ap (λ zs. f x ∷ zs) (map-remove f xs at)
