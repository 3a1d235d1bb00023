-- A document at its place among others.
use Rattle.std.proofs.Common.{◌≡◌, ◌⊎◌, List, [], ◌∷◌, Contains, is_eq, Ordering, Less, Equal, Greater, sym, refl, ap, ◌∙◌, subst}
use Rattle.std.proofs.lemmas.Cmp.{nat_list_cmp_total}
use Rattle.std.proofs.lemmas.Map.Text.{is_eq-slice_cmp}
use Rattle.std.specs.Cmp.Lexicographic.{slice_cmp, bytes_decides}
use Rattle.std.specs.Ordering.{nat_cmp, match_ordering}
use Rattle.definitions.specs.Values.{Text}
use Rattle.definitions.specs.Schemas.{Document}
use Rattle.definitions.specs.Documents.{documents_with}
use Rattle.definition_laws.proofs.Membership.{is_first, is_later}
use Rattle.definition_laws.proofs.Placing.{inserted, in_inserted, from_inserted}

abbrev pub key_of : Document → Text
key_of d = d.canonical

pub as_inserted : (d : Document) (ds : List Document) → inserted (slice_cmp nat_cmp) key_of d ds ≡ documents_with d ds
as_inserted d [] = refl
as_inserted d (e ∷ es) = ap (λ r. match_ordering (slice_cmp nat_cmp d.canonical e.canonical) (d ∷ e ∷ es) (d ∷ es) (e ∷ r)) (as_inserted d es)

placed_itself_at : (d e : Document) (es : List Document) (o : Ordering) → Contains (documents_with d es) d → Contains (match_ordering o (d ∷ e ∷ es) (d ∷ es) (e ∷ documents_with d es)) d
placed_itself_at d e es Less more = is_first d (e ∷ es)
placed_itself_at d e es Equal more = is_first d es
placed_itself_at d e es Greater more = is_later e d (documents_with d es) more

pub placed_itself : (d : Document) (ds : List Document) → Contains (documents_with d ds) d
placed_itself d [] = is_first d []
placed_itself d (e ∷ es) = placed_itself_at d e es (slice_cmp nat_cmp d.canonical e.canonical) (placed_itself d es)

pub from_placed : (d e : Document) (ds : List Document) → Contains (documents_with d ds) e → (d ≡ e) ⊎ Contains ds e
from_placed d e ds c = from_inserted (slice_cmp nat_cmp) nat_list_cmp_total key_of d e ds (subst (λ es. Contains es e) (sym (as_inserted d ds)) c)

pub tied : (t u : Text) → slice_cmp nat_cmp t u ≡ Equal → t ≡ u
tied t u e = (bytes_decides t u).0 (sym (is_eq-slice_cmp t u) ∙ ap is_eq e)

pub in_placed : (d e : Document) (ds : List Document) → (e.canonical ≡ d.canonical → ⊥) → Contains ds e → Contains (documents_with d ds) e
in_placed d e ds other c =
    subst (λ es. Contains es e) (as_inserted d ds)
    (in_inserted (slice_cmp nat_cmp) nat_list_cmp_total key_of d e ds (λ tie. other (sym (tied d.canonical e.canonical tie))) c)
