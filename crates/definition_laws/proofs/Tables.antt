-- What stands below a schema of a table stands in it too, and so does what a reference names.
use Rattle.std.proofs.Common.{◌≡◌, suc, List, [], ◌++◌, Option, Some, None, Result, Ok, Err, option_map, option_and_then, refl, sym, ap, ap₂, subst, ◌∙◌, arith, append_assoc}
use Rattle.std.specs.List.{find}
use Rattle.definitions.specs.Values.{Text, nesting}
use Rattle.definitions.specs.Faults.{Fault}
use Rattle.definitions.specs.Fragments.{Fragment, no_fragment, tokens, plain_name}
use Rattle.definitions.specs.Pointers.{Pointer, same_pointer}
use Rattle.definitions.specs.Keywords.{Keyword, keywords}
use Rattle.definitions.specs.Schemas.{Schema, Document, schema_at, schemas_of, schemas_from, table_of}
use Rattle.definitions.specs.Uris.{without_fragment}
use Rattle.definitions.specs.Targets.{resource_root, schema_with_dynamic_anchor, schema_at_pointer, target_in, target, fragment_of}
use Rattle.definition_laws.proofs.Occurrences.{IsIn, in_flat_map, into_flat_map, in_map, into_map, found_in}
use Rattle.definition_laws.proofs.Places.{IsStep, IsBelow, here, further}
use Rattle.definition_laws.proofs.Roots.{within_from, within_to}

abbrev pub IsClosed : List Schema → Type 0
IsClosed table = (s t : Schema) (way : Pointer) → IsIn s table → IsBelow keywords s t way → IsIn t table

below_both : (rows : List Keyword) (s t u : Schema) (way last : Pointer) → IsBelow rows s t way → IsBelow rows t u last → IsBelow rows s u (way ++ last)
below_both rows s t u way last (here e f) b = subst (λ x. x) (ap₂ (λ r w. IsBelow rows r u w) (sym e) (ap (λ w. w ++ last) (sym f))) b
below_both rows s t u way last (further {t = a} {way = first} {rest = rest} step more w) b =
    further step (below_both rows a t u rest last more b) (ap (λ x. x ++ last) w ∙ append_assoc first rest last)

pub table_closed : (ds : List Document) → IsClosed (table_of ds)
table_closed ds s t way i b =
    let r = in_flat_map (λ d. schemas_of d.base d.value) ds s i in
    let d : Document = r.0 in
    let top : Schema = schema_at d.base [] d.value in
    let q = in_map (λ x. x.1) (schemas_from top) s r.2 in
    let o = within_from keywords (suc (nesting top.value)) [] top q.0 q.1 in
    let leads : IsBelow keywords top s o.0 = subst (λ x. IsBelow keywords top x o.0) q.2 o.2 in
    let whole : IsIn (o.0 ++ way, t) (schemas_from top) =
    within_to keywords (suc (nesting top.value)) [] top t (o.0 ++ way) (omega arith) (below_both keywords top s t o.0 way leads b) in
    into_flat_map (λ e. schemas_of e.base e.value) ds d t r.1 (into_map (λ x. x.1) (schemas_from top) (o.0 ++ way, t) whole)

pub step_closed : (table : List Schema) → IsClosed table → (s t : Schema) (way : Pointer) → IsIn s table → IsStep keywords s t way → IsIn t table
step_closed table closed s t way i step = closed s t (way ++ []) i (further step (here refl refl) refl)

-- ---- what a search finds
pointed_in : (table : List Schema) → IsClosed table → (r s : Schema) (way : Pointer) → IsIn r table → schema_at_pointer way r ≡ Some s → IsIn s table
pointed_in table closed r s way i e = by (find (λ t. same_pointer way t.0) (schemas_from r)) refl e
  where
    by : (o : Option (Pointer × Schema)) → find (λ t. same_pointer way t.0) (schemas_from r) ≡ o → option_map (λ t. t.1) o ≡ Some s → IsIn s table
    by None f g = absurd (cc)
    by (Some x) f g =
        let q = within_from keywords (suc (nesting r.value)) [] r x (found_in (λ t. same_pointer way t.0) (schemas_from r) x f) in
        let same : x.1 ≡ s = cc in
        subst (λ y. IsIn y table) same (closed r x.1 q.0 i q.2)

root_pointed_in : (table : List Schema) → IsClosed table → (o : Option Schema) (s : Schema) (way : Pointer) → ((r : Schema) → o ≡ Some r → IsIn r table) → option_and_then (schema_at_pointer way) o ≡ Some s → IsIn s table
root_pointed_in table closed None s way held e = absurd (cc)
root_pointed_in table closed (Some r) s way held e = pointed_in table closed r s way (held r refl) e

target_by_in : (table : List Schema) → IsClosed table → (uri : Text) (f : Result Fragment Fault) (s : Schema) → target_in table uri f ≡ Some s → IsIn s table
target_by_in table closed uri (Ok no_fragment) s e = found_in _ table s e
target_by_in table closed uri (Ok (tokens way)) s e = root_pointed_in table closed (resource_root table uri) s way (λ r. found_in _ table r) e
target_by_in table closed uri (Ok (plain_name n)) s e = found_in _ table s e
target_by_in table closed uri (Err f) s e = absurd (cc)

pub target_held : (table : List Schema) → IsClosed table → (text : Text) (s : Schema) → target table text ≡ Some s → IsIn s table
target_held table closed text s e = target_by_in table closed (without_fragment text) (fragment_of text) s e

pub dynamically_anchored_in : (table : List Schema) (uri name : Text) (s : Schema) → schema_with_dynamic_anchor table uri name ≡ Some s → IsIn s table
dynamically_anchored_in table uri name s e = found_in _ table s e
