-- A visit of documents reaches the least set that is closed under references.
use Rattle.std.proofs.Common.{◌≡◌, ◌≢◌, ◌+◌, ◌≤◌, ◌++◌, ◌⊎◌, ◌||◌, List, [], ◌∷◌, length, filter, Bool, true, false, Some, is_some, Contains, Ordering, Less, Equal, Greater, sym, refl, ap, ◌∙◌, subst, inl, inr, true≢false, arith, find, length-append}
use Rattle.std.proofs.lemmas.Bool.{or_cases, or_left, or_right}
use Rattle.std.proofs.lemmas.Cmp.{nat_list_cmp_total}
use Rattle.std.proofs.lemmas.List.Elements.{Contains-append_left, Contains-append_right, Contains-append_cases}
use Rattle.std.specs.Cmp.Lexicographic.{slice_cmp, bytes_decides}
use Rattle.std.specs.List.{list_any}
use Rattle.std.specs.List.Sorted.{IsStrictlySortedBy}
use Rattle.std.specs.Ordering.{nat_cmp, match_ordering}
use Rattle.definitions.specs.Values.{Text, same_text}
use Rattle.definitions.specs.Schemas.{Document, table_of}
use Rattle.definitions.specs.Documents.{document_of, documents_with, resources_of, resource_uris_of, Ascend, AreSound}
use Rattle.definitions.specs.Lists.{has_repeat}
use Rattle.definitions.specs.Scanning.{resource_uris}
use Rattle.definitions.specs.Reach.{IsReached, holds, referred, holds_resource, refers_to, reach}
use Rattle.lemmas.proofs.Options.{some_from_is_some}
use Rattle.definition_laws.proofs.Membership.{nothing_in, is_first, is_later, first_or_later, any_where, in_filter, from_filter, filter_short, one_of, found_there, found_some}
use Rattle.definition_laws.proofs.PlacedDocuments.{key_of, as_inserted, from_placed, in_placed, placed_itself, tied}
use Rattle.definition_laws.proofs.Placing.{ascending, kept_ascending, same_ascending}
use Rattle.definition_laws.proofs.ReachedSets.{reach_is_least, reach_as_filter, same_text-back}
use Rattle.definition_laws.proofs.Repeats.{filtered}
use Rattle.definition_laws.proofs.Resources.{one_document, table_uris}
use Rattle.linker.specs.Visits.{IsPart, Keeps, Adds}
use Rattle.linker.proofs.Positions.{ascend_distinct}

-- ---- nothing is added, or two times something
pub adds_none : (all : List Document) (p : Document → Bool) (reached waiting : List Document) → Ascend reached → ((d : Document) → Contains all d → p d ≡ false) → Adds all p reached waiting reached waiting
adds_none all p reached waiting ascend none = record {
  ascend = ascend;
  kept = λ d c. c;
  found = λ d c passes. absurd (true≢false (sym passes ∙ none d c));
  only = λ d c. inl c;
  new_wait = λ d c. inl c;
  still_wait = λ d c. c;
  waiting_reached = λ d c. inl c;
  one_for_one = refl;
}

-- a resource that is held already
pub adds_held : (all : List Document) (uri : Text) (reached waiting : List Document) → AreSound all → IsPart reached all → list_any (holds_resource uri) reached ≡ true
    → Adds all (holds_resource uri) reached waiting reached waiting
adds_held all uri reached waiting sound part held =
    let by : (d : Document) × (Contains reached d × (holds_resource uri d ≡ true)) = any_where (holds_resource uri) reached held in
    record {
      ascend = part.ascend;
      kept = λ e c. c;
      found = λ e c passes. subst (Contains reached) (one_document all uri by.0 e sound.distinct (part.inside by.0 by.1.0) c by.1.1 passes) by.1.0;
      only = λ e c. inl c;
      new_wait = λ e c. inl c;
      still_wait = λ e c. c;
      waiting_reached = λ e c. inl c;
      one_for_one = refl;
    }

pub adds_then : (all : List Document) (p q r : Document → Bool) (a v b w c x : List Document) → Adds all p a v b w → Adds all q b w c x → ((d : Document) → r d ≡ (p d || q d)) → Adds all r a v c x
adds_then all p q r a v b w c x one two both = record {
  ascend = two.ascend;
  kept = λ d i. two.kept d (one.kept d i);
  found = λ d i passes. elim (or_cases (p d) (q d) (sym (both d) ∙ passes)) [
    | inl first ↦ two.kept d (one.found d i first)
    | inr second ↦ two.found d i second
  ];
  only = λ d i. elim (two.only d i) [
    | inl before ↦ elim (one.only d before) [
      | inl there ↦ inl there
      | inr new ↦ inr (new.0, both d ∙ or_left (p d) (q d) new.1)
    ]
    | inr new ↦ inr (new.0, both d ∙ or_right (p d) (q d) new.1)
  ];
  new_wait = λ d i. elim (two.new_wait d i) [
    | inl before ↦ elim (one.new_wait d before) [ inl there ↦ inl there | inr waits ↦ inr (two.still_wait d waits) ]
    | inr waits ↦ inr waits
  ];
  still_wait = λ d i. two.still_wait d (one.still_wait d i);
  waiting_reached = λ d i. elim (two.waiting_reached d i) [
    | inl before ↦ elim (one.waiting_reached d before) [ inl there ↦ inl there | inr in_reached ↦ inr (two.kept d in_reached) ]
    | inr in_reached ↦ inr in_reached
  ];
  one_for_one = omega (arith, one.one_for_one, two.one_for_one);
}

-- ---- one document is added
longer_at : (d e : Document) (es : List Document) (o : Ordering) → slice_cmp nat_cmp d.canonical e.canonical ≡ o → e.canonical ≢ d.canonical → length (documents_with d es) ≡ length es + 1
    → length (match_ordering o (d ∷ e ∷ es) (d ∷ es) (e ∷ documents_with d es)) ≡ length (e ∷ es) + 1
longer_at d e es Less is other more = omega arith
longer_at d e es Equal is other more = absurd (other (sym (tied d.canonical e.canonical is)))
longer_at d e es Greater is other more = omega (arith, more)

longer : (d : Document) (ds : List Document) → ((e : Document) → Contains ds e → e.canonical ≢ d.canonical) → length (documents_with d ds) ≡ length ds + 1
longer d [] other = omega arith
longer d (e ∷ es) other =
    longer_at d e es (slice_cmp nat_cmp d.canonical e.canonical) refl (other e (is_first e es)) (longer d es (λ x c. other x (is_later e x es c)))

pub nothing_found : (ds : List Document) (d : Document) → is_some (document_of ds d.canonical) ≡ false → (e : Document) → Contains ds e → e.canonical ≢ d.canonical
nothing_found ds d none e c same =
    let found = found_some (λ (x : Document). same_text d.canonical x.canonical) e ds c ((bytes_decides d.canonical e.canonical).1 (sym same)) in
    true≢false (sym (ap is_some found.1) ∙ none)

-- in part of all documents stands the document itself, where one with its canonical URI does
found_itself : (reached all : List Document) (d : Document) → Ascend all → IsPart reached all → Contains all d → is_some (document_of reached d.canonical) ≡ true → Contains reached d
found_itself reached all d ascend part c there =
    let some_one = some_from_is_some (document_of reached d.canonical) there in
    let found = found_there (λ (x : Document). same_text d.canonical x.canonical) reached some_one.0 some_one.1 in
    subst (Contains reached)
    (sym (one_of same_text key_of same_text-back all (ascend_distinct all ascend) d some_one.0 c (part.inside some_one.0 found.0) found.1)) found.0

pub adds_kept : (all : List Document) (uri : Text) (d : Document) (reached waiting now waits : List Document) → AreSound all → IsPart reached all → find (holds_resource uri) all ≡ Some d
    → Keeps d reached waiting now waits → Adds all (holds_resource uri) reached waiting now waits
adds_kept all uri d reached waiting now waits sound part first (inl there) =
    let found = found_there (holds_resource uri) all d first in
    subst (λ w. Adds all (holds_resource uri) reached waiting now w) (sym there.2)
    (subst (λ r. Adds all (holds_resource uri) reached waiting r waiting) (sym there.1)
    (record {
      ascend = part.ascend;
      kept = λ e c. c;
      found = λ e c passes. subst (Contains reached) (one_document all uri d e sound.distinct found.0 c found.1 passes) (found_itself reached all d sound.ascend part found.0 there.0);
      only = λ e c. inl c;
      new_wait = λ e c. inl c;
      still_wait = λ e c. c;
      waiting_reached = λ e c. inl c;
      one_for_one = refl;
    }))
adds_kept all uri d reached waiting now waits sound part first (inr new) =
    let found = found_there (holds_resource uri) all d first in
    subst (λ w. Adds all (holds_resource uri) reached waiting now w) (sym new.2)
    (subst (λ r. Adds all (holds_resource uri) reached waiting r (waiting ++ d ∷ [])) (sym new.1)
    (record {
      ascend = subst Ascend (as_inserted d reached) (ascending (slice_cmp nat_cmp) nat_list_cmp_total key_of d reached part.ascend);
      kept = λ e c. in_placed d e reached (nothing_found reached d new.0 e c) c;
      found = λ e c passes. subst (Contains (documents_with d reached)) (one_document all uri d e sound.distinct found.0 c found.1 passes) (placed_itself d reached);
      only = λ e c. elim (from_placed d e reached c) [
        | inl same ↦ inr (subst (Contains all) same found.0, ap (holds_resource uri) (sym same) ∙ found.1)
        | inr there ↦ inl there
      ];
      new_wait = λ e c. elim (from_placed d e reached c) [
        | inl same ↦ inr (Contains-append_right waiting (d ∷ []) e (subst (Contains (d ∷ [])) same (is_first d [])))
        | inr there ↦ inl there
      ];
      still_wait = λ e c. Contains-append_left waiting (d ∷ []) e c;
      waiting_reached = λ e c. elim (Contains-append_cases waiting (d ∷ []) e c) [
        | inl before ↦ inl before
        | inr last ↦ elim (first_or_later d e [] last) [
          | inl same ↦ inr (subst (Contains (documents_with d reached)) same (placed_itself d reached))
          | inr none ↦ absurd (nothing_in e none)
        ]
      ];
      one_for_one = omega (arith, longer d reached (nothing_found reached d new.0), length-append waiting (d ∷ []));
    }))

-- ---- a visit, from the first documents on
pub record IsVisit (all : List Document) (uri : Text) (reached waiting : List Document) : Type 0 where
  pub part : IsPart reached all
  pub in_set : (d : Document) → Contains reached d → IsReached all uri d
  pub started : (d : Document) → Contains all d → holds_resource uri d ≡ true → Contains reached d
  pub followed : (d : Document) → Contains reached d → Contains waiting d ⊎ ((e : Document) → Contains all e → refers_to d e ≡ true → Contains reached e)
  pub waits : (d : Document) → Contains waiting d → Contains reached d

pub part_after : (all : List Document) (p : Document → Bool) (a v b w : List Document) → IsPart a all → Adds all p a v b w → IsPart b all
part_after all p a v b w part adds = record {
  ascend = adds.ascend;
  inside = λ d c. elim (adds.only d c) [ inl before ↦ part.inside d before | inr new ↦ new.0 ];
}

pub begun : (all : List Document) (uri : Text) (reached waiting : List Document) → IsPart [] all → Adds all (holds_resource uri) [] [] reached waiting → IsVisit all uri reached waiting
begun all uri reached waiting none adds = record {
  part = part_after all (holds_resource uri) [] [] reached waiting none adds;
  in_set = λ d c. elim (adds.only d c) [ inl before ↦ absurd (nothing_in d before) | inr new ↦ holds new.0 new.1 ];
  started = adds.found;
  followed = λ d c. elim (adds.new_wait d c) [ inl before ↦ absurd (nothing_in d before) | inr waits ↦ inl waits ];
  waits = λ d c. elim (adds.waiting_reached d c) [ inl before ↦ absurd (nothing_in d before) | inr there ↦ there ];
}

pub gone_on : (all : List Document) (uri : Text) (d : Document) (a v b w : List Document) → IsVisit all uri a (v ++ d ∷ []) → Adds all (refers_to d) a v b w → IsVisit all uri b w
gone_on all uri d a v b w visit adds = record {
  part = part_after all (refers_to d) a v b w visit.part adds;
  in_set = λ e c. elim (adds.only e c) [
    | inl before ↦ visit.in_set e before
    | inr new ↦ referred (visit.in_set d (visit.waits d (Contains-append_right v (d ∷ []) d (is_first d [])))) new.0 new.1
  ];
  started = λ e c passes. adds.kept e (visit.started e c passes);
  followed = λ e c. elim (adds.new_wait e c) [
    | inl before ↦ elim (visit.followed e before) [
      | inl waited ↦ elim (Contains-append_cases v (d ∷ []) e waited) [
        | inl still ↦ inl (adds.still_wait e still)
        | inr last ↦ elim (first_or_later d e [] last) [
          | inl same ↦ inr (λ x i refers. adds.found x i (ap (λ z. refers_to z x) same ∙ refers))
          | inr none ↦ absurd (nothing_in e none)
        ]
      ]
      | inr closed ↦ inr (λ x i refers. adds.kept x (closed x i refers))
    ]
    | inr waits ↦ inl waits
  ];
  waits = λ e c. elim (adds.waiting_reached e c) [
    | inl before ↦ adds.kept e (visit.waits e (Contains-append_left v (d ∷ []) e before))
    | inr there ↦ there
  ];
}

complete : (all : List Document) (uri : Text) (reached : List Document) → IsVisit all uri reached [] → (d : Document) → IsReached all uri d → Contains reached d
complete all uri reached visit d (holds c passes) = visit.started d c passes
complete all uri reached visit e (referred {d = d} r c refers) = elim (visit.followed d (complete all uri reached visit d r)) [
  | inl waits ↦ absurd (nothing_in d waits)
  | inr closed ↦ closed e c refers
]

pub reach_ascends : (all : List Document) (uri : Text) → Ascend all → Ascend (reach all uri)
reach_ascends all uri ascend =
    let part : (p : Document → Bool) × (reach all uri ≡ filter p all) = reach_as_filter all uri in
    subst Ascend (sym part.1) (kept_ascending (slice_cmp nat_cmp) key_of part.0 all ascend)

-- where nothing waits, all is reached
pub finished : (all : List Document) (uri : Text) (reached : List Document) → Ascend all → IsVisit all uri reached [] → reached ≡ reach all uri
finished all uri reached ascend visit =
    same_ascending (slice_cmp nat_cmp) nat_list_cmp_total key_of reached (reach all uri) visit.part.ascend (reach_ascends all uri ascend)
    (λ d c. (reach_is_least all uri (ascend_distinct all ascend) d).1 (visit.in_set d c))
    (λ d c. complete all uri reached visit d ((reach_is_least all uri (ascend_distinct all ascend) d).0 c))

-- part of the documents are those of all that stand in it
as_part : (reached all : List Document) → Ascend all → IsPart reached all → reached ≡ filter (λ d. is_some (document_of reached d.canonical)) all
as_part reached all ascend part =
    same_ascending (slice_cmp nat_cmp) nat_list_cmp_total key_of reached (filter (λ d. is_some (document_of reached d.canonical)) all) part.ascend
    (kept_ascending (slice_cmp nat_cmp) key_of (λ d. is_some (document_of reached d.canonical)) all ascend)
    (λ d c. in_filter (λ e. is_some (document_of reached e.canonical)) d all (part.inside d c)
    (ap is_some (found_some (λ (x : Document). same_text d.canonical x.canonical) d reached c ((bytes_decides d.canonical d.canonical).1 refl)).1))
    (λ d c. let kept = from_filter (λ e. is_some (document_of reached e.canonical)) d all c in found_itself reached all d ascend part kept.0 kept.1)

-- so no two of them hold one resource
pub part_table : (reached all : List Document) → AreSound all → IsPart reached all → has_repeat same_text (resource_uris (table_of reached)) ≡ false
part_table reached all sound part =
    ap (has_repeat same_text) (table_uris reached)
    ∙ subst (λ ds. has_repeat same_text (resource_uris_of ds) ≡ false) (sym (as_part reached all sound.ascend part))
    (filtered same_text resources_of (λ d. is_some (document_of reached d.canonical)) all sound.distinct)

-- they are no more than all
pub no_more : (reached all : List Document) → Ascend all → IsPart reached all → length reached ≤ length all
no_more reached all ascend part =
    omega (arith, ap length (as_part reached all ascend part), filter_short (λ d. is_some (document_of reached d.canonical)) all)

pub none_part : (all : List Document) → IsPart [] all
unfolding IsStrictlySortedBy
none_part all = record { ascend = tt; inside = λ d c. absurd (nothing_in d c) }
