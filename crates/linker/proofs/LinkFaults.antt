-- What is known of documents that were reached and linked.
use Rattle.std.proofs.Common.{◌≡◌, List, [], ◌∷◌, length, Option, Some, None, option_map, Bool, true, false, is_some, Contains, sym, refl, ap, ◌∙◌, subst, true≢false, arith}
use Rattle.std.proofs.lemmas.Bool.{false_from_ne_true}
use Rattle.std.specs.List.{list_any}
use Rattle.definitions.specs.Values.{Text, same_text}
use Rattle.definitions.specs.Lists.{has_repeat}
use Rattle.definitions.specs.Faults.{unresolved, not_found}
use Rattle.definitions.specs.Schemas.{Document, table_of}
use Rattle.definitions.specs.Scanning.{resource_uris}
use Rattle.definitions.specs.Targets.{resource_root}
use Rattle.definitions.specs.Reach.{holds, holds_resource, reach, least, missing_references}
use Rattle.definition_laws.proofs.LeastTexts.{no_least}
use Rattle.definition_laws.proofs.Membership.{any_where}
use Rattle.definition_laws.proofs.Repeats.{none_of}
use Rattle.definition_laws.proofs.ReachedSets.{reach_is_least, nothing_from_nothing_held}
use Rattle.definition_laws.proofs.Resources.{reached_distinct, table_uris}
use Rattle.linker.specs.LinkFaults.{link_fault}
use Rattle.definitions.specs.Documents.{Ascend, AreSound}
use Rattle.linker.proofs.Positions.{ascend_distinct}
use Rattle.linker.proofs.Tables.{root_in_holder}
use Rattle.linker.proofs.Visits.{reach_ascends}

-- ---- faults
pub none_found : (ds : List Document) → length ds ≡ 0 → link_fault ds ≡ Some not_found
unfolding link_fault
none_found [] e = refl
none_found (d ∷ ds) e = absurd (omega (arith, e))

pub judged : (ds : List Document) (o : Option Text) → (length ds ≡ 0 → ⊥) → o ≡ least (missing_references ds) → link_fault ds ≡ option_map unresolved o
unfolding link_fault
judged [] o some_there e = absurd (some_there refl)
judged (d ∷ ds) o some_there e = ap (option_map unresolved) (sym e)

nothing : (o : Option Text) → option_map unresolved o ≡ None → o ≡ None
nothing None e = refl
nothing (Some t) e = cc

pub linked_whole : (ds : List Document) → link_fault ds ≡ None → missing_references ds ≡ []
unfolding link_fault
linked_whole [] e = cc
linked_whole (d ∷ ds) e = no_least (missing_references (d ∷ ds)) (nothing (least (missing_references (d ∷ ds))) e)

some_linked : (ds : List Document) → link_fault ds ≡ None → ds ≡ [] → ⊥
unfolding link_fault
some_linked [] e none = cc
some_linked (d ∷ ds) e none = cc

-- ---- what was reached
pub reached_table : (all : List Document) (uri : Text) → AreSound all → has_repeat same_text (resource_uris (table_of (reach all uri))) ≡ false
reached_table all uri sound = ap (has_repeat same_text) (table_uris (reach all uri)) ∙ reached_distinct all uri sound.distinct

held_somewhere : (all : List Document) (uri : Text) → AreSound all → (reach all uri ≡ [] → ⊥) → list_any (holds_resource uri) (reach all uri) ≡ true
held_somewhere all uri sound some_there = by_test (list_any (holds_resource uri) (reach all uri)) refl
  where
    by_test : (b : Bool) → list_any (holds_resource uri) (reach all uri) ≡ b → b ≡ true
    by_test true e = refl
    by_test false e = absurd (some_there ((nothing_from_nothing_held all uri).1 (λ d c. false_from_ne_true (holds_resource uri d) (λ held.
        true≢false (sym held ∙ none_of (holds_resource uri) d (reach all uri) e ((reach_is_least all uri (ascend_distinct all sound.ascend) d).1 (holds c held)))))))

pub asked_root : (all : List Document) (uri : Text) → AreSound all → link_fault (reach all uri) ≡ None → is_some (resource_root (table_of (reach all uri)) uri) ≡ true
asked_root all uri sound linked =
    let by : (d : Document) × (Contains (reach all uri) d × (holds_resource uri d ≡ true)) = any_where (holds_resource uri) (reach all uri) (held_somewhere all uri sound (some_linked (reach all uri) linked)) in
    ap is_some (root_in_holder (reach all uri) uri by.0 (record { distinct = reached_table all uri sound; inside = by.1.0; holds = by.1.1 })) ∙ by.1.1

-- what linked documents keep
pub record IsLinked (ds : List Document) (uri : Text) : Type 0 where
  pub ascend : Ascend ds
  pub distinct : has_repeat same_text (resource_uris (table_of ds)) ≡ false
  pub whole : missing_references ds ≡ []
  pub asked : is_some (resource_root (table_of ds) uri) ≡ true

pub is_linked : (all ds : List Document) (uri : Text) → AreSound all → ds ≡ reach all uri → link_fault ds ≡ None → IsLinked ds uri
is_linked all ds uri sound is linked =
    let reached_linked = subst (λ xs. link_fault xs ≡ None) is linked in
    subst (λ xs. IsLinked xs uri) (sym is) (record {
      ascend = reach_ascends all uri sound.ascend;
      distinct = reached_table all uri sound;
      whole = linked_whole (reach all uri) reached_linked;
      asked = asked_root all uri sound reached_linked;
    })
