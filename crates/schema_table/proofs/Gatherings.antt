-- What is gathered of one schema, and of more.
use Rattle.std.proofs.Common.{◌≡◌, List, [], ◌∷◌, ◌++◌, map, Bool, true, false, cond, filter, Result, Ok, Err, OnOk, refl, sym, ap, ◌∙◌, append_assoc, append-nil}
use Rattle.std.specs.List.{flat_map}
use Rattle.std.proofs.lemmas.List.{map-append}
use Rattle.std.proofs.lemmas.Grind.{flat_map-append}
use Rattle.std.proofs.lemmas.List.Elements.{filter-append}
use Rattle.schema_table.specs.Spots.{Spot, at_root}
use Rattle.schema_table.specs.Gathering.{Extends, Gathers, IsGathered, gathered_patterns, identifier_at, root_identifiers, root_uris, root_ways, spot_patterns, spot_references, spot_texts, marks}
use Rattle.schema_table.specs.PatternTexts.{patterns_at}
use Rattle.schema_table.specs.declared.gathered.Gathered.{Gathered}
use Rattle.schema_table.specs.declared.table.SchemaTable.{SchemaTable}

map-first : {A B : Type 0} (f : A → B) (b : Bool) (x : A) → map f (cond b (x ∷ []) []) ≡ cond b (f x ∷ []) []
map-first f true x = refl
map-first f false x = refl

pub root_uri-one : (s : Spot) (b : Bool) → at_root s ≡ b → root_uris (s ∷ []) ≡ cond b (s.resource ∷ []) []
root_uri-one s b e = map-first (λ (t : Spot). t.resource) (at_root s) s ∙ ap (λ k. cond k (s.resource ∷ []) []) e

pub root_way-one : (s : Spot) (b : Bool) → at_root s ≡ b → root_ways (s ∷ []) ≡ cond b (s.way ∷ []) []
root_way-one s b e = map-first (λ (t : Spot). t.way) (at_root s) s ∙ ap (λ k. cond k (s.way ∷ []) []) e

pub root_identifier-one : (s : Spot) (b : Bool) → at_root s ≡ b → root_identifiers (s ∷ []) ≡ cond b (identifier_at s.value ∷ []) []
root_identifier-one s b e = map-first (λ (t : Spot). identifier_at t.value) (at_root s) s ∙ ap (λ k. cond k (identifier_at s.value ∷ []) []) e

two : {A : Type 0} (x y z a b c : List A) → y ≡ x ++ a → z ≡ y ++ b → c ≡ a ++ b → z ≡ x ++ c
two x y z a b c e f g = f ∙ ap (λ w. w ++ b) e ∙ append_assoc x a b ∙ ap (λ w. x ++ w) (sym g)

none : {A : Type 0} (x : List A) → x ≡ x ++ []
none x = sym (append-nil x)

pub extends-none : (g : SchemaTable) → Extends g g []
extends-none g = record { uris = none _; ways = none _; identifiers = none _; references = none _; texts = none _; marks = none _ }

extends-append : (g h k : SchemaTable) (ss ts : List Spot) → Extends g h ss → Extends h k ts → Extends g k (ss ++ ts)
extends-append g h k ss ts a b =
    record {
      uris = two _ _ _ _ _ _ a.uris b.uris (ap (map (λ (s : Spot). s.resource)) (filter-append at_root ss ts) ∙ map-append (λ (s : Spot). s.resource) (filter at_root ss) (filter at_root ts));
      ways = two _ _ _ _ _ _ a.ways b.ways (ap (map (λ (s : Spot). s.way)) (filter-append at_root ss ts) ∙ map-append (λ (s : Spot). s.way) (filter at_root ss) (filter at_root ts));
      identifiers = two _ _ _ _ _ _ a.identifiers b.identifiers (ap (map (λ (s : Spot). identifier_at s.value)) (filter-append at_root ss ts) ∙ map-append (λ (s : Spot). identifier_at s.value) (filter at_root ss) (filter at_root ts));
      references = two _ _ _ _ _ _ a.references b.references (flat_map-append spot_references ss ts);
      texts = two _ _ _ _ _ _ a.texts b.texts (flat_map-append spot_texts ss ts);
      marks = two _ _ _ _ _ _ a.marks b.marks (flat_map-append marks ss ts);
    }

pub gathers-none : (g : Gathered) → Gathers g g []
gathers-none g = record { table = extends-none g.table; patterns = none _ }

pub gathers-append : (g h k : Gathered) (ss ts : List Spot) → Gathers g h ss → Gathers h k ts → Gathers g k (ss ++ ts)
gathers-append g h k ss ts a b =
    record {
      table = extends-append g.table h.table k.table ss ts a.table b.table;
      patterns = two _ _ _ _ _ _ a.patterns b.patterns (flat_map-append spot_patterns ss ts);
    }

-- ---- what a step adds
pub on_ok-opened : {T E : Type 0} (r : Result T E) (g h : Gathered) → gathered_patterns h ≡ gathered_patterns g → OnOk r (Extends g.table h.table []) → OnOk r (Gathers g h [])
on_ok-opened (Ok u) g h same more = record { table = more; patterns = same ∙ none (gathered_patterns g) }
on_ok-opened (Err e) g h same more = more

pub on_ok-added : {T E : Type 0} (r : Result T E) (g h : Gathered) (s : Spot) → Extends g.table h.table (s ∷ [])
    → OnOk r (gathered_patterns h ≡ gathered_patterns g ++ patterns_at s.value) → OnOk r (Gathers g h (s ∷ []))
on_ok-added (Ok u) g h s more texts = record { table = more; patterns = texts ∙ ap (λ ts. gathered_patterns g ++ ts) (none (patterns_at s.value)) }
on_ok-added (Err e) g h s more texts = texts

-- ---- what is gathered where there was nothing
pub gathered-anew : (g h : Gathered) (ss : List Spot) → IsGathered g [] → Gathers g h ss → IsGathered h ss
gathered-anew g h ss none more =
    record {
      table =
          record {
            uris = more.table.uris ∙ ap (λ ts. ts ++ root_uris ss) none.table.uris;
            ways = more.table.ways ∙ ap (λ ws. ws ++ root_ways ss) none.table.ways;
            identifiers = more.table.identifiers ∙ ap (λ ts. ts ++ root_identifiers ss) none.table.identifiers;
            references = more.table.references ∙ ap (λ ts. ts ++ flat_map spot_references ss) none.table.references;
            texts = more.table.texts ∙ ap (λ ts. ts ++ flat_map spot_texts ss) none.table.texts;
            marks = more.table.marks ∙ ap (λ ms. ms ++ flat_map marks ss) none.table.marks;
          };
      patterns = more.patterns ∙ ap (λ ts. ts ++ flat_map spot_patterns ss) none.patterns;
    }
