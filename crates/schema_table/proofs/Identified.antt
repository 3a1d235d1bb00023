-- The `$id` of a schema, found among its keywords.
use Rattle.std.proofs.Common.{◌≡◌, ◌||◌, [], ◌∷◌, List, Bool, true, false, not, cond, Option, Some, None, IfSome, is_some, codes, option_map, unwrap_or, refl, sym, ap, ◌∙◌}
use Rattle.std.proofs.lemmas.Bool.{and_parts}
use Rattle.std.specs.List.{list_all}
use Rattle.std.specs.Option.{option_or}
use Rattle.definitions.specs.Keywords.{Keyword, keyword_named, keywords}
use Rattle.definitions.specs.Scanning.{is_id}
use Rattle.definitions.specs.Shapes.{Shape, any_value, identifier}
use Rattle.definitions.specs.Values.{Text, Value, Members, string, object, member, as_string, same_text, text_at}
use Rattle.keywords.specs.Rows.{shape_named}
use Rattle.lemmas.proofs.Texts.{same_text_is}
use Rattle.schema_table.specs.Missteps.{misstep_at, shape_missteps}
use Rattle.schema_table.specs.Openings.{IsOpenedBy, IsReadInside, id_under}
use Rattle.schema_table.specs.declared.resources.Opened.{Opened}

abbrev asks_id : Shape → Bool
asks_id identifier = true
asks_id _ = false

-- `$id` alone asks for an identifier
abbrev names_it : Keyword → Bool
names_it k = not (asks_id k.shape) || same_text (codes "$id") k.name

all_name_it : list_all names_it keywords ≡ true
all_name_it = refl

module _ (name : Text) (other : same_text (codes "$id") name ≡ false) where
  abbrev asked : Option Keyword → Bool
  asked k = asks_id (unwrap_or (option_map (λ (r : Keyword). r.shape) k) any_value)

  not_asked : (a n : Bool) → (not a || n) ≡ true → n ≡ false → a ≡ false
  not_asked true true h e = cc
  not_asked true false h e = cc
  not_asked false n h e = refl

  unasked : (rows : List Keyword) → list_all names_it rows ≡ true → asked (keyword_named name rows) ≡ false
  unasked [] all = refl
  unasked (k ∷ ks) all =
      let parts = and_parts (names_it k) (list_all names_it ks) all in
      by (same_text name k.name) refl parts.0 (unasked ks parts.1)
    where
      by : (b : Bool) → same_text name k.name ≡ b → names_it k ≡ true → asked (keyword_named name ks) ≡ false → asked (cond b (Some k) (keyword_named name ks)) ≡ false
      by true same here rest = not_asked (asks_id k.shape) (same_text (codes "$id") k.name) here (ap (same_text (codes "$id")) (sym (same_text_is name k.name same)) ∙ other)
      by false same here rest = rest

  other_shape : asks_id (shape_named name) ≡ false
  unfolding shape_named
  other_shape = unasked keywords all_name_it

no_id : (s : Shape) (v : Value) → asks_id s ≡ false → id_under s v ≡ None
no_id identifier v e = cc
no_id _ v e = refl

its_shape : shape_named (codes "$id") ≡ identifier
unfolding shape_named
its_shape = refl

-- the value of an `$id` that passes is a text
is_text : (base : Text) (v : Value) (rest : Option Text) → is_id base v ≡ true → as_string v ≡ option_or (as_string v) rest
is_text base (string t) rest e = refl
is_text base _ rest e = cc

passes : (base : Text) (at_root : Bool) (name : Text) (v : Value) → shape_missteps identifier base at_root name v ≡ [] → is_id base v ≡ true
unfolding shape_missteps
passes base at_root name v e = by (is_id base v) e
  where
    by : (b : Bool) → cond b [] (misstep_at identifier name ∷ []) ≡ [] → b ≡ true
    by true e = refl
    by false e = cc

-- of a schema whose first keyword passes
pub first_id : (base : Text) (at_root : Bool) (name : Text) (v : Value) (ms : Members) → shape_missteps (shape_named name) base at_root name v ≡ []
    → text_at (codes "$id") (object (member name v ms)) ≡ option_or (id_under (shape_named name) v) (text_at (codes "$id") (object ms))
first_id base at_root name v ms passed = by (same_text (codes "$id") name) refl
  where
    by : (b : Bool) → same_text (codes "$id") name ≡ b
        → text_at (codes "$id") (object (member name v ms)) ≡ option_or (id_under (shape_named name) v) (text_at (codes "$id") (object ms))
    by true e =
        let shape : shape_named name ≡ identifier = ap shape_named (sym (same_text_is (codes "$id") name e)) ∙ its_shape in
        rw e (is_text base v (text_at (codes "$id") (object ms)) (passes base at_root name v (ap (λ s. shape_missteps s base at_root name v) (sym shape) ∙ passed))
        ∙ ap (λ s. option_or (id_under s v) (text_at (codes "$id") (object ms))) (sym shape))
    by false e =
        rw e (ap (λ o. option_or o (text_at (codes "$id") (object ms))) (sym (no_id (shape_named name) v (other_shape name e))))

-- ---- the first that is found stays
abbrev pub id_of_opened : Option Opened → Option Text
id_of_opened o = option_map (λ (r : Opened). r.id.now) o

-- what was found so far, and what is left
pub record IsFound (base : Text) (id : Option Text) (opened : Option Opened) (left : Option Text) : Type 0 where
  pub first : id ≡ option_or (id_of_opened opened) left
  pub named : IfSome opened (IsReadInside base)

pub found-first : (base : Text) (id here left rest : Option Text) (o found : Option Opened) → is_some o ≡ false → IsFound base id o left → left ≡ option_or here rest → IsOpenedBy base here found
    → IsFound base id found rest
found-first base id here left rest None found e so is opened = record { first = so.first ∙ is ∙ ap (λ t. option_or t rest) (sym opened.same); named = opened.named }
found-first base id here left rest (Some r) found e so is opened = cc

pub found-before : (base : Text) (id left rest : Option Text) (o : Option Opened) → is_some o ≡ true → IsFound base id o left → IsFound base id o rest
found-before base id left rest None e so = cc
found-before base id left rest (Some r) e so = record { first = so.first; named = so.named }

pub found-all : (base : Text) (id : Option Text) (o : Option Opened) → IsFound base id o None → IsOpenedBy base id o
found-all base id o so = record { same = sym (so.first ∙ none (id_of_opened o)); named = so.named }
  where
    none : (t : Option Text) → option_or t None ≡ t
    none None = refl
    none (Some t) = refl
