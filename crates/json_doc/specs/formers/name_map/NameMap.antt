-- `NameMap` as a type that may hold the type that holds it.
use mathlib.Core.Path.{◌≡◌, refl, sym, ap}
use mathlib.Core.List.{List, [], ◌∷◌, map}
use mathlib.Core.Former.{Former, this, const, pair, list, via, children}
use base.Stored.{code_map, coded×, gcons}
use denote.RattleType.{RattleType}
use denote.HoleLaws.{Alike}
use denote.HolePlaces.{Recodes, struct_places, stays, laid}
use denote.Hole.Carrier.{listed}
use denote.Hole.Fix.{over}
use denote.Param.Weighed.{Weighed, w_const, w_pair, w_list}
use denote.Model.Placed.{view_places}
use denote.Struct.Tuple.{Tuple, tuple_type}
use Rattle.std.specs.List.Sorted.{IsStrictlySortedBy-prop}
use Rattle.std.specs.Map.{keys_of, values_of}
use Rattle.std.specs.declared.alloc.Global.{Global}
use Rattle.std.specs.contracts.alloc.Global as heap
use Rattle.std.specs.contracts.impls.GlobalAllocator.TheImpl.{ghosts}
use Rattle.std.specs.formers.vec.Vec as vec
use Rattle.json_doc.specs.SmallTexts.{text_cmp}
use Rattle.json_doc.specs.declared.small_text.SmallText.{SmallText}
use Rattle.json_doc.specs.contracts.small_text.SmallText as small_text
use Rattle.json_doc.specs.declared.name_map.NameMap.TheInside.{Inside}
use Rattle.json_doc.specs.declared.name_map.NameMap.TheView.{view, invariant}
use Rattle.json_doc.specs.contracts.name_map.NameMap as C
use Rattle.json_doc.specs.contracts.name_map.NameMap.TheInside as I

abbrev Name : Type 0
Name = SmallText

-- a name beside one of g's values
abbrev entry : Former {0} → Former {0}
entry g = pair (const Name) g

abbrev on_value : {X Y : Type 0} → (X → Y) → Name × X → Name × Y
on_value h e = (e.0, h e.1)

values_listed : (X : Type 0) (es : List (Name × X)) → listed _ (children (list (entry this)) X es) ≡ values_of es
values_listed X [] = refl
values_listed X (e ∷ es) = ap (λ l. e.1 ∷ l) (values_listed X es)

keys_on_values : {X Y : Type 0} (h : X → Y) (es : List (Name × X)) → keys_of (map (on_value h) es) ≡ keys_of es
keys_on_values h [] = refl
keys_on_values h (e ∷ es) = ap (λ l. e.0 ∷ l) (keys_on_values h es)

abbrev pub the_former : Former {0} → Former {0}
the_former g = list (entry g)

abbrev pub the_weighed : {g : Former {0}} → Weighed g → Weighed (the_former g)
the_weighed w = w_list (w_pair (w_const Name) w)

pub the_empty : List (Name × ⊥)
the_empty = []

abbrev pub the_items : (X : Type 0) → List (Name × X) → List X
the_items X d = values_of d

pub the_items_listed : (X : Type 0) (d : List (Name × X)) → listed _ (children (the_former this) X d) ≡ the_items X d
the_items_listed X d = values_listed X d

abbrev fields : Former {0}
fields = via (vec.the_former (entry this) Global) Inside (λ X a. a.entries) (λ X v. record { entries = v }) (λ X a. refl) (λ X v. refl)

abbrev name : RattleType
name = small_text.the_row

module _ (R S : RattleType) (h : R.Denot → S.Denot) where
  pair_places : Alike R S h → Alike (Tuple (name ∷ R ∷ [])) (Tuple (name ∷ S ∷ [])) (on_value h)
  pair_places a = struct_places (tuple_type (name ∷ R ∷ [])) (tuple_type (name ∷ S ∷ [])) (λ n. n, (h, tt)) (on_value h) (λ d. refl) refl (stays name, (laid _ _ _ a, tt))

  pub the_places : Alike R S h → Alike (C.the_row R) (C.the_row S) ((the_former this).map R.Denot S.Denot h)
  the_places a = view_places fields (the_former this) view (λ X Y k u. refl) (λ X u. refl) R.Denot S.Denot h (C.the_row R).coded (C.the_row S).coded
      (invariant R.Denot) (invariant S.Denot) (λ u. IsStrictlySortedBy-prop text_cmp _) (λ u. IsStrictlySortedBy-prop text_cmp _)
      (λ u s. rw (keys_on_values h u.entries.items) s) (λ u s. rw (keys_on_values h u.entries.items) at s)
      (over (I.the_row R)) (over (I.the_row S))
      (struct_places (I.the_type R) (I.the_type S) (vec.mapped (on_value h), tt) _ (λ d. refl) refl
      (laid _ _ _ (vec.the_places heap.the_row ghosts (Tuple (name ∷ R ∷ [])) (Tuple (name ∷ S ∷ [])) (on_value h) (pair_places a)), tt))

  pub the_codes_placed : Recodes R S h → Recodes (C.the_row R) (C.the_row S) ((the_former this).map R.Denot S.Denot h)
  the_codes_placed e d = sym (code_map (coded× name.coded R.coded).code (coded× name.coded S.coded).code (on_value h) (λ x i. gcons (name.coded.code x.0) (sym (e x.1) i)) d)
