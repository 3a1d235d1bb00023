-- The definitions' test of equality is equality.
use Rattle.std.proofs.Common.{◌≡◌, ◌≢◌, suc, List, [], ◌∷◌, map, length, Bool, true, false, refl, ap, ap₂}
use Rattle.std.proofs.lemmas.Bool.Decides.{Decides-int_eq}
use Rattle.std.proofs.lemmas.Slice.Eq.{bytes_eq-Decides}
use Rattle.std.proofs.lemmas.Bool.{and_right, and_parts}
use Rattle.std.specs.Bool.{Decides}
use Rattle.definitions.specs.Values as json
use Rattle.definitions.specs.Values.{Value, null, boolean, integer, string, array, object, Elements, no_elements, element, no_members, member, same, same_boolean, same_elements, same_members, to_elements}
use Rattle.json_doc.specs.Docs.{value}
use Rattle.json_doc.specs.declared.doc.Doc.{Doc}

boolean-sound : (b c : Bool) → same_boolean b c ≡ true → b ≡ c
boolean-sound true true h = refl
boolean-sound true false h = cc
boolean-sound false true h = cc
boolean-sound false false h = refl

mutual
  same-sound : (u v : Value) → same u v ≡ true → u ≡ v
  same-sound null null h = refl
  same-sound null (boolean c) h = cc
  same-sound null (integer z) h = cc
  same-sound null (string t) h = cc
  same-sound null (array vs) h = cc
  same-sound null (object ms) h = cc
  same-sound (boolean b) null h = cc
  same-sound (boolean b) (boolean c) h = ap boolean (boolean-sound b c h)
  same-sound (boolean b) (integer z) h = cc
  same-sound (boolean b) (string t) h = cc
  same-sound (boolean b) (array vs) h = cc
  same-sound (boolean b) (object ms) h = cc
  same-sound (integer y) null h = cc
  same-sound (integer y) (boolean c) h = cc
  same-sound (integer y) (integer z) h = ap integer ((Decides-int_eq y z).0 h)
  same-sound (integer y) (string t) h = cc
  same-sound (integer y) (array vs) h = cc
  same-sound (integer y) (object ms) h = cc
  same-sound (string s) null h = cc
  same-sound (string s) (boolean c) h = cc
  same-sound (string s) (integer z) h = cc
  same-sound (string s) (string t) h = ap string ((bytes_eq-Decides s t).0 h)
  same-sound (string s) (array vs) h = cc
  same-sound (string s) (object ms) h = cc
  same-sound (array us) null h = cc
  same-sound (array us) (boolean c) h = cc
  same-sound (array us) (integer z) h = cc
  same-sound (array us) (string t) h = cc
  same-sound (array us) (array vs) h = ap array (same_elements-sound us vs h)
  same-sound (array us) (object ms) h = cc
  same-sound (object ls) null h = cc
  same-sound (object ls) (boolean c) h = cc
  same-sound (object ls) (integer z) h = cc
  same-sound (object ls) (string t) h = cc
  same-sound (object ls) (array vs) h = cc
  same-sound (object ls) (object ms) h = ap object (same_members-sound ls ms h)

  same_elements-sound : (us vs : Elements) → same_elements us vs ≡ true → us ≡ vs
  same_elements-sound no_elements no_elements h = refl
  same_elements-sound no_elements (element v vs) h = cc
  same_elements-sound (element u us) no_elements h = cc
  same_elements-sound (element u us) (element v vs) h =
      ap₂ element (same-sound u v (and_parts _ _ h).0) (same_elements-sound us vs (and_parts (same u v) _ h).1)

  same_members-sound : (ls ms : json.Members) → same_members ls ms ≡ true → ls ≡ ms
  same_members-sound no_members no_members h = refl
  same_members-sound no_members (member m v ms) h = cc
  same_members-sound (member l u ls) no_members h = cc
  same_members-sound (member l u ls) (member m v ms) h =
      let name : l ≡ m = (bytes_eq-Decides l m).0 (and_parts _ _ h).0 in
      let rest = (and_parts (json.same_text l m) _ h).1 in
      rw name (ap₂ (member m) (same-sound u v (and_parts _ _ rest).0) (same_members-sound ls ms (and_parts (same u v) _ rest).1))

boolean-refl : (b : Bool) → same_boolean b b ≡ true
boolean-refl true = refl
boolean-refl false = refl

mutual
  same-refl : (v : Value) → same v v ≡ true
  same-refl null = refl
  same-refl (boolean b) = boolean-refl b
  same-refl (integer z) = (Decides-int_eq z z).1 refl
  same-refl (string s) = (bytes_eq-Decides s s).1 refl
  same-refl (array vs) = same_elements-refl vs
  same-refl (object ms) = same_members-refl ms

  same_elements-refl : (vs : Elements) → same_elements vs vs ≡ true
  same_elements-refl no_elements = refl
  same_elements-refl (element v vs) = rw (same-refl v, same_elements-refl vs) refl

  same_members-refl : (ms : json.Members) → same_members ms ms ≡ true
  same_members-refl no_members = refl
  same_members-refl (member n v ms) = rw ((bytes_eq-Decides n n).1 refl, same-refl v, same_members-refl ms) refl

pub same-Decides : (u v : Value) → Decides (same u v) (u ≡ v)
same-Decides u v = (same-sound u v, λ e. rw (← e) (same-refl u))

pub same_elements-lengths : (us vs : List Doc) → length us ≢ length vs → same_elements (to_elements (map value us)) (to_elements (map value vs)) ≡ false
same_elements-lengths [] [] h = absurd (h refl)
same_elements-lengths [] (v ∷ vs) h = refl
same_elements-lengths (u ∷ us) [] h = refl
same_elements-lengths (u ∷ us) (v ∷ vs) h = and_right (same (value u) (value v)) _ (same_elements-lengths us vs (λ e. h (ap suc e)))
