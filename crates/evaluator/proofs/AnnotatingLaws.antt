-- Laws of the names that annotate with their own value.
use Rattle.std.proofs.Common.{◌≡◌, List, [], ◌∷◌, ◌∙◌, Bool, true, Some, None, cond, refl, sym, ap, map, filter}
use Rattle.definitions.specs.Values.{Text, Value, null, boolean, integer, string, array, object, members}
use Rattle.definitions.specs.Applied.{Application}
use Rattle.definitions.specs.Evaluated.{is_annotation}
use Rattle.definitions.specs.Outcomes.{other_annotations, unit}
use Rattle.json_doc.specs.Kinds.{as_members}
use Rattle.evaluator.specs.Annotations.{annotations_among}

pub annotates_there : (a : Application) (s x : Value) (name : Text) (b : Bool) → a.schema.value ≡ s → a.instance ≡ x → b ≡ is_annotation s x name
    → is_annotation a.schema.value a.instance name ≡ b
annotates_there a s x name b e f h = ap (λ y. is_annotation y a.instance name) e ∙ ap (λ y. is_annotation s y name) f ∙ sym h

pub annotation_here : (a : Application) (name : Text) (v : Value) (rest : List (Text × Value)) → is_annotation a.schema.value a.instance name ≡ true
    → unit a name v ∷ annotations_among a rest ≡ annotations_among a ((name, v) ∷ rest)
annotation_here a name v rest e =
    let kept = filter (λ (m : Text × Value). is_annotation a.schema.value a.instance m.0) rest in
    sym (ap (λ b. map (λ (m : Text × Value). unit a m.0 m.1) (cond b ((name, v) ∷ kept) kept)) e)

others_among : (a : Application) (s : Value) → a.schema.value ≡ s → annotations_among a (members s) ≡ other_annotations a
others_among a s e = ap (λ v. annotations_among a (members v)) (sym e)

pub members_are : (v : Value) (ms : List (Text × Value)) → Some ms ≡ as_members v → members v ≡ ms
members_are (object ns) ms e = let same : ms ≡ members (object ns) = cc in sym same
members_are null ms e = absurd (cc)
members_are (boolean b) ms e = absurd (cc)
members_are (integer z) ms e = absurd (cc)
members_are (string s) ms e = absurd (cc)
members_are (array vs) ms e = absurd (cc)

-- what is no object has no members
pub no_members_in : (v : Value) → None ≡ as_members v → members v ≡ []
no_members_in (object ns) e = absurd (cc)
no_members_in null e = refl
no_members_in (boolean b) e = refl
no_members_in (integer z) e = refl
no_members_in (string s) e = refl
no_members_in (array vs) e = refl

pub no_others : (a : Application) (s : Value) → a.schema.value ≡ s → None ≡ as_members s → [] ≡ other_annotations a
no_others a s e h = ap (annotations_among a) (sym (no_members_in s h)) ∙ others_among a s e

pub others_are : (a : Application) (s : Value) (ms : List (Text × Value)) → a.schema.value ≡ s → Some ms ≡ as_members s → annotations_among a ms ≡ other_annotations a
others_are a s ms e h = ap (annotations_among a) (sym (members_are s ms h)) ∙ others_among a s e
