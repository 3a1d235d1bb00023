-- Troubles that are told one after the other.
use Rattle.std.proofs.Common.{◌≡◌, ◌≢◌, ◌∙◌, ◌++◌, ◌∷◌, [], ◌&&◌, Bool, true, false, List, refl, sym, subst}
use Rattle.std.specs.List.{All}
use Rattle.std.proofs.lemmas.List.Elements.{All-append, All-nil, All-push}
use Rattle.definitions.specs.Values.{Text}
use Rattle.file_forms.specs.Refusals.{Tells}
use Rattle.file_forms.specs.Told.{TellsAll, TellsSome, ToldUnless}
use Rattle.file_forms.specs.declared.trouble.Trouble.{Trouble}

both_told : (xs ys : List Trouble) (r s t : Text) → TellsAll xs r s → TellsAll ys s t → TellsAll (xs ++ ys) r t
both_told [] ys r s t e h = subst (λ u. TellsAll ys u t) e h
both_told (x ∷ xs) ys r s t (between, one, rest) h = (between, one, both_told xs ys between s t rest h)

not_none : (xs ys : List Trouble) → xs ≢ [] → xs ++ ys ≢ []
not_none [] ys some = λ e. some refl
not_none (x ∷ xs) ys some = λ e. let no : x ∷ xs ++ ys ≡ [] = e in cc

pub one_told : (Is : Trouble → Type 0) (trouble : Trouble) (s t : Text) → Is trouble → Tells trouble s t → TellsSome Is s t
one_told Is trouble s t is told = record { troubles = trouble ∷ []; some = λ e. let no : trouble ∷ [] ≡ [] = e in cc; each = All-push Is [] trouble (All-nil Is) is; told = (t, told, refl) }

pub some_told : (Is : Trouble → Type 0) (r s t : Text) → TellsSome Is r s → TellsSome Is s t → TellsSome Is r t
some_told Is r s t x y = record {
  troubles = x.troubles ++ y.troubles;
  some = not_none x.troubles y.troubles x.some;
  each = All-append Is x.troubles y.troubles x.each y.each;
  told = both_told x.troubles y.troubles r s t x.told y.told;
}

pub other_told : (P Q : Trouble → Type 0) (s t : Text) → ((trouble : Trouble) → P trouble → Q trouble) → TellsSome P s t → TellsSome Q s t
other_told P Q s t f x = record { troubles = x.troubles; some = x.some; each = λ k d within. f _ (x.each k d within); told = x.told }

pub other_unless : (P Q : Trouble → Type 0) (b : Bool) (s t : Text) → ((trouble : Trouble) → P trouble → Q trouble) → ToldUnless P b s t → ToldUnless Q b s t
other_unless P Q true s t f x = x
other_unless P Q false s t f x = other_told P Q s t f x

pub both_unless : (Is : Trouble → Type 0) (a b : Bool) (r s t : Text) → ToldUnless Is a r s → ToldUnless Is b s t → ToldUnless Is (a && b) r t
both_unless Is true true r s t x y = y ∙ x
both_unless Is true false r s t x y = subst (λ u. TellsSome Is u t) x y
both_unless Is false true r s t x y = subst (TellsSome Is r) (sym y) x
both_unless Is false false r s t x y = some_told Is r s t x y

-- one more, whether there were some before or not
pub some_after : (Is : Trouble → Type 0) (b : Bool) (r s t : Text) → ToldUnless Is b r s → TellsSome Is s t → TellsSome Is r t
some_after Is true r s t x y = subst (λ u. TellsSome Is u t) x y
some_after Is false r s t x y = some_told Is r s t x y
