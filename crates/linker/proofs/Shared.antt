-- Lists of shared documents.
use Rattle.std.proofs.Common.{◌≡◌, ℕ, ◌+◌, ◌<◌, ◌++◌, take, length, get_or, Bool, cond, List, [], ◌∷◌, Some, map, refl, ap, arith}
use Rattle.std.proofs.lemmas.List.{map-append}
use Rattle.std.specs.List.{position_from}
use Rattle.std.specs.Global.{Global}
use Rattle.std.specs.declared.rc.Rc.{Rc}
use Rattle.lemmas.proofs.Lists.{map-take_more}
use Rattle.schema_scan.specs.CompiledDocuments.{compiled_view}
use Rattle.schema_scan.specs.declared.compiled.Compiled.{Compiled}
use Rattle.linker.specs.SharedDocuments.{shared_documents}

-- the number of what is found among the images
pub position_from-map : {X Y : Type 0} (p : Y → Bool) (f : X → Y) (k : ℕ) (xs : List X) → position_from p k (map f xs) ≡ position_from (λ x. p (f x)) k xs
position_from-map p f k [] = refl
position_from-map p f k (x ∷ xs) = ap (cond (p (f x)) (Some k)) (position_from-map p f (k + 1) xs)

-- one document more
pub shared_more : (ds : List (Rc Compiled Global)) (i : ℕ) (d : Rc Compiled Global) → i < length ds → d ≡ get_or ds i d
    → shared_documents (take (i + 1) ds) ≡ shared_documents (take i ds) ++ compiled_view d.value ∷ []
unfolding shared_documents
shared_more ds i d l e = map-take_more (λ (x : Rc Compiled Global). compiled_view x.value) ds i d l e

pub shared_none : shared_documents [] ≡ []
unfolding shared_documents
shared_none = refl

-- a document is pushed
pub shared_pushed : (ds : List (Rc Compiled Global)) (d : Rc Compiled Global) → shared_documents (ds ++ d ∷ []) ≡ shared_documents ds ++ compiled_view d.value ∷ []
unfolding shared_documents
shared_pushed ds d = map-append (λ (x : Rc Compiled Global). compiled_view x.value) ds (d ∷ [])

pub shared_empty : (ds : List (Rc Compiled Global)) → length ds ≡ 0 → shared_documents ds ≡ []
unfolding shared_documents
shared_empty [] e = refl
shared_empty (d ∷ ds) e = absurd (omega (arith, e))
