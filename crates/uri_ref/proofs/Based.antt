-- The base form of a URI, by the tests that are made on the way.
use Rattle.std.proofs.Common.{◌≡◌, Bool, true, false, ◌||◌, cond, Option, Some, None, is_some, is_none, Result, Ok, Err, refl, sym, ap, ◌∙◌}
use Rattle.definitions.specs.Faults.{Fault, bad_uri}
use Rattle.definitions.specs.Values.{Text}
use Rattle.definitions.specs.Uris.{Parts, is_identifier, recompose, split}
use Rattle.definitions.specs.Resolution.{base_form, request_uri, resolve}

abbrev form : Parts → Result Text Fault
form p = cond (is_some p.fragment || is_none p.scheme) (Err bad_uri) (request_uri (resolve p p))

none_of : (o : Option Text) → is_some o ≡ true → is_none o ≡ false
none_of None h = cc
none_of (Some t) h = refl

form_at : (f s : Bool) (x y : Result Text Fault) → f ≡ false → s ≡ false → cond (f || s) x y ≡ y
form_at true s x y hf hs = cc
form_at false true x y hf hs = cc
form_at false false x y hf hs = refl

pub based : (uri : Text) (p q : Parts) → p ≡ split uri → is_some p.fragment ≡ false → is_some p.scheme ≡ true → q ≡ resolve p p → is_identifier q ≡ true → base_form uri ≡ Ok (recompose q)
based uri p q e f s r i =
    ap form (sym e)
    ∙ form_at (is_some p.fragment) (is_none p.scheme) (Err bad_uri) (request_uri (resolve p p)) f (none_of p.scheme s)
    ∙ ap request_uri (sym r)
    ∙ ap (λ b. cond {A = Result Text Fault} b (Ok (recompose q)) (Err bad_uri)) i
