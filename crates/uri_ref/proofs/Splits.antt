-- The parts of a text, from the cuts one after another.
use Rattle.std.proofs.Common.{◌≡◌, ◌==◌, Option, refl}
use Rattle.definitions.specs.Values.{Text}
use Rattle.definitions.specs.Uris.{split, scheme_and_rest, authority_and_path}
use Rattle.definitions.specs.Lists.{cut_at}
use Rattle.uri_ref.specs.Views.{made_parts}

pub split_from :
    (text unfragmented unqueried rest : Text) (s a : Option Text) (p : Text) (q f : Option Text)
    → unfragmented ≡ (cut_at (λ c. c == 35) text).0 → f ≡ (cut_at (λ c. c == 35) text).1
    → unqueried ≡ (cut_at (λ c. c == 63) unfragmented).0 → q ≡ (cut_at (λ c. c == 63) unfragmented).1
    → s ≡ (scheme_and_rest unqueried).0 → rest ≡ (scheme_and_rest unqueried).1
    → a ≡ (authority_and_path rest).0 → p ≡ (authority_and_path rest).1
    → made_parts s a p q f ≡ split text
split_from text unfragmented unqueried rest s a p q f e1 e2 e3 e4 e5 e6 e7 e8 =
    rw (e7, e8, e6, e5, e3, e4, e1, e2) refl
