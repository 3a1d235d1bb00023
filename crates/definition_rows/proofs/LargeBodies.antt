-- Bodies of as many bytes as there may be, and of one more.
use Rattle.std.proofs.Common.{◌≡◌, refl}
use Rattle.std.specs.Prelude.{codes, length, replicate, Err}
use Rattle.std.proofs.lemmas.List.{length-replicate}
use Rattle.definitions.specs.Bytes.{space}
use Rattle.definitions.specs.Values.{Text}
use Rattle.definitions.specs.Faults.{too_large}
use Rattle.definitions.specs.Texts.{parsed_value}
use Rattle.definitions.specs.Searches.{Search}
use Rattle.definitions.specs.Registries.{Registry, put, validate, batch, refused, body_value}
use Rattle.definitions.specs.Steps.{step}

read_still : (body : Text) → length body ≡ 1048576 → body_value body ≡ parsed_value body
read_still body e = rw e refl

read_no_more : (body : Text) → length body ≡ 1048577 → body_value body ≡ Err too_large
read_no_more body e = rw e refl

spaces : body_value (replicate 1048577 space) ≡ Err too_large
spaces = read_no_more (replicate 1048577 space) (length-replicate 1048577 space)

-- whatever the registry holds
too_large_to_put : (search : Search) (g : Registry) (body : Text) → length body ≡ 1048577 → step search g (put (codes "https://ex.org/s") body) ≡ (refused too_large, g)
too_large_to_put search g body e = rw e refl

too_large_to_validate : (search : Search) (g : Registry) (body : Text) → length body ≡ 1048577 → step search g (validate (codes "https://ex.org/s") body) ≡ (refused too_large, g)
too_large_to_validate search g body e = rw e refl

too_large_a_batch : (search : Search) (g : Registry) (body : Text) → length body ≡ 1048577 → step search g (batch body) ≡ (refused too_large, g)
too_large_a_batch search g body e = rw e refl
