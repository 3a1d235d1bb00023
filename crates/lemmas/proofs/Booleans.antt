-- Booleans that are true together.
use Rattle.std.proofs.Common.{◌≡◌, Bool, true, false, refl, sym}

pub same_truth : (a b : Bool) → (a ≡ true → b ≡ true) → (b ≡ true → a ≡ true) → a ≡ b
same_truth true b there back = sym (there refl)
same_truth false true there back = back refl
same_truth false false there back = refl
