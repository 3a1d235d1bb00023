-- Bytes without a line feed, as a search for one finds them.
use Rattle.std.proofs.Common.{◌≢◌, ◌<◌, ◌≤◌, ◌+◌, ◌==◌, ℕ, take, drop, get_or, ap, ◌∙◌, arith}
use Rattle.std.proofs.lemmas.List.{get_or-drop, get_or-take}
use Rattle.definitions.specs.Values.{Text}
use Rattle.memchr.specs.Find.{Nowhere, Passes, is_byte}

pub no_feeds : (bytes : Text) (from n count : ℕ) → Nowhere (Passes (is_byte 10) (take n (drop from bytes))) 0 count → count ≤ n → (i : ℕ) → i < count → get_or bytes (from + i) 0 ≢ 10
no_feeds bytes from n count none most i less is =
    none i (omega arith) less (ap (λ b. b == 10) (get_or-take n (drop from bytes) i 0 (omega (arith, less, most)) ∙ get_or-drop from bytes i 0 ∙ is))
