-- What a new buffered reader has left.
use Rattle.std.proofs.Common.{◌≡◌, ◌∙◌, [], ◌==◌, Option, Some, None, ap, refl, List, ℕ, if◌then◌else◌}
use Rattle.std.specs.Io.Buffered.{reader_buffer, reader_capacity, reader_inner, reader_remaining}
use Rattle.std.specs.Io.KnownBytes.{prepend_known}
use Rattle.std.specs.declared.io.buffered.BufReader.{BufReader}

nothing_before : (known : Option (List ℕ)) → prepend_known [] known ≡ known
nothing_before None = refl
nothing_before (Some bytes) = refl

pub buffered : {T A : Type 0} (remaining : T → Option (List ℕ)) (r : BufReader T A) (inner : T) → reader_inner r ≡ inner → reader_buffer r ≡ [] → reader_capacity r ≡ 65536
    → reader_remaining remaining r ≡ remaining inner
buffered remaining r inner is empty capacity =
    ap (λ n. if n == 0 then None else prepend_known (reader_buffer r) (remaining (reader_inner r))) capacity
    ∙ ap (λ b. prepend_known b (remaining (reader_inner r))) empty ∙ nothing_before (remaining (reader_inner r)) ∙ ap remaining is
