-- The status once one more is counted.
use Rattle.std.proofs.Common.{◌≡◌, ◌≢◌, ◌≤◌, ◌==◌, ℕ, zero, suc, refl, sym, ap, max, arith, ◌∙◌}
use Rattle.std.proofs.Math.Nat.{max-zero}
use Rattle.std.proofs.lemmas.Grind.{common_steps}
use Rattle.file_checks.specs.Tallies.{status_of}
use Rattle.file_checks.specs.declared.tally.Tally.{Tally}
use Rattle.file_checks.specs.declared.tally.Verdict.{Verdict}
use Rattle.file_checks.specs.declared.tally.Verdict.TheVariants.{Valid, Invalid, Refused}
use Rattle.file_forms.specs.Accounts.{verdict_status}

of_refused : (i r j q : ℕ) → q ≢ 0 → status_of j q ≡ max (status_of i r) 2
of_refused i r j q ne = grind (arith, common_steps)

of_invalid : (i r j : ℕ) → j ≢ 0 → status_of j r ≡ max (status_of i r) 1
of_invalid i r j ne = grind (arith, common_steps)

pub counted : (verdict : Verdict) (old new : Tally) → (verdict ≡ Refused → new.refused ≢ 0) → (verdict ≡ Invalid → new.invalid ≢ 0) → old.refused ≤ new.refused
    → (verdict ≡ Valid → (new.refused ≡ old.refused) × (new.invalid ≡ old.invalid)) → (verdict ≡ Invalid → new.refused ≡ old.refused)
    → status_of new.invalid new.refused ≡ max (status_of old.invalid old.refused) (verdict_status verdict)
counted Valid old new refused invalid keeps valid alone =
    let same = valid refl in rw (same.0, same.1) (sym (max-zero (status_of old.invalid old.refused)))
counted Invalid old new refused invalid keeps valid alone = ap (status_of new.invalid) (alone refl) ∙ of_invalid old.invalid old.refused new.invalid (invalid refl)
counted Refused old new refused invalid keeps valid alone = of_refused old.invalid old.refused new.invalid new.refused (refused refl)
