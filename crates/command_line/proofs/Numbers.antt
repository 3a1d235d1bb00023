-- A number that is read from the words.
use Rattle.std.proofs.Common.{◌≡◌, ℕ, Bool, true, false, Some, None, Ok, Err, refl, ap, arith}
use Rattle.std.specs.Str.Parse.{ParsesUnsigned, digits_value, without_leading_plus}
use Rattle.clap.specs.Words.{Text}
use Rattle.clap.specs.ValueTests.{is_unsigned_in}
use Rattle.clap.specs.declared.builder.value_parser.ValueParser.TheVariants.{Unsigned}
use Rattle.clap.proofs.ValueTestLemmas.{Accepts-accepts, accepts-Accepts}
use Rattle.command_line.specs.Calls.{number_in}

pub read_number : (E : Type 0) (text : Text) (n : ℕ) → ParsesUnsigned {E = E} 32 10 text (Ok n) → Some n ≡ number_in text
read_number E text n h =
    let value : ℕ = digits_value 10 (without_leading_plus text) in
    rw (Accepts-accepts false (Unsigned 0 4294967295) text (h.0.0, omega (arith, h.0.1), omega arith, omega (arith, h.0.1))) (ap Some h.1)

pub no_number : {E : Type 0} (text : Text) (e : E) → ParsesUnsigned 32 10 text (Err e) → None ≡ number_in text
no_number text e h = go (is_unsigned_in 0 4294967295 text) refl
  where
    go : (b : Bool) → is_unsigned_in 0 4294967295 text ≡ b → None ≡ number_in text
    go false t = rw t refl
    go true t =
        let a = accepts-Accepts false (Unsigned 0 4294967295) text t in
        absurd (h (a.0, omega (arith, a.3)))
