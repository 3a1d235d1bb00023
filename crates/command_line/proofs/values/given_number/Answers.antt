use Rattle.std.proofs.Common.{◌≡◌, ◌∙◌, ℕ, Option, Some, None, Result, refl, ap, option_and_then}
use Rattle.std.specs.Str.Parse.{ParsesUnsigned, ExplainsUnsignedError, HasUnsignedDigitsIfOk}
use Rattle.clap.specs.Words.{Text, found_of}
use Rattle.clap.specs.Matches.{ReadsOne}
use Rattle.clap.proofs.WalkLemmas.{one_text-rows}
use Rattle.command_line.specs.Calls.{number_in}
use Rattle.command_line.proofs.Numbers.{no_number, read_number}
use Rattle.command_line.proofs.values.given_number.Goals as goal

got_number : (E : Type 0) (P Q : Text → Result ℕ E → Type 0) (text : Option Text) (got : Option ℕ) → (text ≡ None → got ≡ None)
    → ((t : Text) → text ≡ Some t → ReadsOne (λ u r. ParsesUnsigned 32 10 u r × P u r × Q u r) t got)
    → got ≡ option_and_then number_in text
got_number E P Q None got none value = none refl
got_number E P Q (Some t) (Some n) none value = read_number E t n (value t refl).0
got_number E P Q (Some t) None none value = let p = value t refl in no_number t p.0 p.1.0

pub returns : goal.returns
returns c =
    got_number _ (λ t r. ExplainsUnsignedError 10 t r) (λ t r. HasUnsignedDigitsIfOk t r) _ _ c.get_one.ensures.none c.get_one.ensures.value
    ∙ ap (option_and_then number_in) (one_text-rows (found_of c.args.matches.now) c.args.id.now)
