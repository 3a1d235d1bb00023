-- The texts of steps, one behind the other.
use Rattle.std.specs.Prelude.{◌≡◌, ◌≤◌, ◌<◌, ℕ, true, List, get_or, length, take}
use Rattle.std.specs.List.{list_all}
use Rattle.definitions.specs.Values.{Text}
use Rattle.locations.specs.Steps.{token, tokens}
use Rattle.locations.specs.declared.step.Step.{Step}
use Rattle.basic_output.specs.Buffers.{buffer_text}
use Rattle.basic_output.specs.Notations.{escaped_text}
use Rattle.basic_output.specs.Pieces.{is_plain}
use Rattle.basic_output.specs.declared.unit_text.step_texts.Notation.{Notation}
use Rattle.basic_output.specs.declared.unit_text.step_texts.StepTexts.{StepTexts}

-- the text of the first k steps
abbrev pub front_text : Notation → ℕ → List Step → Text
front_text n k steps = escaped_text n (tokens (take k steps))

-- of the first steps of a list, where all from there on are written in the same way in a pointer and in its fragment, and nothing of
-- them is escaped in a string
pub record AreTexts (n : Notation) (text : Text) (starts : List ℕ) (plain_from : ℕ) (steps : List Step) : Type 0 where
  pub within : length starts ≤ length steps
  pub at : (k d : ℕ) → k < length starts → get_or starts k d ≡ length (front_text n k steps)
  pub front : text ≡ front_text n (length starts) steps
  pub plain : (k : ℕ) (d : Step) → plain_from ≤ k → k < length starts → list_all is_plain (token (get_or steps k d)) ≡ true

abbrev pub AreStepTexts : Notation → StepTexts → List Step → Type 0
AreStepTexts n t steps = AreTexts n (buffer_text t.buffer.text) t.starts.items t.plain_from steps

abbrev pub AreSomeTexts : StepTexts → Type 0
AreSomeTexts t = (n : Notation) × ((steps : List Step) × AreStepTexts n t steps)
