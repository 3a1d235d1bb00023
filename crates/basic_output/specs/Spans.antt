-- Where the texts of units stand in the text of all, and the order of the units.
use Rattle.std.specs.Prelude.{◌≡◌, ◌≤◌, ◌-◌, ◌&&◌, ℕ, Bool, List, [], ◌∷◌, true, length, map, nat_le, slice_index_or, take, slice_range, suc}
use Rattle.std.specs.List.{insert}
use Rattle.std.specs.Str.{is_utf8}
use Rattle.definitions.specs.Values.{Text}
use Rattle.basic_output.specs.declared.units.Span.{Span}

unfoldable pub span_text : Text → Span → Text
span_text t s = slice_range t s.start s.end

-- a span within a text that may be cut at each of its ends, behind a comma
pub record IsSpan (t : Text) (s : Span) : Type 0 where
  pub ordered : s.start ≤ s.end
  pub within : s.end ≤ length t
  pub start_whole : is_utf8 (take s.start t) ≡ true
  pub end_whole : is_utf8 (take s.end t) ≡ true
  pub follows_comma : slice_range t (s.start - 1) s.start ≡ 44 ∷ []

-- whether none ends before the one before it, nor before this
abbrev pub ascends : ℕ → List Span → Bool
ascends low [] = true
ascends low (s ∷ ss) = nat_le low s.end && ascends s.end ss

-- where the last one ends
abbrev pub last_end : ℕ → List Span → ℕ
last_end low [] = low
last_end low (s ∷ ss) = last_end s.end ss

-- the n-th unit and those that were made after it are put where their positions tell, one after the other
abbrev pub order_from : ℕ → List ℕ → List Span → List ℕ
order_from n order [] = order
order_from n order (s ∷ ss) = order_from (suc n) (insert order s.position n) ss

-- the units in order, each by its place among those that were made
abbrev pub order_of : List Span → List ℕ
order_of ss = order_from 0 [] ss

-- the text at the i-th of these spans
abbrev pub text_at : Text → List Span → ℕ → Text
text_at t ss i = slice_index_or (map (span_text t) ss) i []

-- the texts in an order
abbrev pub texts_in_order : Text → List Span → List ℕ → List Text
texts_in_order t ss order = map (text_at t ss) order
