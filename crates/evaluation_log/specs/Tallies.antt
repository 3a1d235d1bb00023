-- How many applications of schemas there were, and whether one of them looped or nested too deep.
use Rattle.std.specs.Prelude.{◌+◌, ◌||◌, ℕ, List, Bool, false, sum_by}
use Rattle.std.specs.List.{list_any}
use Rattle.definitions.specs.Applied.{Outcome, Part}
use Rattle.definitions.specs.Outcomes.{Use}

pub record Tally : Type 0 where
  pub count : ℕ
  pub looped : Bool
  pub deep : Bool

-- ---- none, and one after the other
abbrev pub no_tally : Tally
no_tally = record { count = 0; looped = false; deep = false }

abbrev pub tally_of_both : Tally → Tally → Tally
tally_of_both older newer = record {
  count = older.count + newer.count;
  looped = older.looped || newer.looped;
  deep = older.deep || newer.deep;
}

-- ---- of an application, of those of one keyword, and of those of keywords
abbrev pub outcome_tally : Outcome → Tally
outcome_tally o = record { count = o.count; looped = o.looped; deep = o.deep }

abbrev pub parts_tally : List (Part × Outcome) → Tally
parts_tally es = record {
  count = sum_by (λ e. e.1.count) es;
  looped = list_any (λ e. e.1.looped) es;
  deep = list_any (λ e. e.1.deep) es;
}

abbrev pub uses_tally : List Use → Tally
uses_tally us = record {
  count = sum_by (λ u. sum_by (λ o. o.1.count) u.outcomes) us;
  looped = list_any (λ u. list_any (λ o. o.1.looped) u.outcomes) us;
  deep = list_any (λ u. list_any (λ o. o.1.deep) u.outcomes) us;
}
