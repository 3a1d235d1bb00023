-- The keywords beside `additionalProperties`.
use Rattle.std.specs.Prelude.{◌≡◌, [], codes, map, option_map, unwrap_or}
use Rattle.std.specs.List.{All}
use Rattle.definitions.specs.Values.{members}
use Rattle.definitions.specs.Applied.{Application, beside}
use Rattle.json_doc.specs.Docs.{members_value}
use Rattle.keyword_plans.specs.Applications.{ArePatternsOf}
use Rattle.linker.specs.declared.linked.Linked.{Linked}
use Rattle.keyword_plans.specs.NumberedPatterns.{IsNumbered, numbered_view}
use Rattle.keyword_plans.specs.declared.planning.others.PropertyKeywords.{PropertyKeywords}
use Rattle.keyword_plans.specs.declared.planning.others.Takers.{Takers}

-- they stand in the application's schema, which is one of the linked documents'
pub record StandsBeside (l : Linked) (b : PropertyKeywords) (a : Application) : Type 0 where
  pub properties : unwrap_or (option_map (λ m. members_value m.now) b.properties) [] ≡ members (beside a (codes "properties"))
  pub patterns : unwrap_or (option_map (λ m. members_value m.now) b.patterns) [] ≡ members (beside a (codes "patternProperties"))
  pub inside : ArePatternsOf l b.resource.now a.schema (members (beside a (codes "patternProperties")))

-- these keywords stand in the application's schema, and the patterns have their numbers in these documents
pub record AreTakers (l : Linked) (t : Takers) (a : Application) : Type 0 where
  pub properties : unwrap_or (option_map (λ m. members_value m.now) t.properties) [] ≡ members (beside a (codes "properties"))
  pub patterns : map numbered_view t.patterns.now ≡ members (beside a (codes "patternProperties"))
  pub numbers : All (IsNumbered l) t.patterns.now
