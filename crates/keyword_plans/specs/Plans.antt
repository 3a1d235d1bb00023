-- What keywords ask of others, and how they apply what they apply.
use Rattle.std.specs.Prelude.{Bool, true, false}
use Rattle.definitions.specs.Keywords.{Meaning, consequence, min_contains, max_contains, additional_properties}
use Rattle.keywords.specs.declared.keyword.Keyword.{Keyword}
use Rattle.keywords.specs.declared.keyword.Keyword.TheVariants.{Ref, DynamicRef, AllOf, AnyOf, OneOf, Not, If, Then, Else, DependentSchemas, PatternProperties, AdditionalProperties}

-- asks what `if` beside said
abbrev pub is_consequence : Meaning → Bool
is_consequence (consequence wanted) = true
is_consequence _ = false

-- asks what `contains` beside found
abbrev pub counts_contained : Meaning → Bool
counts_contained min_contains = true
counts_contained max_contains = true
counts_contained _ = false

-- asks how many members `properties` beside names
abbrev pub takes_others : Meaning → Bool
takes_others additional_properties = true
takes_others _ = false

-- applies the schema that it refers to
abbrev pub follows_reference : Keyword → Bool
follows_reference Ref = true
follows_reference DynamicRef = true
follows_reference _ = false

-- applies schemas to members by patterns that their names match, or match not
abbrev pub searches_patterns : Keyword → Bool
searches_patterns PatternProperties = true
searches_patterns AdditionalProperties = true
searches_patterns _ = false

-- applies schemas to the instance that it is applied to
abbrev pub applies_in_place : Keyword → Bool
applies_in_place AllOf = true
applies_in_place AnyOf = true
applies_in_place OneOf = true
applies_in_place Not = true
applies_in_place If = true
applies_in_place Then = true
applies_in_place Else = true
applies_in_place DependentSchemas = true
applies_in_place k = follows_reference k
