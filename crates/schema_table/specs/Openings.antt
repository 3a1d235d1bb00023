-- The resources that schemas open by their `$id`s (Core, 8.2.1).
use Rattle.std.specs.Prelude.{◌≡◌, Option, Some, None, IfSome, option_map}
use Rattle.definitions.specs.Values.{Text, Value, as_string}
use Rattle.definitions.specs.Shapes.{Shape, identifier}
use Rattle.definitions.specs.Resolution.{target_uri}
use Rattle.schema_table.specs.declared.resources.Opened.{Opened}
use Rattle.uri_ref.specs.AbsoluteReferences.{IsReadAs}

-- what is read of an `$id` inside this base
abbrev pub IsReadInside : Text → Opened → Type 0
IsReadInside base o = IsReadAs (target_uri base o.id.now) (Some o.named)

-- the resource is the one that this `$id` opens, and there is none where there is no `$id`
pub record IsOpenedBy (base : Text) (id : Option Text) (opened : Option Opened) : Type 0 where
  pub same : option_map (λ o. o.id.now) opened ≡ id
  pub named : IfSome opened (IsReadInside base)

-- the `$id` that the value of a keyword of this shape is
abbrev pub id_under : Shape → Value → Option Text
id_under identifier v = as_string v
id_under shape v = None
