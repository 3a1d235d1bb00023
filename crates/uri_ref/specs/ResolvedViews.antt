-- The parts that a value with a path of its own stands for.
use Rattle.std.specs.Prelude.{option_map, string_bytes}
use Rattle.definitions.specs.Uris.{Parts}
use Rattle.uri_ref.specs.Views.{made_parts}
use Rattle.uri_ref.specs.declared.resolved_parts.ResolvedParts.TheInside.{Inside}

abbrev pub resolved_parts : Inside → Parts
resolved_parts p = made_parts (option_map (λ t. t.now) p.scheme) (option_map (λ t. t.now) p.authority) (string_bytes p.path) (option_map (λ t. t.now) p.query) (option_map (λ t. t.now) p.fragment)
