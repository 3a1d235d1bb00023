-- The parts that a value stands for.
use Rattle.std.specs.Prelude.{Option, option_map}
use Rattle.definitions.specs.Values.{Text}
use Rattle.definitions.specs.Uris.{Parts}
use Rattle.uri_ref.specs.declared.parts.Parts.TheInside.{Inside}

abbrev pub made_parts : Option Text → Option Text → Text → Option Text → Option Text → Parts
made_parts s a p q f = record { scheme = s; authority = a; path = p; query = q; fragment = f }

abbrev pub parts : Inside → Parts
parts p = made_parts (option_map (λ t. t.now) p.scheme) (option_map (λ t. t.now) p.authority) p.path.now (option_map (λ t. t.now) p.query) (option_map (λ t. t.now) p.fragment)
