-- The patterns of schemas, read off their values alone.
use Rattle.std.specs.Prelude.{List, [], map, option_map, unwrap_or}
use Rattle.definitions.specs.Values.{Text, Value, get, members}
use Rattle.definitions.specs.Searches.{patterns_of}

-- of a schema with this value: neither its resource nor its pointer matters
unfoldable pub patterns_at : Value → List Text
patterns_at v = patterns_of (record { resource = []; pointer = []; value = v })

-- the names of the members under a keyword
unfoldable pub names_at : Text → Value → List Text
names_at keyword v = unwrap_or (option_map (λ u. map (λ m. m.0) (members u)) (get keyword v)) []
