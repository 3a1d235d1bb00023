-- Documents as a registry gets them: values of bodies, under base forms of URIs.
use Rattle.std.specs.Prelude.{Bool, ◌&&◌}
use Rattle.std.specs.Str.{is_utf8}
use Rattle.definitions.specs.Limits.{limits}
use Rattle.definitions.specs.Schemas.{Document}
use Rattle.definitions.specs.Uris.{split, is_identifier}
use Rattle.definitions.specs.Values.{is_well_formed}
use Rattle.definition_laws.specs.Reading.{has_arrays_within}

-- the base is an identifier in UTF-8
unfoldable pub is_registered : Document → Bool
is_registered d = (is_well_formed d.value && has_arrays_within limits.body_bytes d.value) && (is_identifier (split d.base) && is_utf8 d.base)
