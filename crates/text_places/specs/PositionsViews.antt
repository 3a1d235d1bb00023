-- The text whose positions are asked for.
use Rattle.definitions.specs.Values.{Text}
use Rattle.text_places.specs.declared.position.Positions.{Positions}

abbrev pub positions_text : Positions → Text
positions_text p = p.text.now
