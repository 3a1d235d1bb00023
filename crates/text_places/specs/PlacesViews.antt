-- The text whose places these are.
use Rattle.definitions.specs.Values.{Text}
use Rattle.text_places.specs.declared.places.Places.{Places}

abbrev pub places_text : Places → Text
places_text p = p.text.now
