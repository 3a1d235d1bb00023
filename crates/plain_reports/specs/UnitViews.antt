-- The unit that an `ErrorUnit` stands for.
use Rattle.plain_reports.specs.ErrorUnits.{Unit}
use Rattle.plain_reports.specs.declared.units.ErrorUnit.{ErrorUnit}

abbrev pub unit_view : ErrorUnit → Unit
unit_view u =
    record { error = u.error.now; instance_location = u.instance_location.now; keyword_location = u.keyword_location.now; absolute_location = u.absolute_location.now }
