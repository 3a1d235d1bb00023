-- How the logic stores calls.
use Rattle.std.specs.Prelude.{List, Option}
use Rattle.std.specs.Coded.{Coded, coded_ℕ, coded_list, coded_option, coded×}
use Rattle.network.specs.Traffic.{Moved}

abbrev pub calls_code : Coded (List (Option Moved))
calls_code = coded_list (coded_option (coded× coded_ℕ (coded_list coded_ℕ)))
