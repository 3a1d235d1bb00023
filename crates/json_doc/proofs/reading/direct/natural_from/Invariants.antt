use Rattle.std.proofs.Common.{◌≡◌, ◌<◌, ◌≤◌, length, take}
use Rattle.std.specs.Str.Parse.{AllDigits, digits_value}
use Rattle.json_doc.proofs.reading.direct.natural_from.Given as goal

abbrev pub invariant-loop-digit : goal.invariant-loop-digit
invariant-loop-digit l = record {
  some : 0 < length l.digits;
  short : length l.digits ≤ 18;
  digits : AllDigits 10 (take l.digit-index l.digits);
  value : digits_value 10 (take l.digit-index l.digits) ≡ l.natural;
}
