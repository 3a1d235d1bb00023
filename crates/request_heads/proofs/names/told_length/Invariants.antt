use Rattle.std.proofs.Common.{◌≡◌, ◌^◌, ◌<◌, true, take}
use Rattle.std.specs.List.{list_all}
use Rattle.std.specs.Char.{is_ascii_digit}
use Rattle.std.specs.Str.Parse.{digits_value}
use Rattle.request_heads.proofs.names.told_length.Given as goal

abbrev pub invariant-loop-digit : goal.invariant-loop-digit
invariant-loop-digit l = record {
  value : l.length ≡ digits_value 10 (take l.digit-index l.value);
  digits : list_all is_ascii_digit (take l.digit-index l.value) ≡ true;
  small : l.length < 10 ^ l.digit-index;
}
