use Rattle.std.proofs.Common.{◌≡◌, ◌<◌, ◌*◌, ◌^◌, true, take}
use Rattle.std.specs.Char.{is_digit}
use Rattle.std.specs.List.{list_all}
use Rattle.std.specs.Str.Parse.{digits_value}
use Rattle.cc_values.proofs.digits.read_first.Given as goal

abbrev pub invariant-loop-byte : goal.invariant-loop-byte
invariant-loop-byte l = record {
  digits : list_all (λ digit. is_digit digit l.radix) (take l.byte-index l.digits) ≡ true;
  number : l.number ≡ digits_value l.radix (take l.byte-index l.digits);
  small : l.number < 2 ^ (4 * l.byte-index);
}
