use Rattle.std.proofs.Common.{◌≡◌, ◌-◌, ◌≤◌, ◌^◌, min, true, take, length}
use Rattle.std.specs.Char.{is_digit}
use Rattle.std.specs.List.{list_all}
use Rattle.std.specs.Str.Parse.{digits_value}
use Rattle.cc_values.proofs.digits.read_behind.Given as goal

abbrev pub invariant-digits : goal.invariant-digits
invariant-digits l = record {
  within : l.at ≤ length l.digits;
  some : 16 ≤ l.at;
  digits : list_all (λ digit. is_digit digit l.radix) (take l.at l.digits) ≡ true;
  number : l.number ≡ min (digits_value l.radix (take l.at l.digits)) (2 ^ 65);
}

abbrev pub decreases-digits : goal.decreases-digits
decreases-digits l = length l.digits - l.at
