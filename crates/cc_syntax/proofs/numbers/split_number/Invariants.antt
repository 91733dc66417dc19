use Rattle.std.proofs.Common.{◌≡◌, ◌-◌, ◌*◌, ◌<◌, ◌≤◌, ◌^◌, true, take}
use Rattle.std.specs.Char.{is_digit}
use Rattle.std.specs.List.{list_all}
use Rattle.std.specs.Str.Parse.{digits_value}
use Rattle.cc_syntax.proofs.numbers.split_number.Given as goal

abbrev pub invariant-digits : goal.invariant-digits
invariant-digits l = record {
  within : l.at ≤ l.most;
  digits : list_all (λ digit. is_digit digit 10) (take l.at l.text) ≡ true;
  number : l.number ≡ digits_value 10 (take l.at l.text);
  small : l.number < 2 ^ (4 * l.at);
}

abbrev pub decreases-digits : goal.decreases-digits
decreases-digits l = l.most - l.at
