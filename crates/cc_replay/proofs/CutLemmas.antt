-- The bytes before and after the first of a value, from its position.
use Rattle.std.proofs.Common.{◌≡◌, ℕ, ◌+◌, ◌-◌, ◌≤◌, Bool, true, false, List, [], take, drop, length, Option, Some, None, refl, sym, ◌∙◌, ap, arith, if◌then◌else◌, nat_lt, ◌==◌, unwrap_or}
use Rattle.std.proofs.lemmas.Bool.{ltb-false}
use Rattle.std.proofs.lemmas.List.{take_all, drop_all, take_rest}
use Rattle.std.specs.List.{after_first, before_first, position, position_or_len}
use Rattle.cc_replay.specs.Ltrace.{after_or_all}

module _ (p : ℕ → Bool) where
  found_at : (first len at : ℕ) (is : Bool) → nat_lt first len ≡ is → (if is then Some first else None) ≡ Some at → first ≡ at
  found_at first len at true less e = ap (λ (o : Option ℕ). unwrap_or o 0) e
  found_at first len at false less e = cc

  none_at : (first len : ℕ) (is : Bool) → nat_lt first len ≡ is → (if is then Some first else None) ≡ None → len ≤ first
  none_at first len true less e = cc
  none_at first len false less e = ltb-false first len less

  pub before_found : (text : List ℕ) (at : ℕ) → position p text ≡ Some at → take at text ≡ before_first p text
  before_found text at e =
      ap (λ (n : ℕ). take n text) (sym (found_at (position_or_len p text) (length text) at (nat_lt (position_or_len p text) (length text)) refl e))

  pub after_found : (text : List ℕ) (at : ℕ) → position p text ≡ Some at → take (length text - (at + 1)) (drop (at + 1) text) ≡ after_first p text
  after_found text at e =
      take_rest text (at + 1)
      ∙ ap (λ (n : ℕ). drop (n + 1) text) (sym (found_at (position_or_len p text) (length text) at (nat_lt (position_or_len p text) (length text)) refl e))

  pub before_none : (text : List ℕ) → position p text ≡ None → text ≡ before_first p text
  before_none text e =
      sym (take_all (position_or_len p text) text (none_at (position_or_len p text) (length text) (nat_lt (position_or_len p text) (length text)) refl e))

  pub after_none : (text : List ℕ) → position p text ≡ None → [] ≡ after_first p text
  after_none text e =
      let none = none_at (position_or_len p text) (length text) (nat_lt (position_or_len p text) (length text)) refl e in
      sym (drop_all (position_or_len p text + 1) text (omega (arith, none)))

-- if the position is one, the bytes after it are chosen, and otherwise all bytes
after_by : (at : ℕ) (text : List ℕ) (is : Bool) → nat_lt (position_or_len (λ byte. byte == at) text) (length text) ≡ is
    → (if is then after_first (λ byte. byte == at) text else text) ≡ after_or_all at text
after_by at text is e = sym (ap (λ (b : Bool). if b then after_first (λ byte. byte == at) text else text) e)

found_is : (first len at : ℕ) (is : Bool) → nat_lt first len ≡ is → (if is then Some first else None) ≡ Some at → is ≡ true
found_is first len at true less e = refl
found_is first len at false less e = cc

none_is : (first len : ℕ) (is : Bool) → nat_lt first len ≡ is → (if is then Some first else None) ≡ None → is ≡ false
none_is first len true less e = cc
none_is first len false less e = refl

pub after_or_all_found : (at : ℕ) (text : List ℕ) (count : ℕ) → position (λ byte. byte == at) text ≡ Some count
    → take (length text - (count + 1)) (drop (count + 1) text) ≡ after_or_all at text
after_or_all_found at text count e =
    after_found (λ byte. byte == at) text count e
    ∙ after_by at text true (found_is (position_or_len (λ byte. byte == at) text) (length text) count (nat_lt (position_or_len (λ byte. byte == at) text) (length text)) refl e)

pub after_or_all_none : (at : ℕ) (text : List ℕ) → position (λ byte. byte == at) text ≡ None → text ≡ after_or_all at text
after_or_all_none at text e =
    after_by at text false (none_is (position_or_len (λ byte. byte == at) text) (length text) (nat_lt (position_or_len (λ byte. byte == at) text) (length text)) refl e)
