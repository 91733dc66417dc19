-- The greatest of levels.
use Rattle.std.proofs.Common.{◌≡◌, ◌∙◌, ℕ, max, List, [], ◌∷◌, ◌++◌, arith, ap, sym}
use Rattle.cc_heap.specs.declared.levels.Levels.{Levels}
use Rattle.cc_heap.specs.Levels.{greater_of, greatest_of, no_levels}

max_of_three : (a b c : ℕ) → max (max a b) c ≡ max a (max b c)
max_of_three a b c = omega arith

max_none : (a : ℕ) → max a 0 ≡ a
max_none a = omega arith

-- the greater of three, in any order of taking them
pub of_three : (a b c : Levels) → greater_of (greater_of a b) c ≡ greater_of a (greater_of b c)
of_three a b c = λ i. record {
  live = max_of_three a.live b.live c.live i;
  quarantine = max_of_three a.quarantine b.quarantine c.quarantine i;
  held = max_of_three a.held b.held c.held i;
  high = max_of_three a.high b.high c.high i;
}

pub with_none : (a : Levels) → greater_of a no_levels ≡ a
with_none a = λ i. record {
  live = max_none a.live i;
  quarantine = max_none a.quarantine i;
  held = max_none a.held i;
  high = max_none a.high i;
}

none_first : (a : ℕ) → max 0 a ≡ a
none_first a = omega arith

pub none_with : (a : Levels) → greater_of no_levels a ≡ a
none_with a = λ i. record {
  live = none_first a.live i;
  quarantine = none_first a.quarantine i;
  held = none_first a.held i;
  high = none_first a.high i;
}

-- the greatest after those before
pub greatest_after : (most first : Levels) (others : List Levels)
    → greater_of (greater_of most first) (greatest_of others) ≡ greater_of most (greatest_of (first ∷ others))
greatest_after most first others = of_three most first (greatest_of others)

-- the greatest of two lists
pub greatest_of_both : (first second : List Levels) → greatest_of (first ++ second) ≡ greater_of (greatest_of first) (greatest_of second)
greatest_of_both [] second = sym (none_with (greatest_of second))
greatest_of_both (levels ∷ first) second =
    ap (greater_of levels) (greatest_of_both first second) ∙ sym (of_three levels (greatest_of first) (greatest_of second))

pub greatest_with : (all : List Levels) (levels : Levels) → greatest_of (all ++ levels ∷ []) ≡ greater_of (greatest_of all) levels
greatest_with all levels = greatest_of_both all (levels ∷ []) ∙ ap (greater_of (greatest_of all)) (with_none levels)
