-- The pool that the strings of `plan` parse as, and the operations that make it.
use Rattle.std.specs.Prelude.{ℕ, List, [], ◌∷◌, Result}
use Rattle.cc_word.specs.declared.refusal.Refusal.{Refusal}
use Rattle.cc_bounds.specs.declared.align.Align.{Align}
use Rattle.cc_values.specs.declared.op.Op.{Op}
use Rattle.cc_values.specs.declared.op.Op.TheVariants.{Addr, Exact, Pool}
use Rattle.cc_values.specs.Values.{address_in, both, length_in}

-- The base and the length that two strings parse as, or the error: that a string is not a number
-- comes before that a number is too large.
abbrev pub pool_of : (base size : List ℕ) → Result (ℕ × ℕ) Refusal
pool_of base size = both (address_in base) (length_in size)

-- The operations that make a pool of this alignment in a new machine, whose slot 0 is the root.
abbrev pub plan_opening : (base size : ℕ) → Align → List Op
plan_opening base size align = Addr 0 base ∷ Exact 1 size ∷ Pool 2 align ∷ []
