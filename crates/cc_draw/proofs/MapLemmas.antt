-- The rows of a map, and their number.
use Rattle.std.proofs.Common.{◌≡◌, ◌≤◌, ◌<◌, ◌+◌, ◌-◌, ◌*◌, ◌++◌, ℕ, zero, suc, List, [], arith, min, refl, subst, take}
use Rattle.std.specs.Int.{div_ceil}
use Rattle.cc_bounds.proofs.GranuleLemmas.{div_ceil-le}
use Rattle.cc_plan.specs.PlannedObject.{PlannedObject}
use Rattle.cc_draw.specs.Map.{AreMapRows, IsMapRow, map_row_text}

-- No row is left.
pub no_rows : (objects : List PlannedObject) (size rows start cells : ℕ) → rows ≡ 0 → AreMapRows objects size rows start cells []
no_rows objects size zero start cells none = refl
no_rows objects size (suc rows) start cells none = cc none

-- One row, and the rows after it.
pub one_more_row : (objects : List PlannedObject) (size rows start cells : ℕ) (row rest : List ℕ) → 0 < rows → IsMapRow objects start size row
    → AreMapRows objects size (rows - 1) (start + 64 * size) (cells - 64) rest
    → AreMapRows objects size rows start cells (map_row_text start (take (min cells 64) row) ++ rest)
one_more_row objects size zero start cells row rest above is are = absurd (omega (arith, above))
one_more_row objects size (suc rows) start cells row rest above is are =
    let same : suc rows - 1 ≡ rows = omega arith in
    (row, rest, is, subst (λ (n : ℕ). AreMapRows objects size n (start + 64 * size) (cells - 64) rest) same are, refl)

-- That many cells have at most 16 rows.
pub few_rows : (cells : ℕ) → cells ≤ 1024 → div_ceil cells 64 ≤ 16
few_rows cells few = div_ceil-le cells 64 16 (omega arith) (omega (arith, few))
