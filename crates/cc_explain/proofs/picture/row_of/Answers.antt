use Rattle.std.proofs.Common.{arith, refl}
use Rattle.std.proofs.Math.Nat.{mul-le-mul_right}
use Rattle.std.proofs.lemmas.List.{get_or-replicate}
use Rattle.cc_explain.proofs.picture.row_of.Goals as goal

pub loop-index-init : goal.loop-index-init
loop-index-init c = record {
  count = refl;
  marked = λ index below shares. absurd (omega (arith, below));
  unmarked = λ index below none. absurd (omega (arith, below));
  rest = λ index from below. get_or-replicate 64 index 46 0 below;
}

-- the cells before the last end at most 64 cells after the start
pub overflow_mul-first : goal.overflow_mul-first
overflow_mul-first c =
    let scaled = mul-le-mul_right c.cell_size-size.result c.loop-index.auto.index-end in
    omega (arith, scaled, c.cell_size-size.ensures.fits)

pub overflow_add-first : goal.overflow_add-first
overflow_add-first c =
    let scaled = mul-le-mul_right c.cell_size-size.result c.loop-index.auto.index-end in
    omega (arith, scaled, c.cell_size-size.ensures.fits, c.requires.start)

pub overflow_add-first-in-loop-index : goal.overflow_add-first-in-loop-index
overflow_add-first-in-loop-index c =
    let scaled = mul-le-mul_right c.cell_size-size.result c.loop-index.auto.index-end in
    omega (arith, scaled, c.cell_size-size.ensures.fits, c.requires.start)
