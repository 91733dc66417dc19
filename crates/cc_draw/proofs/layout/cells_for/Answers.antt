use Rattle.std.proofs.Common.{◌≤◌, arith}
use Rattle.std.specs.Int.{div_ceil}
use Rattle.std.proofs.Math.Nat.{mul-le-mul_right}
use Rattle.cc_bounds.proofs.GranuleLemmas.{div_ceil-le, le-div_ceil}
use Rattle.cc_draw.specs.Cells.{cell_bytes}
use Rattle.cc_draw.proofs.layout.cells_for.Goals as goal

pub returns-clause-few : goal.returns-clause-few
returns-clause-few c =
    let covered = le-div_ceil c.args.bytes c.args.most c.requires in
    let less : div_ceil c.args.bytes c.args.most ≤ cell_bytes c.args.most c.args.bytes = omega arith in
    let up = mul-le-mul_right c.args.most less in
    let few = div_ceil-le c.args.bytes (cell_bytes c.args.most c.args.bytes) c.args.most (omega arith) (omega (arith, covered, up)) in
    rw (c.div_ceil-2.ensures, c.max-size.ensures, c.div_ceil.ensures, c.from.ensures) few
