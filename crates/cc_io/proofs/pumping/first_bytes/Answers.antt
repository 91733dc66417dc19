use Rattle.std.proofs.Common.{arith, sym, length-take}
use Rattle.std.proofs.lemmas.List.{take_all}
use Rattle.cc_io.proofs.pumping.first_bytes.Goals as goal

pub slice_bounds-result-end : goal.slice_bounds-result-end
slice_bounds-result-end c = omega (arith, length-take 129 c.args.entry.now, c.if-entry-gt-SEEN.true)

pub returns-else-entry-gt-SEEN : goal.returns-else-entry-gt-SEEN
returns-else-entry-gt-SEEN c = sym (take_all 129 c.args.entry.now (omega (arith, c.if-entry-gt-SEEN.false)))
