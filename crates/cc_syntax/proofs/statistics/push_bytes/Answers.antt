use Rattle.std.proofs.Common.{append_assoc}
use Rattle.cc_syntax.proofs.statistics.push_bytes.Goals as goal

pub returns-clause-value : goal.returns-clause-value
returns-clause-value c =
    rw (c.push_percent.ensures.value, c.push_number-3.ensures.value, c.push_number-2.ensures.value, c.push_number.ensures.value, c.hundredths_of.ensures, c.saturating_sub-padding.ensures)
    (simp append_assoc)
