use Rattle.std.proofs.Common.{append_assoc}
use Rattle.cc_explain.proofs.explained_steps.push_window.Goals as goal

pub returns-clause-value : goal.returns-clause-value
returns-clause-value c =
    rw (c.end_with_decimal.ensures.value, c.push_window_addresses.ensures.value, c.from-first.ensures) (simp append_assoc)
