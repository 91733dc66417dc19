use Rattle.std.proofs.Common.{append_assoc}
use Rattle.cc_explain.proofs.window_drawing.push_addresses.Goals as goal

pub returns-clause-value : goal.returns-clause-value
returns-clause-value c =
    rw (c.end_with_hexadecimal-2.ensures.value, c.end_with_hexadecimal.ensures.value) (simp append_assoc)
