use Rattle.std.proofs.Common.{append_assoc}
use Rattle.cc_explain.proofs.explained_request.push_span.Goals as goal

pub returns-clause-value : goal.returns-clause-value
returns-clause-value c =
    rw (c.end_with_hexadecimal.ensures.value, c.push_hexadecimal-2.ensures.value, c.push_hexadecimal.ensures.value, c.from.ensures, c.length_of.ensures.value) (simp append_assoc)
