use Rattle.std.proofs.Common.{append_assoc}
use Rattle.cc_explain.proofs.explained_request.push_grant.Goals as goal

pub returns : goal.returns
returns c =
    rw (c.push_word.ensures.value, c.push_exact.ensures.value, c.push_lost.ensures.value, c.push_span-2.ensures.value, c.push_unit.ensures.value, c.push_span.ensures.value) (simp append_assoc)
