use Rattle.std.proofs.Common.{append_assoc}
use Rattle.cc_syntax.proofs.hints.push_hints.Goals as goal

pub returns : goal.returns
returns c =
    rw (c.push_line_hint-3.ensures.value, c.push_line_hint-2.ensures.value, c.push_line_hint.ensures.value, c.push_pool_hint.ensures.value, c.requires) (simp append_assoc)
