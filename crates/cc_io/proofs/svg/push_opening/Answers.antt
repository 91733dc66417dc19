use Rattle.std.proofs.Common.{append_assoc}
use Rattle.cc_io.specs.Svg.{opening_text}
use Rattle.cc_io.proofs.svg.push_opening.Goals as goal

pub returns-clause-value : goal.returns-clause-value
unfolding opening_text
returns-clause-value g c = rw (c.push-2.ensures, c.push.ensures, c.push_markup.ensures.value) (simp append_assoc)
