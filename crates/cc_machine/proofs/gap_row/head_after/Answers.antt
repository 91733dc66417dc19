use Rattle.cc_machine.proofs.gap_row.head_after.Goals as goal

pub returns : goal.returns
returns c = record {
  some = c.requires.some;
  few = c.last_byte.ensures.few;
  last = c.last_byte.ensures.last;
  bound = c.bound_after.ensures;
}
