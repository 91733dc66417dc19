use Rattle.cc_ffi.proofs.c_memory.cheri_cap_set_bounds_memory.Goals as goal

pub returns-then-big_endian-clause-made : goal.returns-then-big_endian-clause-made
returns-then-big_endian-clause-made c = rw c.if-big_endian.true c.set_bounds_in.ensures.made

pub returns-else-big_endian-clause-made : goal.returns-else-big_endian-clause-made
returns-else-big_endian-clause-made c = rw c.if-big_endian.false c.set_bounds_in-else-big_endian.ensures.made
