use Rattle.cc_ffi.proofs.c_memory.with_bounds.Goals as goal

pub returns-then-exact : goal.returns-then-exact
returns-then-exact c = rw c.if-exact.true c.cheri_cap_set_bounds_exact_on.ensures.made

pub returns-else-exact : goal.returns-else-exact
returns-else-exact c = rw c.if-exact.false c.cheri_cap_set_bounds_on.ensures.made
