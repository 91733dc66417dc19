use Rattle.cc_laws.proofs.MtraceLineLemmas.{allocation_read, free_read}
use Rattle.cc_laws.proofs.format_laws.mtrace_lines_are_read_back.Goals as goal

pub returns-clause-allocation : goal.returns-clause-allocation
returns-clause-allocation c = allocation_read

pub returns-clause-free : goal.returns-clause-free
returns-clause-free c = free_read
