use Rattle.cc_laws.proofs.TextWitnessLemmas.{allocation, bracket-breaks, caller, free}
use Rattle.cc_laws.proofs.texts_witnesses.lines_of_a_caller.Goals as goal

pub returns-clause-caller : goal.returns-clause-caller
returns-clause-caller c = caller

pub returns-clause-allocation : goal.returns-clause-allocation
returns-clause-allocation c = allocation

pub returns-clause-free : goal.returns-clause-free
returns-clause-free c = free

pub returns-clause-not_caller : goal.returns-clause-not_caller
returns-clause-not_caller c = bracket-breaks
