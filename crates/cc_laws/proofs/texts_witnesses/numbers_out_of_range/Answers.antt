use Rattle.cc_laws.proofs.TextWitnessLemmas.{address-breaks, alignment-breaks, id-breaks}
use Rattle.cc_laws.proofs.texts_witnesses.numbers_out_of_range.Goals as goal

pub returns-clause-address : goal.returns-clause-address
returns-clause-address c = address-breaks

pub returns-clause-id : goal.returns-clause-id
returns-clause-id c = id-breaks

pub returns-clause-alignment : goal.returns-clause-alignment
returns-clause-alignment c = alignment-breaks
