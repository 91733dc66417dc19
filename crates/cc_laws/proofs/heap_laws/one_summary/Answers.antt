use Rattle.cc_laws.proofs.OneSummaryLemmas.{one_event, one_heap, one_run, one_run_event}
use Rattle.cc_laws.proofs.heap_laws.one_summary.Goals as goal

pub returns-clause-outcome : goal.returns-clause-outcome
returns-clause-outcome c settings events old other new another event outcome told run run_too first second =
    let one = one_event settings events old other new another event outcome told run run_too first second in (one.same, one.alike)

pub returns-clause-heap : goal.returns-clause-heap
returns-clause-heap c = one_heap

pub returns-clause-noting : goal.returns-clause-noting
returns-clause-noting c settings events old other new another event outcome told run run_too first second =
    let one = one_run_event settings events old other new another event outcome told run run_too first second in (one.same, one.alike)

pub returns-clause-run : goal.returns-clause-run
returns-clause-run c = one_run
