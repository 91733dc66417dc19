use Rattle.std.proofs.Common.{◌≡◌, Err, Ok, arith}
use Rattle.cc_bounds.specs.Span.{IsSpan}
use Rattle.cc_heap.specs.declared.reallocation.Reallocation.{Reallocation}
use Rattle.cc_heap.specs.declared.reallocation.Reallocation.TheVariants.{Move}
use Rattle.cc_values.specs.Values.{both}
use Rattle.cli_replay.specs.ReplayValues.{least_in, realloc_given, span_given, sweep_given}
use Rattle.cli_replay.proofs.ReplayValuesLemmas.{changed_found, fourth_of_four, of_value, third_of_four}
use Rattle.cli_replay.proofs.replay_values.settings_of.Goals as goal

pub returns-in-Err-clause-value : goal.returns-in-Err-clause-value
returns-in-Err-clause-value c =
    let values = c.args.values in
    let told : both (both (sweep_given values.sweep) (least_in values.least)) (both (span_given values.pool) (realloc_given values.output values.realloc)) ≡ Err c.in-Err.refusal =
    cc (c.both.ensures, c.both-placing.ensures, c.both-sweeping.ensures, c.policy_of.ensures, c.least_of.ensures, c.pool_of.ensures.value, c.realloc_of.ensures.value, c.in-Err.is) in
    changed_found _ _ _ told

pub returns-in-Ok-clause-value : goal.returns-in-Ok-clause-value
returns-in-Ok-clause-value c =
    let values = c.args.values in
    let told : both (both (sweep_given values.sweep) (least_in values.least)) (both (span_given values.pool) (realloc_given values.output values.realloc))
    ≡ Ok ((c.in-Ok.policy, c.in-Ok.least_quarantine), (c.in-Ok.pool, c.in-Ok.realloc)) =
    cc (c.both.ensures, c.both-placing.ensures, c.both-sweeping.ensures, c.policy_of.ensures, c.least_of.ensures, c.pool_of.ensures.value, c.realloc_of.ensures.value, c.in-Ok.is) in
    changed_found _ _ _ told

pub returns-in-Ok-clause-settings : goal.returns-in-Ok-clause-settings
returns-in-Ok-clause-settings c =
    let told : both c.both-sweeping.result (both c.pool_of.result c.realloc_of.result) ≡ Ok ((c.in-Ok.policy, c.in-Ok.least_quarantine), (c.in-Ok.pool, c.in-Ok.realloc)) =
    cc (c.both.ensures, c.both-placing.ensures, c.in-Ok.is) in
    record {
      some = omega arith;
      few = omega arith;
      pool = of_value IsSpan c.pool_of.result _ c.pool_of.ensures.pool (third_of_four c.both-sweeping.result c.pool_of.result c.realloc_of.result _ told);
    }

pub returns-in-Ok-clause-moves : goal.returns-in-Ok-clause-moves
returns-in-Ok-clause-moves c = λ scripted.
    let told : both c.both-sweeping.result (both c.pool_of.result c.realloc_of.result) ≡ Ok ((c.in-Ok.policy, c.in-Ok.least_quarantine), (c.in-Ok.pool, c.in-Ok.realloc)) =
    cc (c.both.ensures, c.both-placing.ensures, c.in-Ok.is) in
    of_value (λ (effect : Reallocation). effect ≡ Move) c.realloc_of.result _ (c.realloc_of.ensures.moves scripted)
    (fourth_of_four c.both-sweeping.result c.pool_of.result c.realloc_of.result _ told)
