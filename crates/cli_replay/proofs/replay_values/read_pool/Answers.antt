use Rattle.std.proofs.Common.{arith}
use Rattle.cli_replay.proofs.ReplayValuesLemmas.{span_split, span_unsplit}
use Rattle.cli_replay.proofs.replay_values.read_pool.Goals as goal

pub returns-in-Some-clause-value : goal.returns-in-Some-clause-value
returns-in-Some-clause-value c =
    let parts = c.in-Some.ensures.byte (omega arith) (λ w o finds. finds) in
    span_split c.args.text.now c.in-Some.base.now c.in-Some.length.now c.read_request.result parts.0 parts.1 parts.2 c.read_request.ensures.request

pub returns-in-Some-clause-pool : goal.returns-in-Some-clause-pool
returns-in-Some-clause-pool c = c.read_request.ensures.is_span

pub returns-in-None-clause-value : goal.returns-in-None-clause-value
returns-in-None-clause-value c = span_unsplit c.args.text.now (c.in-None.ensures.byte (omega arith) (λ w o finds. finds))
