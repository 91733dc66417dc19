use Rattle.cc_laws.proofs.OneReplayLemmas.{one_replay, some_replay}
use Rattle.cc_laws.proofs.replaying_laws.one_replay.Goals as goal

pub returns-clause-same : goal.returns-clause-same
returns-clause-same c settings reading text output told any_error is_told new another first second left left_too =
    let one = one_replay settings reading text output told any_error is_told new another first second left left_too in
    (one.same_output, one.same_error, one.alike)

pub returns-clause-some : goal.returns-clause-some
returns-clause-some c settings reading text =
    let made = some_replay settings reading text in (made.output, made.any_error, made.new, made.is, made.left, made.runs)
