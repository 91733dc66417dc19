use Rattle.std.proofs.Common.{◌≡◌, [], length, Ok}
use Rattle.cli_replay.specs.ReplayValues.{pieces_of, policies_after}
use Rattle.cli_replay.proofs.replay_values.read_policies.Given as goal

abbrev pub invariant-names : goal.invariant-names
invariant-names l = policies_after (Ok l.policies) (pieces_of l.rest) ≡ policies_after (Ok []) (pieces_of l.text)

abbrev pub decreases-names : goal.decreases-names
decreases-names l = length l.rest
