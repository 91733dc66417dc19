use Rattle.std.proofs.Common.{[], refl}
use Rattle.cc_machine.specs.State.{initial_state}
use Rattle.cc_script.proofs.RunLemmas.{laws_after}
use Rattle.cc_laws.proofs.programs.scripts_keep_the_laws.Goals as goal

pub returns : goal.returns
returns c = λ limit commands state between.
    laws_after (initial_state limit) state commands (record { limit = limit; ops = []; replies = []; run = refl }) between
