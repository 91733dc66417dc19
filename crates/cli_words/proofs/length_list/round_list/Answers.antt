use Rattle.std.proofs.Common.{refl}
use Rattle.cli_words.proofs.RoundListLemmas.{rounds_pumped}
use Rattle.cli_words.proofs.length_list.round_list.Goals as goal

pub returns : goal.returns
returns g c = rounds_pumped _ c.pump-result.new.answerer c.new-page.result _ _ _ _ _ refl c.new-page.ensures c.pump-result.ensures.outcome c.pump-result.ensures.pumps
