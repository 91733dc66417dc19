use Rattle.cc_cap.proofs.WordRuleLemmas.{Rebuilds-word}
use Rattle.cc_cap.proofs.words.rebuild.Goals as goal

pub own_word-requires : goal.own_word-requires
own_word-requires c = Rebuilds-word c.in_ok-authority.authority c.args.word c.rebuild.result c.rebuild.ensures.made
