use Rattle.std.proofs.Common.{arith}
use Rattle.cc_cap.proofs.WordRuleLemmas.{address_cut}
use Rattle.cc_cap.proofs.words.with_address.Goals as goal

pub returns : goal.returns
returns c fields has = let cut = address_cut fields c.args.word has in omega (arith, cut)
