use Rattle.std.proofs.Common.{[], ◌∷◌, ap, arith, length, length-append, rules}
use Rattle.cc_replay.proofs.rows.push_heading.Goals as goal

pub push-requires : goal.push-requires
push-requires g c = (search rules, omega (arith, c.push_items.ensures.fits, c.requires))

pub returns-in-Text-clause-fits : goal.returns-in-Text-clause-fits
returns-in-Text-clause-fits g c =
    omega (arith, c.push_items.ensures.fits, ap length c.push.ensures, length-append c.push_items.new.page (10 ∷ []))
