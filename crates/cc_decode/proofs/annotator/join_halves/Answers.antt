use Rattle.std.proofs.Common.{ap, arith, length, length-take}
use Rattle.cc_decode.proofs.AnnotatorLemmas.{halves_apart, halves_joined, no_joint}
use Rattle.cc_decode.proofs.annotator.join_halves.Goals as goal

pub returns-in-Some-clause-none : goal.returns-in-Some-clause-none
returns-in-Some-clause-none c =
    halves_apart c.args.text.now c.split_at.result.0.now c.split_at.result.1.now c.in-Some.low.now c.join.result c.split_at.ensures.front c.split_at.ensures.back
    c.requires c.in-Some.ensures.found c.join.ensures.none

pub returns-in-None-clause-none : goal.returns-in-None-clause-none
returns-in-None-clause-none c =
    no_joint c.args.text.now c.split_at.result.0.now c.split_at.result.1.now c.split_at.ensures.front c.split_at.ensures.back c.requires c.in-None.ensures.none

pub join-requires : goal.join-requires
join-requires c = omega (arith, ap length c.split_at.ensures.front, length-take 16 c.args.text.now, c.requires)

pub returns-in-Some-clause-word : goal.returns-in-Some-clause-word
returns-in-Some-clause-word c =
    halves_joined c.args.text.now c.split_at.result.0.now c.split_at.result.1.now c.in-Some.low.now c.join.result c.split_at.ensures.front c.split_at.ensures.back
    c.in-Some.ensures.found c.join.ensures.word
