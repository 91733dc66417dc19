use Rattle.std.proofs.Common.{arith, inl, inr, [], length, ◌<◌, ◌-◌}
use Rattle.std.proofs.lemmas.Bool.{cases_lt}
use Rattle.cc_machine.proofs.GapRowLemmas.{before_place, gap_read, head_of_block, length_of_block}
use Rattle.cc_machine.proofs.gap_row.gap_before_in.Goals as goal

pub returns-then-place-gt0-clause-some : goal.returns-then-place-gt0-clause-some
returns-then-place-gt0-clause-some c =
    let within : c.args.place.block < length c.args.blocks.now.blocks =
    elim (cases_lt c.args.place.block (length c.args.blocks.now.blocks)) [
      | inl low ↦ low
      | inr high ↦ absurd (omega (arith, c.requires.place.end high, c.if-place-gt0.true))
    ] in
    let inside = c.requires.place.inside within in (
      record {
        within = omega (arith, within);
        inside = λ _. omega (arith, inside);
        end = λ high. absurd (omega (arith, high, within));
      },
      omega (arith, c.if-place-gt0.true),
      gap_read c.args.blocks.now.blocks c.args.place.block (c.args.place.at - 1) c.at.result.now c.at-gap.result within
          (omega (arith, inside)) c.at.ensures c.at-gap.ensures.value,
    )

pub overflow_sub-at-2 : goal.overflow_sub-at-2
overflow_sub-at-2 c =
    let head = head_of_block c.args.blocks.now.blocks c.args.heads.now.heads (c.args.place.block - 1) c.at-gaps.result.now
    (record { last = 0; bound = 0 }) c.requires.headed (omega (arith, c.requires.place.within, c.if-place-eq0.false)) c.at-gaps.ensures in
    omega (arith, head.some, c.len-at.ensures.value)

pub at-requires-2 : goal.at-requires-2
at-requires-2 c =
    let head = head_of_block c.args.blocks.now.blocks c.args.heads.now.heads (c.args.place.block - 1) c.at-gaps.result.now
    (record { last = 0; bound = 0 }) c.requires.headed (omega (arith, c.requires.place.within, c.if-place-eq0.false)) c.at-gaps.ensures in
    omega (arith, head.some, c.len-at.ensures.value)

pub returns-clause-some : goal.returns-clause-some
returns-clause-some c =
    let within : c.args.place.block - 1 < length c.args.blocks.now.blocks = omega (arith, c.requires.place.within, c.if-place-eq0.false) in
    let head = head_of_block c.args.blocks.now.blocks c.args.heads.now.heads (c.args.place.block - 1) c.at-gaps.result.now
    (record { last = 0; bound = 0 }) c.requires.headed within c.at-gaps.ensures in
    let long = length_of_block c.args.blocks.now.blocks (c.args.place.block - 1) c.at-gaps.result.now [] within c.at-gaps.ensures in
    let place = before_place c.args.blocks.now.blocks c.args.heads.now.heads (c.args.place.block - 1) c.args.place.block c.args.place.at
    c.len-at.result c.at-gaps.result.now c.requires.headed (omega (arith, c.if-place-eq0.false)) c.requires.place.within
    (omega (arith, c.if-place-gt0.false)) c.at-gaps.ensures c.len-at.ensures.value in (
      place.0,
      place.1,
      gap_read c.args.blocks.now.blocks (c.args.place.block - 1) (c.len-at.result - 1) c.at-gaps.result.now c.at-2.result within
          (omega (arith, head.some, long, c.len-at.ensures.value)) c.at-gaps.ensures c.at-2.ensures.value,
    )
