use Rattle.std.proofs.Common.{arith, refl, sym, length, ◌≤◌, [], ◌≡◌, ◌<◌}
use Rattle.cc_machine.specs.declared.gap_heads.Head.{Head}
use Rattle.cc_machine.proofs.GapRowLemmas.{gaps_of_read, head_of_block, headed_length, last_above, gap_read, index_end, lasts_rise, length_of_block, located_end, located_in}
use Rattle.std.proofs.lemmas.Option.{slice_get_past}
use Rattle.cc_machine.specs.GapRowState.{gaps_of, index_at}
use Rattle.cc_machine.proofs.gap_row.locate_in.Goals as goal

pub position-block-requires : goal.position-block-requires
position-block-requires c = record {
  order = lasts_rise c.args.blocks.now.blocks c.args.heads.now.heads c.requires.gaps c.requires.headed;
}

pub returns-then-block-len-clause-place : goal.returns-then-block-len-clause-place
returns-then-block-len-clause-place c =
    let same = headed_length c.args.blocks.now.blocks c.args.heads.now.heads c.requires.headed in
    let end : c.position-block.result ≡ length c.args.blocks.now.blocks = omega (arith, same, c.if-block-len.true, c.len.ensures.value) in
    record { within = omega (arith, end); inside = λ low. absurd (omega (arith, low, end)); end = λ _. refl }

pub returns-then-block-len-clause-located : goal.returns-then-block-len-clause-located
returns-then-block-len-clause-located c =
    let same = headed_length c.args.blocks.now.blocks c.args.heads.now.heads c.requires.headed in
    located_end c.args.blocks.now.blocks c.args.heads.now.heads c.args.address c.position-block.result c.requires.gaps
    c.requires.headed (omega (arith, same, c.if-block-len.true, c.len.ensures.value)) c.position-block.ensures.below

pub at-gaps-requires : goal.at-gaps-requires
at-gaps-requires c =
    let same = headed_length c.args.blocks.now.blocks c.args.heads.now.heads c.requires.headed in
    omega (arith, same, c.if-block-len.false, c.len.ensures.value, c.position-block.ensures.within)

pub position-at-requires-clause-gaps : goal.position-at-requires-clause-gaps
position-at-requires-clause-gaps c =
    let same = headed_length c.args.blocks.now.blocks c.args.heads.now.heads c.requires.headed in
    gaps_of_read c.args.blocks.now.blocks c.position-block.result c.at-gaps.result.now c.requires.gaps
    (omega (arith, same, c.if-block-len.false, c.len.ensures.value, c.position-block.ensures.within)) c.at-gaps.ensures

pub position-at-requires-clause-some : goal.position-at-requires-clause-some
position-at-requires-clause-some c =
    let same = headed_length c.args.blocks.now.blocks c.args.heads.now.heads c.requires.headed in
    let head = head_of_block c.args.blocks.now.blocks c.args.heads.now.heads c.position-block.result c.at-gaps.result.now
    (record { last = 0; bound = 0 }) c.requires.headed
    (omega (arith, same, c.if-block-len.false, c.len.ensures.value, c.position-block.ensures.within)) c.at-gaps.ensures in
    head.some

pub position-at-requires-clause-last : goal.position-at-requires-clause-last
position-at-requires-clause-last c =
    let same = headed_length c.args.blocks.now.blocks c.args.heads.now.heads c.requires.headed in
    let e : Head = record { last = 0; bound = 0 } in
    let within : c.position-block.result < length c.args.heads.now.heads
    = omega (arith, c.if-block-len.false, c.len.ensures.value, c.position-block.ensures.within) in
    let head = head_of_block c.args.blocks.now.blocks c.args.heads.now.heads c.position-block.result c.at-gaps.result.now e
    c.requires.headed (omega (arith, same, within)) c.at-gaps.ensures in
    last_above c.at-gaps.result.now _ c.args.address head (c.position-block.ensures.above e within)

pub returns-clause-place : goal.returns-clause-place
returns-clause-place c =
    let same = headed_length c.args.blocks.now.blocks c.args.heads.now.heads c.requires.headed in
    let within : c.position-block.result < length c.args.blocks.now.blocks
    = omega (arith, same, c.if-block-len.false, c.len.ensures.value, c.position-block.ensures.within) in
    let long = length_of_block c.args.blocks.now.blocks c.position-block.result c.at-gaps.result.now [] within c.at-gaps.ensures in
    record {
      within = omega (arith, within);
      inside = λ _. omega (arith, long, c.position-at.ensures.within);
      end = λ high. absurd (omega (arith, high, within));
    }

pub returns-clause-located : goal.returns-clause-located
returns-clause-located c =
    let same = headed_length c.args.blocks.now.blocks c.args.heads.now.heads c.requires.headed in
    located_in c.args.blocks.now.blocks c.args.heads.now.heads c.args.address c.position-block.result c.position-at.result
    c.at-gaps.result.now c.requires.gaps c.requires.headed
    (omega (arith, same, c.if-block-len.false, c.len.ensures.value, c.position-block.ensures.within))
    c.position-block.ensures.below c.at-gaps.ensures c.position-at.ensures.within
    (λ some d. c.position-at.ensures.below d some) c.position-at.ensures.above

pub returns-clause-gap : goal.returns-clause-gap
returns-clause-gap c =
    let same = headed_length c.args.blocks.now.blocks c.args.heads.now.heads c.requires.headed in
    let within : c.position-block.result < length c.args.blocks.now.blocks
    = omega (arith, same, c.if-block-len.false, c.len.ensures.value, c.position-block.ensures.within) in
    let long = length_of_block c.args.blocks.now.blocks c.position-block.result c.at-gaps.result.now [] within c.at-gaps.ensures in
    sym (gap_read c.args.blocks.now.blocks c.position-block.result c.position-at.result c.at-gaps.result.now c.at.result within
    (omega (arith, long, c.position-at.ensures.within)) c.at-gaps.ensures c.at.ensures.value)

pub returns-then-block-len-clause-gap : goal.returns-then-block-len-clause-gap
returns-then-block-len-clause-gap c =
    let same = headed_length c.args.blocks.now.blocks c.args.heads.now.heads c.requires.headed in
    let end : length c.args.blocks.now.blocks ≤ c.position-block.result = omega (arith, same, c.if-block-len.true, c.len.ensures.value) in
    sym (slice_get_past (gaps_of c.args.blocks.now.blocks) (index_at c.args.blocks.now.blocks c.position-block.result 0)
    (omega (arith, index_end c.args.blocks.now.blocks c.position-block.result end)))
