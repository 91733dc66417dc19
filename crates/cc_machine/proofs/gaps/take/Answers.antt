use Rattle.std.proofs.Common.{arith}
use Rattle.cc_machine.specs.GapRowState.{gaps_in, index_of}
use Rattle.cc_machine.proofs.GapChangeLemmas.{IsAround, around_read, gaps_after, gaps_inserted_after, gaps_left, gaps_removed, gaps_split, inserted_after, taken_after, taken_high, taken_low}
use Rattle.cc_machine.proofs.GapChangeLemmas.{taken_middle, taken_whole}
use Rattle.cc_machine.proofs.gaps.take.Goals as goal

pub overflow_cast-upper : goal.overflow_cast-upper
overflow_cast-upper c =
    let it : IsAround (gaps_in c.args.row.now) (index_of c.args.row.now c.gap_around.result.0) c.gap_around.result.1 c.args.span =
    around_read _ _ _ _ c.gap_around.ensures.gap c.gap_around.ensures.around c.requires.some in
    omega (arith, it.to_top, it.top_is, (c.requires.gaps.some _ c.gap_around.result.1 it.within).fits)

pub set-requires-clause-within : goal.set-requires-clause-within
set-requires-clause-within c =
    let it : IsAround (gaps_in c.args.row.now) (index_of c.args.row.now c.gap_around.result.0) c.gap_around.result.1 c.args.span =
    around_read _ _ _ _ c.gap_around.ensures.gap c.gap_around.ensures.around c.requires.some in
    it.within

pub set-requires-clause-order : goal.set-requires-clause-order
set-requires-clause-order c =
    let it : IsAround (gaps_in c.args.row.now) (index_of c.args.row.now c.gap_around.result.0) c.gap_around.result.1 c.args.span =
    around_read _ _ _ _ c.gap_around.ensures.gap c.gap_around.ensures.around c.requires.some in
    gaps_left (gaps_in c.args.row.now) (index_of c.args.row.now c.gap_around.result.0) c.gap_around.result.1 c.args.span (record { base = c.args.span.top; top = c.gap_around.result.1.top })
    c.requires.gaps it (omega arith) (omega (arith, it.from_base, it.some)) (omega arith)

pub insert-requires-clause-order : goal.insert-requires-clause-order
insert-requires-clause-order c =
    let it : IsAround (gaps_in c.args.row.now) (index_of c.args.row.now c.gap_around.result.0) c.gap_around.result.1 c.args.span =
    around_read _ _ _ _ c.gap_around.ensures.gap c.gap_around.ensures.around c.requires.some in
    gaps_inserted_after _ _ (index_of c.args.row.now c.gap_around.result.0) _ (record { base = c.gap_around.result.1.base; top = c.from.result }) c.set.ensures.gaps
    (c.set.ensures.places c.gap_around.result.0 c.gap_around.ensures.place).1
    (gaps_split (gaps_in c.args.row.now) (index_of c.args.row.now c.gap_around.result.0) c.gap_around.result.1 c.args.span (record { base = c.gap_around.result.1.base; top = c.from.result })
    (record { base = c.args.span.top; top = c.gap_around.result.1.top }) c.requires.gaps it (omega arith) (omega (arith, c.from.ensures)) (omega arith) (omega arith)
    (omega (arith, c.from.ensures)) (omega arith))

pub set-requires-then-gap-span-2-clause-order : goal.set-requires-then-gap-span-2-clause-order
set-requires-then-gap-span-2-clause-order c =
    let it : IsAround (gaps_in c.args.row.now) (index_of c.args.row.now c.gap_around.result.0) c.gap_around.result.1 c.args.span =
    around_read _ _ _ _ c.gap_around.ensures.gap c.gap_around.ensures.around c.requires.some in
    gaps_left (gaps_in c.args.row.now) (index_of c.args.row.now c.gap_around.result.0) c.gap_around.result.1 c.args.span (record { base = c.gap_around.result.1.base; top = c.from.result })
    c.requires.gaps it (omega (arith, c.from.ensures)) (omega arith) (omega (arith, c.from.ensures, it.to_top, it.some))

pub set-requires-then-gap-span-2-clause-within : goal.set-requires-then-gap-span-2-clause-within
set-requires-then-gap-span-2-clause-within c =
    let it : IsAround (gaps_in c.args.row.now) (index_of c.args.row.now c.gap_around.result.0) c.gap_around.result.1 c.args.span =
    around_read _ _ _ _ c.gap_around.ensures.gap c.gap_around.ensures.around c.requires.some in
    it.within

pub remove-requires-clause-within : goal.remove-requires-clause-within
remove-requires-clause-within c =
    let it : IsAround (gaps_in c.args.row.now) (index_of c.args.row.now c.gap_around.result.0) c.gap_around.result.1 c.args.span =
    around_read _ _ _ _ c.gap_around.ensures.gap c.gap_around.ensures.around c.requires.some in
    it.within

pub returns-then-gap-span-clause-gaps : goal.returns-then-gap-span-clause-gaps
returns-then-gap-span-clause-gaps c =
    let it : IsAround (gaps_in c.args.row.now) (index_of c.args.row.now c.gap_around.result.0) c.gap_around.result.1 c.args.span =
    around_read _ _ _ _ c.gap_around.ensures.gap c.gap_around.ensures.around c.requires.some in
    gaps_after _ _ (inserted_after _ _ _ (index_of c.args.row.now c.gap_around.result.0) _ (record { base = c.gap_around.result.1.base; top = c.from.result }) c.insert.ensures.gaps
    c.set.ensures.gaps (c.set.ensures.places c.gap_around.result.0 c.gap_around.ensures.place).1)
    (gaps_split (gaps_in c.args.row.now) (index_of c.args.row.now c.gap_around.result.0) c.gap_around.result.1 c.args.span (record { base = c.gap_around.result.1.base; top = c.from.result })
    (record { base = c.args.span.top; top = c.gap_around.result.1.top }) c.requires.gaps it (omega arith) (omega (arith, c.from.ensures)) (omega arith) (omega arith)
    (omega (arith, c.from.ensures)) (omega arith))

pub returns-then-gap-span-clause-bytes : goal.returns-then-gap-span-clause-bytes
returns-then-gap-span-clause-bytes c =
    let it : IsAround (gaps_in c.args.row.now) (index_of c.args.row.now c.gap_around.result.0) c.gap_around.result.1 c.args.span =
    around_read _ _ _ _ c.gap_around.ensures.gap c.gap_around.ensures.around c.requires.some in
    taken_after _ _ (gaps_in c.args.row.now) c.args.span (inserted_after _ _ _ (index_of c.args.row.now c.gap_around.result.0) _ (record { base = c.gap_around.result.1.base; top = c.from.result })
    c.insert.ensures.gaps c.set.ensures.gaps (c.set.ensures.places c.gap_around.result.0 c.gap_around.ensures.place).1)
    (taken_middle (gaps_in c.args.row.now) (index_of c.args.row.now c.gap_around.result.0) c.gap_around.result.1 c.args.span (record { base = c.gap_around.result.1.base; top = c.from.result })
    (record { base = c.args.span.top; top = c.gap_around.result.1.top }) it (omega arith) (omega (arith, c.from.ensures)) (omega arith) (omega arith))

pub returns-else-gap-span-clause-gaps : goal.returns-else-gap-span-clause-gaps
returns-else-gap-span-clause-gaps c =
    let it : IsAround (gaps_in c.args.row.now) (index_of c.args.row.now c.gap_around.result.0) c.gap_around.result.1 c.args.span =
    around_read _ _ _ _ c.gap_around.ensures.gap c.gap_around.ensures.around c.requires.some in
    gaps_after _ _ c.set.ensures.gaps
    (gaps_left (gaps_in c.args.row.now) (index_of c.args.row.now c.gap_around.result.0) c.gap_around.result.1 c.args.span (record { base = c.args.span.top; top = c.gap_around.result.1.top })
    c.requires.gaps it (omega arith) (omega (arith, it.from_base, it.some)) (omega arith))

pub returns-else-gap-span-clause-bytes : goal.returns-else-gap-span-clause-bytes
returns-else-gap-span-clause-bytes c =
    let it : IsAround (gaps_in c.args.row.now) (index_of c.args.row.now c.gap_around.result.0) c.gap_around.result.1 c.args.span =
    around_read _ _ _ _ c.gap_around.ensures.gap c.gap_around.ensures.around c.requires.some in
    taken_after _ _ (gaps_in c.args.row.now) c.args.span c.set.ensures.gaps
    (taken_low (gaps_in c.args.row.now) (index_of c.args.row.now c.gap_around.result.0) c.gap_around.result.1 c.args.span (record { base = c.args.span.top; top = c.gap_around.result.1.top }) it
    (omega (arith, it.from_base)) (omega arith) (omega arith))

pub returns-then-gap-span-2-clause-gaps : goal.returns-then-gap-span-2-clause-gaps
returns-then-gap-span-2-clause-gaps c =
    let it : IsAround (gaps_in c.args.row.now) (index_of c.args.row.now c.gap_around.result.0) c.gap_around.result.1 c.args.span =
    around_read _ _ _ _ c.gap_around.ensures.gap c.gap_around.ensures.around c.requires.some in
    gaps_after _ _ c.set-then-gap-span-2.ensures.gaps
    (gaps_left (gaps_in c.args.row.now) (index_of c.args.row.now c.gap_around.result.0) c.gap_around.result.1 c.args.span (record { base = c.gap_around.result.1.base; top = c.from.result })
    c.requires.gaps it (omega (arith, c.from.ensures)) (omega arith) (omega (arith, c.from.ensures, it.to_top, it.some)))

pub returns-then-gap-span-2-clause-bytes : goal.returns-then-gap-span-2-clause-bytes
returns-then-gap-span-2-clause-bytes c =
    let it : IsAround (gaps_in c.args.row.now) (index_of c.args.row.now c.gap_around.result.0) c.gap_around.result.1 c.args.span =
    around_read _ _ _ _ c.gap_around.ensures.gap c.gap_around.ensures.around c.requires.some in
    taken_after _ _ (gaps_in c.args.row.now) c.args.span c.set-then-gap-span-2.ensures.gaps
    (taken_high (gaps_in c.args.row.now) (index_of c.args.row.now c.gap_around.result.0) c.gap_around.result.1 c.args.span (record { base = c.gap_around.result.1.base; top = c.from.result }) it
    (omega (arith, it.to_top)) (omega arith) (omega (arith, c.from.ensures)))

pub returns-else-gap-span-2-clause-gaps : goal.returns-else-gap-span-2-clause-gaps
returns-else-gap-span-2-clause-gaps c =
    let it : IsAround (gaps_in c.args.row.now) (index_of c.args.row.now c.gap_around.result.0) c.gap_around.result.1 c.args.span =
    around_read _ _ _ _ c.gap_around.ensures.gap c.gap_around.ensures.around c.requires.some in
    gaps_after _ _ c.remove.ensures.gaps (gaps_removed (gaps_in c.args.row.now) (index_of c.args.row.now c.gap_around.result.0) c.gap_around.result.1 c.requires.gaps it.within)

pub returns-else-gap-span-2-clause-bytes : goal.returns-else-gap-span-2-clause-bytes
returns-else-gap-span-2-clause-bytes c =
    let it : IsAround (gaps_in c.args.row.now) (index_of c.args.row.now c.gap_around.result.0) c.gap_around.result.1 c.args.span =
    around_read _ _ _ _ c.gap_around.ensures.gap c.gap_around.ensures.around c.requires.some in
    taken_after _ _ (gaps_in c.args.row.now) c.args.span c.remove.ensures.gaps
    (taken_whole (gaps_in c.args.row.now) (index_of c.args.row.now c.gap_around.result.0) c.gap_around.result.1 c.args.span it (omega (arith, it.from_base)) (omega (arith, it.to_top)))
