use Rattle.std.proofs.Common.{◌+◌, arith}
use Rattle.cc_ffi.specs.Search.{IsWantedAt}
use Rattle.cc_ffi.proofs.SearchLemmas.{Searched, searched_more, searched_past}
use Rattle.cc_ffi.proofs.search.cheri_cap_search_memory.Goals.{then-is_wanted_at, else-is_wanted_at}
use Rattle.cc_ffi.proofs.search.cheri_cap_search_memory.Goals as goal

pub words-preserved : goal.words-preserved
words-preserved c =
    let P = IsWantedAt c.args.query.now c.args.big_endian c.args.memory.now c.args.tag_bits.now in
    let old = c.words.invariant in
    let kept : Searched P c.args.positions.now c.words.positions c.end_of-end.result c.words.count c.words.i =
    record { within = old.within; fits = old.fits; listed = old.listed; full = old.full; none = old.none; rest = old.rest } in
    let now : Searched P c.args.positions.now c.if-is_wanted_at.positions c.end_of-end.result c.if-is_wanted_at.count (c.words.i + 1) =
    elim c.if-is_wanted_at.branch [
      | then-is_wanted_at w ↦
          searched_more P c.args.positions.now c.words.positions c.if-is_wanted_at.positions c.end_of-end.result c.words.count c.words.i
          c.if-is_wanted_at.count (omega arith) (omega arith) kept (c.is_wanted_at.ensures.0 w.if-is_wanted_at.true) w.positions-is w.count-is
      | else-is_wanted_at w ↦
          searched_past P c.args.positions.now c.words.positions c.if-is_wanted_at.positions c.end_of-end.result c.words.count c.words.i
          c.if-is_wanted_at.count (omega arith) (omega arith) kept
          (λ p. let yes = c.is_wanted_at.ensures.1 p in let no = w.if-is_wanted_at.false in cc (yes, no)) w.positions-is w.count-is
    ] in
    record { within = now.within; fits = now.fits; listed = now.listed; full = now.full; none = now.none; rest = now.rest }
