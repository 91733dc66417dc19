use Rattle.std.proofs.Common.{◌≡◌, Some, rules}
use Rattle.cc_placer.proofs.SameSpansLemmas.{room_in_pool}
use Rattle.cc_placers.proofs.sorted.SortedPlacerPlacer.room.Goals as goal

pub returns : goal.returns
returns c spans same =
    let pool_is : c.self.inside.pool ≡ Some c.in_ok-self.field-0 = search rules in
    rw (← c.self.view_is)
    (room_in_pool c.self.inside.pool c.in_ok-self.field-0 c.deref.result.now c.self.inside.spans.items spans c.args.len
    c.args.align c.room_between.result pool_is
    c.deref.ensures.value (rw (← c.self.view_is) at same) c.room_between.ensures)
