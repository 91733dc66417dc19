use Rattle.std.proofs.Common.{◌≡◌, ◌<◌, ◌∙◌, Some, length, slice_get}
use Rattle.std.proofs.lemmas.List.Sorted.{IsPermutation-swap_remove, IsPermutation-sym}
use Rattle.std.proofs.lemmas.Option.{get_or_from_slice_get}
use Rattle.cc_placer.proofs.SameSpansLemmas.{is_among, same_fewer}
use Rattle.cc_placers.proofs.scan.ScanPlacerPlacer.give_back.Goals as goal

pub position_of-at-requires : goal.position_of-at-requires
position_of-at-requires c =
    rw c.deref.ensures.value
    (is_among c.self.inside.spans.items c.args.span (rw (← c.self.view_is) at c.requires.is_held))

pub returns-clause-held : goal.returns-clause-held
returns-clause-held c spans fewer same among removes =
    let at : slice_get c.self.inside.spans.items c.position_of-at.result ≡ Some c.args.span =
    rw (← c.deref.ensures.value) c.position_of-at.ensures.found in
    let removed : c.swap_remove.result ≡ c.args.span =
    c.swap_remove.ensures.value ∙ get_or_from_slice_get c.self.inside.spans.items c.position_of-at.result c.args.span
    c.swap_remove.result at in
    let within : c.position_of-at.result < length c.self.inside.spans.items = rw
    (← c.deref.ensures.value) c.position_of-at.ensures.within in
    same_fewer c.self.inside.spans.items spans c.swap_remove.new.self.items fewer c.args.span
    (rw (← c.self.view_is) at same)
    (rw (c.swap_remove.ensures.items, ← removed)
    (IsPermutation-sym _ _ (IsPermutation-swap_remove c.self.inside.spans.items c.position_of-at.result
    c.swap_remove.result within c.swap_remove.ensures.value))) removes
