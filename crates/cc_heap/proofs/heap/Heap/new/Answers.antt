use Rattle.std.proofs.Common.{◌≡◌, ◌∙◌, rules}
use Rattle.cc_heap.proofs.HeapLemmas.{kept_new}
use Rattle.cc_heap.proofs.heap.Heap.new.Goals as goal

pub invariant_of-result : goal.invariant_of-result
invariant_of-result g c =
    let usage : c.default.result ≡ record { objects = 0; asked = 0; live = 0; quarantine = 0 } = search rules in
    rw usage (kept_new c.args.settings _ c.new.result.entries c.new-2.result.items _ _ _
    (g.P.Placer.holds c.set_pool.new.self) (search rules) c.new-2.ensures.items c.new.ensures.unique c.requires.few
    (record { in_order = c.requires.in_order; fits = c.requires.fits }) (search rules)
    (c.set_pool.ensures.limit ∙ c.in_ok-placer.ensures.limit) c.set_pool.ensures.pool
    (c.set_pool.ensures.held _ c.in_ok-placer.ensures.nothing_held))
