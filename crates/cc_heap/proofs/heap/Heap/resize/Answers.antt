use Rattle.std.proofs.Common.{◌≡◌, ◌∙◌, Some, arith, refl, ap, nat_eq, subst, true}
use Rattle.std.specs.Map.{lookup}
use Rattle.cc_heap.specs.Heap.{Heap, KeepsHeapObject, object_under, resized}
use Rattle.cc_heap.specs.Reallocation.{can_take}
use Rattle.cc_heap.proofs.HeapLemmas.{fit, kept_swapped, live_object, small}
use Rattle.cc_heap.proofs.MemoryLemmas.{found_first}
use Rattle.cc_heap.proofs.PlaceLemmas.{exact_in, takes_parts}
use Rattle.cc_heap.proofs.heap.Heap.resize.Goals as goal

pub with_size-self-inside-requires-clause-asked_is : goal.with_size-self-inside-requires-clause-asked_is
with_size-self-inside-requires-clause-asked_is g c =
    let is_live : lookup (nat_eq c.args.from) c.self.inside.objects.entries ≡ Some c.args.before =
    ap (λ (h : Heap). object_under h c.args.from) c.self.view_is ∙ c.requires.live in
    let before = live_object c.self.inside.settings.align c.self.inside.objects.entries _ c.self.inside.quarantine.items
    c.self.inside.usage c.args.from c.args.before (fit _ _ c.self.invariant.sound)
    (found_first c.args.from c.args.before c.self.inside.objects.entries is_live) c.self.invariant.usage_is in
    before.asked

pub with_size-self-inside-requires-clause-fits : goal.with_size-self-inside-requires-clause-fits
with_size-self-inside-requires-clause-fits g c =
    let few = small _ c.self.inside.usage _ _ _ (g.P.Placer.holds c.self.inside.placer) c.self.invariant in
    omega (arith, few.asked, c.ranges.size.fits)

pub invariant_of-self-2 : goal.invariant_of-self-2
invariant_of-self-2 g c =
    let is_live : lookup (nat_eq c.args.from) c.self.inside.objects.entries ≡ Some c.args.before =
    ap (λ (h : Heap). object_under h c.args.from) c.self.view_is ∙ c.requires.live in
    let before = live_object c.self.inside.settings.align c.self.inside.objects.entries _ c.self.inside.quarantine.items
    c.self.inside.usage c.args.from c.args.before (fit _ _ c.self.invariant.sound)
    (found_first c.args.from c.args.before c.self.inside.objects.entries is_live) c.self.invariant.usage_is in
    let takes : can_take c.self.inside.settings.align 1 c.args.size c.args.before.span ≡ true =
    ap (λ (h : Heap). can_take h.settings.align 1 c.args.size c.args.before.span) c.self.view_is ∙ c.requires.fits in
    let swaps = c.in_ok-put_for.ensures.swaps c.args.before is_live in
    let parts = takes_parts c.self.inside.settings.align 1 c.args.size c.args.before.span takes in
    kept_swapped c.self.inside.settings c.self.inside.totals c.self.inside.objects.entries
    c.put_for.new.objects.entries c.self.inside.quarantine.items c.self.inside.usage c.with_size-self-inside.result _ _ _
    (g.P.Placer.holds c.self.inside.placer) c.args.from c.args.to c.args.before (resized c.args.before 1 c.args.size)
    c.self.invariant swaps c.in_ok-put_for.ensures.unique
    (exact_in c.self.inside.settings.align 1 c.args.size c.args.before.span before.is_span (0, refl) c.requires.some
    (omega (arith, c.ranges.size.fits)) parts.0 parts.1) refl c.with_size-self-inside.ensures before.asked

pub returns-clause-keeps : goal.returns-clause-keeps
returns-clause-keeps g c =
    let is_live : lookup (nat_eq c.args.from) c.self.inside.objects.entries ≡ Some c.args.before =
    ap (λ (h : Heap). object_under h c.args.from) c.self.view_is ∙ c.requires.live in
    subst (λ (old : Heap). KeepsHeapObject old c.args.from c.args.to c.args.before 1 c.args.size c.count_state.new.self) c.self.view_is (record {
      is_live = is_live;
      fits = ap (λ (h : Heap). can_take h.settings.align 1 c.args.size c.args.before.span) c.self.view_is ∙ c.requires.fits;
      live = c.put_for.new.objects.entries;
      swaps = c.in_ok-put_for.ensures.swaps c.args.before is_live;
      is_new = c.count_state.ensures.counts;
    })
