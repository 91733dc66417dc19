-- What a heap keeps when an object is made, when one is freed and when a span is released.
use Rattle.std.proofs.Common.{ℕ, false, max, ◌≡◌, ◌+◌, ◌-◌, ◌<◌, ◌≤◌, ◌^◌, nat_eq, List, [], ◌∷◌, ◌++◌, Option, Some, None, IfSome, All, Contains, map, sum_by, length, arith, refl, subst, ◌∙◌}
use Rattle.std.proofs.Common.{sym, ap, IsPermutation}
use Rattle.std.specs.Int.{IsPowerOfTwo}
use Rattle.std.specs.List.{IsDistinct}
use Rattle.std.specs.Map.{keys_of, lookup, remove_entry, set_value}
use Rattle.std.specs.Option.{MatchOption, IsNone, option_to_list}
use Rattle.std.proofs.lemmas.Bool.Decides.{nat_tests}
use Rattle.std.proofs.lemmas.List.{get_or_append_left, get_or_push, length_push}
use Rattle.std.proofs.lemmas.List.Elements.{All-cons, All-push, All-tail}
use Rattle.std.proofs.lemmas.List.Sums.{sum_by-cons, sum_by-le, sum_by_push}
use Rattle.std.proofs.lemmas.List.Sorted.{All-permutation, Contains-permutation, IsPermutation-cons, IsPermutation-refl, IsPermutation-sym, IsPermutation-trans, length_permutation}
use Rattle.std.proofs.lemmas.List.Sorted.{sum_by-IsPermutation}
use Rattle.cc_bounds.specs.declared.align.Align.{Align}
use Rattle.cc_bounds.specs.declared.span.Span.{Span}
use Rattle.cc_bounds.specs.Span.{IsSpan, length_of}
use Rattle.cc_placer.specs.PlacerState.{IsPoolSpan}
use Rattle.cc_placer.specs.Align.{padded_size_for}
use Rattle.cc_placer.specs.Placement.{AddsSpan, HasNoPlace, IsApartFrom, RemovesSpan}
use Rattle.cc_heap.specs.declared.object.Object.{Object}
use Rattle.cc_heap.specs.declared.settings.Settings.{Settings}
use Rattle.cc_heap.specs.declared.totals.Totals.{Totals}
use Rattle.cc_heap.specs.declared.usage.Usage.{Usage}
use Rattle.cc_heap.specs.Memory.{IsExact, IsExactEntry, IsSoundMemory, Memory, ShareNoByte, memory_spans, object_span, start_unit, usage_of}
use Rattle.cc_heap.specs.Heap.{Heap}
use Rattle.cc_heap.specs.HeapState.{HoldsSpans, IsHeap, IsRoomFor}
use Rattle.cc_heap.proofs.PlaceLemmas.{IsFound, found, no_room}
use Rattle.cc_heap.proofs.MemoryLemmas.{found_first, held_made, held_retired, held_swapped, held_swept, once_along, once_fewer, once_more, set_first}

-- a memory and a heap of these parts
abbrev pub memory_of : List (ℕ × Object) → List Span → Memory
memory_of live waiting = record { live = live; quarantined = waiting }

abbrev pub heap_of : Settings → List (ℕ × Object) → List Span → Totals → Heap
heap_of settings live waiting totals = record { settings = settings; memory = memory_of live waiting; totals = totals }

-- what an entry adds to the sums
abbrev pub length_of_entry : ℕ × Object → ℕ
length_of_entry entry = length_of (object_span entry)

abbrev pub size_of_entry : ℕ × Object → ℕ
size_of_entry entry = entry.1.size

-- ---- sums

-- the usage with one object more
abbrev pub usage_with : Usage → Object → Usage
usage_with usage object = record {
  objects = usage.objects + 1;
  asked = usage.asked + object.size;
  live = usage.live + length_of object.span;
  quarantine = usage.quarantine;
}

pub usage_made : (live more : List (ℕ × Object)) (waiting : List Span) (id : ℕ) (object : Object) (usage new : Usage)
    → usage ≡ usage_of (memory_of live waiting) → new ≡ usage_with usage object
    → IsPermutation ((id, object) ∷ live) more → new ≡ usage_of (memory_of more waiting)
usage_made live more waiting id object usage new is new_is adds =
    let objects : usage.objects + 1 ≡ length more =
    omega (arith, ap (λ (u : Usage). u.objects) is, length_permutation ((id, object) ∷ live) more adds) in
    let asked : usage.asked + object.size ≡ sum_by size_of_entry more =
    omega (
      arith,
      ap (λ (u : Usage). u.asked) is,
      sum_by-IsPermutation size_of_entry ((id, object) ∷ live) more adds,
      sum_by-cons size_of_entry (id, object) live,
    ) in
    let bytes : usage.live + length_of object.span ≡ sum_by length_of_entry more =
    omega (
      arith,
      ap (λ (u : Usage). u.live) is,
      sum_by-IsPermutation length_of_entry ((id, object) ∷ live) more adds,
      sum_by-cons length_of_entry (id, object) live,
    ) in
    let rest : usage.quarantine ≡ sum_by length_of waiting = ap (λ (u : Usage). u.quarantine) is in
    new_is ∙ (λ i. record { objects = objects i; asked = asked i; live = bytes i; quarantine = rest i })

-- with one of them quarantined
abbrev pub usage_without : Usage → Object → Usage
usage_without usage object = record {
  objects = usage.objects - 1;
  asked = usage.asked - object.size;
  live = usage.live - length_of object.span;
  quarantine = usage.quarantine + length_of object.span;
}

pub usage_retired : (live fewer : List (ℕ × Object)) (waiting : List Span) (id : ℕ) (object : Object) (usage new : Usage)
    → usage ≡ usage_of (memory_of live waiting) → new ≡ usage_without usage object
    → IsPermutation live ((id, object) ∷ fewer) → new ≡ usage_of (memory_of fewer (waiting ++ object.span ∷ []))
usage_retired live fewer waiting id object usage new is new_is takes =
    let objects : usage.objects - 1 ≡ length fewer =
    omega (arith, ap (λ (u : Usage). u.objects) is, length_permutation live ((id, object) ∷ fewer) takes) in
    let asked : usage.asked - object.size ≡ sum_by size_of_entry fewer =
    omega (
      arith,
      ap (λ (u : Usage). u.asked) is,
      sum_by-IsPermutation size_of_entry live ((id, object) ∷ fewer) takes,
      sum_by-cons size_of_entry (id, object) fewer,
    ) in
    let bytes : usage.live - length_of object.span ≡ sum_by length_of_entry fewer =
    omega (
      arith,
      ap (λ (u : Usage). u.live) is,
      sum_by-IsPermutation length_of_entry live ((id, object) ∷ fewer) takes,
      sum_by-cons length_of_entry (id, object) fewer,
    ) in
    let rest : usage.quarantine + length_of object.span ≡ sum_by length_of (waiting ++ object.span ∷ []) =
    omega (arith, ap (λ (u : Usage). u.quarantine) is, sum_by_push length_of waiting object.span) in
    new_is ∙ (λ i. record { objects = objects i; asked = asked i; live = bytes i; quarantine = rest i })

-- with another size of one of them
abbrev pub usage_resized : Usage → (before after : ℕ) → Usage
usage_resized usage before after = record {
  objects = usage.objects;
  asked = usage.asked - before + after;
  live = usage.live;
  quarantine = usage.quarantine;
}

pub usage_swapped : (live more : List (ℕ × Object)) (waiting : List Span) (from to : ℕ) (before object : Object) (usage new : Usage)
    → usage ≡ usage_of (memory_of live waiting) → new ≡ usage_resized usage before.size object.size
    → before.size ≤ usage.asked → object.span ≡ before.span
    → IsPermutation ((to, object) ∷ live) ((from, before) ∷ more) → new ≡ usage_of (memory_of more waiting)
usage_swapped live more waiting from to before object usage new is new_is counted same swaps =
    let objects : usage.objects ≡ length more =
    omega (arith, ap (λ (u : Usage). u.objects) is, length_permutation ((to, object) ∷ live) ((from, before) ∷ more) swaps) in
    let asked : usage.asked - before.size + object.size ≡ sum_by size_of_entry more =
    omega (
      arith,
      counted,
      ap (λ (u : Usage). u.asked) is,
      sum_by-IsPermutation size_of_entry ((to, object) ∷ live) ((from, before) ∷ more) swaps,
      sum_by-cons size_of_entry (to, object) live,
      sum_by-cons size_of_entry (from, before) more,
    ) in
    let bytes : usage.live ≡ sum_by length_of_entry more =
    omega (
      arith,
      ap (λ (u : Usage). u.live) is,
      ap length_of same,
      sum_by-IsPermutation length_of_entry ((to, object) ∷ live) ((from, before) ∷ more) swaps,
      sum_by-cons length_of_entry (to, object) live,
      sum_by-cons length_of_entry (from, before) more,
    ) in
    let rest : usage.quarantine ≡ sum_by length_of waiting = ap (λ (u : Usage). u.quarantine) is in
    new_is ∙ (λ i. record { objects = objects i; asked = asked i; live = bytes i; quarantine = rest i })

-- and with its span released
abbrev pub usage_less : Usage → ℕ → Usage
usage_less usage bytes =
    record { objects = usage.objects; asked = usage.asked; live = usage.live; quarantine = usage.quarantine - bytes }

pub usage_released : (live : List (ℕ × Object)) (waiting fewer : List Span) (span : Span) (usage new : Usage)
    → usage ≡ usage_of (memory_of live waiting) → new ≡ usage_less usage (length_of span)
    → waiting ≡ fewer ++ span ∷ [] → new ≡ usage_of (memory_of live fewer)
usage_released live waiting fewer span usage new is new_is was =
    let sums : sum_by length_of waiting ≡ sum_by length_of (fewer ++ span ∷ []) =
    ap (λ (w : List Span). sum_by length_of w) was in
    let rest : usage.quarantine - length_of span ≡ sum_by length_of fewer =
    omega (arith, ap (λ (u : Usage). u.quarantine) is, sums, sum_by_push length_of fewer span) in
    new_is ∙ (λ i. record {
      objects = (ap (λ (u : Usage). u.objects) is) i;
      asked = (ap (λ (u : Usage). u.asked) is) i;
      live = (ap (λ (u : Usage). u.live) is) i;
      quarantine = rest i;
    })

-- the sums fit: each object has less than 2 ^ 64 bytes, and each span at most so many
pub record IsSmall (usage : Usage) : Type 0 where
  pub objects : usage.objects ≤ 2 ^ 24
  pub asked : usage.asked ≤ 2 ^ 88
  pub held : usage.live + usage.quarantine ≤ 2 ^ 88

pub small : (heap : Heap) (usage : Usage) (capacity placer_limit : ℕ) (placer_pool : Option Span) (placer_holds : List Span → Type 0)
    → IsHeap heap usage capacity placer_limit placer_pool placer_holds → IsSmall usage
small heap usage capacity placer_limit placer_pool placer_holds kept =
    let one = sum_by-le length_of_entry (2 ^ 64) heap.memory.live (λ k d within.
    let top = (kept.sound.exact k d within).bounds.is_span.top_fits in omega (arith, top)) in
    let other = sum_by-le length_of (2 ^ 64) heap.memory.quarantined (λ k d within.
    let top = (kept.sound.spans k d within).top_fits in omega (arith, top)) in
    let sizes = sum_by-le size_of_entry (2 ^ 64) heap.memory.live (λ k d within.
    let fits = (kept.sound.exact k d within).size_fits in omega (arith, fits)) in
    record {
      objects = omega (arith, ap (λ (u : Usage). u.objects) kept.usage_is, kept.at_most, kept.few);
      asked = omega (arith, ap (λ (u : Usage). u.asked) kept.usage_is, kept.at_most, kept.few, sizes);
      held = omega (
        arith,
        ap (λ (u : Usage). u.live) kept.usage_is,
        ap (λ (u : Usage). u.quarantine) kept.usage_is,
        kept.at_most,
        kept.few,
        one,
        other,
      );
    }

-- as many spans are held as there are live objects and quarantined spans
pub held_length : (memory : Memory) → length (memory_spans memory) ≡ length memory.live + length memory.quarantined
held_length memory = omega (arith, joined (map object_span memory.live) memory.quarantined, mapped memory.live)
  where
    joined : (xs ys : List Span) → length (xs ++ ys) ≡ length xs + length ys
    joined [] ys = omega arith
    joined (x ∷ xs) ys = let rest = joined xs ys in omega (arith, rest)

    mapped : (es : List (ℕ × Object)) → length (map object_span es) ≡ length es
    mapped [] = refl
    mapped (e ∷ es) = let rest = mapped es in omega (arith, rest)

-- a heap holds no more spans than its limit
pub few_held : (heap : Heap) (usage : Usage) (capacity placer_limit : ℕ) (pool : Option Span) (holds : List Span → Type 0)
    → IsHeap heap usage capacity placer_limit pool holds → length (memory_spans heap.memory) ≤ heap.settings.limit
few_held heap usage capacity placer_limit pool holds is = omega (arith, held_length heap.memory, is.at_most)

pub below_limit : (heap : Heap) (usage : Usage) (capacity placer_limit : ℕ) (placer_pool : Option Span)
    (holds : List Span → Type 0) → IsHeap heap usage capacity placer_limit placer_pool holds
    → length heap.memory.live + length heap.memory.quarantined < heap.settings.limit
    → length (memory_spans heap.memory) < placer_limit
below_limit heap usage capacity placer_limit placer_pool holds kept below =
    omega (arith, kept.limit_is, held_length heap.memory)

-- the bytes of an object that its placer finds
pub placed : {heap : Heap} {usage : Usage} {capacity placer_limit : ℕ} {placer_pool : Option Span} {holds : List Span → Type 0}
    → IsHeap heap usage capacity placer_limit placer_pool holds → (requested size : ℕ) (result : Option Span) (span : Span)
    → ((spans : List Span) → holds spans → IfSome placer_pool (λ pool. IsRoomFor heap.settings.align requested pool spans size result))
    → result ≡ Some span → IsPowerOfTwo requested → 0 < size → size < 2 ^ 64
    → IsFound heap.settings.align heap.settings.pool (memory_spans heap.memory) requested size span
placed {heap} {usage} {capacity} {placer_limit} {placer_pool} {holds} kept requested size result span finds is power some fits =
    found placer_pool heap.settings.align heap.settings.pool (memory_spans heap.memory) requested size result span kept.pool_is kept.is_pool is
    (finds (memory_spans heap.memory) (kept.held_is (memory_spans heap.memory) (IsPermutation-refl (memory_spans heap.memory)))) power some fits

-- and none
pub unplaced : {heap : Heap} {usage : Usage} {capacity placer_limit : ℕ} {placer_pool : Option Span} {holds : List Span → Type 0}
    → IsHeap heap usage capacity placer_limit placer_pool holds → (requested size : ℕ) (result : Option Span)
    → ((spans : List Span) → holds spans → IfSome placer_pool (λ pool. IsRoomFor heap.settings.align requested pool spans size result))
    → result ≡ None
    → HasNoPlace heap.settings.pool (memory_spans heap.memory) (padded_size_for heap.settings.align size) (start_unit heap.settings.align requested size)
unplaced {heap} {usage} {capacity} {placer_limit} {placer_pool} {holds} kept requested size result finds is =
    no_room placer_pool heap.settings.align heap.settings.pool (memory_spans heap.memory) requested size result kept.pool_is is
    (finds (memory_spans heap.memory) (kept.held_is (memory_spans heap.memory) (IsPermutation-refl (memory_spans heap.memory))))

-- ---- what a memory is except for its ids

pub record IsFit (align : Align) (memory : Memory) : Type 0 where
  pub exact : All (IsExactEntry align) memory.live
  pub spans : All IsSpan memory.quarantined
  pub apart : ShareNoByte (memory_spans memory)

pub fit : (align : Align) (memory : Memory) → IsSoundMemory align memory → IsFit align memory
fit align memory sound = record { exact = sound.exact; spans = sound.spans; apart = sound.apart }

pub fit_made : (align : Align) (live more : List (ℕ × Object)) (waiting : List Span) (id : ℕ) (object : Object)
    → IsFit align (memory_of live waiting) → IsExact align object
    → IsApartFrom (map object_span live ++ waiting) object.span
    → IsPermutation ((id, object) ∷ live) more → IsFit align (memory_of more waiting)
fit_made align live more waiting id object kept exact apart adds = record {
  exact = All-permutation (IsExactEntry align) ((id, object) ∷ live) more adds
      (All-cons (IsExactEntry align) (id, object) live exact kept.exact);
  spans = kept.spans;
  apart = once_along (object.span ∷ (map object_span live ++ waiting)) (map object_span more ++ waiting)
      (held_made (id, object) live more waiting adds)
      (once_more (map object_span live ++ waiting) object.span kept.apart apart);
}

pub fit_retired : (align : Align) (live fewer : List (ℕ × Object)) (waiting : List Span) (id : ℕ) (object : Object)
    → IsFit align (memory_of live waiting) → IsPermutation live ((id, object) ∷ fewer)
    → IsFit align (memory_of fewer (waiting ++ object.span ∷ []))
fit_retired align live fewer waiting id object kept takes =
    let all = All-permutation (IsExactEntry align) live ((id, object) ∷ fewer) takes kept.exact in
    let first : IsExact align object = all 0 (id, object) (omega arith) in
    record {
      exact = All-tail (IsExactEntry align) (id, object) fewer all;
      spans = All-push IsSpan waiting object.span kept.spans first.bounds.is_span;
      apart = once_along (map object_span live ++ waiting) (map object_span fewer ++ (waiting ++ object.span ∷ []))
          (held_retired (id, object) live fewer waiting takes) kept.apart;
    }

pub fit_released : (align : Align) (live : List (ℕ × Object)) (waiting fewer : List Span) (span : Span)
    → IsFit align (memory_of live waiting) → waiting ≡ fewer ++ span ∷ [] → IsFit align (memory_of live fewer)
fit_released align live waiting fewer span kept is =
    let was : IsFit align (memory_of live (fewer ++ span ∷ [])) =
    subst (λ (w : List Span). IsFit align (memory_of live w)) is kept in
    record {
      exact = was.exact;
      spans = λ k d within.
          subst IsSpan (get_or_append_left fewer (span ∷ []) d k within)
          (was.spans k d (omega (arith, within, length_push fewer span)));
      apart = once_fewer (map object_span live ++ fewer) span
          (once_along (map object_span live ++ (fewer ++ span ∷ [])) (span ∷ (map object_span live ++ fewer))
          (held_swept (map object_span live) fewer span) was.apart);
    }

-- ---- what a heap keeps

pub kept_made : (settings : Settings) (totals new_totals : Totals) (live more : List (ℕ × Object))
    (waiting new_waiting : List Span) (usage new_usage : Usage) (capacity new_capacity placer_limit new_limit : ℕ)
    (placer_pool new_pool : Option Span) (holds new_holds : List Span → Type 0) (id : ℕ) (object : Object)
    → IsHeap (heap_of settings live waiting totals) usage capacity placer_limit placer_pool holds
    → IsFound settings.align settings.pool (map object_span live ++ waiting) object.align object.size object.span
    → ((others : List Span) → AddsSpan (map object_span live ++ waiting) object.span others → new_holds others) → length live + length waiting < settings.limit
    → IsPermutation ((id, object) ∷ live) more → IsDistinct nat_eq (keys_of more)
    → new_usage ≡ usage_with usage object → length waiting + (length live + 1) ≤ new_capacity
    → new_limit ≡ placer_limit → new_pool ≡ placer_pool → new_waiting ≡ waiting
    → new_totals.high ≡ max totals.high (object.span.top - settings.pool.base)
    → IsHeap (heap_of settings more new_waiting new_totals) new_usage new_capacity new_limit new_pool new_holds
kept_made settings totals new_totals live more waiting new_waiting usage new_usage capacity new_capacity placer_limit
    new_limit placer_pool new_pool holds new_holds id object kept found adds below more_is distinct usage_is room limit_is
    pool_is waiting_is high_is =
    let before = fit settings.align (memory_of live waiting) kept.sound in
    let after = fit_made settings.align live more waiting id object before found.exact found.apart more_is in
    let longer = length_permutation ((id, object) ∷ live) more more_is in
    rw waiting_is (record {
      sound = record { exact = after.exact; spans = after.spans; ids = distinct; apart = after.apart };
      usage_is = usage_made live more waiting id object usage new_usage kept.usage_is usage_is more_is;
      reserved = omega (arith, longer, room);
      at_most = omega (arith, longer, below);
      few = kept.few;
      is_pool = kept.is_pool;
      high_fits = omega (arith, high_is, kept.high_fits, found.end_fits);
      limit_is = limit_is ∙ kept.limit_is;
      pool_is = pool_is ∙ kept.pool_is;
      held_is = λ others same.
          adds others (IsPermutation-trans (object.span ∷ (map object_span live ++ waiting)) (map object_span more ++ waiting)
          others (held_made (id, object) live more waiting more_is) same);
    })

pub kept_retired : (settings : Settings) (totals new_totals : Totals) (live fewer : List (ℕ × Object))
    (waiting new_waiting : List Span) (usage new_usage : Usage) (capacity new_capacity placer_limit : ℕ)
    (placer_pool : Option Span) (holds : List Span → Type 0) (id : ℕ) (object : Object)
    → IsHeap (heap_of settings live waiting totals) usage capacity placer_limit placer_pool holds
    → IsPermutation live ((id, object) ∷ fewer) → IsDistinct nat_eq (keys_of fewer)
    → new_usage ≡ usage_without usage object → new_capacity ≡ capacity → new_waiting ≡ waiting ++ object.span ∷ []
    → new_totals.high ≡ totals.high
    → IsHeap (heap_of settings fewer new_waiting new_totals) new_usage new_capacity placer_limit placer_pool holds
kept_retired settings totals new_totals live fewer waiting new_waiting usage new_usage capacity new_capacity placer_limit
    placer_pool holds id object kept takes distinct usage_is capacity_is waiting_is high_is =
    let before = fit settings.align (memory_of live waiting) kept.sound in
    let after = fit_retired settings.align live fewer waiting id object before takes in
    let shorter = length_permutation live ((id, object) ∷ fewer) takes in
    let longer = length_push waiting object.span in
    rw waiting_is (record {
      sound = record { exact = after.exact; spans = after.spans; ids = distinct; apart = after.apart };
      usage_is = usage_retired live fewer waiting id object usage new_usage kept.usage_is usage_is takes;
      reserved = omega (arith, shorter, longer, kept.reserved, capacity_is);
      at_most = omega (arith, shorter, longer, kept.at_most);
      few = kept.few;
      is_pool = kept.is_pool;
      high_fits = omega (arith, high_is, kept.high_fits);
      limit_is = kept.limit_is;
      pool_is = kept.pool_is;
      held_is = λ others same.
          kept.held_is others (IsPermutation-trans (map object_span live ++ waiting)
          (map object_span fewer ++ (waiting ++ object.span ∷ [])) others
          (held_retired (id, object) live fewer waiting takes) same);
    })

-- when a live object is replaced
pub kept_replaced : (settings : Settings) (totals new_totals : Totals) (live more : List (ℕ × Object))
    (waiting new_waiting : List Span) (usage between new_usage : Usage)
    (capacity new_capacity placer_limit new_limit : ℕ) (placer_pool new_pool : Option Span) (holds new_holds : List Span → Type 0)
    (id : ℕ) (object before : Object)
    → IsHeap (heap_of settings live waiting totals) usage capacity placer_limit placer_pool holds
    → IsFound settings.align settings.pool (map object_span live ++ waiting) object.align object.size object.span
    → ((others : List Span) → AddsSpan (map object_span live ++ waiting) object.span others → new_holds others) → length live + length waiting < settings.limit
    → IsPermutation ((id, object) ∷ live) ((id, before) ∷ more) → IsDistinct nat_eq (keys_of more)
    → between ≡ usage_with usage object → new_usage ≡ usage_without between before
    → length waiting + (length live + 1) ≤ new_capacity
    → new_limit ≡ placer_limit → new_pool ≡ placer_pool → new_waiting ≡ waiting ++ before.span ∷ []
    → new_totals.high ≡ max totals.high (object.span.top - settings.pool.base)
    → IsHeap (heap_of settings more new_waiting new_totals) new_usage new_capacity new_limit new_pool new_holds
kept_replaced settings totals new_totals live more waiting new_waiting usage between new_usage capacity new_capacity
    placer_limit new_limit placer_pool new_pool holds new_holds id object before kept found adds below takes distinct
    between_is usage_is room limit_is pool_is waiting_is high_is =
    let entries : List (ℕ × Object) = (id, object) ∷ live in
    let fit_before = fit settings.align (memory_of live waiting) kept.sound in
    let fit_between = fit_made settings.align live entries waiting id object fit_before found.exact found.apart
    (IsPermutation-refl entries) in
    let after = fit_retired settings.align entries more waiting id before fit_between takes in
    let same_length = length_permutation entries ((id, before) ∷ more) takes in
    let longer = length_push waiting before.span in
    rw waiting_is (record {
      sound = record { exact = after.exact; spans = after.spans; ids = distinct; apart = after.apart };
      usage_is = usage_retired entries more waiting id before between new_usage
          (usage_made live entries waiting id object usage between kept.usage_is between_is (IsPermutation-refl entries))
          usage_is takes;
      reserved = omega (arith, same_length, longer, room);
      at_most = omega (arith, same_length, longer, below);
      few = kept.few;
      is_pool = kept.is_pool;
      high_fits = omega (arith, high_is, kept.high_fits, found.end_fits);
      limit_is = limit_is ∙ kept.limit_is;
      pool_is = pool_is ∙ kept.pool_is;
      held_is = λ others same.
          adds others (IsPermutation-trans (object.span ∷ (map object_span live ++ waiting))
          (map object_span more ++ (waiting ++ before.span ∷ [])) others
          (held_retired (id, before) entries more waiting takes) same);
    })

-- when a live object gets another size and id
pub kept_swapped : (settings : Settings) (totals : Totals) (live more : List (ℕ × Object)) (waiting : List Span)
    (usage new_usage : Usage) (capacity placer_limit : ℕ) (placer_pool : Option Span) (holds : List Span → Type 0) (from to : ℕ)
    (before object : Object)
    → IsHeap (heap_of settings live waiting totals) usage capacity placer_limit placer_pool holds
    → IsPermutation ((to, object) ∷ live) ((from, before) ∷ more) → IsDistinct nat_eq (keys_of more)
    → IsExact settings.align object → object.span ≡ before.span
    → new_usage ≡ usage_resized usage before.size object.size → before.size ≤ usage.asked
    → IsHeap (heap_of settings more waiting totals) new_usage capacity placer_limit placer_pool holds
kept_swapped settings totals live more waiting usage new_usage capacity placer_limit placer_pool holds from to
    before object kept swaps distinct exact same usage_is counted =
    let entries : List (ℕ × Object) = (to, object) ∷ live in
    let others : List (ℕ × Object) = (from, before) ∷ more in
    let all = All-permutation (IsExactEntry settings.align) entries others swaps
    (All-cons (IsExactEntry settings.align) (to, object) live exact kept.sound.exact) in
    let along = held_swapped (to, object) (from, before) live more waiting swaps same in
    let as_many = length_permutation entries others swaps in
    record {
      sound = record {
        exact = All-tail (IsExactEntry settings.align) (from, before) more all;
        spans = kept.sound.spans;
        ids = distinct;
        apart = once_along (map object_span live ++ waiting) (map object_span more ++ waiting) along kept.sound.apart;
      };
      usage_is = usage_swapped live more waiting from to before object usage new_usage kept.usage_is usage_is counted same swaps;
      reserved = omega (arith, as_many, kept.reserved);
      at_most = omega (arith, as_many, kept.at_most);
      few = kept.few;
      is_pool = kept.is_pool;
      high_fits = kept.high_fits;
      limit_is = kept.limit_is;
      pool_is = kept.pool_is;
      held_is = λ spans rest.
          kept.held_is spans (IsPermutation-trans (map object_span live ++ waiting) (map object_span more ++ waiting) spans along rest);
    }

-- the object that is freed is one of the live ones
pub record IsLiveObject (usage : Usage) (object : Object) : Type 0 where
  pub is_span : IsSpan object.span
  pub some : 0 < usage.objects
  pub asked : object.size ≤ usage.asked
  pub counted : length_of object.span ≤ usage.live

pub live_object : (align : Align) (live fewer : List (ℕ × Object)) (waiting : List Span) (usage : Usage) (id : ℕ)
    (object : Object) → IsFit align (memory_of live waiting) → IsPermutation live ((id, object) ∷ fewer)
    → usage ≡ usage_of (memory_of live waiting) → IsLiveObject usage object
live_object align live fewer waiting usage id object kept takes usage_is =
    let all = All-permutation (IsExactEntry align) live ((id, object) ∷ fewer) takes kept.exact in
    let first : IsExact align object = all 0 (id, object) (omega arith) in
    record {
      is_span = first.bounds.is_span;
      some = omega (
        arith,
        ap (λ (u : Usage). u.objects) usage_is,
        length_permutation live ((id, object) ∷ fewer) takes,
      );
      asked = omega (
        arith,
        ap (λ (u : Usage). u.asked) usage_is,
        sum_by-IsPermutation size_of_entry live ((id, object) ∷ fewer) takes,
        sum_by-cons size_of_entry (id, object) fewer,
      );
      counted = omega (
        arith,
        ap (λ (u : Usage). u.live) usage_is,
        sum_by-IsPermutation length_of_entry live ((id, object) ∷ fewer) takes,
        sum_by-cons length_of_entry (id, object) fewer,
      );
    }

-- ---- the span that is released

pub record IsLast (usage : Usage) (spans : List Span) (span : Span) : Type 0 where
  pub is_held : Contains spans span
  pub is_span : IsSpan span
  pub counted : length_of span ≤ usage.quarantine

pub last_quarantined : (settings : Settings) (totals : Totals) (live : List (ℕ × Object)) (waiting fewer : List Span)
    (usage : Usage) (capacity placer_limit : ℕ) (placer_pool : Option Span) (holds : List Span → Type 0) (span : Span)
    → IsHeap (heap_of settings live waiting totals) usage capacity placer_limit placer_pool holds
    → waiting ≡ fewer ++ span ∷ [] → IsLast usage (map object_span live ++ waiting) span
last_quarantined settings totals live waiting fewer usage capacity placer_limit placer_pool holds span kept is =
    let all : All IsSpan (fewer ++ span ∷ []) = subst (λ (w : List Span). All IsSpan w) is kept.sound.spans in
    let sums : sum_by length_of waiting ≡ sum_by length_of (fewer ++ span ∷ []) =
    ap (λ (w : List Span). sum_by length_of w) is in
    let held : Contains (map object_span live ++ (fewer ++ span ∷ [])) span =
    Contains-permutation (span ∷ (map object_span live ++ fewer)) (map object_span live ++ (fewer ++ span ∷ [])) span
    (IsPermutation-sym (map object_span live ++ (fewer ++ span ∷ [])) (span ∷ (map object_span live ++ fewer))
    (held_swept (map object_span live) fewer span)) (0, omega arith, refl) in
    record {
      is_held = subst (λ (w : List Span). Contains (map object_span live ++ w) span) (sym is) held;
      is_span = subst IsSpan (get_or_push fewer span span (length fewer) refl)
          (all (length fewer) span (omega (arith, length_push fewer span)));
      counted = omega (arith, ap (λ (u : Usage). u.quarantine) kept.usage_is, sums, sum_by_push length_of fewer span);
    }

pub kept_released : (settings : Settings) (totals : Totals) (live : List (ℕ × Object)) (waiting fewer : List Span)
    (usage new_usage : Usage) (capacity new_capacity placer_limit new_limit : ℕ) (placer_pool new_pool : Option Span)
    (holds new_holds : List Span → Type 0) (span : Span)
    → IsHeap (heap_of settings live waiting totals) usage capacity placer_limit placer_pool holds
    → waiting ≡ fewer ++ span ∷ [] → ((others : List Span) → RemovesSpan (map object_span live ++ waiting) span others → new_holds others) → new_usage ≡ usage_less usage (length_of span)
    → new_capacity ≡ capacity → new_limit ≡ placer_limit → new_pool ≡ placer_pool
    → IsHeap (heap_of settings live fewer totals) new_usage new_capacity new_limit new_pool new_holds
kept_released settings totals live waiting fewer usage new_usage capacity new_capacity placer_limit new_limit placer_pool
    new_pool holds new_holds span kept is removes usage_is capacity_is limit_is pool_is =
    let before = fit settings.align (memory_of live waiting) kept.sound in
    let after = fit_released settings.align live waiting fewer span before is in
    let longer = length_push fewer span in
    let count : length waiting ≡ length (fewer ++ span ∷ []) = ap (λ (w : List Span). length w) is in
    let rest : IsPermutation (span ∷ (map object_span live ++ fewer)) (map object_span live ++ waiting) =
    subst (λ (w : List Span). IsPermutation (span ∷ (map object_span live ++ fewer)) (map object_span live ++ w)) (sym is)
    (IsPermutation-sym (map object_span live ++ (fewer ++ span ∷ [])) (span ∷ (map object_span live ++ fewer))
    (held_swept (map object_span live) fewer span)) in
    record {
      sound = record { exact = after.exact; spans = after.spans; ids = kept.sound.ids; apart = after.apart };
      usage_is = usage_released live waiting fewer span usage new_usage kept.usage_is usage_is is;
      reserved = omega (arith, count, longer, kept.reserved, capacity_is);
      at_most = omega (arith, count, longer, kept.at_most);
      few = kept.few;
      is_pool = kept.is_pool;
      high_fits = kept.high_fits;
      limit_is = limit_is ∙ kept.limit_is;
      pool_is = pool_is ∙ kept.pool_is;
      held_is = λ others same.
          removes others (IsPermutation-trans (span ∷ others) (span ∷ (map object_span live ++ fewer))
          (map object_span live ++ waiting) (IsPermutation-cons span others (map object_span live ++ fewer)
          (IsPermutation-sym (map object_span live ++ fewer) others same)) rest);
    }

-- ---- what the calls of the containers give

is_none : (option : Option Object) → IsNone option → option ≡ None
is_none None none = refl
is_none (Some object) none = cc

-- an insert under a new id
pub puts_new : (id : ℕ) (object : Object) (entries more : List (ℕ × Object)) (old : Option Object)
    → old ≡ lookup (nat_eq id) entries → IsNone (lookup (nat_eq id) entries)
    → MatchOption old (IsPermutation ((id, object) ∷ entries) more) (λ _. more ≡ set_value (nat_eq id) entries object)
    → IsPermutation ((id, object) ∷ entries) more
puts_new id object entries more old old_is none puts =
    let is : old ≡ None = old_is ∙ is_none (lookup (nat_eq id) entries) none in
    rw is at puts

-- and under a live one
pub puts_over : (id : ℕ) (before object : Object) (entries more : List (ℕ × Object)) (old : Option Object)
    → old ≡ lookup (nat_eq id) entries → old ≡ Some before
    → MatchOption old (IsPermutation ((id, object) ∷ entries) more) (λ _. more ≡ set_value (nat_eq id) entries object)
    → IsPermutation ((id, object) ∷ entries) ((id, before) ∷ more)
puts_over id before object entries more old old_is is puts =
    let new_is : more ≡ set_value (nat_eq id) entries object = rw is at puts in
    rw new_is (set_first id before object entries (sym old_is ∙ is))

-- a removal
pub taken : (id : ℕ) (object : Object) (live fewer : List (ℕ × Object)) (result : Option Object)
    → result ≡ lookup (nat_eq id) live → result ≡ Some object → IsPermutation (remove_entry (nat_eq id) live) fewer
    → IsPermutation live ((id, object) ∷ fewer)
taken id object live fewer result result_is is rest =
    IsPermutation-trans live ((id, object) ∷ remove_entry (nat_eq id) live) ((id, object) ∷ fewer)
    (found_first id object live (sym result_is ∙ is))
    (IsPermutation-cons (id, object) (remove_entry (nat_eq id) live) fewer rest)

-- numbers that differ do so in either order
pub apart_too : (one other : ℕ) → nat_eq one other ≡ false → nat_eq other one ≡ false
apart_too one other is = grind (arith, nat_tests)

-- an insert under a new id, and a removal of another
pub puts_beside : (from to : ℕ) (before object : Object) (entries between more : List (ℕ × Object)) (old taken_out : Option Object)
    → old ≡ lookup (nat_eq to) entries → IsNone (lookup (nat_eq to) entries)
    → MatchOption old (IsPermutation ((to, object) ∷ entries) between) (λ _. between ≡ set_value (nat_eq to) entries object)
    → taken_out ≡ lookup (nat_eq from) between → taken_out ≡ Some before → IsPermutation (remove_entry (nat_eq from) between) more
    → IsPermutation ((to, object) ∷ entries) ((from, before) ∷ more)
puts_beside from to before object entries between more old taken_out old_is none puts out_is out rest =
    IsPermutation-trans ((to, object) ∷ entries) between ((from, before) ∷ more)
    (puts_new to object entries between old old_is none puts)
    (taken from before between more taken_out out_is out rest)

-- the span that was popped
pub popped : (spans rest : List Span) (last : Option Span) (span : Span) → spans ≡ rest ++ option_to_list last
    → last ≡ Some span → spans ≡ rest ++ span ∷ []
popped spans rest last span was is = was ∙ ap (λ (l : Option Span). rest ++ option_to_list l) is

-- a list without a length
pub empty : (spans : List Span) → length spans ≡ 0 → spans ≡ []
empty [] is = refl
empty (span ∷ spans) is = absurd (omega (arith, is))

-- a placer that may be holding nothing
pub holds_nothing : (holds : List Span → Type 0) → holds [] → HoldsSpans holds []
holds_nothing holds nothing others same =
    subst holds (sym (empty others (omega (arith, length_permutation [] others same)))) nothing

-- a heap that holds nothing
pub kept_new : (settings : Settings) (totals : Totals) (live : List (ℕ × Object)) (waiting : List Span)
    (capacity placer_limit : ℕ) (placer_pool : Option Span) (holds : List Span → Type 0)
    → live ≡ [] → waiting ≡ [] → IsDistinct nat_eq (keys_of live) → settings.limit ≤ 2 ^ 24 → IsPoolSpan settings.pool
    → totals.high ≡ 0 → placer_limit ≡ settings.limit → placer_pool ≡ Some settings.pool → holds []
    → IsHeap (heap_of settings live waiting totals) (record { objects = 0; asked = 0; live = 0; quarantine = 0 })
    capacity placer_limit placer_pool holds
kept_new settings totals live waiting capacity placer_limit placer_pool holds live_is waiting_is distinct few is_pool
    high_is limit_is pool_is nothing =
    rw waiting_is (record {
      sound = record {
        exact = λ k d within. absurd (omega (arith, within, ap (λ (l : List (ℕ × Object)). length l) live_is));
        spans = λ k d within. absurd (omega (arith, within));
        ids = distinct;
        apart = λ byte. rw live_is (omega arith);
      };
      usage_is = λ i. usage_of (memory_of (sym live_is i) []);
      reserved = omega (arith, ap (λ (l : List (ℕ × Object)). length l) live_is);
      at_most = omega (arith, ap (λ (l : List (ℕ × Object)). length l) live_is);
      few = few;
      is_pool = is_pool;
      high_fits = omega (arith, high_is);
      limit_is = limit_is;
      pool_is = pool_is;
      held_is = rw live_is (holds_nothing holds nothing);
    })
