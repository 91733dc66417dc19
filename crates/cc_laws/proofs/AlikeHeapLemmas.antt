-- An event has one outcome from a heap, whatever the order of its live objects.
use Rattle.std.proofs.Common.{◌≡◌, ℕ, Bool, true, false, ◌+◌, ◌-◌, ◌≤◌, map, length, List, [], ◌∷◌, ◌++◌, nat_eq, Option, Some, None, IsSome, refl, sym, ◌∙◌, ap, subst, inl, inr, arith, sum_by}
use Rattle.std.proofs.Common.{if◌then◌else◌, cond}
use Rattle.std.specs.Prelude.{IsNone, MatchOption, option_and_then}
use Rattle.std.proofs.lemmas.List.Sums.{sum_by-cons, sum_by-append}
use Rattle.std.proofs.lemmas.List.Sorted.{IsPermutation-refl, length_permutation, sum_by-IsPermutation}
use Rattle.cc_bounds.specs.declared.span.Span.{Span}
use Rattle.cc_bounds.specs.Span.{length_of}
use Rattle.cc_placer.specs.Align.{padded_size_for}
use Rattle.cc_placer.specs.Placement.{HaveSameSpans, IsPlacement}
use Rattle.cc_placer.proofs.SameSpansLemmas.{permutation_from_sums, placement_along, place_along}
use Rattle.cc_heap.specs.declared.event.Event.{Event}
use Rattle.cc_heap.specs.declared.event.Event.TheVariants.{Allocate, Clear, Reallocate, Free, Sweep, Clock}
use Rattle.cc_heap.specs.declared.making.Making.{Making}
use Rattle.cc_heap.specs.declared.making.Making.TheVariants.{Made, NoRoom, Full}
use Rattle.cc_heap.specs.declared.object.Object.{Object}
use Rattle.cc_heap.specs.declared.outcome.Outcome.{Outcome}
use Rattle.cc_heap.specs.declared.totals.Totals.{Totals}
use Rattle.cc_heap.specs.declared.usage.Usage.{Usage}
use Rattle.cc_heap.specs.Events.{AllocatesInHeap, AllocatesUnknown, AttemptsToReplace, ClearsOther, FollowsPolicy, FollowsReplacing}
use Rattle.cc_heap.specs.Events.{FreesInHeap, FreesIfLive, FreesOrNot, HasNoRoomInHeap, IsEvent, KeepsPlace}
use Rattle.cc_heap.specs.Events.{Moves, Reallocates, Remakes, Replaces, ReplacesLive, Tries, TriesToReplace, outcome_of, size_of, swept_if_asked}
use Rattle.cc_heap.specs.Heap.{Attempts, FreesHeapObject, Heap, KeepsHeapObject, MakesHeapObject, MustSweep, kept_object, object_under, quarantined_with, resized, swept_heap}
use Rattle.cc_heap.specs.Memory.{memory_spans, memory_object, object_span, start_unit, usage_of}
use Rattle.cc_heap.specs.Policy.{AsksForSweep, is_of_the_trace}
use Rattle.cc_heap.specs.Reallocation.{can_take, is_keep}
use Rattle.cc_heap.specs.Totals.{with_made, with_sweep, with_usage}
use Rattle.cc_heap.specs.Run.{Runs}
use Rattle.cc_replay.specs.Kept.{id_weight}
use Rattle.cc_replay.proofs.EntryLemmas.{none_counted, none_is, one_more, once_more, same_key}
use Rattle.cc_laws.specs.OneOutcome.{AreAlike}
use Rattle.cc_laws.proofs.EntryOrderLemmas.{Entry, AreOnceIn, HaveSameSums, lookup_along, own_weight, reordered}

-- the heap with these live objects
abbrev pub re : List Entry → Heap → Heap
re live heap = record {
  settings = heap.settings;
  memory = record { live = live; quarantined = heap.memory.quarantined };
  totals = heap.totals;
}

-- the other heap is the one with its live objects in some order
pub record IsReordered (one other : Heap) : Type 0 where
  pub live : List Entry
  pub same : HaveSameSums one.memory.live live
  pub is : other ≡ re live one

-- and the results are the same
pub record AreSame {X : Type 0} (result told : X) (one other : Heap) : Type 0 where
  pub same : told ≡ result
  pub heap : IsReordered one other

-- ---- what does not depend on the order

pub sum_spans : (weight : Span → ℕ) (entries : List Entry)
    → sum_by weight (map object_span entries) ≡ sum_by (λ (entry : Entry). weight (object_span entry)) entries
sum_spans weight [] = refl
sum_spans weight (entry ∷ entries) =
    let rest = sum_spans weight entries in
    omega (
      arith,
      rest,
      sum_by-cons weight (object_span entry) (map object_span entries),
      sum_by-cons (λ (e : Entry). weight (object_span e)) entry entries,
    )

held_along : (live other : List Entry) (waiting : List Span) → HaveSameSums live other
    → HaveSameSpans (map object_span live ++ waiting) (map object_span other ++ waiting)
held_along live other waiting same =
    permutation_from_sums (map object_span live ++ waiting) (map object_span other ++ waiting) (λ weight. omega (
      arith,
      same (λ entry. weight (object_span entry)),
      sum_spans weight live,
      sum_spans weight other,
      sum_by-append weight (map object_span live) waiting,
      sum_by-append weight (map object_span other) waiting,
    ))

count_sum : (entries : List Entry) → sum_by (λ (entry : Entry). 1) entries ≡ length entries
count_sum [] = refl
count_sum (entry ∷ entries) = omega (arith, count_sum entries, sum_by-cons (λ (e : Entry). 1) entry entries)

pub usage_along : (live other : List Entry) (waiting : List Span) → HaveSameSums live other
    → usage_of (record { live = other; quarantined = waiting }) ≡ usage_of (record { live = live; quarantined = waiting })
usage_along live other waiting same =
    let count : length other ≡ length live = omega (arith, same (λ entry. 1), count_sum live, count_sum other) in
    let asked = same (λ entry. entry.1.size) in
    let bytes = same (λ entry. length_of (object_span entry)) in
    λ i. record { objects = count i; asked = asked i; live = bytes i; quarantine = sum_by length_of waiting }

same_placement : (pool : Span) (held others : List Span) (size align start begin : ℕ) → HaveSameSpans held others
    → IsPlacement pool held size align start → IsPlacement pool others size align begin → begin ≡ start
same_placement pool held others size align start begin same one other =
    let along = placement_along pool held others size align start same one in
    omega (arith, along.least begin other.place, other.least start along.place)

-- ---- the changes

module _ (old : Heap) (live : List Entry) (same : HaveSameSums old.memory.live live) where
  held-same : HaveSameSpans (memory_spans old.memory) (memory_spans (re live old).memory)
  held-same = held_along old.memory.live live old.memory.quarantined same

  held-length : length (memory_spans (re live old).memory) ≡ length (memory_spans old.memory)
  held-length = length_permutation (memory_spans old.memory) (memory_spans (re live old).memory) held-same

  stays : (new another : Heap) → new ≡ old → another ≡ re live old → IsReordered new another
  stays new another is is_other = record {
    live = live;
    same = λ weight. same weight ∙ ap (λ (h : Heap). sum_by weight h.memory.live) (sym is);
    is = is_other ∙ ap (re live) (sym is);
  }

  makes : (new another : Heap) (id requested size : ℕ) → MakesHeapObject old id requested size new
      → MakesHeapObject (re live old) id requested size another → IsReordered new another
  makes new another id requested size first second =
      let align = old.settings.align in
      let start : second.start ≡ first.start =
      same_placement old.settings.pool (memory_spans old.memory) (memory_spans (re live old).memory) (padded_size_for align size)
      (start_unit align requested size) first.start second.start held-same first.placement second.placement in
      let sums : HaveSameSums first.live second.live = λ weight.
      let begun = ap (λ (n : ℕ). weight (id, memory_object align requested n size)) start in
      omega (
        arith,
        begun,
        same weight,
        sum_by-IsPermutation weight ((id, memory_object align requested first.start size) ∷ old.memory.live) first.live first.adds,
        sum_by-IsPermutation weight ((id, memory_object align requested second.start size) ∷ live) second.live second.adds,
        sum_by-cons weight (id, memory_object align requested first.start size) old.memory.live,
        sum_by-cons weight (id, memory_object align requested second.start size) live,
      ) in
      let usage = usage_along first.live second.live old.memory.quarantined sums in
      let totals : ℕ → Usage → Totals = λ begin now.
      with_made old.totals (memory_object align requested begin size) (begin + padded_size_for align size - old.settings.pool.base) now in
      let second_usage : Usage = usage_of (record { live = second.live; quarantined = old.memory.quarantined }) in
      let same_totals = ap (λ (n : ℕ). totals n second_usage) start ∙ ap (totals first.start) usage in
      let heap : Totals → Heap = λ t. record {
        settings = old.settings;
        memory = record { live = second.live; quarantined = old.memory.quarantined };
        totals = t;
      } in
      let now = first.is_new in
      record {
        live = second.live;
        same = λ weight. sums weight ∙ ap (λ (h : Heap). sum_by weight h.memory.live) (sym now);
        is = second.is_new ∙ ap heap same_totals ∙ ap (re second.live) (sym now);
      }

  frees_object : (new another : Heap) (id : ℕ) (object : Object) → FreesHeapObject old id object new
      → FreesHeapObject (re live old) id object another → IsReordered new another
  frees_object new another id object first second =
      let sums : HaveSameSums first.live second.live = λ weight. omega (
        arith,
        same weight,
        sum_by-IsPermutation weight old.memory.live ((id, object) ∷ first.live) first.takes,
        sum_by-IsPermutation weight live ((id, object) ∷ second.live) second.takes,
        sum_by-cons weight (id, object) first.live,
        sum_by-cons weight (id, object) second.live,
      ) in
      let waiting : List Span = quarantined_with old.settings.policy old.memory.quarantined object.span in
      let usage = usage_along first.live second.live waiting sums in
      let heap : Usage → Heap = λ u. record {
        settings = old.settings;
        memory = record { live = second.live; quarantined = waiting };
        totals = with_usage old.totals u;
      } in
      let now = first.is_new in
      record {
        live = second.live;
        same = λ weight. sums weight ∙ ap (λ (h : Heap). sum_by weight h.memory.live) (sym now);
        is = second.is_new ∙ ap heap usage ∙ ap (re second.live) (sym now);
      }

  keeps_object : (new another : Heap) (from to : ℕ) (before : Object) (requested size : ℕ)
      → KeepsHeapObject old from to before requested size new → KeepsHeapObject (re live old) from to before requested size another
      → IsReordered new another
  keeps_object new another from to before requested size first second =
      let sums : HaveSameSums first.live second.live = λ weight. omega (
        arith,
        same weight,
        sum_by-IsPermutation weight ((to, resized before requested size) ∷ old.memory.live) ((from, before) ∷ first.live) first.swaps,
        sum_by-IsPermutation weight ((to, resized before requested size) ∷ live) ((from, before) ∷ second.live) second.swaps,
        sum_by-cons weight (to, resized before requested size) old.memory.live,
        sum_by-cons weight (to, resized before requested size) live,
        sum_by-cons weight (from, before) first.live,
        sum_by-cons weight (from, before) second.live,
      ) in
      let usage = usage_along first.live second.live old.memory.quarantined sums in
      let heap : Usage → Heap = λ u. record {
        settings = old.settings;
        memory = record { live = second.live; quarantined = old.memory.quarantined };
        totals = with_usage old.totals u;
      } in
      let now = first.is_new in
      record {
        live = second.live;
        same = λ weight. sums weight ∙ ap (λ (h : Heap). sum_by weight h.memory.live) (sym now);
        is = second.is_new ∙ ap heap usage ∙ ap (re second.live) (sym now);
      }

  sweeps : (new another : Heap) → new ≡ swept_heap old → another ≡ swept_heap (re live old) → IsReordered new another
  sweeps new another is is_other =
      let usage = usage_along old.memory.live live [] same in
      let heap : Usage → Heap = λ u. record {
        settings = old.settings;
        memory = record { live = live; quarantined = [] };
        totals = with_sweep old.totals (sum_by length_of old.memory.quarantined) u;
      } in
      record {
        live = live;
        same = λ weight. same weight ∙ ap (λ (h : Heap). sum_by weight h.memory.live) (sym is);
        is = is_other ∙ ap heap usage ∙ ap (re live) (sym is);
      }

must_along : (old : Heap) (live : List Entry) → HaveSameSums old.memory.live live → MustSweep old → MustSweep (re live old)
must_along old live same must = record {
  enough = must.enough;
  asks = subst (λ (bytes : ℕ). AsksForSweep old.settings.policy (record {
    live = bytes;
    quarantine = sum_by length_of old.memory.quarantined;
    high = old.totals.high;
    waiting = length old.memory.quarantined;
  })) (sym (same (λ entry. length_of (object_span entry)))) must.asks;
}

must_back : (old : Heap) (live : List Entry) → HaveSameSums old.memory.live live → MustSweep (re live old) → MustSweep old
must_back old live same must = record {
  enough = must.enough;
  asks = subst (λ (bytes : ℕ). AsksForSweep old.settings.policy (record {
    live = bytes;
    quarantine = sum_by length_of old.memory.quarantined;
    high = old.totals.high;
    waiting = length old.memory.quarantined;
  })) (same (λ entry. length_of (object_span entry))) must.asks;
}

follows : (old : Heap) (live : List Entry) (new another : Heap) → HaveSameSums old.memory.live live → FollowsPolicy old new
    → FollowsPolicy (re live old) another → IsReordered new another
follows old live new another same (inl (must, is)) (inl (must_too, is_other)) = sweeps old live same new another is is_other
follows old live new another same (inl (must, is)) (inr (not, is_other)) = absurd (not (must_along old live same must))
follows old live new another same (inr (not, is)) (inl (must, is_other)) = absurd (not (must_back old live same must))
follows old live new another same (inr (not, is)) (inr (not_too, is_other)) = stays old live same new another is is_other

-- ---- a free

frees : (old : Heap) (live : List Entry) (new another : Heap) (id : ℕ) → AreOnceIn old.memory.live → HaveSameSums old.memory.live live
    → FreesInHeap old id new → FreesInHeap (re live old) id another → IsReordered new another
frees old live new another id once same first second =
    let found : Some second.object ≡ Some first.object =
    sym second.is_live ∙ lookup_along id old.memory.live live once same ∙ first.is_live in
    let object : second.object ≡ first.object = (let e = found in cc) in
    let freed = frees_object old live same first.freed second.freed id first.object first.frees
    (subst (λ (o : Object). FreesHeapObject (re live old) id o second.freed) object second.frees) in
    follows first.freed freed.live new another freed.same first.follows
    (subst (λ (h : Heap). FollowsPolicy h another) freed.is second.follows)

frees_if_live : (old : Heap) (live : List Entry) (new another : Heap) (id : ℕ) (was_live is_live : Bool) → AreOnceIn old.memory.live
    → HaveSameSums old.memory.live live → FreesIfLive old id was_live new → FreesIfLive (re live old) id is_live another
    → AreSame was_live is_live new another
frees_if_live old live new another id true true once same first second =
    record { same = refl; heap = frees old live new another id once same first second }
frees_if_live old live new another id false false once same (none, is) (none_too, is_other) =
    record { same = refl; heap = stays old live same new another is is_other }
frees_if_live old live new another id true false once same first (none, is) =
    absurd (some-none (subst IsNone (lookup_along id old.memory.live live once same ∙ first.is_live) none))
  where
    some-none : IsNone (Some first.object) → ⊥
    some-none e = cc
frees_if_live old live new another id false true once same (none, is) second =
    absurd (some-none (subst IsNone (sym (lookup_along id old.memory.live live once same) ∙ second.is_live) none))
  where
    some-none : IsNone (Some second.object) → ⊥
    some-none e = cc

-- ---- an object is made

-- an object is made, or there is no place for it
made_or_not : (old : Heap) (live : List Entry) (new : Heap) (id requested size : ℕ) → HaveSameSums old.memory.live live
    → MakesHeapObject old id requested size new → HasNoRoomInHeap (re live old) requested size → ⊥
made_or_not old live new id requested size same made (inl none) =
    none made.start (place_along old.settings.pool (memory_spans old.memory) (memory_spans (re live old).memory)
    (padded_size_for old.settings.align size) (start_unit old.settings.align requested size) made.start
    (held-same old live same) made.placement.place)
made_or_not old live new id requested size same made (inr many) =
    let few = made.few in absurd (omega (arith, few, many, held-length old live same))

-- and as the orders are exchanged
back : (old : Heap) (live : List Entry) → HaveSameSums old.memory.live live → HaveSameSums live old.memory.live
back old live same weight = sym (same weight)

attempts : (old : Heap) (live : List Entry) (new another : Heap) (id requested size : ℕ) (making told : Making)
    → HaveSameSums old.memory.live live → Attempts old id requested size making new
    → Attempts (re live old) id requested size told another → AreSame making told new another
attempts old live new another id requested size Made Made same first second =
    record { same = refl; heap = makes old live same new another id requested size first second }
attempts old live new another id requested size NoRoom NoRoom same (few, none, is) (few_too, none_too, is_other) =
    record { same = refl; heap = stays old live same new another is is_other }
attempts old live new another id requested size Full Full same (many, is) (many_too, is_other) =
    record { same = refl; heap = stays old live same new another is is_other }
attempts old live new another id requested size Made NoRoom same first (few, none, is) =
    absurd (made_or_not old live new id requested size same first (inl none))
attempts old live new another id requested size Made Full same first (many, is) =
    absurd (made_or_not old live new id requested size same first (inr many))
attempts old live new another id requested size NoRoom Made same (few, none, is) second =
    absurd (made_or_not (re live old) old.memory.live another id requested size (back old live same) second (inl none))
attempts old live new another id requested size Full Made same (many, is) second =
    absurd (made_or_not (re live old) old.memory.live another id requested size (back old live same) second (inr many))
attempts old live new another id requested size NoRoom Full same (few, none, is) (many, is_other) =
    absurd (omega (arith, few, many, held-length old live same))
attempts old live new another id requested size Full NoRoom same (many, is) (few, none, is_other) =
    absurd (omega (arith, few, many, held-length old live same))

tries : (old : Heap) (live : List Entry) (new another : Heap) (id requested size : ℕ) (making told : Making)
    → HaveSameSums old.memory.live live → Tries old id requested size making new
    → Tries (re live old) id requested size told another → AreSame making told new another
tries old live new another id requested size making told same (inl (made, first)) (inl (made_too, second)) =
    record { same = made_too ∙ sym made; heap = makes old live same new another id requested size first second }
tries old live new another id requested size making told same (inl (made, first)) (inr (none, second)) =
    absurd (made_or_not old live new id requested size same first none)
tries old live new another id requested size making told same (inr (none, first)) (inl (made, second)) =
    absurd (made_or_not (re live old) old.memory.live another id requested size (back old live same) second none)
tries old live new another id requested size making told same (inr (none, first)) (inr (none_too, second)) =
    let sweep = sweeps old live same (swept_heap old) (swept_heap (re live old)) refl refl in
    attempts (swept_heap old) sweep.live new another id requested size making told sweep.same first
    (subst (λ (h : Heap). Attempts h id requested size told another) sweep.is second)

allocates : (old : Heap) (live : List Entry) (new another : Heap) (id requested size : ℕ) (outcome told : Outcome)
    → AreOnceIn old.memory.live → HaveSameSums old.memory.live live → AllocatesInHeap old id requested size outcome new
    → AllocatesInHeap (re live old) id requested size told another → AreSame outcome told new another
allocates old live new another id requested size outcome told once same first second =
    let cleared = frees_if_live old live first.cleared second.cleared id first.was_live second.was_live once same first.clears second.clears in
    let tried = tries first.cleared cleared.heap.live new another id requested size first.making second.making cleared.heap.same first.tries
    (subst (λ (h : Heap). Tries h id requested size second.making another) cleared.heap.is second.tries) in
    record {
      same =
          second.is_told ∙ ap (λ (b : Bool). outcome_of b false (Some second.making)) cleared.same
          ∙ ap (λ (m : Making). outcome_of first.was_live false (Some m)) tried.same ∙ sym first.is_told;
      heap = tried.heap;
    }

-- ---- an object is made in place of another

replaces : (old : Heap) (live : List Entry) (new another : Heap) (id size : ℕ) → AreOnceIn old.memory.live
    → HaveSameSums old.memory.live live → Replaces old id size new → Replaces (re live old) id size another
    → IsReordered new another
replaces old live new another id size once same first second =
    let found : Some second.before ≡ Some first.before =
    sym second.is_live ∙ lookup_along id old.memory.live live once same ∙ first.is_live in
    let before : second.before ≡ first.before = (let e = found in cc) in
    let made = makes old live same first.made second.made id 1 size first.makes second.makes in
    frees_object first.made made.live made.same new another id first.before first.frees
    (subst (λ (o : Object). FreesHeapObject (re made.live first.made) id o another) before
    (subst (λ (h : Heap). FreesHeapObject h id second.before another) made.is second.frees))

attempts_to_replace : (old : Heap) (live : List Entry) (new another : Heap) (id size : ℕ) (making told : Making)
    → AreOnceIn old.memory.live → HaveSameSums old.memory.live live → AttemptsToReplace old id size making new
    → AttemptsToReplace (re live old) id size told another → AreSame making told new another
attempts_to_replace old live new another id size Made Made once same first second =
    record { same = refl; heap = replaces old live new another id size once same first second }
attempts_to_replace old live new another id size NoRoom NoRoom once same (few, none, is) (few_too, none_too, is_other) =
    record { same = refl; heap = stays old live same new another is is_other }
attempts_to_replace old live new another id size Full Full once same (many, is) (many_too, is_other) =
    record { same = refl; heap = stays old live same new another is is_other }
attempts_to_replace old live new another id size Made NoRoom once same first (few, none, is) =
    absurd (made_or_not old live first.made id 1 size same first.makes (inl none))
attempts_to_replace old live new another id size Made Full once same first (many, is) =
    absurd (made_or_not old live first.made id 1 size same first.makes (inr many))
attempts_to_replace old live new another id size NoRoom Made once same (few, none, is) second =
    absurd (made_or_not (re live old) old.memory.live second.made id 1 size (back old live same) second.makes (inl none))
attempts_to_replace old live new another id size Full Made once same (many, is) second =
    absurd (made_or_not (re live old) old.memory.live second.made id 1 size (back old live same) second.makes (inr many))
attempts_to_replace old live new another id size NoRoom Full once same (few, none, is) (many, is_other) =
    absurd (omega (arith, few, many, held-length old live same))
attempts_to_replace old live new another id size Full NoRoom once same (many, is) (few, none, is_other) =
    absurd (omega (arith, few, many, held-length old live same))

tries_to_replace : (old : Heap) (live : List Entry) (new another : Heap) (id size : ℕ) (making told : Making)
    → AreOnceIn old.memory.live → HaveSameSums old.memory.live live → TriesToReplace old id size making new
    → TriesToReplace (re live old) id size told another → AreSame making told new another
tries_to_replace old live new another id size making told once same (inl (made, first)) (inl (made_too, second)) =
    record { same = made_too ∙ sym made; heap = replaces old live new another id size once same first second }
tries_to_replace old live new another id size making told once same (inl (made, first)) (inr (none, second)) =
    absurd (made_or_not old live first.made id 1 size same first.makes none)
tries_to_replace old live new another id size making told once same (inr (none, first)) (inl (made, second)) =
    absurd (made_or_not (re live old) old.memory.live second.made id 1 size (back old live same) second.makes none)
tries_to_replace old live new another id size making told once same (inr (none, first)) (inr (none_too, second)) =
    let sweep = sweeps old live same (swept_heap old) (swept_heap (re live old)) refl refl in
    attempts_to_replace (swept_heap old) sweep.live new another id size making told once sweep.same first
    (subst (λ (h : Heap). AttemptsToReplace h id size told another) sweep.is second)

follows_replacing : (old : Heap) (live : List Entry) (new another : Heap) (id : ℕ) (making : Making) → AreOnceIn old.memory.live
    → HaveSameSums old.memory.live live → FollowsReplacing old id making new → FollowsReplacing (re live old) id making another
    → IsReordered new another
follows_replacing old live new another id Made once same first second = follows old live new another same first second
follows_replacing old live new another id NoRoom once same first second = frees old live new another id once same first second
follows_replacing old live new another id Full once same first second = frees old live new another id once same first second

replaces_live : (old : Heap) (live : List Entry) (new another : Heap) (id size : ℕ) (outcome told : Outcome)
    → AreOnceIn old.memory.live → HaveSameSums old.memory.live live → (first : ReplacesLive old id size outcome new)
    → ReplacesLive (re live old) id size told another → AreOnceIn first.tried.memory.live → AreSame outcome told new another
replaces_live old live new another id size outcome told once same first second tried_once =
    let tried = tries_to_replace old live first.tried second.tried id size first.making second.making once same first.tries second.tries in
    let second_follows : FollowsReplacing (re tried.heap.live first.tried) id first.making another =
    subst (λ (m : Making). FollowsReplacing (re tried.heap.live first.tried) id m another) tried.same
    (subst (λ (h : Heap). FollowsReplacing h id second.making another) tried.heap.is second.follows) in
    record {
      same = second.is_told ∙ ap (λ (m : Making). outcome_of false false (Some m)) tried.same ∙ sym first.is_told;
      heap = follows_replacing first.tried tried.heap.live new another id first.making tried_once tried.heap.same first.follows second_follows;
    }

moves : (old : Heap) (live : List Entry) (new another : Heap) (from to size : ℕ) (outcome told : Outcome)
    → AreOnceIn old.memory.live → HaveSameSums old.memory.live live → (first : Moves old from to size outcome new)
    → Moves (re live old) from to size told another → AreOnceIn first.made.memory.live → AreSame outcome told new another
moves old live new another from to size outcome told once same first second made_once =
    let made = allocates old live first.made second.made to 1 size outcome told once same first.allocates second.allocates in
    record {
      same = made.same;
      heap = frees first.made made.heap.live new another from made_once made.heap.same first.frees
          (subst (λ (h : Heap). FreesInHeap h from another) made.heap.is second.frees);
    }

allocates_unknown : (old : Heap) (live : List Entry) (new another : Heap) (id size : ℕ) (outcome told : Outcome)
    → AreOnceIn old.memory.live → HaveSameSums old.memory.live live → AllocatesUnknown old id size outcome new
    → AllocatesUnknown (re live old) id size told another → AreSame outcome told new another
allocates_unknown old live new another id size outcome told once same first second =
    let made = allocates old live new another id 1 size first.told second.told once same first.allocates second.allocates in
    record {
      same = second.is_told ∙ ap (λ (o : Outcome). record o { unknown = true }) made.same ∙ sym first.is_told;
      heap = made.heap;
    }

-- an object is live under an id, or none is
live_or_not : (found : Option Object) → IsSome found → IsNone found → ⊥
live_or_not None is none = let e = is in cc
live_or_not (Some object) is none = let e = none in cc

-- what the heaps between have: each id once
abbrev OnceBetween : (old : Heap) (from to size : ℕ) (outcome : Outcome) (new : Heap) → Remakes old from to size outcome new → Type 0
OnceBetween old from to size outcome new (inl none) = Unit {0}
OnceBetween old from to size outcome new (inr (some, inl (one, first))) = AreOnceIn first.tried.memory.live
OnceBetween old from to size outcome new (inr (some, inr (two, first))) = AreOnceIn first.made.memory.live

remakes : (old : Heap) (live : List Entry) (new another : Heap) (from to size : ℕ) (outcome told : Outcome)
    → AreOnceIn old.memory.live → HaveSameSums old.memory.live live → (first : Remakes old from to size outcome new)
    → OnceBetween old from to size outcome new first
    → Remakes (re live old) from to size told another → AreSame outcome told new another
remakes old live new another from to size outcome told once same (inl (none, first)) between (inl (none_too, second)) =
    allocates_unknown old live new another to size outcome told once same first second
remakes old live new another from to size outcome told once same (inl (none, first)) between (inr (some, second)) =
    absurd (live_or_not (object_under old from) (subst IsSome (lookup_along from old.memory.live live once same) some) none)
remakes old live new another from to size outcome told once same (inr (some, first)) between (inl (none, second)) =
    absurd (live_or_not (object_under old from) some (subst IsNone (lookup_along from old.memory.live live once same) none))
remakes old live new another from to size outcome told once same (inr (some, inl (one, first))) between
    (inr (some_too, inl (one_too, second))) =
    replaces_live old live new another to size outcome told once same first second between
remakes old live new another from to size outcome told once same (inr (some, inr (two, first))) between
    (inr (some_too, inr (two_too, second))) =
    moves old live new another from to size outcome told once same first second between
remakes old live new another from to size outcome told once same (inr (some, inl (one, first))) between
    (inr (some_too, inr (two, second))) = absurd (two one)
remakes old live new another from to size outcome told once same (inr (some, inr (two, first))) between
    (inr (some_too, inl (one, second))) = absurd (two one)

-- ---- an object keeps its place

clears_other : (old : Heap) (live : List Entry) (new another : Heap) (from to : ℕ) (was_live is_live : Bool) → AreOnceIn old.memory.live
    → HaveSameSums old.memory.live live → ClearsOther old from to was_live new → ClearsOther (re live old) from to is_live another
    → AreSame was_live is_live new another
clears_other old live new another from to was_live is_live once same (inl (one, not, is)) (inl (one_too, not_too, is_other)) =
    record { same = not_too ∙ sym not; heap = stays old live same new another is is_other }
clears_other old live new another from to was_live is_live once same (inr (two, first)) (inr (two_too, second)) =
    frees_if_live old live new another to was_live is_live once same first second
clears_other old live new another from to was_live is_live once same (inl (one, not, is)) (inr (two, second)) = absurd (two one)
clears_other old live new another from to was_live is_live once same (inr (two, first)) (inl (one, not, is)) = absurd (two one)

keeps_place : (old : Heap) (live : List Entry) (new another : Heap) (from to : ℕ) (object : Object) (size : ℕ)
    (outcome told : Outcome) → AreOnceIn old.memory.live → HaveSameSums old.memory.live live
    → KeepsPlace old from to object size outcome new → KeepsPlace (re live old) from to object size told another
    → AreSame outcome told new another
keeps_place old live new another from to object size outcome told once same first second =
    let cleared = clears_other old live first.cleared second.cleared from to first.was_live second.was_live once same first.clears second.clears in
    record {
      same = second.is_told ∙ ap (λ (b : Bool). outcome_of b false None) cleared.same ∙ sym first.is_told;
      heap = keeps_object first.cleared cleared.heap.live cleared.heap.same new another from to object 1 size first.keeps
          (subst (λ (h : Heap). KeepsHeapObject h from to object 1 size another) cleared.heap.is second.keeps);
    }

-- ---- each id stays that of one object at most

once_along : (old new : Heap) → new ≡ old → AreOnceIn old.memory.live → AreOnceIn new.memory.live
once_along old new is once = subst (λ (h : Heap). AreOnceIn h.memory.live) (sym is) once

-- each id once, and this one not at all
pub record IsOnceWithout (id : ℕ) (heap : Heap) : Type 0 where
  pub once : AreOnceIn heap.memory.live
  pub none : sum_by (id_weight id) heap.memory.live ≡ 0

pub without_along : (id : ℕ) (old new : Heap) → HaveSameSums old.memory.live new.memory.live → IsOnceWithout id old → IsOnceWithout id new
without_along id old new same was = record {
  once = λ other. omega (arith, same (id_weight other), was.once other);
  none = omega (arith, same (id_weight id), was.none);
}

follows_sums : (old new : Heap) → FollowsPolicy old new → HaveSameSums old.memory.live new.memory.live
follows_sums old new (inl (must, is)) weight = ap (λ (h : Heap). sum_by weight h.memory.live) is
follows_sums old new (inr (not, is)) weight = ap (λ (h : Heap). sum_by weight h.memory.live) is

freed_without : (old new : Heap) (id : ℕ) (object : Object) → AreOnceIn old.memory.live → FreesHeapObject old id object new → IsOnceWithout id new
freed_without old new id object once freed =
    let sums : (weight : Entry → ℕ) → sum_by weight old.memory.live ≡ weight (id, object) + sum_by weight new.memory.live =
    λ weight. omega (
      arith,
      sum_by-IsPermutation weight old.memory.live ((id, object) ∷ freed.live) freed.takes,
      sum_by-cons weight (id, object) freed.live,
      ap (λ (h : Heap). sum_by weight h.memory.live) freed.is_new,
    ) in
    record {
      once = λ other. omega (arith, sums (id_weight other), once other);
      none = omega (arith, sums (id_weight id), own_weight id object, once id);
    }

frees_without : (old new : Heap) (id : ℕ) → AreOnceIn old.memory.live → FreesInHeap old id new → IsOnceWithout id new
frees_without old new id once freed =
    without_along id freed.freed new (follows_sums freed.freed new freed.follows) (freed_without old freed.freed id freed.object once freed.frees)

pub clears_without : (old new : Heap) (id : ℕ) (was_live : Bool) → AreOnceIn old.memory.live → FreesIfLive old id was_live new
    → IsOnceWithout id new
clears_without old new id true once freed = frees_without old new id once freed
clears_without old new id false once (none, is) =
    without_along id old new (λ weight. ap (λ (h : Heap). sum_by weight h.memory.live) is)
    (record { once = once; none = none_counted id old.memory.live (none_is (object_under old id) none) })

pub makes_once : (old new : Heap) (id requested size : ℕ) → IsOnceWithout id old → MakesHeapObject old id requested size new
    → AreOnceIn new.memory.live
makes_once old new id requested size was made =
    let object = memory_object old.settings.align requested made.start size in
    subst (λ (h : Heap). AreOnceIn h.memory.live) (sym made.is_new)
    (once_more id object old.memory.live made.live was.none (one_more old.memory.live made.live (id, object) made.adds) was.once)

attempts_once : (old new : Heap) (id requested size : ℕ) (making : Making) → IsOnceWithout id old
    → Attempts old id requested size making new → AreOnceIn new.memory.live
attempts_once old new id requested size Made was made = makes_once old new id requested size was made
attempts_once old new id requested size NoRoom was (few, none, is) = once_along old new is was.once
attempts_once old new id requested size Full was (many, is) = once_along old new is was.once

tries_once : (old new : Heap) (id requested size : ℕ) (making : Making) → IsOnceWithout id old → Tries old id requested size making new
    → AreOnceIn new.memory.live
tries_once old new id requested size making was (inl (is, made)) = makes_once old new id requested size was made
tries_once old new id requested size making was (inr (none, again)) =
    attempts_once (swept_heap old) new id requested size making (without_along id old (swept_heap old) (λ weight. refl) was) again

allocates_once : (old new : Heap) (id requested size : ℕ) (outcome : Outcome) → AreOnceIn old.memory.live
    → AllocatesInHeap old id requested size outcome new → AreOnceIn new.memory.live
allocates_once old new id requested size outcome once made =
    tries_once made.cleared new id requested size made.making (clears_without old made.cleared id made.was_live once made.clears) made.tries

replaces_once : (old new : Heap) (id size : ℕ) → AreOnceIn old.memory.live → Replaces old id size new
    → AreOnceIn new.memory.live
replaces_once old new id size once made other =
    let makes = made.makes in
    let freed = made.frees in
    let object = memory_object old.settings.align 1 makes.start size in
    omega (
      arith,
      once other,
      sum_by-IsPermutation (id_weight other) ((id, object) ∷ old.memory.live) makes.live makes.adds,
      sum_by-cons (id_weight other) (id, object) old.memory.live,
      ap (λ (h : Heap). sum_by (id_weight other) h.memory.live) makes.is_new,
      sum_by-IsPermutation (id_weight other) made.made.memory.live ((id, made.before) ∷ freed.live) freed.takes,
      sum_by-cons (id_weight other) (id, made.before) freed.live,
      ap (λ (h : Heap). sum_by (id_weight other) h.memory.live) freed.is_new,
    )

attempts_to_replace_once : (old new : Heap) (id size : ℕ) (making : Making) → AreOnceIn old.memory.live
    → AttemptsToReplace old id size making new → AreOnceIn new.memory.live
attempts_to_replace_once old new id size Made once made = replaces_once old new id size once made
attempts_to_replace_once old new id size NoRoom once (few, none, is) = once_along old new is once
attempts_to_replace_once old new id size Full once (many, is) = once_along old new is once

tries_to_replace_once : (old new : Heap) (id size : ℕ) (making : Making) → AreOnceIn old.memory.live
    → TriesToReplace old id size making new → AreOnceIn new.memory.live
tries_to_replace_once old new id size making once (inl (is, made)) = replaces_once old new id size once made
tries_to_replace_once old new id size making once (inr (none, again)) =
    attempts_to_replace_once (swept_heap old) new id size making once again

follows_replacing_once : (old new : Heap) (id : ℕ) (making : Making) → AreOnceIn old.memory.live → FollowsReplacing old id making new
    → AreOnceIn new.memory.live
follows_replacing_once old new id Made once policy = λ other. omega (arith, follows_sums old new policy (id_weight other), once other)
follows_replacing_once old new id NoRoom once freed = (frees_without old new id once freed).once
follows_replacing_once old new id Full once freed = (frees_without old new id once freed).once

-- of the heap after, and of the heaps between
record RemakesOnce (old : Heap) (from to size : ℕ) (outcome : Outcome) (new : Heap) (made : Remakes old from to size outcome new)
    : Type 0 where
  between : OnceBetween old from to size outcome new made
  once : AreOnceIn new.memory.live

remakes_once : (old new : Heap) (from to size : ℕ) (outcome : Outcome) → AreOnceIn old.memory.live
    → (made : Remakes old from to size outcome new) → RemakesOnce old from to size outcome new made
remakes_once old new from to size outcome once (inl (none, made)) =
    record { between = _; once = allocates_once old new to 1 size made.told once made.allocates }
remakes_once old new from to size outcome once (inr (some, inl (one, made))) =
    let tried = tries_to_replace_once old made.tried to size made.making once made.tries in
    record { between = tried; once = follows_replacing_once made.tried new to made.making tried made.follows }
remakes_once old new from to size outcome once (inr (some, inr (two, made))) =
    let between = allocates_once old made.made to 1 size outcome once made.allocates in
    record { between = between; once = (frees_without made.made new from between made.frees).once }

-- an object that keeps its place, under another id that is not live or under its own
keeps_sums : (old new : Heap) (from to : ℕ) (object : Object) (requested size other : ℕ) → KeepsHeapObject old from to object requested size new
    → sum_by (id_weight other) new.memory.live + id_weight other (from, object)
    ≡ sum_by (id_weight other) old.memory.live + id_weight other (to, object)
keeps_sums old new from to object requested size other kept = omega (
  arith,
  sum_by-IsPermutation (id_weight other) ((to, resized object requested size) ∷ old.memory.live) ((from, object) ∷ kept.live) kept.swaps,
  sum_by-cons (id_weight other) (to, resized object requested size) old.memory.live,
  sum_by-cons (id_weight other) (from, object) kept.live,
  ap (λ (h : Heap). sum_by (id_weight other) h.memory.live) kept.is_new,
)

keeps_place_once : (old new : Heap) (from to : ℕ) (object : Object) (size : ℕ) (outcome : Outcome) → AreOnceIn old.memory.live
    → KeepsPlace old from to object size outcome new → AreOnceIn new.memory.live
keeps_place_once old new from to object size outcome once kept = by_clearing kept.clears
  where
    by_clearing : ClearsOther old from to kept.was_live kept.cleared → AreOnceIn new.memory.live
    by_clearing (inl (one, not, is)) other =
        let weight = ap (λ (n : ℕ). id_weight other (n, object)) one in
        omega (arith, keeps_sums kept.cleared new from to object 1 size other kept.keeps, weight, once_along old kept.cleared is once other)
    by_clearing (inr (two, clears)) other =
        let cleared = clears_without old kept.cleared to kept.was_live once clears in
        by_test (nat_eq other to) refl cleared
      where
        by_test : (b : Bool) → nat_eq other to ≡ b → IsOnceWithout to kept.cleared → sum_by (id_weight other) new.memory.live ≤ 1
        by_test false is cleared =
            let weight : id_weight other (to, object) ≡ 0 = ap (λ (t : Bool). cond t 1 0) is in
            omega (arith, keeps_sums kept.cleared new from to object 1 size other kept.keeps, weight, cleared.once other)
        by_test true is cleared =
            let weight : id_weight other (to, object) ≡ 1 = ap (λ (t : Bool). cond t 1 0) is in
            let same = same_key other to is in
            let none : sum_by (id_weight other) kept.cleared.memory.live ≡ 0 =
            ap (λ (n : ℕ). sum_by (id_weight n) kept.cleared.memory.live) same ∙ cleared.none in
            omega (arith, keeps_sums kept.cleared new from to object 1 size other kept.keeps, weight, none)

-- ---- an event

reallocates_once : (old new : Heap) (from to size : ℕ) (outcome : Outcome) → AreOnceIn old.memory.live
    → Reallocates old from to size outcome new → AreOnceIn new.memory.live
reallocates_once old new from to size outcome once = by_kept (kept_object old from size)
  where
    by_kept : (kept : Option Object)
        → MatchOption kept (Remakes old from to size outcome new) (λ object. KeepsPlace old from to object size outcome new)
        → AreOnceIn new.memory.live
    by_kept None made = (remakes_once old new from to size outcome once made).once
    by_kept (Some object) kept = keeps_place_once old new from to object size outcome once kept

pub event_once : (old : Heap) (event : Event) (outcome : Outcome) (new : Heap) → AreOnceIn old.memory.live → IsEvent old event outcome new
    → AreOnceIn new.memory.live
event_once old (Allocate id size align) outcome new once made = allocates_once old new id align (size_of size) outcome once made
event_once old (Clear id size) outcome new once made = allocates_once old new id 1 (size_of size) outcome once made
event_once old (Reallocate from to size) outcome new once made = reallocates_once old new from to (size_of size) outcome once made
event_once old (Free id) outcome new once freed = (clears_without old new id freed.is_live once freed.frees).once
event_once old Sweep outcome new once (is, told) = once_along (swept_if_asked old) new is (by_policy (is_of_the_trace old.settings.policy))
  where
    by_policy : (b : Bool) → AreOnceIn (if b then swept_heap old else old).memory.live
    by_policy true = once
    by_policy false = once
event_once old (Clock time) outcome new once (is, told) = once_along old new is once

reallocates : (old : Heap) (live : List Entry) (new another : Heap) (from to size : ℕ) (outcome told : Outcome)
    → AreOnceIn old.memory.live → HaveSameSums old.memory.live live → Reallocates old from to size outcome new
    → Reallocates (re live old) from to size told another → AreSame outcome told new another
reallocates old live new another from to size outcome told once same first second =
    by_kept (kept_object old from size) first (subst Second kept second)
  where
    Second : Option Object → Type 0
    Second found = MatchOption found (Remakes (re live old) from to size told another)
        (λ object. KeepsPlace (re live old) from to object size told another)

    kept : kept_object (re live old) from size ≡ kept_object old from size
    kept = ap (λ (found : Option Object).
        if is_keep old.settings.realloc
        then option_and_then (λ object. if can_take old.settings.align 1 size object.span then Some object else None) found
        else None) (lookup_along from old.memory.live live once same)

    by_kept : (found : Option Object)
        → MatchOption found (Remakes old from to size outcome new) (λ object. KeepsPlace old from to object size outcome new)
        → Second found → AreSame outcome told new another
    by_kept None made other =
        remakes old live new another from to size outcome told once same made
        (remakes_once old new from to size outcome once made).between other
    by_kept (Some object) made other = keeps_place old live new another from to object size outcome told once same made other

frees_or_not : (old : Heap) (live : List Entry) (new another : Heap) (id : ℕ) (outcome told : Outcome) → AreOnceIn old.memory.live
    → HaveSameSums old.memory.live live → FreesOrNot old id outcome new → FreesOrNot (re live old) id told another
    → AreSame outcome told new another
frees_or_not old live new another id outcome told once same first second =
    let freed = frees_if_live old live new another id first.is_live second.is_live once same first.frees second.frees in
    record {
      same = second.is_told ∙ ap (λ (b : Bool). outcome_of false (if b then false else true) None) freed.same ∙ sym first.is_told;
      heap = freed.heap;
    }

pub event_one : (old : Heap) (live : List Entry) (new another : Heap) (event : Event) (outcome told : Outcome) → AreOnceIn old.memory.live
    → HaveSameSums old.memory.live live → IsEvent old event outcome new → IsEvent (re live old) event told another
    → AreSame outcome told new another
event_one old live new another (Allocate id size align) outcome told once same first second =
    allocates old live new another id align (size_of size) outcome told once same first second
event_one old live new another (Clear id size) outcome told once same first second =
    allocates old live new another id 1 (size_of size) outcome told once same first second
event_one old live new another (Reallocate from to size) outcome told once same first second =
    reallocates old live new another from to (size_of size) outcome told once same first second
event_one old live new another (Free id) outcome told once same first second = frees_or_not old live new another id outcome told once same first second
event_one old live new another Sweep outcome told once same (is, is_told) (is_other, is_told_too) =
    record { same = is_told_too ∙ sym is_told; heap = by_policy (is_of_the_trace old.settings.policy) is is_other }
  where
    by_policy : (b : Bool) → new ≡ (if b then swept_heap old else old) → another ≡ (if b then swept_heap (re live old) else re live old)
        → IsReordered new another
    by_policy true is is_other = sweeps old live same new another is is_other
    by_policy false is is_other = stays old live same new another is is_other
event_one old live new another (Clock time) outcome told once same (is, is_told) (is_other, is_told_too) =
    record { same = is_told_too ∙ sym is_told; heap = stays old live same new another is is_other }

-- ---- heaps that are alike

pub alike_is : (one other : Heap) → AreAlike one other → IsReordered one other
alike_is one other alike = record {
  live = other.memory.live;
  same = λ weight. sum_by-IsPermutation weight one.memory.live other.memory.live alike.live;
  is = λ i. record {
    settings = alike.settings i;
    memory = record { live = other.memory.live; quarantined = alike.quarantined i };
    totals = alike.totals i;
  };
}

pub is_alike : (one other : Heap) → IsReordered one other → AreAlike one other
is_alike one other order = record {
  settings = ap (λ (h : Heap). h.settings) order.is;
  live = reordered one.memory.live other.memory.live (λ weight. ap (λ (h : Heap). sum_by weight h.memory.live) order.is ∙ order.same weight);
  quarantined = ap (λ (h : Heap). h.memory.quarantined) order.is;
  totals = ap (λ (h : Heap). h.totals) order.is;
}

-- the result and the heap after an event
pub record IsOneOutcome (outcome told : Outcome) (new another : Heap) : Type 0 where
  pub same : told ≡ outcome
  pub alike : AreAlike new another

pub alike_event : (old other new another : Heap) (event : Event) (outcome told : Outcome) → AreOnceIn old.memory.live → AreAlike old other
    → IsEvent old event outcome new → IsEvent other event told another → IsOneOutcome outcome told new another
alike_event old other new another event outcome told once alike first second =
    let order = alike_is old other alike in
    let one = event_one old order.live new another event outcome told once order.same first
    (subst (λ (h : Heap). IsEvent h event told another) order.is second) in
    record { same = one.same; alike = is_alike new another one.heap }

pub alike_runs : (old other new another : Heap) (events : List Event) → AreOnceIn old.memory.live → AreAlike old other
    → Runs old events new → Runs other events another → AreAlike new another
alike_runs old other new another [] once alike is is_other =
    subst (λ (h : Heap). AreAlike h another) (sym is) (subst (λ (h : Heap). AreAlike old h) (sym is_other) alike)
alike_runs old other new another (event ∷ events) once alike first second =
    let step = alike_event old other first.1 second.1 event first.0 second.0 once alike first.2 second.2 in
    alike_runs first.1 second.1 new another events (event_once old event first.0 first.1 once first.2) step.alike first.3 second.3

pub alike_itself : (heap : Heap) → AreAlike heap heap
alike_itself heap = record { settings = refl; live = IsPermutation-refl heap.memory.live; quarantined = refl; totals = refl }
