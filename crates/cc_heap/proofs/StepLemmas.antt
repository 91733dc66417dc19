-- What a heap is after an object was made, after one was freed, and after an event.
use Rattle.std.proofs.Common.{ℕ, Bool, true, false, ◌≡◌, ◌+◌, ◌-◌, ◌<◌, nat_eq, List, [], ◌∷◌, ◌++◌, Option, Some, Result, Ok, Err, IfOk, IsSome, map, length, arith, refl, subst}
use Rattle.std.proofs.Common.{◌∙◌, sym, ap, inl, inr, IsPermutation}
use Rattle.std.specs.Map.{lookup}
use Rattle.std.proofs.lemmas.List.Sorted.{IsPermutation-refl}
use Rattle.cc_bounds.specs.declared.span.Span.{Span}
use Rattle.cc_heap.specs.declared.making.Making.{Making}
use Rattle.cc_heap.specs.declared.making.Making.TheVariants.{Made, NoRoom, Full}
use Rattle.cc_heap.specs.declared.object.Object.{Object}
use Rattle.cc_heap.specs.declared.settings.Settings.{Settings}
use Rattle.cc_heap.specs.declared.totals.Totals.{Totals}
use Rattle.cc_heap.specs.declared.usage.Usage.{Usage}
use Rattle.cc_heap.specs.Totals.{with_made}
use Rattle.cc_heap.specs.Memory.{memory_object, object_span, usage_of}
use Rattle.cc_heap.specs.Heap.{Attempts, Heap, MakesHeapObject, is_made, object_under, swept_heap}
use Rattle.cc_heap.specs.Events.{AttemptsToReplace, ClearsOther, FailsToReallocate, FollowsPolicy, FreesIfLive, HasNoRoomInHeap, Tries, TriesToReplace}
use Rattle.cc_heap.specs.HeapState.{IsReplaced, QuarantinesLive}
use Rattle.cc_heap.proofs.PlaceLemmas.{IsFound}
use Rattle.cc_heap.proofs.HeapLemmas.{heap_of, held_length, memory_of}

-- ---- an object is made

pub makes : (old new : Heap) (settings : Settings) (totals new_totals : Totals) (live more : List (ℕ × Object))
    (waiting new_waiting : List Span) (usage : Usage) (id : ℕ) (object : Object)
    → heap_of settings live waiting totals ≡ old → heap_of settings more new_waiting new_totals ≡ new
    → length live + length waiting < settings.limit
    → IsFound settings.align settings.pool (map object_span live ++ waiting) object.align object.size object.span
    → IsPermutation ((id, object) ∷ live) more → new_waiting ≡ waiting → usage ≡ usage_of (memory_of more waiting)
    → new_totals ≡ with_made totals object (object.span.top - settings.pool.base) usage
    → MakesHeapObject old id object.align object.size new
makes old new settings totals new_totals live more waiting new_waiting usage id object old_is new_is below found adds waiting_is
    usage_is totals_is =
    let at : object ≡ memory_object settings.align object.align object.span.base object.size =
    λ i. record {
      size = object.size;
      align = object.align;
      span = record { base = object.span.base; top = found.top i };
    } in
    let counted : with_made totals object (object.span.top - settings.pool.base) usage
    ≡ with_made totals (memory_object settings.align object.align object.span.base object.size)
    ((memory_object settings.align object.align object.span.base object.size).span.top - settings.pool.base)
    (usage_of (memory_of more waiting)) =
    λ i. with_made totals (at i) ((at i).span.top - settings.pool.base) (usage_is i) in
    rw (← old_is) (record {
      start = object.span.base;
      live = more;
      few = omega (arith, held_length (memory_of live waiting), below);
      placement = found.placement;
      adds = subst (λ (o : Object). IsPermutation ((id, o) ∷ live) more) at adds;
      is_new = sym new_is ∙ (λ i. heap_of settings more (waiting_is i) ((totals_is ∙ counted) i));
    })

-- ---- an object is freed

pub quarantines : (old : Heap) (settings : Settings) (totals : Totals) (live fewer : List (ℕ × Object))
    (waiting new_waiting : List Span) (id : ℕ) (object : Object) (result : Option Object)
    → heap_of settings live waiting totals ≡ old → result ≡ lookup (nat_eq id) live → result ≡ Some object
    → IsPermutation live ((id, object) ∷ fewer) → new_waiting ≡ waiting ++ object.span ∷ []
    → QuarantinesLive old id (heap_of settings fewer new_waiting totals)
quarantines old settings totals live fewer waiting new_waiting id object result old_is result_is is takes waiting_is =
    rw (← old_is, waiting_is) (record {
      object = object;
      is_live = sym result_is ∙ is;
      quarantines = record { live = fewer; takes = takes; is_new = refl };
    })

-- an object is made under a live id, and the one before it quarantined
pub replaced : (old : Heap) (settings : Settings) (totals new_totals : Totals) (live more : List (ℕ × Object))
    (waiting new_waiting : List Span) (usage : Usage) (id : ℕ) (before object : Object) (result : Option Object)
    → heap_of settings live waiting totals ≡ old → length live + length waiting < settings.limit
    → IsFound settings.align settings.pool (map object_span live ++ waiting) object.align object.size object.span
    → result ≡ lookup (nat_eq id) live → result ≡ Some before
    → IsPermutation ((id, object) ∷ live) ((id, before) ∷ more) → new_waiting ≡ waiting ++ before.span ∷ []
    → usage ≡ usage_of (memory_of ((id, object) ∷ live) waiting)
    → new_totals ≡ with_made totals object (object.span.top - settings.pool.base) usage
    → IsReplaced old id object.align object.size (heap_of settings more new_waiting new_totals)
replaced old settings totals new_totals live more waiting new_waiting usage id before object result old_is below found result_is is
    takes waiting_is usage_is totals_is =
    rw (← old_is) (record {
      before = before;
      is_live = sym result_is ∙ is;
      made = heap_of settings ((id, object) ∷ live) waiting new_totals;
      makes = makes (heap_of settings live waiting totals) (heap_of settings ((id, object) ∷ live) waiting new_totals)
          settings totals new_totals live ((id, object) ∷ live) waiting waiting usage id object refl refl below found
          (IsPermutation-refl ((id, object) ∷ live)) refl usage_is totals_is;
      quarantines = record { live = more; takes = takes; is_new = rw waiting_is refl };
    })

-- a free changes no setting
pub free_settings : (old new : Heap) (id : ℕ) (is_live : Bool) → FreesIfLive old id is_live new → new.settings ≡ old.settings
free_settings old new id true freed = by_policy freed.follows ∙ ap (λ (h : Heap). h.settings) freed.frees.is_new
  where
    by_policy : FollowsPolicy freed.freed new → new.settings ≡ freed.freed.settings
    by_policy (inl (must, is)) = ap (λ (h : Heap). h.settings) is
    by_policy (inr (not, is)) = ap (λ (h : Heap). h.settings) is
free_settings old new id false (none, is) = ap (λ (h : Heap). h.settings) is

-- ---- attempts

never : (b : Bool) → b ≡ true → b ≡ false → ⊥
never true is not = cc
never false is not = cc

-- an attempt that failed: why, and that nothing changed
pub record IsRefused (old : Heap) (requested size : ℕ) (new : Heap) : Type 0 where
  pub why : HasNoRoomInHeap old requested size
  pub same : new ≡ old

refused : (old new : Heap) (id requested size : ℕ) (making : Making) → is_made making ≡ false
    → Attempts old id requested size making new → IsRefused old requested size new
refused old new id requested size Made not attempts = absurd (never true refl not)
refused old new id requested size NoRoom not (few, none, same) = record { why = inl none; same = same }
refused old new id requested size Full not (many, same) = record { why = inr many; same = same }

pub tries_again : {E : Type 0} (old between after new : Heap) (id requested size : ℕ) (first : Making)
    (result : Result Making E) → is_made first ≡ false → Attempts old id requested size first between
    → after ≡ swept_heap between → IfOk result (λ making. Attempts after id requested size making new)
    → IfOk result (λ making. Tries old id requested size making new)
tries_again old between after new id requested size first (Ok making) not attempts after_is again =
    let is = refused old between id requested size first not attempts in
    inr (
      is.why,
      subst (λ (h : Heap). Attempts h id requested size making new) (after_is ∙ ap (λ (h : Heap). swept_heap h) is.same) again,
    )
tries_again old between after new id requested size first (Err error) not attempts after_is again = tt

not_replaced : (old new : Heap) (id size : ℕ) (making : Making) → is_made making ≡ false
    → AttemptsToReplace old id size making new → IsRefused old 1 size new
not_replaced old new id size Made not attempts = absurd (never true refl not)
not_replaced old new id size NoRoom not (few, none, same) = record { why = inl none; same = same }
not_replaced old new id size Full not (many, same) = record { why = inr many; same = same }

pub replaces_again : {E : Type 0} (old between after new : Heap) (id size : ℕ) (first : Making)
    (result : Result Making E) → is_made first ≡ false → AttemptsToReplace old id size first between
    → after ≡ swept_heap between → IfOk result (λ making. AttemptsToReplace after id size making new)
    → IfOk result (λ making. TriesToReplace old id size making new)
replaces_again old between after new id size first (Ok making) not attempts after_is again =
    let is = not_replaced old between id size first not attempts in
    inr (
      is.why,
      subst (λ (h : Heap). AttemptsToReplace h id size making new) (after_is ∙ ap (λ (h : Heap). swept_heap h) is.same) again,
    )
replaces_again old between after new id size first (Err error) not attempts after_is again = tt

-- ---- events

-- an object that keeps its place, without memory for its new id
pub fails_to_keep : (old cleared new : Heap) (from to : ℕ) (object : Object) (was_live : Bool)
    → object_under old from ≡ Some object → ClearsOther old from to was_live cleared → new ≡ cleared
    → FailsToReallocate old from to new
fails_to_keep old cleared new from to object was_live live (inl (one, not, is)) same =
    inl (one, subst (λ (o : Option Object). IsSome o) (sym live) refl, inl (same ∙ is))
fails_to_keep old cleared new from to object was_live live (inr (two, clears)) same =
    inr (record { was_live = was_live; cleared = cleared; clears = clears; sweeps = inl same })
