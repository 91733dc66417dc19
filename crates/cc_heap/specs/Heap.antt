-- A heap, and the four changes of it: an object is made, an object is freed, an object keeps its place and
-- has another size, and the quarantine is swept.
use Rattle.std.specs.Prelude.{ℕ, Bool, true, false, ◌≡◌, ◌+◌, ◌-◌, ◌<◌, ◌≤◌, List, [], ◌∷◌, ◌++◌, length, nat_eq, if◌then◌else◌, Option, Some, None, option_and_then}
use Rattle.std.specs.List.Sorted.{IsPermutation}
use Rattle.std.specs.Map.{lookup}
use Rattle.cc_bounds.specs.declared.span.Span.{Span}
use Rattle.cc_placer.specs.Placement.{IsPlacement, HasNoPlace}
use Rattle.cc_heap.specs.declared.object.Object.{Object}
use Rattle.cc_heap.specs.declared.policy.Policy.{Policy}
use Rattle.cc_heap.specs.declared.settings.Settings.{Settings}
use Rattle.cc_heap.specs.declared.totals.Totals.{Totals}
use Rattle.cc_heap.specs.declared.making.Making.{Making}
use Rattle.cc_heap.specs.declared.making.Making.TheVariants.{Made, NoRoom, Full}
use Rattle.cc_heap.specs.Policy.{AsksForSweep, Gauge, is_immediate}
use Rattle.cc_heap.specs.Reallocation.{can_take, is_keep}
use Rattle.cc_heap.specs.Totals.{with_made, with_sweep, with_usage}
use Rattle.cc_placer.specs.Align.{padded_size_for}
use Rattle.cc_heap.specs.Memory.{Memory, memory_spans, memory_object, start_unit, usage_of}

-- A heap: its settings, what it holds, and the numbers of all that it has held.
pub record Heap : Type 0 where
  pub settings : Settings
  pub memory : Memory
  pub totals : Totals

-- The totals of a heap that has held nothing.
abbrev pub no_totals : Totals
no_totals = record {
  made = 0;
  inexact = 0;
  made_asked = 0;
  made_padded = 0;
  sweeps = 0;
  swept = 0;
  swept_over = 0;
  peak_objects = 0;
  peak_asked = 0;
  peak_live = 0;
  peak_quarantine = 0;
  peak_held = 0;
  high = 0;
}

-- A heap that has held nothing.
abbrev pub empty_heap : Settings → Heap
empty_heap settings = record {
  settings = settings;
  memory = record { live = []; quarantined = [] };
  totals = no_totals;
}

-- The object that is live under an id, or none.
abbrev pub object_under : Heap → ℕ → Option Object
object_under heap id = lookup (nat_eq id) heap.memory.live

-- ---- An object is made.

-- MakesHeapObject holds if an object of this size and requested alignment is made under an id, at the
-- placement of its padded size next to all that is held, while fewer spans are held than the limit.
pub record MakesHeapObject (old : Heap) (id requested size : ℕ) (new : Heap) : Type 0 where
  pub start : ℕ
  pub live : List (ℕ × Object)
  pub few : length (memory_spans old.memory) < old.settings.limit
  pub placement :
      IsPlacement old.settings.pool (memory_spans old.memory) (padded_size_for old.settings.align size)
      (start_unit old.settings.align requested size) start
  pub adds : IsPermutation ((id, memory_object old.settings.align requested start size) ∷ old.memory.live) live
  pub is_new : new ≡ record old {
    memory = record { live = live; quarantined = old.memory.quarantined };
    totals = with_made old.totals (memory_object old.settings.align requested start size)
        (start + padded_size_for old.settings.align size - old.settings.pool.base)
        (usage_of (record { live = live; quarantined = old.memory.quarantined }));
  }

-- Whether the object is made.
abbrev pub is_made : Making → Bool
is_made Made = true
is_made _ = false

-- Attempts holds if an object is made, or as many spans are held as may be, or fewer are held and there is
-- no place for it. In both latter cases nothing changes.
abbrev pub Attempts : Heap → (id requested size : ℕ) → Making → Heap → Type 0
Attempts old id requested size Made new = MakesHeapObject old id requested size new
Attempts old id requested size NoRoom new =
    (length (memory_spans old.memory) < old.settings.limit)
    × HasNoPlace old.settings.pool (memory_spans old.memory) (padded_size_for old.settings.align size)
    (start_unit old.settings.align requested size)
    × (new ≡ old)
Attempts old id requested size Full new = (old.settings.limit ≤ length (memory_spans old.memory)) × (new ≡ old)

-- ---- An object is freed.

-- The quarantine once a span of a freed object joined it, if there is a quarantine.
abbrev pub quarantined_with : Policy → List Span → Span → List Span
quarantined_with policy spans span = if is_immediate policy then spans else spans ++ span ∷ []

-- FreesHeapObject holds if the object under an id is freed: its span is quarantined, and stays held until
-- the next sweep, unless there is no quarantine.
pub record FreesHeapObject (old : Heap) (id : ℕ) (object : Object) (new : Heap) : Type 0 where
  pub live : List (ℕ × Object)
  pub takes : IsPermutation old.memory.live ((id, object) ∷ live)
  pub is_new : new ≡ record old {
    memory = record {
      live = live;
      quarantined = quarantined_with old.settings.policy old.memory.quarantined object.span;
    };
    totals = with_usage old.totals (usage_of (record {
      live = live;
      quarantined = quarantined_with old.settings.policy old.memory.quarantined object.span;
    }));
  }

-- ---- An object keeps its place.

-- The object with another size and requested alignment, and the same bytes.
abbrev pub resized : Object → (requested size : ℕ) → Object
resized object requested size = record { size = size; align = requested; span = object.span }

-- The object under an id whose bytes a reallocation to this size keeps, or none.
abbrev pub kept_object : Heap → (id size : ℕ) → Option Object
kept_object heap id size =
    if is_keep heap.settings.realloc
    then option_and_then (λ object. if can_take heap.settings.align 1 size object.span then Some object else None)
    (object_under heap id)
    else None

-- KeepsHeapObject holds if the object under `from` keeps its bytes, and has this size and the id `to`. The entries
-- are those before with the new one added and the old one taken away.
pub record KeepsHeapObject (old : Heap) (from to : ℕ) (before : Object) (requested size : ℕ) (new : Heap) : Type 0 where
  pub is_live : object_under old from ≡ Some before
  pub fits : can_take old.settings.align requested size before.span ≡ true
  pub live : List (ℕ × Object)
  pub swaps : IsPermutation ((to, resized before requested size) ∷ old.memory.live) ((from, before) ∷ live)
  pub is_new : new ≡ record old {
    memory = record { live = live; quarantined = old.memory.quarantined };
    totals = with_usage old.totals (usage_of (record { live = live; quarantined = old.memory.quarantined }));
  }

-- ---- The quarantine is swept.

-- The memory with nothing quarantined.
abbrev pub swept_memory : Memory → Memory
swept_memory memory = record { live = memory.live; quarantined = [] }

-- The heap once all that was quarantined is swept, so that it is no longer held.
abbrev pub swept_heap : Heap → Heap
swept_heap heap = record heap {
  memory = swept_memory heap.memory;
  totals = with_sweep heap.totals (usage_of heap.memory).quarantine (usage_of (swept_memory heap.memory));
}

-- The numbers that the policy of a heap compares.
abbrev pub gauge_of : Heap → Gauge
gauge_of heap = record {
  live = (usage_of heap.memory).live;
  quarantine = (usage_of heap.memory).quarantine;
  high = heap.totals.high;
  waiting = length heap.memory.quarantined;
}

-- MustSweep holds if the policy of a heap sweeps: it requests a sweep, and as many bytes are
-- quarantined as have to be.
pub record MustSweep (heap : Heap) : Type 0 where
  pub enough : heap.settings.least_quarantine ≤ (usage_of heap.memory).quarantine
  pub asks : AsksForSweep heap.settings.policy (gauge_of heap)
