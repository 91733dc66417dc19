-- No event depends on the peaks of bytes before it.
use Rattle.std.proofs.Common.{◌≡◌, ℕ, Bool, true, false, ◌+◌, ◌-◌, max, length, Option, Some, None, refl, sym, ◌∙◌, ap, subst, inl, inr, if◌then◌else◌}
use Rattle.std.specs.Prelude.{MatchOption}
use Rattle.cc_heap.specs.declared.event.Event.{Event}
use Rattle.cc_heap.specs.declared.event.Event.TheVariants.{Allocate, Clear, Reallocate, Free, Sweep, Clock}
use Rattle.cc_heap.specs.declared.making.Making.{Making}
use Rattle.cc_heap.specs.declared.making.Making.TheVariants.{Made, NoRoom, Full}
use Rattle.cc_heap.specs.declared.object.Object.{Object}
use Rattle.cc_heap.specs.declared.outcome.Outcome.{Outcome}
use Rattle.cc_heap.specs.declared.totals.Totals.{Totals}
use Rattle.cc_placer.specs.Align.{padded_size_for}
use Rattle.cc_heap.specs.Events.{AllocatesInHeap, AttemptsToReplace, ClearsOther, FollowsPolicy, FollowsReplacing, FreesInHeap}
use Rattle.cc_heap.specs.Events.{FreesIfLive, IsEvent, KeepsPlace, Reallocates, Remakes, Replaces, ReplacesLive}
use Rattle.cc_heap.specs.Events.{Tries, TriesToReplace}
use Rattle.cc_heap.specs.Heap.{Attempts, FreesHeapObject, Heap, KeepsHeapObject, MakesHeapObject, MustSweep, kept_object, quarantined_with, swept_heap, swept_memory}
use Rattle.cc_heap.specs.Memory.{memory_object, usage_of}
use Rattle.cc_heap.specs.Peaks.{totals_without_peaks}
use Rattle.cc_heap.specs.Policy.{AsksForSweep, is_of_the_trace}
use Rattle.cc_heap.specs.Totals.{with_made, with_sweep, with_usage}
use Rattle.cc_laws.specs.IgnoresPeaks.{IgnoresPeaks}

-- the heap with other totals
abbrev re : Totals → Heap → Heap
re totals heap = record { settings = heap.settings; memory = heap.memory; totals = totals }

-- totals that differ by their peaks of bytes alone
abbrev Alike : Totals → Totals → Type 0
Alike first second = totals_without_peaks first ≡ totals_without_peaks second

-- what holds of the heap with totals that are alike
record Twin (P : Heap → Type 0) (new : Heap) : Type 0 where
  totals : Totals
  holds : P (re totals new)
  alike : Alike totals new.totals

same : (t : Totals) (old new : Heap) → Alike t old.totals → new ≡ old → Twin (λ (h : Heap). h ≡ re t old) new
same t old new alike is = record {
  totals = t;
  holds = ap (re t) is;
  alike = alike ∙ ap (λ (h : Heap). totals_without_peaks h.totals) (sym is);
}

makes : (t : Totals) (old new : Heap) (id requested size : ℕ) → Alike t old.totals → MakesHeapObject old id requested size new
    → Twin (λ (h : Heap). MakesHeapObject (re t old) id requested size h) new
makes t old new id requested size alike made =
    let object = memory_object old.settings.align requested made.start size in
    let end = made.start + padded_size_for old.settings.align size - old.settings.pool.base in
    let usage = usage_of (record { live = made.live; quarantined = old.memory.quarantined }) in
    record {
      totals = with_made t object end usage;
      holds = record {
        start = made.start;
        live = made.live;
        few = made.few;
        placement = made.placement;
        adds = made.adds;
        is_new = ap (re (with_made t object end usage)) made.is_new;
      };
      alike = ap (λ (x : Totals). totals_without_peaks (with_made x object end usage)) alike
          ∙ ap (λ (h : Heap). totals_without_peaks h.totals) (sym made.is_new);
    }

frees_object : (t : Totals) (old new : Heap) (id : ℕ) (object : Object) → Alike t old.totals → FreesHeapObject old id object new
    → Twin (λ (h : Heap). FreesHeapObject (re t old) id object h) new
frees_object t old new id object alike freed =
    let usage = usage_of (record { live = freed.live; quarantined = quarantined_with old.settings.policy old.memory.quarantined object.span }) in
    record {
      totals = with_usage t usage;
      holds = record { live = freed.live; takes = freed.takes; is_new = ap (re (with_usage t usage)) freed.is_new };
      alike = ap (λ (x : Totals). totals_without_peaks (with_usage x usage)) alike
          ∙ ap (λ (h : Heap). totals_without_peaks h.totals) (sym freed.is_new);
    }

keeps_object : (t : Totals) (old new : Heap) (from to : ℕ) (before : Object) (requested size : ℕ) → Alike t old.totals
    → KeepsHeapObject old from to before requested size new → Twin (λ (h : Heap). KeepsHeapObject (re t old) from to before requested size h) new
keeps_object t old new from to before requested size alike kept =
    let usage = usage_of (record { live = kept.live; quarantined = old.memory.quarantined }) in
    record {
      totals = with_usage t usage;
      holds = record {
        is_live = kept.is_live;
        fits = kept.fits;
        live = kept.live;
        swaps = kept.swaps;
        is_new = ap (re (with_usage t usage)) kept.is_new;
      };
      alike = ap (λ (x : Totals). totals_without_peaks (with_usage x usage)) alike
          ∙ ap (λ (h : Heap). totals_without_peaks h.totals) (sym kept.is_new);
    }

sweeps : (t : Totals) (old new : Heap) → Alike t old.totals → new ≡ swept_heap old → Twin (λ (h : Heap). h ≡ swept_heap (re t old)) new
sweeps t old new alike is =
    let bytes = (usage_of old.memory).quarantine in
    let usage = usage_of (swept_memory old.memory) in
    record {
      totals = with_sweep t bytes usage;
      holds = ap (re (with_sweep t bytes usage)) is;
      alike = ap (λ (x : Totals). totals_without_peaks (with_sweep x bytes usage)) alike
          ∙ ap (λ (h : Heap). totals_without_peaks h.totals) (sym is);
    }

must : (first second : Totals) (old : Heap) → Alike first second → MustSweep (re second old) → MustSweep (re first old)
must first second old alike is = record {
  enough = is.enough;
  asks = subst (λ (high : ℕ). AsksForSweep old.settings.policy (record {
    live = (usage_of old.memory).live;
    quarantine = (usage_of old.memory).quarantine;
    high = high;
    waiting = length old.memory.quarantined;
  })) (sym (ap (λ (x : Totals). x.high) alike)) is.asks;
}

follows : (t : Totals) (old new : Heap) → Alike t old.totals → FollowsPolicy old new → Twin (λ (h : Heap). FollowsPolicy (re t old) h) new
follows t old new alike (inl (has_to, is)) =
    let twin = sweeps t old new alike is in
    record { totals = twin.totals; holds = inl (must t old.totals old alike has_to, twin.holds); alike = twin.alike }
follows t old new alike (inr (not, is)) =
    let twin = same t old new alike is in
    record { totals = twin.totals; holds = inr (λ has_to. not (must old.totals t old (sym alike) has_to), twin.holds); alike = twin.alike }

frees : (t : Totals) (old new : Heap) (id : ℕ) → Alike t old.totals → FreesInHeap old id new → Twin (λ (h : Heap). FreesInHeap (re t old) id h) new
frees t old new id alike freed =
    let first = frees_object t old freed.freed id freed.object alike freed.frees in
    let twin = follows first.totals freed.freed new first.alike freed.follows in
    record {
      totals = twin.totals;
      holds = record {
        object = freed.object;
        is_live = freed.is_live;
        freed = re first.totals freed.freed;
        frees = first.holds;
        follows = twin.holds;
      };
      alike = twin.alike;
    }

frees_if_live : (t : Totals) (old new : Heap) (id : ℕ) (is_live : Bool) → Alike t old.totals → FreesIfLive old id is_live new
    → Twin (λ (h : Heap). FreesIfLive (re t old) id is_live h) new
frees_if_live t old new id true alike freed =
    let twin = frees t old new id alike freed in record { totals = twin.totals; holds = twin.holds; alike = twin.alike }
frees_if_live t old new id false alike (none, is) =
    let twin = same t old new alike is in record { totals = twin.totals; holds = (none, twin.holds); alike = twin.alike }

attempts : (t : Totals) (old new : Heap) (id requested size : ℕ) (making : Making) → Alike t old.totals → Attempts old id requested size making new
    → Twin (λ (h : Heap). Attempts (re t old) id requested size making h) new
attempts t old new id requested size Made alike made =
    let twin = makes t old new id requested size alike made in record { totals = twin.totals; holds = twin.holds; alike = twin.alike }
attempts t old new id requested size NoRoom alike (few, none, is) =
    let twin = same t old new alike is in record { totals = twin.totals; holds = (few, none, twin.holds); alike = twin.alike }
attempts t old new id requested size Full alike (many, is) =
    let twin = same t old new alike is in record { totals = twin.totals; holds = (many, twin.holds); alike = twin.alike }

tries : (t : Totals) (old new : Heap) (id requested size : ℕ) (making : Making) → Alike t old.totals → Tries old id requested size making new
    → Twin (λ (h : Heap). Tries (re t old) id requested size making h) new
unfolding sweeps
tries t old new id requested size making alike (inl (is, made)) =
    let twin = makes t old new id requested size alike made in record { totals = twin.totals; holds = inl (is, twin.holds); alike = twin.alike }
tries t old new id requested size making alike (inr (none, again)) =
    let first = sweeps t old (swept_heap old) alike refl in
    let twin = attempts first.totals (swept_heap old) new id requested size making first.alike again in
    record { totals = twin.totals; holds = inr (none, twin.holds); alike = twin.alike }

allocates : (t : Totals) (old new : Heap) (id requested size : ℕ) (outcome : Outcome) → Alike t old.totals → AllocatesInHeap old id requested size outcome new
    → Twin (λ (h : Heap). AllocatesInHeap (re t old) id requested size outcome h) new
allocates t old new id requested size outcome alike is =
    let first = frees_if_live t old is.cleared id is.was_live alike is.clears in
    let twin = tries first.totals is.cleared new id requested size is.making first.alike is.tries in
    record {
      totals = twin.totals;
      holds = record {
        was_live = is.was_live;
        cleared = re first.totals is.cleared;
        clears = first.holds;
        making = is.making;
        tries = twin.holds;
        is_told = is.is_told;
      };
      alike = twin.alike;
    }

replaces : (t : Totals) (old new : Heap) (id size : ℕ) → Alike t old.totals → Replaces old id size new
    → Twin (λ (h : Heap). Replaces (re t old) id size h) new
replaces t old new id size alike is =
    let first = makes t old is.made id 1 size alike is.makes in
    let twin = frees_object first.totals is.made new id is.before first.alike is.frees in
    record {
      totals = twin.totals;
      holds = record {
        before = is.before;
        is_live = is.is_live;
        made = re first.totals is.made;
        makes = first.holds;
        frees = twin.holds;
      };
      alike = twin.alike;
    }

attempts_to_replace : (t : Totals) (old new : Heap) (id size : ℕ) (making : Making) → Alike t old.totals
    → AttemptsToReplace old id size making new → Twin (λ (h : Heap). AttemptsToReplace (re t old) id size making h) new
attempts_to_replace t old new id size Made alike is =
    let twin = replaces t old new id size alike is in record { totals = twin.totals; holds = twin.holds; alike = twin.alike }
attempts_to_replace t old new id size NoRoom alike is =
    let twin = attempts t old new id 1 size NoRoom alike is in record { totals = twin.totals; holds = twin.holds; alike = twin.alike }
attempts_to_replace t old new id size Full alike is =
    let twin = attempts t old new id 1 size Full alike is in record { totals = twin.totals; holds = twin.holds; alike = twin.alike }

tries_to_replace : (t : Totals) (old new : Heap) (id size : ℕ) (making : Making) → Alike t old.totals
    → TriesToReplace old id size making new → Twin (λ (h : Heap). TriesToReplace (re t old) id size making h) new
unfolding sweeps
tries_to_replace t old new id size making alike (inl (is, replaced)) =
    let twin = replaces t old new id size alike replaced in record { totals = twin.totals; holds = inl (is, twin.holds); alike = twin.alike }
tries_to_replace t old new id size making alike (inr (none, again)) =
    let first = sweeps t old (swept_heap old) alike refl in
    let twin = attempts_to_replace first.totals (swept_heap old) new id size making first.alike again in
    record { totals = twin.totals; holds = inr (none, twin.holds); alike = twin.alike }

follows_replacing : (t : Totals) (old new : Heap) (id : ℕ) (making : Making) → Alike t old.totals → FollowsReplacing old id making new
    → Twin (λ (h : Heap). FollowsReplacing (re t old) id making h) new
follows_replacing t old new id Made alike is =
    let twin = follows t old new alike is in record { totals = twin.totals; holds = twin.holds; alike = twin.alike }
follows_replacing t old new id NoRoom alike is =
    let twin = frees t old new id alike is in record { totals = twin.totals; holds = twin.holds; alike = twin.alike }
follows_replacing t old new id Full alike is =
    let twin = frees t old new id alike is in record { totals = twin.totals; holds = twin.holds; alike = twin.alike }

replaces_live : (t : Totals) (old new : Heap) (id size : ℕ) (outcome : Outcome) → Alike t old.totals
    → ReplacesLive old id size outcome new → Twin (λ (h : Heap). ReplacesLive (re t old) id size outcome h) new
replaces_live t old new id size outcome alike is =
    let first = tries_to_replace t old is.tried id size is.making alike is.tries in
    let twin = follows_replacing first.totals is.tried new id is.making first.alike is.follows in
    record {
      totals = twin.totals;
      holds = record {
        making = is.making;
        tried = re first.totals is.tried;
        tries = first.holds;
        follows = twin.holds;
        is_told = is.is_told;
      };
      alike = twin.alike;
    }

remakes : (t : Totals) (old new : Heap) (from to size : ℕ) (outcome : Outcome) → Alike t old.totals
    → Remakes old from to size outcome new → Twin (λ (h : Heap). Remakes (re t old) from to size outcome h) new
remakes t old new from to size outcome alike (inl (none, is)) =
    let twin = allocates t old new to 1 size is.told alike is.allocates in
    record {
      totals = twin.totals;
      holds = inl (none, record { told = is.told; allocates = twin.holds; is_told = is.is_told });
      alike = twin.alike;
    }
remakes t old new from to size outcome alike (inr (live, inl (one, is))) =
    let twin = replaces_live t old new to size outcome alike is in
    record { totals = twin.totals; holds = inr (live, inl (one, twin.holds)); alike = twin.alike }
remakes t old new from to size outcome alike (inr (live, inr (two, is))) =
    let first = allocates t old is.made to 1 size outcome alike is.allocates in
    let twin = frees first.totals is.made new from first.alike is.frees in
    record {
      totals = twin.totals;
      holds = inr (live, inr (two, record { made = re first.totals is.made; allocates = first.holds; frees = twin.holds }));
      alike = twin.alike;
    }

clears_other : (t : Totals) (old new : Heap) (from to : ℕ) (was_live : Bool) → Alike t old.totals → ClearsOther old from to was_live new
    → Twin (λ (h : Heap). ClearsOther (re t old) from to was_live h) new
clears_other t old new from to was_live alike (inl (one, none, is)) =
    let twin = same t old new alike is in record { totals = twin.totals; holds = inl (one, none, twin.holds); alike = twin.alike }
clears_other t old new from to was_live alike (inr (two, freed)) =
    let twin = frees_if_live t old new to was_live alike freed in record { totals = twin.totals; holds = inr (two, twin.holds); alike = twin.alike }

keeps_place : (t : Totals) (old new : Heap) (from to : ℕ) (object : Object) (size : ℕ) (outcome : Outcome) → Alike t old.totals
    → KeepsPlace old from to object size outcome new → Twin (λ (h : Heap). KeepsPlace (re t old) from to object size outcome h) new
keeps_place t old new from to object size outcome alike is =
    let first = clears_other t old is.cleared from to is.was_live alike is.clears in
    let twin = keeps_object first.totals is.cleared new from to object 1 size first.alike is.keeps in
    record {
      totals = twin.totals;
      holds = record {
        was_live = is.was_live;
        cleared = re first.totals is.cleared;
        clears = first.holds;
        keeps = twin.holds;
        is_told = is.is_told;
      };
      alike = twin.alike;
    }

reallocates : (t : Totals) (old new : Heap) (from to size : ℕ) (outcome : Outcome) → Alike t old.totals
    → Reallocates old from to size outcome new → Twin (λ (h : Heap). Reallocates (re t old) from to size outcome h) new
reallocates t old new from to size outcome alike is = by (kept_object old from size) is
  where
    by : (kept : Option Object) → MatchOption kept (Remakes old from to size outcome new)
        (λ object. KeepsPlace old from to object size outcome new)
        → Twin (λ (h : Heap). MatchOption kept (Remakes (re t old) from to size outcome h)
        (λ object. KeepsPlace (re t old) from to object size outcome h)) new
    by None is =
        let twin = remakes t old new from to size outcome alike is in record { totals = twin.totals; holds = twin.holds; alike = twin.alike }
    by (Some object) is =
        let twin = keeps_place t old new from to object size outcome alike is in
        record { totals = twin.totals; holds = twin.holds; alike = twin.alike }

asked : (t : Totals) (old new : Heap) (of_trace : Bool) → Alike t old.totals → new ≡ (if of_trace then swept_heap old else old)
    → Twin (λ (h : Heap). h ≡ (if of_trace then swept_heap (re t old) else re t old)) new
asked t old new true alike is = sweeps t old new alike is
asked t old new false alike is = same t old new alike is

event_ignores : (t : Totals) (old new : Heap) (event : Event) (outcome : Outcome) → Alike t old.totals → IsEvent old event outcome new
    → Twin (λ (h : Heap). IsEvent (re t old) event outcome h) new
event_ignores t old new (Allocate id size align) outcome alike is = allocates t old new id align (max size 1) outcome alike is
event_ignores t old new (Clear id size) outcome alike is = allocates t old new id 1 (max size 1) outcome alike is
event_ignores t old new (Reallocate from to size) outcome alike is = reallocates t old new from to (max size 1) outcome alike is
event_ignores t old new (Free id) outcome alike is =
    let twin = frees_if_live t old new id is.is_live alike is.frees in
    record {
      totals = twin.totals;
      holds = record { is_live = is.is_live; frees = twin.holds; is_told = is.is_told };
      alike = twin.alike;
    }
event_ignores t old new Sweep outcome alike (is, told) =
    let twin = asked t old new (is_of_the_trace old.settings.policy) alike is in
    record { totals = twin.totals; holds = (twin.holds, told); alike = twin.alike }
event_ignores t old new (Clock time) outcome alike (is, told) =
    let twin = same t old new alike is in record { totals = twin.totals; holds = (twin.holds, told); alike = twin.alike }

pub ignores_peaks : (old : Heap) (event : Event) (outcome : Outcome) (new : Heap) → IsEvent old event outcome new → IgnoresPeaks old event outcome new
ignores_peaks old event outcome new is =
    let twin = event_ignores (totals_without_peaks old.totals) old new event outcome refl is in
    record {
      other = re twin.totals new;
      happens = twin.holds;
      alike = λ i. record { settings = new.settings; memory = new.memory; totals = twin.alike i };
    }
