-- Every event is a number of changes, and the totals count the states after each.
use Rattle.std.proofs.Common.{ℕ, max, min, Bool, true, false, ◌≡◌, ◌⊎◌, ◌+◌, ◌-◌, ◌≤◌, ◌^◌, if◌then◌else◌, List, [], ◌∷◌, ◌++◌, Option, Some, None, sum_by, arith, refl, subst, ◌∙◌, sym, ap, inl, inr}
use Rattle.std.specs.Option.{MatchOption}
use Rattle.std.proofs.lemmas.List.Sums.{sum_by-cons}
use Rattle.cc_bounds.specs.declared.span.Span.{Span}
use Rattle.cc_bounds.specs.Span.{length_of}
use Rattle.cc_heap.specs.declared.event.Event.{Event}
use Rattle.cc_heap.specs.declared.event.Event.TheVariants.{Allocate, Clear, Reallocate, Free, Sweep, Clock}
use Rattle.cc_heap.specs.declared.making.Making.{Making}
use Rattle.cc_heap.specs.declared.making.Making.TheVariants.{Made, NoRoom, Full}
use Rattle.cc_heap.specs.declared.object.Object.{Object}
use Rattle.cc_heap.specs.declared.outcome.Outcome.{Outcome}
use Rattle.cc_heap.specs.declared.settings.Settings.{Settings}
use Rattle.cc_heap.specs.declared.totals.Totals.{Totals}
use Rattle.cc_heap.specs.declared.usage.Usage.{Usage}
use Rattle.cc_heap.specs.Totals.{inexact_of, with_made, with_sweep, with_usage}
use Rattle.cc_heap.specs.Memory.{memory_object, usage_of}
use Rattle.cc_heap.specs.Policy.{is_of_the_trace}
use Rattle.cc_heap.specs.Heap.{Attempts, FreesHeapObject, Heap, KeepsHeapObject, MakesHeapObject, empty_heap, kept_object, swept_heap}
use Rattle.cc_heap.specs.Events.{AllocatesInHeap, AttemptsToReplace, ClearsOther, FollowsPolicy, FollowsReplacing, FreesInHeap}
use Rattle.cc_heap.specs.Events.{FreesIfLive, IsEvent, KeepsPlace, Reallocates, Remakes, Replaces, ReplacesLive}
use Rattle.cc_heap.specs.Events.{Tries, TriesToReplace}
use Rattle.cc_heap.specs.Run.{ArePassedBy, HasTotals, IsFreeing, IsKeeping, IsMaking, IsSweeping, Moment, PassesEvent, Runs, greatest, of_made, of_swept, totals_after, usage_in}

-- ---- the changes that an event is

-- some states lie between two heaps
pub record HasHistory (old new : Heap) : Type 0 where
  pub moments : List Moment
  pub passes : PassesEvent old moments new

pub joined : (old between new : Heap) (moments others : List Moment) → PassesEvent old moments between
    → PassesEvent between others new → PassesEvent old (moments ++ others) new
joined old between new [] others same rest = subst (λ (h : Heap). PassesEvent h others new) same rest
joined old between new (moment ∷ moments) others (next, change, passes) rest =
    (next, change, joined next between new moments others passes rest)

follow : (old between new : Heap) → HasHistory old between → HasHistory between new → HasHistory old new
follow old between new first other = record {
  moments = first.moments ++ other.moments;
  passes = joined old between new first.moments other.moments first.passes other.passes;
}

same : (old new : Heap) → new ≡ old → HasHistory old new
same old new is = record { moments = []; passes = is }

makes : (old new : Heap) (id requested size : ℕ) → MakesHeapObject old id requested size new → HasHistory old new
makes old new id requested size made = record {
  moments = record {
    memory = new.memory;
    made = Some (memory_object old.settings.align requested made.start size);
    swept = None;
  } ∷ [];
  passes = (new, inl (record { id = id; requested = requested; size = size; makes = made; is = refl }), refl);
}

frees_object : (old new : Heap) (id : ℕ) (object : Object) → FreesHeapObject old id object new → HasHistory old new
frees_object old new id object freed = record {
  moments = record { memory = new.memory; made = None; swept = None } ∷ [];
  passes = (new, inr (inl (record { id = id; object = object; frees = freed; is = refl })), refl);
}

sweeps : (old new : Heap) → new ≡ swept_heap old → HasHistory old new
sweeps old new is = record {
  moments = record { memory = new.memory; made = None; swept = Some (usage_of old.memory).quarantine } ∷ [];
  passes = (new, inr (inr (inl (record { sweeps = is; is = refl }))), refl);
}

follows : (old new : Heap) → FollowsPolicy old new → HasHistory old new
follows old new (inl (must, is)) = sweeps old new is
follows old new (inr (not, is)) = same old new is

frees : (old new : Heap) (id : ℕ) → FreesInHeap old id new → HasHistory old new
frees old new id freed =
    follow old freed.freed new (frees_object old freed.freed id freed.object freed.frees)
    (follows freed.freed new freed.follows)

frees_if_live : (old new : Heap) (id : ℕ) (is_live : Bool) → FreesIfLive old id is_live new → HasHistory old new
frees_if_live old new id true freed = frees old new id freed
frees_if_live old new id false (none, is) = same old new is

attempts : (old new : Heap) (id requested size : ℕ) (making : Making) → Attempts old id requested size making new
    → HasHistory old new
attempts old new id requested size Made made = makes old new id requested size made
attempts old new id requested size NoRoom (few, none, is) = same old new is
attempts old new id requested size Full (many, is) = same old new is

tries : (old new : Heap) (id requested size : ℕ) (making : Making) → Tries old id requested size making new
    → HasHistory old new
tries old new id requested size making (inl (is, made)) = makes old new id requested size made
tries old new id requested size making (inr (none, again)) =
    follow old (swept_heap old) new (sweeps old (swept_heap old) refl) (attempts (swept_heap old) new id requested size making again)

allocates : (old new : Heap) (id requested size : ℕ) (outcome : Outcome) → AllocatesInHeap old id requested size outcome new
    → HasHistory old new
allocates old new id requested size outcome is =
    follow old is.cleared new (frees_if_live old is.cleared id is.was_live is.clears)
    (tries is.cleared new id requested size is.making is.tries)

replaces : (old new : Heap) (id size : ℕ) → Replaces old id size new → HasHistory old new
replaces old new id size is =
    follow old is.made new (makes old is.made id 1 size is.makes)
    (frees_object is.made new id is.before is.frees)

attempts_to_replace : (old new : Heap) (id size : ℕ) (making : Making) → AttemptsToReplace old id size making new → HasHistory old new
attempts_to_replace old new id size Made is = replaces old new id size is
attempts_to_replace old new id size NoRoom (few, none, is) = same old new is
attempts_to_replace old new id size Full (many, is) = same old new is

tries_to_replace : (old new : Heap) (id size : ℕ) (making : Making) → TriesToReplace old id size making new → HasHistory old new
tries_to_replace old new id size making (inl (is, replaced)) = replaces old new id size replaced
tries_to_replace old new id size making (inr (none, again)) =
    follow old (swept_heap old) new (sweeps old (swept_heap old) refl)
    (attempts_to_replace (swept_heap old) new id size making again)

follows_replacing : (old new : Heap) (id : ℕ) (making : Making) → FollowsReplacing old id making new
    → HasHistory old new
follows_replacing old new id Made is = follows old new is
follows_replacing old new id NoRoom is = frees old new id is
follows_replacing old new id Full is = frees old new id is

replaces_live : (old new : Heap) (id size : ℕ) (outcome : Outcome) → ReplacesLive old id size outcome new → HasHistory old new
replaces_live old new id size outcome is =
    follow old is.tried new (tries_to_replace old is.tried id size is.making is.tries)
    (follows_replacing is.tried new id is.making is.follows)

remakes : (old new : Heap) (from to size : ℕ) (outcome : Outcome) → Remakes old from to size outcome new → HasHistory old new
remakes old new from to size outcome (inl (none, is)) = allocates old new to 1 size is.told is.allocates
remakes old new from to size outcome (inr (live, inl (one, is))) = replaces_live old new to size outcome is
remakes old new from to size outcome (inr (live, inr (two, is))) =
    follow old is.made new (allocates old is.made to 1 size outcome is.allocates)
    (frees is.made new from is.frees)

keeps_object : (old new : Heap) (from to : ℕ) (before : Object) (requested size : ℕ)
    → KeepsHeapObject old from to before requested size new → HasHistory old new
keeps_object old new from to before requested size kept = record {
  moments = record { memory = new.memory; made = None; swept = None } ∷ [];
  passes = (
    new,
    inr (inr (inr (record { from = from; to = to; before = before; requested = requested; size = size; keeps = kept; is = refl }))),
    refl,
  );
}

clears_other : (old new : Heap) (from to : ℕ) (was_live : Bool) → ClearsOther old from to was_live new → HasHistory old new
clears_other old new from to was_live (inl (one, none, is)) = same old new is
clears_other old new from to was_live (inr (two, freed)) = frees_if_live old new to was_live freed

keeps_place : (old new : Heap) (from to : ℕ) (object : Object) (size : ℕ) (outcome : Outcome)
    → KeepsPlace old from to object size outcome new → HasHistory old new
keeps_place old new from to object size outcome is =
    follow old is.cleared new (clears_other old is.cleared from to is.was_live is.clears)
    (keeps_object is.cleared new from to object 1 size is.keeps)

reallocates : (old new : Heap) (from to size : ℕ) (outcome : Outcome) → Reallocates old from to size outcome new → HasHistory old new
reallocates old new from to size outcome is = by (kept_object old from size) is
  where
    by : (kept : Option Object) → MatchOption kept (Remakes old from to size outcome new)
        (λ object. KeepsPlace old from to object size outcome new) → HasHistory old new
    by None is = remakes old new from to size outcome is
    by (Some object) is = keeps_place old new from to object size outcome is

asked : (old new : Heap) (of_trace : Bool) → new ≡ (if of_trace then swept_heap old else old) → HasHistory old new
asked old new true is = sweeps old new is
asked old new false is = same old new is

pub event : (old new : Heap) (event : Event) (outcome : Outcome) → IsEvent old event outcome new → HasHistory old new
event old new (Allocate id size align) outcome is = allocates old new id align (max size 1) outcome is
event old new (Clear id size) outcome is = allocates old new id 1 (max size 1) outcome is
event old new (Reallocate from to size) outcome is = reallocates old new from to (max size 1) outcome is
event old new (Free id) outcome is = frees_if_live old new id is.is_live is.frees
event old new Sweep outcome (is, told) = asked old new (is_of_the_trace old.settings.policy) is
event old new (Clock time) outcome (is, told) = same old new is

-- the states that events pass
record HasPassed (old : Heap) (events : List Event) (new : Heap) : Type 0 where
  moments : List Moment
  passes : PassesEvent old moments new
  passed : ArePassedBy old events moments new

runs : (old new : Heap) (events : List Event) → Runs old events new → HasPassed old events new
runs old new [] is = record { moments = []; passes = is; passed = (refl, is) }
runs old new (first ∷ events) (outcome, next, is, rest) =
    let mine = event old next first outcome is in
    let others = runs next new events rest in
    record {
      moments = mine.moments ++ others.moments;
      passes = joined old next new mine.moments others.moments mine.passes others.passes;
      passed = (mine.moments, others.moments, outcome, next, refl, is, mine.passes, others.passed);
    }

-- ---- the totals of one state more

-- counts and sums that are capped
record IsCapped (totals : Totals) : Type 0 where
  made : totals.made ≤ 2 ^ 64 - 1
  inexact : totals.inexact ≤ 2 ^ 64 - 1
  made_asked : totals.made_asked ≤ 2 ^ 128 - 1
  made_padded : totals.made_padded ≤ 2 ^ 128 - 1
  sweeps : totals.sweeps ≤ 2 ^ 64 - 1
  swept : totals.swept ≤ 2 ^ 128 - 1
  swept_over : totals.swept_over ≤ 2 ^ 128 - 1

-- nothing more
pub capped_same : (cap number : ℕ) → number ≤ cap → number ≡ min (number + 0) cap
capped_same cap number few = omega arith

max_zero : (number : ℕ) → number ≡ max number 0
max_zero number = omega arith

-- a part and a rest
pub capped_more : (cap number part rest whole : ℕ) → whole ≡ part + rest
    → min (min (number + part) cap + rest) cap ≡ min (number + whole) cap
capped_more cap number part rest whole is = omega (arith, is)

pub max_more : (number part rest : ℕ) → max (max number part) rest ≡ max number (max part rest)
max_more number part rest = omega arith

-- the totals with one state more
abbrev after : Span → Totals → Moment → Totals
after pool totals moment = record {
  made = min (totals.made + of_made (λ object. 1) moment) (2 ^ 64 - 1);
  inexact = min (totals.inexact + of_made inexact_of moment) (2 ^ 64 - 1);
  made_asked = min (totals.made_asked + of_made (λ object. object.size) moment) (2 ^ 128 - 1);
  made_padded = min (totals.made_padded + of_made (λ object. length_of object.span) moment) (2 ^ 128 - 1);
  sweeps = min (totals.sweeps + of_swept (λ bytes. 1) moment) (2 ^ 64 - 1);
  swept = min (totals.swept + of_swept (λ bytes. bytes) moment) (2 ^ 128 - 1);
  swept_over = min (totals.swept_over + of_swept (λ bytes. (usage_in moment).live + bytes) moment) (2 ^ 128 - 1);
  peak_objects = max totals.peak_objects (usage_in moment).objects;
  peak_asked = max totals.peak_asked (usage_in moment).asked;
  peak_live = max totals.peak_live (usage_in moment).live;
  peak_quarantine = max totals.peak_quarantine (usage_in moment).quarantine;
  peak_held = max totals.peak_held ((usage_in moment).live + (usage_in moment).quarantine);
  high = max totals.high (of_made (λ object. object.span.top - pool.base) moment);
}

capped_after : (pool : Span) (totals : Totals) (moment : Moment) → IsCapped (after pool totals moment)
capped_after pool totals moment = record {
  made = omega arith;
  inexact = omega arith;
  made_asked = omega arith;
  made_padded = omega arith;
  sweeps = omega arith;
  swept = omega arith;
  swept_over = omega arith;
}

after_none : (pool : Span) (totals : Totals) → IsCapped totals → totals ≡ totals_after pool totals []
unfolding greatest
after_none pool totals capped = λ i. record {
  made = capped_same (2 ^ 64 - 1) totals.made capped.made i;
  inexact = capped_same (2 ^ 64 - 1) totals.inexact capped.inexact i;
  made_asked = capped_same (2 ^ 128 - 1) totals.made_asked capped.made_asked i;
  made_padded = capped_same (2 ^ 128 - 1) totals.made_padded capped.made_padded i;
  sweeps = capped_same (2 ^ 64 - 1) totals.sweeps capped.sweeps i;
  swept = capped_same (2 ^ 128 - 1) totals.swept capped.swept i;
  swept_over = capped_same (2 ^ 128 - 1) totals.swept_over capped.swept_over i;
  peak_objects = max_zero totals.peak_objects i;
  peak_asked = max_zero totals.peak_asked i;
  peak_live = max_zero totals.peak_live i;
  peak_quarantine = max_zero totals.peak_quarantine i;
  peak_held = max_zero totals.peak_held i;
  high = max_zero totals.high i;
}

-- a sum over a state and the others
sum_more : (cap number : ℕ) (value : Moment → ℕ) (moment : Moment) (moments : List Moment)
    → min (min (number + value moment) cap + sum_by value moments) cap
    ≡ min (number + sum_by value (moment ∷ moments)) cap
sum_more cap number value moment moments =
    capped_more cap number (value moment) (sum_by value moments) (sum_by value (moment ∷ moments))
    (sum_by-cons value moment moments)

-- the greatest of a state and the others
peak_more : (number : ℕ) (value : Moment → ℕ) (moment : Moment) (moments : List Moment)
    → max (max number (value moment)) (greatest value moments) ≡ max number (greatest value (moment ∷ moments))
unfolding greatest
peak_more number value moment moments = max_more number (value moment) (greatest value moments)

after_more : (pool : Span) (totals : Totals) (moment : Moment) (moments : List Moment)
    → totals_after pool (after pool totals moment) moments ≡ totals_after pool totals (moment ∷ moments)
after_more pool totals moment moments = λ i. record {
  made = sum_more (2 ^ 64 - 1) totals.made (of_made (λ object. 1)) moment moments i;
  inexact = sum_more (2 ^ 64 - 1) totals.inexact (of_made inexact_of) moment moments i;
  made_asked = sum_more (2 ^ 128 - 1) totals.made_asked (of_made (λ object. object.size)) moment moments i;
  made_padded = sum_more (2 ^ 128 - 1) totals.made_padded (of_made (λ object. length_of object.span)) moment moments i;
  sweeps = sum_more (2 ^ 64 - 1) totals.sweeps (of_swept (λ bytes. 1)) moment moments i;
  swept = sum_more (2 ^ 128 - 1) totals.swept (of_swept (λ bytes. bytes)) moment moments i;
  swept_over = sum_more (2 ^ 128 - 1) totals.swept_over
      (λ m. of_swept (λ bytes. (usage_in m).live + bytes) m) moment moments i;
  peak_objects = peak_more totals.peak_objects (λ m. (usage_in m).objects) moment moments i;
  peak_asked = peak_more totals.peak_asked (λ m. (usage_in m).asked) moment moments i;
  peak_live = peak_more totals.peak_live (λ m. (usage_in m).live) moment moments i;
  peak_quarantine = peak_more totals.peak_quarantine (λ m. (usage_in m).quarantine) moment moments i;
  peak_held = peak_more totals.peak_held (λ m. (usage_in m).live + (usage_in m).quarantine) moment moments i;
  high = peak_more totals.high (of_made (λ object. object.span.top - pool.base)) moment moments i;
}

-- a state in which nothing was made
after_usage : (pool : Span) (totals : Totals) (moment : Moment) → IsCapped totals → moment.made ≡ None
    → moment.swept ≡ None → with_usage totals (usage_in moment) ≡ after pool totals moment
after_usage pool totals moment capped made_is swept_is = rw (made_is, swept_is) (λ i. record {
  made = capped_same (2 ^ 64 - 1) totals.made capped.made i;
  inexact = capped_same (2 ^ 64 - 1) totals.inexact capped.inexact i;
  made_asked = capped_same (2 ^ 128 - 1) totals.made_asked capped.made_asked i;
  made_padded = capped_same (2 ^ 128 - 1) totals.made_padded capped.made_padded i;
  sweeps = capped_same (2 ^ 64 - 1) totals.sweeps capped.sweeps i;
  swept = capped_same (2 ^ 128 - 1) totals.swept capped.swept i;
  swept_over = capped_same (2 ^ 128 - 1) totals.swept_over capped.swept_over i;
  peak_objects = max totals.peak_objects (usage_in moment).objects;
  peak_asked = max totals.peak_asked (usage_in moment).asked;
  peak_live = max totals.peak_live (usage_in moment).live;
  peak_quarantine = max totals.peak_quarantine (usage_in moment).quarantine;
  peak_held = max totals.peak_held ((usage_in moment).live + (usage_in moment).quarantine);
  high = max_zero totals.high i;
})

-- one in which an object was made
after_making : (pool : Span) (totals : Totals) (moment : Moment) (object : Object) → IsCapped totals
    → moment.made ≡ Some object → moment.swept ≡ None
    → with_made totals object (object.span.top - pool.base) (usage_in moment) ≡ after pool totals moment
after_making pool totals moment object capped made_is swept_is = rw (made_is, swept_is) (λ i. record {
  made = min (totals.made + 1) (2 ^ 64 - 1);
  inexact = min (totals.inexact + inexact_of object) (2 ^ 64 - 1);
  made_asked = min (totals.made_asked + object.size) (2 ^ 128 - 1);
  made_padded = min (totals.made_padded + length_of object.span) (2 ^ 128 - 1);
  sweeps = capped_same (2 ^ 64 - 1) totals.sweeps capped.sweeps i;
  swept = capped_same (2 ^ 128 - 1) totals.swept capped.swept i;
  swept_over = capped_same (2 ^ 128 - 1) totals.swept_over capped.swept_over i;
  peak_objects = max totals.peak_objects (usage_in moment).objects;
  peak_asked = max totals.peak_asked (usage_in moment).asked;
  peak_live = max totals.peak_live (usage_in moment).live;
  peak_quarantine = max totals.peak_quarantine (usage_in moment).quarantine;
  peak_held = max totals.peak_held ((usage_in moment).live + (usage_in moment).quarantine);
  high = max totals.high (object.span.top - pool.base);
})

-- and one after a sweep
after_sweeping : (pool : Span) (totals : Totals) (moment : Moment) (bytes : ℕ) → IsCapped totals
    → moment.made ≡ None → moment.swept ≡ Some bytes
    → with_sweep totals bytes (usage_in moment) ≡ after pool totals moment
after_sweeping pool totals moment bytes capped made_is swept_is = rw (made_is, swept_is) (λ i. record {
  made = capped_same (2 ^ 64 - 1) totals.made capped.made i;
  inexact = capped_same (2 ^ 64 - 1) totals.inexact capped.inexact i;
  made_asked = capped_same (2 ^ 128 - 1) totals.made_asked capped.made_asked i;
  made_padded = capped_same (2 ^ 128 - 1) totals.made_padded capped.made_padded i;
  sweeps = min (totals.sweeps + 1) (2 ^ 64 - 1);
  swept = min (totals.swept + bytes) (2 ^ 128 - 1);
  swept_over = min (totals.swept_over + ((usage_in moment).live + bytes)) (2 ^ 128 - 1);
  peak_objects = max totals.peak_objects (usage_in moment).objects;
  peak_asked = max totals.peak_asked (usage_in moment).asked;
  peak_live = max totals.peak_live (usage_in moment).live;
  peak_quarantine = max totals.peak_quarantine (usage_in moment).quarantine;
  peak_held = max totals.peak_held ((usage_in moment).live + (usage_in moment).quarantine);
  high = max_zero totals.high i;
})

-- ---- the totals of all states

-- what a change leaves
record IsStep (old : Heap) (moment : Moment) (next : Heap) : Type 0 where
  settings : next.settings ≡ old.settings
  totals : next.totals ≡ after old.settings.pool old.totals moment

makes_step : (old : Heap) (moment : Moment) (next : Heap) → IsCapped old.totals → IsMaking old moment next
    → IsStep old moment next
makes_step old moment next capped made = record {
  settings = ap (λ (h : Heap). h.settings) made.makes.is_new;
  totals = ap (λ (h : Heap). h.totals) made.makes.is_new
      ∙ ap (λ (u : Usage). with_made old.totals
      (memory_object old.settings.align made.requested made.makes.start made.size)
      ((memory_object old.settings.align made.requested made.makes.start made.size).span.top - old.settings.pool.base) u)
      (sym (ap (λ (h : Heap). usage_of h.memory) made.makes.is_new) ∙ sym (ap usage_in made.is))
      ∙ after_making old.settings.pool old.totals moment
      (memory_object old.settings.align made.requested made.makes.start made.size) capped
      (ap (λ (m : Moment). m.made) made.is) (ap (λ (m : Moment). m.swept) made.is);
}

frees_step : (old : Heap) (moment : Moment) (next : Heap) → IsCapped old.totals → IsFreeing old moment next
    → IsStep old moment next
frees_step old moment next capped freed = record {
  settings = ap (λ (h : Heap). h.settings) freed.frees.is_new;
  totals = ap (λ (h : Heap). h.totals) freed.frees.is_new
      ∙ ap (λ (u : Usage). with_usage old.totals u)
      (sym (ap (λ (h : Heap). usage_of h.memory) freed.frees.is_new) ∙ sym (ap usage_in freed.is))
      ∙ after_usage old.settings.pool old.totals moment capped (ap (λ (m : Moment). m.made) freed.is)
      (ap (λ (m : Moment). m.swept) freed.is);
}

sweeps_step : (old : Heap) (moment : Moment) (next : Heap) → IsCapped old.totals → IsSweeping old moment next
    → IsStep old moment next
sweeps_step old moment next capped swept_is = record {
  settings = ap (λ (h : Heap). h.settings) swept_is.sweeps;
  totals = ap (λ (h : Heap). h.totals) swept_is.sweeps
      ∙ ap (λ (u : Usage). with_sweep old.totals (usage_of old.memory).quarantine u)
      (sym (ap (λ (h : Heap). usage_of h.memory) swept_is.sweeps) ∙ sym (ap usage_in swept_is.is))
      ∙ after_sweeping old.settings.pool old.totals moment (usage_of old.memory).quarantine capped
      (ap (λ (m : Moment). m.made) swept_is.is) (ap (λ (m : Moment). m.swept) swept_is.is);
}

keeps_step : (old : Heap) (moment : Moment) (next : Heap) → IsCapped old.totals → IsKeeping old moment next
    → IsStep old moment next
keeps_step old moment next capped kept = record {
  settings = ap (λ (h : Heap). h.settings) kept.keeps.is_new;
  totals = ap (λ (h : Heap). h.totals) kept.keeps.is_new
      ∙ ap (λ (u : Usage). with_usage old.totals u)
      (sym (ap (λ (h : Heap). usage_of h.memory) kept.keeps.is_new) ∙ sym (ap usage_in kept.is))
      ∙ after_usage old.settings.pool old.totals moment capped (ap (λ (m : Moment). m.made) kept.is)
      (ap (λ (m : Moment). m.swept) kept.is);
}

step : (old : Heap) (moment : Moment) (next : Heap) → IsCapped old.totals
    → IsMaking old moment next ⊎ (IsFreeing old moment next ⊎ (IsSweeping old moment next ⊎ IsKeeping old moment next)) → IsStep old moment next
step old moment next capped (inl is) = makes_step old moment next capped is
step old moment next capped (inr (inl is)) = frees_step old moment next capped is
step old moment next capped (inr (inr (inl is))) = sweeps_step old moment next capped is
step old moment next capped (inr (inr (inr is))) = keeps_step old moment next capped is

-- what all changes leave
record IsAfter (old : Heap) (moments : List Moment) (new : Heap) : Type 0 where
  settings : new.settings ≡ old.settings
  totals : new.totals ≡ totals_after old.settings.pool old.totals moments

passed : (old new : Heap) (moments : List Moment) → IsCapped old.totals → PassesEvent old moments new
    → IsAfter old moments new
passed old new [] capped is = record {
  settings = ap (λ (h : Heap). h.settings) is;
  totals = ap (λ (h : Heap). h.totals) is ∙ after_none old.settings.pool old.totals capped;
}
passed old new (moment ∷ moments) capped (next, change, rest) =
    let first = step old moment next capped change in
    let others = passed next new moments
    (subst IsCapped (sym first.totals) (capped_after old.settings.pool old.totals moment)) rest in
    record {
      settings = others.settings ∙ first.settings;
      totals = others.totals
          ∙ (λ i. totals_after (first.settings i).pool (first.totals i) moments)
          ∙ after_more old.settings.pool old.totals moment moments;
    }

-- ---- the law

pub has_totals : (settings : Settings) (events : List Event) (heap : Heap) → Runs (empty_heap settings) events heap
    → HasTotals events heap
has_totals settings events heap run =
    let history = runs (empty_heap settings) heap events run in
    let after_all = passed (empty_heap settings) heap history.moments (record {
      made = omega arith;
      inexact = omega arith;
      made_asked = omega arith;
      made_padded = omega arith;
      sweeps = omega arith;
      swept = omega arith;
      swept_over = omega arith;
    }) history.passes in
    record {
      moments = history.moments;
      passed = subst (λ (s : Settings). ArePassedBy (empty_heap s) events history.moments heap)
          (sym after_all.settings) history.passed;
      totals = subst (λ (s : Settings). heap.totals ≡ totals_after s.pool (empty_heap s).totals history.moments)
          (sym after_all.settings) after_all.totals;
    }
