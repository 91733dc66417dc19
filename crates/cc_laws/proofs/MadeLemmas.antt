-- The objects that an event makes, and the rows of their sizes over all states.
use Rattle.std.proofs.Common.{ℕ, zero, suc, min, max, Bool, true, false, ◌≡◌, ◌+◌, ◌-◌, ◌<◌, ◌≤◌, ◌^◌, nat_eq, if◌then◌else◌, List, [], ◌∷◌, ◌++◌, Option, Some, None, get_or, length}
use Rattle.std.proofs.Common.{sum_by, arith, refl, subst, ◌∙◌, sym, ap, inl, inr}
use Rattle.std.specs.Option.{MatchOption}
use Rattle.std.proofs.lemmas.List.{get_or-replicate, length-replicate}
use Rattle.std.proofs.lemmas.List.Sums.{sum_by-append}
use Rattle.cc_bounds.specs.declared.align.Align.{Align}
use Rattle.cc_bounds.specs.Span.{length_of}
use Rattle.cc_placer.specs.Align.{padded_size_for}
use Rattle.cc_heap.specs.declared.event.Event.{Event}
use Rattle.cc_heap.specs.declared.event.Event.TheVariants.{Allocate, Clear, Reallocate, Free, Sweep, Clock}
use Rattle.cc_heap.specs.declared.making.Making.{Making}
use Rattle.cc_heap.specs.declared.making.Making.TheVariants.{Made, NoRoom, Full}
use Rattle.cc_heap.specs.declared.object.Object.{Object}
use Rattle.cc_heap.specs.declared.outcome.Outcome.{Outcome}
use Rattle.cc_heap.specs.declared.settings.Settings.{Settings}
use Rattle.cc_heap.specs.declared.sizes.SizeTotals.{SizeTotals}
use Rattle.cc_heap.specs.Totals.{inexact_of}
use Rattle.cc_heap.specs.Memory.{memory_object, usage_of}
use Rattle.cc_heap.specs.Policy.{is_of_the_trace}
use Rattle.cc_heap.specs.Heap.{Attempts, FreesHeapObject, Heap, KeepsHeapObject, MakesHeapObject, empty_heap, kept_object, swept_heap}
use Rattle.cc_heap.specs.Events.{AllocatesInHeap, AttemptsToReplace, ClearsOther, FollowsPolicy, FollowsReplacing, FreesInHeap}
use Rattle.cc_heap.specs.Events.{FreesIfLive, IsEvent, KeepsPlace, Reallocates, Remakes, Replaces, ReplacesLive}
use Rattle.cc_heap.specs.Events.{Tries, TriesToReplace}
use Rattle.cc_heap.specs.Run.{ArePassedBy, Moment, PassesEvent}
use Rattle.cc_heap.specs.Sizes.{is_of_power, made_size, no_objects, no_sizes, of_size, sizes_after, with_made_size, with_sized_object, with_size}
use Rattle.cc_heap.specs.Lost.{HasSizes, RunState, RunsNoting, empty_run}
use Rattle.cc_laws.proofs.HistoryLemmas.{capped_more, capped_same, joined}

-- ---- one row

record IsCappedRow (totals : SizeTotals) : Type 0 where
  made : totals.made ≤ 2 ^ 64 - 1
  inexact : totals.inexact ≤ 2 ^ 64 - 1
  asked : totals.asked ≤ 2 ^ 128 - 1
  padded : totals.padded ≤ 2 ^ 128 - 1

capped_row : (power : ℕ) (totals : SizeTotals) (moments : List Moment) → IsCappedRow (sizes_after power totals moments)
capped_row power totals moments = record { made = omega arith; inexact = omega arith; asked = omega arith; padded = omega arith }

-- the states after others
rows_joined : (power : ℕ) (totals : SizeTotals) (moments others : List Moment)
    → sizes_after power (sizes_after power totals moments) others ≡ sizes_after power totals (moments ++ others)
rows_joined power totals moments others = λ i. record {
  made = capped_more (2 ^ 64 - 1) totals.made (sum_by (of_size power (λ object. 1)) moments) (sum_by (of_size power (λ object. 1)) others)
      (sum_by (of_size power (λ object. 1)) (moments ++ others)) (sum_by-append (of_size power (λ object. 1)) moments others) i;
  inexact = capped_more (2 ^ 64 - 1) totals.inexact (sum_by (of_size power inexact_of) moments) (sum_by (of_size power inexact_of) others)
      (sum_by (of_size power inexact_of) (moments ++ others)) (sum_by-append (of_size power inexact_of) moments others) i;
  asked = capped_more (2 ^ 128 - 1) totals.asked (sum_by (of_size power (λ object. object.size)) moments) (sum_by (of_size power (λ object. object.size)) others)
      (sum_by (of_size power (λ object. object.size)) (moments ++ others)) (sum_by-append (of_size power (λ object. object.size)) moments others) i;
  padded = capped_more (2 ^ 128 - 1) totals.padded (sum_by (of_size power (λ object. length_of object.span)) moments)
      (sum_by (of_size power (λ object. length_of object.span)) others)
      (sum_by (of_size power (λ object. length_of object.span)) (moments ++ others))
      (sum_by-append (of_size power (λ object. length_of object.span)) moments others) i;
}

-- the row with an object, if one of its power was made
abbrev row_with : (power : ℕ) → Align → Option ℕ → SizeTotals → SizeTotals
row_with power align (Some size) totals = if is_of_power power size then with_sized_object size (padded_size_for align size) totals else totals
row_with power align None totals = totals

-- ---- the objects that a change makes

record HasMade (made : Option ℕ) (old new : Heap) : Type 0 where
  moments : List Moment
  passes : PassesEvent old moments new
  settings : new.settings ≡ old.settings
  row : (power : ℕ) (totals : SizeTotals) → IsCappedRow totals → sizes_after power totals moments ≡ row_with power old.settings.align made totals

no_moments : (power : ℕ) (totals : SizeTotals) → IsCappedRow totals → sizes_after power totals [] ≡ totals
no_moments power totals capped = λ i. record {
  made = sym (capped_same (2 ^ 64 - 1) totals.made capped.made) i;
  inexact = sym (capped_same (2 ^ 64 - 1) totals.inexact capped.inexact) i;
  asked = sym (capped_same (2 ^ 128 - 1) totals.asked capped.asked) i;
  padded = sym (capped_same (2 ^ 128 - 1) totals.padded capped.padded) i;
}

no_more : (number : ℕ) → 0 + number ≡ number
no_more number = omega arith

none_made : (power : ℕ) (moment : Moment) (totals : SizeTotals) → moment.made ≡ None → IsCappedRow totals
    → sizes_after power totals (moment ∷ []) ≡ totals
none_made power moment totals is capped = rw is (no_moments power totals capped)

one_made : (power start size padded requested : ℕ) (align : Align) (moment : Moment) (totals : SizeTotals) → padded ≡ padded_size_for align size
    → moment.made ≡ Some (memory_object align requested start size) → IsCappedRow totals
    → sizes_after power totals (moment ∷ []) ≡ row_with power align (Some size) totals
one_made power start size padded requested align moment totals padded_is is capped = rw is (by (is_of_power power size)) where
  long : start + padded_size_for align size - start ≡ padded_size_for align size
  long = omega arith

  by : (b : Bool) → record {
    made = min (totals.made + (0 + (if b then 1 else 0))) (2 ^ 64 - 1);
    inexact = min (totals.inexact + (0 + (if b then inexact_of (memory_object align requested start size) else 0))) (2 ^ 64 - 1);
    asked = min (totals.asked + (0 + (if b then size else 0))) (2 ^ 128 - 1);
    padded = min (totals.padded + (0 + (if b then start + padded_size_for align size - start else 0))) (2 ^ 128 - 1);
  } ≡ (if b then with_sized_object size (padded_size_for align size) totals else totals)
  by true = λ i. record {
    made = min (totals.made + 1) (2 ^ 64 - 1);
    inexact = min (totals.inexact
        + (no_more (if nat_eq (start + padded_size_for align size - start) size then 0 else 1) ∙ ap (λ (n : ℕ). if nat_eq n size then 0 else 1) long) i)
        (2 ^ 64 - 1);
    asked = min (totals.asked + no_more size i) (2 ^ 128 - 1);
    padded = min (totals.padded + (no_more (start + padded_size_for align size - start) ∙ long) i) (2 ^ 128 - 1);
  }
  by false = no_moments power totals capped

same : (old new : Heap) → new ≡ old → HasMade None old new
same old new is = record {
  moments = [];
  passes = is;
  settings = ap (λ (h : Heap). h.settings) is;
  row = no_moments;
}

makes : (old new : Heap) (id requested size : ℕ) → MakesHeapObject old id requested size new → HasMade (Some size) old new
makes old new id requested size made =
    let moment : Moment = record {
      memory = new.memory;
      made = Some (memory_object old.settings.align requested made.start size);
      swept = None;
    } in
    record {
      moments = moment ∷ [];
      passes = (new, inl (record { id = id; requested = requested; size = size; makes = made; is = refl }), refl);
      settings = ap (λ (h : Heap). h.settings) made.is_new;
      row = λ power totals capped.
          one_made power made.start size (padded_size_for old.settings.align size) requested old.settings.align moment totals refl refl capped;
    }

frees_object : (old new : Heap) (id : ℕ) (object : Object) → FreesHeapObject old id object new → HasMade None old new
frees_object old new id object freed =
    let moment : Moment = record { memory = new.memory; made = None; swept = None } in
    record {
      moments = moment ∷ [];
      passes = (new, inr (inl (record { id = id; object = object; frees = freed; is = refl })), refl);
      settings = ap (λ (h : Heap). h.settings) freed.is_new;
      row = λ power totals capped. none_made power moment totals refl capped;
    }

sweeps : (old new : Heap) → new ≡ swept_heap old → HasMade None old new
sweeps old new is =
    let moment : Moment = record { memory = new.memory; made = None; swept = Some (usage_of old.memory).quarantine } in
    record {
      moments = moment ∷ [];
      passes = (new, inr (inr (inl (record { sweeps = is; is = refl }))), refl);
      settings = ap (λ (h : Heap). h.settings) is;
      row = λ power totals capped. none_made power moment totals refl capped;
    }

-- a change that makes nothing, before and after another
later : (old between new : Heap) (made : Option ℕ) → HasMade None old between → HasMade made between new → HasMade made old new
later old between new made first other = record {
  moments = first.moments ++ other.moments;
  passes = joined old between new first.moments other.moments first.passes other.passes;
  settings = other.settings ∙ first.settings;
  row = λ power totals capped.
      sym (rows_joined power totals first.moments other.moments)
      ∙ ap (λ (t : SizeTotals). sizes_after power t other.moments) (first.row power totals capped)
      ∙ other.row power totals capped
      ∙ ap (λ (s : Settings). row_with power s.align made totals) first.settings;
}

before : (old between new : Heap) (made : Option ℕ) → HasMade made old between → HasMade None between new → HasMade made old new
before old between new made first other = record {
  moments = first.moments ++ other.moments;
  passes = joined old between new first.moments other.moments first.passes other.passes;
  settings = other.settings ∙ first.settings;
  row = λ power totals capped.
      sym (rows_joined power totals first.moments other.moments)
      ∙ other.row power (sizes_after power totals first.moments) (capped_row power totals first.moments)
      ∙ first.row power totals capped;
}

-- the size of the object, if it is made
abbrev made_by : Making → (size : ℕ) → Option ℕ
made_by Made size = Some size
made_by NoRoom size = None
made_by Full size = None

follows : (old new : Heap) → FollowsPolicy old new → HasMade None old new
follows old new (inl (must, is)) = sweeps old new is
follows old new (inr (not, is)) = same old new is

frees : (old new : Heap) (id : ℕ) → FreesInHeap old id new → HasMade None old new
frees old new id freed =
    later old freed.freed new None (frees_object old freed.freed id freed.object freed.frees) (follows freed.freed new freed.follows)

frees_if_live : (old new : Heap) (id : ℕ) (is_live : Bool) → FreesIfLive old id is_live new → HasMade None old new
frees_if_live old new id true freed = frees old new id freed
frees_if_live old new id false (none, is) = same old new is

attempts : (old new : Heap) (id requested size : ℕ) (making : Making) → Attempts old id requested size making new
    → HasMade (made_by making size) old new
attempts old new id requested size Made made = makes old new id requested size made
attempts old new id requested size NoRoom (few, none, is) = same old new is
attempts old new id requested size Full (many, is) = same old new is

tries : (old new : Heap) (id requested size : ℕ) (making : Making) → Tries old id requested size making new
    → HasMade (made_by making size) old new
tries old new id requested size making (inl (is, made)) =
    subst (λ (m : Making). HasMade (made_by m size) old new) (sym is) (makes old new id requested size made)
tries old new id requested size making (inr (none, again)) =
    later old (swept_heap old) new (made_by making size) (sweeps old (swept_heap old) refl) (attempts (swept_heap old) new id requested size making again)

-- the size of the object that an event makes, by what came of it
abbrev told_size : Outcome → (size : ℕ) → Option ℕ
told_size told size = by told.making where
  by : Option Making → Option ℕ
  by (Some making) = made_by making size
  by None = None

allocates : (old new : Heap) (id requested size : ℕ) (told : Outcome) → AllocatesInHeap old id requested size told new
    → HasMade (told_size told size) old new
allocates old new id requested size told is =
    subst (λ (o : Outcome). HasMade (told_size o size) old new) (sym is.is_told)
    (later old is.cleared new (made_by is.making size) (frees_if_live old is.cleared id is.was_live is.clears)
    (tries is.cleared new id requested size is.making is.tries))

replaces : (old new : Heap) (id size : ℕ) → Replaces old id size new → HasMade (Some size) old new
replaces old new id size is =
    before old is.made new (Some size) (makes old is.made id 1 size is.makes) (frees_object is.made new id is.before is.frees)

attempts_to_replace : (old new : Heap) (id size : ℕ) (making : Making)
    → AttemptsToReplace old id size making new → HasMade (made_by making size) old new
attempts_to_replace old new id size Made is = replaces old new id size is
attempts_to_replace old new id size NoRoom (few, none, is) = same old new is
attempts_to_replace old new id size Full (many, is) = same old new is

tries_to_replace : (old new : Heap) (id size : ℕ) (making : Making)
    → TriesToReplace old id size making new → HasMade (made_by making size) old new
tries_to_replace old new id size making (inl (is, replaced)) =
    subst (λ (m : Making). HasMade (made_by m size) old new) (sym is) (replaces old new id size replaced)
tries_to_replace old new id size making (inr (none, again)) =
    later old (swept_heap old) new (made_by making size) (sweeps old (swept_heap old) refl)
    (attempts_to_replace (swept_heap old) new id size making again)

follows_replacing : (old new : Heap) (id : ℕ) (making : Making) → FollowsReplacing old id making new → HasMade None old new
follows_replacing old new id Made is = follows old new is
follows_replacing old new id NoRoom is = frees old new id is
follows_replacing old new id Full is = frees old new id is

replaces_live : (old new : Heap) (id size : ℕ) (told : Outcome)
    → ReplacesLive old id size told new → HasMade (told_size told size) old new
replaces_live old new id size told is =
    subst (λ (o : Outcome). HasMade (told_size o size) old new) (sym is.is_told)
    (before old is.tried new (made_by is.making size) (tries_to_replace old is.tried id size is.making is.tries)
    (follows_replacing is.tried new id is.making is.follows))

remakes : (old new : Heap) (from to size : ℕ) (told : Outcome) → Remakes old from to size told new → HasMade (told_size told size) old new
remakes old new from to size told (inl (none, is)) =
    subst (λ (o : Outcome). HasMade (told_size o size) old new) (sym is.is_told) (allocates old new to 1 size is.told is.allocates)
remakes old new from to size told (inr (live, inl (one, is))) = replaces_live old new to size told is
remakes old new from to size told (inr (live, inr (two, is))) =
    before old is.made new (told_size told size) (allocates old is.made to 1 size told is.allocates) (frees is.made new from is.frees)

keeps_object : (old new : Heap) (from to : ℕ) (object : Object) (requested size : ℕ)
    → KeepsHeapObject old from to object requested size new → HasMade None old new
keeps_object old new from to object requested size kept =
    let moment : Moment = record { memory = new.memory; made = None; swept = None } in
    record {
      moments = moment ∷ [];
      passes = (
        new,
        inr (inr (inr (record { from = from; to = to; before = object; requested = requested; size = size; keeps = kept; is = refl }))),
        refl,
      );
      settings = ap (λ (h : Heap). h.settings) kept.is_new;
      row = λ power totals capped. none_made power moment totals refl capped;
    }

clears_other : (old new : Heap) (from to : ℕ) (was_live : Bool) → ClearsOther old from to was_live new → HasMade None old new
clears_other old new from to was_live (inl (one, none, is)) = same old new is
clears_other old new from to was_live (inr (two, freed)) = frees_if_live old new to was_live freed

keeps_place : (old new : Heap) (from to : ℕ) (object : Object) (size : ℕ) (told : Outcome)
    → KeepsPlace old from to object size told new → HasMade (told_size told size) old new
keeps_place old new from to object size told is =
    subst (λ (o : Outcome). HasMade (told_size o size) old new) (sym is.is_told)
    (later old is.cleared new None (clears_other old is.cleared from to is.was_live is.clears)
    (keeps_object is.cleared new from to object 1 size is.keeps))

reallocates : (old new : Heap) (from to size : ℕ) (told : Outcome)
    → Reallocates old from to size told new → HasMade (told_size told size) old new
reallocates old new from to size told is = by (kept_object old from size) is
  where
    by : (kept : Option Object) → MatchOption kept (Remakes old from to size told new)
        (λ object. KeepsPlace old from to object size told new) → HasMade (told_size told size) old new
    by None is = remakes old new from to size told is
    by (Some object) is = keeps_place old new from to object size told is

asked : (old new : Heap) (of_trace : Bool) → new ≡ (if of_trace then swept_heap old else old) → HasMade None old new
asked old new true is = sweeps old new is
asked old new false is = same old new is

-- the size of the object that an event makes
told_made : (event : Event) (told : Outcome) (size : ℕ) → ((making : Making) → made_size event (Some making) ≡ made_by making size)
    → made_size event None ≡ None → told_size told size ≡ made_size event told.making
told_made event told size some none = by told.making refl where
  by : (making : Option Making) → told.making ≡ making → told_size told size ≡ made_size event told.making
  by (Some making) is = rw is (sym (some making))
  by None is = rw is (sym none)

made_allocated : (id size align : ℕ) (making : Making) → made_size (Allocate id size align) (Some making) ≡ made_by making (max size 1)
made_allocated id size align Made = refl
made_allocated id size align NoRoom = refl
made_allocated id size align Full = refl

made_cleared : (id size : ℕ) (making : Making) → made_size (Clear id size) (Some making) ≡ made_by making (max size 1)
made_cleared id size Made = refl
made_cleared id size NoRoom = refl
made_cleared id size Full = refl

made_reallocated : (from to size : ℕ) (making : Making) → made_size (Reallocate from to size) (Some making) ≡ made_by making (max size 1)
made_reallocated from to size Made = refl
made_reallocated from to size NoRoom = refl
made_reallocated from to size Full = refl

event_made : (old new : Heap) (event : Event) (told : Outcome) → IsEvent old event told new → HasMade (made_size event told.making) old new
event_made old new (Allocate id size align) told is =
    subst (λ (m : Option ℕ). HasMade m old new) (told_made (Allocate id size align) told (max size 1) (made_allocated id size align) refl)
    (allocates old new id align (max size 1) told is)
event_made old new (Clear id size) told is =
    subst (λ (m : Option ℕ). HasMade m old new) (told_made (Clear id size) told (max size 1) (made_cleared id size) refl)
    (allocates old new id 1 (max size 1) told is)
event_made old new (Reallocate from to size) told is =
    subst (λ (m : Option ℕ). HasMade m old new) (told_made (Reallocate from to size) told (max size 1) (made_reallocated from to size) refl)
    (reallocates old new from to (max size 1) told is)
event_made old new (Free id) told is =
    subst (λ (o : Outcome). HasMade (made_size (Free id) o.making) old new) (sym is.is_told) (frees_if_live old new id is.is_live is.frees)
event_made old new Sweep told (is, told_is) =
    subst (λ (o : Outcome). HasMade (made_size Sweep o.making) old new) (sym told_is) (asked old new (is_of_the_trace old.settings.policy) is)
event_made old new (Clock time) told (is, told_is) =
    subst (λ (o : Outcome). HasMade (made_size (Clock time) o.making) old new) (sym told_is) (same old new is)

-- ---- the rows of all sizes

row_of : (power at size padded : ℕ) (rows : List SizeTotals) (d : SizeTotals) → at < length rows
    → get_or (with_size power size padded rows) at d ≡ (if is_of_power (power + at) size then with_sized_object size padded (get_or rows at d) else get_or rows at d)
row_of power at size padded [] d within = absurd (omega (arith, within))
row_of power zero size padded (row ∷ rows) d within =
    let here : power ≡ power + 0 = omega arith in
    ap (λ (p : ℕ). if is_of_power p size then with_sized_object size padded row else row) here
row_of power (suc at) size padded (row ∷ rows) d within =
    let next : power + 1 + at ≡ power + suc at = omega arith in
    row_of (power + 1) at size padded rows d (omega (arith, within))
    ∙ ap (λ (p : ℕ). if is_of_power p size then with_sized_object size padded (get_or rows at d) else get_or rows at d) next

with_size_length : (power size padded : ℕ) (rows : List SizeTotals) → length (with_size power size padded rows) ≡ length rows
with_size_length power size padded [] = refl
with_size_length power size padded (row ∷ rows) = ap suc (with_size_length (power + 1) size padded rows)

made_length : (align : Align) (made : Option ℕ) (rows : List SizeTotals) → length (with_made_size align made rows) ≡ length rows
made_length align (Some size) rows = with_size_length 0 size (padded_size_for align size) rows
made_length align None rows = refl

made_row : (power : ℕ) (align : Align) (made : Option ℕ) (rows : List SizeTotals) → power < length rows
    → get_or (with_made_size align made rows) power no_objects ≡ row_with power align made (get_or rows power no_objects)
made_row power align (Some size) rows within =
    let here : 0 + power ≡ power = omega arith in
    row_of 0 power size (padded_size_for align size) rows no_objects within
    ∙ ap (λ (p : ℕ). if is_of_power p size then with_sized_object size (padded_size_for align size) (get_or rows power no_objects) else get_or rows power no_objects) here
made_row power align None rows within = refl

-- the rows after a number of events
record HasRows (old : RunState) (events : List Event) (new : RunState) : Type 0 where
  moments : List Moment
  passed : ArePassedBy old.heap events moments new.heap
  settings : new.heap.settings ≡ old.heap.settings
  many : length new.sizes ≡ length old.sizes
  rows : (power : ℕ) → power < length old.sizes → IsCappedRow (get_or old.sizes power no_objects)
      → get_or new.sizes power no_objects ≡ sizes_after power (get_or old.sizes power no_objects) moments

rows_run : (old new : RunState) (events : List Event) → RunsNoting old events new → HasRows old events new
rows_run old new [] is = record {
  moments = [];
  passed = (refl, ap (λ (r : RunState). r.heap) is);
  settings = ap (λ (r : RunState). r.heap.settings) is;
  many = ap (λ (r : RunState). length r.sizes) is;
  rows = λ power within capped. ap (λ (r : RunState). get_or r.sizes power no_objects) is ∙ sym (no_moments power (get_or old.sizes power no_objects) capped);
}
rows_run old new (event ∷ events) (outcome, next, is, rest) =
    let first = event_made old.heap next.heap event is.told is.is_event in
    let others = rows_run next new events rest in
    let made = made_size event is.told.making in
    let longer : length next.sizes ≡ length old.sizes =
    ap (λ (rows : List SizeTotals). length rows) is.sizes ∙ made_length old.heap.settings.align made old.sizes in
    record {
      moments = first.moments ++ others.moments;
      passed = (first.moments, others.moments, is.told, next.heap, refl, is.is_event, first.passes, others.passed);
      settings = others.settings ∙ first.settings;
      many = others.many ∙ longer;
      rows = λ power within capped.
          let row_is : get_or next.sizes power no_objects ≡ sizes_after power (get_or old.sizes power no_objects) first.moments =
          ap (λ (rows : List SizeTotals). get_or rows power no_objects) is.sizes
          ∙ made_row power old.heap.settings.align made old.sizes within
          ∙ sym (first.row power (get_or old.sizes power no_objects) capped) in
          let here : IsCappedRow (get_or next.sizes power no_objects) =
          subst IsCappedRow (sym row_is) (capped_row power (get_or old.sizes power no_objects) first.moments) in
          others.rows power (omega (arith, within, longer)) here
          ∙ ap (λ (t : SizeTotals). sizes_after power t others.moments) row_is
          ∙ rows_joined power (get_or old.sizes power no_objects) first.moments others.moments;
    }

-- ---- the law

pub has_sizes : (settings : Settings) (events : List Event) (run : RunState) → RunsNoting (empty_run settings) events run → HasSizes events run
has_sizes settings events run noted =
    let all = rows_run (empty_run settings) run events noted in
    record {
      moments = all.moments;
      passed = subst (λ (s : Settings). ArePassedBy (empty_heap s) events all.moments run.heap) (sym all.settings) all.passed;
      rows = λ power below.
          let none : get_or no_sizes power no_objects ≡ no_objects = get_or-replicate 64 power no_objects no_objects below in
          all.rows power (omega (arith, length-replicate 64 no_objects, below))
          (subst IsCappedRow (sym none) (record { made = omega arith; inexact = omega arith; asked = omega arith; padded = omega arith }))
          ∙ ap (λ (t : SizeTotals). sizes_after power t all.moments) none;
    }
