-- From a heap in which each id has one object at most, every event has an outcome.
use Rattle.std.proofs.Common.{◌≡◌, ◌⊎◌, ℕ, Bool, true, false, ◌*◌, ◌<◌, ◌≤◌, length, List, ◌∷◌, nat_eq, Option, Some, None, IsSome, refl, sym, ◌∙◌, ap, subst, inl, inr, arith, sum_by}
use Rattle.std.proofs.Common.{if◌then◌else◌, cond, IsPermutation}
use Rattle.std.specs.Map.{lookup, remove_entry}
use Rattle.std.specs.Prelude.{IsNone, MatchOption, option_and_then}
use Rattle.std.proofs.Math.Decide.{ℕ_discrete, dec_lt, dec_le}
use Rattle.std.proofs.lemmas.List.Sums.{sum_by-cons}
use Rattle.std.proofs.lemmas.List.Sorted.{IsPermutation-refl, sum_by-IsPermutation}
use Rattle.cc_placer.specs.Align.{padded_size_for}
use Rattle.cc_placer.specs.Placement.{HasNoPlace}
use Rattle.cc_heap.specs.declared.event.Event.{Event}
use Rattle.cc_heap.specs.declared.event.Event.TheVariants.{Allocate, Clear, Reallocate, Free, Sweep, Clock}
use Rattle.cc_heap.specs.declared.making.Making.{Making}
use Rattle.cc_heap.specs.declared.making.Making.TheVariants.{Made, NoRoom, Full}
use Rattle.cc_heap.specs.declared.object.Object.{Object}
use Rattle.cc_heap.specs.declared.outcome.Outcome.{Outcome}
use Rattle.cc_heap.specs.declared.policy.Policy.{Policy}
use Rattle.cc_heap.specs.declared.policy.Policy.TheVariants.{Immediate, Never, Percent, Bytes, Frees as AfterFrees, Trace}
use Rattle.cc_heap.specs.Events.{AllocatesInHeap, AllocatesUnknown, AttemptsToReplace, ClearsOther, FollowsPolicy, FollowsReplacing}
use Rattle.cc_heap.specs.Events.{FreesInHeap, FreesIfLive, HasNoRoomInHeap, IsEvent, KeepsPlace, Moves}
use Rattle.cc_heap.specs.Events.{Reallocates, Remakes, Replaces, ReplacesLive, Tries, TriesToReplace, outcome_of, size_of, swept_if_asked}
use Rattle.cc_heap.specs.Heap.{Attempts, FreesHeapObject, Heap, KeepsHeapObject, MakesHeapObject, gauge_of, is_made, kept_object, object_under, resized, swept_heap}
use Rattle.cc_heap.specs.Memory.{memory_spans, memory_object, start_unit, usage_of}
use Rattle.cc_heap.specs.Policy.{AsksForSweep, Gauge, share_of}
use Rattle.cc_heap.specs.Reallocation.{can_take, is_keep}
use Rattle.cc_heap.proofs.MemoryLemmas.{found_first}
use Rattle.cc_heap.proofs.StepLemmas.{free_settings}
use Rattle.cc_laws.proofs.EntryOrderLemmas.{Entry, AreOnceIn, found_one, lookup_along, reordered}
use Rattle.cc_heap.specs.declared.settings.Settings.{Settings}
use Rattle.cc_replay.proofs.EntryLemmas.{other_key}
use Rattle.cc_laws.proofs.AlikeHeapLemmas.{IsOnceWithout, clears_without, makes_once, without_along}
use Rattle.cc_laws.proofs.SearchLemmas.{HasPlacement, placement_or_none}

-- a heap of which this is true
pub record Has (P : Heap → Type 0) : Type 0 where
  pub new : Heap
  pub is : P new

-- a result, and a heap, of which this is true
pub record Leads {X : Type 0} (P : X → Heap → Type 0) : Type 0 where
  pub result : X
  pub new : Heap
  pub is : P result new

-- ---- the changes

frees_object : (old : Heap) (id : ℕ) (object : Object) (live : List Entry) → IsPermutation old.memory.live ((id, object) ∷ live)
    → Has (FreesHeapObject old id object)
frees_object old id object live takes = record { new = _; is = record { live = live; takes = takes; is_new = refl } }

makes_or_not : (old : Heap) (id requested size : ℕ) → Has (MakesHeapObject old id requested size) ⊎ HasNoRoomInHeap old requested size
makes_or_not old id requested size =
    by_room (dec_lt (length (memory_spans old.memory)) old.settings.limit)
    (placement_or_none old.settings.pool (memory_spans old.memory) (padded_size_for old.settings.align size) (start_unit old.settings.align requested size))
  where
    by_room : Dec (length (memory_spans old.memory) < old.settings.limit)
        → HasPlacement old.settings.pool (memory_spans old.memory) (padded_size_for old.settings.align size)
        (start_unit old.settings.align requested size)
        ⊎ HasNoPlace old.settings.pool (memory_spans old.memory) (padded_size_for old.settings.align size)
        (start_unit old.settings.align requested size)
        → Has (MakesHeapObject old id requested size) ⊎ HasNoRoomInHeap old requested size
    by_room (no many) place = inr (inr (omega (arith, many)))
    by_room (yes few) (inr none) = inr (inl none)
    by_room (yes few) (inl place) = inl (record {
      new = _;
      is = record {
        start = place.start;
        live = (id, memory_object old.settings.align requested place.start size) ∷ old.memory.live;
        few = few;
        placement = place.is;
        adds = IsPermutation-refl ((id, memory_object old.settings.align requested place.start size) ∷ old.memory.live);
        is_new = refl;
      };
    })

attempts_none : (old : Heap) (id requested size : ℕ) → HasNoRoomInHeap old requested size → Dec (length (memory_spans old.memory) < old.settings.limit)
    → Leads (Attempts old id requested size)
attempts_none old id requested size (inl none) (yes few) = record { result = NoRoom; new = old; is = (few, none, refl) }
attempts_none old id requested size (inr many) (yes few) = absurd (omega (arith, few, many))
attempts_none old id requested size none (no many) = record { result = Full; new = old; is = (omega (arith, many), refl) }

attempts : (old : Heap) (id requested size : ℕ) → Leads (Attempts old id requested size)
attempts old id requested size = elim (makes_or_not old id requested size) [
  | inl made ↦ record { result = Made; new = made.new; is = made.is }
  | inr none ↦ attempts_none old id requested size none (dec_lt (length (memory_spans old.memory)) old.settings.limit)
]

tries : (old : Heap) (id requested size : ℕ) → Leads (Tries old id requested size)
tries old id requested size = elim (makes_or_not old id requested size) [
  | inl made ↦ record { result = Made; new = made.new; is = inl (refl, made.is) }
  | inr none ↦
      let again = attempts (swept_heap old) id requested size in
      record { result = again.result; new = again.new; is = inr (none, again.is) }
]

-- ---- the policy

dec-asks : (policy : Policy) (gauge : Gauge) → Dec (AsksForSweep policy gauge)
dec-asks Immediate gauge = no (λ never. never)
dec-asks Never gauge = no (λ never. never)
dec-asks (Percent percent share) gauge = dec_lt (percent * share_of share gauge) (100 * gauge.quarantine)
dec-asks (Bytes bytes) gauge = dec_le bytes gauge.quarantine
dec-asks (AfterFrees frees) gauge = dec_le frees gauge.waiting
dec-asks Trace gauge = no (λ never. never)

follows : (old : Heap) → Has (FollowsPolicy old)
follows old =
    by_test (dec_le old.settings.least_quarantine (usage_of old.memory).quarantine) (dec-asks old.settings.policy (gauge_of old))
  where
    by_test : Dec (old.settings.least_quarantine ≤ (usage_of old.memory).quarantine) → Dec (AsksForSweep old.settings.policy (gauge_of old))
        → Has (FollowsPolicy old)
    by_test (yes enough) (yes asks) = record { new = swept_heap old; is = inl (record { enough = enough; asks = asks }, refl) }
    by_test (no little) asks = record { new = old; is = inr (λ must. little must.enough, refl) }
    by_test (yes enough) (no not) = record { new = old; is = inr (λ must. not must.asks, refl) }

-- ---- a free

frees : (old : Heap) (id : ℕ) (object : Object) → object_under old id ≡ Some object → Has (FreesInHeap old id)
frees old id object found =
    let freed = frees_object old id object (remove_entry (nat_eq id) old.memory.live) (found_first id object old.memory.live found) in
    let after = follows freed.new in
    record {
      new = after.new;
      is = record { object = object; is_live = found; freed = freed.new; frees = freed.is; follows = after.is };
    }

frees_if_live : (old : Heap) (id : ℕ) → Leads (FreesIfLive old id)
frees_if_live old id = by_found (object_under old id) refl
  where
    by_found : (found : Option Object) → object_under old id ≡ found → Leads (FreesIfLive old id)
    by_found None is = record { result = false; new = old; is = (subst IsNone (sym is) refl, refl) }
    by_found (Some object) is = let freed = frees old id object is in record { result = true; new = freed.new; is = freed.is }

-- ---- an object is made

allocates : (old : Heap) (id requested size : ℕ) → Leads (AllocatesInHeap old id requested size)
allocates old id requested size =
    let cleared = frees_if_live old id in
    let tried = tries cleared.new id requested size in
    record {
      result = outcome_of cleared.result false (Some tried.result);
      new = tried.new;
      is = record {
        was_live = cleared.result;
        cleared = cleared.new;
        clears = cleared.is;
        making = tried.result;
        tries = tried.is;
        is_told = refl;
      };
    }

allocates_unknown : (old : Heap) (id size : ℕ) → Leads (AllocatesUnknown old id size)
allocates_unknown old id size =
    let made = allocates old id 1 size in
    record {
      result = record made.result { unknown = true };
      new = made.new;
      is = record { told = made.result; allocates = made.is; is_told = refl };
    }

-- ---- an object is made in place of another

-- once an object is made, the one before it is still under the id
replaces : (old : Heap) (id size : ℕ) (before : Object) → object_under old id ≡ Some before
    → Has (MakesHeapObject old id 1 size) → Has (Replaces old id size)
replaces old id size before found made =
    let makes = made.is in
    let object = memory_object old.settings.align 1 makes.start size in
    let rest = remove_entry (nat_eq id) old.memory.live in
    let takes : IsPermutation made.new.memory.live ((id, before) ∷ (id, object) ∷ rest) =
    reordered made.new.memory.live ((id, before) ∷ (id, object) ∷ rest) (λ weight. omega (
      arith,
      ap (λ (h : Heap). sum_by weight h.memory.live) makes.is_new,
      sum_by-IsPermutation weight ((id, object) ∷ old.memory.live) makes.live makes.adds,
      sum_by-cons weight (id, object) old.memory.live,
      found_one id before old.memory.live found weight,
      sum_by-cons weight (id, before) ((id, object) ∷ rest),
      sum_by-cons weight (id, object) rest,
    )) in
    let freed = frees_object made.new id before ((id, object) ∷ rest) takes in
    record {
      new = freed.new;
      is = record { before = before; is_live = found; made = made.new; makes = makes; frees = freed.is };
    }

attempts_to_replace : (old : Heap) (id size : ℕ) (before : Object) → object_under old id ≡ Some before
    → Leads (AttemptsToReplace old id size)
attempts_to_replace old id size before found = by_attempt (makes_or_not old id 1 size)
  where
    refused : Leads (Attempts old id 1 size) → HasNoRoomInHeap old 1 size → Leads (AttemptsToReplace old id size)
    refused attempt none = by_result attempt.result attempt.is
      where
        by_result : (making : Making) → Attempts old id 1 size making attempt.new → Leads (AttemptsToReplace old id size)
        by_result Made made =
            let other = replaces old id size before found (record { new = attempt.new; is = made }) in
            record { result = Made; new = other.new; is = other.is }
        by_result NoRoom is = record { result = NoRoom; new = attempt.new; is = is }
        by_result Full is = record { result = Full; new = attempt.new; is = is }

    by_attempt : Has (MakesHeapObject old id 1 size) ⊎ HasNoRoomInHeap old 1 size → Leads (AttemptsToReplace old id size)
    by_attempt (inl made) =
        let other = replaces old id size before found made in record { result = Made; new = other.new; is = other.is }
    by_attempt (inr none) = refused (attempts old id 1 size) none

tries_to_replace : (old : Heap) (id size : ℕ) (before : Object) → object_under old id ≡ Some before → Leads (TriesToReplace old id size)
tries_to_replace old id size before found = elim (makes_or_not old id 1 size) [
  | inl made ↦
      let other = replaces old id size before found made in
      record { result = Made; new = other.new; is = inl (refl, other.is) }
  | inr none ↦
      let again = attempts_to_replace (swept_heap old) id size before found in
      record { result = again.result; new = again.new; is = inr (none, again.is) }
]

-- if none is made, the object before is still under the id
still_live : (old tried : Heap) (id size : ℕ) (making : Making) → is_made making ≡ false
    → TriesToReplace old id size making tried → object_under tried id ≡ object_under old id
still_live old tried id size Made not tries = let e = not in cc
still_live old tried id size NoRoom not (inl (is, made)) = let e = is in cc
still_live old tried id size Full not (inl (is, made)) = let e = is in cc
still_live old tried id size NoRoom not (inr (none, (few, no_place, is))) = ap (λ (h : Heap). object_under h id) is
still_live old tried id size Full not (inr (none, (many, is))) = ap (λ (h : Heap). object_under h id) is

follows_replacing : (old : Heap) (id : ℕ) (object : Object) (making : Making) → (is_made making ≡ false → object_under old id ≡ Some object)
    → Has (FollowsReplacing old id making)
follows_replacing old id object Made found = let after = follows old in record { new = after.new; is = after.is }
follows_replacing old id object NoRoom found = let after = frees old id object (found refl) in record { new = after.new; is = after.is }
follows_replacing old id object Full found = let after = frees old id object (found refl) in record { new = after.new; is = after.is }

replaces_live : (old : Heap) (id size : ℕ) (before : Object) → object_under old id ≡ Some before → Leads (ReplacesLive old id size)
replaces_live old id size before found =
    let tried = tries_to_replace old id size before found in
    let after = follows_replacing tried.new id before tried.result (λ not.
    still_live old tried.new id size tried.result not tried.is ∙ found) in
    record {
      result = outcome_of false false (Some tried.result);
      new = after.new;
      is = record { making = tried.result; tried = tried.new; tries = tried.is; follows = after.is; is_told = refl };
    }

-- ---- objects under other ids stay

other_first : (id key : ℕ) (object : Object) (entries : List Entry) → (id ≡ key → ⊥)
    → lookup (nat_eq id) ((key, object) ∷ entries) ≡ lookup (nat_eq id) entries
other_first id key object entries differ =
    ap (λ (b : Bool). cond b (Some object) (lookup (nat_eq id) entries)) (other_key key id (λ same. differ (sym same)))

frees_other : (old new : Heap) (id other : ℕ) → AreOnceIn old.memory.live → (other ≡ id → ⊥) → FreesInHeap old id new
    → object_under new other ≡ object_under old other
frees_other old new id other once differ freed =
    let first = freed.frees in
    let along = lookup_along other old.memory.live ((id, freed.object) ∷ first.live) once (λ weight.
    sum_by-IsPermutation weight old.memory.live ((id, freed.object) ∷ first.live) first.takes) in
    by_policy freed.follows ∙ ap (λ (h : Heap). object_under h other) first.is_new
    ∙ sym (other_first other id freed.object first.live differ) ∙ along
  where
    by_policy : FollowsPolicy freed.freed new → object_under new other ≡ object_under freed.freed other
    by_policy (inl (must, is)) = ap (λ (h : Heap). object_under h other) is
    by_policy (inr (not, is)) = ap (λ (h : Heap). object_under h other) is

clears_other_id : (old new : Heap) (id other : ℕ) (was_live : Bool) → AreOnceIn old.memory.live → (other ≡ id → ⊥) → FreesIfLive old id was_live new
    → object_under new other ≡ object_under old other
clears_other_id old new id other true once differ freed = frees_other old new id other once differ freed
clears_other_id old new id other false once differ (none, is) = ap (λ (h : Heap). object_under h other) is

makes_other : (old new : Heap) (id other requested size : ℕ) → IsOnceWithout id old → (other ≡ id → ⊥) → MakesHeapObject old id requested size new
    → object_under new other ≡ object_under old other
makes_other old new id other requested size without differ made =
    let object = memory_object old.settings.align requested made.start size in
    let once : AreOnceIn made.live = subst (λ (h : Heap). AreOnceIn h.memory.live) made.is_new (makes_once old new id requested size without made) in
    let along = lookup_along other made.live ((id, object) ∷ old.memory.live) once (λ weight.
    sym (sum_by-IsPermutation weight ((id, object) ∷ old.memory.live) made.live made.adds)) in
    ap (λ (h : Heap). object_under h other) made.is_new ∙ sym along ∙ other_first other id object old.memory.live differ

attempts_other : (old new : Heap) (id other requested size : ℕ) (making : Making) → IsOnceWithout id old → (other ≡ id → ⊥)
    → Attempts old id requested size making new → object_under new other ≡ object_under old other
attempts_other old new id other requested size Made without differ made = makes_other old new id other requested size without differ made
attempts_other old new id other requested size NoRoom without differ (few, none, is) = ap (λ (h : Heap). object_under h other) is
attempts_other old new id other requested size Full without differ (many, is) = ap (λ (h : Heap). object_under h other) is

tries_other : (old new : Heap) (id other requested size : ℕ) (making : Making) → IsOnceWithout id old → (other ≡ id → ⊥)
    → Tries old id requested size making new → object_under new other ≡ object_under old other
tries_other old new id other requested size making without differ (inl (is, made)) =
    makes_other old new id other requested size without differ made
tries_other old new id other requested size making without differ (inr (none, again)) =
    attempts_other (swept_heap old) new id other requested size making (without_along id old (swept_heap old) (λ weight. refl) without) differ again

allocates_other : (old new : Heap) (id other requested size : ℕ) (outcome : Outcome) → AreOnceIn old.memory.live → (other ≡ id → ⊥)
    → AllocatesInHeap old id requested size outcome new → object_under new other ≡ object_under old other
allocates_other old new id other requested size outcome once differ made =
    let without = clears_without old made.cleared id made.was_live once made.clears in
    tries_other made.cleared new id other requested size made.making without differ made.tries
    ∙ clears_other_id old made.cleared id other made.was_live once differ made.clears

moves : (old : Heap) (from to size : ℕ) (object : Object) → AreOnceIn old.memory.live → (from ≡ to → ⊥)
    → object_under old from ≡ Some object → Leads (Moves old from to size)
moves old from to size object once differ found =
    let made = allocates old to 1 size in
    let freed = frees made.new from object (allocates_other old made.new to from 1 size made.result once differ made.is ∙ found) in
    record { result = made.result; new = freed.new; is = record { made = made.new; allocates = made.is; frees = freed.is } }

remakes : (old : Heap) (from to size : ℕ) → AreOnceIn old.memory.live → Leads (Remakes old from to size)
remakes old from to size once = by_found (object_under old from) refl (ℕ_discrete from to)
  where
    by_found : (found : Option Object) → object_under old from ≡ found → Dec (from ≡ to) → Leads (Remakes old from to size)
    by_found None is same =
        let made = allocates_unknown old to size in
        record { result = made.result; new = made.new; is = inl (subst IsNone (sym is) refl, made.is) }
    by_found (Some object) is (yes same) =
        let made = replaces_live old to size object (subst (λ (n : ℕ). object_under old n ≡ Some object) same is) in
        record { result = made.result; new = made.new; is = inr (subst IsSome (sym is) refl, inl (same, made.is)) }
    by_found (Some object) is (no differ) =
        let made = moves old from to size object once differ is in
        record { result = made.result; new = made.new; is = inr (subst IsSome (sym is) refl, inr (differ, made.is)) }

-- ---- an object keeps its place

clears_other : (old : Heap) (from to : ℕ) → Dec (from ≡ to) → Leads (ClearsOther old from to)
clears_other old from to (yes same) = record { result = false; new = old; is = inl (same, refl, refl) }
clears_other old from to (no differ) =
    let freed = frees_if_live old to in record { result = freed.result; new = freed.new; is = inr (differ, freed.is) }

cleared_under : (old new : Heap) (from to : ℕ) (was_live : Bool) → AreOnceIn old.memory.live → ClearsOther old from to was_live new
    → object_under new from ≡ object_under old from
cleared_under old new from to was_live once (inl (same, not, is)) = ap (λ (h : Heap). object_under h from) is
cleared_under old new from to was_live once (inr (differ, freed)) = clears_other_id old new to from was_live once differ freed

cleared_settings : (old new : Heap) (from to : ℕ) (was_live : Bool) → ClearsOther old from to was_live new → new.settings ≡ old.settings
cleared_settings old new from to was_live (inl (same, not, is)) = ap (λ (h : Heap). h.settings) is
cleared_settings old new from to was_live (inr (differ, freed)) = free_settings old new to was_live freed

keeps_object : (old : Heap) (from to : ℕ) (object : Object) (requested size : ℕ) → object_under old from ≡ Some object
    → can_take old.settings.align requested size object.span ≡ true → Has (KeepsHeapObject old from to object requested size)
keeps_object old from to object requested size found fits =
    let rest = remove_entry (nat_eq from) old.memory.live in
    let other = resized object requested size in
    record {
      new = _;
      is = record {
        is_live = found;
        fits = fits;
        live = (to, other) ∷ rest;
        swaps = reordered ((to, other) ∷ old.memory.live) ((from, object) ∷ (to, other) ∷ rest) (λ weight. omega (
          arith,
          found_one from object old.memory.live found weight,
          sum_by-cons weight (to, other) old.memory.live,
          sum_by-cons weight (from, object) ((to, other) ∷ rest),
          sum_by-cons weight (to, other) rest,
        ));
        is_new = refl;
      };
    }

keeps_place : (old : Heap) (from to : ℕ) (object : Object) (size : ℕ) → AreOnceIn old.memory.live → object_under old from ≡ Some object
    → can_take old.settings.align 1 size object.span ≡ true → Leads (KeepsPlace old from to object size)
keeps_place old from to object size once found fits =
    let cleared = clears_other old from to (ℕ_discrete from to) in
    let settings = cleared_settings old cleared.new from to cleared.result cleared.is in
    let kept = keeps_object cleared.new from to object 1 size (cleared_under old cleared.new from to cleared.result once cleared.is ∙ found)
    (ap (λ (s : Settings). can_take s.align 1 size object.span) settings ∙ fits) in
    record {
      result = outcome_of cleared.result false None;
      new = kept.new;
      is = record { was_live = cleared.result; cleared = cleared.new; clears = cleared.is; keeps = kept.is; is_told = refl };
    }

-- an object whose bytes are kept is under the id, and its bytes can be taken
record IsKeptObject (old : Heap) (from size : ℕ) (object : Object) : Type 0 where
  found : object_under old from ≡ Some object
  fits : can_take old.settings.align 1 size object.span ≡ true

kept_is : (old : Heap) (from size : ℕ) (object : Object) → kept_object old from size ≡ Some object → IsKeptObject old from size object
kept_is old from size object is = by_policy (is_keep old.settings.realloc) (object_under old from) refl is
  where
    by_fit : (other : Object) → object_under old from ≡ Some other → (fits : Bool)
        → can_take old.settings.align 1 size other.span ≡ fits → (if fits then Some other else None) ≡ Some object
        → IsKeptObject old from size object
    by_fit other found false fits kept = absurd (never kept)
      where
        never : None ≡ Some object → ⊥
        never e = cc
    by_fit other found true fits kept =
        let same : other ≡ object = (let e = kept in cc) in
        record {
          found = found ∙ ap (λ (o : Object). Some o) same;
          fits = ap (λ (o : Object). can_take old.settings.align 1 size o.span) (sym same) ∙ fits;
        }

    by_policy : (keeps : Bool) (found : Option Object) → object_under old from ≡ found
        → (if keeps
        then option_and_then (λ object. if can_take old.settings.align 1 size object.span then Some object else None) found
        else None) ≡ Some object
        → IsKeptObject old from size object
    by_policy false found is_found kept = absurd (never kept)
      where
        never : None ≡ Some object → ⊥
        never e = cc
    by_policy true None is_found kept = absurd (never kept)
      where
        never : None ≡ Some object → ⊥
        never e = cc
    by_policy true (Some other) is_found kept =
        by_fit other is_found (can_take old.settings.align 1 size other.span) refl kept

reallocates : (old : Heap) (from to size : ℕ) → AreOnceIn old.memory.live → Leads (Reallocates old from to size)
reallocates old from to size once = by_kept (kept_object old from size) refl
  where
    rule : Option Object → Outcome → Heap → Type 0
    rule found outcome new =
        MatchOption found (Remakes old from to size outcome new) (λ object. KeepsPlace old from to object size outcome new)

    by_kept : (found : Option Object) → kept_object old from size ≡ found → Leads (Reallocates old from to size)
    by_kept None is =
        let made = remakes old from to size once in
        record { result = made.result; new = made.new; is = subst (λ (f : Option Object). rule f made.result made.new) (sym is) made.is }
    by_kept (Some object) is =
        let has = kept_is old from size object is in
        let made = keeps_place old from to object size once has.found has.fits in
        record { result = made.result; new = made.new; is = subst (λ (f : Option Object). rule f made.result made.new) (sym is) made.is }

-- ---- an event

pub event_leads : (old : Heap) (event : Event) → AreOnceIn old.memory.live → Leads (IsEvent old event)
event_leads old (Allocate id size align) once = let made = allocates old id align (size_of size) in record { result = made.result; new = made.new; is = made.is }
event_leads old (Clear id size) once = let made = allocates old id 1 (size_of size) in record { result = made.result; new = made.new; is = made.is }
event_leads old (Reallocate from to size) once =
    let made = reallocates old from to (size_of size) once in record { result = made.result; new = made.new; is = made.is }
event_leads old (Free id) once =
    let freed = frees_if_live old id in
    record {
      result = outcome_of false (if freed.result then false else true) None;
      new = freed.new;
      is = record { is_live = freed.result; frees = freed.is; is_told = refl };
    }
event_leads old Sweep once = record { result = outcome_of false false None; new = swept_if_asked old; is = (refl, refl) }
event_leads old (Clock time) once = record { result = outcome_of false false None; new = old; is = (refl, refl) }
