-- From a heap that held nothing the same events have the same outcomes, and every event has one.
use Rattle.std.proofs.Common.{◌≡◌, ℕ, Bool, true, false, not, cond, ◌&&◌, ◌||◌, List, [], ◌∷◌, filter, nat_eq, Option, Some, None, refl, sym, ◌∙◌, ap, subst, arith}
use Rattle.std.specs.List.{list_any}
use Rattle.std.proofs.lemmas.Bool.Decides.{nat_tests}
use Rattle.std.proofs.lemmas.Map.Views.{any-filter_same}
use Rattle.cc_heap.specs.declared.event.Event.{Event}
use Rattle.cc_heap.specs.Ids.{freed_id, made_id}
use Rattle.cc_heap.specs.declared.making.Making.{Making}
use Rattle.cc_heap.specs.declared.outcome.Outcome.{Outcome}
use Rattle.cc_heap.specs.declared.settings.Settings.{Settings}
use Rattle.cc_heap.specs.Events.{IsEvent}
use Rattle.cc_heap.specs.Heap.{Heap, empty_heap}
use Rattle.cc_heap.specs.Lost.{IsRunEvent, RunState, RunsNoting, empty_run, is_lost, is_lost_one, is_not_made, noted, with_lost}
use Rattle.cc_heap.specs.Run.{Runs}
use Rattle.cc_heap.specs.Sizes.{made_size, with_made_size}
use Rattle.cc_laws.specs.OneOutcome.{AreAlike, AreAlikeRuns}
use Rattle.cc_laws.proofs.EntryOrderLemmas.{AreOnceIn}
use Rattle.cc_laws.proofs.AlikeHeapLemmas.{IsOneOutcome, alike_event, alike_itself, alike_runs, event_once}
use Rattle.cc_laws.proofs.EventOutcomeLemmas.{Leads, event_leads}

-- ---- heaps

runs_once : (old new : Heap) (events : List Event) → AreOnceIn old.memory.live → Runs old events new → AreOnceIn new.memory.live
runs_once old new [] once is = subst (λ (h : Heap). AreOnceIn h.memory.live) (sym is) once
runs_once old new (event ∷ events) once run =
    runs_once run.1 new events (event_once old event run.0 run.1 once run.2) run.3

empty_once : (settings : Settings) → AreOnceIn (empty_heap settings).memory.live
empty_once settings id = omega arith

pub one_heap : (settings : Settings) (events : List Event) (one other : Heap) → Runs (empty_heap settings) events one
    → Runs (empty_heap settings) events other → AreAlike one other
one_heap settings events one other =
    alike_runs (empty_heap settings) (empty_heap settings) one other events (empty_once settings) (alike_itself (empty_heap settings))

pub one_event : (settings : Settings) (events : List Event) (old other new another : Heap) (event : Event) (outcome told : Outcome)
    → Runs (empty_heap settings) events old → Runs (empty_heap settings) events other → IsEvent old event outcome new
    → IsEvent other event told another → IsOneOutcome outcome told new another
one_event settings events old other new another event outcome told run run_too =
    alike_event old other new another event outcome told (runs_once (empty_heap settings) old events (empty_once settings) run)
    (one_heap settings events old other run run_too)

pub some_event : (settings : Settings) (events : List Event) (old : Heap) (event : Event) → Runs (empty_heap settings) events old
    → Leads (IsEvent old event)
some_event settings events old event run = event_leads old event (runs_once (empty_heap settings) old events (empty_once settings) run)

-- ---- runs, of which the lost ids are noted

-- ids that are lost after one is noted
noted_list : Option ℕ → Bool → List ℕ → List ℕ
noted_list None now lost = lost
noted_list (Some id) true lost = id ∷ lost
noted_list (Some id) false lost = filter (λ key. not (nat_eq id key)) lost

noted_is : (id : Option ℕ) (now : Bool) (lost : List ℕ) (other : ℕ) → is_lost (noted_list id now lost) other ≡ noted id now (is_lost lost) other
unfolding noted_list
noted_is None now lost other = refl
noted_is (Some id) true lost other = by_test (nat_eq other id) (nat_eq id other) (flips other id)
  where
    flips : (one other : ℕ) → nat_eq one other ≡ nat_eq other one
    flips one other = grind (arith, nat_tests)

    by_test : (one other_one : Bool) → one ≡ other_one → (one || is_lost lost other) ≡ cond other_one true (is_lost lost other)
    by_test true true same = refl
    by_test false false same = refl
    by_test true false same = absurd (let e = same in cc)
    by_test false true same = absurd (let e = same in cc)
noted_is (Some id) false lost other =
    any-filter_same (nat_eq other) (λ key. not (nat_eq id key)) (not (nat_eq id other)) same_key lost
    ∙ by_test (nat_eq id other) (list_any (nat_eq other) lost)
  where
    same_key : (key : ℕ) → nat_eq other key ≡ true → not (nat_eq id key) ≡ not (nat_eq id other)
    same_key key is = let same : key ≡ other = grind (arith, nat_tests) in ap (λ (n : ℕ). not (nat_eq id n)) same

    by_test : (b lost_too : Bool) → (not b && lost_too) ≡ cond b false lost_too
    by_test true lost_too = refl
    by_test false lost_too = refl

-- a run event, and the run after it
pub record LeadsRun (old : RunState) (event : Event) : Type 0 where
  pub outcome : Outcome
  pub new : RunState
  pub is : IsRunEvent old event outcome new

pub run_leads : (old : RunState) (event : Event) → AreOnceIn old.heap.memory.live → LeadsRun old event
run_leads old event once =
    let made = event_leads old.heap event once in
    let freed = noted_list (freed_id event) false old.lost in
    let is_freed : is_lost freed ≡ noted (freed_id event) false (is_lost old.lost) =
    λ i id. noted_is (freed_id event) false old.lost id i in
    let not_made : Bool = is_not_made made.result.making in
    record {
      outcome = with_lost made.result (is_lost_one old.lost (freed_id event));
      new = record {
        heap = made.new;
        lost = noted_list (made_id event) not_made freed;
        sizes = with_made_size old.heap.settings.align (made_size event made.result.making) old.sizes;
      };
      is = record {
        told = made.result;
        is_event = made.is;
        is_told = refl;
        lost = λ id.
            noted_is (made_id event) not_made freed id
            ∙ ap (λ (lost : ℕ → Bool). noted (made_id event) not_made lost id) is_freed;
        sizes = refl;
      };
    }

noting_once : (old new : RunState) (events : List Event) → AreOnceIn old.heap.memory.live → RunsNoting old events new
    → AreOnceIn new.heap.memory.live
noting_once old new [] once is = subst (λ (r : RunState). AreOnceIn r.heap.memory.live) (sym is) once
noting_once old new (event ∷ events) once run =
    noting_once run.1 new events (event_once old.heap event run.2.told run.1.heap once run.2.is_event) run.3

-- every list of events leads to a run
pub record HasRun (old : RunState) (events : List Event) : Type 0 where
  pub new : RunState
  pub is : RunsNoting old events new

runs_lead : (old : RunState) (events : List Event) → AreOnceIn old.heap.memory.live → HasRun old events
runs_lead old [] once = record { new = old; is = refl }
runs_lead old (event ∷ events) once =
    let made = run_leads old event once in
    let next = runs_lead made.new events (event_once old.heap event made.is.told made.new.heap once made.is.is_event) in
    record { new = next.new; is = (made.outcome, made.new, made.is, next.is) }

pub some_run : (settings : Settings) (events : List Event) → HasRun (empty_run settings) events
some_run settings events = runs_lead (empty_run settings) events (empty_once settings)

-- ---- runs that are alike

pub record IsOneRunOutcome (outcome told : Outcome) (new another : RunState) : Type 0 where
  pub same : told ≡ outcome
  pub alike : AreAlikeRuns new another

pub alike_run_event : (old other new another : RunState) (event : Event) (outcome told : Outcome) → AreOnceIn old.heap.memory.live
    → AreAlikeRuns old other → IsRunEvent old event outcome new → IsRunEvent other event told another
    → IsOneRunOutcome outcome told new another
alike_run_event old other new another event outcome told once alike first second =
    let step = alike_event old.heap other.heap new.heap another.heap event first.told second.told once alike.heap first.is_event second.is_event in
    let lost : is_lost other.lost ≡ is_lost old.lost = λ i id. alike.lost id i in
    let was_lost = by_id (freed_id event) in
    let making = ap (λ (o : Outcome). o.making) step.same in
    let align = ap (λ (s : Settings). s.align) alike.heap.settings in
    record {
      same =
          second.is_told ∙ ap (λ (o : Outcome). with_lost o (is_lost_one other.lost (freed_id event))) step.same
          ∙ ap (with_lost first.told) was_lost ∙ sym first.is_told;
      alike = record {
        heap = step.alike;
        lost = λ id.
            second.lost id
            ∙ ap (λ (m : Option Making). noted (made_id event) (is_not_made m) (noted (freed_id event) false (is_lost other.lost)) id) making
            ∙ ap (λ (l : ℕ → Bool). noted (made_id event) (is_not_made first.told.making) (noted (freed_id event) false l) id) lost
            ∙ sym (first.lost id);
        sizes =
            second.sizes
            ∙ (λ i. with_made_size (align i) (made_size event (making i)) (alike.sizes i))
            ∙ sym first.sizes;
      };
    }
  where
    by_id : (id : Option ℕ) → is_lost_one other.lost id ≡ is_lost_one old.lost id
    by_id None = refl
    by_id (Some id) = alike.lost id

alike_noting : (old other new another : RunState) (events : List Event) → AreOnceIn old.heap.memory.live → AreAlikeRuns old other
    → RunsNoting old events new → RunsNoting other events another → AreAlikeRuns new another
alike_noting old other new another [] once alike is is_other =
    subst (λ (r : RunState). AreAlikeRuns r another) (sym is) (subst (λ (r : RunState). AreAlikeRuns old r) (sym is_other) alike)
alike_noting old other new another (event ∷ events) once alike first second =
    let step = alike_run_event old other first.1 second.1 event first.0 second.0 once alike first.2 second.2 in
    alike_noting first.1 second.1 new another events
    (event_once old.heap event first.2.told first.1.heap once first.2.is_event) step.alike first.3 second.3

pub one_run : (settings : Settings) (events : List Event) (one other : RunState) → RunsNoting (empty_run settings) events one
    → RunsNoting (empty_run settings) events other → AreAlikeRuns one other
one_run settings events one other =
    alike_noting (empty_run settings) (empty_run settings) one other events (empty_once settings)
    (record { heap = alike_itself (empty_heap settings); lost = λ id. refl; sizes = refl })

pub one_run_event : (settings : Settings) (events : List Event) (old other new another : RunState) (event : Event) (outcome told : Outcome)
    → RunsNoting (empty_run settings) events old → RunsNoting (empty_run settings) events other → IsRunEvent old event outcome new
    → IsRunEvent other event told another → IsOneRunOutcome outcome told new another
one_run_event settings events old other new another event outcome told run run_too =
    alike_run_event old other new another event outcome told (noting_once (empty_run settings) old events (empty_once settings) run)
    (one_run settings events old other run run_too)
