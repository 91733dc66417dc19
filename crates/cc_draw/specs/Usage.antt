-- The bytes of a planner's pool that its objects take, and those that are left.
use Rattle.std.specs.Prelude.{ℕ, Bool, true, false, ◌≡◌, ◌-◌, List, [], ◌∷◌, ◌++◌, count_by, filter, length, map, max, nat_lt, option_map, sum_by, unwrap_or}
use Rattle.std.specs.List.Sorted.{IsNonDecreasingBy, IsPermutation}
use Rattle.cc_bounds.specs.declared.span.Span.{Span}
use Rattle.cc_bounds.specs.Span.{from_zero, length_of}
use Rattle.cc_plan.specs.declared.planned_object.ObjectState.{ObjectState}
use Rattle.cc_plan.specs.declared.planned_object.ObjectState.TheVariants.{Live, Freed, Swept}
use Rattle.cc_plan.specs.PlannedObject.{PlannedObject}
use Rattle.cc_plan.specs.Plan.{Plan, plan_bytes, plan_spans, is_freed, is_held}
use Rattle.cc_plan.specs.PlannerState.{is_live}
use Rattle.cc_values.specs.declared.usage.Usage.{Usage}

-- `is_swept` holds if the object is swept: a sweep released its bytes.
abbrev pub is_swept : ObjectState → Bool
is_swept Live = false
is_swept Freed = false
is_swept Swept = true

-- The number of bytes that were requested for the held objects, without padding.
abbrev pub asked_bytes_of : List PlannedObject → ℕ
asked_bytes_of objects = sum_by (λ object. object.size) (filter (λ object. is_held object.state) objects)

-- The maximum of some numbers, or 0 if there is none.
abbrev pub largest_of : List ℕ → ℕ
largest_of [] = 0
largest_of (number ∷ numbers) = max number (largest_of numbers)

-- The highest top of all the objects, or 0 if there is none.
abbrev pub highest_top : List PlannedObject → ℕ
highest_top objects = largest_of (map (λ object. object.span.top) objects)

-- The lengths of the holes in a gap of `bytes` bytes: one hole of that length, or none if the gap
-- is empty.
abbrev pub hole : ℕ → List ℕ
hole bytes = filter (λ number. nat_lt 0 number) (bytes ∷ [])

-- The lengths of the holes that spans leave from `from` to `to`: before the first span, between
-- each and the next, and after the last. The spans are in the order of their addresses.
abbrev pub holes : (from to : ℕ) → List Span → List ℕ
holes from to [] = hole (to - from)
holes from to (span ∷ spans) = hole (span.base - from) ++ holes span.top to spans

-- The bounds of the pool, or no bytes if there is none.
abbrev pub pool_span : Plan → Span
pool_span plan = unwrap_or (option_map (λ pool. pool.span) plan.pool) (from_zero 0)

-- HasHoles holds if the usage has the number of holes that these held spans leave in the pool, and
-- the length of the largest.
pub record HasHoles (pool : Span) (held : List Span) (usage : Usage) : Type 0 where
  pub order : List Span
  pub same : IsPermutation held order
  pub in_order : IsNonDecreasingBy (λ span. span.base) order
  pub count : usage.holes ≡ length (holes pool.base pool.top order)
  pub largest : usage.largest ≡ largest_of (holes pool.base pool.top order)

-- UsesOf holds if a plan has this usage: of its pool, its objects and its limit.
pub record UsesOf (plan : Plan) (usage : Usage) : Type 0 where
  pub limit : usage.limit ≡ plan.limit
  pub made : usage.made ≡ length plan.objects
  pub live : usage.live ≡ count_by (λ object. is_live object.state) plan.objects
  pub quarantined : usage.quarantined ≡ count_by (λ object. is_freed object.state) plan.objects
  pub swept : usage.swept ≡ count_by (λ object. is_swept object.state) plan.objects
  pub asked : usage.asked ≡ asked_bytes_of plan.objects
  pub held : usage.held ≡ plan_bytes plan.objects
  pub pool : usage.pool ≡ length_of (pool_span plan)
  pub holes : HasHoles (pool_span plan) (plan_spans plan.objects) usage
  pub end : usage.end ≡ highest_top plan.objects

-- IsUsage holds if a machine with this number of slots and this plan has this usage.
pub record IsUsage (slots : ℕ) (plan : Plan) (usage : Usage) : Type 0 where
  pub slots_is : usage.slots ≡ slots
  pub uses : UsesOf plan usage
