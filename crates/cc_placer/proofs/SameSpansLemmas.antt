-- Lists of spans in whatever order. Two lists have the same spans exactly if every weight adds up to the
-- same over both.
use Rattle.std.proofs.Common.{ℕ, suc, ◌≡◌, ◌+◌, ◌<◌, ◌≤◌, ◌&&◌, Bool, true, false, cond, nat_eq, List, [], ◌∷◌, Option, Some, None, Contains, IfSome, count_by, sum_by, length, remove, arith, refl}
use Rattle.std.proofs.Common.{◌∙◌, sym, IsPermutation}
use Rattle.std.proofs.lemmas.List.Sums.{sum_by-cons}
use Rattle.std.proofs.lemmas.List.Sorted.{Contains-permutation, IsPermutation-cons, IsPermutation-refl, IsPermutation-remove, IsPermutation-sym, IsPermutation-trans, length_permutation}
use Rattle.std.proofs.lemmas.List.Sorted.{sum_by-IsPermutation}
use Rattle.std.proofs.lemmas.Bool.Decides.{nat_tests}
use Rattle.cc_bounds.specs.declared.span.Span.{Span}
use Rattle.cc_placer.specs.Placement.{HaveSameSpans, AddsSpan, RemovesSpan, IsApartFrom, IsPlace, IsPlacement, HasNoPlace, IsRoom}

-- every weight adds up to the same over both lists
abbrev pub HaveSameSums : List Span → List Span → Type 0
HaveSameSums spans others = (weight : Span → ℕ) → sum_by weight spans ≡ sum_by weight others

-- whether two spans are one
abbrev is_span : Span → Span → Bool
is_span one other = nat_eq one.base other.base && nat_eq one.top other.top

is_span-same : (one other : Span) → is_span one other ≡ true → other ≡ one
is_span-same one other same =
    let base : other.base ≡ one.base = grind (arith, nat_tests) in
    let top : other.top ≡ one.top = grind (arith, nat_tests) in
    λ i. record { base = base i; top = top i }

is_span-itself : (span : Span) → is_span span span ≡ true
is_span-itself span = grind (arith, nat_tests)

in_first : (same : Bool) (span first : Span) (spans : List Span) (n : ℕ) → (same ≡ true → first ≡ span) → (1 ≤ n
    → Contains spans span)
    → 1 ≤ cond same 1 0 + n → Contains (first ∷ spans) span
in_first true span first spans n is rest some = (0, omega arith, is refl)
in_first false span first spans n is rest some = let (k, within, at) = rest (omega arith) in (suc k, omega arith, at)

-- a span that is counted at least once is in the list
contains_counted : (span : Span) (spans : List Span) → 1 ≤ count_by (is_span span) spans → Contains spans span
contains_counted span [] some = absurd (omega arith)
contains_counted span (first ∷ spans) some =
    in_first (is_span span first) span first spans (count_by (is_span span) spans) (is_span-same span first)
    (contains_counted span spans)
    (rw (sum_by-cons (λ s. cond (is_span span s) 1 0) first spans) at some)

-- if the sums are the same, the first span of one list is in the other
pub contains_first : (span : Span) (spans others : List Span) → HaveSameSums (span ∷ spans) others → Contains others span
contains_first span spans others same =
    let one : count_by (is_span span) (span ∷ spans) ≡ 1 + count_by (is_span span) spans =
    sum_by-cons (λ s. cond (is_span span s) 1 0) span spans ∙ rw (is_span-itself span) refl in
    contains_counted span others (omega (arith, same (λ s. cond (is_span span s) 1 0), one))

empty_sums : (others : List Span) → HaveSameSums [] others → IsPermutation [] others
empty_sums [] same = IsPermutation-refl []
empty_sums (first ∷ others) same = absurd (omega (arith, same (λ _. 1), sum_by-cons (λ _. 1) first others))

-- lists with the same sums have the same spans
pub permutation_from_sums : (spans others : List Span) → HaveSameSums spans others → HaveSameSpans spans others
permutation_from_sums [] others same = empty_sums others same
permutation_from_sums (span ∷ spans) others same =
    let (k, within, is) = contains_first span spans others same in
    let taken : IsPermutation others (span ∷ remove others k) = IsPermutation-remove others k span within (sym is) in
    let rest : HaveSameSums spans (remove others k) =
    λ weight. omega (
      arith,
      same weight,
      sum_by-cons weight span spans,
      sum_by-IsPermutation weight others
          (span ∷ remove others k) taken,
      sum_by-cons weight span (remove others k),
    ) in
    IsPermutation-trans (span ∷ spans) (span ∷ remove others k) others
    (IsPermutation-cons span spans (remove others k) (permutation_from_sums spans (remove others k) rest))
    (IsPermutation-sym others (span ∷ remove others k) taken)

-- places depend on which spans are held, and not on their order
pub apart_along : (held others : List Span) (span : Span) → HaveSameSpans held others → IsApartFrom held span
    → IsApartFrom others span
apart_along held others span same apart other is_held = apart other (Contains-permutation others held other
    (IsPermutation-sym held others same) is_held)

pub place_along : (pool : Span) (held others : List Span) (size align start : ℕ) → HaveSameSpans held others
    → IsPlace pool held size align start → IsPlace pool others size align start
place_along pool held others size align start same place = record {
  aligned = place.aligned;
  in_pool = place.in_pool;
  apart = apart_along held others _ same place.apart;
}

pub placement_along : (pool : Span) (held others : List Span) (size align start : ℕ) → HaveSameSpans held others
    → IsPlacement pool held size align start → IsPlacement pool others size align start
placement_along pool held others size align start same placement = record {
  place = place_along pool held others size align start same placement.place;
  least = λ other place. placement.least other (place_along pool others held size align other
      (IsPermutation-sym held others same) place);
}

pub no_place_along : (pool : Span) (held others : List Span) (size align : ℕ) → HaveSameSpans held others
    → HasNoPlace pool held size align → HasNoPlace pool others size align
no_place_along pool held others size align same none start place =
    none start (place_along pool others held size align start (IsPermutation-sym held others same) place)

pub room_along : (pool : Span) (held others : List Span) (size align : ℕ) (result : Option ℕ)
    → HaveSameSpans held others
    → IsRoom pool held size align result → IsRoom pool others size align result
room_along pool held others size align None same none = no_place_along pool held others size align same none
room_along pool held others size align (Some start) same placement =
    placement_along pool held others size align start same placement

-- a list that has the spans of another has them with one span more
pub same_more : (held spans new more : List Span) (span : Span) → HaveSameSpans held spans
    → AddsSpan held span new → AddsSpan spans span more → HaveSameSpans new more
same_more held spans new more span same adds adds_too =
    permutation_from_sums new more (λ weight. omega (
      arith,
      sum_by-IsPermutation weight held spans same,
      sum_by-IsPermutation weight (span ∷ held) new adds,
      sum_by-IsPermutation weight (span ∷ spans) more adds_too,
      sum_by-cons weight span held,
      sum_by-cons weight span spans,
    ))

-- and without one
pub same_fewer : (held spans new fewer : List Span) (span : Span) → HaveSameSpans held spans
    → RemovesSpan held span new → RemovesSpan spans span fewer → HaveSameSpans new fewer
same_fewer held spans new fewer span same removes removes_too =
    permutation_from_sums new fewer (λ weight. omega (
      arith,
      sum_by-IsPermutation weight held spans same,
      sum_by-IsPermutation weight (span ∷ new) held removes,
      sum_by-IsPermutation weight (span ∷ fewer) spans removes_too,
      sum_by-cons weight span new,
      sum_by-cons weight span fewer,
    ))

-- what a span that can be held beside the spans of one list is beside the same spans
pub record CanBeHeld (held : List Span) (limit : ℕ) (span : Span) : Type 0 where
  pub apart : IsApartFrom held span
  pub below_limit : length held < limit

pub can_be_held : (held : List Span) (limit : ℕ) (span : Span)
    → (spans : List Span) × HaveSameSpans held spans × IsApartFrom spans span × (length spans < limit)
    → CanBeHeld held limit span
can_be_held held limit span (spans, same, apart, below) = record {
  apart = apart_along spans held span (IsPermutation-sym held spans same) apart;
  below_limit = omega (arith, length_permutation held spans same);
}

-- a span of one list is one of the same spans
pub is_among : (held : List Span) (span : Span) → (spans : List Span) × HaveSameSpans held spans × Contains spans span
    → Contains held span
is_among held span (spans, same, among) =
    Contains-permutation spans held span (IsPermutation-sym held spans same) among

-- a count of spans is one of the same spans
pub same_count : (held spans : List Span) (count : ℕ) → HaveSameSpans held spans → count ≡ length held
    → count ≡ length spans
same_count held spans count same is = omega (arith, length_permutation held spans same)

-- the result for one list of held spans is that for the same spans
pub room_in_pool : (pool : Option Span) (span : Span) (read held spans : List Span) (size align : ℕ) (result : Option ℕ)
    → pool ≡ Some span
    → read ≡ held → HaveSameSpans held spans → IsRoom span read size align result
    → IfSome pool (λ pool. IsRoom pool spans size align result)
room_in_pool pool span read held spans size align result pool_is read_is same room =
    rw pool_is (room_along span held spans size align result same (rw read_is at room))
