-- Spans in order: the gaps between them, and the position of a span among them.
use Rattle.std.proofs.Common.{ℕ, ◌≡◌, ◌+◌, ◌-◌, ◌<◌, ◌≤◌, List, ◌∷◌, All, AllPairs, Contains, length, get_or, max, arith, ◌∙◌, sym, ap, inl, inr, insert, remove}
use Rattle.std.proofs.lemmas.Bool.{cases_lt}
use Rattle.std.proofs.lemmas.List.{get_or_default}
use Rattle.std.proofs.lemmas.List.Edits.{length-insert, get_or-insert_below, get_or-insert_at, get_or-insert_above}
use Rattle.std.proofs.lemmas.List.Elements.{All-cons, All-tail, Contains-get_or}
use Rattle.std.proofs.lemmas.List.Quantifiers.{all_pairs_remove}
use Rattle.std.proofs.lemmas.List.Sorted.{All-permutation, IsPermutation-insert, IsPermutation-remove}
use Rattle.cc_bounds.specs.declared.span.Span.{Span}
use Rattle.cc_bounds.specs.Span.{span_from}
use Rattle.cc_placer.specs.Placement.{IsApartFrom}
use Rattle.cc_placer.specs.PlacerState.{AreInOrder, IsSomeBytes}
use Rattle.cc_placer.proofs.PlacementLemmas.{at_most_unless_above}

-- in order, bases do not fall
pub base_le : (spans : List Span) → AreInOrder spans → All IsSomeBytes spans → (i j : ℕ) (d : Span) → i ≤ j
    → j < length spans
    → (get_or spans i d).base ≤ (get_or spans j d).base
base_le spans order some i j d at_most within =
    elim (cases_lt i j) [
      | inl less ↦ let after = order i j d less within in let long = (some i d (omega arith)).not_empty in omega
          (arith, after, long)
      | inr more ↦ let same : i ≡ j = omega arith in rw same (omega arith)
    ]

-- if the spans before a position end at or below a start, and the next begins at or above the end
-- of the bytes from that start on, these bytes are apart from all spans
pub gap_apart : (spans : List Span) (i start size : ℕ) (e : Span) → AreInOrder spans → All IsSomeBytes spans
    → ((k : ℕ) (d : Span) → k < i → (get_or spans k d).top ≤ start) → (i < length spans
    → start + size ≤ (get_or spans i e).base)
    → IsApartFrom spans (span_from start size)
gap_apart spans i start size e order some passed next other (k, within, is) shares =
    let base_is : (get_or spans k other).base ≡ other.base = ap (λ (s : Span). s.base) is in
    let top_is : (get_or spans k other).top ≡ other.top = ap (λ (s : Span). s.top) is in
    elim (cases_lt k i) [
      | inl before ↦ omega (arith, top_is, passed k other before, shares.in_one.from_base, shares.in_other.below_top)
      | inr after ↦
          let up = base_le spans order some i k other after within in
          let first : (get_or spans i e).base ≡ (get_or spans i other).base = ap (λ (s : Span). s.base)
          (get_or_default spans i e other (omega arith)) in
          omega (arith, base_is, up, first, next (omega arith), shares.in_one.below_top, shares.in_other.from_base)
    ]

-- one more span is passed
pub passed_more : (spans : List Span) (i start next : ℕ) (e : Span) → i < length spans → start ≤ next
    → (get_or spans i e).top ≤ next
    → ((k : ℕ) (d : Span) → k < i → (get_or spans k d).top ≤ start) → (k : ℕ) (d : Span) → k < i + 1
    → (get_or spans k d).top ≤ next
passed_more spans i start next e within up here passed k d below =
    elim (cases_lt k i) [
      | inl before ↦ let earlier = passed k d before in omega (arith, earlier)
      | inr after ↦ let same : k ≡ i = omega arith in rw (same, get_or_default spans i d e within) here
    ]

-- a place from a start up is past each span that begins before the bytes from that start end
pub past_held : (spans : List Span) (span : Span) (start size place : ℕ) → Contains spans span → IsSomeBytes span
    → 0 < size → span.base < start + size
    → start ≤ place → IsApartFrom spans (span_from place size) → span.top ≤ place
past_held spans span start size place held some long before from apart =
    at_most_unless_above span.top place (λ above. apart span held (record {
      byte = max place span.base;
      in_one = record { from_base = omega arith; below_top = omega arith };
      in_other = record { from_base = omega arith; below_top = omega (arith, some.not_empty) };
    }))

-- a span apart from the held ones lies above each that begins below it
pub apart_below : (spans : List Span) (span : Span) (k : ℕ) (d : Span) → k < length spans → IsSomeBytes span
    → IsApartFrom spans span
    → (get_or spans k d).base < span.base → (get_or spans k d).top ≤ span.base
apart_below spans span k d within some apart below =
    at_most_unless_above (get_or spans k d).top span.base (λ above. apart (get_or spans k d)
    (Contains-get_or spans k d within) (record {
      byte = span.base;
      in_one = record { from_base = omega arith; below_top = some.not_empty };
      in_other = record { from_base = omega arith; below_top = omega arith };
    }))

-- and below each that does not
pub apart_above : (spans : List Span) (span : Span) (k : ℕ) (d : Span) → k < length spans → All IsSomeBytes spans
    → IsApartFrom spans span
    → span.base ≤ (get_or spans k d).base → span.top ≤ (get_or spans k d).base
apart_above spans span k d within some apart from =
    at_most_unless_above span.top (get_or spans k d).base (λ above. apart (get_or spans k d)
    (Contains-get_or spans k d within) (record {
      byte = (get_or spans k d).base;
      in_one = record { from_base = from; below_top = above };
      in_other = record { from_base = omega arith; below_top = (some k d within).not_empty };
    }))

-- each span after the inserted one was one position lower before the insertion
behind_inserted : (spans : List Span) (position : ℕ) (span d : Span) (k : ℕ) → position < k → position ≤ length spans
    → get_or (insert spans position span) k d ≡ get_or spans (k - 1) d
behind_inserted spans position span d k after fits =
    let next : k ≡ k - 1 + 1 = omega arith in
    ap (λ (n : ℕ). get_or (insert spans position span) n d) next ∙ get_or-insert_above spans position span d (k - 1)
    (omega arith) fits

-- a position is below another, the same, or above it
data Beside (one other : ℕ) : Type 0 where
  lower : one < other → Beside one other
  same : one ≡ other → Beside one other
  higher : other < one → Beside one other

beside : (one other : ℕ) → Beside one other
beside one other =
    elim (cases_lt one other) [
      | inl less ↦ lower less
      | inr most ↦ elim (cases_lt other one) [ inl less ↦ higher less | inr least ↦ same (omega arith) ]
    ]

-- spans of which each stands in a relation to each later one still do with one more that does
pub insert_related : (R : Span → Span → Type 0) (spans : List Span) (position : ℕ) (span : Span) → AllPairs R spans
    → position ≤ length spans
    → ((k : ℕ) (d : Span) → k < position → R (get_or spans k d) span)
    → ((k : ℕ) (d : Span) → position ≤ k → k < length spans → R span (get_or spans k d))
    → AllPairs R (insert spans position span)
insert_related R spans position span order fits below above i j d less within = by_cases (beside i position)
    (beside j position)
  where
    long : j < length spans + 1
    long = rw (← length-insert spans position span fits) within

    by_cases : Beside i position → Beside j position → R (get_or (insert spans position span) i d) (get_or
        (insert spans position span) j d)
    by_cases (lower first) (lower second) =
        rw (
          get_or-insert_below spans position span d i first fits,
          get_or-insert_below spans position span d j
              second fits,
        ) (order i j d less (omega arith))
    by_cases (lower first) (same second) =
        rw (
          second,
          get_or-insert_at spans position span d fits,
          get_or-insert_below spans position span d i first
              fits,
        ) (below i d first)
    by_cases (lower first) (higher second) =
        rw (
          behind_inserted spans position span d j second fits,
          get_or-insert_below spans position span d i first
              fits,
        ) (order i (j - 1) d (omega arith) (omega (arith, long)))
    by_cases (same first) (higher second) =
        rw (first, get_or-insert_at spans position span d fits, behind_inserted spans position span d j second fits)
        (above (j - 1) d (omega arith) (omega (arith, long)))
    by_cases (higher first) (higher second) =
        rw (behind_inserted spans position span d i first fits, behind_inserted spans position span d j second fits)
        (order (i - 1) (j - 1) d (omega arith) (omega (arith, long)))
    by_cases (same first) (lower second) = absurd (omega arith)
    by_cases (same first) (same second) = absurd (omega arith)
    by_cases (higher first) (lower second) = absurd (omega arith)
    by_cases (higher first) (same second) = absurd (omega arith)

-- spans stay in order if one is inserted after those that end at or below its base, and before
-- those that begin at or above its top
pub insert_in_order : (spans : List Span) (position : ℕ) (span : Span) → AreInOrder spans → position ≤ length spans
    → ((k : ℕ) (d : Span) → k < position → (get_or spans k d).top ≤ span.base)
    → ((k : ℕ) (d : Span) → position ≤ k → k < length spans → span.top ≤ (get_or spans k d).base)
    → AreInOrder (insert spans position span)
insert_in_order = insert_related (λ span later. span.top ≤ later.base)

-- what a sorted placer keeps of its spans
pub record AreKept (spans : List Span) : Type 0 where
  pub held : All IsSomeBytes spans
  pub in_order : AreInOrder spans

-- the spans before the position begin below the base, and the others at the base or above
pub record IsPosition (spans : List Span) (base position : ℕ) : Type 0 where
  pub within : position ≤ length spans
  pub below : (k : ℕ) (d : Span) → k < position → (get_or spans k d).base < base
  pub above : (k : ℕ) (d : Span) → position ≤ k → k < length spans → base ≤ (get_or spans k d).base

pub kept_insert : (spans new : List Span) (position : ℕ) (span : Span) → new ≡ insert spans position span
    → All IsSomeBytes spans → AreInOrder spans
    → IsSomeBytes span → IsApartFrom spans span → IsPosition spans span.base position → AreKept new
kept_insert spans new position span new_is held order some apart at =
    rw new_is (record {
      held = All-permutation IsSomeBytes (span ∷ spans) (insert spans position span)
          (IsPermutation-insert spans position span) (All-cons IsSomeBytes span spans some held);
      in_order = insert_in_order spans position span order at.within
          (λ k d lower. apart_below spans span k d (let fits = at.within in omega arith) some apart
          (at.below k d lower))
          (λ k d higher within. apart_above spans span k d within held apart (at.above k d higher within));
    })

pub kept_remove : (spans new : List Span) (position : ℕ) (d : Span) → position < length spans
    → new ≡ remove spans position → All IsSomeBytes spans → AreInOrder spans → AreKept new
kept_remove spans new position d within new_is held order = rw new_is (record {
  held = All-tail IsSomeBytes (get_or spans position d) (remove spans position)
      (All-permutation IsSomeBytes spans (get_or spans position d ∷ remove spans position)
      (IsPermutation-remove spans position (get_or spans position d) within (get_or_default spans position d
      (get_or spans position d) within)) held);
  in_order = all_pairs_remove (λ (span later : Span). span.top ≤ later.base) spans position within order;
})

-- a held span is at the position of its base
pub held_at : (spans : List Span) (span : Span) (position : ℕ) → AreInOrder spans → All IsSomeBytes spans
    → Contains spans span → IsPosition spans span.base position
    → (position < length spans) × (get_or spans position span ≡ span)
held_at spans span position order held (k, within, is) at = by_cases (beside k position)
  where
    base_is : (get_or spans k span).base ≡ span.base
    base_is = ap (λ (s : Span). s.base) is

    by_cases : Beside k position → (position < length spans) × (get_or spans position span ≡ span)
    by_cases (lower less) = absurd (omega (arith, at.below k span less, base_is))
    by_cases (higher more) =
        absurd (omega (
          arith,
          order position k span more within,
          (held position span
              (omega arith)).not_empty,
          at.above position span (omega arith) (omega arith),
          base_is,
        ))
    by_cases (same equal) = (omega arith, ap (λ (n : ℕ). get_or spans n span) (sym equal) ∙ is)
