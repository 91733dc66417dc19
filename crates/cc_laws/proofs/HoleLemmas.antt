-- The holes that held spans leave in a pool are its free bytes.
use Rattle.std.proofs.Common.{ℕ, zero, suc, Bool, ◌≡◌, ◌+◌, ◌-◌, ◌<◌, ◌≤◌, ◌∙◌, ◌⊎◌, List, [], ◌∷◌, ◌++◌, refl, sym, ap, subst, inl, inr, arith, sum_by, map, length}
use Rattle.std.specs.Prelude.{All, AllPairs, Contains, filter, if◌then◌else◌, get_or, nat_lt}
use Rattle.std.specs.List.Sorted.{IsNonDecreasingBy, IsPermutation}
use Rattle.std.proofs.lemmas.Bool.{cases_lt, le-ltb, lt-ltb}
use Rattle.std.proofs.lemmas.List.{get_or_default, length-map, map-append}
use Rattle.std.proofs.lemmas.List.Elements.{All-append, All-cons, All-filter, All-map, All-weaker, Contains-append_cases, Contains-append_left, Contains-append_right}
use Rattle.std.proofs.lemmas.List.Kept.{AllPairs-cons}
use Rattle.std.proofs.lemmas.List.Sorted.{All-permutation, Contains-permutation, IsPermutation-sym, sum_by-IsPermutation}
use Rattle.std.proofs.lemmas.List.Sums.{sum_by-append, sum_by-cons}
use Rattle.cc_bounds.specs.declared.span.Span.{Span}
use Rattle.cc_bounds.specs.Span.{HasByte, IsWithin, length_of}
use Rattle.cc_bounds.specs.Decoding.{ExactlyOne}
use Rattle.cc_plan.specs.PlannedObject.{PlannedObject}
use Rattle.cc_plan.specs.Plan.{plan_bytes, plan_spans, is_held}
use Rattle.cc_plan.proofs.HeldSpanLemmas.{sum_held}
use Rattle.cc_laws.proofs.PackingLemmas.{below, covered-next}
use Rattle.cc_values.specs.declared.usage.Usage.{Usage}
use Rattle.cc_draw.specs.Usage.{HasHoles, largest_of, hole, holes}
use Rattle.cc_laws.specs.DrawnObjects.{AreHoles, ArePlaced, CountsFreeBytes, IsFree}

-- ---- lists

none : {X : Type 0} → (P : X → Type 0) → All P []
none P k d within = absurd (omega (arith, within))

tail_all : {X : Type 0} → (P : X → Type 0) (x : X) (xs : List X) → All P (x ∷ xs) → All P xs
tail_all P x xs all k d within = all (suc k) d (omega (arith, within))

no_pairs : {X : Type 0} → (R : X → X → Type 0) → AllPairs R []
no_pairs R i j d less within = absurd (omega (arith, within))

-- an element of a list that is not empty is the first, or one of the others
split : {X : Type 0} → (x : X) (xs : List X) (y : X) → Contains (x ∷ xs) y → (x ≡ y) ⊎ Contains xs y
split x xs y (zero, within, is) = inl is
split x xs y (suc k, within, is) = inr (k, omega (arith, within), is)

later : {X : Type 0} → (x : X) (xs : List X) (y : X) → Contains xs y → Contains (x ∷ xs) y
later x xs y (k, within, is) = (suc k, omega (arith, within), is)

nowhere : {X : Type 0} → (y : X) → Contains [] y → ⊥
nowhere y (k, within, is) = absurd (omega (arith, within))

only : {X : Type 0} → (x y : X) → Contains (x ∷ []) y → x ≡ y
only x y has = by_split (split x [] y has)
  where
    by_split : (x ≡ y) ⊎ Contains [] y → x ≡ y
    by_split (inl is) = is
    by_split (inr further) = absurd (nowhere y further)

-- ---- one gap

-- the hole between two addresses, or none if there is no byte
abbrev gap : (from to : ℕ) → List Span
gap from to = if nat_lt from to then (record { base = from; top = to } ∷ []) else []

gap-some : (from to : ℕ) → from < to → gap from to ≡ record { base = from; top = to } ∷ []
gap-some from to less =
    ap (λ (b : Bool). if b then (record { base = from; top = to } ∷ []) else []) (lt-ltb from to less)

gap-none : (from to : ℕ) → to ≤ from → gap from to ≡ []
gap-none from to most =
    ap (λ (b : Bool). if b then (record { base = from; top = to } ∷ []) else []) (le-ltb from to most)

hole-some : (bytes : ℕ) → 0 < bytes → hole bytes ≡ bytes ∷ []
hole-some bytes some = ap (λ (b : Bool). if b then (bytes ∷ []) else []) (lt-ltb 0 bytes some)

hole-none : (bytes : ℕ) → bytes ≤ 0 → hole bytes ≡ []
hole-none bytes none_left = ap (λ (b : Bool). if b then (bytes ∷ []) else []) (le-ltb 0 bytes none_left)

gap-length : (from to : ℕ) → hole (to - from) ≡ map length_of (gap from to)
gap-length from to = elim (cases_lt from to) [
  | inl less ↦ hole-some (to - from) (omega (arith, less)) ∙ sym (ap (λ (l : List Span). map length_of l) (gap-some from to less))
  | inr most ↦ hole-none (to - from) (omega (arith, most)) ∙ sym (ap (λ (l : List Span). map length_of l) (gap-none from to most))
]

gap-sum : (from to : ℕ) → from ≤ to → sum_by length_of (gap from to) + from ≡ to
gap-sum from to in_order = elim (cases_lt from to) [
  | inl less ↦
      let is = ap (λ (l : List Span). sum_by length_of l) (gap-some from to less) in
      omega (arith, is, less)
  | inr most ↦
      let is = ap (λ (l : List Span). sum_by length_of l) (gap-none from to most) in
      omega (arith, is, most, in_order)
]

gap-all : (P : Span → Type 0) (from to : ℕ) → (from < to → P (record { base = from; top = to })) → All P (gap from to)
gap-all P from to each = elim (cases_lt from to) [
  | inl less ↦ subst (λ (l : List Span). All P l) (sym (gap-some from to less)) (All-cons P (record { base = from; top = to }) [] (each less) (none P))
  | inr most ↦ subst (λ (l : List Span). All P l) (sym (gap-none from to most)) (none P)
]

-- the span is the gap between these addresses
record IsGap (from to : ℕ) (span : Span) : Type 0 where
  base : span.base ≡ from
  top : span.top ≡ to

gap-is : (from to : ℕ) (span : Span) → Contains (gap from to) span → IsGap from to span
gap-is from to span has = elim (cases_lt from to) [
  | inl less ↦
      let it : Span = record { base = from; top = to } in
      let same : it ≡ span = only it span (subst (λ (l : List Span). Contains l span) (gap-some from to less) has) in
      record { base = sym (ap (λ (s : Span). s.base) same); top = sym (ap (λ (s : Span). s.top) same) }
  | inr most ↦
      absurd (nowhere span (subst (λ (l : List Span). Contains l span) (gap-none from to most) has))
]

gap-has : (from to : ℕ) → from < to → Contains (gap from to) (record { base = from; top = to })
gap-has from to less =
    subst (λ (l : List Span). Contains l (record { base = from; top = to })) (sym (gap-some from to less)) (0, omega arith, refl)

-- ---- the gaps between spans in order

-- the holes themselves, of which `holes` has the lengths
abbrev gaps : (from to : ℕ) → List Span → List Span
gaps from to [] = gap from to
gaps from to (span ∷ spans) = gap from span.base ++ gaps span.top to spans

-- spans with bytes, one after another between two addresses
abbrev AreInRow : (from to : ℕ) → List Span → Type 0
AreInRow from to [] = from ≤ to
AreInRow from to (span ∷ spans) = (from ≤ span.base) × (span.base < span.top) × AreInRow span.top to spans

row-order : (from to : ℕ) (spans : List Span) → AreInRow from to spans → from ≤ to
row-order from to [] row = row
row-order from to (span ∷ spans) (low, some, rest) =
    let next = row-order span.top to spans rest in
    omega (arith, low, some, next)

row-low : (from to : ℕ) (spans : List Span) → AreInRow from to spans → (span : Span) → Contains spans span → from ≤ span.base
row-low from to [] row span (k, within, is) = absurd (omega (arith, within))
row-low from to (first ∷ spans) (low, some, rest) span has =
    by_split (λ further. row-low first.top to spans rest span further) (split first spans span has)
  where
    by_split : (Contains spans span → first.top ≤ span.base) → (first ≡ span) ⊎ Contains spans span → from ≤ span.base
    by_split next (inl is) = subst (λ (s : Span). from ≤ s.base) is low
    by_split next (inr further) = let after = next further in omega (arith, low, some, after)

gaps-lengths : (from to : ℕ) (spans : List Span) → holes from to spans ≡ map length_of (gaps from to spans)
gaps-lengths from to [] = gap-length from to
gaps-lengths from to (span ∷ spans) =
    ap (λ (l : List ℕ). l ++ holes span.top to spans) (gap-length from span.base)
    ∙ ap (λ (l : List ℕ). map length_of (gap from span.base) ++ l) (gaps-lengths span.top to spans)
    ∙ sym (map-append length_of (gap from span.base) (gaps span.top to spans))

gaps-sum : (from to : ℕ) (spans : List Span) → AreInRow from to spans
    → sum_by length_of (gaps from to spans) + sum_by length_of spans + from ≡ to
gaps-sum from to [] row = let is = gap-sum from to row in omega (arith, is)
gaps-sum from to (span ∷ spans) (low, some, rest) =
    let first = gap-sum from span.base low in
    let next = gaps-sum span.top to spans rest in
    let parts = sum_by-append length_of (gap from span.base) (gaps span.top to spans) in
    let taken = sum_by-cons length_of span spans in
    omega (arith, first, next, parts, taken, some)

gaps-some : (from to : ℕ) (spans : List Span) → All (λ (g : Span). g.base < g.top) (gaps from to spans)
gaps-some from to [] = gap-all (λ g. g.base < g.top) from to (λ less. less)
gaps-some from to (span ∷ spans) =
    All-append (λ (g : Span). g.base < g.top) (gap from span.base) (gaps span.top to spans)
    (gap-all (λ g. g.base < g.top) from span.base (λ less. less)) (gaps-some span.top to spans)

gaps-low : (from to : ℕ) (spans : List Span) → AreInRow from to spans → All (λ (g : Span). from ≤ g.base) (gaps from to spans)
gaps-low from to [] row = gap-all (λ g. from ≤ g.base) from to (λ less. omega arith)
gaps-low from to (span ∷ spans) (low, some, rest) =
    All-append (λ (g : Span). from ≤ g.base) (gap from span.base) (gaps span.top to spans)
    (gap-all (λ g. from ≤ g.base) from span.base (λ less. omega arith))
    (All-weaker (λ (g : Span). span.top ≤ g.base) (λ g. from ≤ g.base) (λ g above. omega (arith, above, low, some))
    (gaps span.top to spans) (gaps-low span.top to spans rest))

abbrev IsBelow : Span → Span → Type 0
IsBelow one other = one.top < other.base

gaps-apart : (from to : ℕ) (spans : List Span) → AreInRow from to spans → AllPairs IsBelow (gaps from to spans)
gaps-apart from to [] row = elim (cases_lt from to) [
  | inl less ↦
      subst (λ (l : List Span). AllPairs IsBelow l) (sym (gap-some from to less))
      (AllPairs-cons IsBelow (record { base = from; top = to }) [] (none (IsBelow (record { base = from; top = to }))) (no_pairs IsBelow))
  | inr most ↦ subst (λ (l : List Span). AllPairs IsBelow l) (sym (gap-none from to most)) (no_pairs IsBelow)
]
gaps-apart from to (span ∷ spans) (low, some, rest) =
    let next : AllPairs IsBelow (gaps span.top to spans) = gaps-apart span.top to spans rest in
    elim (cases_lt from span.base) [
      | inl less ↦
          let it : Span = record { base = from; top = span.base } in
          let above : All (IsBelow it) (gaps span.top to spans) =
          All-weaker (λ (g : Span). span.top ≤ g.base) (IsBelow it) (λ g from_top. omega (arith, from_top, some))
          (gaps span.top to spans) (gaps-low span.top to spans rest) in
          subst (λ (l : List Span). AllPairs IsBelow (l ++ gaps span.top to spans)) (sym (gap-some from span.base less))
          (AllPairs-cons IsBelow it (gaps span.top to spans) above next)
      | inr most ↦
          subst (λ (l : List Span). AllPairs IsBelow (l ++ gaps span.top to spans)) (sym (gap-none from span.base most)) next
    ]

-- ---- the bytes of the gaps

-- some gap has the byte
record HasGapWith (list : List Span) (byte : ℕ) : Type 0 where
  gap_of : Span
  is : Contains list gap_of
  has : HasByte gap_of byte

gaps-cover : (from to : ℕ) (spans : List Span) (byte : ℕ) → AreInRow from to spans → from ≤ byte → byte < to
    → ((span : Span) → Contains spans span → ¬ HasByte span byte) → HasGapWith (gaps from to spans) byte
gaps-cover from to [] byte row at below_to apart = record {
  gap_of = record { base = from; top = to };
  is = gap-has from to (omega (arith, at, below_to));
  has = record { from_base = at; below_top = below_to };
}
gaps-cover from to (span ∷ spans) byte (low, some, rest) at below_to apart =
    elim (cases_lt byte span.base) [
      | inl before ↦ record {
        gap_of = record { base = from; top = span.base };
        is = Contains-append_left (gap from span.base) (gaps span.top to spans) (record { base = from; top = span.base })
            (gap-has from span.base (omega (arith, at, before)));
        has = record { from_base = at; below_top = before };
      }
      | inr past ↦ elim (cases_lt byte span.top) [
        | inl inside ↦ absurd (apart span (0, omega arith, refl) (record { from_base = past; below_top = inside }))
        | inr above ↦
            let further = gaps-cover span.top to spans byte rest above below_to (λ other has. apart other (later span spans other has)) in
            record {
              gap_of = further.gap_of;
              is = Contains-append_right (gap from span.base) (gaps span.top to spans) further.gap_of further.is;
              has = further.has;
            }
      ]
    ]

-- the byte lies between the addresses, and none of the spans has it
record IsLeft (from to : ℕ) (spans : List Span) (byte : ℕ) : Type 0 where
  at : from ≤ byte
  below_to : byte < to
  apart : (span : Span) → Contains spans span → ¬ HasByte span byte

gaps-left : (from to : ℕ) (spans : List Span) (byte : ℕ) (it : Span) → AreInRow from to spans
    → Contains (gaps from to spans) it → HasByte it byte → IsLeft from to spans byte
gaps-left from to [] byte it row is has =
    let same = gap-is from to it is in
    record {
      at = omega (arith, same.base, has.from_base);
      below_to = omega (arith, same.top, has.below_top);
      apart = λ span (k, within, e) has'. absurd (omega (arith, within));
    }
gaps-left from to (span ∷ spans) byte it (low, some, rest) is has =
    by_part (λ further. gaps-left span.top to spans byte it rest further has)
    (Contains-append_cases (gap from span.base) (gaps span.top to spans) it is)
  where
    in_order : span.top ≤ to
    in_order = row-order span.top to spans rest

    by_part : (Contains (gaps span.top to spans) it → IsLeft span.top to spans byte)
        → Contains (gap from span.base) it ⊎ Contains (gaps span.top to spans) it → IsLeft from to (span ∷ spans) byte
    by_part next (inl first) =
        let same = gap-is from span.base it first in
        let before : byte < span.base = omega (arith, same.top, has.below_top) in
        record {
          at = omega (arith, same.base, has.from_base);
          below_to = omega (arith, before, some, in_order);
          apart = λ other of has'. by_split before other has' (split span spans other of);
        }
      where
        by_split : byte < span.base → (other : Span) → HasByte other byte → (span ≡ other) ⊎ Contains spans other → ⊥
        by_split before other has' (inl e) =
            let low' = subst (λ (s : Span). byte < s.base) e before in
            absurd (omega (arith, low', has'.from_base))
        by_split before other has' (inr further) =
            let low' = row-low span.top to spans rest other further in
            absurd (omega (arith, low', has'.from_base, before, some))
    by_part next (inr further) =
        let left = next further in
        record {
          at = let a = left.at in omega (arith, a, low, some);
          below_to = left.below_to;
          apart = λ other of has'. by_split left other has' (split span spans other of);
        }
      where
        by_split : IsLeft span.top to spans byte → (other : Span) → HasByte other byte → (span ≡ other) ⊎ Contains spans other → ⊥
        by_split left other has' (inl e) =
            let above = subst (λ (s : Span). s.top ≤ byte) e left.at in
            absurd (omega (arith, above, has'.below_top))
        by_split left other has' (inr of) = left.apart other of has'

-- at most one gap has the byte
gaps-one : (list : List Span) → AllPairs IsBelow list → (one other : Span) (byte : ℕ) → Contains list one → Contains list other
    → HasByte one byte → HasByte other byte → other ≡ one
gaps-one list apart one other byte (i, i_within, i_is) (j, j_within, j_is) has has' =
    elim (cases_lt i j) [
      | inl less ↦
          let below_other : (get_or list i one).top < (get_or list j one).base = apart i j one less j_within in
          let first = ap (λ (s : Span). s.top) i_is in
          let second = ap (λ (s : Span). s.base) (get_or_default list j one other j_within ∙ j_is) in
          absurd (omega (arith, below_other, first, second, has.below_top, has'.from_base))
      | inr most ↦ elim (cases_lt j i) [
        | inl less ↦
            let below_one : (get_or list j one).top < (get_or list i one).base = apart j i one less i_within in
            let first = ap (λ (s : Span). s.base) i_is in
            let second = ap (λ (s : Span). s.top) (get_or_default list j one other j_within ∙ j_is) in
            absurd (omega (arith, below_one, first, second, has.from_base, has'.below_top))
        | inr least ↦
            let same : j ≡ i = omega (arith, most, least) in
            sym (get_or_default list j one other j_within ∙ j_is) ∙ ap (λ (k : ℕ). get_or list k one) same ∙ i_is
      ]
    ]

-- ---- spans in order are in a row

-- at most one of the spans has each byte
abbrev HaveOne : List Span → Type 0
HaveOne spans = (end : ℕ) → sum_by (below (suc end)) spans ≤ sum_by (below end) spans + 1

below-grows : (span : Span) (end : ℕ) → below end span ≤ below (suc end) span
below-grows span end = omega arith

sum-grows : (end : ℕ) (spans : List Span) → sum_by (below end) spans ≤ sum_by (below (suc end)) spans
sum-grows end [] = omega arith
sum-grows end (span ∷ spans) =
    let first = below-grows span end in
    let rest = sum-grows end spans in
    omega (arith, first, rest, sum_by-cons (below end) span spans, sum_by-cons (below (suc end)) span spans)

below-rises : (span : Span) (end : ℕ) → span.base ≤ end → end < span.top → below end span + 1 ≤ below (suc end) span
below-rises span end at below_top = omega (arith, at, below_top)

sum-rises : (end : ℕ) (spans : List Span) (k : ℕ) (d : Span) → k < length spans
    → (get_or spans k d).base ≤ end → end < (get_or spans k d).top
    → sum_by (below end) spans + 1 ≤ sum_by (below (suc end)) spans
sum-rises end [] k d within at below_top = absurd (omega (arith, within))
sum-rises end (span ∷ spans) zero d within at below_top =
    let first = below-rises span end at below_top in
    let rest = sum-grows end spans in
    omega (arith, first, rest, sum_by-cons (below end) span spans, sum_by-cons (below (suc end)) span spans)
sum-rises end (span ∷ spans) (suc k) d within at below_top =
    let first = below-grows span end in
    let rest = sum-rises end spans k d (omega (arith, within)) at below_top in
    omega (arith, first, rest, sum_by-cons (below end) span spans, sum_by-cons (below (suc end)) span spans)

in_row : (from to : ℕ) (spans : List Span) → from ≤ to → All (λ (s : Span). s.base < s.top) spans
    → All (λ (s : Span). s.top ≤ to) spans → All (λ (s : Span). from ≤ s.base) spans
    → IsNonDecreasingBy (λ (s : Span). s.base) spans → HaveOne spans → AreInRow from to spans
in_row from to [] in_order some high low sorted one = in_order
in_row from to (span ∷ spans) in_order some high low sorted one = (
  low 0 span (omega arith),
  own,
  in_row span.top to spans (high 0 span (omega arith))
      (tail_all (λ (s : Span). s.base < s.top) span spans some)
      (tail_all (λ (s : Span). s.top ≤ to) span spans high) above
      (λ i j d le within. sorted (suc i) (suc j) d (omega (arith, le)) (omega (arith, within))) others,
)
  where
    own : span.base < span.top
    own = some 0 span (omega arith)

    others : HaveOne spans
    others end =
        let all = one end in
        let first = below-grows span end in
        omega (arith, all, first, sum_by-cons (below end) span spans, sum_by-cons (below (suc end)) span spans)

    above : All (λ (s : Span). span.top ≤ s.base) spans
    above k d within =
        let base : ℕ = (get_or spans k d).base in
        let after : span.base ≤ base = sorted 0 (suc k) d (omega arith) (omega (arith, within)) in
        let bytes : base < (get_or spans k d).top = some (suc k) d (omega (arith, within)) in
        elim (cases_lt base span.top) [
          | inl overlap ↦
              let all = one base in
              let first = below-rises span base after overlap in
              let rest = sum-rises base spans k d within (omega arith) bytes in
              absurd (omega (arith, all, first, rest, sum_by-cons (below base) span spans, sum_by-cons (below (suc base)) span spans))
          | inr clear ↦ clear
        ]

-- ---- the holes of placed objects

module _ (pool : Span) (objects : List PlannedObject) (placed : ArePlaced pool objects) where
  held_all : (P : Span → Type 0) → All (λ (o : PlannedObject). P o.span) objects → All P (plan_spans objects)
  held_all P each =
      All-map P (λ (o : PlannedObject). o.span) (filter (λ (o : PlannedObject). is_held o.state) objects)
      (All-filter (λ (o : PlannedObject). is_held o.state) (λ o. P o.span) objects each)

  held-one : HaveOne (plan_spans objects)
  held-one end =
      let next = covered-next end objects placed.disjoint.apart in
      omega (arith, next, sum_held (below end) objects, sum_held (below (suc end)) objects)

  module _ (order : List Span) (same : IsPermutation (plan_spans objects) order)
      (sorted : IsNonDecreasingBy (λ (s : Span). s.base) order) where
    ordered : (P : Span → Type 0) → All (λ (o : PlannedObject). P o.span) objects → All P order
    ordered P each = All-permutation P (plan_spans objects) order same (held_all P each)

    order-one : HaveOne order
    order-one end =
        let all = held-one end in
        let now = sum_by-IsPermutation (below end) (plan_spans objects) order same in
        let next = sum_by-IsPermutation (below (suc end)) (plan_spans objects) order same in
        omega (arith, all, now, next)

    row : AreInRow pool.base pool.top order
    row =
        in_row pool.base pool.top order placed.in_order (ordered (λ s. s.base < s.top) placed.some)
        (ordered (λ s. s.top ≤ pool.top) (All-weaker (λ (o : PlannedObject). IsWithin o.span pool) (λ o. o.span.top ≤ pool.top) (λ o in_pool. in_pool.to_top) objects placed.within))
        (ordered (λ s. pool.base ≤ s.base) (All-weaker (λ (o : PlannedObject). IsWithin o.span pool) (λ o. pool.base ≤ o.span.base) (λ o in_pool. in_pool.from_base) objects placed.within))
        sorted order-one

    found : List Span
    found = gaps pool.base pool.top order

    to_hole : (byte : ℕ) → IsFree pool (plan_spans objects) byte → ExactlyOne (λ (g : Span). Contains found g × HasByte g byte)
    unfolding found
    to_hole byte free =
        let it =
        gaps-cover pool.base pool.top order byte row free.in_pool.from_base free.in_pool.below_top
        (λ span has. free.apart span (Contains-permutation order (plan_spans objects) span (IsPermutation-sym (plan_spans objects) order same) has)) in
        record {
          value = it.gap_of;
          has = (it.is, it.has);
          only = λ other (is, has). gaps-one found (gaps-apart pool.base pool.top order row) it.gap_of other byte it.is is it.has has;
        }

    of_hole : (byte : ℕ) → ExactlyOne (λ (g : Span). Contains found g × HasByte g byte) → IsFree pool (plan_spans objects) byte
    unfolding found
    of_hole byte one =
        let left = gaps-left pool.base pool.top order byte one.value row one.has.0 one.has.1 in
        record {
          in_pool = record { from_base = left.at; below_top = left.below_to };
          apart = λ span has. left.apart span (Contains-permutation (plan_spans objects) order span same has);
        }

    holes-found : AreHoles pool (plan_spans objects) found
    unfolding found
    holes-found = record {
      some = gaps-some pool.base pool.top order;
      apart = gaps-apart pool.base pool.top order row;
      free = λ byte. (to_hole byte, of_hole byte);
    }

  pub counts_free : (usage : Usage) → HasHoles pool (plan_spans objects) usage → usage.held ≡ plan_bytes objects
      → usage.pool ≡ length_of pool → CountsFreeBytes pool (plan_spans objects) usage
  unfolding found
  counts_free usage has held_is pool_is =
      let list : List Span = gaps pool.base pool.top has.order in
      let lengths : holes pool.base pool.top has.order ≡ map length_of list = gaps-lengths pool.base pool.top has.order in
      let many : length (map length_of list) ≡ length list = length-map list length_of in
      let sum = gaps-sum pool.base pool.top has.order (row has.order has.same has.in_order) in
      let all = sum_by-IsPermutation length_of (plan_spans objects) has.order has.same in
      record {
        gaps = list;
        are_holes = holes-found has.order has.same has.in_order;
        count = has.count ∙ ap (λ (l : List ℕ). length l) lengths ∙ many;
        largest = has.largest ∙ ap largest_of lengths;
        adds_up = omega (arith, held_is, pool_is, sum, all);
      }
