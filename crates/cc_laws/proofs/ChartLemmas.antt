-- A chart shows all its events.
use Rattle.std.proofs.Common.{◌≡◌, ◌∙◌, ◌⊎◌, inl, inr, ℕ, Bool, true, false, zero, suc, ◌+◌, ◌-◌, ◌*◌, ◌^◌, ◌<◌, ◌≤◌, min, nat_lt, ◌==◌, List, [], ◌∷◌, ◌++◌, length, arith, ap, refl, subst, sym}
use Rattle.cc_heap.specs.declared.levels.Levels.{Levels}
use Rattle.cc_heap.specs.Levels.{greater_of, greatest_of, no_levels}
use Rattle.cc_heap.specs.Chart.{AreColumns, Chart, IsChartOf, halved_if_full, joined, no_chart, with_event, with_events}
use Rattle.cc_heap.proofs.LevelLemmas.{greatest_of_both, greatest_with}

-- ---- lists

append_assoc : (a b c : List Levels) → (a ++ b) ++ c ≡ a ++ (b ++ c)
append_assoc [] b c = refl
append_assoc (x ∷ a) b c = ap (λ (l : List Levels). x ∷ l) (append_assoc a b c)

append_none : (a : List Levels) → a ++ [] ≡ a
append_none [] = refl
append_none (x ∷ a) = ap (λ (l : List Levels). x ∷ l) (append_none a)

append_length : (a b : List Levels) → length (a ++ b) ≡ length a + length b
append_length [] b = omega arith
append_length (x ∷ a) b = omega (arith, append_length a b)

-- ---- columns

-- one more event after all columns
one_more : (width : ℕ) (columns events remaining : List Levels) (levels : Levels) → AreColumns width columns events remaining
    → AreColumns width columns (events ++ levels ∷ []) (remaining ++ levels ∷ [])
one_more width [] events remaining levels same = ap (λ (l : List Levels). l ++ levels ∷ []) same
one_more width (column ∷ columns) events remaining levels (mine, others, is, len, most, rest) = (
  mine,
  others ++ levels ∷ [],
  ap (λ (l : List Levels). l ++ levels ∷ []) is ∙ append_assoc mine others (levels ∷ []),
  len,
  most,
  one_more width columns others remaining levels rest,
)

-- the remaining events become a column
closes : (width : ℕ) (columns events remaining : List Levels) → length remaining ≡ width → AreColumns width columns events remaining
    → AreColumns width (columns ++ greatest_of remaining ∷ []) events []
closes width [] events remaining full same = (remaining, [], same ∙ sym (append_none remaining), full, refl, refl)
closes width (column ∷ columns) events remaining full (mine, others, is, len, most, rest) =
    (mine, others, is, len, most, closes width columns others remaining full rest)

-- each column is joined with the next, if their number is even
joins : (half width : ℕ) (columns events : List Levels) → length columns ≡ 2 * half → AreColumns width columns events []
    → AreColumns (2 * width) (joined columns) events []
joins half width [] events even same = same
joins zero width (column ∷ columns) events even are = absurd (omega (arith, even))
joins (suc half) width (column ∷ []) events even are = absurd (omega (arith, even))
joins (suc half) width (first ∷ second ∷ columns) events even (mine, others, is, len, most, (more, after, is_more, len_more, most_more, rest)) = (
  mine ++ more,
  after,
  is ∙ ap (λ (l : List Levels). mine ++ l) is_more ∙ sym (append_assoc mine more after),
  append_length mine more ∙ omega (arith, len, len_more),
  (λ i. greater_of (most i) (most_more i)) ∙ sym (greatest_of_both mine more),
  joins half width columns after (omega (arith, even)) rest,
)

joined_length : (half : ℕ) (columns : List Levels) → length columns ≡ 2 * half → length (joined columns) ≡ half
joined_length zero [] even = refl
joined_length (suc half) [] even = absurd (omega (arith, even))
joined_length zero (column ∷ columns) even = absurd (omega (arith, even))
joined_length (suc half) (column ∷ []) even = absurd (omega (arith, even))
joined_length (suc half) (first ∷ second ∷ columns) even = ap suc (joined_length half columns (omega (arith, even)))

-- the events are as many as all columns have
counted : (width : ℕ) (columns events : List Levels) → AreColumns width columns events [] → length events ≡ length columns * width
counted width [] events same = ap length same ∙ omega arith
counted width (column ∷ columns) events (mine, others, is, len, most, rest) =
    ap length is ∙ append_length mine others ∙ omega (arith, len, counted width columns others rest)

-- ---- one more event

-- the width of a column once each is joined with the next
doubled : (width exponent : ℕ) → width ≡ 2 ^ exponent → 2 * width ≡ 2 ^ suc exponent
doubled width exponent is = omega (arith, is)

-- there are as many columns, or one more
still_fine : (width before after : ℕ) → before ≤ after → (width ≡ 1) ⊎ (128 ≤ before) → (width ≡ 1) ⊎ (128 ≤ after)
still_fine width before after more (inl one) = inl one
still_fine width before after more (inr many) = inr (omega (arith, more, many))

record IsFull (events : List Levels) (chart : Chart) : Type 0 where
  columns : AreColumns chart.width chart.columns events []
  current : chart.current ≡ no_levels
  filled : chart.filled ≡ 0
  some : 0 < chart.width
  few : length chart.columns ≤ 256
  exponent : ℕ
  is_power : chart.width ≡ 2 ^ exponent
  fine : (chart.width ≡ 1) ⊎ (128 ≤ length chart.columns)

halves : (events : List Levels) (chart : Chart) → length events < 2 ^ 64 → IsFull events chart → IsChartOf events (halved_if_full chart)
halves events chart few full =
    by_length (length chart.columns == 256) refl
  where
    by_length : (is : Bool) → (length chart.columns == 256) ≡ is → IsChartOf events (halved_if_full chart)
    by_length true is =
        let len : length chart.columns ≡ 256 = grind (arith, is) in
        let width_is : 2 * chart.width ≡ min (2 * chart.width) (2 ^ 64 - 1) =
        omega (arith, subst (λ (n : ℕ). length events ≡ n * chart.width) len (counted chart.width chart.columns events full.columns), few) in
        rw is (record {
          remaining = [];
          columns = subst (λ (w : ℕ). AreColumns w (joined chart.columns) events []) width_is
              (joins 128 chart.width chart.columns events len full.columns);
          current = full.current;
          filled = full.filled;
          not_full = omega (arith, full.filled, full.some, width_is);
          few = omega (arith, joined_length 128 chart.columns len);
          exponent = suc full.exponent;
          is_power = sym width_is ∙ doubled chart.width full.exponent full.is_power;
          fine = inr (omega (arith, joined_length 128 chart.columns len));
        })
    by_length false is =
        let len : length chart.columns < 256 = grind (arith, is, full.few) in
        rw is (record {
          remaining = [];
          columns = full.columns;
          current = full.current;
          filled = full.filled;
          not_full = omega (arith, full.filled, full.some);
          few = len;
          exponent = full.exponent;
          is_power = full.is_power;
          fine = full.fine;
        })

adds : (events : List Levels) (chart : Chart) (levels : Levels) → length (events ++ levels ∷ []) < 2 ^ 64 → IsChartOf events chart
    → IsChartOf (events ++ levels ∷ []) (with_event levels chart)
adds events chart levels few is =
    by_room (nat_lt (chart.filled + 1) chart.width) refl
  where
    grown : chart.filled + 1 ≡ length (is.remaining ++ levels ∷ [])
    grown = omega (arith, is.filled, append_length is.remaining (levels ∷ []))

    most : greater_of chart.current levels ≡ greatest_of (is.remaining ++ levels ∷ [])
    most = ap (λ (c : Levels). greater_of c levels) is.current ∙ sym (greatest_with is.remaining levels)

    by_room : (room : Bool) → nat_lt (chart.filled + 1) chart.width ≡ room → IsChartOf (events ++ levels ∷ []) (with_event levels chart)
    by_room true room = rw room (record {
      remaining = is.remaining ++ levels ∷ [];
      columns = one_more chart.width chart.columns events is.remaining levels is.columns;
      current = most;
      filled = grown;
      not_full = grind (arith, room);
      few = is.few;
      exponent = is.exponent;
      is_power = is.is_power;
      fine = is.fine;
    })
    by_room false room = rw room (halves (events ++ levels ∷ [])
        (record { columns = chart.columns ++ greater_of chart.current levels ∷ []; current = no_levels; filled = 0; width = chart.width }) few
        (record {
          columns = subst (λ (c : Levels). AreColumns chart.width (chart.columns ++ c ∷ []) (events ++ levels ∷ []) []) (sym most)
              (closes chart.width chart.columns (events ++ levels ∷ []) (is.remaining ++ levels ∷ [])
              (sym grown ∙ grind (arith, room, is.not_full))
              (one_more chart.width chart.columns events is.remaining levels is.columns));
          current = refl;
          filled = refl;
          some = omega (arith, is.not_full);
          few = omega (arith, append_length chart.columns (greater_of chart.current levels ∷ []), is.few);
          exponent = is.exponent;
          is_power = is.is_power;
          fine = still_fine chart.width (length chart.columns) (length (chart.columns ++ greater_of chart.current levels ∷ []))
              (omega (arith, append_length chart.columns (greater_of chart.current levels ∷ []))) is.fine;
        }))

-- ---- all events

shows : (before events : List Levels) (chart : Chart) → length (before ++ events) < 2 ^ 64 → IsChartOf before chart
    → IsChartOf (before ++ events) (with_events events chart)
shows before [] chart few is = subst (λ (l : List Levels). IsChartOf l chart) (sym (append_none before)) is
shows before (levels ∷ events) chart few is =
    let split : (before ++ (levels ∷ [])) ++ events ≡ before ++ (levels ∷ events) = append_assoc before (levels ∷ []) events in
    let few_first : length (before ++ levels ∷ []) < 2 ^ 64 =
    omega (arith, few, append_length before (levels ∷ events), append_length before (levels ∷ [])) in
    subst (λ (l : List Levels). IsChartOf l (with_events events (with_event levels chart))) split
    (shows (before ++ levels ∷ []) events (with_event levels chart) (rw split few)
    (adds before chart levels few_first is))

pub shows_all : (events : List Levels) → length events < 2 ^ 64 → IsChartOf events (with_events events no_chart)
shows_all events few = shows [] events no_chart few (record {
  remaining = [];
  columns = refl;
  current = refl;
  filled = refl;
  not_full = omega arith;
  few = omega arith;
  exponent = 0;
  is_power = refl;
  fine = inl refl;
})
