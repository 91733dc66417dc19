-- The columns of a chart: each has the largest levels of the same number of successive events.
use Rattle.std.specs.Prelude.{ℕ, ◌≡◌, ◌⊎◌, ◌≤◌, ◌<◌, min, ◌+◌, ◌-◌, ◌*◌, ◌^◌, ◌==◌, nat_lt, List, [], ◌∷◌, ◌++◌, length, if◌then◌else◌}
use Rattle.cc_heap.specs.declared.levels.Levels.{Levels}
use Rattle.cc_heap.specs.Levels.{greater_of, greatest_of, no_levels}

-- A chart: the full columns, each of `width` events, the largest levels of the events after them, and
-- the number of these.
pub record Chart : Type 0 where
  pub columns : List Levels
  pub current : Levels
  pub filled : ℕ
  pub width : ℕ

-- A chart of no events.
abbrev pub no_chart : Chart
no_chart = record { columns = []; current = no_levels; filled = 0; width = 1 }

-- The columns, each joined with the next: first and second, third and fourth, and so on.
abbrev pub joined : List Levels → List Levels
joined [] = []
joined (last ∷ []) = last ∷ []
joined (first ∷ second ∷ others) = greater_of first second ∷ joined others

-- The chart with half as many columns, each of twice as many events, at most 2^64 - 1, if it has 256.
abbrev pub halved_if_full : Chart → Chart
halved_if_full chart =
    if length chart.columns == 256
    then record chart { columns = joined chart.columns; width = min (2 * chart.width) (2 ^ 64 - 1) }
    else chart

-- The chart with one more column.
abbrev pub with_column : Levels → Chart → Chart
with_column column chart = halved_if_full (record chart {
  columns = chart.columns ++ column ∷ [];
  current = no_levels;
  filled = 0;
})

-- The chart with the levels of one more event.
abbrev pub with_event : Levels → Chart → Chart
with_event levels chart =
    if nat_lt (chart.filled + 1) chart.width
    then record chart { current = greater_of chart.current levels; filled = chart.filled + 1 }
    else with_column (greater_of chart.current levels) chart

-- The chart with the levels of the events, in order.
abbrev pub with_events : List Levels → Chart → Chart
with_events [] chart = chart
with_events (levels ∷ others) chart = with_events others (with_event levels chart)

-- The columns that are drawn: the full ones, and one of the events after them, if there are any.
abbrev pub drawn_columns : Chart → List Levels
drawn_columns chart = if chart.filled == 0 then chart.columns else (chart.columns ++ chart.current ∷ [])

-- The number of events.
abbrev pub event_count : Chart → ℕ
event_count chart = length chart.columns * chart.width + chart.filled

-- ---- What a chart shows.

-- AreColumns holds if the events are, in order, `width` for each column, and then the remaining ones. A
-- column has the largest levels of its events.
abbrev pub AreColumns : (width : ℕ) → (columns events remaining : List Levels) → Type 0
AreColumns width [] events remaining = events ≡ remaining
AreColumns width (column ∷ columns) events remaining =
    (mine : List Levels) × (others : List Levels) × (events ≡ mine ++ others) × (length mine ≡ width)
    × (column ≡ greatest_of mine) × AreColumns width columns others remaining

-- IsChartOf holds if the chart shows the events: each in a column, the last ones in the current column, which
-- is not full. There are fewer than 256 full columns. A column has one event, or a higher power of two of them,
-- and then at least 128 columns are full.
pub record IsChartOf (events : List Levels) (chart : Chart) : Type 0 where
  pub remaining : List Levels
  pub columns : AreColumns chart.width chart.columns events remaining
  pub current : chart.current ≡ greatest_of remaining
  pub filled : chart.filled ≡ length remaining
  pub not_full : chart.filled < chart.width
  pub few : length chart.columns < 256
  pub exponent : ℕ
  pub is_power : chart.width ≡ 2 ^ exponent
  pub fine : (chart.width ≡ 1) ⊎ (128 ≤ length chart.columns)
