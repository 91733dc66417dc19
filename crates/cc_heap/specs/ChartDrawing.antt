-- The SVG document of a chart. Its curves are 6,400 units wide and 3,200 high. It has only fixed strings, digits and
-- the caption, so if no character of the caption needs an escape, none does.
use Rattle.std.specs.Prelude.{ℕ, zero, suc, ◌+◌, ◌*◌, ◌/◌, ◌%◌, ◌^◌, min, nat_lt, List, [], ◌∷◌, ◌++◌, codes, if◌then◌else◌}
use Rattle.cc_io.specs.Svg.{markup, opening_text, sheet_text}
use Rattle.cc_io.specs.Numbered.{line_with_decimal, with_decimal}
use Rattle.cc_heap.specs.declared.curves.Curve.{Curve}
use Rattle.cc_heap.specs.declared.curves.Curve.TheVariants.{Live, Quarantine, Held, High}
use Rattle.cc_heap.specs.declared.levels.Levels.{Levels}
use Rattle.cc_heap.specs.Levels.{greatest_of}
use Rattle.cc_heap.specs.Chart.{Chart, drawn_columns, event_count}
use Rattle.cc_heap.specs.Scale.{Scale, down_to, event_step, reach_of, right_to, scale_of, step_count, step_power}

-- ---- The curves.

-- The bytes of a curve.
abbrev pub bytes_of : Curve → Levels → ℕ
bytes_of Live levels = levels.live
bytes_of Quarantine levels = levels.quarantine
bytes_of Held levels = levels.held
bytes_of High levels = levels.high

-- The stroke of a curve: a color and a pattern of dashes, and the end of its element.
unfoldable pub stroke_text : Curve → List ℕ
stroke_text Live = codes "' fill='none' stroke='#0072b2' stroke-width='30'/>\n"
stroke_text Quarantine = codes "' fill='none' stroke='#d55e00' stroke-width='26' stroke-dasharray='30 30'/>\n"
stroke_text Held = codes "' fill='none' stroke='#000' stroke-width='22' stroke-dasharray='110 45'/>\n"
stroke_text High = codes "' fill='none' stroke='#009e73' stroke-width='22' stroke-dasharray='150 40 30 40'/>\n"

-- The steps of a curve: for each column a line up or down to its bytes, and a line to its last event.
abbrev pub steps_text : Curve → Scale → (column : ℕ) → List Levels → List ℕ
steps_text curve scale column [] = []
steps_text curve scale column (levels ∷ others) =
    with_decimal (codes "V") (down_to scale (bytes_of curve levels))
    ++ with_decimal (codes "H") (right_to scale ((column + 1) * scale.width))
    ++ steps_text curve scale (column + 1) others

-- A curve, from the lower left end.
abbrev pub curve_text : Curve → Scale → List Levels → List ℕ
curve_text curve scale columns = codes "<path d='M0,3200" ++ steps_text curve scale 0 columns ++ stroke_text curve

-- ---- The axes.

-- The name of the unit of 2^(10 * thousands) bytes, and the end of the label.
unfoldable pub byte_unit : (thousands : ℕ) → List ℕ
byte_unit zero = codes " B</text>\n"
byte_unit (suc zero) = codes " KiB</text>\n"
byte_unit (suc (suc zero)) = codes " MiB</text>\n"
byte_unit (suc (suc (suc zero))) = codes " GiB</text>\n"
byte_unit (suc (suc (suc (suc zero)))) = codes " TiB</text>\n"
byte_unit (suc (suc (suc (suc (suc zero))))) = codes " PiB</text>\n"
byte_unit _ = codes " EiB</text>\n"

-- A line across the chart at a number of steps, with the bytes.
abbrev pub byte_label : (power units step : ℕ) → List ℕ
byte_label power units step =
    line_with_decimal (codes "<path d='M-60,") units (codes "H6400' stroke='#bbb' stroke-width='8'/>")
    ++ with_decimal (codes "<text x='-100' dy='42' text-anchor='end' y='") units
    ++ with_decimal (codes "'>") (step * 2 ^ (power % 10)) ++ byte_unit (power / 10)

-- The labels of the vertical axis from 0 to a number of steps.
abbrev pub byte_labels : Scale → (power steps : ℕ) → List ℕ
byte_labels scale power zero = byte_label power (down_to scale 0) 0
byte_labels scale power (suc steps) =
    byte_labels scale power steps ++ byte_label power (down_to scale (suc steps * 2 ^ power)) (suc steps)

-- The events that a label counts by: 1, or a thousand, a million or a billion if the step is one at least.
abbrev pub event_unit : (step : ℕ) → ℕ
event_unit step =
    if nat_lt step (10 ^ 3) then 1 else if nat_lt step (10 ^ 6) then 10 ^ 3 else if nat_lt step (10 ^ 9) then 10 ^ 6 else 10 ^ 9

-- The letter of the unit by which a label counts events, and the end of the label.
abbrev pub event_letter : (step : ℕ) → List ℕ
event_letter step =
    if nat_lt step (10 ^ 3) then codes "</text>\n"
    else if nat_lt step (10 ^ 6) then codes "k</text>\n"
    else if nat_lt step (10 ^ 9) then codes "M</text>\n" else codes "G</text>\n"

-- A mark below the chart at an event, with its number.
abbrev pub event_label : Scale → (step event : ℕ) → List ℕ
event_label scale step event =
    line_with_decimal (codes "<path d='M") (right_to scale event) (codes ",3200v60' stroke='#000' stroke-width='16'/>")
    ++ with_decimal (codes "<text y='3400' text-anchor='middle' x='") (right_to scale event)
    ++ with_decimal (codes "'>") (event / event_unit step) ++ event_letter step

-- The labels of the horizontal axis from 0 to a number of steps.
abbrev pub event_labels : Scale → (step steps : ℕ) → List ℕ
event_labels scale step zero = event_label scale step 0
event_labels scale step (suc steps) = event_labels scale step steps ++ event_label scale step (suc steps * step)

-- ---- The document.

-- The number of events, and the number of events in a column.
abbrev pub chart_counts_text : (events width : ℕ) → List ℕ
chart_counts_text events width =
    with_decimal (codes "<desc>Events: ") events ++ line_with_decimal (codes ", in each column: ") width (codes "</desc>")

-- An entry of the legend: the stroke of a curve, and its name.
unfoldable pub entry_text : (before : List ℕ) → Curve → (after : List ℕ) → List ℕ
entry_text before curve after = before ++ stroke_text curve ++ after

-- The legend.
abbrev pub chart_legend_text : List ℕ
chart_legend_text =
    entry_text (codes "<path d='M0,-300h600") Live (codes "<text x='660' y='-258'>live</text>\n")
    ++ entry_text (codes "<path d='M1300,-300h600") Quarantine (codes "<text x='1960' y='-258'>quarantined</text>\n")
    ++ entry_text (codes "<path d='M3000,-300h600") Held (codes "<text x='3660' y='-258'>held</text>\n")
    ++ entry_text (codes "<path d='M4300,-300h600") High (codes "<text x='4960' y='-258'>high-water mark</text>\n")

-- The curves: the high-water mark, and the held, the quarantined and the live bytes.
abbrev pub curves_text : Scale → List Levels → List ℕ
curves_text scale columns =
    curve_text High scale columns ++ curve_text Held scale columns ++ curve_text Quarantine scale columns
    ++ curve_text Live scale columns

-- The labels of both axes.
abbrev pub labels_text : Scale → (reach : ℕ) → List ℕ
labels_text scale reach =
    byte_labels scale (step_power reach) (step_count reach)
    ++ event_labels scale (event_step scale.events) (min (scale.events / event_step scale.events) 10)

-- What depends on the scales: the labels and the curves.
abbrev pub scaled_text : Scale → (reach : ℕ) → List Levels → List ℕ
scaled_text scale reach columns = labels_text scale reach ++ curves_text scale columns

-- The caption above the legend.
abbrev pub caption_text : (caption : List ℕ) → List ℕ
caption_text caption = codes "<text x='0' y='-500'>" ++ caption ++ codes "</text>\n"

-- The drawing of columns of `width` events each. At its end are the axes, and the name of the horizontal one.
abbrev pub drawing_of : (caption : List ℕ) → (events width : ℕ) → List Levels → List ℕ
drawing_of caption events width columns =
    opening_text (codes "width='800' height='440' viewBox='-1050 -700 8000 4400' font-family='sans-serif' font-size='120'")
    ++ markup (codes "<title>The heap of a trace</title>\n") ++ chart_counts_text events width
    ++ sheet_text (codes "x='-1050' y='-700' width='8000' height='4400'")
    ++ scaled_text (scale_of (reach_of (greatest_of columns)) events width) (reach_of (greatest_of columns)) columns
    ++ caption_text caption ++ chart_legend_text ++ markup (codes "<path d='M0,0V3200H6400' fill='none' stroke='#000' stroke-width='16'/>\n")
    ++ markup (codes "<text x='3200' y='3580' text-anchor='middle'>events</text>\n</svg>\n")

-- The text of a chart with a caption.
abbrev pub chart_text : (caption : List ℕ) → Chart → List ℕ
chart_text caption chart = drawing_of caption (event_count chart) chart.width (drawn_columns chart)
