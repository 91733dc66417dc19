-- The bytes of the statistics of a run: a line for each number, which is a name, a space and the
-- number.
use Rattle.std.specs.Prelude.{ℕ, zero, suc, ◌-◌, ◌*◌, ◌/◌, ◌%◌, List, [], ◌∷◌, ◌++◌, codes, decimal}
use Rattle.cc_word.specs.Refusal.{name_of}
use Rattle.cc_io.specs.Text.{with_line_feed}
use Rattle.cc_io.specs.Numbered.{line_with_decimal, line_with_hexadecimal}
use Rattle.cc_syntax.specs.declared.tally.Count.{Count}
use Rattle.cc_syntax.specs.declared.tally.Tally.{Tally}
use Rattle.cc_values.specs.declared.usage.Usage.{Usage}

-- The lines of a refusal: the number of replies that are it, and the number of the script's line
-- that got the first. The second number is 0 if a reply to the setup operations is this refusal.
abbrev pub count_lines : Count → List ℕ
count_lines count =
    with_line_feed (codes "refused." ++ name_of count.refusal ++ codes " " ++ decimal count.times)
    ++ with_line_feed (codes "first." ++ name_of count.refusal ++ codes " " ++ decimal count.first)

-- The bytes `text`, or nothing if `times` is 0.
abbrev pub lines_if : (times : ℕ) → List ℕ → List ℕ
lines_if zero text = []
lines_if (suc times) text = text

-- The lines of the counts that are not 0, in the order of the list.
abbrev pub refusal_lines : List Count → List ℕ
refusal_lines [] = []
refusal_lines (count ∷ counts) = lines_if count.times (count_lines count) ++ refusal_lines counts

-- The lines of the slots, of the limit, and of the objects by their states.
abbrev pub objects_text : Usage → List ℕ
objects_text usage =
    line_with_decimal (codes "slots ") usage.slots [] ++ line_with_decimal (codes "limit ") usage.limit []
    ++ line_with_decimal (codes "made ") usage.made [] ++ line_with_decimal (codes "live ") usage.live []
    ++ line_with_decimal (codes "quarantined ") usage.quarantined [] ++ line_with_decimal (codes "swept ") usage.swept []

-- The line of the padding in percent, from hundredths of a percent, with a point before the last
-- two digits.
unfoldable pub padding_percent_line : ℕ → List ℕ
padding_percent_line hundredths =
    with_line_feed (codes "padding.percent " ++ decimal (hundredths / 100) ++ codes "." ++ decimal (hundredths / 10 % 10) ++ decimal (hundredths % 10))

-- The part in hundredths of a percent of the whole, rounded down, or 0 if the whole is 0.
abbrev pub hundredths_of : (part whole : ℕ) → ℕ
hundredths_of part zero = 0
hundredths_of part (suc less) = part * 10000 / suc less

-- The lines of the requested bytes, of the held bytes, and of the padding: held bytes beyond the
-- requested ones.
abbrev pub byte_lines : Usage → List ℕ
byte_lines usage =
    line_with_decimal (codes "asked ") usage.asked [] ++ line_with_decimal (codes "held ") usage.held []
    ++ line_with_decimal (codes "padding ") (usage.held - usage.asked) [] ++ padding_percent_line (hundredths_of (usage.held - usage.asked) usage.held)

-- The line of the last byte below an end, or of `none` if the end is 0.
abbrev pub highest_line : (end : ℕ) → List ℕ
highest_line zero = codes "highest none\n"
highest_line (suc last) = line_with_hexadecimal (codes "highest ") last []

-- The lines of the pool, of its free bytes, of its holes, and of the highest byte that an object
-- had.
abbrev pub holes_text : Usage → List ℕ
holes_text usage =
    line_with_decimal (codes "pool ") usage.pool [] ++ line_with_decimal (codes "free ") (usage.pool - usage.held) []
    ++ line_with_decimal (codes "holes ") usage.holes [] ++ line_with_decimal (codes "largest ") usage.largest [] ++ highest_line usage.end

-- The summary of a run.
abbrev pub statistics_text : Usage → Tally → List ℕ
statistics_text usage tally =
    line_with_decimal (codes "lines ") tally.lines [] ++ refusal_lines tally.counts
    ++ objects_text usage ++ byte_lines usage ++ holes_text usage
