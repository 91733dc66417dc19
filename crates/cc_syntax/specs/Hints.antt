-- Hints after a run: what the writer of a script might not see in its replies.
use Rattle.std.specs.Prelude.{ℕ, zero, suc, Bool, ◌==◌, ◌&&◌, nat_lt, List, [], ◌++◌, Option, Some, None, codes, if◌then◌else◌}
use Rattle.std.specs.List.{list_any}
use Rattle.cc_word.specs.declared.refusal.Refusal.TheVariants.{Full, Inexact}
use Rattle.cc_values.specs.declared.reply.Reply.{Reply}
use Rattle.cc_syntax.specs.Replies.{is_error}
use Rattle.cc_bounds.specs.Granule.{granule_of, padded_size}
use Rattle.cc_bounds.specs.Span.{from_zero}
use Rattle.cc_io.specs.Numbered.{line_with_decimal, line_with_hexadecimal, with_hexadecimal}
use Rattle.cc_syntax.specs.LineHints.{ends_in_return, has_marked_word}
use Rattle.cc_syntax.specs.Tally.{Exchange, counted, first_from, is_refusal}
use Rattle.cc_syntax.specs.declared.hints.Hints.{Hints}
use Rattle.cc_syntax.specs.declared.tally.Count.{Count}

-- The hints after a run with these replies to its setup operations, and these lines with their
-- replies. `inexact` is `pool` if a reply to the setup operations is `Inexact`. The others are the
-- numbers of the first lines that are worth a hint.
abbrev pub hints_of : (opening : List Reply) (exchanges : List Exchange) (pool : Option ℕ) → Hints
hints_of opening exchanges pool = record {
  inexact = if list_any (is_refusal Inexact) opening then pool else None;
  carriage_return = counted (first_from (λ e. is_error e.reply && ends_in_return e.line) 1 exchanges);
  marked_word = counted (first_from (λ e. is_error e.reply && has_marked_word e.line) 1 exchanges);
  full = counted (first_from (λ e. is_refusal Full e.reply) 1 exchanges);
}

-- The hint at the line with this number, or nothing for 0.
abbrev pub line_hint : (line : ℕ) (after : List ℕ) → List ℕ
line_hint zero after = []
line_hint (suc before) after = line_with_decimal (codes "hint: line ") (suc before) after

-- The hint that a pool of this length is not exact: its padded size is, at a base that is a
-- multiple of the granule of that length. Nothing if there is no such pool.
abbrev pub pool_hint : (inexact : Option ℕ) → List ℕ
pool_hint None = []
pool_hint (Some size) =
    with_hexadecimal (codes "hint: the pool's bounds are not exact: ") (padded_size size)
    ++ line_with_hexadecimal (codes " bytes from a multiple of ") (granule_of (from_zero size)) (codes " are")

-- The hints, one on each line.
abbrev pub hints_text : Hints → List ℕ
hints_text hints =
    pool_hint hints.inexact
    ++ (line_hint hints.carriage_return (codes " ends in CR: end lines in LF alone, as dos2unix does")
    ++ (line_hint hints.marked_word (codes " has a word with 0x or a colon: a word is 32 digits alone")
    ++ line_hint hints.full (codes " is refused as full: --slots N sets the limit, at most 65536")))

-- `is_in_opening` holds if the count shows that a reply to the setup operations is its refusal. No
-- public clause cites it.
abbrev pub is_in_opening : Count → Bool
is_in_opening count = nat_lt 0 count.times && (count.first == 0)
