-- Usages, layouts and listings that break the claims of the laws of drawings and listings.
use Rattle.std.proofs.Common.{ℕ, zero, suc, Bool, true, false, ◌≡◌, ◌<◌, ◌≤◌, ◌||◌, ◌==◌, not, List, [], ◌∷◌, ◌++◌, length, map, Contains, refl, sym, ap, subst, ◌∙◌, arith}
use Rattle.cc_bounds.specs.declared.span.Span.{Span}
use Rattle.cc_bounds.specs.Span.{HasByte, length_of, span_from}
use Rattle.cc_values.specs.declared.usage.Usage.{Usage}
use Rattle.std.specs.List.{list_any}
use Rattle.cc_io.specs.Answers.{Answer, answers_text}
use Rattle.cc_io.specs.declared.input_form.InputForm.{InputForm}
use Rattle.cc_io.specs.declared.input_form.InputForm.TheVariants.{Lines}
use Rattle.cc_draw.specs.Usage.{largest_of}
use Rattle.cc_decode.specs.declared.options.Options.{Options}
use Rattle.cc_decode.specs.Input.{input_entries, left_of}
use Rattle.cc_decode.specs.Output.{AreAnswers, IsEnding}
use Rattle.cc_decode.specs.Place.{options_after}
use Rattle.cc_laws.specs.DrawnObjects.{AreHoles, CountsFreeBytes, IsDrawnExactly, IsFree}
use Rattle.cc_laws.specs.ListingParts.{AreListingRows, RowsInParts}

-- ---- usages

-- the first byte is free
first-free : IsFree (span_from 0 16) [] 0
first-free = record {
  in_pool = record { from_base = omega arith; below_top = omega arith };
  apart = λ span among. absurd (omega (arith, among.1));
}

-- so a hole has it
has-hole : (gaps : List Span) → AreHoles (span_from 0 16) [] gaps → (gap : Span) × Contains gaps gap × HasByte gap 0
has-hole gaps are = let one = (are.free 0).0 first-free in (one.value, one.has.0, one.has.1)

pub holes-break : (usage : Usage) → usage.holes ≡ 0 → ¬ CountsFreeBytes (span_from 0 16) [] usage
holes-break usage none counts =
    let hole = has-hole counts.gaps counts.are_holes in
    let within = hole.1.1 in
    absurd (omega (arith, none, counts.count, within))

-- the length of a hole is at most the largest
greatest-le : (gaps : List Span) (gap : Span) → Contains gaps gap → length_of gap ≤ largest_of (map length_of gaps)
greatest-le [] gap (k, within, is) = absurd (omega (arith, within))
greatest-le (first ∷ gaps) gap (zero, within, is) =
    let same = ap length_of is in omega (arith, same)
greatest-le (first ∷ gaps) gap (suc k, within, is) = omega (arith, greatest-le gaps gap (k, omega (arith, within), is))

pub largest-breaks : (usage : Usage) → usage.largest ≡ 0 → ¬ CountsFreeBytes (span_from 0 16) [] usage
largest-breaks usage none counts =
    let hole = has-hole counts.gaps counts.are_holes in
    let le = greatest-le counts.gaps hole.0 hole.1 in
    let byte = hole.2 in
    absurd (omega (arith, none, counts.largest, le, byte.from_base, byte.below_top))

-- ---- layouts

pub some-breaks : ¬ IsDrawnExactly (record { start = 0; size = 1; cells = 1; width = 1 }) (span_from 0 0)
some-breaks drawn = let some = drawn.some in absurd (omega (arith, some))

pub in_layout-breaks : ¬ IsDrawnExactly (record { start = 0; size = 1; cells = 1; width = 1 }) (span_from 0 2)
in_layout-breaks drawn = let fits = drawn.in_layout in absurd (omega (arith, fits))

-- ---- listings

-- no input has no rows, and no error
no_answers : (options : Options) (answers : List Answer) → AreAnswers options [] answers → answers ≡ []
no_answers options [] are = refl
no_answers options (answer ∷ answers) are = absurd are

record HasNoRows (rows : List ℕ) (any_error : Bool) : Type 0 where
  rows_none : rows ≡ []
  error_none : any_error ≡ false

nothing : (options : Options) (rows : List ℕ) (any_error : Bool) → options.input ≡ Lines → AreListingRows options [] rows any_error
    → HasNoRows rows any_error
nothing options rows any_error lines listing =
    let entries : input_entries options.input [] ≡ [] = ap (λ (input : InputForm). input_entries input []) lines in
    let left : left_of options.input [] ≡ [] = ap (λ (input : InputForm). left_of input []) lines in
    let none = no_answers options listing.answers (subst (λ (e : List (List ℕ)). AreAnswers options e listing.answers) entries listing.are_answers) in
    let over : listing.ending ≡ [] =
    subst (λ (rest : List ℕ). IsEnding (options_after options (length (input_entries options.input []))) rest listing.ending) left listing.is_ending in
    record {
      rows_none = listing.rows_are ∙ (λ i. answers_text (none i) ++ over i);
      error_none =
          listing.error_is
          ∙ (λ i. list_any (λ (answer : Answer). answer.is_error) (none i) || not (length (left i) == 0));
    }

-- the second part has lines too
still-lines : (options : Options) → options.input ≡ Lines → (options_after options (length (input_entries options.input []))).input ≡ Lines
still-lines options lines =
    let entries : input_entries options.input [] ≡ [] = ap (λ (input : InputForm). input_entries input []) lines in
    ap (λ (e : List (List ℕ)). (options_after options (length e)).input) entries ∙ lines

pub rows-break : (options : Options) → options.input ≡ Lines → ¬ RowsInParts options [] [] (10 ∷ []) false
rows-break options lines parts =
    let one = nothing options parts.first parts.first_error lines parts.of_text in
    let two = nothing (options_after options (length (input_entries options.input []))) parts.second parts.second_error (still-lines options lines) parts.of_more in
    let same : 10 ∷ [] ≡ [] = parts.rows_are ∙ (λ i. one.rows_none i ++ two.rows_none i) in
    let count : 1 ≡ 0 = ap (λ (l : List ℕ). length l) same in
    absurd (omega (arith, count))

pub error-breaks : (options : Options) → options.input ≡ Lines → ¬ RowsInParts options [] [] [] true
error-breaks options lines parts =
    let one = nothing options parts.first parts.first_error lines parts.of_text in
    let two = nothing (options_after options (length (input_entries options.input []))) parts.second parts.second_error (still-lines options lines) parts.of_more in
    let same : true ≡ false = parts.error_is ∙ (λ i. one.error_none i || two.error_none i) in
    cc

pub row-breaks : (options : Options) → options.input ≡ Lines → ¬ AreListingRows options [] (10 ∷ []) false
row-breaks options lines rows =
    let none : 10 ∷ [] ≡ [] = (nothing options (10 ∷ []) false lines rows).rows_none in
    let count : 1 ≡ 0 = ap (λ (l : List ℕ). length l) none in
    absurd (omega (arith, count))

-- ---- holes

pub free-breaks : ¬ AreHoles (span_from 0 16) [] []
free-breaks are = let hole = has-hole [] are in let within = hole.1.1 in absurd (omega (arith, within))

pub in_pool-breaks : ¬ AreHoles (span_from 0 16) [] (span_from 0 17 ∷ [])
in_pool-breaks are =
    let free = (are.free 16).1 (record { value = span_from 0 17; has = ((0, omega arith, refl), last); only = only }) in
    let below = free.in_pool.below_top in
    absurd (omega (arith, below))
  where
    last : HasByte (span_from 0 17) 16
    last = record { from_base = omega arith; below_top = omega arith }

    only : (other : Span) → Contains (span_from 0 17 ∷ []) other × HasByte other 16 → other ≡ span_from 0 17
    only other ((zero, within, is), byte) = sym is
    only other ((suc k, within, is), byte) = absurd (omega (arith, within))

pub apart-breaks : ¬ AreHoles (span_from 0 16) [] (span_from 0 8 ∷ span_from 8 8 ∷ [])
apart-breaks are =
    let apart : 8 < 8 = are.apart 0 1 (span_from 0 0) (omega arith) (omega arith) in absurd (omega (arith, apart))

pub empty-breaks : ¬ AreHoles (span_from 0 0) [] (span_from 0 0 ∷ [])
empty-breaks are = let some : 0 < 0 = are.some 0 (span_from 0 0) (omega arith) in absurd (omega (arith, some))
