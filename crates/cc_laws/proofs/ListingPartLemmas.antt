-- The listing of an input and of more input after it, if the first has no trailing bytes.
use Rattle.std.proofs.Common.{◌≡◌, ℕ, zero, suc, ◌+◌, ◌*◌, ◌%◌, ◌<◌, Bool, true, false, List, [], ◌∷◌, ◌++◌, length, refl, sym, ◌∙◌, ap, subst, append_assoc, append-nil, arith, inl, inr, not}
use Rattle.std.proofs.Common.{◌||◌, ◌==◌, Option, if◌then◌else◌}
use Rattle.std.proofs.lemmas.Bool.{cases_lt, eqb-true, eqb-false}
use Rattle.std.proofs.lemmas.List.{length-append, nil_from_length}
use Rattle.std.specs.Prelude.{◌↔◌}
use Rattle.std.specs.Io.KnownBytes.{Appends}
use Rattle.std.specs.List.{list_any}
use Rattle.std.proofs.lemmas.List.Folds.{list_any-append}
use Rattle.cc_io.specs.Blocks.{block_rest_from}
use Rattle.cc_io.specs.Answers.{Answer, answers_text}
use Rattle.cc_io.specs.FrameLaws.{lines_frame, blocks_frame}
use Rattle.cc_io.specs.Frames.{IsFrame}
use Rattle.cc_decode.specs.Correct.{WritesListing}
use Rattle.cc_decode.specs.Input.{frame_of, input_entries, left_of}
use Rattle.cc_decode.specs.Output.{AreAnswers, IsEnding}
use Rattle.cc_decode.specs.Place.{after_entry, header_of, options_after}
use Rattle.cc_laws.specs.ListingParts.{AreListingRows, RowsInParts}
use Rattle.cc_io.specs.declared.input_form.ByteOrder.{ByteOrder}
use Rattle.cc_io.specs.declared.input_form.InputForm.{InputForm}
use Rattle.cc_io.specs.declared.input_form.InputForm.TheVariants.{Lines, Bytes}
use Rattle.cc_decode.specs.declared.options.Options.{Options}

-- The framing of an input form cuts parts as the whole.
is_frame : (input : InputForm) → IsFrame (frame_of input)
is_frame Lines = lines_frame
is_frame (Bytes order) = blocks_frame

-- ---- inputs without trailing bytes

pub line_feed_ends : (text : List ℕ) → left_of Lines (text ++ 10 ∷ []) ≡ []
line_feed_ends text = lines_frame.left_further [] text (10 ∷ [])

-- The bytes that whole blocks leave of `total` bytes.
abbrev Leaves : (total : ℕ) (rest : List ℕ) → Type 0
Leaves total rest = (count : ℕ) × (total ≡ count * 16 + length rest) × (length rest < 16)

leaves : (begun text : List ℕ) → length begun < 16 → Leaves (length begun + length text) (block_rest_from begun text)
leaves begun [] few = (0, omega arith, few)
leaves begun (x ∷ text) few = by (length begun == 15) refl (leaves [] text) (leaves (begun ++ x ∷ []) text) where
  by : (last : Bool) → (length begun == 15) ≡ last
      → (0 < 16 → Leaves (0 + length text) (block_rest_from [] text))
      → (length (begun ++ x ∷ []) < 16 → Leaves (length (begun ++ x ∷ []) + length text) (block_rest_from (begun ++ x ∷ []) text))
      → Leaves (length begun + length (x ∷ text)) (if last then block_rest_from [] text else block_rest_from (begun ++ x ∷ []) text)
  by true is after more =
      let one = after (omega arith) in
      let full = eqb-true (length begun) 15 is in
      (one.0 + 1, omega (arith, full, one.1), one.2)
  by false is after more =
      let sized = length-append begun (x ∷ []) in
      let short : length begun < 15 = elim (cases_lt (length begun) 15) [
        | inl less ↦ less
        | inr most ↦ absurd (eqb-false (length begun) 15 is (omega (arith, most, few)))
      ] in
      let one = more (omega (arith, sized, short)) in
      (one.0, omega (arith, sized, one.1), one.2)

pub blocks_end : (order : ByteOrder) (text : List ℕ) → length text % 16 ≡ 0 → left_of (Bytes order) text ≡ []
blocks_end order text whole =
    let all = leaves [] text (omega arith) in
    nil_from_length (block_rest_from [] text) (omega (arith, whole, all.1, all.2))

-- ---- replies

replies_further : (rs ss : List Answer) → answers_text (rs ++ ss) ≡ answers_text rs ++ answers_text ss
replies_further [] ss = refl
replies_further (r ∷ rs) ss =
    ap (λ (l : List ℕ). r.text ++ l) (replies_further rs ss) ∙ sym (append_assoc r.text (answers_text rs) (answers_text ss))

-- The options for the rest of an input have its form.
same_input : (options : Options) (count : ℕ) → (options_after options count).input ≡ options.input
same_input options zero = refl
same_input options (suc count) = same_input (after_entry options) count

-- The options after some entries and then others.
options_twice : (options : Options) (m n : ℕ) → options_after (options_after options m) n ≡ options_after options (m + n)
options_twice options zero n = let same : n ≡ zero + n = omega arith in ap (options_after options) same
options_twice options (suc m) n =
    let same : suc (m + n) ≡ suc m + n = omega arith in
    options_twice (after_entry options) m n ∙ ap (options_after options) same

-- The replies to two lists of entries, joined.
answers_join : (options : Options) (xs ys : List (List ℕ)) (rs ss : List Answer) → AreAnswers options xs rs → AreAnswers (options_after options (length xs)) ys ss
    → AreAnswers options (xs ++ ys) (rs ++ ss)
answers_join options [] ys [] ss one two = two
answers_join options (x ∷ xs) ys (r ∷ rs) ss one two = (one.0, answers_join (after_entry options) xs ys rs ss one.1 two)
answers_join options [] ys (r ∷ rs) ss one two = absurd one
answers_join options (x ∷ xs) ys [] ss one two = absurd one

-- The replies to two lists of entries, cut.
record AnswersCut (options : Options) (xs ys : List (List ℕ)) (answers : List Answer) : Type 0 where
  first : List Answer
  second : List Answer
  answers_are : answers ≡ first ++ second
  of_first : AreAnswers options xs first
  of_second : AreAnswers (options_after options (length xs)) ys second

answers_cut : (options : Options) (xs ys : List (List ℕ)) (answers : List Answer) → AreAnswers options (xs ++ ys) answers → AnswersCut options xs ys answers
answers_cut options [] ys answers are = record { first = []; second = answers; answers_are = refl; of_first = tt; of_second = are }
answers_cut options (x ∷ xs) ys [] are = absurd are
answers_cut options (x ∷ xs) ys (r ∷ answers) are =
    let rest = answers_cut (after_entry options) xs ys answers are.1 in
    record {
      first = r ∷ rest.first;
      second = rest.second;
      answers_are = ap (λ (l : List Answer). r ∷ l) rest.answers_are;
      of_first = (are.0, rest.of_first);
      of_second = rest.of_second;
    }

-- The rows of an input of this form, whatever form the options have.
record RowsOf (input : InputForm) (options : Options) (text rows : List ℕ) (any_error : Bool) : Type 0 where
  answers : List Answer
  are_answers : AreAnswers options (input_entries input text) answers
  ending : List ℕ
  is_ending : IsEnding (options_after options (length (input_entries input text))) (left_of input text) ending
  rows_are : rows ≡ answers_text answers ++ ending
  error_is : any_error ≡ (list_any (λ answer. answer.is_error) answers || not (length (left_of input text) == 0))

rows_of : (options : Options) (text rows : List ℕ) (any_error : Bool) → AreListingRows options text rows any_error → RowsOf options.input options text rows any_error
rows_of options text rows any_error are = record {
  answers = are.answers;
  are_answers = are.are_answers;
  ending = are.ending;
  is_ending = are.is_ending;
  rows_are = are.rows_are;
  error_is = are.error_is;
}

listing_of : (options : Options) (text rows : List ℕ) (any_error : Bool) → RowsOf options.input options text rows any_error → AreListingRows options text rows any_error
listing_of options text rows any_error of = record { answers = of.answers; are_answers = of.are_answers; ending = of.ending; is_ending = of.is_ending; rows_are = of.rows_are; error_is = of.error_is }

module _ (options : Options) (text more : List ℕ) (ends : left_of options.input text ≡ []) where
  abbrev count : ℕ
  count = length (input_entries options.input text)

  abbrev after : Options
  after = options_after options count

  entries : input_entries options.input (text ++ more) ≡ input_entries options.input text ++ input_entries options.input more
  entries =
      (is_frame options.input).entries_further [] text more
      ∙ ap (λ (rest : List ℕ). input_entries options.input text ++ (frame_of options.input).entries rest more) ends

  last : left_of options.input (text ++ more) ≡ left_of options.input more
  last = (is_frame options.input).left_further [] text more ∙ ap (λ (rest : List ℕ). (frame_of options.input).left rest more) ends

  written : (first second : List Answer) (one two : List ℕ) → one ≡ []
      → answers_text (first ++ second) ++ two ≡ (answers_text first ++ one) ++ (answers_text second ++ two)
  written first second one two none =
      ap (λ (l : List ℕ). l ++ two) (replies_further first second)
      ∙ append_assoc (answers_text first) (answers_text second) two
      ∙ ap (λ (l : List ℕ). l ++ (answers_text second ++ two)) (sym (append-nil (answers_text first)))
      ∙ ap (λ (l : List ℕ). (answers_text first ++ l) ++ (answers_text second ++ two)) (sym none)

  -- the reply to trailing bytes is the reply in the second part
  after_all : options_after options (length (input_entries options.input (text ++ more))) ≡ options_after after (length (input_entries options.input more))
  after_all =
      ap (options_after options) (ap length entries ∙ length-append (input_entries options.input text) (input_entries options.input more))
      ∙ sym (options_twice options count (length (input_entries options.input more)))

  abbrev EndsBoth : List ℕ → Type 0
  EndsBoth ending = IsEnding (options_after options (length (input_entries options.input (text ++ more)))) (left_of options.input (text ++ more)) ending

  abbrev EndsMore : List ℕ → Type 0
  EndsMore ending = IsEnding (options_after after (length (input_entries options.input more))) (left_of options.input more) ending

  same_ending : (ending : List ℕ) → EndsBoth ending ≡ EndsMore ending
  same_ending ending i = IsEnding (after_all i) (last i) ending

  error : (first second : List Answer) → (list_any (λ a. a.is_error) (first ++ second) || not (length (left_of options.input (text ++ more)) == 0))
      ≡ ((list_any (λ a. a.is_error) first || not (length (left_of options.input text) == 0)) || (list_any (λ a. a.is_error) second || not (length (left_of options.input more) == 0)))
  error first second =
      ap (λ (rest : List ℕ). list_any (λ (a : Answer). a.is_error) (first ++ second) || not (length rest == 0)) last
      ∙ ap (λ (b : Bool). b || not (length (left_of options.input more) == 0)) (list_any-append (λ (a : Answer). a.is_error) first second)
      ∙ grouped (list_any (λ (a : Answer). a.is_error) first) (list_any (λ (a : Answer). a.is_error) second) (not (length (left_of options.input more) == 0))
      ∙ ap (λ (rest : List ℕ). (list_any (λ (a : Answer). a.is_error) first || not (length rest == 0)) ||
      (list_any (λ (a : Answer). a.is_error) second || not (length (left_of options.input more) == 0))) (sym ends)
    where
      grouped : (a b c : Bool) → ((a || b) || c) ≡ ((a || false) || (b || c))
      grouped true b c = refl
      grouped false b c = refl

  join : (rows : List ℕ) (any_error : Bool) → RowsInParts options text more rows any_error → AreListingRows options (text ++ more) rows any_error
  join rows any_error parts =
      let a = parts.of_text in
      let none : a.ending ≡ [] = subst (λ (rest : List ℕ). IsEnding (options_after options count) rest a.ending) ends a.is_ending in
      let b : RowsOf options.input after more parts.second parts.second_error =
      subst (λ (input : InputForm). RowsOf input after more parts.second parts.second_error) (same_input options count) (rows_of after more parts.second parts.second_error parts.of_more) in
      record {
        answers = a.answers ++ b.answers;
        are_answers =
            subst (λ (l : List (List ℕ)). AreAnswers options l (a.answers ++ b.answers)) (sym entries)
            (answers_join options (input_entries options.input text) (input_entries options.input more) a.answers b.answers a.are_answers b.are_answers);
        ending = b.ending;
        is_ending = subst (λ (T : Type 0). T) (sym (same_ending b.ending)) b.is_ending;
        rows_are =
            parts.rows_are ∙ ap (λ (l : List ℕ). l ++ parts.second) a.rows_are
            ∙ ap (λ (l : List ℕ). (answers_text a.answers ++ a.ending) ++ l) b.rows_are
            ∙ sym (written a.answers b.answers a.ending b.ending none);
        error_is =
            parts.error_is ∙ ap (λ (x : Bool). x || parts.second_error) a.error_is
            ∙ ap (λ (x : Bool). (list_any (λ (r : Answer). r.is_error) a.answers || not (length (left_of options.input text) == 0)) || x) b.error_is
            ∙ sym (error a.answers b.answers);
      }

  part : (rows : List ℕ) (any_error : Bool) → AreListingRows options (text ++ more) rows any_error → RowsInParts options text more rows any_error
  part rows any_error whole =
      let parts =
      answers_cut options (input_entries options.input text) (input_entries options.input more) whole.answers
      (subst (λ (l : List (List ℕ)). AreAnswers options l whole.answers) entries whole.are_answers) in
      record {
        first = answers_text parts.first ++ [];
        second = answers_text parts.second ++ whole.ending;
        first_error = list_any (λ a. a.is_error) parts.first || not (length (left_of options.input text) == 0);
        second_error = list_any (λ a. a.is_error) parts.second || not (length (left_of options.input more) == 0);
        of_text = record {
          answers = parts.first;
          are_answers = parts.of_first;
          ending = [];
          is_ending = subst (λ (rest : List ℕ). IsEnding (options_after options count) rest []) (sym ends) refl;
          rows_are = refl;
          error_is = refl;
        };
        of_more =
            listing_of after more _ _
            (subst (λ (input : InputForm). RowsOf input after more (answers_text parts.second ++ whole.ending)
            (list_any (λ a. a.is_error) parts.second || not (length (left_of options.input more) == 0))) (sym (same_input options count))
            (record {
              answers = parts.second;
              are_answers = parts.of_second;
              ending = whole.ending;
              is_ending = subst (λ (T : Type 0). T) (same_ending whole.ending) whole.is_ending;
              rows_are = refl;
              error_is = refl;
            }));
        rows_are =
            whole.rows_are ∙ ap (λ (l : List Answer). answers_text l ++ whole.ending) parts.answers_are
            ∙ written parts.first parts.second [] whole.ending refl;
        error_is =
            whole.error_is
            ∙ ap (λ (l : List Answer). list_any (λ (a : Answer). a.is_error) l || not (length (left_of options.input (text ++ more)) == 0)) parts.answers_are
            ∙ error parts.first parts.second;
      }

pub rows_in_parts : (options : Options) (text more rows : List ℕ) (any_error : Bool) → left_of options.input text ≡ []
    → AreListingRows options (text ++ more) rows any_error ↔ RowsInParts options text more rows any_error
rows_in_parts options text more rows any_error ends = (part options text more ends rows any_error, join options text more ends rows any_error)

-- A listing is the header and then the rows.
pub listing_rows : (options : Options) (text : List ℕ) (taken taken_now : Option (List ℕ)) (any_error : Bool)
    → WritesListing options text taken taken_now any_error
    ↔ ((rows : List ℕ) × AreListingRows options text rows any_error × Appends taken taken_now (header_of options ++ rows))
listing_rows options text taken taken_now any_error = (
  λ listing. (
    answers_text listing.answers ++ listing.ending,
    record {
      answers = listing.answers;
      are_answers = listing.are_answers;
      ending = listing.ending;
      is_ending = listing.is_ending;
      rows_are = refl;
      error_is = listing.error_is;
    },
    subst (λ (l : List ℕ). Appends taken taken_now l) (append_assoc (header_of options) (answers_text listing.answers) listing.ending) listing.written,
  ),
  λ parts. record {
    answers = parts.1.answers;
    are_answers = parts.1.are_answers;
    ending = parts.1.ending;
    is_ending = parts.1.is_ending;
    written =
        subst (λ (l : List ℕ). Appends taken taken_now l)
        (ap (λ (l : List ℕ). header_of options ++ l) parts.1.rows_are
        ∙ sym (append_assoc (header_of options) (answers_text parts.1.answers) parts.1.ending))
        parts.2;
    error_is = parts.1.error_is;
  },
)
