-- One text has one listing.
use Rattle.std.proofs.Common.{◌≡◌, ◌↔◌, ◌==◌, ◌||◌, not, ℕ, Bool, true, false, List, [], ◌∷◌, ◌++◌, length, refl, sym, ◌∙◌, ap, ap₂, subst, Option, Some, None, inl, inr, IsTrue}
use Rattle.std.specs.Io.KnownBytes.{Appends}
use Rattle.std.specs.List.{list_any}
use Rattle.cc_word.proofs.WordLemmas.{word_of-same}
use Rattle.cc_word.specs.declared.fields.Fields.{Fields}
use Rattle.cc_bounds.specs.declared.span.Span.{Span}
use Rattle.cc_bounds.specs.Decoding.{DecodesTo}
use Rattle.cc_bounds.proofs.DecodingLemmas.{DecodesTo-same}
use Rattle.cc_cap.specs.LineText.{IsWordLine, word_line_of}
use Rattle.cc_word.specs.declared.refusal.Refusal.TheVariants.{Unfinished}
use Rattle.cc_io.specs.Text.{with_line_feed}
use Rattle.cc_io.specs.Answers.{Answer, answers_text}
use Rattle.cc_cap.specs.WordTelling.{TellsWord}
use Rattle.cc_decode.specs.Correct.{WritesListing}
use Rattle.cc_decode.specs.Input.{input_entries, left_of, word_of_entry}
use Rattle.cc_decode.specs.Output.{IsAnswer, IsEnding, IsLastRow, IsRowLine, IsWordAnswer, AreAnswers, refusal_line}
use Rattle.cc_decode.specs.Place.{after_entry, header_of, options_after, place_text}
use Rattle.cc_decode.specs.Row.{IsWordRow, columns_text, csv_text, fixed_text, json_text}
use Rattle.cc_io.specs.declared.format.Format.{Format}
use Rattle.cc_io.specs.declared.format.Format.TheVariants.{Columns, Csv, Fixed, Json, Text}
use Rattle.cc_decode.specs.declared.options.Options.{Options}

-- two tests of one fact have the same result
same_test : {P : Type 0} (a b : Bool) → (IsTrue a ↔ P) → (IsTrue b ↔ P) → a ≡ b
same_test true true p q = refl
same_test false false p q = refl
same_test true false p q = cc (q.1 (p.0 refl))
same_test false true p q = cc (p.1 (q.0 refl))

-- a word has one row of each kind
one_row : (text_of : ℕ → Fields → Span → Bool → List ℕ) (word : ℕ) (one other : List ℕ) → TellsWord text_of word one → TellsWord text_of word other → one ≡ other
one_row text_of word one other p q =
    let fields : q.fields ≡ p.fields = p.only_fields q.fields q.of_word in
    let bounds : q.bounds ≡ p.bounds = p.only_bounds q.bounds (subst (λ (f : Fields). DecodesTo f q.bounds) fields q.decoded) in
    let canonical : q.canonical ≡ p.canonical = same_test q.canonical p.canonical q.is_canonical p.is_canonical in
    p.is_text
    ∙ sym (q.is_text ∙ ap (λ (f : Fields). text_of word f q.bounds q.canonical) fields ∙ ap (λ (s : Span). text_of word p.fields s q.canonical) bounds
    ∙ ap (λ (b : Bool). text_of word p.fields p.bounds b) canonical)

one_line : (word : ℕ) (one other : List ℕ) → IsWordLine word true one → IsWordLine word true other → one ≡ other
one_line word one other p q =
    let fields : q.fields ≡ p.fields = word_of-same q.fields p.fields word q.of_word p.of_word in
    let bounds : q.bounds ≡ p.bounds =
    DecodesTo-same p.fields q.bounds p.bounds (subst (λ (f : Fields). DecodesTo f q.bounds) fields q.decoded) p.decoded in
    p.text ∙ sym (q.text ∙ ap (λ (f : Fields). word_line_of f q.bounds true) fields ∙ ap (λ (s : Span). word_line_of p.fields s true) bounds)

one_word_row : (format : Format) (word : ℕ) (one other : List ℕ) → IsWordRow format word one → IsWordRow format word other → one ≡ other
one_word_row Columns word one other p q = one_row columns_text word one other p q
one_word_row Text word one other p q = one_line word one other p q
one_word_row Fixed word one other p q = one_row fixed_text word one other p q
one_word_row Csv word one other p q = one_row csv_text word one other p q
one_word_row Json word one other p q = one_row json_text word one other p q

one_row_line : (format : Format) (at : Option ℕ) (word : ℕ) (one other : List ℕ) → IsRowLine format at word one → IsRowLine format at word other → one ≡ other
one_row_line format at word one other p q =
    p.text_is ∙ ap (λ (row : List ℕ). with_line_feed (place_text format at ++ row)) (one_word_row format word p.row q.row p.is_row q.is_row) ∙ sym q.text_is

one_word_answer : (options : Options) (word : ℕ) (one other : List ℕ) → IsWordAnswer options word one → IsWordAnswer options word other → one ≡ other
one_word_answer options word one other (inl p) (inl q) = one_row_line options.format options.at word one other p.1 q.1
one_word_answer options word one other (inl p) (inr q) = absurd (q.0 p.0)
one_word_answer options word one other (inr p) (inl q) = absurd (p.0 q.0)
one_word_answer options word one other (inr p) (inr q) = p.1 ∙ sym q.1

same_answer : (one other : Answer) → one.text ≡ other.text → one.is_error ≡ other.is_error → one ≡ other
same_answer one other p q = ap₂ (λ (t : List ℕ) (b : Bool). record { text = t; is_error = b }) p q

one_answer : (options : Options) (entry : List ℕ) (one other : Answer) → IsAnswer options entry one → IsAnswer options entry other → one ≡ other
one_answer options entry one other (inl p) (inl q) =
    same_answer one other (one_word_answer options (word_of_entry options.input entry) one.text other.text p.1 q.1) (p.2 ∙ sym q.2)
one_answer options entry one other (inl p) (inr q) = absurd (q.0 p.0)
one_answer options entry one other (inr p) (inl q) = absurd (p.0 q.0)
one_answer options entry one other (inr p) (inr q) = same_answer one other (p.1 ∙ sym q.1) (p.2 ∙ sym q.2)

one_answers : (options : Options) (entries : List (List ℕ)) (answers others : List Answer) → AreAnswers options entries answers → AreAnswers options entries others
    → answers ≡ others
one_answers options [] [] [] p q = refl
one_answers options [] [] (b ∷ bs) p q = absurd q
one_answers options [] (a ∷ rest) bs p q = absurd p
one_answers options (entry ∷ entries) [] bs p q = absurd p
one_answers options (entry ∷ entries) (a ∷ rest) [] p q = absurd q
one_answers options (entry ∷ entries) (a ∷ rest) (b ∷ bs) p q =
    ap₂ (λ (x : Answer) (xs : List Answer). x ∷ xs) (one_answer options entry a b p.0 q.0) (one_answers (after_entry options) entries rest bs p.1 q.1)

one_ending : (options : Options) (rest one other : List ℕ) → IsEnding options rest one → IsEnding options rest other → one ≡ other
one_ending options [] one other p q = p ∙ sym q
one_ending options (byte ∷ rest) one other p q =
    p.text_is ∙ ap (λ (row : List ℕ). row ++ refusal_line options.format Unfinished) (same_row p.row q.row p.is_row q.is_row) ∙ sym q.text_is
  where
    same_row : (a b : List ℕ) → IsLastRow options (byte ∷ rest) a → IsLastRow options (byte ∷ rest) b → a ≡ b
    same_row a b (inl x) (inl y) = one_word_answer options (word_of_entry options.input (byte ∷ rest)) a b x.1 y.1
    same_row a b (inl x) (inr y) = absurd (y.0 x.0)
    same_row a b (inr x) (inl y) = absurd (x.0 y.0)
    same_row a b (inr x) (inr y) = x.1 ∙ sym y.1

appended : (xs bs cs : List ℕ) (u v : Option (List ℕ)) → Appends (Some xs) u bs → Appends (Some xs) v cs → bs ≡ cs → u ≡ v
appended xs bs cs None v p q same = absurd p
appended xs bs cs (Some ys) None p q same = absurd q
appended xs bs cs (Some ys) (Some zs) p q same = ap Some (p ∙ ap (λ (l : List ℕ). xs ++ l) same ∙ sym q)

pub one_listing : (options : Options) (text taken : List ℕ) (one other : Option (List ℕ)) (any_error other_error : Bool)
    → WritesListing options text (Some taken) one any_error → WritesListing options text (Some taken) other other_error
    → (one ≡ other) × (any_error ≡ other_error)
one_listing options text taken one other any_error other_error p q =
    let rest : List ℕ = left_of options.input text in
    let same : p.answers ≡ q.answers = one_answers options (input_entries options.input text) p.answers q.answers p.are_answers q.are_answers in (
      appended taken _ _ one other p.written q.written
          (ap₂ (λ (l : List Answer) (ending : List ℕ). header_of options ++ answers_text l ++ ending) same
          (one_ending (options_after options (length (input_entries options.input text))) rest p.ending q.ending p.is_ending q.is_ending)),
      p.error_is ∙ ap (λ (l : List Answer). list_any (λ (answer : Answer). answer.is_error) l || not (length rest == 0)) same ∙ sym q.error_is,
    )
