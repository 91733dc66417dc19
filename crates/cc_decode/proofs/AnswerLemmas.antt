-- The replies of a decoder are those to the whole entries.
use Rattle.std.proofs.Common.{◌≡◌, ◌↔◌, ℕ, ◌<◌, Bool, true, List, [], ◌∷◌, length, take, refl, sym, ◌∙◌, ap, subst, not, ◌==◌, arith, length-take, inl, inr, Option, None, Some, IfSome}
use Rattle.std.specs.Prelude.{IsSome}
use Rattle.std.proofs.lemmas.Bool.{cases_lt}
use Rattle.std.proofs.lemmas.List.{take_all}
use Rattle.std.proofs.Math.Dec.{eqb-suc-zero}
use Rattle.cc_io.specs.Answers.{Answer, AnswersAll, EndsWith, Relation, seen}
use Rattle.cc_decode.specs.Input.{IsWordEntry, word_of_entry}
use Rattle.cc_decode.specs.Output.{IsAnswer, IsEnding, IsUnfinished, IsWordAnswer, AreAnswers}
use Rattle.cc_decode.specs.Place.{after_entry, options_after}
use Rattle.cc_decode.specs.Decoder.{AnswersEntry, AnswersPlainly, IsEntryReply, plain_options}
use Rattle.cc_decode.specs.declared.decoder.Decoder.{Decoder}
use Rattle.cc_io.specs.declared.input_form.InputForm.{InputForm}
use Rattle.cc_io.specs.declared.input_form.InputForm.TheVariants.{Lines, Bytes}
use Rattle.cc_decode.specs.declared.options.Options.{Options}
use Rattle.cc_decode.proofs.EntryLemmas.{digits_short}

-- a word has fewer bytes than a decoder sees
word_short : (input : InputForm) (entry : List ℕ) → IsWordEntry input entry → length entry < 129
word_short Lines entry word = omega (arith, word.0, digits_short entry)
word_short (Bytes order) entry word = omega (arith, word)

-- the first 129 bytes of an entry have the reply of the whole entry
start_enough : (options : Options) (entry : List ℕ) (answer : Answer) → IsAnswer options (take 129 entry) answer → IsAnswer options entry answer
start_enough options entry answer is = elim (cases_lt (length entry) 129) [
  | inl short ↦ subst (λ (l : List ℕ). IsAnswer options l answer) (take_all 129 entry (omega arith)) is
  | inr long ↦
      let cut : length (take 129 entry) ≡ 129 = omega (arith, length-take 129 entry) in
      elim is [
        | inl word ↦ absurd (omega (arith, word_short options.input (take 129 entry) word.0, cut))
        | inr other ↦ inr (λ word. absurd (omega (arith, word_short options.input entry word, long)), other.1, other.2)
      ]
]

-- the reply to a word that was read, or to an entry that is no word, is that to the entry
pub is_answer : (options : Options) (entry : List ℕ) (word : Option ℕ) (text : List ℕ) (is_error : Bool) → (IsSome word ↔ IsWordEntry options.input entry)
    → IfSome word (λ found. found ≡ word_of_entry options.input entry) → IsEntryReply options word text is_error → IsAnswer options entry (record { text = text; is_error = is_error })
is_answer options entry None text is_error is_word value reply = inr (λ word. cc (is_word.1 word), reply.0, reply.1)
is_answer options entry (Some word) text is_error is_word value reply =
    inl (is_word.0 refl, subst (λ (found : ℕ). IsWordAnswer options found text) value reply.0, reply.1)

-- what the reply of a decoder says of its options
abbrev pub Answers : {S : Type 0} → (options_of : S → Options) → Relation S → Type 0
Answers {S} options_of Answered =
    (old : S) (entry text : List ℕ) (is_error : Bool) (new : S) → Answered old entry text is_error new
    → IsAnswer (options_of old) entry (record { text = text; is_error = is_error }) × (options_of new ≡ after_entry (options_of old))

pub answers_plainly : Answers plain_options AnswersPlainly
answers_plainly old entry text is_error new t = (t.0, ap plain_options t.1)

pub answers_entry : Answers (λ (decoder : Decoder). decoder.options) AnswersEntry
answers_entry old entry text is_error new t = (t.answer, t.options)

module _ {S : Type 0} (options_of : S → Options) (Answered : Relation S) (answers : Answers options_of Answered) where
  -- the options that a decoder has after its replies
  pub reached : (old new : S) (entries : List (List ℕ)) (replies : List Answer) → AnswersAll Answered old (seen entries) replies new
      → options_of new ≡ options_after (options_of old) (length entries)
  reached old new [] [] t = ap options_of t
  reached old new (entry ∷ entries) (reply ∷ replies) t =
      reached t.0 new entries replies t.2
      ∙ ap (λ (options : Options). options_after options (length entries)) (answers old (take 129 entry) reply.text reply.is_error t.0 t.1).1
  reached old new [] (reply ∷ replies) t = absurd t
  reached old new (entry ∷ entries) [] t = absurd t

  pub are_answers : (old new : S) (entries : List (List ℕ)) (replies : List Answer) → AnswersAll Answered old (seen entries) replies new
      → AreAnswers (options_of old) entries replies
  are_answers old new [] [] t = tt
  are_answers old new (entry ∷ entries) (reply ∷ replies) t =
      let one = answers old (take 129 entry) reply.text reply.is_error t.0 t.1 in (
        start_enough (options_of old) entry reply one.0,
        subst (λ (options : Options). AreAnswers options entries replies) one.1 (are_answers t.0 new entries replies t.2),
      )
  are_answers old new [] (reply ∷ replies) t = absurd t
  are_answers old new (entry ∷ entries) [] t = absurd t

-- the first 129 of trailing bytes have the reply of all of them
unfinished_whole : (options : Options) (rest text : List ℕ) → IsUnfinished options (take 129 rest) text → IsUnfinished options rest text
unfinished_whole options rest text is = elim (cases_lt (length rest) 129) [
  | inl short ↦ subst (λ (l : List ℕ). IsUnfinished options l text) (take_all 129 rest (omega arith)) is
  | inr long ↦
      let cut : length (take 129 rest) ≡ 129 = omega (arith, length-take 129 rest) in
      record {
        row = is.row;
        is_row = elim is.is_row [
          | inl word ↦ absurd (omega (arith, word_short options.input (take 129 rest) word.0, cut))
          | inr other ↦ inr (λ word. absurd (omega (arith, word_short options.input rest word, long)), other.1)
        ];
        text_is = is.text_is;
      }
]

-- what the reply of a decoder to trailing bytes says of its options
abbrev pub Ends : {S : Type 0} → (options_of : S → Options) → Relation S → Type 0
Ends {S} options_of Ended =
    (old : S) (rest text : List ℕ) (is_error : Bool) (new : S) → Ended old rest text is_error new
    → IsUnfinished (options_of old) rest text × (is_error ≡ true)

pub is_ending : {S : Type 0} (options_of : S → Options) (Ended : Relation S) → Ends options_of Ended → (old new : S) (rest : List ℕ) (ending : Answer)
    → EndsWith Ended old (take 129 rest) ending new → IsEnding (options_of old) rest ending.text × (ending.is_error ≡ not (length rest == 0))
is_ending {S} options_of Ended ends old new [] ending e = (e.0, e.1)
is_ending {S} options_of Ended ends old new (byte ∷ rest) ending e =
    let reply = ends old (byte ∷ take 128 rest) ending.text ending.is_error new e in
    (unfinished_whole (options_of old) (byte ∷ rest) ending.text reply.0, reply.1 ∙ sym (ap not (eqb-suc-zero (length rest))))
