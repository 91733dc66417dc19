-- The bytes written for a text, from the contract of the pump.
use Rattle.std.proofs.Common.{◌≡◌, ◌∙◌, ℕ, true, false, List, [], ap, subst, sym, inl, inr, Option, None, Some, Result, Ok, Err}
use Rattle.std.proofs.lemmas.Bool.{false≢true}
use Rattle.cc_io.specs.Devices.{InputState, IsOutcome, OutputState}
use Rattle.cc_io.specs.declared.devices.Failed.{Failed}
use Rattle.cc_io.specs.Answers.{Relation}
use Rattle.cc_io.specs.Correct.{Pumps, PumpsText, StopsText}
use Rattle.cc_io.specs.Frames.{Frame, blocks}
use Rattle.cc_io.specs.Serving.{ServesText}
use Rattle.cc_io.specs.declared.summary.IoError.{IoError}
use Rattle.cc_io.specs.declared.summary.IoError.TheVariants.{Read, Write}
use Rattle.cc_io.specs.declared.summary.Summary.{Summary}
use Rattle.cc_io.proofs.ServingLemmas.{Makes, serves_pumped, serves_text}
use Rattle.cc_decode.specs.Input.{frame_of, input_entries}
use Rattle.cc_decode.specs.Output.{AreAnswers, EndsListing, IsEnding}
use Rattle.cc_decode.specs.Part.{frame_part, is_part_over, unread_after}
use Rattle.cc_decode.specs.Place.{header_of}
use Rattle.cc_decode.specs.Core.{ListsSegment, unread_bytes}
use Rattle.cc_decode.specs.Correct.{Lists}
use Rattle.cc_decode.specs.Decoder.{AnswersEntry, AnswersPlainly, EndsPart, EndsPlainly, plain_options}
use Rattle.cc_decode.specs.declared.decoder.Decoder.{Decoder}
use Rattle.cc_decode.specs.declared.decoder.PlainDecoder.{PlainDecoder}
use Rattle.cc_decode.specs.declared.options.Options.{Options}
use Rattle.cc_decode.specs.declared.options.Part.{Part}
use Rattle.cc_decode.specs.Skip.{Skips}
use Rattle.cc_decode.proofs.SkipLemmas.{lists_after}
use Rattle.cc_decode.proofs.AnswerLemmas.{Answers, Ends, answers_entry, answers_plainly, are_answers, is_ending, reached}
use Rattle.cc_decode.proofs.PartLemmas.{Counts, pumps_first, stays, stops_first}

-- a decoder gives the replies of its options
makes : {S : Type 0} (options_of : S → Options) (Answered Ended : Relation S) → Answers options_of Answered
    → Ends options_of Ended → (old new : S) → Makes Answered Ended (AreAnswers (options_of old)) (EndsListing (options_of old)) old new
makes {S} options_of Answered Ended replies ends old new = record {
  are = λ entries answers mid rest ending takes e. are_answers options_of Answered replies old mid entries answers takes;
  ends = λ entries answers mid rest ending takes e.
      let reply = is_ending options_of Ended ends mid new rest ending e in
      (subst (λ (o : Options). IsEnding o rest ending.text) (reached options_of Answered replies old mid entries answers takes) reply.0, reply.1);
}

-- the promises of the pump for a plain decoder give what `decode_words` promises, after skipped bytes
pub lists_plainly : (part : Part) (options : Options) (old new : PlainDecoder) (pending : List ℕ) (a b c : InputState) (t u : OutputState) (result : Result Summary IoError)
    → part.count ≡ None → plain_options old ≡ options → pending ≡ header_of options → Skips {E = Failed} part.skipped a b (Ok tt) → IsOutcome c u result
    → Pumps (λ (state : PlainDecoder). false) AnswersPlainly EndsPlainly (frame_of options.input) 32768 512 old pending b.unread c.unread t.taken u.taken result new
    → Lists part options a c t u result
lists_plainly part options old new pending a b c t u result all same is skips outcome p =
    let served =
    serves_pumped AnswersPlainly EndsPlainly (AreAnswers options) (EndsListing options) old new
    (subst (λ (o : Options). Makes AnswersPlainly EndsPlainly (AreAnswers o) (EndsListing o) old new) same
    (makes plain_options AnswersPlainly EndsPlainly answers_plainly (λ mid rest text is_error next ends. ends) old new))
    (frame_of options.input) 32768 512 pending (header_of options) b c t u result is outcome p in
    lists_after part options a b c t u result served.text skips served.given outcome
    (subst (λ (count : Option ℕ). ServesText (AreAnswers options) (EndsListing options) (frame_part count (frame_of options.input)) 32768 512 (header_of options) served.text
    (unread_after count (input_entries options.input served.text) c.unread) t.taken u.taken result) (sym all) served.serves)

counts : Counts (λ (decoder : Decoder). decoder.left) AnswersEntry EndsPart
counts = record {
  fewer = λ old entry text is_error new t. t.left;
  going = λ old entry text is_error new t. t.goes_on;
  ended = λ old rest text is_error new t. t.2;
}

-- the promises of the pump for a decoder, of the text that the source gave
pub serves_part : (count : Option ℕ) (options : Options) (frame : Frame) (old new : Decoder) (pending : List ℕ) (b c t u : Option (List ℕ)) (result : Result Summary IoError)
    → old.left ≡ count → old.options ≡ options
    → (p : Pumps (λ (decoder : Decoder). is_part_over decoder.left) AnswersEntry EndsPart frame 32768 512 old pending b c t u result new)
    → ServesText (AreAnswers options) (EndsListing options) (frame_part count frame) 32768 512 pending p.text (unread_after count (frame.entries [] p.text) c) t u result
serves_part count options frame old new pending b c t u result limit same p =
    serves_text AnswersEntry EndsPart (AreAnswers options) (EndsListing options) old new made (frame_part count frame) 32768 512 pending p.text
    (unread_after count (frame.entries [] p.text) c) t u result (pumped count limit)
  where
    made : Makes AnswersEntry EndsPart (AreAnswers options) (EndsListing options) old new
    made =
        subst (λ (o : Options). Makes AnswersEntry EndsPart (AreAnswers o) (EndsListing o) old new) same
        (makes (λ (decoder : Decoder). decoder.options) AnswersEntry EndsPart answers_entry (λ mid rest text is_error next ends. (ends.0, ends.1)) old new)

    going : old.left ≡ None → (result : Result Summary IoError) → is_part_over new.left ≡ true → StopsText AnswersEntry frame old pending p.text t u result new → ⊥
    going none (Ok summary) done s = false≢true (ap is_part_over (sym (stays (λ (it : Decoder). it.left) AnswersEntry EndsPart counts old new s.answered s.answers none s.takes)) ∙ done)
    going none (Err Read) done s = s
    going none (Err Write) done s = false≢true (ap is_part_over (sym (stays (λ (it : Decoder). it.left) AnswersEntry EndsPart counts old new s.1.answered s.1.answers none s.1.takes)) ∙ done)

    pumped : (count : Option ℕ) → old.left ≡ count
        → PumpsText AnswersEntry EndsPart (frame_part count frame) 32768 512 old pending p.text (unread_after count (frame.entries [] p.text) c) t u result new
    pumped None none = elim p.pumps [
      | inl whole ↦ whole
      | inr early ↦ absurd (going none result early.0 early.1)
    ]
    pumped (Some most) some = elim p.pumps [
      | inl whole ↦
          pumps_first (λ (decoder : Decoder). decoder.left) AnswersEntry EndsPart counts frame p.text most 32768 512 old new pending c t u result some whole
      | inr early ↦
          stops_first (λ (decoder : Decoder). decoder.left) AnswersEntry EndsPart counts frame p.text most 32768 512 old new pending c t u result some
          early.0 early.1
    ]

-- the promises of the pump for a decoder give what `decode_words` promises, after skipped bytes
pub lists_part : (part : Part) (options : Options) (old new : Decoder) (pending : List ℕ) (a b c : InputState) (t u : OutputState) (result : Result Summary IoError)
    → old.left ≡ part.count → old.options ≡ options → pending ≡ header_of options → Skips {E = Failed} part.skipped a b (Ok tt) → IsOutcome c u result
    → Pumps (λ (decoder : Decoder). is_part_over decoder.left) AnswersEntry EndsPart (frame_of options.input) 32768 512 old pending b.unread c.unread t.taken u.taken result new
    → Lists part options a c t u result
lists_part part options old new pending a b c t u result limit same is skips outcome p =
    let entries : List (List ℕ) = input_entries options.input p.text in
    lists_after part options a b c t u result p.text skips p.given outcome
    (subst (λ (l : List ℕ). ServesText (AreAnswers options) (EndsListing options) (frame_part part.count (frame_of options.input)) 32768 512 l p.text
    (unread_after part.count entries c.unread) t.taken u.taken result) is
    (serves_part part.count options (frame_of options.input) old new pending b.unread c.unread t.taken u.taken result limit same p))

-- the promises of the pump for a decoder of a segment, whose source does not fail
pub lists_segment : (options : Options) (old new : Decoder) (pending words left : List ℕ) (t u : OutputState) (result : Result Summary IoError)
    → old.left ≡ None → old.options ≡ options → pending ≡ [] → IsOutcome (unread_bytes left) u result
    → Pumps (λ (decoder : Decoder). is_part_over decoder.left) AnswersEntry EndsPart blocks 32768 512 old pending (Some words) (Some left) t.taken u.taken result new
    → ListsSegment options words t u result
lists_segment options old new pending words left t u result limit same none outcome p = record {
  left = left;
  serves = record {
    text = p.text;
    given = p.given;
    serves = subst (λ (l : List ℕ). ServesText (AreAnswers options) (EndsListing options) blocks 32768 512 l p.text (Some left) t.taken u.taken result) none
        (serves_part None options blocks old new pending (Some words) (Some left) t.taken u.taken result limit same p);
    outcome = outcome;
  };
}
