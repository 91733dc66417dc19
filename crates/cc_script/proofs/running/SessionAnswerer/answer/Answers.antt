use Rattle.std.proofs.Common.{◌∙◌, ap, arith, ◌++◌, ℕ, List, length, length-append, refl, subst, sym}
use Rattle.cc_values.specs.declared.reply.Reply.TheVariants.{Refused}
use Rattle.cc_io.specs.Text.{refusal_text}
use Rattle.cc_script.specs.Output.{with_line_feed}
use Rattle.cc_syntax.specs.Replies.{reply_text}
use Rattle.cc_syntax.specs.Tally.{IsTally}
use Rattle.cc_syntax.specs.declared.tally.Tally.{Tally}
use Rattle.cc_script.proofs.running.SessionAnswerer.answer.Goals as goal

pub returns-in-Ok : goal.returns-in-Ok
returns-in-Ok g c =
    let r = c.in-Ok.ensures.answers in
    record {
      text = with_line_feed (reply_text r.reply);
      out_is = r.text_is;
      answered = record {
        reply = r.reply;
        takes = r.takes;
        text_is = refl;
        error_is = sym r.error_is;
        fits = omega (arith, c.answer_line.ensures.fits, ap (λ (l : List ℕ). length l) r.text_is, length-append c.args.out.now (with_line_feed (reply_text r.reply)));
        counted = λ opening exchanges whole is counts. c.take_line.ensures opening exchanges whole r.reply r.error_is
            (subst (λ (tally : Tally). IsTally opening exchanges tally) (sym c.answer_line.ensures.tally) counts);
        same = c.answer_line.ensures.same;
      };
    }

pub returns-in-Err : goal.returns-in-Err
unfolding reply_text
returns-in-Err g c =
    let text = with_line_feed (refusal_text c.in-Err.refusal) in
    let same = c.in-Err.ensures.answers.1 in
    let out_is = c.push_refusal.ensures.value ∙ ap (λ (l : List ℕ). l ++ text) same in
    record {
      text = text;
      out_is = out_is;
      answered = record {
        reply = Refused c.in-Err.refusal;
        takes = c.in-Err.ensures.answers.0;
        text_is = refl;
        error_is = refl;
        fits = omega (arith, c.push_refusal.ensures.fits, ap (λ (l : List ℕ). length l) out_is, ap (λ (l : List ℕ). length l) same, length-append c.args.out.now text);
        counted = λ opening exchanges whole is counts. c.take_refused.ensures opening exchanges whole is
            (subst (λ (tally : Tally). IsTally opening exchanges tally) (sym c.answer_line.ensures.tally) counts);
        same = c.answer_line.ensures.same;
      };
    }
