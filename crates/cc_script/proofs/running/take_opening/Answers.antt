use Rattle.std.proofs.Common.{◌∙◌, ◌||◌, ◌++◌, Bool, List, Ok, ap, arith, length, refl, rules, sym, ℕ}
use Rattle.std.proofs.Math.Bool.{or-false, or-true}
use Rattle.cc_values.specs.declared.reply.Reply.TheVariants.{Refused}
use Rattle.cc_io.specs.Text.{refusal_text, with_line_feed}
use Rattle.cc_syntax.proofs.TallyLemmas.{opening_taken}
use Rattle.cc_syntax.specs.Replies.{reply_text}
use Rattle.cc_script.proofs.SessionLemmas.{opens_none, opens_passed, opens_more, opens_stops, opens_whole}
use Rattle.cc_script.proofs.running.take_opening.Goals.{in-Err-answer_op, in_default}
use Rattle.cc_script.proofs.running.take_opening.Goals as goal

pub loop-op-init : goal.loop-op-init
loop-op-init g c = record { opens = opens_none _ _ _ _ _ c.requires.empty; works = search rules }

pub push_refusal-requires : goal.push_refusal-requires
push_refusal-requires g c = omega (arith, c.in-Ok.ensures.room, ap length (c.in-Err-answer_op.ensures.answers (Ok c.op-item.result) refl).1)

pub loop-op-preserved : goal.loop-op-preserved
unfolding reply_text
loop-op-preserved g c =
    let passed = opens_passed _ _ _ _ _ _ _ _ _ _ _ _ c.loop-op.invariant.opens c.in-Ok.ensures.ok in
    let more = opens_more _ _ _ _ _ _ _ _ _ _ _ _ _ _ _ _ passed c.loop-op-test.true c.op-item.is c.in-Ok.ensures.room in
    record {
      opens = elim c.match-answer_op.branch [
        | in-Err-answer_op w ↦
            let refused = w.in-Err-answer_op.ensures.answers (Ok c.op-item.result) refl in
            let page_is = w.page-is ∙ w.push_refusal.ensures.value ∙ ap (λ (l : List ℕ). l ++ with_line_feed (refusal_text w.in-Err-answer_op.refusal)) refused.1 in
            more (Refused w.in-Err-answer_op.refusal) refused.0 page_is (omega (arith, ap length w.page-is, w.push_refusal.ensures.fits, ap length refused.1))
            (w.any_error-is ∙ sym (or-true _)) (rw w.tally-is w.take_refused_opening.ensures)
        | in_default w ↦
            let replied = w.in_default.ensures.answers (Ok c.op-item.result) refl in
            more replied.reply replied.takes (w.page-is ∙ replied.text_is) (omega (arith, ap length w.page-is, c.answer_op.ensures.fits))
            (w.any_error-is ∙ sym (or-false _) ∙ ap (λ (b : Bool). c.loop-op.any_error || b) (sym replied.error_is))
            (rw w.tally-is (λ opening. opening_taken opening replied.reply _ replied.error_is))
      ];
      works = search rules;
    }

pub returns-in-Err-clause-err : goal.returns-in-Err-clause-err
returns-in-Err-clause-err g c = opens_stops _ _ _ _ _ _ _ _ _ _ _ _ c.loop-op.invariant.opens c.in-Err.ensures.some c.in-Err.ensures.err

pub returns-clause-ok : goal.returns-clause-ok
returns-clause-ok g c = opens_whole _ _ _ _ _ _ _ _ _ _ _ c.loop-op.invariant.opens c.loop-op-test.false
