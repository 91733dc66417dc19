-- Lines that a taker of events takes.
use Rattle.std.proofs.Common.{◌≡◌, ℕ, Bool, false, List, [], sym, append-nil, subst}
use Rattle.cc_word.specs.declared.refusal.Refusal.TheVariants.{Unfinished}
use Rattle.cc_io.specs.Answers.{AnswersInto}
use Rattle.cc_replay.specs.declared.formats.Entry.{Entry}
use Rattle.cc_replay.specs.declared.reading.Progress.{Progress}
use Rattle.cc_replay.specs.declared.reading.Progress.TheVariants.{Running, Stopped, OutOfMemory}
use Rattle.cc_replay.specs.Reading.{is_over}
use Rattle.cc_replay.specs.Taking.{AppendsEntry, RefusesEntry, Taker, TakesLineIn, TakesNext, TakesRestIn, next_entry}

-- the next line is taken as its entry is
pub entry_answers : {S : Type 0} (taker : Taker S) (old : S) (entry : Entry) (line out out_now : List ℕ) (is_error : Bool) (new : S)
    → is_over (taker.progress old) ≡ false → entry ≡ next_entry taker old line → AppendsEntry taker old entry out out_now is_error new
    → AnswersInto (λ (s : S). TakesLineIn taker (taker.progress s) s) old line out out_now is_error new
entry_answers {S} taker old entry line out out_now is_error new going is taken =
    let next : AppendsEntry taker old (next_entry taker old line) out out_now is_error new =
    subst (λ (e : Entry). AppendsEntry taker old e out out_now is_error new) is taken in
    record { text = next.text; out_is = next.out_is; answered = by_progress next.text (taker.progress old) going next.takes }
  where
    by_progress : (text : List ℕ) (progress : Progress) → is_over progress ≡ false → TakesNext taker old line text is_error new
        → TakesLineIn taker progress old line text is_error new
    by_progress text Running goes takes = takes
    by_progress text Stopped goes takes = cc goes
    by_progress text OutOfMemory goes takes = cc goes

-- trailing bytes are refused
pub rest_answers : {S : Type 0} (taker : Taker S) (old : S) (rest out : List ℕ) (is_error : Bool) (new : S)
    → is_over (taker.progress old) ≡ false → RefusesEntry (taker.refused Unfinished (taker.at_rest old)) [] is_error new
    → AnswersInto (λ (s : S). TakesRestIn taker (taker.progress s) s) old rest out out is_error new
rest_answers {S} taker old rest out is_error new going refuses =
    record { text = []; out_is = sym (append-nil out); answered = by_progress (taker.progress old) going }
  where
    by_progress : (progress : Progress) → is_over progress ≡ false → TakesRestIn taker progress old rest [] is_error new
    by_progress Running goes = refuses
    by_progress Stopped goes = cc goes
    by_progress OutOfMemory goes = cc goes
