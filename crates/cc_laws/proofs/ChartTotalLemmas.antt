-- Every trace has a chart.
use Rattle.std.proofs.Common.{◌≢◌, ◌||◌, ℕ, Bool, false, List, [], ◌∷◌, ◌++◌, refl, arith}
use Rattle.std.specs.List.{list_any}
use Rattle.cc_io.specs.Answers.{Answer, AnswersAll, EndsWith, Output, answers_text, entries_of, rest_of}
use Rattle.cc_io.specs.Frames.{lines}
use Rattle.cc_replay.specs.declared.reading.Progress.TheVariants.{Running, OutOfMemory}
use Rattle.cc_replay.specs.declared.reading.Reading.{Reading}
use Rattle.cc_heap.specs.declared.settings.Settings.{Settings}
use Rattle.cc_replay.specs.Replay.{replaying}
use Rattle.cc_replay.specs.Taking.{next_entry}
use Rattle.cli_replay.specs.Charting.{Charted, ChartsLine, ChartsRest, begun_chart, charted, peakless}
use Rattle.cc_laws.proofs.OneReplayLemmas.{IsOnce, line_leads, rest_leads}

record LeadsThrough (old : Charted) (entries : List (List ℕ)) : Type 0 where
  answers : List Answer
  new : Charted
  takes : AnswersAll ChartsLine old entries answers new
  once : IsOnce new.replay
  left : new.replay.progress ≢ OutOfMemory

lines_lead : (old : Charted) (entries : List (List ℕ)) → IsOnce old.replay → old.replay.progress ≢ OutOfMemory → LeadsThrough old entries
lines_lead old [] once left = record { answers = []; new = old; takes = refl; once = once; left = left }
lines_lead old (line ∷ entries) once left =
    let first = line_leads (peakless old.replay) line once left in
    let mid : Charted = record { replay = first.new; chart = charted old.replay.progress (next_entry replaying old.replay line).event first.new.run.heap old.chart } in
    let next = lines_lead mid entries first.once first.left in
    record {
      answers = record { text = first.text; is_error = first.is_error } ∷ next.answers;
      new = next.new;
      takes = (mid, record { takes = first.takes; chart = refl }, next.takes);
      once = next.once;
      left = next.left;
    }

record LeadsEnd (old : Charted) (rest : List ℕ) : Type 0 where
  ending : Answer
  new : Charted
  ends : EndsWith ChartsRest old rest ending new
  left : new.replay.progress ≢ OutOfMemory

rest_lead : (old : Charted) (rest : List ℕ) → IsOnce old.replay → old.replay.progress ≢ OutOfMemory → LeadsEnd old rest
rest_lead old [] once left =
    record { ending = record { text = []; is_error = false }; new = old; ends = (refl, refl, refl); left = left }
rest_lead old (byte ∷ rest) once left =
    let end = rest_leads old.replay (byte ∷ rest) once left in
    record {
      ending = record { text = end.text; is_error = end.is_error };
      new = record { replay = end.new; chart = old.chart };
      ends = record { takes = end.takes; chart = refl };
      left = end.left;
    }

pub record HasChart (settings : Settings) (reading : Reading) (text : List ℕ) : Type 0 where
  pub output : List ℕ
  pub any_error : Bool
  pub new : Charted
  pub is : Output ChartsLine ChartsRest lines (begun_chart settings reading) text output any_error new
  pub left : new.replay.progress ≢ OutOfMemory

pub some_chart : (settings : Settings) (reading : Reading) (text : List ℕ) → HasChart settings reading text
some_chart settings reading text =
    let all = lines_lead (begun_chart settings reading) (entries_of lines text) (λ id. omega arith) runs in
    let end = rest_lead all.new (rest_of lines text) all.once all.left in
    record {
      output = answers_text all.answers ++ end.ending.text;
      any_error = list_any (λ (answer : Answer). answer.is_error) all.answers || end.ending.is_error;
      new = end.new;
      is = record {
        answers = all.answers;
        mid = all.new;
        takes = all.takes;
        ending = end.ending;
        ends = end.ends;
        output_is = refl;
        error_is = refl;
      };
      left = end.left;
    }
  where
    runs : Running ≢ OutOfMemory
    runs e = cc
