-- A script that no device interrupts.
use Rattle.std.proofs.Common.{◌≡◌, ◌∙◌, ℕ, List, [], Option, Some, None, Result, Ok, Err, ap, refl, subst, sym}
use Rattle.std.specs.Io.KnownBytes.{Consumes, IsAtEnd}
use Rattle.std.proofs.lemmas.Bool.{false≢true}
use Rattle.cc_io.specs.declared.summary.Summary.{Summary}
use Rattle.cc_machine.specs.State.{initial_state}
use Rattle.cli.specs.Devices.{OnDevices}
use Rattle.cli.specs.Outcome.{ending_of}
use Rattle.cli.specs.declared.outcome.Ending.{Ending}
use Rattle.cli.specs.declared.fault.Fault.{Fault}
use Rattle.cli.specs.declared.fault.Fault.TheVariants as fault
use Rattle.cli_program.specs.Runs.{MeetsFrom}
use Rattle.cli_program.specs.Ending.{AnswersScript, Failures, NoneFailed, RunsToEnd, TellsFailures}
use Rattle.cli_program.specs.Execution.{Script}

-- A source that had known bytes and is at its end has none left.
none_left : (bytes : List ℕ) (left : Option (List ℕ)) (text : List ℕ) → Consumes (Some bytes) left text → IsAtEnd left → left ≡ Some []
none_left bytes None text given at_end = absurd given
none_left bytes (Some ys) text given at_end = ap Some at_end

to_end : (script : Script) (bytes taken : List ℕ) (taken_now left : Option (List ℕ)) (failures : Failures) (ending : Ending) (result : Result Summary Fault)
    → NoneFailed failures → TellsFailures failures result → ending ≡ ending_of result
    → OnDevices (MeetsFrom script.opening (initial_state script.limit) (Some bytes) left (Some taken) taken_now) result
    → RunsToEnd script bytes taken taken_now ending
to_end script bytes taken taken_now left failures ending (Ok summary) none tells ends m =
    let main = m.1 in
    record {
      summary = summary;
      main = subst (λ (l : Option (List ℕ)). MeetsFrom script.opening (initial_state script.limit) (Some bytes) l (Some taken) taken_now (Ok summary))
          (none_left bytes left main.text main.given main.writes.at_end) m;
      ends = ends;
    }
to_end script bytes taken taken_now left failures ending (Err fault.Memory) none tells ends m = absurd (false≢true (sym none.allocated ∙ tells.allocates.0 refl))
to_end script bytes taken taken_now left failures ending (Err fault.Open) none tells ends m = absurd (false≢true (sym none.opened ∙ tells.opens.0 refl))
to_end script bytes taken taken_now left failures ending (Err fault.Read) none tells ends m = absurd (false≢true (sym none.read ∙ tells.reads.0 refl))
to_end script bytes taken taken_now left failures ending (Err fault.Write) none tells ends m = absurd (false≢true (sym none.written ∙ tells.writes.0 refl))

-- A script that no device interrupts runs to its end.
pub runs_to_end : (script : Script) (bytes taken : List ℕ) (left taken_now : Option (List ℕ)) (failures : Failures) (ending : Ending)
    → AnswersScript script bytes taken left taken_now failures ending → NoneFailed failures → RunsToEnd script bytes taken taken_now ending
runs_to_end script bytes taken left taken_now failures ending r none =
    to_end script bytes taken taken_now left failures ending r.result none r.fails r.ends r.main
