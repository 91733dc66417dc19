-- Programs that the main theorem of the program refuses.
use Rattle.std.proofs.Common.{◌≡◌, ◌∙◌, ◌++◌, ℕ, List, [], ◌∷◌, Option, Some, None, Result, Ok, Err, ap, refl, subst, sym}
use Rattle.std.specs.Prelude.{◌≢◌, true}
use Rattle.std.specs.Io.KnownBytes.{Consumes, IsAtEnd}
use Rattle.cc_word.specs.declared.refusal.Refusal.{Refusal}
use Rattle.cc_io.specs.Lines.{rest_of}
use Rattle.cc_io.specs.declared.summary.Summary.{Summary}
use Rattle.cc_values.specs.declared.op.Op.{Op}
use Rattle.cc_values.specs.declared.reply.Reply.{Reply}
use Rattle.cc_machine.specs.State.{State, initial_state}
use Rattle.cc_syntax.specs.Replies.{reply_text}
use Rattle.cc_script.specs.Output.{TakesAll, commands_of, replies_text, rest_text}
use Rattle.cli.specs.Devices.{OnDevices}
use Rattle.cli.specs.Outcome.{ending_of}
use Rattle.cli.specs.declared.outcome.Ending.TheVariants.{Answered, Stopped}
use Rattle.cli.specs.declared.fault.Fault.{Fault}
use Rattle.cli.specs.declared.fault.Fault.TheVariants as fault
use Rattle.cli_program.specs.Runs.{MeetsFrom}
use Rattle.cli_program.specs.Execution.{Script}
use Rattle.cli_program.specs.Ending.{AnswersScript, Failures, TellsFailures}

with_nothing : (xs : List ℕ) → xs ++ [] ≡ xs
with_nothing [] = refl
with_nothing (x ∷ xs) = ap (λ (l : List ℕ). x ∷ l) (with_nothing xs)

no_more : (taken output : List ℕ) → taken ≡ taken ++ output → output ≡ []
no_more [] output e = sym e
no_more (x ∷ taken) output e = no_more taken output (cc e)

given_all : (bytes : List ℕ) (left : Option (List ℕ)) (text : List ℕ) → Consumes (Some bytes) left text → IsAtEnd left → text ≡ bytes
given_all bytes None text given at_end = absurd given
given_all bytes (Some ys) text given at_end = sym (given ∙ ap (λ (l : List ℕ). text ++ l) at_end ∙ with_nothing text)

-- A line is not nothing.
line_is_some : (text more rest : List ℕ) → ((text ++ 10 ∷ []) ++ more) ++ rest ≡ [] → ⊥
line_is_some [] more rest e = absurd (cc e)
line_is_some (x ∷ text) more rest e = absurd (cc e)

-- The replies to some commands are not nothing.
replied : (old new : State) (commands : List (Result Op Refusal)) (replies : List Reply) (rest : List ℕ) → commands ≢ [] → TakesAll old commands replies new
    → replies_text replies ++ rest ≡ [] → ⊥
replied old new [] replies rest some takes e = some refl
replied old new (command ∷ commands) [] rest some takes e = takes
replied old new (command ∷ commands) (reply ∷ replies) rest some takes e = line_is_some (reply_text reply) (replies_text replies) rest e

on_ok : (script : Script) (bytes taken : List ℕ) (summary : Summary) (left : Option (List ℕ)) (result : Result Summary Fault)
    → commands_of script.opening bytes ≢ [] → Answered summary ≡ ending_of result
    → OnDevices (MeetsFrom script.opening (initial_state script.limit) (Some bytes) left (Some taken) (Some taken)) result → ⊥
on_ok script bytes taken summary left (Ok other) some ends m =
    let main = m.1 in
    let writes = main.writes in
    let output = writes.output_is in
    let all : main.text ≡ bytes = given_all bytes left main.text main.given writes.at_end in
    replied (initial_state script.limit) m.0 (commands_of script.opening bytes) output.replies (rest_text (rest_of main.text)) some
    (subst (λ (text : List ℕ). TakesAll (initial_state script.limit) (commands_of script.opening text) output.replies m.0) all output.takes)
    (sym output.output_is ∙ no_more taken writes.output writes.written)
on_ok script bytes taken summary left (Err other) some ends m =
    let told : Answered summary ≡ Stopped other = ends in absurd (cc told)

pub silent_is_refused : (script : Script) (bytes taken : List ℕ) (left : Option (List ℕ)) (failures : Failures) (summary : Summary)
    → commands_of script.opening bytes ≢ [] → AnswersScript script bytes taken left (Some taken) failures (Answered summary) → ⊥
silent_is_refused script bytes taken left failures summary some r = on_ok script bytes taken summary left r.result some r.ends r.main

on_stop : (failures : Failures) (result : Result Summary Fault) → Stopped fault.Read ≡ ending_of result → TellsFailures failures result
    → failures.read_failed ≡ true
on_stop failures (Ok other) ends tells = let told : Stopped fault.Read ≡ Answered other = ends in absurd (cc told)
on_stop failures (Err other) ends tells = let told : Stopped fault.Read ≡ Stopped other = ends in tells.reads.0 (cc told)

pub made_up_is_refused : (script : Script) (bytes taken : List ℕ) (left taken_now : Option (List ℕ)) (failures : Failures)
    → AnswersScript script bytes taken left taken_now failures (Stopped fault.Read) → failures.read_failed ≡ true
made_up_is_refused script bytes taken left taken_now failures r = on_stop failures r.result r.ends r.fails
