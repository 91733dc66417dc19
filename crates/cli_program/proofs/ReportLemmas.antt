-- The report of a run is its statistics and its hints, written one after the other.
use Rattle.std.proofs.Common.{◌≡◌, ◌↔◌, ℕ, Bool, true, false, List, [], Option, Result, Ok, Err, IsErr, OnOk, ◌++◌, refl, sym, subst, ◌∙◌, is_err}
use Rattle.std.proofs.KnownBytes.{Appends-trans}
use Rattle.std.specs.Io.KnownBytes.{Appends}
use Rattle.std.proofs.lemmas.Bool.{false≢true}
use Rattle.cc_values.specs.declared.reply.Reply.{Reply}
use Rattle.cc_syntax.specs.Hints.{hints_of, hints_text}
use Rattle.cc_script.specs.declared.session.Session.{Session}
use Rattle.cc_syntax.specs.Statistics.{statistics_text}
use Rattle.cc_syntax.specs.Tally.{Exchange}
use Rattle.cc_values.specs.declared.usage.Usage.{Usage}
use Rattle.cli_program.specs.Report.{IsMachineUsage, IsStatistics, WritesReport, hints_given}
use Rattle.cli_program.specs.declared.report.Report.{Report}

-- A claim on a successful result holds if the device did not fail.
pub of_answer : {A E : Type 0} → (result : Result A E) (failed : Bool) (P : Type 0) → (IsErr result ↔ (failed ≡ true)) → failed ≡ false → OnOk result P → P
of_answer (Ok value) failed P fails stays holds = holds
of_answer (Err error) failed P fails stays holds = absurd (false≢true (sym stays ∙ fails.0 refl))

-- A claim on a successful result holds if the result is not an error.
pub of_answered : {A E : Type 0} → (result : Result A E) (P : Type 0) → is_err result ≡ false → OnOk result P → P
of_answered (Ok value) P answered holds = holds
of_answered (Err error) P answered holds = absurd (false≢true (sym answered))

-- Statistics that are requested.
pub asked_statistics : (asked : Bool) (session : Session) (usage : Usage) → asked ≡ true → IsMachineUsage session.machine.now usage
    → IsStatistics asked session (statistics_text usage session.tally)
asked_statistics false session usage is_asked is_usage = absurd (false≢true is_asked)
asked_statistics true session usage is_asked is_usage = (usage, is_usage, refl)

-- No statistics if none are requested.
pub no_statistics : (asked : Bool) (session : Session) → asked ≡ false → IsStatistics asked session []
no_statistics false session not_asked = refl
no_statistics true session not_asked = absurd (false≢true (sym not_asked))

-- Hints that are given.
pub given_hints : (given : Bool) (opening : List Reply) (exchanges : List Exchange) (pool : Option ℕ) → given ≡ true
    → hints_text (hints_of opening exchanges pool) ≡ hints_given given opening exchanges pool
given_hints false opening exchanges pool is_given = absurd (false≢true is_given)
given_hints true opening exchanges pool is_given = refl

-- No hints if none are given.
pub no_hints : (given : Bool) (opening : List Reply) (exchanges : List Exchange) (pool : Option ℕ) → given ≡ false → [] ≡ hints_given given opening exchanges pool
no_hints false opening exchanges pool not_given = refl
no_hints true opening exchanges pool not_given = absurd (false≢true (sym not_given))

-- The statistics are written, and then the hints.
pub tells : (report : Report) (session : Session) (opening : List Reply) (exchanges : List Exchange) (pool : Option ℕ) (t m u : Option (List ℕ)) (statistics hints : List ℕ)
    → IsStatistics report.stats session statistics → hints ≡ hints_given report.hints opening exchanges pool → Appends t m statistics → Appends m u hints
    → WritesReport report session opening exchanges pool t u
tells report session opening exchanges pool t m u statistics hints is_statistics are_hints first second = record {
  statistics = statistics;
  is_statistics = is_statistics;
  written = subst (λ (l : List ℕ). Appends t u (statistics ++ l)) are_hints (Appends-trans t m u statistics hints first second);
}
