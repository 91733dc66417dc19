-- The end of the program, and its exit status.
use Rattle.std.specs.Prelude.{ℕ, ◌≡◌, ◌≢◌, ◌⊎◌, false, [], Result, Ok, Err}
use Rattle.clap.specs.Words.{IsAmong, Kinds}
use Rattle.clap.specs.declared.error.kind.ErrorKind.{ErrorKind}
use Rattle.clap.specs.declared.error.kind.ErrorKind.TheVariants.{DisplayHelp, DisplayVersion, OutOfMemory}
use Rattle.cc_word.specs.Word.{bit_of}
use Rattle.cli.specs.declared.outcome.Ending.{Ending}
use Rattle.cli.specs.declared.outcome.Ending.TheVariants.{Answered, Refused, Stopped}
use Rattle.cli.specs.declared.fault.Fault.{Fault}
use Rattle.cli.specs.declared.fault.Fault.TheVariants as fault
use Rattle.cc_io.specs.declared.summary.Summary.{Summary}

-- The end of a program whose command had this result.
abbrev pub ending_of : Result Summary Fault → Ending
ending_of (Ok summary) = Answered summary
ending_of (Err fault) = Stopped fault

-- The exit status: 0 if no reply was an error, 1 if one was, 2 if the command line was refused, and 3 if the program
-- stopped before its end.
abbrev pub status_of : Ending → ℕ
status_of (Answered summary) = bit_of summary.any_error
status_of Refused = 2
status_of (Stopped fault) = 3

-- EndsRequest holds if a request for help or for the version ends like this: without an error, or because a write failed.
abbrev pub EndsRequest : Ending → Type 0
EndsRequest ending = (ending ≡ Answered (record { any_error = false })) ⊎ (ending ≡ Stopped fault.Write)

-- EndsBy holds if an error of this kind ends the program like this: out of memory stops it, help and the version are
-- requests, and any other error refuses the command line.
abbrev pub EndsBy : ErrorKind → Ending → Type 0
EndsBy OutOfMemory ending = ending ≡ Stopped fault.Memory
EndsBy DisplayHelp ending = EndsRequest ending
EndsBy DisplayVersion ending = EndsRequest ending
EndsBy _ ending = ending ≡ Refused

-- EndsOn holds if arguments that can give these kinds of error end the program like this. If there are none, the
-- command line is not refused. If there are some, one of them ends it. In either case, running out of memory can stop it.
abbrev pub EndsOn : Kinds → Ending → Type 0
EndsOn kinds ending =
    ((kinds ≡ []) × (ending ≢ Refused))
    ⊎ (((kind : ErrorKind) × IsAmong kind kinds × EndsBy kind ending) ⊎ (ending ≡ Stopped fault.Memory))
