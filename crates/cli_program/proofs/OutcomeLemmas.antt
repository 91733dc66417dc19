-- The end of the program for its arguments.
use Rattle.std.proofs.Common.{◌≡◌, inl, inr, subst}
use Rattle.std.specs.Prelude.{◌≢◌, Result, Ok, Err}
use Rattle.clap.specs.Words.{HasKind, Kinds, kind_of}
use Rattle.clap.specs.declared.error.Error.{Error}
use Rattle.clap.specs.declared.error.kind.ErrorKind.{ErrorKind}
use Rattle.clap.specs.declared.error.kind.ErrorKind.TheVariants.{OutOfMemory}
use Rattle.cc_io.specs.declared.summary.Summary.{Summary}
use Rattle.cli.specs.declared.outcome.Ending.{Ending}
use Rattle.cli.specs.declared.outcome.Ending.TheVariants.{Refused, Stopped}
use Rattle.cli.specs.declared.fault.Fault.{Fault}
use Rattle.cli.specs.declared.fault.Fault.TheVariants as fault
use Rattle.cli.specs.Outcome.{EndsBy, EndsOn, ending_of}

-- An error that refuses the command line does not mean that memory ran out.
pub refused_not_for_memory :
    (kind : ErrorKind) (ending : Ending) → EndsBy kind ending → ending ≡ Refused → kind ≢ OutOfMemory
refused_not_for_memory kind ending told is_refused = λ is_memory.
    let stopped : ending ≡ Stopped fault.Memory = subst (λ (k : ErrorKind). EndsBy k ending) is_memory told in
    cc (stopped, is_refused)

-- The result of a command is not a refusal of a command line.
pub answer_not_refused : (answer : Result Summary Fault) → ending_of answer ≢ Refused
answer_not_refused (Ok summary) = λ same. cc same
answer_not_refused (Err fault) = λ same. cc same

-- An error of one of the kinds ends the program by one of them, or because memory ran out.
pub ends_by_error : (kinds : Kinds) (e : Error) (ending : Ending) → HasKind kinds e → EndsBy (kind_of e) ending → EndsOn kinds ending
ends_by_error kinds e ending (inl memory) told = inr (inr (subst (λ (k : ErrorKind). EndsBy k ending) memory told))
ends_by_error kinds e ending (inr among) told = inr (inl (kind_of e, among, told))
