use Rattle.std.proofs.Common.{◌≡◌, [], inl}
use Rattle.clap.specs.Walk.{texts}
use Rattle.clap.specs.Words.{HasKind, kind_of}
use Rattle.cli.specs.Invocation.{is_taken}
use Rattle.cli.specs.Outcome.{EndsOn}
use Rattle.cli_program.proofs.OutcomeLemmas.{ends_by_error, refused_not_for_memory}
use Rattle.cli_program.proofs.RefusalLemmas.{ends_by_other, not_for_memory}
use Rattle.cli_program.proofs.program.answer_on_process.Goals as goal

pub returns-in-Ok-clause-ends : goal.returns-in-Ok-clause-ends
returns-in-Ok-clause-ends g c =
    ends_by_other g.M.ReplaySupport.replay (texts c.args.words.now) (λ kinds. kinds ≡ []) (λ kinds. EndsOn kinds c.in-Ok.ending)
    (λ kinds none. inl (none, c.in-Ok.ensures.accepted)) c.in-Ok.ensures.kinds

pub returns-in-Err-clause-refused : goal.returns-in-Err-clause-refused
returns-in-Err-clause-refused g c = λ is_refused.
    let told = c.in-Err.ensures.refused in (
      told.0,
      told.1,
      not_for_memory (is_taken told.0 (texts c.args.words.now)) (kind_of c.in-Err.error) told.2
          (refused_not_for_memory (kind_of c.in-Err.error) c.tell.result c.tell.ensures is_refused),
    )

pub returns-in-Err-clause-ends : goal.returns-in-Err-clause-ends
returns-in-Err-clause-ends g c =
    ends_by_other g.M.ReplaySupport.replay (texts c.args.words.now) (λ kinds. HasKind kinds c.in-Err.error) (λ kinds. EndsOn kinds c.tell.result)
    (λ kinds told. ends_by_error kinds c.in-Err.error c.tell.result told c.tell.ensures) c.in-Err.ensures.kinds
