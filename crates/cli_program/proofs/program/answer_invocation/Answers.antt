use Rattle.std.proofs.Common.{◌∙◌, ap, subst, sym}
use Rattle.std.specs.Prelude.{◌≢◌}
use Rattle.cli.specs.declared.outcome.Ending.{Ending}
use Rattle.cli.specs.declared.outcome.Ending.TheVariants.{Refused}
use Rattle.cli_program.proofs.OutcomeLemmas.{answer_not_refused}
use Rattle.cli_program.proofs.program.answer_invocation.Goals as goal

pub returns-clause-accepted : goal.returns-clause-accepted
returns-clause-accepted g c = subst (λ (ending : Ending). ending ≢ Refused) (sym c.ending_of.ensures) (answer_not_refused c.execute-result.result)

pub returns-clause-executes : goal.returns-clause-executes
returns-clause-executes g c = λ found is_invocation. record {
  invocation = c.args.invocation;
  is_invocation = is_invocation;
  executed = record {
    result = c.execute-result.result;
    executes = c.execute-result.ensures.executes;
    fails = record {
      opens = c.execute-result.ensures.end.refused;
      reads = c.execute-result.ensures.end.read;
      writes = c.execute-result.ensures.end.write;
      allocates = c.execute-result.ensures.allocates;
    };
    opens = c.execute-result.ensures.open;
    untouched = c.execute-result.ensures.end.untouched;
    asks = λ unasked.
        let same = c.execute-result.ensures.asked unasked in
        (ap g.I.Inputs.has_refused same.0 ∙ c.requires.inputs, ap (λ source. (g.I.Opened.Source.state source).has_failed) same.1 ∙ c.requires.source);
    starves = c.execute-result.ensures.starved;
    flushed = c.execute-result.ensures.end.flushed;
    unreported = c.execute-result.ensures.unreported;
    silent = λ unreported. ap (λ errors. (g.E.Sink.state errors).taken) (c.execute-result.ensures.silent unreported);
    ends = c.ending_of.ensures;
  };
}
