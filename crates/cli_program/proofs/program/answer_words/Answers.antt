use Rattle.clap.specs.Walk.{texts}
use Rattle.clap.specs.Words.{subcommand_of}
use Rattle.cli.specs.Devices.{Console, console_of}
use Rattle.cli_program.specs.Ending.{Failures, failures_of}
use Rattle.cli_program.proofs.HeadlineLemmas.{runs_script}
use Rattle.cli_program.proofs.RefusalLemmas.{either_gives, only_replay}
use Rattle.cli_program.proofs.program.answer_words.Goals as goal

pub answer_invocation-requires : goal.answer_invocation-requires
answer_invocation-requires g c = record {
  invocation = let told = c.in-Ok.ensures.read in (subcommand_of told.0 (texts c.args.words.now), told.2);
  memory = c.in-Ok.ensures.fails;
  source = c.requires.source;
  inputs = c.requires.inputs;
  unasked = c.requires.unasked;
  sink = c.requires.sink;
  errors = c.requires.errors;
}

pub returns-in-Ok-clause-executes : goal.returns-in-Ok-clause-executes
returns-in-Ok-clause-executes g c =
    let told = c.in-Ok.ensures.read in
    (told.0, told.1, c.answer_invocation.ensures.executes (subcommand_of told.0 (texts c.args.words.now)) told.2)

pub returns-in-Ok-clause-runs_script : goal.returns-in-Ok-clause-runs_script
returns-in-Ok-clause-runs_script g c =
    let told = c.in-Ok.ensures.read in
    let done = c.answer_invocation.ensures.executes (subcommand_of told.0 (texts c.args.words.now)) told.2 in
    let console : Console = console_of (g.I.Inputs.bytes_of c.args.inputs.now) (g.I.Opened.Source.state c.answer_invocation.new.source) (g.W.Sink.state c.args.sink.now)
    (g.W.Sink.state c.answer_invocation.new.sink) (g.E.Sink.state c.args.errors.now) (g.E.Sink.state c.answer_invocation.new.errors) in
    let failures : Failures = failures_of (g.I.Inputs.has_refused c.answer_invocation.new.inputs) (g.I.Opened.Source.state c.answer_invocation.new.source)
    (g.W.Sink.state c.answer_invocation.new.sink) (g.M.Memory.has_failed c.answer_invocation.new.memory) (g.I.Inputs.requested c.answer_invocation.new.inputs) in
    (told.0, told.1, (done.invocation, done.is_invocation, runs_script g.M.ReplaySupport.replay done.invocation c.args.terminals console failures c.answer_invocation.result done.executed))

pub returns-in-Err-clause-runs_script : goal.returns-in-Err-clause-runs_script
returns-in-Err-clause-runs_script g c =
    let told = c.in-Err.ensures.refused in
    (told.0, told.1, λ taken. either_gives c.in-Err.ensures.fails.0 (only_replay g.M.ReplaySupport.replay (subcommand_of told.0 (texts c.args.words.now))) (told.2 taken))

pub returns-in-Ok-clause-asked : goal.returns-in-Ok-clause-asked
returns-in-Ok-clause-asked g c =
    let told = c.in-Ok.ensures.read in
    (told.0, told.1, c.in-Ok.invocation, told.2, c.answer_invocation.ensures.asked)

pub returns-in-Ok-clause-good_texts : goal.returns-in-Ok-clause-good_texts
returns-in-Ok-clause-good_texts g c =
    let told = c.in-Ok.ensures.read in
    (told.0, told.1, (c.in-Ok.invocation, told.2, told.3))
