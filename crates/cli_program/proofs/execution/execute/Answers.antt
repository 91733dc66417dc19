use Rattle.std.proofs.Common.{◌≡◌, [], Err, None, Some, subst}
use Rattle.std.specs.Prelude.{IfSome}
use Rattle.cc_machine.specs.State.{initial_state}
use Rattle.cc_syntax.specs.Planning.{plan_opening, pool_of}
use Rattle.cli.specs.declared.fault.Fault.TheVariants as fault
use Rattle.cli.specs.declared.input.Content.TheVariants as content
use Rattle.cli.specs.Devices.{FromInput, OnDevices, console_of}
use Rattle.cli.specs.Input.{OpensFile, file_input}
use Rattle.cli_program.specs.Report.{report_of}
use Rattle.cli_program.specs.Runs.{DrawsRun, PlansFile, ReportsRun, StarvesPlan}
use Rattle.cli_program.specs.declared.report.Report.{Report}
use Rattle.cli_program.specs.Execution.{Effect, IsUnasked, WritesNothing, pool_script, reads, script_run}
use Rattle.cli_program.proofs.ExecutionLemmas.{asks, does, of_equal, opens, silent, starves, starves_if}
use Rattle.cli_program.proofs.execution.execute.Goals as goal

pub returns-in-Run-clause-executes : goal.returns-in-Run-clause-executes
returns-in-Run-clause-executes g c =
    of_equal (λ (effect : Effect). OnDevices (effect.Does (console_of (g.I.Inputs.bytes_of c.args.inputs.now) (g.I.Opened.Source.state c.run_file.new.source) (g.W.Sink.state c.args.sink.now)
    (g.W.Sink.state c.run_file.new.sink) (g.E.Sink.state c.args.errors.now) (g.E.Sink.state c.run_file.new.errors))) c.run_file.result)
    g.M.ReplaySupport.replay c.args.terminals _ _ c.in-Run.is
    (subst (λ (report : Report). OnDevices (FromInput (file_input c.in-Run.file) (console_of (g.I.Inputs.bytes_of c.args.inputs.now) (g.I.Opened.Source.state c.run_file.new.source)
    (g.W.Sink.state c.args.sink.now)
    (g.W.Sink.state c.run_file.new.sink) (g.E.Sink.state c.args.errors.now) (g.E.Sink.state c.run_file.new.errors)) (ReportsRun report [] None (initial_state c.in-Run.limit))) c.run_file.result)
    c.new-report.ensures c.run_file.ensures.executes)

pub returns-in-Plan-clause-executes : goal.returns-in-Plan-clause-executes
returns-in-Plan-clause-executes g c =
    of_equal (λ (effect : Effect). OnDevices (effect.Does (console_of (g.I.Inputs.bytes_of c.args.inputs.now) (g.I.Opened.Source.state c.plan_file.new.source) (g.W.Sink.state c.args.sink.now)
    (g.W.Sink.state c.plan_file.new.sink) (g.E.Sink.state c.args.errors.now) (g.E.Sink.state c.plan_file.new.errors))) c.plan_file.result)
    g.M.ReplaySupport.replay c.args.terminals _ _ c.in-Plan.is
    (does (pool_of c.in-Plan.pool.base.now c.in-Plan.pool.length.now) (λ numbers. script_run (report_of c.in-Plan.stats c.args.terminals) (Some numbers.1)
    (pool_script c.in-Plan.limit c.in-Plan.align (file_input c.in-Plan.file) numbers))
    (console_of (g.I.Inputs.bytes_of c.args.inputs.now) (g.I.Opened.Source.state c.plan_file.new.source) (g.W.Sink.state c.args.sink.now)
    (g.W.Sink.state c.plan_file.new.sink) (g.E.Sink.state c.args.errors.now) (g.E.Sink.state c.plan_file.new.errors)) c.plan_file.result
    (subst (λ (report : Report). OnDevices (PlansFile report c.in-Plan.limit c.in-Plan.pool c.in-Plan.align c.in-Plan.file
    (console_of (g.I.Inputs.bytes_of c.args.inputs.now) (g.I.Opened.Source.state c.plan_file.new.source) (g.W.Sink.state c.args.sink.now)
    (g.W.Sink.state c.plan_file.new.sink) (g.E.Sink.state c.args.errors.now) (g.E.Sink.state c.plan_file.new.errors))) c.plan_file.result)
    c.new-report-in-Plan.ensures c.plan_file.ensures.executes))

pub returns-in-Plan-clause-starved : goal.returns-in-Plan-clause-starved
returns-in-Plan-clause-starved g c =
    of_equal (λ (effect : Effect). c.plan_file.result ≡ Err fault.Memory → effect.Starves (console_of (g.I.Inputs.bytes_of c.args.inputs.now) (g.I.Opened.Source.state c.plan_file.new.source)
    (g.W.Sink.state c.args.sink.now)
    (g.W.Sink.state c.plan_file.new.sink) (g.E.Sink.state c.args.errors.now) (g.E.Sink.state c.plan_file.new.errors)))
    g.M.ReplaySupport.replay c.args.terminals _ _ c.in-Plan.is
    (λ ran_out. starves (pool_of c.in-Plan.pool.base.now c.in-Plan.pool.length.now) (λ numbers. script_run (report_of c.in-Plan.stats c.args.terminals) (Some numbers.1)
    (pool_script c.in-Plan.limit c.in-Plan.align (file_input c.in-Plan.file) numbers))
    (console_of (g.I.Inputs.bytes_of c.args.inputs.now) (g.I.Opened.Source.state c.plan_file.new.source) (g.W.Sink.state c.args.sink.now)
    (g.W.Sink.state c.plan_file.new.sink) (g.E.Sink.state c.args.errors.now) (g.E.Sink.state c.plan_file.new.errors))
    (subst (λ (report : Report). StarvesPlan report c.in-Plan.limit c.in-Plan.pool c.in-Plan.align c.in-Plan.file
    (console_of (g.I.Inputs.bytes_of c.args.inputs.now) (g.I.Opened.Source.state c.plan_file.new.source) (g.W.Sink.state c.args.sink.now)
    (g.W.Sink.state c.plan_file.new.sink) (g.E.Sink.state c.args.errors.now) (g.E.Sink.state c.plan_file.new.errors)))
    c.new-report-in-Plan.ensures (c.plan_file.ensures.starved ran_out)))

pub returns-in-Plan-clause-open : goal.returns-in-Plan-clause-open
returns-in-Plan-clause-open g c =
    of_equal (λ (effect : Effect). c.plan_file.result ≡ Err fault.Open → IfSome effect.input (λ asked. OpensFile asked.tags asked.input))
    g.M.ReplaySupport.replay c.args.terminals _ _ c.in-Plan.is
    (λ refused. opens (pool_of c.in-Plan.pool.base.now c.in-Plan.pool.length.now) (λ numbers. script_run (report_of c.in-Plan.stats c.args.terminals) (Some numbers.1)
    (pool_script c.in-Plan.limit c.in-Plan.align (file_input c.in-Plan.file) numbers)) (λ values. c.plan_file.ensures.open refused))

pub returns-in-Plan-clause-asked : goal.returns-in-Plan-clause-asked
returns-in-Plan-clause-asked g c =
    of_equal (λ (effect : Effect). IsUnasked effect.input (g.I.Inputs.requested c.plan_file.new.inputs)
    → ((c.plan_file.new.inputs ≡ c.args.inputs.now) × (c.plan_file.new.source ≡ c.args.source.now)))
    g.M.ReplaySupport.replay c.args.terminals _ _ c.in-Plan.is
    (asks (pool_of c.in-Plan.pool.base.now c.in-Plan.pool.length.now) (λ numbers. script_run (report_of c.in-Plan.stats c.args.terminals) (Some numbers.1)
    (pool_script c.in-Plan.limit c.in-Plan.align (file_input c.in-Plan.file) numbers))
    (g.I.Inputs.requested c.plan_file.new.inputs) ((c.plan_file.new.inputs ≡ c.args.inputs.now) × (c.plan_file.new.source ≡ c.args.source.now)) c.plan_file.ensures.unused
    (λ values. c.plan_file.ensures.asked [] c.requires.unasked))

pub returns-in-Plan-clause-silent : goal.returns-in-Plan-clause-silent
returns-in-Plan-clause-silent g c =
    of_equal (λ (effect : Effect). ¬ effect.Reports → c.plan_file.new.errors ≡ c.args.errors.now)
    g.M.ReplaySupport.replay c.args.terminals _ _ c.in-Plan.is
    (silent (pool_of c.in-Plan.pool.base.now c.in-Plan.pool.length.now) (λ numbers. script_run (report_of c.in-Plan.stats c.args.terminals) (Some numbers.1)
    (pool_script c.in-Plan.limit c.in-Plan.align (file_input c.in-Plan.file) numbers))
    (c.plan_file.new.errors ≡ c.args.errors.now) (λ refused. c.plan_file.ensures.silent refused) (λ values unreported. absurd (unreported tt)))

pub returns-in-Map-clause-executes : goal.returns-in-Map-clause-executes
returns-in-Map-clause-executes g c =
    of_equal (λ (effect : Effect). OnDevices (effect.Does (console_of (g.I.Inputs.bytes_of c.args.inputs.now) (g.I.Opened.Source.state c.map_file.new.source) (g.W.Sink.state c.args.sink.now)
    (g.W.Sink.state c.map_file.new.sink) (g.E.Sink.state c.args.errors.now) (g.E.Sink.state c.args.errors.now))) c.map_file.result)
    g.M.ReplaySupport.replay c.args.terminals _ _ c.in-Map.is
    (does (pool_of c.in-Map.pool.base.now c.in-Map.pool.length.now) (λ numbers. reads (file_input c.in-Map.file) content.Pool
    (DrawsRun c.in-Map.svg (plan_opening numbers.0 numbers.1 c.in-Map.align) (initial_state c.in-Map.limit)) WritesNothing ⊥)
    (console_of (g.I.Inputs.bytes_of c.args.inputs.now) (g.I.Opened.Source.state c.map_file.new.source) (g.W.Sink.state c.args.sink.now)
    (g.W.Sink.state c.map_file.new.sink) (g.E.Sink.state c.args.errors.now) (g.E.Sink.state c.args.errors.now)) c.map_file.result
    (c.map_file.ensures.executes (g.E.Sink.state c.args.errors.now) (g.E.Sink.state c.args.errors.now)))

pub returns-in-Map-clause-starved : goal.returns-in-Map-clause-starved
returns-in-Map-clause-starved g c =
    of_equal (λ (effect : Effect). c.map_file.result ≡ Err fault.Memory → effect.Starves (console_of (g.I.Inputs.bytes_of c.args.inputs.now) (g.I.Opened.Source.state c.map_file.new.source)
    (g.W.Sink.state c.args.sink.now)
    (g.W.Sink.state c.map_file.new.sink) (g.E.Sink.state c.args.errors.now) (g.E.Sink.state c.args.errors.now)))
    g.M.ReplaySupport.replay c.args.terminals _ _ c.in-Map.is
    (λ ran_out. starves_if (pool_of c.in-Map.pool.base.now c.in-Map.pool.length.now) (λ numbers. reads (file_input c.in-Map.file) content.Pool
    (DrawsRun c.in-Map.svg (plan_opening numbers.0 numbers.1 c.in-Map.align) (initial_state c.in-Map.limit)) WritesNothing ⊥)
    (console_of (g.I.Inputs.bytes_of c.args.inputs.now) (g.I.Opened.Source.state c.map_file.new.source) (g.W.Sink.state c.args.sink.now)
    (g.W.Sink.state c.map_file.new.sink) (g.E.Sink.state c.args.errors.now) (g.E.Sink.state c.args.errors.now)) (c.map_file.ensures.memory ran_out) (λ values. c.map_file.ensures.starved ran_out))

pub returns-in-Map-clause-open : goal.returns-in-Map-clause-open
returns-in-Map-clause-open g c =
    of_equal (λ (effect : Effect). c.map_file.result ≡ Err fault.Open → IfSome effect.input (λ asked. OpensFile asked.tags asked.input))
    g.M.ReplaySupport.replay c.args.terminals _ _ c.in-Map.is
    (λ refused. opens (pool_of c.in-Map.pool.base.now c.in-Map.pool.length.now) (λ numbers. reads (file_input c.in-Map.file) content.Pool
    (DrawsRun c.in-Map.svg (plan_opening numbers.0 numbers.1 c.in-Map.align) (initial_state c.in-Map.limit)) WritesNothing ⊥) (λ values. c.map_file.ensures.open refused))

pub returns-in-Map-clause-asked : goal.returns-in-Map-clause-asked
returns-in-Map-clause-asked g c =
    of_equal (λ (effect : Effect). IsUnasked effect.input (g.I.Inputs.requested c.map_file.new.inputs) → ((c.map_file.new.inputs ≡ c.args.inputs.now) × (c.map_file.new.source ≡ c.args.source.now)))
    g.M.ReplaySupport.replay c.args.terminals _ _ c.in-Map.is
    (asks (pool_of c.in-Map.pool.base.now c.in-Map.pool.length.now) (λ numbers. reads (file_input c.in-Map.file) content.Pool
    (DrawsRun c.in-Map.svg (plan_opening numbers.0 numbers.1 c.in-Map.align) (initial_state c.in-Map.limit)) WritesNothing ⊥)
    (g.I.Inputs.requested c.map_file.new.inputs) ((c.map_file.new.inputs ≡ c.args.inputs.now) × (c.map_file.new.source ≡ c.args.source.now)) c.map_file.ensures.unused
    (λ values. c.map_file.ensures.asked [] c.requires.unasked))

pub returns-in-Replay-clause-executes : goal.returns-in-Replay-clause-executes
returns-in-Replay-clause-executes g c =
    of_equal (λ (effect : Effect). OnDevices (effect.Does (console_of (g.I.Inputs.bytes_of c.args.inputs.now) (g.I.Opened.Source.state c.replay_file.new.source) (g.W.Sink.state c.args.sink.now)
    (g.W.Sink.state c.replay_file.new.sink) (g.E.Sink.state c.args.errors.now) (g.E.Sink.state c.args.errors.now))) c.replay_file.result)
    g.M.ReplaySupport.replay c.args.terminals _ _ c.in-Replay.is
    (c.replay_file.ensures.executes (g.E.Sink.state c.args.errors.now) (g.E.Sink.state c.args.errors.now))

pub returns-in-Replay-clause-starved : goal.returns-in-Replay-clause-starved
returns-in-Replay-clause-starved g c =
    of_equal (λ (effect : Effect). c.replay_file.result ≡ Err fault.Memory → effect.Starves
    (console_of (g.I.Inputs.bytes_of c.args.inputs.now) (g.I.Opened.Source.state c.replay_file.new.source) (g.W.Sink.state c.args.sink.now)
    (g.W.Sink.state c.replay_file.new.sink) (g.E.Sink.state c.args.errors.now) (g.E.Sink.state c.args.errors.now)))
    g.M.ReplaySupport.replay c.args.terminals _ _ c.in-Replay.is
    (λ ran_out. c.replay_file.ensures.starved ran_out (g.E.Sink.state c.args.errors.now) (g.E.Sink.state c.args.errors.now))

pub returns-in-Decode-clause-executes : goal.returns-in-Decode-clause-executes
returns-in-Decode-clause-executes g c =
    of_equal (λ (effect : Effect). OnDevices (effect.Does (console_of (g.I.Inputs.bytes_of c.args.inputs.now) (g.I.Opened.Source.state c.decode_file.new.source) (g.W.Sink.state c.args.sink.now)
    (g.W.Sink.state c.decode_file.new.sink) (g.E.Sink.state c.args.errors.now) (g.E.Sink.state c.decode_file.new.errors))) c.decode_file.result)
    g.M.ReplaySupport.replay c.args.terminals _ _ c.in-Decode.is
    (c.decode_file.ensures.decodes (g.E.Sink.state c.args.errors.now) (g.E.Sink.state c.decode_file.new.errors))

pub returns-in-Decode-clause-silent : goal.returns-in-Decode-clause-silent
returns-in-Decode-clause-silent g c =
    of_equal (λ (effect : Effect). ¬ effect.Reports → c.decode_file.new.errors ≡ c.args.errors.now)
    g.M.ReplaySupport.replay c.args.terminals _ _ c.in-Decode.is
    c.decode_file.ensures.silent

pub returns-in-DecodeCore-clause-executes : goal.returns-in-DecodeCore-clause-executes
returns-in-DecodeCore-clause-executes g c =
    of_equal (λ (effect : Effect). OnDevices (effect.Does (console_of (g.I.Inputs.bytes_of c.args.inputs.now) (g.I.Opened.Source.state c.decode_core_file.new.source) (g.W.Sink.state c.args.sink.now)
    (g.W.Sink.state c.decode_core_file.new.sink) (g.E.Sink.state c.args.errors.now) (g.E.Sink.state c.args.errors.now))) c.decode_core_file.result)
    g.M.ReplaySupport.replay c.args.terminals _ _ c.in-DecodeCore.is
    (c.decode_core_file.ensures.lists (g.E.Sink.state c.args.errors.now) (g.E.Sink.state c.args.errors.now))

pub returns-in-Annotate-clause-executes : goal.returns-in-Annotate-clause-executes
returns-in-Annotate-clause-executes g c =
    of_equal (λ (effect : Effect). OnDevices (effect.Does (console_of (g.I.Inputs.bytes_of c.args.inputs.now) (g.I.Opened.Source.state c.annotate_file.new.source) (g.W.Sink.state c.args.sink.now)
    (g.W.Sink.state c.annotate_file.new.sink) (g.E.Sink.state c.args.errors.now) (g.E.Sink.state c.args.errors.now))) c.annotate_file.result)
    g.M.ReplaySupport.replay c.args.terminals _ _ c.in-Annotate.is
    ((c.annotate_file.ensures.annotates (g.E.Sink.state c.args.errors.now) (g.E.Sink.state c.args.errors.now)))

pub returns-in-RoundList-clause-executes : goal.returns-in-RoundList-clause-executes
returns-in-RoundList-clause-executes g c =
    of_equal (λ (effect : Effect). OnDevices (effect.Does (console_of (g.I.Inputs.bytes_of c.args.inputs.now) (g.I.Opened.Source.state c.round_file.new.source) (g.W.Sink.state c.args.sink.now)
    (g.W.Sink.state c.round_file.new.sink) (g.E.Sink.state c.args.errors.now) (g.E.Sink.state c.round_file.new.errors))) c.round_file.result)
    g.M.ReplaySupport.replay c.args.terminals _ _ c.in-RoundList.is
    c.round_file.ensures.rounds

pub returns-in-RoundList-clause-silent : goal.returns-in-RoundList-clause-silent
returns-in-RoundList-clause-silent g c =
    of_equal (λ (effect : Effect). ¬ effect.Reports → c.round_file.new.errors ≡ c.args.errors.now)
    g.M.ReplaySupport.replay c.args.terminals _ _ c.in-RoundList.is
    c.round_file.ensures.silent

pub returns-in-Ask-clause-silent : goal.returns-in-Ask-clause-silent
returns-in-Ask-clause-silent g c =
    of_equal (λ (effect : Effect). ¬ effect.Reports → c.ask.new.errors ≡ c.args.errors.now)
    g.M.ReplaySupport.replay c.args.terminals _ _ c.in-Ask.is
    (c.ask.ensures.silent)
