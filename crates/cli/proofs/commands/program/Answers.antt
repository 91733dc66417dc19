use Rattle.std.proofs.Common.{◌∙◌, ap, ap₂, sym, arith}
use Rattle.std.proofs.lemmas.List.{take_all}
use Rattle.std.proofs.lemmas.List.Sums.{fold_more}
use Rattle.clap.specs.Words.{App, with_subcommand}
use Rattle.cli.specs.Usage.{bare_program, with_commands}
use Rattle.cli.proofs.commands.program.Goals as goal

pub loop-row-preserved : goal.loop-row-preserved
loop-row-preserved c =
    let added = c.in_ok-command.ensures in
    c.in_ok-program-2.ensures.shape added.local ∙ ap₂ (λ (a b : App). with_subcommand a b.top) c.loop-row.invariant added.shape
    ∙ sym (fold_more _ _ _ c.loop-row.row-index _ (omega arith))

pub returns : goal.returns
returns c =
    let choices = c.args.choices in
    let rows = c.commands-row-items.result.now in
    c.loop-row.invariant ∙ ap (with_commands choices bare_program) (take_all c.loop-row.row-index rows (omega arith)) ∙ c.commands-row-items.ensures choices
