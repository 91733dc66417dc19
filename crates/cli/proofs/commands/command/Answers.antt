use Rattle.std.proofs.Common.{◌||◌, ◌∙◌, ap, ap₂, sym, arith, fold}
use Rattle.std.proofs.lemmas.List.{take_all}
use Rattle.std.proofs.lemmas.List.Sums.{fold_more}
use Rattle.clap.specs.Words.{App, new_app, with_rule}
use Rattle.cli.specs.Usage.{argument_of}
use Rattle.cli.specs.declared.table.Row.{Row}
use Rattle.cli.proofs.commands.command.Goals as goal

pub loop-it-preserved : goal.loop-it-preserved
loop-it-preserved c =
    let added = c.in_ok-command.ensures in
    let at = c.loop-it in (
      added.shape c.argument.ensures.local ∙ ap₂ with_rule at.invariant.0 c.argument.ensures.rule ∙ sym (fold_more _ _ _ at.it-index _ (omega arith)),
      added.globals ∙ ap₂ ◌||◌ at.invariant.1 c.argument.ensures.local,
    )

pub returns-clause-shape : goal.returns-clause-shape
returns-clause-shape c =
    let row = c.args.row.now in
    c.loop-it.invariant.0 ∙ ap (fold (λ (a : App) (it : Row). with_rule a (argument_of c.args.choices it)) (new_app row.name.now)) (take_all c.loop-it.it-index row.rows.now (omega arith))
