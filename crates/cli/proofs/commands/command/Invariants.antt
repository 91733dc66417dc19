use Rattle.std.proofs.Common.{◌≡◌, false, fold, take}
use Rattle.clap.specs.Words.{app_of, new_app, with_rule}
use Rattle.clap.specs.declared.builder.command.Command.TheViews.{out-Command}
use Rattle.cli.specs.Usage.{argument_of}
use Rattle.cli.proofs.commands.command.Given as goal

abbrev pub invariant-loop-it : goal.invariant-loop-it
invariant-loop-it l =
    (app_of l.command ≡ fold (λ a it. with_rule a (argument_of l.choices it)) (new_app l.row.name.now) (take l.it-index l.it-items))
    × ((out-Command l.command).has_globals ≡ false)
