use Rattle.std.proofs.Common.{◌≡◌, take}
use Rattle.clap.specs.Words.{app_of}
use Rattle.cli.specs.Usage.{bare_program, with_commands}
use Rattle.cli.proofs.commands.program.Given as goal

abbrev pub invariant-loop-row : goal.invariant-loop-row
invariant-loop-row l = app_of l.program ≡ with_commands l.choices bare_program (take l.row-index l.row-items)
