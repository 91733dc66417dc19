use Rattle.std.proofs.Common.{List, Option, subst}
use Rattle.clap.specs.Walk.{Row, Text}
use Rattle.cli.specs.Invocation.{IsInvocation}
use Rattle.cli.proofs.reading.read_words.Goals as goal

pub invocation_of-requires : goal.invocation_of-requires
invocation_of-requires c = c.in-Ok.ensures.read.3

pub returns-in-Ok-clause-read : goal.returns-in-Ok-clause-read
returns-in-Ok-clause-read c =
    let told = c.in-Ok.ensures.read in
    (told.0, told.1, subst (λ (found : Option (Text × List Row)). IsInvocation found c.invocation_of.result) told.2 c.invocation_of.ensures)
