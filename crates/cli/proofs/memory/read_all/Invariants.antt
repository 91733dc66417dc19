use Rattle.std.proofs.Common.{◌≡◌, false}
use Rattle.std.specs.Io.KnownBytes.{Consumes}
use Rattle.cli.proofs.memory.read_all.Given as goal

abbrev pub invariant-pieces : goal.invariant-pieces
invariant-pieces g l = record {
  given : Consumes (g.S.Source.state l.initial.source).unread (g.S.Source.state l.source).unread l.bytes.items;
  gives : (g.S.Source.state l.source).has_failed ≡ false;
}

abbrev pub decreases-pieces : goal.decreases-pieces
decreases-pieces g l = (g.S.Source.state l.source).most_unread
