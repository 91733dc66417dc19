use Rattle.std.proofs.Common.{ap, sym}
use Rattle.cli_replay.specs.Replaying.{table_format}
use Rattle.cli_replay.proofs.takers.table_format.Goals as goal

pub returns-in-Text : goal.returns-in-Text
returns-in-Text c = ap table_format (sym c.in-Text.is)

pub returns-in-Csv : goal.returns-in-Csv
returns-in-Csv c = ap table_format (sym c.in-Csv.is)

pub returns-in-Json : goal.returns-in-Json
returns-in-Json c = ap table_format (sym c.in-Json.is)
