use Rattle.std.proofs.Common.{◌≡◌, Err, Ok}
use Rattle.cc_values.specs.Values.{both}
use Rattle.cli_replay.specs.ReplayValues.{each_given, format_in}
use Rattle.cli_replay.proofs.ReplayValuesLemmas.{changed_found}
use Rattle.cli_replay.proofs.replay_values.reading_of.Goals as goal

pub returns-in-Err : goal.returns-in-Err
returns-in-Err c =
    let told : both (format_in c.args.values.format) (each_given c.args.values.output) ≡ Err c.in-Err.refusal =
    cc (c.both.ensures, c.format_of.ensures, c.each_of.ensures, c.in-Err.is) in
    changed_found _ _ _ told

pub returns-in-Ok : goal.returns-in-Ok
returns-in-Ok c =
    let told : both (format_in c.args.values.format) (each_given c.args.values.output) ≡ Ok (c.in-Ok.format, c.in-Ok.each) =
    cc (c.both.ensures, c.format_of.ensures, c.each_of.ensures, c.in-Ok.is) in
    changed_found _ _ _ told
