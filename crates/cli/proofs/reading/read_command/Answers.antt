use Rattle.std.proofs.Common.{◌∙◌, subst, sym}
use Rattle.clap.specs.Walk.{Text}
use Rattle.clap.specs.Words.{found_of, rows_of}
use Rattle.cli.specs.Invocation.{HasWanted}
use Rattle.cli.proofs.reading.read_command.Goals as goal

pub read_show-requires : goal.read_show-requires
read_show-requires c =
    let wanted = subst (λ (name : Text). HasWanted name (rows_of (found_of c.args.matches.now))) c.in-show.is c.requires in
    record { word = wanted.0; format = wanted.1 }

pub returns-in-show : goal.returns-in-show
returns-in-show c = record { command = c.read_show.ensures.command ∙ sym c.in-show.is; values = c.read_show.ensures.values }

pub read_round-requires : goal.read_round-requires
read_round-requires c =
    subst (λ (name : Text). HasWanted name (rows_of (found_of c.args.matches.now))) c.in-round.is c.requires

pub returns-in-round : goal.returns-in-round
returns-in-round c = record { command = c.read_round.ensures.command ∙ sym c.in-round.is; values = c.read_round.ensures.values }

pub read_run-requires : goal.read_run-requires
read_run-requires c =
    subst (λ (name : Text). HasWanted name (rows_of (found_of c.args.matches.now))) c.in-run.is c.requires

pub returns-in-run : goal.returns-in-run
returns-in-run c = record { command = c.read_run.ensures.command ∙ sym c.in-run.is; values = c.read_run.ensures.values }

pub read_plan-requires : goal.read_plan-requires
read_plan-requires c =
    let wanted = subst (λ (name : Text). HasWanted name (rows_of (found_of c.args.matches.now))) c.in-plan.is c.requires in
    record { pool = wanted.0; limit = wanted.1; align = wanted.2 }

pub returns-in-plan : goal.returns-in-plan
returns-in-plan c = record { command = c.read_plan.ensures.command ∙ sym c.in-plan.is; values = c.read_plan.ensures.values }

pub read_map-requires : goal.read_map-requires
read_map-requires c =
    let wanted = subst (λ (name : Text). HasWanted name (rows_of (found_of c.args.matches.now))) c.in-map.is c.requires in
    record { pool = wanted.0; limit = wanted.1; align = wanted.2 }

pub returns-in-map : goal.returns-in-map
returns-in-map c = record { command = c.read_map.ensures.command ∙ sym c.in-map.is; values = c.read_map.ensures.values }

pub read_replay-requires : goal.read_replay-requires
read_replay-requires c =
    let wanted = subst (λ (name : Text). HasWanted name (rows_of (found_of c.args.matches.now))) c.in-replay.is c.requires in
    record { align = wanted.0; summary = wanted.1 }

pub returns-in-replay : goal.returns-in-replay
returns-in-replay c = record { command = c.read_replay.ensures.command ∙ sym c.in-replay.is; values = c.read_replay.ensures.values }

pub read_decode-requires : goal.read_decode-requires
read_decode-requires c =
    let wanted = subst (λ (name : Text). HasWanted name (rows_of (found_of c.args.matches.now))) c.in-decode.is c.requires in
    record { format = wanted.0; order = wanted.1; search = wanted.2 }

pub returns-in-decode : goal.returns-in-decode
returns-in-decode c = record { command = c.read_decode.ensures.command ∙ sym c.in-decode.is; values = c.read_decode.ensures.values }

pub returns-in-annotate : goal.returns-in-annotate
returns-in-annotate c = record { command = c.read_annotate.ensures.command ∙ sym c.in-annotate.is; values = c.read_annotate.ensures.values }

pub read_explain-requires : goal.read_explain-requires
read_explain-requires c =
    subst (λ (name : Text). HasWanted name (rows_of (found_of c.args.matches.now))) c.in-explain.is c.requires

pub returns-in-explain : goal.returns-in-explain
returns-in-explain c = record { command = c.read_explain.ensures.command ∙ sym c.in-explain.is; values = c.read_explain.ensures.values }
