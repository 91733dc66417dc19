use Rattle.std.proofs.Common.{inl}
use Rattle.clap.specs.Walk.{texts}
use Rattle.cli_program.specs.Refusals.{has_good_texts}
use Rattle.cli_program.proofs.RefusalLemmas.{good_without_error, texts_fail, texts_found}
use Rattle.cli_program.proofs.program.read_invocation.Goals as goal

pub returns-in-Ok-check_replay_texts-clause-read : goal.returns-in-Ok-check_replay_texts-clause-read
returns-in-Ok-check_replay_texts-clause-read g c =
    let told = c.in-Ok.ensures.read in
    (told.0, told.1, told.2, good_without_error (has_good_texts g.M.ReplaySupport.replay c.in-Ok.invocation) c.in-Ok-check_replay_texts.ensures.kinds)

pub returns-in-Err-check_replay_texts-clause-kinds : goal.returns-in-Err-check_replay_texts-clause-kinds
returns-in-Err-check_replay_texts-clause-kinds g c =
    texts_fail g.M.ReplaySupport.replay (texts c.args.words.now) c.in-Ok.invocation c.in-Err-check_replay_texts.error c.in-Ok.ensures.kinds
    c.in-Ok.ensures.read c.in-Err-check_replay_texts.ensures.kinds

pub returns-in-Err-check_replay_texts-clause-refused : goal.returns-in-Err-check_replay_texts-clause-refused
returns-in-Err-check_replay_texts-clause-refused g c =
    let told = c.in-Ok.ensures.read in (
      told.0,
      told.1,
      λ taken. texts_found g.M.ReplaySupport.replay told.0 (texts c.args.words.now) c.in-Ok.invocation c.in-Err-check_replay_texts.error told.2 c.in-Err-check_replay_texts.ensures.kinds,
    )

pub returns-in-Err-clause-refused : goal.returns-in-Err-clause-refused
returns-in-Err-clause-refused g c =
    let told = c.in-Err.ensures.refused in
    (told.0, told.1, λ taken. inl (told.2 taken))
