use Rattle.std.proofs.Common.{◌∙◌, ℕ, Result, ap}
use Rattle.cc_word.specs.declared.refusal.Refusal.{Refusal}
use Rattle.cc_values.specs.Values.{both}
use Rattle.cc_replay.specs.Ltrace.{arguments_of, reallocated, resized_in}
use Rattle.cc_replay.proofs.ltrace.read_realloc.Goals as goal

pub returns : goal.returns
returns c =
    let call = c.args.call.now in
    let resized = c.read_resized.ensures ∙ ap resized_in c.cut.ensures.before in
    c.reallocated.ensures
    ∙ ap reallocated (c.both.ensures ∙ ap (λ (r : Result (ℕ × ℕ) Refusal). both r c.read_result.result) resized ∙ ap (both (resized_in (arguments_of call))) c.read_result.ensures)
