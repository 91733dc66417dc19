use Rattle.std.proofs.Common.{◌≡◌, ◌∙◌, Err, Ok, ap, ap₂, rules, sym}
use Rattle.std.specs.Option.{ok_or}
use Rattle.std.specs.Result.{result_ok}
use Rattle.cc_word.specs.declared.refusal.Refusal.TheVariants.{Syntax}
use Rattle.cc_heap.specs.declared.reallocation.Reallocation.TheVariants.{Move}
use Rattle.cc_heap.specs.declared.settings.Settings.{Settings}
use Rattle.cc_values.specs.Values.{both}
use Rattle.cli_replay.specs.ReplayValues.{reading_in, settings_in}
use Rattle.cli_replay.specs.Settings.{IsForHeap}
use Rattle.cli_replay.proofs.ReplayValuesLemmas.{both_first, both_refused, changed_found, of_value, parts_of_both}
use Rattle.cli_replay.proofs.replay_values.replay_of.Goals as goal

pub returns-in-Ok-others-clause-value : goal.returns-in-Ok-others-clause-value
returns-in-Ok-others-clause-value c =
    let values = c.args.values in
    let told : both (both (ok_or values.output Syntax) (reading_in values)) (settings_in values) ≡ Ok ((c.in-Ok.output, c.in-Ok.reading), c.in-Ok.settings) =
    cc (c.both.ensures, c.both-trace.ensures, c.ok_or.ensures.value, c.settings_of.ensures.value, c.reading_of.ensures, c.in-Ok.is) in
    changed_found _ _ _ (ap₂ both told (sym c.others_of-others.ensures ∙ c.in-Ok-others.is))

pub returns-in-Ok-others-2-clause-value : goal.returns-in-Ok-others-2-clause-value
returns-in-Ok-others-2-clause-value c =
    let values = c.args.values in
    let told : both (both (ok_or values.output Syntax) (reading_in values)) (settings_in values) ≡ Err c.in-Err.refusal =
    cc (c.both.ensures, c.both-trace.ensures, c.ok_or.ensures.value, c.settings_of.ensures.value, c.reading_of.ensures, c.in-Err.is) in
    changed_found _ _ _ (ap₂ both told (sym c.others_of-others.ensures ∙ c.in-Ok-others-2.is) ∙ both_first c.in-Err.refusal _)

pub returns-in-Err-others-2-clause-value : goal.returns-in-Err-others-2-clause-value
returns-in-Err-others-2-clause-value c =
    let values = c.args.values in
    let told : both (both (ok_or values.output Syntax) (reading_in values)) (settings_in values) ≡ Err c.in-Err.refusal =
    cc (c.both.ensures, c.both-trace.ensures, c.ok_or.ensures.value, c.settings_of.ensures.value, c.reading_of.ensures, c.in-Err.is) in
    changed_found _ _ _ (ap₂ both told (sym c.others_of-others.ensures ∙ c.in-Err-others-2.is) ∙ both_refused c.in-Err.refusal c.in-Err-others-2.other (search rules))

pub returns-in-Ok-others-clause-output : goal.returns-in-Ok-others-clause-output
returns-in-Ok-others-clause-output c =
    let told : both (both c.ok_or.result c.reading_of.result) c.settings_of.result ≡ Ok ((c.in-Ok.output, c.in-Ok.reading), c.in-Ok.settings) =
    cc (c.both.ensures, c.both-trace.ensures, c.in-Ok.is) in
    c.ok_or.ensures.ok_part
    ∙ ap result_ok (parts_of_both c.ok_or.result c.reading_of.result _ (parts_of_both (both c.ok_or.result c.reading_of.result) c.settings_of.result _ told).0).0

pub returns-in-Ok-others-clause-settings : goal.returns-in-Ok-others-clause-settings
returns-in-Ok-others-clause-settings c =
    of_value IsForHeap c.settings_of.result _ c.settings_of.ensures.settings (parts_of_both c.both-trace.result c.settings_of.result _ (sym c.both.ensures ∙ c.in-Ok.is)).1

pub returns-in-Ok-others-clause-moves : goal.returns-in-Ok-others-clause-moves
returns-in-Ok-others-clause-moves c = λ scripted.
    of_value (λ (settings : Settings). settings.realloc ≡ Move) c.settings_of.result _ (c.settings_of.ensures.moves scripted)
    (parts_of_both c.both-trace.result c.settings_of.result _ (sym c.both.ensures ∙ c.in-Ok.is)).1
