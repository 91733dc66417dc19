use Rattle.std.proofs.Common.{◌∙◌, ◌∷◌, ap, ap₂}
use Rattle.cc_heap.specs.Heap.{Heap}
use Rattle.cc_heap.specs.Lost.{RunState}
use Rattle.cc_heap.specs.declared.settings.Settings.{Settings}
use Rattle.cc_replay.specs.declared.summary.Figures.{Figures}
use Rattle.cc_replay.specs.Summary.{summary_rows}
use Rattle.cc_replay.proofs.RowLemmas.{policy_row}
use Rattle.cc_replay.proofs.group.rows_with_policy.Goals as goal

pub returns-clause-value : goal.returns-clause-value
returns-clause-value g c =
    c.policy_rows.ensures.value
    ∙ ap₂ (λ (settings : Settings) (figures : Figures). policy_row settings ∷ summary_rows figures)
    (c.settings.ensures ∙ ap (λ (heap : Heap). heap.settings) (c.heap.ensures ∙ ap (λ (run : RunState). run.heap) c.run.ensures)) c.figures.ensures
