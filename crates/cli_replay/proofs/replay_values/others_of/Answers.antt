use Rattle.std.proofs.Common.{◌≡◌, ◌∙◌, ◌<◌, [], ◌∷◌, ◌==◌, List, ℕ, Ok, ap, arith, length, sym}
use Rattle.std.proofs.lemmas.List.Splits.{length-slice_split}
use Rattle.cli_replay.specs.ReplayValues.{in_summary, others_given, others_in, pieces_of}
use Rattle.cli_replay.proofs.ReplayValuesLemmas.{others_summed}
use Rattle.cli_replay.proofs.replay_values.others_of.Goals as goal

pub returns-in_default-split_at_first : goal.returns-in_default-split_at_first
returns-in_default-split_at_first c =
    let names : pieces_of c.in-Some.text.now ≡ c.as_bytes.result.now ∷ [] = ap pieces_of (sym c.as_bytes.ensures.value) ∙ c.in_default-split_at_first.ensures.whole in
    ap Ok c.new-in_default-split_at_first.ensures
    ∙ sym (ap (others_given c.args.output) c.in-Some.is ∙ ap (λ (l : List (List ℕ)). others_in l c.args.output) names)

pub returns : goal.returns
returns c =
    let after = pieces_of c.in-Some-split_at_first.names.now in
    let names : pieces_of c.in-Some.text.now ≡ c.in-Some-split_at_first.field-0-0.now ∷ after =
    ap pieces_of (sym c.as_bytes.ensures.value) ∙ c.in-Some-split_at_first.ensures.parts in
    let some : 0 < length after = omega (arith, length-slice_split (λ byte. byte == 44) c.in-Some-split_at_first.names.now) in
    c.in_summary.ensures ∙ ap (in_summary c.args.output) c.read_policies.ensures
    ∙ sym (ap (others_given c.args.output) c.in-Some.is ∙ ap (λ (l : List (List ℕ)). others_in l c.args.output) names ∙ others_summed c.in-Some-split_at_first.field-0-0.now after c.args.output some)
