use Rattle.std.proofs.Common.{◌∙◌, Option, ap, is_some, sym}
use Rattle.clap.specs.Walk.{Text}
use Rattle.cli.proofs.ChoiceLemmas.{is_some-now}
use Rattle.cli.proofs.reading.has_value.Goals as goal

pub returns : goal.returns
returns c =
    let given = sym c.value_of.ensures in
    c.is_some.ensures ∙ is_some-now c.value_of.result ∙ ap (λ (o : Option Text). is_some o) given
