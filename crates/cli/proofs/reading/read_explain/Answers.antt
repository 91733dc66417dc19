use Rattle.std.proofs.Common.{◌≡◌, ◌∙◌, Option, None, ap, codes, is_some, option_map, subst}
use Rattle.clap.specs.Walk.{Text}
use Rattle.clap.specs.Words.{first_of, found_of, rows_of}
use Rattle.cc_values.specs.Values.{address_in}
use Rattle.cli.specs.Invocation.{choice_mistake, is_on, is_read}
use Rattle.cli.proofs.ChoiceLemmas.{length_wanted}
use Rattle.cli.proofs.reading.read_explain.Goals as goal

pub base_or_zero-requires : goal.base_or_zero-requires
base_or_zero-requires c =
    let rows = rows_of (found_of c.args.matches.now) in
    let is_address = is_read address_in (first_of (codes "base") rows) in
    let none : first_of (codes "word") rows ≡ None = c.value_of.ensures ∙ ap (option_map (λ s. s.now)) c.in-None.is in
    (length_wanted (first_of (codes "length") rows) (first_of (codes "base") rows) (is_on (first_of (codes "svg") rows)) is_address
    (subst (λ (o : Option Text). choice_mistake (is_some o) (is_some (first_of (codes "length") rows)) (is_some (first_of (codes "base") rows))
    (is_on (first_of (codes "svg") rows)) is_address ≡ None) none
    c.requires)).2

pub wanted_text-requires : goal.wanted_text-requires
wanted_text-requires c =
    let rows = rows_of (found_of c.args.matches.now) in
    let is_address = is_read address_in (first_of (codes "base") rows) in
    let none : first_of (codes "word") rows ≡ None = c.value_of.ensures ∙ ap (option_map (λ s. s.now)) c.in-None.is in
    (length_wanted (first_of (codes "length") rows) (first_of (codes "base") rows) (is_on (first_of (codes "svg") rows)) is_address
    (subst (λ (o : Option Text). choice_mistake (is_some o) (is_some (first_of (codes "length") rows)) (is_some (first_of (codes "base") rows))
    (is_on (first_of (codes "svg") rows)) is_address ≡ None) none
    c.requires)).0
