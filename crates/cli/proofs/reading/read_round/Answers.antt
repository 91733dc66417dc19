use Rattle.std.proofs.Common.{◌≡◌, ◌∙◌, Option, None, Some, ap, codes, is_some, option_map, subst}
use Rattle.clap.specs.Walk.{Text}
use Rattle.clap.specs.Words.{first_of, found_of, rows_of}
use Rattle.cc_values.specs.Values.{address_in}
use Rattle.cli.specs.Invocation.{is_read, list_mistake}
use Rattle.cli.proofs.ChoiceLemmas.{list_alone, size_wanted}
use Rattle.cli.proofs.reading.read_round.Goals as goal

pub base_of-requires : goal.base_of-requires
base_of-requires c =
    let rows = rows_of (found_of c.args.matches.now) in
    let is_address = is_read address_in (first_of (codes "base") rows) in
    let some : first_of (codes "list") rows ≡ Some c.in-Some.file.now = c.value_of.ensures ∙ ap (option_map (λ s. s.now)) c.in-Some.is in
    (list_alone (first_of (codes "length") rows) is_address
    (subst (λ (o : Option Text). list_mistake (is_some o) (is_some (first_of (codes "length") rows)) is_address ≡ None) some c.requires)).1

pub base_of-requires-in-None : goal.base_of-requires-in-None
base_of-requires-in-None c =
    let rows = rows_of (found_of c.args.matches.now) in
    let is_address = is_read address_in (first_of (codes "base") rows) in
    let none : first_of (codes "list") rows ≡ None = c.value_of.ensures ∙ ap (option_map (λ s. s.now)) c.in-None.is in
    (size_wanted (first_of (codes "length") rows) is_address
    (subst (λ (o : Option Text). list_mistake (is_some o) (is_some (first_of (codes "length") rows)) is_address ≡ None) none c.requires)).1

pub wanted_text-requires : goal.wanted_text-requires
wanted_text-requires c =
    let rows = rows_of (found_of c.args.matches.now) in
    let is_address = is_read address_in (first_of (codes "base") rows) in
    let none : first_of (codes "list") rows ≡ None = c.value_of.ensures ∙ ap (option_map (λ s. s.now)) c.in-None.is in
    (size_wanted (first_of (codes "length") rows) is_address
    (subst (λ (o : Option Text). list_mistake (is_some o) (is_some (first_of (codes "length") rows)) is_address ≡ None) none c.requires)).0

pub returns-in-Some-clause-values : goal.returns-in-Some-clause-values
returns-in-Some-clause-values c =
    let rows = rows_of (found_of c.args.matches.now) in
    let is_address = is_read address_in (first_of (codes "base") rows) in
    let some : first_of (codes "list") rows ≡ Some c.in-Some.file.now = c.value_of.ensures ∙ ap (option_map (λ s. s.now)) c.in-Some.is in (
      c.base_of.ensures,
      some,
      (list_alone (first_of (codes "length") rows) is_address
          (subst (λ (o : Option Text). list_mistake (is_some o) (is_some (first_of (codes "length") rows)) is_address ≡ None) some c.requires)).0,
    )

pub returns-in-None-clause-values : goal.returns-in-None-clause-values
returns-in-None-clause-values c = (
  c.base_of-in-None.ensures,
  c.value_of.ensures ∙ ap (option_map (λ s. s.now)) c.in-None.is,
  c.wanted_text.ensures,
)
