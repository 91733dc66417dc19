use Rattle.std.proofs.Common.{◌≡◌, ◌∙◌, ◌⊎◌, inl, inr, Some, ap, arith, sym}
use Rattle.std.proofs.lemmas.Grind.{common_steps}
use Rattle.clap.specs.Walk.{Rule, Text}
use Rattle.clap.specs.Words.{rule_of}
use Rattle.clap.specs.declared.builder.action.ArgAction.TheVariants.{Set}
use Rattle.cli.specs.Usage.{kind_rule, optional_argument, valued_option}
use Rattle.cli.specs.declared.table.Choices.{Choices}
use Rattle.cli.specs.declared.table.Kind.{Kind}
use Rattle.cli.specs.declared.table.Kind.TheVariants.{Address, Permissions, Valued}
use Rattle.cli.proofs.arguments.argument.Goals as goal

-- The kinds of options whose values clap does not check have one rule.
valued : (choices : Choices) (kind : Kind) (name : Text) → (kind ≡ Valued) ⊎ ((kind ≡ Address) ⊎ (kind ≡ Permissions))
    → kind_rule choices kind name ≡ valued_option name
valued choices kind name (inl is) = ap (λ (k : Kind). kind_rule choices k name) is
valued choices kind name (inr (inl is)) = ap (λ (k : Kind). kind_rule choices k name) is
valued choices kind name (inr (inr is)) = ap (λ (k : Kind). kind_rule choices k name) is

pub returns-in-Valued-clause-rule : goal.returns-in-Valued-clause-rule
returns-in-Valued-clause-rule c =
    let name : Text = c.args.row.now.name.now in
    let taken : rule_of c.action-taken.result ≡ optional_argument name =
    ap rule_of c.action-taken.ensures ∙ ap (λ (r : Rule). record r { action = Some Set }) (ap rule_of c.value_name.ensures
    ∙ ap (λ (r : Rule). record r { value_names = 1 }) (ap rule_of c.help-bare.ensures ∙ c.new.ensures.rule)) in
    ap rule_of c.long-in-Valued.ensures ∙ ap (λ (r : Rule). record r { long = Some name }) taken
    ∙ sym (valued c.args.choices c.args.row.now.kind name c.in-Valued.is)

pub returns-clause-rule : goal.returns-clause-rule
returns-clause-rule c = grind (arith, common_steps)
