use Rattle.std.proofs.Common.{◌∙◌, ap, drop, refl, take}
use Rattle.cc_values.specs.declared.op.Op.TheVariants as op
use Rattle.cc_syntax.specs.Commands.{commands}
use Rattle.cc_syntax.proofs.CommandLemmas.{by_table, misses_name, named, passed}
use Rattle.cc_syntax.proofs.parsing.take_command.Goals as goal

-- In each arm the line is the command's name and its values, which have the operation. `search` finds all of it too, in more
-- time.
pub returns-in-Some : goal.returns-in-Some
returns-in-Some g c command is =
    c.take_of_value.ensures op.Show command (λ _ _ same. same) (is ∙ by_table c.args.line.now ∙ ap (named commands) c.in-Some.ensures.some)

pub returns-in-Some-after : goal.returns-in-Some-after
returns-in-Some-after g c command is =
    c.take_of_value-in-Some-after.ensures op.Round command (λ _ _ same. same) (is ∙ by_table c.args.line.now ∙ ap (named commands) c.in-Some-after.ensures.some)

pub returns-in-Some-after-2 : goal.returns-in-Some-after-2
returns-in-Some-after-2 g c command is =
    c.take_of_value-in-Some-after-2.ensures op.Alloc command (λ _ _ same. same) (is ∙ by_table c.args.line.now ∙ ap (named commands) c.in-Some-after-2.ensures.some)

pub returns-in-Some-after-3 : goal.returns-in-Some-after-3
returns-in-Some-after-3 g c command is =
    c.take_of_value-in-Some-after-3.ensures op.Free command (λ _ _ same. same) (is ∙ by_table c.args.line.now ∙ ap (named commands) c.in-Some-after-3.ensures.some)

pub returns-in_default-after-3 : goal.returns-in_default-after-3
returns-in_default-after-3 g c command is =
    c.take_derivation.ensures command (is ∙ by_table c.args.line.now ∙ passed (take 4 commands) (drop 4 commands) c.args.line.now (
      misses_name _ (drop 4 commands) _ c.in_default.ensures.none refl,
      (
        misses_name _ (drop 4 commands) _ c.in_default-after.ensures.none refl,
        (
          misses_name _ (drop 4 commands) _ c.in_default-after-2.ensures.none refl,
          (
            misses_name _ (drop 4 commands) _ c.in_default-after-3.ensures.none refl,
            tt,
          ),
        ),
      ),
    ))
