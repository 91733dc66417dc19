use Rattle.std.proofs.Common.{◌∙◌, [], ap, drop, refl, sym}
use Rattle.cc_values.specs.declared.op.Op.TheVariants as op
use Rattle.cc_syntax.specs.Commands.{commands, two}
use Rattle.cc_syntax.proofs.CommandLemmas.{misses_alone, misses_name, named, no_command, passed}
use Rattle.cc_syntax.proofs.parsing.take_sealing.Goals as goal

pub returns-in-Some : goal.returns-in-Some
returns-in-Some g c command is =
    c.take_of_slot.ensures op.Seal command (λ _ _ _ same. same) (is ∙ ap (named (drop 10 commands)) c.in-Some.ensures.some)

pub returns-in-Some-after : goal.returns-in-Some-after
returns-in-Some-after g c command is =
    c.take_of_slot-in-Some-after.ensures op.Unseal command (λ _ _ _ same. same) (is ∙ ap (named (drop 10 commands)) c.in-Some-after.ensures.some)

pub returns-in-Some-after-2 : goal.returns-in-Some-after-2
returns-in-Some-after-2 g c command is =
    c.take_of_slot-in-Some-after-2.ensures op.Rebuild command (λ _ _ _ same. same) (is ∙ ap (named (drop 10 commands)) c.in-Some-after-2.ensures.some)

pub returns-in-Some-after-3 : goal.returns-in-Some-after-3
returns-in-Some-after-3 g c command is =
    c.take.ensures command (is ∙ ap (named (drop 10 commands)) c.in-Some-after-3.ensures.some
    ∙ ap (two op.Pool) (sym c.slot_and_perhaps.ensures) ∙ sym (c.made.ensures op.Pool (λ _ _ _ same. same)))

pub returns-then-is : goal.returns-then-is
returns-then-is g c command is =
    c.take-then-is.ensures command (is ∙ ap (named (drop 10 commands)) (c.is.ensures.yes c.if-is.true))

pub returns-else-is : goal.returns-else-is
returns-else-is g c command is =
    c.take-else-is.ensures command (is ∙ passed (drop 10 commands) [] c.args.line.now (
      misses_name _ [] _ c.in_default.ensures.none refl,
      (
        misses_name _ [] _ c.in_default-after.ensures.none refl,
        (
          misses_name _ [] _ c.in_default-after-2.ensures.none refl,
          (
            misses_name _ [] _ c.in_default-after-3.ensures.none refl,
            (
              misses_alone _ [] _ (c.is.ensures.no c.if-is.false) (λ value values. refl),
              tt,
            ),
          ),
        ),
      ),
    ) ∙ no_command c.args.line.now)
