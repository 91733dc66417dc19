use Rattle.std.proofs.Common.{◌∙◌, ap, drop, refl, take}
use Rattle.cc_values.specs.declared.op.Op.TheVariants as op
use Rattle.cc_syntax.specs.Commands.{commands}
use Rattle.cc_syntax.proofs.CommandLemmas.{misses_name, named, passed}
use Rattle.cc_syntax.proofs.parsing.take_derivation.Goals as goal

-- `search` also finds the goal of `exact`, whose mutant is to leave an open goal.
pub returns-in-Some : goal.returns-in-Some
returns-in-Some g c command is =
    c.take_of_slot.ensures op.Inc command (λ _ _ _ same. same) (is ∙ ap (named (drop 4 commands)) c.in-Some.ensures.some)

pub returns-in-Some-after : goal.returns-in-Some-after
returns-in-Some-after g c command is =
    c.take_of_slot-in-Some-after.ensures op.Addr command (λ _ _ _ same. same) (is ∙ ap (named (drop 4 commands)) c.in-Some-after.ensures.some)

pub returns-in-Some-after-2 : goal.returns-in-Some-after-2
returns-in-Some-after-2 g c command is =
    c.take_of_slot-in-Some-after-2.ensures op.Bounds command (λ _ _ _ same. same) (is ∙ ap (named (drop 4 commands)) c.in-Some-after-2.ensures.some)

pub returns-in-Some-after-4 : goal.returns-in-Some-after-4
returns-in-Some-after-4 g c command is =
    c.take_of_slot-in-Some-after-4.ensures op.Perms command (λ _ _ _ same. same) (is ∙ ap (named (drop 4 commands)) c.in-Some-after-4.ensures.some)

pub returns-in-Some-after-5 : goal.returns-in-Some-after-5
returns-in-Some-after-5 g c command is =
    c.take_of_slot-in-Some-after-5.ensures op.Flag command (λ _ _ _ same. same) (is ∙ ap (named (drop 4 commands)) c.in-Some-after-5.ensures.some)

pub returns-in_default-after-5 : goal.returns-in_default-after-5
returns-in_default-after-5 g c command is =
    c.take_sealing.ensures command (is ∙ passed (take 6 (drop 4 commands)) (drop 10 commands) c.args.line.now (
      misses_name _ (drop 10 commands) _ c.in_default.ensures.none refl,
      (
        misses_name _ (drop 10 commands) _ c.in_default-after.ensures.none refl,
        (
          misses_name _ (drop 10 commands) _ c.in_default-after-2.ensures.none refl,
          (
            misses_name _ (drop 10 commands) _ c.in_default-after-3.ensures.none refl,
            (
              misses_name _ (drop 10 commands) _ c.in_default-after-4.ensures.none refl,
              (
                misses_name _ (drop 10 commands) _ c.in_default-after-5.ensures.none refl,
                tt,
              ),
            ),
          ),
        ),
      ),
    ))
