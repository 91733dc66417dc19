use Rattle.std.proofs.Common.{ℕ, ◌≡◌, ◌*◌, ◌/◌, ◌≤◌, get_or, arith, inl, inr, subst}
use Rattle.std.proofs.lemmas.Bool.{cases_lt}
use Rattle.cc_machine.proofs.gap_heads.greatest_of_all.Goals as goal

pub loop-group-preserved : goal.loop-group-preserved
loop-group-preserved c at d low inside =
    elim (cases_lt at (16 * c.loop-group.group)) [
      | inl before ↦ omega (arith, c.loop-group.invariant at d before inside, c.max-most.ensures)
      | inr after ↦
          let here : at / 16 ≡ c.loop-group.group = omega (arith, low, after) in
          let most : (get_or c.args.heads.now at d).bound ≤ get_or c.args.groups.now c.loop-group.group 0
          = subst (λ (group : ℕ). (get_or c.args.heads.now at d).bound ≤ get_or c.args.groups.now group 0) here
          (c.requires.bounded at d 0 inside) in
          omega (arith, most, c.max-most.ensures)
    ]
