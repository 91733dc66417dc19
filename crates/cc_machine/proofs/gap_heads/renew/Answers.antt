use Rattle.std.proofs.Common.{ℕ, ◌≡◌, ◌+◌, ◌*◌, ◌/◌, ◌<◌, ◌≤◌, List, ap, arith, get_or-set_other, inl, inr, length, slice_set}
use Rattle.std.proofs.lemmas.Bool.{cases_eq}
use Rattle.std.proofs.lemmas.Grind.{get_or-set_at}
use Rattle.std.proofs.lemmas.List.{get_or_default}
use Rattle.std.specs.List.{slice_index_or}
use Rattle.cc_machine.specs.declared.gap_heads.Head.{Head}
use Rattle.cc_machine.specs.GapHeads.{AreBounded, AreBoundedBut}
use Rattle.cc_machine.proofs.gap_heads.renew.Goals as goal

-- Positions from one on that are in another group are after it.
later : {changed at : ℕ} → changed ≤ at → (at / 16 ≡ changed / 16 → ⊥) → changed + 1 ≤ at
later {changed} {at} from other = elim (cases_eq at changed) [
  | inl is ↦ absurd (other (ap (λ (n : ℕ). n / 16) is))
  | inr apart ↦ omega (arith, from, apart)
]

-- The changed head has the largest bound of its group, which is raised to it.
raised : (heads : List Head) (groups : List ℕ) (changed : ℕ) (z : Head)
    → changed < length heads → length heads ≤ 16 * length groups → AreBoundedBut changed (changed + 1) heads groups
    → slice_index_or groups (changed / 16) 0 ≤ (slice_index_or heads changed z).bound
    → AreBounded heads (slice_set groups (changed / 16) (slice_index_or heads changed z).bound)
raised heads groups changed z within grouped bounded large at d e inside =
    let bound : ℕ = (slice_index_or heads changed z).bound in
    let group : changed / 16 < length groups = omega (arith, within, grouped) in
    elim (cases_eq (at / 16) (changed / 16)) [
      | inl same ↦ rw (get_or-set_at groups (changed / 16) (at / 16) bound e same group) (
          elim (cases_eq at changed) [
            | inl is ↦ rw (is, get_or_default heads changed d z within) (omega arith)
            | inr apart ↦
                let small : (slice_index_or heads at d).bound ≤ slice_index_or groups (at / 16) 0 = bounded at d 0 inside (λ from. omega (arith, from, apart)) in
                let there : slice_index_or groups (at / 16) 0 ≡ slice_index_or groups (changed / 16) 0 = ap (λ (group : ℕ). slice_index_or groups group 0) same in
                omega (arith, small, there, large)
          ]
          )
      | inr other ↦ rw (get_or-set_other groups (changed / 16) (at / 16) bound e other) (bounded at d e inside (λ from. later from other))
    ]

-- The changed head's group has the bound of all its heads.
recomputed : (heads : List Head) (groups : List ℕ) (changed bound : ℕ)
    → changed < length heads → length heads ≤ 16 * length groups → AreBoundedBut changed (changed + 1) heads groups
    → ((at : ℕ) (d : Head) → 16 * (changed / 16) ≤ at → at < 16 * (changed / 16) + 16 → at < length heads → (slice_index_or heads at d).bound ≤ bound)
    → AreBounded heads (slice_set groups (changed / 16) bound)
recomputed heads groups changed bound within grouped bounded greatest at d e inside =
    let group : changed / 16 < length groups = omega (arith, within, grouped) in
    elim (cases_eq (at / 16) (changed / 16)) [
      | inl same ↦ rw (get_or-set_at groups (changed / 16) (at / 16) bound e same group)
          (greatest at d (omega (arith, same)) (omega (arith, same)) inside)
      | inr other ↦ rw (get_or-set_other groups (changed / 16) (at / 16) bound e other) (bounded at d e inside (λ from. later from other))
    ]

-- The changed head has no larger bound than its group.
kept : (heads : List Head) (groups : List ℕ) (changed : ℕ) (z : Head)
    → changed < length heads → length heads ≤ 16 * length groups → AreBoundedBut changed (changed + 1) heads groups
    → (slice_index_or heads changed z).bound < slice_index_or groups (changed / 16) 0
    → AreBounded heads groups
kept heads groups changed z within grouped bounded small at d e inside =
    elim (cases_eq at changed) [
      | inl is ↦
          let group : changed / 16 < length groups = omega (arith, within, grouped) in
          rw (is, get_or_default heads changed d z within, get_or_default groups (changed / 16) e 0 group) (omega (arith, small))
      | inr apart ↦ bounded at d e inside (λ from. omega (arith, from, apart))
    ]

pub returns-then-bound-groups-clause-bounded : goal.returns-then-bound-groups-clause-bounded
returns-then-bound-groups-clause-bounded c =
    raised c.args.heads.now c.args.groups.now c.args.at _ c.requires.within c.requires.grouped c.requires.bounded c.if-bound-groups.true

pub returns-then-before-groups-clause-bounded : goal.returns-then-before-groups-clause-bounded
returns-then-before-groups-clause-bounded c =
    recomputed c.args.heads.now c.args.groups.now c.args.at c.greatest.result c.requires.within c.requires.grouped c.requires.bounded c.greatest.ensures

pub returns-else-before-groups-clause-bounded : goal.returns-else-before-groups-clause-bounded
returns-else-before-groups-clause-bounded c =
    kept c.args.heads.now c.args.groups.now c.args.at _ c.requires.within c.requires.grouped c.requires.bounded c.if-bound-groups.false
