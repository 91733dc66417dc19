use Rattle.std.proofs.Common.{◌≡◌, ℕ, ◌/◌, ◌^◌, bit_and, ◌⊎◌, true, nat_eq, refl, inl, inr, arith}
use Rattle.std.proofs.lemmas.Nat.{and_mask}
use Rattle.cc_cap.proofs.CanonicalLemmas.{plain-bits}
use Rattle.cc_cap.proofs.cap.is_plain.Goals as goal

pub returns-then-flag_between-eq0 : goal.returns-then-flag_between-eq0
returns-then-flag_between-eq0 c fields has =
    let rest : ℕ = bit_and (c.args.word / 2 ^ 91) 2097151 in
    let law = plain-bits c.args.word rest (and_mask (c.args.word / 2 ^ 91) 21) fields has in
    let zero : rest ≡ 0 = grind (arith, c.if-flag_between-eq0.true) in
    (λ _. law.0 (inl zero), λ _. rw zero refl)

pub returns-else-flag_between-eq0 : goal.returns-else-flag_between-eq0
returns-else-flag_between-eq0 c fields has =
    let rest : ℕ = bit_and (c.args.word / 2 ^ 91) 2097151 in
    let law = plain-bits c.args.word rest (and_mask (c.args.word / 2 ^ 91) 21) fields has in
    let some : ¬ (rest ≡ 0) = grind (arith, c.if-flag_between-eq0.false) in (
      λ yes. law.0 (inr (grind (arith, yes))),
      λ both. set (law.1 both) some,
    )
  where
    set : {rest : ℕ} → (rest ≡ 0) ⊎ (rest ≡ 262144) → (¬ (rest ≡ 0)) → nat_eq rest 262144 ≡ true
    set (inl zero) some = absurd (some zero)
    set (inr is) some = rw is refl
