use Rattle.std.proofs.Common.{ℕ, ◌∙◌, sym, subst}
use Rattle.cc_cap.specs.Canonical.{IsWordOf}
use Rattle.cc_ffi.proofs.c_rules.cheri_cap_is_subset.Goals as goal

pub returns-clause-words : goal.returns-clause-words
returns-clause-words c one is other is' = c.is_subset.ensures.words one other (is ∙ sym c.number.ensures) (is' ∙ sym c.number-2.ensures)

pub returns-clause-capabilities : goal.returns-clause-capabilities
returns-clause-capabilities c one other has has' =
    c.is_subset.ensures.capabilities one other (subst (λ (word : ℕ). IsWordOf one word) (sym c.number.ensures) has)
    (subst (λ (word : ℕ). IsWordOf other word) (sym c.number-2.ensures) has')
