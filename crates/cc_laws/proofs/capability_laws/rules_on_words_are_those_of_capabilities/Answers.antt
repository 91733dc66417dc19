use Rattle.cc_cap.specs.Derivation.{SetsAddress, Increments, SetsBounds, SetsExactBounds, MasksPermissions, SetsFlag, Seals, Unseals, Rebuilds}
use Rattle.cc_cap.proofs.OneResultLemmas.{SetsAddress-one, Increments-one, SetsBounds-one, SetsExactBounds-one, MasksPermissions-one, SetsFlag-one, Seals-one, Unseals-one, Rebuilds-one}
use Rattle.cc_cap.proofs.WordRuleLemmas.{OnWord-same, OnWords-same}
use Rattle.cc_laws.proofs.capability_laws.rules_on_words_are_those_of_capabilities.Goals as goal

pub returns-clause-set_address : goal.returns-clause-set_address
returns-clause-set_address c address = OnWord-same (λ cap. SetsAddress cap address) (λ cap. SetsAddress-one cap address)

pub returns-clause-increment : goal.returns-clause-increment
returns-clause-increment c amount = OnWord-same (λ cap. Increments cap amount) (λ cap. Increments-one cap amount)

pub returns-clause-set_bounds : goal.returns-clause-set_bounds
returns-clause-set_bounds c len = OnWord-same (λ cap. SetsBounds cap len) (λ cap. SetsBounds-one cap len)

pub returns-clause-set_bounds_exact : goal.returns-clause-set_bounds_exact
returns-clause-set_bounds_exact c len = OnWord-same (λ cap. SetsExactBounds cap len) (λ cap. SetsExactBounds-one cap len)

pub returns-clause-and_perms : goal.returns-clause-and_perms
returns-clause-and_perms c mask = OnWord-same (λ cap. MasksPermissions cap mask) (λ cap. MasksPermissions-one cap mask)

pub returns-clause-set_flag : goal.returns-clause-set_flag
returns-clause-set_flag c flag = OnWord-same (λ cap. SetsFlag cap flag) (λ cap. SetsFlag-one cap flag)

pub returns-clause-seal : goal.returns-clause-seal
returns-clause-seal c = OnWords-same Seals Seals-one

pub returns-clause-unseal : goal.returns-clause-unseal
returns-clause-unseal c = OnWords-same Unseals Unseals-one

pub returns-clause-rebuild : goal.returns-clause-rebuild
returns-clause-rebuild c word = OnWord-same (λ by. Rebuilds by word) (λ by. Rebuilds-one by word)
