use Rattle.std.proofs.Common.{◌+◌, ◌%◌, ◌^◌}
use Rattle.cc_cap.specs.Derivation.{SetsAddress, Increments, SetsBounds, SetsExactBounds, MasksPermissions, SetsFlag, Seals, Unseals, Rebuilds}
use Rattle.cc_cap.proofs.SubsetLemmas.{SetsAddress-grants, SetsBounds-grants, SetsExactBounds-grants, MasksPermissions-grants, SetsFlag-grants, Seals-grants, Unseals-grants, Rebuilds-grants}
use Rattle.cc_cap.proofs.SubsetLemmas.{OnWord-subset, OnWords-subset, subset_itself, subset_chain}
use Rattle.cc_laws.proofs.capability_laws.rules_on_words_are_monotonic.Goals as goal

pub returns-clause-set_address : goal.returns-clause-set_address
returns-clause-set_address c address = OnWord-subset (λ cap. SetsAddress cap address) (λ cap. SetsAddress-grants cap address)

pub returns-clause-increment : goal.returns-clause-increment
returns-clause-increment c amount = OnWord-subset (λ cap. Increments cap amount) (λ cap. SetsAddress-grants cap ((cap.address + amount) % 2 ^ 64))

pub returns-clause-set_bounds : goal.returns-clause-set_bounds
returns-clause-set_bounds c len = OnWord-subset (λ cap. SetsBounds cap len) (λ cap. SetsBounds-grants cap len)

pub returns-clause-set_bounds_exact : goal.returns-clause-set_bounds_exact
returns-clause-set_bounds_exact c len = OnWord-subset (λ cap. SetsExactBounds cap len) (λ cap. SetsExactBounds-grants cap len)

pub returns-clause-and_perms : goal.returns-clause-and_perms
returns-clause-and_perms c mask = OnWord-subset (λ cap. MasksPermissions cap mask) (λ cap. MasksPermissions-grants cap mask)

pub returns-clause-set_flag : goal.returns-clause-set_flag
returns-clause-set_flag c flag = OnWord-subset (λ cap. SetsFlag cap flag) (λ cap. SetsFlag-grants cap flag)

pub returns-clause-seal : goal.returns-clause-seal
returns-clause-seal c = OnWords-subset Seals Seals-grants

pub returns-clause-unseal : goal.returns-clause-unseal
returns-clause-unseal c = OnWords-subset Unseals Unseals-grants

pub returns-clause-rebuild : goal.returns-clause-rebuild
returns-clause-rebuild c word = OnWord-subset (λ by. Rebuilds by word) (λ by. Rebuilds-grants by word)

pub returns-clause-itself : goal.returns-clause-itself
returns-clause-itself c = subset_itself

pub returns-clause-chain : goal.returns-clause-chain
returns-clause-chain c = subset_chain
