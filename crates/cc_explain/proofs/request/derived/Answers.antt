use Rattle.std.proofs.Common.{◌≡◌, subst}
use Rattle.cc_cap.specs.Capability.{Capability, at_address, root_capability}
use Rattle.cc_cap.specs.Derivation.{SetsAddress, SetsBounds}
use Rattle.cc_explain.proofs.RequestLemmas.{root_grants, root_moves}
use Rattle.cc_explain.proofs.request.derived.Goals as goal

pub returns-in_err-set_address : goal.returns-in_err-set_address
returns-in_err-set_address c =
    let base = c.args.request.now.base in
    let made = subst (λ (cap : Capability). SetsAddress cap base c.set_address.result) c.root.ensures c.set_address.ensures.made in
    let moved = root_moves base c.set_address.result c.requires.base_fits made in
    cc (moved, c.in_err-set_address.was)

pub returns : goal.returns
returns c =
    let request = c.args.request.now in
    let made = subst (λ (cap : Capability). SetsAddress cap request.base c.set_address.result) c.root.ensures c.set_address.ensures.made in
    let moved = root_moves request.base c.set_address.result c.requires.base_fits made in
    let same : c.in_ok-set_address.field-0 ≡ at_address root_capability request.base = cc (moved, c.in_ok-set_address.was) in
    let bound = subst (λ (cap : Capability). SetsBounds cap c.length_of.result c.set_bounds.result) same c.set_bounds.ensures.made in
    root_grants request c.length_of.result c.set_bounds.result c.requires c.length_of.ensures.value bound
