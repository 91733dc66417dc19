use Rattle.std.proofs.Common.{ℕ, Bool, Result}
use Rattle.cc_word.specs.declared.refusal.Refusal.{Refusal}
use Rattle.cc_word.specs.declared.perms.Perms.{Perms}
use Rattle.cc_word.specs.Permissions.{bits_of}
use Rattle.cc_cap.specs.Capability.{Capability}
use Rattle.cc_cap.specs.Derivation.{SetsAddress, Increments, SetsBounds, SetsExactBounds, MasksPermissions, SetsFlag, Seals, Unseals, Rebuilds}
use Rattle.cc_values.specs.declared.op.Op.{Op}
use Rattle.cc_values.specs.declared.op.Op.TheVariants.{Bounds, Exact, Addr, Inc, Flag, Seal, Unseal, Rebuild, Pool, Alloc, Free, Sweep}
use Rattle.cc_values.specs.declared.op.Op.TheVariants as op
use Rattle.cc_values.specs.declared.reply.Reply.{Reply}
use Rattle.cc_machine.specs.State.{State}
use Rattle.cc_machine.specs.Step.{OnSlot, Step}
use Rattle.cc_machine.specs.Making.{Makes}
use Rattle.cc_machine.specs.Laws.{IsMonotonicTree, HasSealingAuthority}
use Rattle.cc_machine.specs.ObjectLaws.{KeepsObjectLaws}
use Rattle.cc_machine.specs.Run.{IsReached}
use Rattle.cc_machine.proofs.RunLemmas.{IsReached-step}
use Rattle.cc_machine.proofs.TreeLemmas.{Keeps-reached, IsMonotonicTree-reached, HasSealingAuthority-reached}
use Rattle.cc_machine.proofs.ObjectLawLemmas.{KeepsObjectLaws-reached}
use Rattle.cc_machine.proofs.GrowthLemmas.{refused-same}
use Rattle.cc_machine.proofs.StepLemmas.{Makes-along, derived}
use Rattle.cc_machine.proofs.machine.Machine.step.Goals as goal
use Rattle.cc_machine.proofs.machine.Machine.step.Goals.{in-Bounds, in-Exact, in-Addr, in-Inc, in-Perms, in-Flag, in-Seal, in-Unseal, in-Rebuild}

-- ---- what derives

makes-bounds : (old : State) (number size : ℕ) (result : Result Capability Refusal)
    → OnSlot old.slots number result (λ cap. SetsBounds cap size result) → Makes old (Bounds number size) number result
makes-bounds old number size result made = derived old (Bounds number size) number (λ cap made. SetsBounds cap size made) result made (λ reply new step. step)

makes-exact : (old : State) (number size : ℕ) (result : Result Capability Refusal)
    → OnSlot old.slots number result (λ cap. SetsExactBounds cap size result) → Makes old (Exact number size) number result
makes-exact old number size result made = derived old (Exact number size) number (λ cap made. SetsExactBounds cap size made) result made (λ reply new step. step)

makes-addr : (old : State) (number address : ℕ) (result : Result Capability Refusal)
    → OnSlot old.slots number result (λ cap. SetsAddress cap address result) → Makes old (Addr number address) number result
makes-addr old number address result made = derived old (Addr number address) number (λ cap made. SetsAddress cap address made) result made (λ reply new step. step)

makes-inc : (old : State) (number amount : ℕ) (result : Result Capability Refusal)
    → OnSlot old.slots number result (λ cap. Increments cap amount result) → Makes old (Inc number amount) number result
makes-inc old number amount result made = derived old (Inc number amount) number (λ cap made. Increments cap amount made) result made (λ reply new step. step)

makes-perms : (old : State) (number : ℕ) (mask : Perms) (result : Result Capability Refusal)
    → OnSlot old.slots number result (λ cap. MasksPermissions cap (bits_of mask) result) → Makes old (op.Perms number mask) number result
makes-perms old number mask result made =
    derived old (op.Perms number mask) number (λ cap made. MasksPermissions cap (bits_of mask) made) result made (λ reply new step. step)

makes-flag : (old : State) (number : ℕ) (flag : Bool) (result : Result Capability Refusal)
    → OnSlot old.slots number result (λ cap. SetsFlag cap flag result) → Makes old (Flag number flag) number result
makes-flag old number flag result made = derived old (Flag number flag) number (λ cap made. SetsFlag cap flag made) result made (λ reply new step. step)

makes-seal : (old : State) (number authority : ℕ) (result : Result Capability Refusal)
    → OnSlot old.slots number result (λ cap. OnSlot old.slots authority result (λ by. Seals cap by result)) → Makes old (Seal number authority) number result
makes-seal old number authority result made =
    derived old (Seal number authority) number (λ cap made. OnSlot old.slots authority made (λ by. Seals cap by made)) result made (λ reply new step. step)

makes-unseal : (old : State) (number authority : ℕ) (result : Result Capability Refusal)
    → OnSlot old.slots number result (λ cap. OnSlot old.slots authority result (λ by. Unseals cap by result))
    → Makes old (Unseal number authority) number result
makes-unseal old number authority result made =
    derived old (Unseal number authority) number (λ cap made. OnSlot old.slots authority made (λ by. Unseals cap by made)) result made (λ reply new step. step)

makes-rebuild : (old : State) (authority word : ℕ) (result : Result Capability Refusal)
    → OnSlot old.slots authority result (λ by. Rebuilds by word result) → Makes old (Rebuild authority word) authority result
makes-rebuild old authority word result made = derived old (Rebuild authority word) authority (λ by made. Rebuilds by word made) result made (λ reply new step. step)

makes : (c : goal.After-add) → Makes c.args.self.now c.args.op.now c.match-op.parent.0 c.match-op.parent.1
makes c = elim c.match-op.branch [
  | in-Bounds w ↦ Makes-along w.in-Bounds.is w.parent-is (makes-bounds _ _ _ _ w.with_bounds.ensures)
  | in-Exact w ↦ Makes-along w.in-Exact.is w.parent-is (makes-exact _ _ _ _ w.with_exact_bounds.ensures)
  | in-Addr w ↦ Makes-along w.in-Addr.is w.parent-is (makes-addr _ _ _ _ w.with_address.ensures)
  | in-Inc w ↦ Makes-along w.in-Inc.is w.parent-is (makes-inc _ _ _ _ w.with_increment.ensures)
  | in-Perms w ↦ Makes-along w.in-Perms.is w.parent-is (makes-perms _ _ _ _ w.with_perms.ensures)
  | in-Flag w ↦ Makes-along w.in-Flag.is w.parent-is (makes-flag _ _ _ _ w.with_flag.ensures)
  | in-Seal w ↦ Makes-along w.in-Seal.is w.parent-is (makes-seal _ _ _ _ w.sealed.ensures)
  | in-Unseal w ↦ Makes-along w.in-Unseal.is w.parent-is (makes-unseal _ _ _ _ w.unsealed.ensures)
  | in-Rebuild w ↦ Makes-along w.in-Rebuild.is w.parent-is (makes-rebuild _ _ _ _ w.rebuilt.ensures)
]

pub add-requires : goal.add-requires
add-requires c = record {
  op = c.args.op.now;
  makes = elim c.match-op.branch [
    | in-Bounds w ↦ Makes-along w.in-Bounds.is w.parent-is (makes-bounds _ _ _ _ w.with_bounds.ensures)
    | in-Exact w ↦ Makes-along w.in-Exact.is w.parent-is (makes-exact _ _ _ _ w.with_exact_bounds.ensures)
    | in-Addr w ↦ Makes-along w.in-Addr.is w.parent-is (makes-addr _ _ _ _ w.with_address.ensures)
    | in-Inc w ↦ Makes-along w.in-Inc.is w.parent-is (makes-inc _ _ _ _ w.with_increment.ensures)
    | in-Perms w ↦ Makes-along w.in-Perms.is w.parent-is (makes-perms _ _ _ _ w.with_perms.ensures)
    | in-Flag w ↦ Makes-along w.in-Flag.is w.parent-is (makes-flag _ _ _ _ w.with_flag.ensures)
    | in-Seal w ↦ Makes-along w.in-Seal.is w.parent-is (makes-seal _ _ _ _ w.sealed.ensures)
    | in-Unseal w ↦ Makes-along w.in-Unseal.is w.parent-is (makes-unseal _ _ _ _ w.unsealed.ensures)
    | in-Rebuild w ↦ Makes-along w.in-Rebuild.is w.parent-is (makes-rebuild _ _ _ _ w.rebuilt.ensures)
  ];
}

steps : (c : goal.After-add) → Step c.args.self.now c.args.op.now c.add.result c.add.new.self
steps c = (makes c).step c.add.result c.add.new.self c.add.ensures

pub returns-clause-step : goal.returns-clause-step
returns-clause-step c = steps c

pub returns-clause-refused : goal.returns-clause-refused
returns-clause-refused c =
    let keeps = Keeps-reached c.args.self.now c.tell_reached.ensures in
    refused-same c.args.self.now c.add.new.self c.args.op.now c.add.result keeps.holds keeps.pool (steps c)

-- ---- the laws of every run

-- what a step leads to keeps them
after : (old new : State) (op : Op) (reply : Reply) → IsReached old → Step old op reply new
    → IsMonotonicTree new × HasSealingAuthority new × KeepsObjectLaws new
after old new op reply reached step =
    let now = IsReached-step old new op reply reached step in
    (IsMonotonicTree-reached new now, HasSealingAuthority-reached new now, KeepsObjectLaws-reached new now)

pub returns-clause-tree : goal.returns-clause-tree
returns-clause-tree c = (after c.args.self.now c.add.new.self c.args.op.now c.add.result c.tell_reached.ensures (steps c)).0

pub returns-clause-sealing : goal.returns-clause-sealing
returns-clause-sealing c = (after c.args.self.now c.add.new.self c.args.op.now c.add.result c.tell_reached.ensures (steps c)).1

pub returns-clause-objects : goal.returns-clause-objects
returns-clause-objects c = (after c.args.self.now c.add.new.self c.args.op.now c.add.result c.tell_reached.ensures (steps c)).2

pub returns-in-Show-clause-tree : goal.returns-in-Show-clause-tree
returns-in-Show-clause-tree c = IsMonotonicTree-reached c.args.self.now c.tell_reached.ensures

pub returns-in-Show-clause-sealing : goal.returns-in-Show-clause-sealing
returns-in-Show-clause-sealing c = HasSealingAuthority-reached c.args.self.now c.tell_reached.ensures

pub returns-in-Show-clause-objects : goal.returns-in-Show-clause-objects
returns-in-Show-clause-objects c = KeepsObjectLaws-reached c.args.self.now c.tell_reached.ensures

pub returns-in-Round-clause-tree : goal.returns-in-Round-clause-tree
returns-in-Round-clause-tree c = IsMonotonicTree-reached c.args.self.now c.tell_reached.ensures

pub returns-in-Round-clause-sealing : goal.returns-in-Round-clause-sealing
returns-in-Round-clause-sealing c = HasSealingAuthority-reached c.args.self.now c.tell_reached.ensures

pub returns-in-Round-clause-objects : goal.returns-in-Round-clause-objects
returns-in-Round-clause-objects c = KeepsObjectLaws-reached c.args.self.now c.tell_reached.ensures

pub returns-in-Pool-clause-tree : goal.returns-in-Pool-clause-tree
returns-in-Pool-clause-tree c = (after c.args.self.now c.set_pool.new.self (Pool c.in-Pool.number c.in-Pool.align) c.set_pool.result c.tell_reached.ensures c.set_pool.ensures).0

pub returns-in-Pool-clause-sealing : goal.returns-in-Pool-clause-sealing
returns-in-Pool-clause-sealing c = (after c.args.self.now c.set_pool.new.self (Pool c.in-Pool.number c.in-Pool.align) c.set_pool.result c.tell_reached.ensures c.set_pool.ensures).1

pub returns-in-Pool-clause-objects : goal.returns-in-Pool-clause-objects
returns-in-Pool-clause-objects c = (after c.args.self.now c.set_pool.new.self (Pool c.in-Pool.number c.in-Pool.align) c.set_pool.result c.tell_reached.ensures c.set_pool.ensures).2

pub returns-in-Alloc-clause-tree : goal.returns-in-Alloc-clause-tree
returns-in-Alloc-clause-tree c = (after c.args.self.now c.alloc.new.self (Alloc c.in-Alloc.length) c.alloc.result c.tell_reached.ensures c.alloc.ensures).0

pub returns-in-Alloc-clause-sealing : goal.returns-in-Alloc-clause-sealing
returns-in-Alloc-clause-sealing c = (after c.args.self.now c.alloc.new.self (Alloc c.in-Alloc.length) c.alloc.result c.tell_reached.ensures c.alloc.ensures).1

pub returns-in-Alloc-clause-objects : goal.returns-in-Alloc-clause-objects
returns-in-Alloc-clause-objects c = (after c.args.self.now c.alloc.new.self (Alloc c.in-Alloc.length) c.alloc.result c.tell_reached.ensures c.alloc.ensures).2

pub returns-in-Free-clause-tree : goal.returns-in-Free-clause-tree
returns-in-Free-clause-tree c = (after c.args.self.now c.free.new.self (Free c.in-Free.object) c.free.result c.tell_reached.ensures c.free.ensures).0

pub returns-in-Free-clause-sealing : goal.returns-in-Free-clause-sealing
returns-in-Free-clause-sealing c = (after c.args.self.now c.free.new.self (Free c.in-Free.object) c.free.result c.tell_reached.ensures c.free.ensures).1

pub returns-in-Free-clause-objects : goal.returns-in-Free-clause-objects
returns-in-Free-clause-objects c = (after c.args.self.now c.free.new.self (Free c.in-Free.object) c.free.result c.tell_reached.ensures c.free.ensures).2

pub returns-in-Sweep-clause-tree : goal.returns-in-Sweep-clause-tree
returns-in-Sweep-clause-tree c = (after c.args.self.now c.sweep.new.self Sweep c.sweep.result c.tell_reached.ensures c.sweep.ensures).0

pub returns-in-Sweep-clause-sealing : goal.returns-in-Sweep-clause-sealing
returns-in-Sweep-clause-sealing c = (after c.args.self.now c.sweep.new.self Sweep c.sweep.result c.tell_reached.ensures c.sweep.ensures).1

pub returns-in-Sweep-clause-objects : goal.returns-in-Sweep-clause-objects
returns-in-Sweep-clause-objects c = (after c.args.self.now c.sweep.new.self Sweep c.sweep.result c.tell_reached.ensures c.sweep.ensures).2
