use Rattle.std.proofs.Common.{◌≡◌, Bool, true, false, not, if◌then◌else◌, None, refl}
use Rattle.cc_heap.specs.Events.{outcome_of}
use Rattle.cc_heap.proofs.heap.Heap.free_or_not.Goals as goal

-- what is told of the id
told : (is_live : Bool) → outcome_of false (not is_live) None ≡ outcome_of false (if is_live then false else true) None
told true = refl
told false = refl

pub returns : goal.returns
returns g c = record {
  frees = record { is_live = c.free-is_live.result; frees = c.free-is_live.ensures.frees; is_told = told c.free-is_live.result };
}
