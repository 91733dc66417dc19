-- A line of `mtrace` for an object that is made, and one for an object that is freed.
use Rattle.std.proofs.Common.{◌≡◌, ◌≤◌, ◌^◌, [], ◌∷◌, length, refl, arith}
use Rattle.std.specs.Prelude.{codes}
use Rattle.std.specs.Fmt.{digits}
use Rattle.cc_bounds.specs.declared.align.Align.TheVariants.{One}
use Rattle.cc_values.specs.declared.op.Op.TheVariants.{Addr}
use Rattle.cc_machine.specs.Run.{IsInAddressSpace}
use Rattle.cc_heap.specs.declared.event.Event.TheVariants.{Allocate, Free}
use Rattle.cc_replay.specs.Changes.{AsksForUnit}
use Rattle.cc_replay.specs.Trace.{HasNumbersInRange}
use Rattle.cc_replay.specs.Mtrace.{IsCaller, allocation_line, free_line}
use Rattle.cc_laws.proofs.TraceWitnessLemmas.{unit-one}

pub caller : IsCaller (codes "a:[0x1")
caller = (
  (λ same. absurd (omega (arith, same))),
  (
    (λ same. absurd (omega (arith, same))),
    (
      (λ same. absurd (omega (arith, same))),
      ((λ same. absurd (omega (arith, same))), ((λ same. absurd (omega (arith, same))), ((λ same. absurd (omega (arith, same))), _))),
    ),
  ),
)

allocation-length : length (allocation_line (codes "a:[0x1") 0x10000 16) ≡ 24
unfolding digits
allocation-length = refl

pub allocation : length (allocation_line (codes "a:[0x1") 0x10000 16) ≤ 128
allocation = omega (arith, allocation-length)

free-length : length (free_line (codes "a:[0x1") 0x10000) ≡ 19
unfolding digits
free-length = refl

pub free : length (free_line (codes "a:[0x1") 0x10000) ≤ 128
free = omega (arith, free-length)

pub bracket-breaks : ¬ IsCaller (93 ∷ [])
bracket-breaks is = is.0 refl

pub address-breaks : ¬ IsInAddressSpace (Addr 0 (2 ^ 64))
address-breaks fits = omega (arith, fits)

pub id-breaks : ¬ HasNumbersInRange (Free (2 ^ 64))
id-breaks fits = omega (arith, fits)

pub alignment-breaks : ¬ AsksForUnit One (Allocate 1 16 2)
alignment-breaks asks = omega (arith, asks, unit-one)
