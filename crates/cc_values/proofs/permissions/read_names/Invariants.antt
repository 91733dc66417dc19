use Rattle.std.proofs.Common.{◌≡◌, ◌==◌, length}
use Rattle.std.specs.List.{slice_split}
use Rattle.cc_values.specs.Values.{with_names}
use Rattle.cc_values.proofs.permissions.read_names.Given as goal

abbrev pub invariant-names : goal.invariant-names
invariant-names l =
    with_names l.bits (slice_split (λ byte. byte == 43) l.rest)
    ≡ with_names 0 (slice_split (λ byte. byte == 43) l.text)

abbrev pub decreases-names : goal.decreases-names
decreases-names l = length l.rest
