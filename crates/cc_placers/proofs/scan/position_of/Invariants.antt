use Rattle.std.proofs.Common.{◌≡◌, ◌<◌, ℕ}
use Rattle.std.specs.List.{slice_index_or}
use Rattle.cc_placers.proofs.scan.position_of.Given as goal

-- none of the spans so far is the one
abbrev pub invariant-loop-position : goal.invariant-loop-position
invariant-loop-position l = (k : ℕ) → k < l.position → slice_index_or l.spans k l.span ≡ l.span → ⊥
