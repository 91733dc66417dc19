use Rattle.std.proofs.Common.{ℕ, ◌≡◌, ◌≤◌, ◌+◌, ◌-◌, length}
use Rattle.std.specs.List.{SameFrom}
use Rattle.cc_ffi.specs.Search.{IsListed, IsWantedAt, position_at}
use Rattle.cc_ffi.proofs.search.cheri_cap_search_memory.Given as goal

abbrev pub invariant-words : goal.invariant-words
invariant-words l = record {
  within : l.i ≤ l.end;
  fits : l.count ≤ length l.positions;
  listed : IsListed (IsWantedAt l.query l.big_endian l.memory l.tag_bits) l.positions l.count l.i;
  full : (k : ℕ) → k + 1 ≡ length l.positions → l.count ≡ length l.positions → l.i ≡ position_at l.positions k + 1;
  none : length l.positions ≡ 0 → l.i ≡ 0;
  rest : SameFrom l.initial.positions l.positions l.count;
}

abbrev pub decreases-words : goal.decreases-words
decreases-words l = l.end - l.i
