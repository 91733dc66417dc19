-- The lists that a placer of gaps may be holding.
use Rattle.std.proofs.Common.{ℕ, ◌≡◌, ◌+◌, ◌<◌, ◌≤◌, List, [], ◌∷◌, Option, Some, None, Contains, IfSome, IsSomeAnd, length, remove, arith, sym, ap}
use Rattle.std.proofs.lemmas.List.Edits.{length-remove}
use Rattle.std.proofs.lemmas.List.Sorted.{IsPermutation-remove, IsPermutation-sym, length_permutation}
use Rattle.cc_bounds.specs.declared.span.Span.{Span}
use Rattle.cc_bounds.specs.Span.{IsWithin}
use Rattle.cc_placer.specs.Placement.{AddsSpan, IsApartFrom, IsRoom, RemovesSpan}
use Rattle.cc_placer.specs.PlacerState.{IsPoolSpan, IsSomeBytes}
use Rattle.cc_machine.specs.Gaps.{AreGaps, IsFirstFit}
use Rattle.cc_machine.specs.FreeSpace.{AddsBytes, AreGapsOf, LiesInGap}
use Rattle.cc_machine.specs.GapPlacer.{AreFreeIn, MayHold}
use Rattle.cc_machine.proofs.FreeSpaceLemmas.{first_fit_is_room, lies_in_gap}
use Rattle.cc_machine.proofs.GapChangeLemmas.{few_gaps, gaps_of_fewer, gaps_of_more, held_apart, held_in_pool}

-- the gaps of a pool without held spans have its bytes
pub pool_gaps : (gaps more : List Span) (span : Span) → gaps ≡ [] → AreGaps more → AddsBytes gaps span more
    → AreGapsOf span [] more
pool_gaps gaps more span none are bytes = record {
  are_gaps = are;
  are_some = λ k d within. absurd (omega (arith, within));
  each = λ address. let is = rw none at bytes address in omega (arith, is);
}

pub few_pool_gaps : (gaps more : List Span) (span : Span) → gaps ≡ [] → AreGaps more → AddsBytes gaps span more
    → length more ≤ 1
few_pool_gaps gaps more span none are bytes = few_gaps span [] more (pool_gaps gaps more span none are bytes)

-- the first fit among the gaps is the placement
pub room_of_gaps : (pool : Option Span) (held gaps : List Span) (size align : ℕ) (result : Option ℕ)
    → AreFreeIn pool held gaps → 0 < size → IsFirstFit gaps size align result
    → IfSome pool (λ pool. IsRoom pool held size align result)
room_of_gaps None held gaps size align result free some fit = tt
room_of_gaps (Some pool) held gaps size align result free some fit =
    first_fit_is_room pool held gaps size align result free some fit

-- a span that can be held lies in a gap
pub record CanTake (limit count : ℕ) (gaps : List Span) (span : Span) : Type 0 where
  pub lies : LiesInGap gaps span
  pub room : length gaps < limit + 1
  pub below : count < limit

pub can_take : (limit count : ℕ) (pool : Option Span) (gaps : List Span) (span : Span) → span.base < span.top
    → IsSomeAnd pool (IsWithin span)
    → (spans : List Span) × MayHold (record { limit = limit; pool = pool; count = count; gaps = gaps }) spans
    × IsApartFrom spans span × (length spans < limit)
    → CanTake limit count gaps span
can_take limit count None gaps span some inside held = absurd inside
can_take limit count (Some pool) gaps span some inside (spans, may, apart, below) =
    let most = few_gaps pool spans gaps may.free in
    record {
      lies = lies_in_gap pool spans gaps span may.free inside apart some;
      room = omega (arith, most, below);
      below = omega (arith, may.counted, below);
    }

-- the lists that may be held with it
pub holds_more : (limit count new_count : ℕ) (pool : Option Span) (gaps left spans more : List Span) (span : Span)
    → span.base < span.top → IsSomeAnd pool (IsWithin span) → new_count ≡ count + 1
    → MayHold (record { limit = limit; pool = pool; count = count; gaps = gaps }) spans
    → AddsSpan spans span more → AreGaps left → AddsBytes left span gaps
    → MayHold (record { limit = limit; pool = pool; count = new_count; gaps = left }) more
holds_more limit count new_count None gaps left spans more span some inside one may adds are bytes = absurd inside
holds_more limit count new_count (Some pool) gaps left spans more span some inside one may adds are bytes = record {
  counted = omega (arith, one, may.counted, length_permutation (span ∷ spans) more adds);
  free = gaps_of_more pool spans gaps more left span may.free some adds are bytes;
}

-- a span that is held is in no gap
pub record CanGive (limit count : ℕ) (pool : Option Span) (gaps : List Span) (span : Span) : Type 0 where
  pub has_pool : pool ≡ None → ⊥
  pub some : IsSomeBytes span
  pub apart : IsApartFrom gaps span
  pub room : (more : List Span) → AreGaps more → AddsBytes gaps span more → length more ≤ limit + 1
  pub counted : 0 < count

pub can_give : (limit count : ℕ) (pool : Option Span) (gaps : List Span) (span : Span) → IfSome pool IsPoolSpan
    → count ≤ limit
    → (spans : List Span) × MayHold (record { limit = limit; pool = pool; count = count; gaps = gaps }) spans
    × Contains spans span
    → CanGive limit count pool gaps span
can_give limit count None gaps span is_pool most (spans, may, among) =
    absurd (omega (arith, among.1, ap (λ (held : List Span). length held) may.free.0))
can_give limit count (Some pool) gaps span is_pool most (spans, may, among) =
    let (k, within, is) = among in
    let inside = held_in_pool pool spans gaps span may.free among in
    let fewer = IsPermutation-sym spans (span ∷ remove spans k) (IsPermutation-remove spans k span within (sym is)) in
    record {
      has_pool = λ never. cc;
      some = record { not_empty = inside.0; fits = omega (arith, inside.1.to_top, is_pool.fits) };
      apart = held_apart pool spans gaps span may.free among;
      room = λ more are bytes.
          let few = few_gaps pool (remove spans k) more (gaps_of_fewer pool spans gaps (remove spans k) more span
          may.free fewer are bytes) in
          omega (arith, few, length-remove spans k within, may.counted, most);
      counted = omega (arith, may.counted, within);
    }

-- the lists that may be held without it
pub holds_fewer : (limit count new_count : ℕ) (pool : Option Span) (gaps left spans fewer : List Span) (span : Span)
    → new_count + 1 ≡ count
    → MayHold (record { limit = limit; pool = pool; count = count; gaps = gaps }) spans → Contains spans span
    → RemovesSpan spans span fewer → AreGaps left → AddsBytes gaps span left
    → MayHold (record { limit = limit; pool = pool; count = new_count; gaps = left }) fewer
holds_fewer limit count new_count None gaps left spans fewer span one may among removes are bytes =
    absurd (omega (arith, among.1, ap (λ (held : List Span). length held) may.free.0))
holds_fewer limit count new_count (Some pool) gaps left spans fewer span one may among removes are bytes = record {
  counted = omega (arith, one, may.counted, length_permutation (span ∷ fewer) spans removes);
  free = gaps_of_fewer pool spans gaps fewer left span may.free removes are bytes;
}
