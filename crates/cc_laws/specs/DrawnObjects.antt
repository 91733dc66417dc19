-- The claims of the laws: the holes of a pool are its free bytes, and each object is drawn over
-- exactly the cells that hold a byte of it.
use Rattle.std.specs.Prelude.{ℕ, ◌≡◌, ◌+◌, ◌<◌, ◌≤◌, ◌↔◌, List, All, AllPairs, Contains, length, map, sum_by}
use Rattle.cc_bounds.specs.declared.span.Span.{Span}
use Rattle.cc_bounds.specs.Span.{HasByte, IsWithin, length_of}
use Rattle.cc_bounds.specs.Decoding.{ExactlyOne}
use Rattle.cc_values.specs.declared.usage.Usage.{Usage}
use Rattle.cc_plan.specs.PlannedObject.{PlannedObject}
use Rattle.cc_plan.specs.Plan.{HaveDisjointBounds}
use Rattle.cc_draw.specs.declared.layout.Layout.{Layout}
use Rattle.cc_draw.specs.Usage.{largest_of}
use Rattle.cc_draw.specs.Drawing.{AreCellsOf, end_cell, first_cell}

-- ArePlaced holds if each object has a byte and lies within the pool, and no two of them share a byte
-- while both are held.
pub record ArePlaced (pool : Span) (objects : List PlannedObject) : Type 0 where
  pub in_order : pool.base ≤ pool.top
  pub some : All (λ object. object.span.base < object.span.top) objects
  pub within : All (λ object. IsWithin object.span pool) objects
  pub disjoint : HaveDisjointBounds objects

-- IsFree holds if the byte lies in the pool, and no held span has it.
pub record IsFree (pool : Span) (held : List Span) (byte : ℕ) : Type 0 where
  pub in_pool : HasByte pool byte
  pub apart : (span : Span) → Contains held span → ¬ HasByte span byte

-- AreHoles holds if these spans are the holes that the held spans leave in the pool. Each has a
-- byte. They are in the order of their addresses, with at least one byte between each and the next.
-- A byte is free if and only if exactly one of them has it.
pub record AreHoles (pool : Span) (held : List Span) (gaps : List Span) : Type 0 where
  pub some : All (λ gap. gap.base < gap.top) gaps
  pub apart : AllPairs (λ one other. one.top < other.base) gaps
  pub free : (byte : ℕ) → IsFree pool held byte ↔ ExactlyOne (λ gap. Contains gaps gap × HasByte gap byte)

-- CountsFreeBytes holds if the usage has the number of the holes and the length of the largest, and
-- the held bytes and the lengths of the holes add up to the length of the pool.
pub record CountsFreeBytes (pool : Span) (held : List Span) (usage : Usage) : Type 0 where
  pub gaps : List Span
  pub are_holes : AreHoles pool held gaps
  pub count : usage.holes ≡ length gaps
  pub largest : usage.largest ≡ largest_of (map length_of gaps)
  pub adds_up : usage.held + sum_by length_of gaps ≡ usage.pool

-- IsDrawnExactly holds if the cells of the layout from `first_cell` to before `end_cell` are
-- exactly those that hold a byte of the span. There is at least one, and all of them are cells of
-- the layout.
pub record IsDrawnExactly (layout : Layout) (span : Span) : Type 0 where
  pub exactly :
      AreCellsOf layout.start layout.size span (first_cell layout.start layout.size span) (end_cell layout.start layout.size span)
  pub some : first_cell layout.start layout.size span < end_cell layout.start layout.size span
  pub in_layout : end_cell layout.start layout.size span ≤ layout.cells
