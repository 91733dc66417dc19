-- The capabilities that are reached from a capability by the functions that derive one.
--
-- From the root, every unsealed capability is reachable.
use Rattle.std.specs.Prelude.{Ok}
use Rattle.cc_bounds.specs.Span.{length_of}
use Rattle.cc_cap.specs.Capability.{Capability}
use Rattle.cc_cap.specs.Derivation.{SetsAddress, SetsExactBounds, MasksPermissions, SetsFlag}

-- `IsReachable` holds if five calls in a row, none refused, lead from the first capability to the
-- second. They set the address to the base of the second, exact bounds of its length, its address,
-- its permissions as the mask, and its flag.
pub record IsReachable (from to : Capability) : Type 0 where
  pub at_base : Capability
  pub in_bounds : Capability
  pub in_place : Capability
  pub with_mask : Capability
  pub moved : SetsAddress from to.span.base (Ok at_base)
  pub bounded : SetsExactBounds at_base (length_of to.span) (Ok in_bounds)
  pub placed : SetsAddress in_bounds to.address (Ok in_place)
  pub masked : MasksPermissions in_place to.permissions (Ok with_mask)
  pub flagged : SetsFlag with_mask to.flag (Ok to)
