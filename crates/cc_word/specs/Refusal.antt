-- The table of refusals, with the code and the name of each, and the form of a check.
use Rattle.std.specs.Prelude.{ℕ, ◌⊎◌, List, codes}
use Rattle.cc_word.specs.declared.refusal.Refusal.{Refusal}
use Rattle.cc_word.specs.declared.refusal.Refusal.TheVariants.{Syntax, Unfinished, TooLong, OutOfRange, NoSlot, Revoked, Sealed, Unsealed, OutOfBounds, Inexact, Unrepresentable, MissingPermission, ReservedType, TypeMismatch, NotCanonical, ExceedsAuthority, NoPool, PoolAlreadySet, ZeroSize, NoRoom, NoObject, Full}

-- The number and the name that scripts print for a refusal. The name is one token in lower case.
abbrev pub row_of : Refusal → ℕ × List ℕ
row_of Syntax = (1, codes "syntax")
row_of Unfinished = (2, codes "unfinished")
row_of TooLong = (3, codes "long")
row_of OutOfRange = (4, codes "range")
row_of NoSlot = (5, codes "slot")
row_of Revoked = (6, codes "revoked")
row_of Sealed = (7, codes "sealed")
row_of Unsealed = (8, codes "unsealed")
row_of OutOfBounds = (9, codes "bounds")
row_of Inexact = (10, codes "inexact")
row_of Unrepresentable = (11, codes "unrepresentable")
row_of MissingPermission = (12, codes "permission")
row_of ReservedType = (13, codes "type")
row_of TypeMismatch = (14, codes "mismatch")
row_of NotCanonical = (15, codes "canonical")
row_of ExceedsAuthority = (16, codes "exceeds")
row_of NoPool = (17, codes "nopool")
row_of PoolAlreadySet = (18, codes "poolset")
row_of ZeroSize = (19, codes "zero")
row_of NoRoom = (20, codes "noroom")
row_of NoObject = (21, codes "object")
row_of Full = (22, codes "full")

-- The number that scripts print for a refusal.
abbrev pub code_of : Refusal → ℕ
code_of refusal = (row_of refusal).0

-- The name that scripts print for a refusal.
abbrev pub name_of : Refusal → List ℕ
name_of refusal = (row_of refusal).1

-- `RefusedUnless` holds if `condition` and `rest` hold, or if `condition` does not hold and
-- `refused` does. It is a check: `refused` says with which refusal the request is refused, and what
-- does not change.
abbrev pub RefusedUnless : (condition refused rest : Type 0) → Type 0
RefusedUnless condition refused rest = (condition × rest) ⊎ ((¬ condition) × refused)
