use Rattle.std.proofs.Common.{refl}
use Rattle.std.specs.Fmt.{digits}
use Rattle.cc_io.proofs.refusals.row_of.Goals as goal

pub returns-in-Syntax-clause-value : goal.returns-in-Syntax-clause-value
unfolding digits
returns-in-Syntax-clause-value c = rw c.in-Syntax.is refl

pub returns-in-Unfinished-clause-value : goal.returns-in-Unfinished-clause-value
unfolding digits
returns-in-Unfinished-clause-value c = rw c.in-Unfinished.is refl

pub returns-in-TooLong-clause-value : goal.returns-in-TooLong-clause-value
unfolding digits
returns-in-TooLong-clause-value c = rw c.in-TooLong.is refl

pub returns-in-OutOfRange-clause-value : goal.returns-in-OutOfRange-clause-value
unfolding digits
returns-in-OutOfRange-clause-value c = rw c.in-OutOfRange.is refl

pub returns-in-NoSlot-clause-value : goal.returns-in-NoSlot-clause-value
unfolding digits
returns-in-NoSlot-clause-value c = rw c.in-NoSlot.is refl

pub returns-in-Revoked-clause-value : goal.returns-in-Revoked-clause-value
unfolding digits
returns-in-Revoked-clause-value c = rw c.in-Revoked.is refl

pub returns-in-Sealed-clause-value : goal.returns-in-Sealed-clause-value
unfolding digits
returns-in-Sealed-clause-value c = rw c.in-Sealed.is refl

pub returns-in-Unsealed-clause-value : goal.returns-in-Unsealed-clause-value
unfolding digits
returns-in-Unsealed-clause-value c = rw c.in-Unsealed.is refl

pub returns-in-OutOfBounds-clause-value : goal.returns-in-OutOfBounds-clause-value
unfolding digits
returns-in-OutOfBounds-clause-value c = rw c.in-OutOfBounds.is refl

pub returns-in-Inexact-clause-value : goal.returns-in-Inexact-clause-value
unfolding digits
returns-in-Inexact-clause-value c = rw c.in-Inexact.is refl

pub returns-in-Unrepresentable-clause-value : goal.returns-in-Unrepresentable-clause-value
unfolding digits
returns-in-Unrepresentable-clause-value c = rw c.in-Unrepresentable.is refl

pub returns-in-MissingPermission-clause-value : goal.returns-in-MissingPermission-clause-value
unfolding digits
returns-in-MissingPermission-clause-value c = rw c.in-MissingPermission.is refl

pub returns-in-ReservedType-clause-value : goal.returns-in-ReservedType-clause-value
unfolding digits
returns-in-ReservedType-clause-value c = rw c.in-ReservedType.is refl

pub returns-in-TypeMismatch-clause-value : goal.returns-in-TypeMismatch-clause-value
unfolding digits
returns-in-TypeMismatch-clause-value c = rw c.in-TypeMismatch.is refl

pub returns-in-NotCanonical-clause-value : goal.returns-in-NotCanonical-clause-value
unfolding digits
returns-in-NotCanonical-clause-value c = rw c.in-NotCanonical.is refl

pub returns-in-ExceedsAuthority-clause-value : goal.returns-in-ExceedsAuthority-clause-value
unfolding digits
returns-in-ExceedsAuthority-clause-value c = rw c.in-ExceedsAuthority.is refl

pub returns-in-NoPool-clause-value : goal.returns-in-NoPool-clause-value
unfolding digits
returns-in-NoPool-clause-value c = rw c.in-NoPool.is refl

pub returns-in-PoolAlreadySet-clause-value : goal.returns-in-PoolAlreadySet-clause-value
unfolding digits
returns-in-PoolAlreadySet-clause-value c = rw c.in-PoolAlreadySet.is refl

pub returns-in-ZeroSize-clause-value : goal.returns-in-ZeroSize-clause-value
unfolding digits
returns-in-ZeroSize-clause-value c = rw c.in-ZeroSize.is refl

pub returns-in-NoRoom-clause-value : goal.returns-in-NoRoom-clause-value
unfolding digits
returns-in-NoRoom-clause-value c = rw c.in-NoRoom.is refl

pub returns-in-NoObject-clause-value : goal.returns-in-NoObject-clause-value
unfolding digits
returns-in-NoObject-clause-value c = rw c.in-NoObject.is refl

pub returns-in-Full-clause-value : goal.returns-in-Full-clause-value
unfolding digits
returns-in-Full-clause-value c = rw c.in-Full.is refl
