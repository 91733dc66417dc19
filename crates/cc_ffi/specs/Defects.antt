-- Why a word is not canonical, as C has it.
use Rattle.std.specs.Prelude.{ℕ, ◌≡◌, Option, None, Some}
use Rattle.cc_word.specs.declared.fields.Fields.{Fields}
use Rattle.cc_bounds.specs.declared.span.Span.{Span}
use Rattle.cc_cap.specs.Defect.{HasDefect}
use Rattle.cc_cap.specs.declared.canonical.Defect.{Defect}
use Rattle.cc_cap.specs.declared.canonical.Defect.TheVariants.{ReservedBits, ReservedType, TopBelowBase, TopPastEnd, OtherFields}

-- `IsNumberOf` holds if `number` is the number of the reason: 0 for none, and otherwise its place
-- among the reasons, from 1 to 5.
abbrev pub IsNumberOf : Option Defect → ℕ → Type 0
IsNumberOf None number = number ≡ 0
IsNumberOf (Some ReservedBits) number = number ≡ 1
IsNumberOf (Some ReservedType) number = number ≡ 2
IsNumberOf (Some TopBelowBase) number = number ≡ 3
IsNumberOf (Some TopPastEnd) number = number ≡ 4
IsNumberOf (Some OtherFields) number = number ≡ 5

-- IsFirstDefect holds if the reason with this number, from 1 to 5, applies to the fields and the span
-- that they decode to, and none with a smaller number does.
pub record IsFirstDefect (fields : Fields) (span : Span) (defect : ℕ) : Type 0 where
  pub reserved_bits : defect ≡ 1 → HasDefect fields span ReservedBits
  pub reserved_type : defect ≡ 2 → HasDefect fields span ReservedType
  pub top_below_base : defect ≡ 3 → HasDefect fields span TopBelowBase
  pub top_past_end : defect ≡ 4 → HasDefect fields span TopPastEnd
  pub other_fields : defect ≡ 5 → HasDefect fields span OtherFields
