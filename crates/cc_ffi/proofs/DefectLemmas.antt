-- Why a word is not canonical: each reason is the first that applies.
use Rattle.std.proofs.Common.{◌≡◌, ℕ, Option, None, Some, arith}
use Rattle.std.specs.Prelude.{◌↔◌, MatchOption}
use Rattle.cc_word.specs.declared.fields.Fields.{Fields}
use Rattle.cc_bounds.specs.declared.span.Span.{Span}
use Rattle.cc_cap.specs.Defect.{HasDefect}
use Rattle.cc_cap.specs.declared.canonical.Defect.{Defect}
use Rattle.cc_cap.specs.declared.canonical.Defect.TheVariants.{ReservedBits, ReservedType, TopBelowBase, TopPastEnd, OtherFields}
use Rattle.cc_ffi.specs.Defects.{IsFirstDefect, IsNumberOf}

-- the number is 0 exactly if there is no reason
pub none-canonical : (P : Type 0) (fields : Fields) (span : Span) (defect : Option Defect) (number : ℕ)
    → MatchOption defect P (λ reason. (¬ P) × HasDefect fields span reason) → IsNumberOf defect number → (number ≡ 0) ↔ P
none-canonical P fields span None number found is = (λ _. found, λ _. is)
none-canonical P fields span (Some ReservedBits) number found is = (λ zero. absurd (omega (arith, zero, is)), λ p. absurd (found.0 p))
none-canonical P fields span (Some ReservedType) number found is = (λ zero. absurd (omega (arith, zero, is)), λ p. absurd (found.0 p))
none-canonical P fields span (Some TopBelowBase) number found is = (λ zero. absurd (omega (arith, zero, is)), λ p. absurd (found.0 p))
none-canonical P fields span (Some TopPastEnd) number found is = (λ zero. absurd (omega (arith, zero, is)), λ p. absurd (found.0 p))
none-canonical P fields span (Some OtherFields) number found is = (λ zero. absurd (omega (arith, zero, is)), λ p. absurd (found.0 p))

-- the reason of a number
pub first-defect : (P : Type 0) (fields : Fields) (span : Span) (defect : Option Defect) (number : ℕ)
    → MatchOption defect P (λ reason. (¬ P) × HasDefect fields span reason) → IsNumberOf defect number → IsFirstDefect fields span number
first-defect P fields span None number found is = record {
  reserved_bits = λ h. absurd (omega (arith, h, is));
  reserved_type = λ h. absurd (omega (arith, h, is));
  top_below_base = λ h. absurd (omega (arith, h, is));
  top_past_end = λ h. absurd (omega (arith, h, is));
  other_fields = λ h. absurd (omega (arith, h, is));
}
first-defect P fields span (Some ReservedBits) number found is = record {
  reserved_bits = λ h. found.1;
  reserved_type = λ h. absurd (omega (arith, h, is));
  top_below_base = λ h. absurd (omega (arith, h, is));
  top_past_end = λ h. absurd (omega (arith, h, is));
  other_fields = λ h. absurd (omega (arith, h, is));
}
first-defect P fields span (Some ReservedType) number found is = record {
  reserved_bits = λ h. absurd (omega (arith, h, is));
  reserved_type = λ h. found.1;
  top_below_base = λ h. absurd (omega (arith, h, is));
  top_past_end = λ h. absurd (omega (arith, h, is));
  other_fields = λ h. absurd (omega (arith, h, is));
}
first-defect P fields span (Some TopBelowBase) number found is = record {
  reserved_bits = λ h. absurd (omega (arith, h, is));
  reserved_type = λ h. absurd (omega (arith, h, is));
  top_below_base = λ h. found.1;
  top_past_end = λ h. absurd (omega (arith, h, is));
  other_fields = λ h. absurd (omega (arith, h, is));
}
first-defect P fields span (Some TopPastEnd) number found is = record {
  reserved_bits = λ h. absurd (omega (arith, h, is));
  reserved_type = λ h. absurd (omega (arith, h, is));
  top_below_base = λ h. absurd (omega (arith, h, is));
  top_past_end = λ h. found.1;
  other_fields = λ h. absurd (omega (arith, h, is));
}
first-defect P fields span (Some OtherFields) number found is = record {
  reserved_bits = λ h. absurd (omega (arith, h, is));
  reserved_type = λ h. absurd (omega (arith, h, is));
  top_below_base = λ h. absurd (omega (arith, h, is));
  top_past_end = λ h. absurd (omega (arith, h, is));
  other_fields = λ h. found.1;
}
