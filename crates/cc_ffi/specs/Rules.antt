-- The result of a rule of derivation, as C has it.
use Rattle.std.specs.Prelude.{ℕ, ◌≡◌, Result, Ok, Err}
use Rattle.cc_word.specs.declared.fields.Fields.{Fields}
use Rattle.cc_word.specs.declared.refusal.Refusal.{Refusal}
use Rattle.cc_word.specs.Refusal.{code_of}
use Rattle.cc_bounds.specs.declared.span.Span.{Span}
use Rattle.cc_bounds.specs.Span.{IsWithin, span_from}
use Rattle.cc_bounds.specs.Granule.{IsGranted}
use Rattle.cc_bounds.specs.Decoding.{DecodesTo}
use Rattle.cc_bounds.specs.Encoding.{StoresSpan}
use Rattle.cc_ffi.specs.declared.structs.MadeWord.{MadeWord}
use Rattle.cc_ffi.specs.Numbers.{number_of_halves}

-- IsMadeWord holds if C's struct has the word with refusal 0, or zero halves with the code of the
-- refusal.
abbrev pub IsMadeWord : (answer : Result ℕ Refusal) (told : MadeWord) → Type 0
IsMadeWord (Ok word) told = (number_of_halves told.high told.low ≡ word) × (told.refusal ≡ 0)
IsMadeWord (Err refusal) told = (number_of_halves told.high told.low ≡ 0) × (told.refusal ≡ code_of refusal)

-- GivesResult holds if the rule has a result, and C's struct has that result.
pub record GivesResult (rule : Result ℕ Refusal → Type 0) (told : MadeWord) : Type 0 where
  pub answer : Result ℕ Refusal
  pub is_answer : rule answer
  pub is_made : IsMadeWord answer told

-- StoresRequest holds if the fields `made` store the span that a request for `length` bytes from the
-- address of `fields` is granted, and otherwise equal `fields`. The granted span covers the request,
-- and is within the span that `fields` decode to.
pub record StoresRequest (fields : Fields) (length : ℕ) (made : Fields) : Type 0 where
  pub own : Span
  pub granted : Span
  pub decodes : DecodesTo fields own
  pub is_granted : IsGranted (span_from fields.address length) granted
  pub covers : IsWithin (span_from fields.address length) granted
  pub within : IsWithin granted own
  pub stores : StoresSpan made granted
  pub address : made.address ≡ fields.address
  pub permissions : made.perms ≡ fields.perms
  pub reserved : made.reserved ≡ fields.reserved
  pub flag : made.flag ≡ fields.flag
  pub otype : made.otype ≡ fields.otype
