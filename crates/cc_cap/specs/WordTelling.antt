-- Texts that describe a word.
use Rattle.std.specs.Prelude.{◌≡◌, ℕ, List, Bool, IsTrue, ◌↔◌}
use Rattle.cc_word.specs.Word.{word_of}
use Rattle.cc_word.specs.declared.fields.Fields.{Fields}
use Rattle.cc_bounds.specs.declared.span.Span.{Span}
use Rattle.cc_bounds.specs.Decoding.{DecodesTo}
use Rattle.cc_cap.specs.Canonical.{IsCanonical}

-- TellsWord holds if `text_of` makes the text from the word, its fields, the span that they decode
-- to, and whether the word is canonical. There are no other such fields, and there is no other such
-- span.
pub record TellsWord (text_of : ℕ → Fields → Span → Bool → List ℕ) (word : ℕ) (text : List ℕ) : Type 0 where
  pub fields : Fields
  pub bounds : Span
  pub canonical : Bool
  pub of_word : word_of fields ≡ word
  pub only_fields : (other : Fields) → word_of other ≡ word → other ≡ fields
  pub decoded : DecodesTo fields bounds
  pub only_bounds : (other : Span) → DecodesTo fields other → other ≡ bounds
  pub is_canonical : IsTrue canonical ↔ IsCanonical word
  pub is_text : text ≡ text_of word fields bounds canonical
