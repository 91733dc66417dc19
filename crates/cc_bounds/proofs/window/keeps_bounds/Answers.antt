use Rattle.std.proofs.Common.{subst, ◌≡◌, ℕ, ◌≤◌, ◌<◌, ◌^◌, refl, sym, arith}
use Rattle.std.specs.Prelude.{◌↔◌, IsTrue}
use Rattle.cc_word.specs.declared.fields.Fields.{Fields}
use Rattle.cc_bounds.specs.declared.span.Span.{Span}
use Rattle.cc_bounds.specs.Window.{IsRepresentable, Represents}
use Rattle.cc_bounds.specs.Encoding.{StoresSpan}
use Rattle.cc_bounds.specs.Decoding.{stored_exponent, SharesBoundsFields, DecodesTo}
use Rattle.cc_bounds.proofs.PlaceLemmas.{stored_exponent-le}
use Rattle.cc_bounds.proofs.FieldsLemmas.{stored-decodes}
use Rattle.cc_bounds.proofs.SoundDecodingLemmas.{represents-computed, stored_exponent-is}
use Rattle.cc_bounds.proofs.KeptBoundsLemmas.{kept_in_window, kept_large, moved_to, moved_shares}
use Rattle.cc_bounds.proofs.window.keeps_bounds.Goals as goal

-- a test of the computed span and exponent is one of the word's own
own_window : (fields : Fields) (found span : Span) (e address : ℕ) (answer : Type 0) → span ≡ found → e ≡ stored_exponent fields
    → answer ↔ IsRepresentable found.base e address → answer ↔ IsRepresentable span.base (stored_exponent fields) address
own_window fields found span e address answer is_span is_e h =
    subst (λ (n : ℕ). answer ↔ IsRepresentable span.base n address) is_e
    (subst (λ (s : Span). answer ↔ IsRepresentable s.base e address) (sym is_span) h)

-- the test of another word with these bounds fields
other_word : (fields other : Fields) (span : Span) (address : ℕ) (answer : Type 0) → SharesBoundsFields fields other → other.address ≡ address
    → DecodesTo fields span → answer ↔ IsRepresentable span.base (stored_exponent fields) address → answer ↔ DecodesTo other span
other_word fields other span address answer same is decoded test =
    let law = kept_in_window fields other span same decoded in
    let own = subst (λ (n : ℕ). answer ↔ IsRepresentable span.base (stored_exponent fields) n) (sym is) test in
    (λ h. law.1 (own.0 h), λ h. own.1 (law.0 h))

-- at exponents of at least 50, at every address
large_word : (fields : Fields) (span : Span) (address : ℕ) (answer : Type 0) → address < 2 ^ 64 → DecodesTo fields span
    → answer ↔ IsRepresentable span.base (stored_exponent fields) address → 50 ≤ stored_exponent fields → answer
large_word fields span address answer fits decoded test large =
    let other = moved_to fields address fits in
    let same = moved_shares fields address fits in
    (other_word fields other span address answer same refl decoded test).1 (kept_large fields other span same decoded large)

-- if the fields store a span, at the addresses that are representable for it
stored_word : (fields : Fields) (span : Span) (address : ℕ) (answer : Type 0) → StoresSpan fields span
    → answer ↔ IsRepresentable span.base (stored_exponent fields) address → answer ↔ Represents span address
stored_word fields span address answer stores test =
    let is_e = stored_exponent-is span fields stores.is_span stores.sound stores.bounds_fields in
    let law = represents-computed span address stores.is_span in
    let own = subst (λ (e : ℕ). answer ↔ IsRepresentable span.base e address) is_e test in
    (λ h. law.0 (own.0 h), λ h. own.1 (law.1 h))

pub is_representable-requires : goal.is_representable-requires
is_representable-requires c = let small = stored_exponent-le c.args.fields.now in let is = c.exponent.ensures in omega (arith, small, is)

pub returns-clause-window : goal.returns-clause-window
returns-clause-window c span decoded =
    own_window c.args.fields.now c.decode-bounds.result span c.exponent.result c.args.address (IsTrue c.is_representable.result)
    (c.decode-bounds.ensures.only span decoded) c.exponent.ensures c.is_representable.ensures

pub returns-clause-decodes : goal.returns-clause-decodes
returns-clause-decodes c other span same is decoded =
    other_word c.args.fields.now other span c.args.address (IsTrue c.is_representable.result) same is decoded
    (own_window c.args.fields.now c.decode-bounds.result span c.exponent.result c.args.address (IsTrue c.is_representable.result)
    (c.decode-bounds.ensures.only span decoded) c.exponent.ensures c.is_representable.ensures)

pub returns-clause-large : goal.returns-clause-large
returns-clause-large c large =
    large_word c.args.fields.now c.decode-bounds.result c.args.address (IsTrue c.is_representable.result) (omega arith)
    c.decode-bounds.ensures.decodes
    (own_window c.args.fields.now c.decode-bounds.result c.decode-bounds.result c.exponent.result c.args.address
    (IsTrue c.is_representable.result) refl c.exponent.ensures c.is_representable.ensures)
    large

pub returns-clause-stored : goal.returns-clause-stored
returns-clause-stored c span stores =
    stored_word c.args.fields.now span c.args.address (IsTrue c.is_representable.result) stores
    (own_window c.args.fields.now c.decode-bounds.result span c.exponent.result c.args.address (IsTrue c.is_representable.result)
    (c.decode-bounds.ensures.only span (stored-decodes c.args.fields.now span stores)) c.exponent.ensures c.is_representable.ensures)
