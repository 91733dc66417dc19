-- Fields that store a sound span.
use Rattle.std.proofs.Common.{subst, ◌≡◌, true, sym, ◌∙◌, ap}
use Rattle.std.specs.Prelude.{IsTrue, ◌↔◌}
use Rattle.cc_word.specs.declared.fields.Fields.{Fields}
use Rattle.cc_bounds.specs.declared.span.Span.{Span}
use Rattle.cc_bounds.specs.Span.{IsSpan}
use Rattle.cc_bounds.specs.Granule.{IsGranted, IsSound}
use Rattle.cc_bounds.specs.Encoding.{Encoding, HasBoundsFields, StoresSpan, ie_of, t_of, b_of}
use Rattle.cc_bounds.specs.Decoding.{DecodesTo}
use Rattle.cc_bounds.proofs.GranuleLemmas.{granted_same}
use Rattle.cc_bounds.proofs.LawLemmas.{fields_law}
use Rattle.cc_bounds.proofs.TightestLemmas.{decoded-sound}
use Rattle.cc_bounds.proofs.SoundDecodingLemmas.{decodes-representable, sound-decodes}

-- what fields that store a span decode to
pub stored-decodes : (fields : Fields) (span : Span) → StoresSpan fields span → DecodesTo fields span
stored-decodes fields span h = sound-decodes span h.is_span h.sound fields h.bounds_fields h.representable

-- an encoding of this span, that is exact
pub exact-encoding : (set : Encoding) (span : Span) → set.granted ≡ span → set.exact ≡ true → set ≡ record { granted = span; exact = true }
exact-encoding set span is_granted is_exact = λ i. record { granted = is_granted i; exact = is_exact i }

module _ (fields : Fields) (own : Span) (set : Encoding) (decodes : DecodesTo fields own)
    (only : (span : Span) → DecodesTo fields span → span ≡ own) (granted : IsGranted own set.granted)
    (exact : IsTrue set.exact ↔ IsSound own) where
  -- the span that is stored is the decoded one
  pub stored-own : (span : Span) → StoresSpan fields span → span ≡ own
  stored-own span h = only span (stored-decodes fields span h)

  pub stored-sound : (span : Span) → StoresSpan fields span → IsSound own
  stored-sound span h = subst IsSound (stored-own span h) h.sound

  pub stored-found : (span : Span) → StoresSpan fields span → set ≡ record { granted = span; exact = true }
  stored-found span h =
      let sound = stored-sound span h in
      exact-encoding set span (granted_same own set.granted own granted sound ∙ sym (stored-own span h)) (exact.1 sound)

  pub stored-fields : (span : Span) → StoresSpan fields span
      → (fields.ie ≡ ie_of set.granted) × (fields.t ≡ t_of set.granted) × (fields.b ≡ b_of set.granted)
  stored-fields span h =
      let is : span ≡ set.granted = sym (ap (λ (s : Encoding). s.granted) (stored-found span h)) in
      let has = subst (λ (s : Span). HasBoundsFields s fields.ie fields.t fields.b) is h.bounds_fields in
      (fields_law set.granted fields.ie fields.t fields.b (subst IsSpan is h.is_span)).0 has

  -- fields with the encoding of what is granted for the decoded span store it
  pub found-stored : IsSpan own
      → (fields.ie ≡ ie_of set.granted) × (fields.t ≡ t_of set.granted) × (fields.b ≡ b_of set.granted)
      → StoresSpan fields set.granted
  found-stored is_span has =
      let sound = decoded-sound own is_span (fields, decodes) in
      let is : own ≡ set.granted = granted_same own own set.granted sound granted in
      let has_own = subst (λ (s : Span). HasBoundsFields s fields.ie fields.t fields.b) (sym is)
      ((fields_law set.granted fields.ie fields.t fields.b (subst IsSpan is is_span)).1 has) in
      let at = decodes-representable own fields is_span sound has_own decodes in
      subst (λ (s : Span). StoresSpan fields s) is
      (record { is_span = is_span; sound = sound; bounds_fields = has_own; representable = at })
