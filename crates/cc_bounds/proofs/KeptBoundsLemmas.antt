-- Bounds fields decode to the same span at each address of the word's window, and at no other.
use Rattle.std.proofs.Common.{subst, ◌≡◌, ℕ, ◌+◌, ◌-◌, ◌*◌, ◌<◌, ◌≤◌, ◌/◌, ◌%◌, ◌^◌, refl, sym, ◌∙◌, ap, arith, inl, inr}
use Rattle.std.specs.Prelude.{◌↔◌}
use Rattle.std.proofs.Math.Nat.{div-add-mod', add-mul-mod_self_right}
use Rattle.std.proofs.Math.Pow.{pow_mono, mod-mod-pow}
use Rattle.std.proofs.lemmas.Bool.{cases_lt}
use Rattle.std.proofs.lemmas.Nat.{pow-add}
use Rattle.cc_word.specs.Word.{bit_of}
use Rattle.cc_word.specs.declared.fields.Fields.{Fields}
use Rattle.cc_bounds.specs.declared.span.Span.{Span}
use Rattle.cc_bounds.specs.Window.{IsRepresentable}
use Rattle.cc_bounds.specs.Decoding.{stored_exponent, base_mantissa, SharesBoundsFields, IsTopMantissa, IsPlaced, DecodesTo}
use Rattle.cc_bounds.proofs.PlaceLemmas.{section_is}
use Rattle.cc_bounds.proofs.DecodingLemmas.{near_same, IsTopMantissa-same}
use Rattle.cc_bounds.proofs.StandingLemmas.{mantissa_length, mantissa_length-fits, standing}
use Rattle.cc_bounds.proofs.DecodedSpanLemmas.{top-above, length-fits, word_representable}
use Rattle.cc_bounds.proofs.SoundLemmas.{same_span}
use Rattle.cc_bounds.proofs.RoundTripLemmas.{windows-lap}
use Rattle.cc_bounds.proofs.ExactlyOneLemmas.{one-span}

-- ---- bases, over plain numbers

-- a number plus a multiple of 2 ^ 64 equals the number modulo the window
plus_laps : (e number laps : ℕ) → e ≤ 50 → (number + laps * 2 ^ 64) % 2 ^ (e + 14) ≡ number % 2 ^ (e + 14)
plus_laps e number laps small =
    let s : e + 14 ≡ e + 11 + 3 = omega arith in
    let eight : 2 ^ (e + 14) ≡ 8 * 2 ^ (e + 11) = let q = pow-add 2 (e + 11) 3 in rw s (omega (arith, q)) in
    let lap : 2 ^ (50 - e) * 2 ^ (e + 14) ≡ 2 ^ 64 = ap (λ (n : ℕ). 2 ^ (50 - e) * n) eight ∙ windows-lap e small in
    let scaled = ap (λ (n : ℕ). laps * n) lap in
    let regroup : number + laps * 2 ^ 64 ≡ number + laps * 2 ^ (50 - e) * 2 ^ (e + 14) = omega (arith, scaled) in
    ap (λ (n : ℕ). n % 2 ^ (e + 14)) regroup ∙ add-mul-mod_self_right number (laps * 2 ^ (50 - e)) (2 ^ (e + 14))

-- bases that are equal modulo the window are equal if one address is representable for both
same_base : (e base other address : ℕ) → e ≤ 50 → base < 2 ^ 64 → other < 2 ^ 64
    → other % 2 ^ (e + 14) ≡ base % 2 ^ (e + 14) → IsRepresentable base e address → IsRepresentable other e address → other ≡ base
same_base e base other address small base_fits other_fits same one two =
    let unit : ℕ = 2 ^ (e + 11) in
    let fits : unit ≤ 2 ^ 61 = let l : e + 11 ≤ 61 = omega arith in pow_mono l in
    let s : e + 14 ≡ e + 11 + 3 = omega arith in
    let eight : 2 ^ (e + 14) ≡ 8 * unit = let q = pow-add 2 (e + 11) 3 in rw s (omega (arith, q)) in
    let t : 3 + (e + 11) ≡ e + 14 = omega arith in
    let base_low : base % 2 ^ (e + 14) % unit ≡ base % unit =
    ap (λ (n : ℕ). base % 2 ^ n % unit) (sym t) ∙ mod-mod-pow base 3 (e + 11) in
    let other_low : other % 2 ^ (e + 14) % unit ≡ other % unit =
    ap (λ (n : ℕ). other % 2 ^ n % unit) (sym t) ∙ mod-mod-pow other 3 (e + 11) in
    let low : other % unit ≡ base % unit = sym other_low ∙ ap (λ (n : ℕ). n % unit) same ∙ base_low in
    let base_split = div-add-mod' base unit in
    let other_split = div-add-mod' other unit in
    let one_start = one.from_start in
    let one_end = one.below_end in
    let two_start = two.from_start in
    let two_end = two.below_end in
    let equal : other + one.laps * 2 ^ 64 ≡ base + two.laps * 2 ^ 64 =
    near_same (2 ^ (e + 14)) (other + one.laps * 2 ^ 64) (base + two.laps * 2 ^ 64)
    (omega (arith, eight, low, base_split, other_split, one_start, one_end, two_start, two_end, fits))
    (omega (arith, eight, low, base_split, other_split, one_start, one_end, two_start, two_end, fits))
    (plus_laps e other one.laps small ∙ same ∙ sym (plus_laps e base two.laps small)) in
    omega (arith, equal, base_fits, other_fits)

-- ---- one word's fields

-- the place of a mantissa, modulo the window
placed_modulo : (fields : Fields) (mantissa place : ℕ) → IsPlaced fields mantissa place
    → place % 2 ^ (stored_exponent fields + 14) ≡ mantissa * 2 ^ stored_exponent fields
placed_modulo fields mantissa place is_place = ap (λ (n : ℕ). place % n) (section_is fields).eight ∙ is_place.scaled

-- below exponent 51 the top is as far above the base as the mantissas are apart
word_top : (fields : Fields) (span : Span) (decoded : DecodesTo fields span) → stored_exponent fields < 51
    → span.top ≡ span.base + mantissa_length (base_mantissa fields) decoded.is_top.mantissa * 2 ^ stored_exponent fields
word_top fields span decoded small =
    let e : ℕ = stored_exponent fields in
    let length : ℕ = mantissa_length (base_mantissa fields) decoded.is_top.mantissa in
    let place = standing fields span decoded in
    let fits = length-fits e length (mantissa_length-fits fields decoded.is_top.mantissa decoded.is_top.is_mantissa) small in
    top-above e span.base decoded.is_base.place (length * 2 ^ e) span.top small fits decoded.is_base.kept (rw place.top_is at decoded.is_top.is_top)

-- ---- two words with the same bounds fields

same_exponent : (fields other : Fields) → SharesBoundsFields fields other → stored_exponent other ≡ stored_exponent fields
same_exponent fields other same =
    let ie = same.ie in let t = same.t in let b = same.b in
    rw (ie, t, b) refl

same_mantissa : (fields other : Fields) → SharesBoundsFields fields other → base_mantissa other ≡ base_mantissa fields
same_mantissa fields other same = let ie = same.ie in let b = same.b in rw (ie, b) refl

same_top_mantissa : (fields other : Fields) (mantissa : ℕ) → SharesBoundsFields fields other → IsTopMantissa other mantissa → IsTopMantissa fields mantissa
same_top_mantissa fields other mantissa same h =
    let ie = same.ie in
    let t = same.t in
    record {
      fits = h.fits;
      stored = h.stored ∙ rw (ie, t) refl;
      implied =
          ap (λ (n : ℕ). (mantissa + 2 ^ 14 - n) % 2 ^ 14 / 2 ^ 12) (sym (same_mantissa fields other same)) ∙ h.implied
          ∙ ap bit_of ie;
    }

module _ (fields other : Fields) (span moved : Span) (same : SharesBoundsFields fields other) (decoded : DecodesTo fields span)
    (again : DecodesTo other moved) where
  e_is : stored_exponent other ≡ stored_exponent fields
  e_is = same_exponent fields other same

  -- the places of one mantissa are equal modulo the window
  places : (mantissa mantissa' place place' : ℕ) → mantissa' ≡ mantissa → IsPlaced fields mantissa place → IsPlaced other mantissa' place'
      → place' % 2 ^ (stored_exponent fields + 14) ≡ place % 2 ^ (stored_exponent fields + 14)
  places mantissa mantissa' place place' is here there =
      ap (λ (n : ℕ). place' % 2 ^ (n + 14)) (sym e_is) ∙ placed_modulo other mantissa' place' there
      ∙ ap (λ (n : ℕ). mantissa' * 2 ^ n) e_is ∙ ap (λ (n : ℕ). n * 2 ^ stored_exponent fields) is
      ∙ sym (placed_modulo fields mantissa place here)

  base_places : again.is_base.place % 2 ^ (stored_exponent fields + 14) ≡ decoded.is_base.place % 2 ^ (stored_exponent fields + 14)
  base_places =
      places (base_mantissa fields) (base_mantissa other) decoded.is_base.place again.is_base.place (same_mantissa fields other same)
      decoded.is_base.is_place again.is_base.is_place

  top_mantissas : again.is_top.mantissa ≡ decoded.is_top.mantissa
  top_mantissas =
      IsTopMantissa-same fields again.is_top.mantissa decoded.is_top.mantissa
      (same_top_mantissa fields other again.is_top.mantissa same again.is_top.is_mantissa) decoded.is_top.is_mantissa

  -- the low bits of places that are equal modulo the window
  kept : (bits place place' : ℕ) → bits ≤ stored_exponent fields + 14
      → place' % 2 ^ (stored_exponent fields + 14) ≡ place % 2 ^ (stored_exponent fields + 14) → place' % 2 ^ bits ≡ place % 2 ^ bits
  kept bits place place' few equal =
      let s : stored_exponent fields + 14 - bits + bits ≡ stored_exponent fields + 14 = omega (arith, few) in
      let low = λ (n : ℕ). ap (λ (k : ℕ). n % 2 ^ k % 2 ^ bits) (sym s) ∙ mod-mod-pow n (stored_exponent fields + 14 - bits) bits in
      sym (low place') ∙ ap (λ (n : ℕ). n % 2 ^ bits) equal ∙ low place

  -- at exponents of at least 50 the base does not depend on the address
  bases_large : 50 ≤ stored_exponent fields → moved.base ≡ span.base
  bases_large large =
      again.is_base.kept ∙ kept 64 decoded.is_base.place again.is_base.place (omega (arith, large)) base_places
      ∙ sym decoded.is_base.kept

  -- at exponents up to 50 the base is the same if the address is in the window
  bases_small : stored_exponent fields ≤ 50 → IsRepresentable span.base (stored_exponent fields) other.address → moved.base ≡ span.base
  bases_small small window =
      let own = subst (λ (n : ℕ). IsRepresentable moved.base n other.address) e_is (word_representable other moved again) in
      let s : 50 - stored_exponent fields + (stored_exponent fields + 14) ≡ 64 = omega (arith, small) in
      let low = λ (n : ℕ). ap (λ (k : ℕ). n % 2 ^ k % 2 ^ (stored_exponent fields + 14)) (sym s)
      ∙ mod-mod-pow n (50 - stored_exponent fields) (stored_exponent fields + 14) in
      let base_kept = decoded.is_base.kept in
      let moved_kept = again.is_base.kept in
      let equal : moved.base % 2 ^ (stored_exponent fields + 14) ≡ span.base % 2 ^ (stored_exponent fields + 14) =
      ap (λ (n : ℕ). n % 2 ^ (stored_exponent fields + 14)) moved_kept ∙ low again.is_base.place ∙ base_places
      ∙ sym (low decoded.is_base.place) ∙ ap (λ (n : ℕ). n % 2 ^ (stored_exponent fields + 14)) (sym base_kept) in
      same_base (stored_exponent fields) span.base moved.base other.address small (omega (arith, base_kept)) (omega (arith, moved_kept))
      equal window own

  -- with the same base, the top is the same
  tops : moved.base ≡ span.base → moved.top ≡ span.top
  tops base_is =
      elim (cases_lt (stored_exponent fields) 51) [
        | inl small ↦
            let small' : stored_exponent other < 51 = omega (arith, small, e_is) in
            word_top other moved again small' ∙ ap (λ (n : ℕ). n + mantissa_length (base_mantissa other) again.is_top.mantissa * 2 ^ stored_exponent other) base_is
            ∙ ap (λ (n : ℕ). span.base + mantissa_length n again.is_top.mantissa * 2 ^ stored_exponent other) (same_mantissa fields other same)
            ∙ ap (λ (n : ℕ). span.base + mantissa_length (base_mantissa fields) n * 2 ^ stored_exponent other) top_mantissas
            ∙ ap (λ (n : ℕ). span.base + mantissa_length (base_mantissa fields) decoded.is_top.mantissa * 2 ^ n) e_is
            ∙ sym (word_top fields span decoded small)
        | inr large ↦
            again.is_top.is_top.large (omega (arith, large, e_is))
            ∙ kept 65 decoded.is_top.place again.is_top.place (omega (arith, large))
            (places decoded.is_top.mantissa again.is_top.mantissa decoded.is_top.place again.is_top.place top_mantissas
            decoded.is_top.is_place again.is_top.is_place)
            ∙ sym (decoded.is_top.is_top.large large)
      ]

  spans_large : 50 ≤ stored_exponent fields → moved ≡ span
  spans_large large = let base = bases_large large in same_span moved span base (tops base)

  spans : IsRepresentable span.base (stored_exponent fields) other.address → moved ≡ span
  spans window =
      elim (cases_lt (stored_exponent fields) 50) [
        | inl small ↦ let base = bases_small (omega (arith, small)) window in same_span moved span base (tops base)
        | inr large ↦ spans_large large
      ]

-- shared bounds fields decode to the same span if and only if the address is in the word's window
pub kept_in_window : (fields other : Fields) (span : Span) → SharesBoundsFields fields other → DecodesTo fields span
    → DecodesTo other span ↔ IsRepresentable span.base (stored_exponent fields) other.address
kept_in_window fields other span same decoded = (
  λ again. subst (λ (n : ℕ). IsRepresentable span.base n other.address) (same_exponent fields other same) (word_representable other span again),
  λ window.
      let one = one-span other in
      subst (λ (s : Span). DecodesTo other s) (spans fields other span one.value same decoded one.has window) one.has,
)

-- at exponents of at least 50 they do at every address
pub kept_large : (fields other : Fields) (span : Span) → SharesBoundsFields fields other → DecodesTo fields span
    → 50 ≤ stored_exponent fields → DecodesTo other span
kept_large fields other span same decoded large =
    let one = one-span other in
    subst (λ (s : Span). DecodesTo other s) (spans_large fields other span one.value same decoded one.has large) one.has

-- the fields with their address replaced
abbrev pub moved_to : (fields : Fields) (address : ℕ) → address < 2 ^ 64 → Fields
moved_to fields address fits = record {
  perms = fields.perms;
  reserved = fields.reserved;
  flag = fields.flag;
  otype = fields.otype;
  ie = fields.ie;
  t = fields.t;
  b = fields.b;
  address = address;
  perms_fit = fields.perms_fit;
  reserved_fits = fields.reserved_fits;
  otype_fits = fields.otype_fits;
  t_fits = fields.t_fits;
  b_fits = fields.b_fits;
  address_fits = fits;
}

pub moved_shares : (fields : Fields) (address : ℕ) (fits : address < 2 ^ 64) → SharesBoundsFields fields (moved_to fields address fits)
moved_shares fields address fits = record { ie = refl; t = refl; b = refl }

pub shared_everywhere : (fields : Fields) (address : ℕ) → address < 2 ^ 64
    → (other : Fields) × SharesBoundsFields fields other × (other.address ≡ address)
shared_everywhere fields address fits = (moved_to fields address fits, moved_shares fields address fits, refl)
