-- Claims decided, one way or the other: of spans, of granules and windows, and of the spans that
-- fields store.
use Rattle.std.proofs.Common.{ℕ, zero, suc, Bool, true, false, ◌≡◌, ◌⊎◌, ◌+◌, ◌*◌, ◌^◌, ◌<◌, ◌≤◌, max, refl, ap, subst, inl, inr, arith}
use Rattle.std.proofs.lemmas.Bool.{cases_lt}
use Rattle.std.proofs.lemmas.Nat.{pow_pos}
use Rattle.std.proofs.Math.Nat.{pow-suc}
use Rattle.std.proofs.Math.Pow.{pow_mono}
use Rattle.std.proofs.Math.Decide.{map_dec, ℕ_discrete, dec_le, dec_lt}
use Rattle.cc_word.specs.declared.fields.Fields.{Fields}
use Rattle.cc_bounds.specs.declared.span.Span.{Span}
use Rattle.cc_bounds.specs.Span.{IsSpan, HasByte, IsWithin, SharesByte, from_zero}
use Rattle.cc_bounds.specs.Granule.{granule_count, IsGranule, IsGranted, IsSound, exponent_of, granted_span}
use Rattle.cc_bounds.specs.Window.{Represents, section_of}
use Rattle.cc_bounds.specs.Encoding.{Encoding, StoresSpan, ie_of, t_of, b_of}
use Rattle.cc_bounds.specs.Decoding.{DecodesTo}
use Rattle.cc_bounds.proofs.GranuleLemmas.{div_ceil-le, least-granule}
use Rattle.cc_bounds.proofs.LawLemmas.{granted_law}
use Rattle.cc_bounds.proofs.EncodingLemmas.{sound-fit}
use Rattle.cc_bounds.proofs.WindowLemmas.{above_start, near-representable, representable-near}
use Rattle.cc_bounds.proofs.SoundDecodingLemmas.{represents-computed}
use Rattle.cc_bounds.proofs.TightestLemmas.{decoded-sound}
use Rattle.cc_bounds.proofs.FieldsLemmas.{stored-decodes, stored-fields, found-stored}
use Rattle.cc_bounds.proofs.ExactlyOneLemmas.{one-span}

-- both of two facts
pub dec_both : {P Q : Type 0} → Dec P → Dec Q → Dec (P × Q)
dec_both (yes first) (yes second) = yes (first, second)
dec_both (yes first) (no not) = no (λ h. not h.1)
dec_both (no not) second = no (λ h. not h.0)

-- the least number of which a fact is true
pub record Least (Fact : ℕ → Type 0) : Type 0 where
  pub number : ℕ
  pub is : Fact number
  pub least : (other : ℕ) → Fact other → number ≤ other

-- a fact that is decided of each number is true of a least one, or of none below a limit
pub least_below : (Fact : ℕ → Type 0) → ((n : ℕ) → Dec (Fact n)) → (limit : ℕ)
    → Least Fact ⊎ ((n : ℕ) → n < limit → ¬ Fact n)
least_below Fact decide zero = inr (λ n less. absurd (omega (arith, less)))
least_below Fact decide (suc limit) = elim (least_below Fact decide limit) [
  | inl found ↦ inl found
  | inr none ↦ by_last none (decide limit)
]
  where
    by_last : ((n : ℕ) → n < limit → ¬ Fact n) → Dec (Fact limit) → Least Fact ⊎ ((n : ℕ) → n < suc limit → ¬ Fact n)
    by_last none (yes is) = inl (record {
      number = limit;
      is = is;
      least = λ other also. elim (cases_lt other limit) [ inl less ↦ absurd (none other less also) | inr more ↦ more ];
    })
    by_last none (no not) = inr (λ n less also. elim (cases_lt n limit) [
      | inl below ↦ none n below also
      | inr above ↦ not (let same : n ≡ limit = omega (arith, less, above) in subst Fact same also)
    ])

-- the equality of two bits
pub dec_bit : (one other : Bool) → Dec (one ≡ other)
dec_bit true true = yes refl
dec_bit true false = no (λ e. let f = e in cc)
dec_bit false true = no (λ e. let f = e in cc)
dec_bit false false = yes refl

-- ---- spans

pub dec-IsSpan : (span : Span) → Dec (IsSpan span)
dec-IsSpan span =
    map_dec (λ h. record { in_order = h.0; base_fits = h.1.0; top_fits = h.1.1 }) (λ h. (h.in_order, (h.base_fits, h.top_fits)))
    (dec_both (dec_le span.base span.top) (dec_both (dec_lt span.base (2 ^ 64)) (dec_le span.top (2 ^ 64))))

pub dec-HasByte : (span : Span) (byte : ℕ) → Dec (HasByte span byte)
dec-HasByte span byte =
    map_dec (λ h. record { from_base = h.0; below_top = h.1 }) (λ h. (h.from_base, h.below_top))
    (dec_both (dec_le span.base byte) (dec_lt byte span.top))

pub dec-IsWithin : (inner outer : Span) → Dec (IsWithin inner outer)
dec-IsWithin inner outer =
    map_dec (λ h. record { from_base = h.0; to_top = h.1 }) (λ h. (h.from_base, h.to_top))
    (dec_both (dec_le outer.base inner.base) (dec_le inner.top outer.top))

-- spans share a byte exactly if both have the greater base
shares-greater : (one other : Span) → SharesByte one other
    → HasByte one (max one.base other.base) × HasByte other (max one.base other.base)
shares-greater one other shares = (
  record {
    from_base = omega arith;
    below_top = omega (arith, shares.in_one.from_base, shares.in_one.below_top, shares.in_other.from_base);
  },
  record {
    from_base = omega arith;
    below_top = omega (arith, shares.in_one.from_base, shares.in_other.below_top, shares.in_other.from_base);
  },
)

pub dec-SharesByte : (one other : Span) → Dec (SharesByte one other)
dec-SharesByte one other =
    map_dec (λ h. record { byte = max one.base other.base; in_one = h.0; in_other = h.1 }) (shares-greater one other)
    (dec_both (dec-HasByte one (max one.base other.base)) (dec-HasByte other (max one.base other.base)))

dec-same : (one other : Span) → Dec (one ≡ other)
dec-same one other =
    map_dec (λ h i. record { base = h.0 i; top = h.1 i })
    (λ e. (ap (λ (span : Span). span.base) e, ap (λ (span : Span). span.top) e))
    (dec_both (ℕ_discrete one.base other.base) (ℕ_discrete one.top other.top))

-- ---- granules

-- a number is below its power of two
below_power : (n : ℕ) → n < 2 ^ n
below_power zero = omega arith
below_power (suc n) = omega (arith, below_power n, pow-suc 2 n)

-- a granule of the request
pub record HasGranule (request : Span) : Type 0 where
  pub granule : ℕ
  pub is : IsGranule request granule

-- every length has a granule, also one past the address space
pub length-HasGranule : (size : ℕ) → HasGranule (from_zero size)
length-HasGranule size = elim (cases_lt size 4096) [
  | inl short ↦ record {
    granule = 1;
    is = record {
      small = λ _. refl;
      large = λ long. absurd (omega (arith, short, long));
      least = λ other long _. absurd (omega (arith, short, long));
    };
  }
  | inr long ↦ by_search long (least_below Few (λ e. dec_le (granule_count (from_zero size) (2 ^ (e + 3))) 1023) (suc size))
]
  where
    Few : ℕ → Type 0
    Few e = granule_count (from_zero size) (2 ^ (e + 3)) ≤ 1023

    some : Few size
    some =
        let g : ℕ = 2 ^ (size + 3) in
        let order : size ≤ size + 3 = omega arith in
        let grows : 2 ^ size ≤ g = pow_mono order in
        let one = div_ceil-le (0 + size) g 1 (pow_pos (size + 3)) (omega (arith, below_power size, grows)) in
        omega (arith, one)

    by_search : 4096 ≤ size → Least Few ⊎ ((n : ℕ) → n < suc size → ¬ Few n) → HasGranule (from_zero size)
    by_search long (inl found) = record {
      granule = 2 ^ (found.number + 3);
      is = least-granule (from_zero size) found.number (omega (arith, long)) (record { few = found.is; least = found.least });
    }
    by_search long (inr none) = absurd (none size (omega arith) some)

-- ---- requests and windows

pub dec-IsGranted : (request granted : Span) → IsSpan request → Dec (IsGranted request granted)
dec-IsGranted request granted is_request =
    let law = granted_law request granted is_request in map_dec law.1 law.0 (dec-same granted (granted_span request))

pub dec-Represents : (span : Span) (address : ℕ) → IsSpan span → IsSound span → address < 2 ^ 64 → Dec (Represents span address)
dec-Represents span address is_span sound fits =
    let small = (sound-fit span is_span sound).exponent_fits in
    let law = represents-computed span address is_span in
    map_dec (λ near. law.0 (near-representable span.base (exponent_of span) address small is_span.base_fits fits near))
    (λ represents. representable-near span.base (exponent_of span) address small is_span.base_fits fits (law.1 represents))
    (dec_lt (above_start span.base (exponent_of span) address) (8 * section_of (exponent_of span)))

-- ---- fields

-- some span is stored in the fields
pub record StoreSome (fields : Fields) : Type 0 where
  pub span : Span
  pub stores : StoresSpan fields span

module _ (fields : Fields) (own : Span) (decodes : DecodesTo fields own)
    (only : (span : Span) → DecodesTo fields span → span ≡ own) where
  stores-own : StoreSome fields → StoresSpan fields own
  stores-own some = subst (λ (s : Span). StoresSpan fields s) (only some.span (stored-decodes fields some.span some.stores)) some.stores

  by_fields : IsSpan own → Dec (StoreSome fields)
  by_fields is_span =
      let sound : IsSound own = decoded-sound own is_span (fields, decodes) in
      let set : Encoding = record { granted = own; exact = true } in
      map_dec
      (λ has. record {
        span = own;
        stores = found-stored fields own set decodes only sound (λ _. sound, λ _. refl) is_span (has.0, has.1.0, has.1.1);
      })
      (λ some.
      let has = stored-fields fields own set decodes only sound (λ _. sound, λ _. refl) own (stores-own some) in
      (has.0, (has.1, has.2)))
      (dec_both (dec_bit fields.ie (ie_of own)) (dec_both (ℕ_discrete fields.t (t_of own)) (ℕ_discrete fields.b (b_of own))))

  by_span : Dec (IsSpan own) → Dec (StoreSome fields)
  by_span (yes is_span) = by_fields is_span
  by_span (no not) = no (λ some. not (stores-own some).is_span)

pub dec-StoreSome : (fields : Fields) → Dec (StoreSome fields)
dec-StoreSome fields =
    let own = one-span fields in by_span fields own.value own.has own.only (dec-IsSpan own.value)
