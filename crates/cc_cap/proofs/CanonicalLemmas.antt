-- The word of a capability: there is one, and no other capability has it.
use Rattle.std.proofs.Common.{ℕ, Bool, true, false, ◌≡◌, ◌∙◌, ◌+◌, ◌-◌, ◌*◌, ◌/◌, ◌%◌, ◌^◌, ◌<◌, ◌≤◌, ◌==◌, ◌⊎◌, inl, inr, refl, sym, ap, subst, arith}
use Rattle.std.proofs.lemmas.Bool.{cases_lt}
use Rattle.std.specs.Prelude.{◌↔◌}
use Rattle.cc_word.specs.declared.fields.Fields.{Fields}
use Rattle.cc_word.specs.Word.{bit_of, turned, layout_of, word_of}
use Rattle.cc_word.proofs.WordLemmas.{word_of-same}
use Rattle.cc_bounds.specs.Window.{Represents}
use Rattle.cc_bounds.specs.Encoding.{StoresSpan, ie_of, t_of, b_of}
use Rattle.cc_bounds.proofs.DecodingLemmas.{DecodesTo-same}
use Rattle.cc_bounds.proofs.SoundDecodingLemmas.{sound-decodes}
use Rattle.cc_bounds.proofs.ComputingLemmas.{bounds_fields-are}
use Rattle.cc_word.specs.ObjType.{IsObjType, unsealed_type}
use Rattle.cc_cap.specs.Capability.{Capability, IsCapability}
use Rattle.cc_cap.specs.Canonical.{IsFieldsOf, IsWordOf, word_of_capability}

-- ---- the word of a capability

-- the word of fields that are a capability's
layout-word_of_capability : (cap : Capability) (perms : ℕ) (flag : Bool) (otype : ℕ) (ie : Bool) (t b address : ℕ)
    → perms ≡ cap.permissions → flag ≡ cap.flag → otype ≡ cap.otype → ie ≡ ie_of cap.span → t ≡ t_of cap.span
    → b ≡ b_of cap.span → address ≡ cap.address
    → layout_of perms 0 (bit_of flag) (0x3ffff - otype) (1 - bit_of ie) (turned 2 (turned 1 t)) (turned 2 b) address
    ≡ word_of_capability cap
unfolding word_of_capability
layout-word_of_capability cap perms flag otype ie t b address is_perms is_flag is_otype is_ie is_t is_b is_address =
    λ i. layout_of (is_perms i) 0 (bit_of (is_flag i)) (0x3ffff - is_otype i) (1 - bit_of (is_ie i))
    (turned 2 (turned 1 (is_t i))) (turned 2 (is_b i)) (is_address i)

-- a capability has one word
pub IsWordOf-word_of_capability : (cap : Capability) (word : ℕ) → IsWordOf cap word → word ≡ word_of_capability cap
IsWordOf-word_of_capability cap word is_word_of =
    let fields : Fields = is_word_of.fields in
    let own = is_word_of.is_fields in
    let bounds = bounds_fields-are cap.span fields.ie fields.t fields.b is_word_of.is_capability.is_span own.bounds in
    let reserved : word ≡ layout_of fields.perms 0 (bit_of fields.flag) (0x3ffff - fields.otype) (1 - bit_of fields.ie)
    (turned 2 (turned 1 fields.t)) (turned 2 fields.b) fields.address =
    is_word_of.is_word ∙ ap
    (λ (n : ℕ). layout_of fields.perms n (bit_of fields.flag) (0x3ffff - fields.otype) (1 - bit_of fields.ie)
    (turned 2 (turned 1 fields.t)) (turned 2 fields.b) fields.address)
    own.reserved in
    reserved ∙ layout-word_of_capability cap fields.perms fields.flag fields.otype fields.ie fields.t fields.b fields.address
    own.permissions own.flag own.otype bounds.is_ie bounds.is_t bounds.is_b own.address

-- ---- the capability of a word

-- only one capability has these fields
IsFieldsOf-same : (one other : Capability) (fields : Fields) → IsCapability one → IsCapability other
    → IsFieldsOf one fields → IsFieldsOf other fields → one ≡ other
IsFieldsOf-same one other fields is_one is_other own also =
    let at_one = subst (Represents one.span) (sym own.address) is_one.representable in
    let at_other = subst (Represents other.span) (sym also.address) is_other.representable in
    let span : one.span ≡ other.span =
    DecodesTo-same fields one.span other.span (sound-decodes one.span is_one.is_span is_one.sound fields own.bounds at_one)
    (sound-decodes other.span is_other.is_span is_other.sound fields also.bounds at_other) in
    λ i. record {
      span = span i;
      address = (sym own.address ∙ also.address) i;
      permissions = (sym own.permissions ∙ also.permissions) i;
      flag = (sym own.flag ∙ also.flag) i;
      otype = (sym own.otype ∙ also.otype) i;
    }

-- only one capability has this word
pub IsWordOf-same : (one other : Capability) (word : ℕ) → IsWordOf one word → IsWordOf other word → one ≡ other
IsWordOf-same one other word own also =
    let same = word_of-same own.fields also.fields word (sym own.is_word) (sym also.is_word) in
    IsFieldsOf-same one other own.fields own.is_capability also.is_capability own.is_fields
    (subst (IsFieldsOf other) (sym same) also.is_fields)

-- the capability that is read from fields has their word
pub IsWordOf-read : (cap : Capability) (fields : Fields) (word : ℕ) → StoresSpan fields cap.span → IsObjType cap.otype
    → fields.perms ≡ cap.permissions → fields.reserved ≡ 0 → fields.flag ≡ cap.flag → fields.otype ≡ cap.otype
    → fields.address ≡ cap.address → word_of fields ≡ word → IsWordOf cap word
IsWordOf-read cap fields word bounds is_type perms reserved flag otype address is_word = record {
  is_capability = record {
    is_span = bounds.is_span;
    sound = bounds.sound;
    address_fits = subst (λ (n : ℕ). n < 2 ^ 64) address fields.address_fits;
    representable = subst (Represents cap.span) address bounds.representable;
    permissions_fit = subst (λ (n : ℕ). n < 2 ^ 16) perms fields.perms_fit;
    is_type = is_type;
  };
  fields = fields;
  is_fields = record {
    permissions = perms;
    reserved = reserved;
    flag = flag;
    otype = otype;
    bounds = bounds.bounds_fields;
    address = address;
  };
  is_word = sym is_word;
}

-- the fields of a capability's word store its span
pub IsWordOf-stores : (cap : Capability) (word : ℕ) (fields : Fields) (own : IsWordOf cap word) → own.fields ≡ fields
    → StoresSpan fields cap.span
IsWordOf-stores cap word fields own same =
    let stores : StoresSpan own.fields cap.span = record {
      is_span = own.is_capability.is_span;
      sound = own.is_capability.sound;
      bounds_fields = own.is_fields.bounds;
      representable = subst (Represents cap.span) (sym own.is_fields.address) own.is_capability.representable;
    } in
    subst (λ (other : Fields). StoresSpan other cap.span) same stores

-- ---- the bits of the reserved bits, the flag and the type

-- a number with a bit turned stays below a power of two above the bit
turned-one : (number : ℕ) → number < 2 ^ 12 → turned 1 number < 2 ^ 12
turned-one number fits = by (number / 2 ^ 1 % 2 == 1) refl
  where
    by : (set : Bool) → (number / 2 ^ 1 % 2 == 1) ≡ set → turned 1 number < 2 ^ 12
    by true is = rw is (omega arith)
    by false is = let clear : ¬ (number / 2 % 2 ≡ 1) = grind (arith, is) in rw is (omega (arith, clear))

turned-two : (number : ℕ) → number < 2 ^ 12 → turned 2 number < 2 ^ 12
turned-two number fits = by (number / 2 ^ 2 % 2 == 1) refl
  where
    by : (set : Bool) → (number / 2 ^ 2 % 2 == 1) ≡ set → turned 2 number < 2 ^ 12
    by true is = rw is (omega arith)
    by false is = let clear : ¬ (number / 4 % 2 ≡ 1) = grind (arith, is) in rw is (omega (arith, clear))

turned-high : (number : ℕ) → number < 2 ^ 14 → turned 2 number < 2 ^ 14
turned-high number fits = by (number / 2 ^ 2 % 2 == 1) refl
  where
    by : (set : Bool) → (number / 2 ^ 2 % 2 == 1) ≡ set → turned 2 number < 2 ^ 14
    by true is = rw is (omega arith)
    by false is = let clear : ¬ (number / 4 % 2 ≡ 1) = grind (arith, is) in rw is (omega (arith, clear))

middle : (p r f o i t b a : ℕ) → r < 2 ^ 2 → f ≤ 1 → o < 2 ^ 18 → i ≤ 1 → t < 2 ^ 12 → b < 2 ^ 14 → a < 2 ^ 64
    → layout_of p r f o i t b a / 2 ^ 91 % 2 ^ 21 ≡ r * 2 ^ 19 + f * 2 ^ 18 + o
middle p r f o i t b a r_fits f_fits o_fits i_fits t_fits b_fits a_fits = omega arith

bit-fits : (bit : Bool) → bit_of bit ≤ 1
bit-fits true = omega arith
bit-fits false = omega arith

-- the 21 bits of a word from the type up to the reserved bits
pub middle_bits : (fields : Fields) → word_of fields / 2 ^ 91 % 2 ^ 21 ≡ fields.reserved * 2 ^ 19 + bit_of fields.flag * 2 ^ 18 + (0x3ffff - fields.otype)
middle_bits fields =
    middle fields.perms fields.reserved (bit_of fields.flag) (0x3ffff - fields.otype) (1 - bit_of fields.ie) (turned 2 (turned 1 fields.t))
    (turned 2 fields.b) fields.address fields.reserved_fits (bit-fits fields.flag) (omega arith) (omega arith)
    (turned-two (turned 1 fields.t) (turned-one fields.t fields.t_fits)) (turned-high fields.b fields.b_fits) fields.address_fits

-- whether the reserved bits are zero and the type is unsealed, by these bits
pub plain-bits : (word rest : ℕ) → rest ≡ word / 2 ^ 91 % 2 ^ 21 → (fields : Fields) → word_of fields ≡ word
    → ((rest ≡ 0) ⊎ (rest ≡ 0x40000)) ↔ ((fields.reserved ≡ 0) × (fields.otype ≡ unsealed_type))
plain-bits word rest is fields has =
    let bits : rest ≡ fields.reserved * 2 ^ 19 + bit_of fields.flag * 2 ^ 18 + (0x3ffff - fields.otype) =
    is ∙ ap (λ (n : ℕ). n / 2 ^ 91 % 2 ^ 21) (sym has) ∙ middle_bits fields in
    let flag = bit-fits fields.flag in
    let type_fits = fields.otype_fits in (
      λ either. elim either [
        | inl zero ↦ (omega (arith, bits, zero), omega (arith, bits, zero, type_fits))
        | inr set ↦ (omega (arith, bits, set, flag, type_fits), omega (arith, bits, set, flag, type_fits))
      ],
      λ both.
          let reserved = both.0 in
          let unsealed = both.1 in
          elim (cases_lt (bit_of fields.flag) 1) [
            | inl clear ↦ inl (omega (arith, bits, reserved, unsealed, clear))
            | inr set ↦ inr (omega (arith, bits, reserved, unsealed, set, flag))
          ],
    )
