-- The fields of every word of 128 bits.
use Rattle.std.proofs.Common.{ℕ, zero, suc, Bool, true, false, ◌≡◌, ◌/◌, ◌%◌, ◌^◌, ◌<◌, ◌==◌, refl, arith, bit_xor}
use Rattle.std.proofs.lemmas.Nat.{xor_lt}
use Rattle.cc_word.specs.declared.fields.Fields.{Fields}
use Rattle.cc_word.specs.Word.{bit_of, layout_of, word_of}
use Rattle.cc_word.specs.Layout.{null_layout, plain_layout_of}
use Rattle.cc_word.proofs.WordLemmas.{layout_turned, turned_twice, word_of-turned}

-- a number below 2 as a bit
bit_of-number : (n : ℕ) → n < 2 → bit_of (n == 1) ≡ n
bit_of-number zero fits = refl
bit_of-number (suc zero) fits = refl
bit_of-number (suc (suc n)) fits = absurd (omega arith)

-- a layout is the sum of what is cut from it
layout-of_cut : (n flag ie : ℕ) → n < 2 ^ 128 → flag ≡ n / 2 ^ 109 % 2 → ie ≡ n / 2 ^ 90 % 2
    → layout_of (n / 2 ^ 112) (n / 2 ^ 110 % 2 ^ 2) flag (n / 2 ^ 91 % 2 ^ 18) ie (n / 2 ^ 78 % 2 ^ 12)
    (n / 2 ^ 64 % 2 ^ 14) (n % 2 ^ 64) ≡ n
layout-of_cut n flag ie fits is_flag is_ie = omega arith

-- fields with this layout
record OfLayout (layout : ℕ) : Type 0 where
  fields : Fields
  is : plain_layout_of fields ≡ layout

of_layout : (n : ℕ) → n < 2 ^ 128 → OfLayout n
unfolding plain_layout_of
of_layout n fits = record {
  fields = record {
    perms = n / 2 ^ 112;
    reserved = n / 2 ^ 110 % 2 ^ 2;
    flag = n / 2 ^ 109 % 2 == 1;
    otype = n / 2 ^ 91 % 2 ^ 18;
    ie = n / 2 ^ 90 % 2 == 1;
    t = n / 2 ^ 78 % 2 ^ 12;
    b = n / 2 ^ 64 % 2 ^ 14;
    address = n % 2 ^ 64;
    perms_fit = omega arith;
    reserved_fits = omega arith;
    otype_fits = omega arith;
    t_fits = omega arith;
    b_fits = omega arith;
    address_fits = omega arith;
  };
  is = layout-of_cut n _ _ fits (bit_of-number (n / 2 ^ 109 % 2) (omega arith)) (bit_of-number (n / 2 ^ 90 % 2) (omega arith));
}

-- fields with this word
pub record OfWord (word : ℕ) : Type 0 where
  pub fields : Fields
  pub is_word : word_of fields ≡ word

-- some fields have each word of 128 bits
pub of_word : (word : ℕ) → word < 2 ^ 128 → OfWord word
of_word word fits =
    let plain = of_layout (bit_xor word null_layout) (xor_lt 128 word null_layout fits (omega arith)) in
    record { fields = plain.fields; is_word = word_of-turned plain.fields _ word plain.is (turned_twice word) }

-- a bit is below 2
bit_of-fits : (bit : Bool) → bit_of bit < 2
bit_of-fits true = omega arith
bit_of-fits false = omega arith

plain_layout-fits : (fields : Fields) → plain_layout_of fields < 2 ^ 128
unfolding plain_layout_of
plain_layout-fits fields =
    omega (
      arith,
      fields.perms_fit,
      fields.reserved_fits,
      bit_of-fits fields.flag,
      fields.otype_fits,
      bit_of-fits fields.ie,
      fields.t_fits,
      fields.b_fits,
      fields.address_fits,
    )

-- the word of any fields has 128 bits
pub word_of-fits : (fields : Fields) → word_of fields < 2 ^ 128
word_of-fits fields =
    let fits = xor_lt 128 (plain_layout_of fields) null_layout (plain_layout-fits fields) (omega arith) in
    rw (← layout_turned fields) fits
