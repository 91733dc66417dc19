-- The fields of a word that are packed again, and the fields of a word with another address.
use Rattle.std.proofs.Common.{ℕ, ◌≡◌, ◌∙◌, ◌-◌, ◌<◌, ◌^◌, refl, sym, subst, arith}
use Rattle.std.proofs.Math.Nat.{mod-eq_of_lt}
use Rattle.cc_word.specs.declared.fields.Fields.{Fields}
use Rattle.cc_word.specs.Word.{bit_of, turned, layout_of, word_of}
use Rattle.cc_word.proofs.WordLemmas.{word_of-same}
use Rattle.cc_word.proofs.UnpackLemmas.{of_word}
use Rattle.cc_bounds.specs.declared.span.Span.{Span}
use Rattle.cc_bounds.specs.Encoding.{HasBoundsFields}
use Rattle.cc_ffi.specs.declared.structs.WordFields.{WordFields}
use Rattle.cc_ffi.specs.Numbers.{number_of_halves}
use Rattle.cc_ffi.specs.Words.{OfFields, IsSame, IsCut}

-- ---- packed again

-- the numbers of fields fit their widths, so nothing is cut
same-cut : (given : WordFields) (fields : Fields) → IsSame given fields → IsCut given fields
same-cut given fields is =
    let reserved = is.reserved in
    let otype = is.otype in
    let t = is.t in
    let b = is.b in
    record {
      perms = sym is.perms;
      reserved = rw reserved (sym (mod-eq_of_lt fields.reserved_fits));
      flag = sym is.flag;
      otype = rw otype (sym (mod-eq_of_lt fields.otype_fits));
      ie = sym is.ie;
      t = rw t (sym (mod-eq_of_lt fields.t_fits));
      b = rw b (sym (mod-eq_of_lt fields.b_fits));
      address = sym is.address;
    }

-- the fields that are cut from given numbers have one word
cut-word : (given : WordFields) (one other : Fields) → IsCut given one → IsCut given other → word_of one ≡ word_of other
cut-word given one other is is' =
    λ i. layout_of ((is.perms ∙ sym is'.perms) i) ((is.reserved ∙ sym is'.reserved) i) (bit_of ((is.flag ∙ sym is'.flag) i))
    (0x3ffff - (is.otype ∙ sym is'.otype) i) (1 - bit_of ((is.ie ∙ sym is'.ie) i)) (turned 2 (turned 1 ((is.t ∙ sym is'.t) i)))
    (turned 2 ((is.b ∙ sym is'.b) i)) ((is.address ∙ sym is'.address) i)

-- the word of the fields that are cut from those of a word
pub packed_again : (given : WordFields) (cut : Fields) (high low : ℕ) → high < 2 ^ 64 → low < 2 ^ 64 → IsCut given cut
    → OfFields (number_of_halves high low) (λ fields. IsSame given fields) → word_of cut ≡ number_of_halves high low
packed_again given cut high low high_fits low_fits is_cut is =
    let own = of_word (number_of_halves high low) (omega arith) in
    cut-word given cut own.fields is_cut (same-cut given own.fields (is own.fields own.is_word)) ∙ own.is_word

-- ---- another address

-- a layout with another address, over plain numbers
moved_layout : (p r f o i t b a address high low : ℕ) → a < 2 ^ 64 → low < 2 ^ 64 → layout_of p r f o i t b a ≡ number_of_halves high low
    → layout_of p r f o i t b address ≡ number_of_halves high address
moved_layout p r f o i t b a address high low fits low_fits is = omega arith

-- a word keeps its bounds fields at another address
pub moved_fields : (span : Span) (fields moved : Fields) (high low address : ℕ) → low < 2 ^ 64 → address < 2 ^ 64
    → word_of fields ≡ number_of_halves high low → word_of moved ≡ number_of_halves high address → HasBoundsFields span fields.ie fields.t fields.b
    → HasBoundsFields span moved.ie moved.t moved.b × (moved.address ≡ address)
moved_fields span fields moved high low address low_fits fits is is' bounds =
    let own : Fields = record fields { address = address; address_fits = fits } in
    let has : word_of own ≡ number_of_halves high address =
    moved_layout fields.perms fields.reserved (bit_of fields.flag) (0x3ffff - fields.otype) (1 - bit_of fields.ie)
    (turned 2 (turned 1 fields.t)) (turned 2 fields.b) fields.address address high low fields.address_fits low_fits is in
    let same : own ≡ moved = word_of-same own moved (number_of_halves high address) has is' in
    (subst (λ (f : Fields). HasBoundsFields span f.ie f.t f.b) same bounds, subst (λ (f : Fields). f.address ≡ address) same refl)
