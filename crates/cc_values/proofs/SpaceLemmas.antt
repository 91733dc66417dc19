-- No value has a space.
use Rattle.std.proofs.Common.{true≢false, ◌<◌, ◌≡◌, ℕ, ◌+◌, ◌≤◌, Bool, true, false, ◌&&◌, ◌==◌, not, List, [], ◌∷◌, ◌^◌, ◌-◌, length, nat_lt, Option, Some, None, Result, Ok, Err, refl, sym, ◌∙◌}
use Rattle.std.proofs.Common.{ap, arith, if◌then◌else◌, codes}
use Rattle.std.proofs.lemmas.Bool.{eqb-true, lt-ltb}
use Rattle.std.proofs.lemmas.List.Splits.{length-slice_split}
use Rattle.std.proofs.lemmas.Slice.Eq.{bytes_eq-Decides}
use Rattle.std.specs.Char.{is_digit}
use Rattle.std.specs.Int.RustNames.{bit_or}
use Rattle.std.specs.List.{count_by, list_all, onto_first, slice_split}
use Rattle.std.specs.Str.{bytes_eq}
use Rattle.std.specs.Str.Parse.{digits_value}
use Rattle.bitflags.specs.Sets.{Row, find_row, find_name}
use Rattle.hex.specs.Hex.{is_hex_digit}
use Rattle.cc_word.specs.declared.refusal.Refusal.{Refusal}
use Rattle.cc_word.specs.declared.refusal.Refusal.TheVariants.{Syntax}
use Rattle.cc_word.specs.Permissions.{permission_table}
use Rattle.cc_values.specs.Numbers.{numeral_of, number_of, within_limit}
use Rattle.cc_values.specs.Values.{words_of, permissions_in, with_names, flag_in, word_in, index_in, address_in, length_in, single}

-- no byte of the text is a space
abbrev pub is_word : List ℕ → Bool
is_word text = list_all (λ byte. not (byte == 32)) text

-- a test that no space passes fails on a text with one
all-spaced : (p : ℕ → Bool) → p 32 ≡ false → (text : List ℕ) → is_word text ≡ false → list_all p text ≡ false
all-spaced p none [] spaced = cc
all-spaced p none (x ∷ text) spaced = by (x == 32) refl spaced (λ later. all-spaced p none text later) where
  later : (first : Bool) → list_all p text ≡ false → (first && list_all p text) ≡ false
  later true e = e
  later false e = refl

  by : (space : Bool) → (x == 32) ≡ space → (not space && is_word text) ≡ false → (is_word text ≡ false → list_all p text ≡ false)
      → (p x && list_all p text) ≡ false
  by true is spaced rest = rw (eqb-true x 32 is, none) refl
  by false is spaced rest = later (p x) (rest spaced)

-- ---- numbers

none_of : (radix : ℕ) (text : List ℕ) → is_digit 32 radix ≡ false → is_word text ≡ false → numeral_of radix text ≡ None
none_of radix text none spaced = rw (all-spaced (λ digit. is_digit digit radix) none text spaced) (by (nat_lt 0 (length text))) where
  by : (some : Bool) → (if some && false then Some (digits_value radix text) else None) ≡ None
  by true = refl
  by false = refl

no_number : (text : List ℕ) → is_word text ≡ false → number_of text ≡ None
no_number [] spaced = cc
no_number (x ∷ []) spaced = by (bytes_eq (x ∷ []) (48 ∷ 120 ∷ [])) refl where
  by : (prefixed : Bool) → bytes_eq (x ∷ []) (48 ∷ 120 ∷ []) ≡ prefixed → (if prefixed then numeral_of 16 [] else numeral_of 10 (x ∷ [])) ≡ None
  by true is = absurd (omega (arith, ap length ((bytes_eq-Decides (x ∷ []) (48 ∷ 120 ∷ [])).0 is)))
  by false is = none_of 10 (x ∷ []) refl spaced
no_number (x ∷ y ∷ text) spaced = by (bytes_eq (x ∷ y ∷ []) (48 ∷ 120 ∷ [])) refl where
  by : (prefixed : Bool) → bytes_eq (x ∷ y ∷ []) (48 ∷ 120 ∷ []) ≡ prefixed
      → (if prefixed then numeral_of 16 text else numeral_of 10 (x ∷ y ∷ text)) ≡ None
  by true is =
      let same : x ∷ y ∷ [] ≡ 48 ∷ 120 ∷ [] = (bytes_eq-Decides (x ∷ y ∷ []) (48 ∷ 120 ∷ [])).0 is in
      let first : x ≡ 48 = cc in
      let second : y ≡ 120 = cc in
      none_of 16 text refl (rw (first, second) at spaced)
  by false is = none_of 10 (x ∷ y ∷ text) refl spaced

pub limited : (limit : ℕ) (text : List ℕ) → is_word text ≡ false → within_limit limit (number_of text) ≡ Err Syntax
limited limit text spaced = rw (no_number text spaced) refl

-- ---- the other values

no_flag : (text : List ℕ) → is_word text ≡ false → flag_in text ≡ Err Syntax
no_flag text spaced = by (bytes_eq text (codes "0")) refl (bytes_eq text (codes "1")) refl where
  by : (zero : Bool) → bytes_eq text (codes "0") ≡ zero → (one : Bool) → bytes_eq text (codes "1") ≡ one
      → (if zero then Ok false else if one then Ok true else Err Syntax) ≡ Err Syntax
  by true is one other = absurd (let same = (bytes_eq-Decides text (codes "0")).0 is in let word : is_word text ≡ true = ap is_word same in cc)
  by false is true other = absurd (let same = (bytes_eq-Decides text (codes "1")).0 other in let word : is_word text ≡ true = ap is_word same in cc)
  by false is false other = refl

no_word : (text : List ℕ) → is_word text ≡ false → word_in text ≡ Err Syntax
no_word text spaced = rw (all-spaced is_hex_digit refl text spaced) (by (length text == 32)) where
  by : (sized : Bool) → (if sized && false then Ok (digits_value 16 text) else Err Syntax) ≡ Err Syntax
  by true = refl
  by false = refl

-- ---- names of permissions

pub both_true : (a b : Bool) → (a && b) ≡ true → (a ≡ true) × (b ≡ true)
both_true true true e = (refl, refl)
both_true true false e = cc
both_true false b e = cc

no_row : (rows : List Row) (name : List ℕ) → list_all (λ row. is_word row.0) rows ≡ true → is_word name ≡ false → find_row rows name ≡ None
unfolding find_row
no_row [] name all spaced = refl
no_row (row ∷ rows) name all spaced =
    let named = both_true (is_word row.0) (list_all (λ other. is_word other.0) rows) all in
    by (bytes_eq row.0 name) refl named.0 (no_row rows name named.1 spaced)
  where
    by : (same : Bool) → bytes_eq row.0 name ≡ same → is_word row.0 ≡ true → find_row rows name ≡ None
        → (if same then Some row.1 else find_row rows name) ≡ None
    by true e named later =
        let word : is_word row.0 ≡ is_word name = ap is_word ((bytes_eq-Decides row.0 name).0 e) in
        absurd (true≢false (sym named ∙ word ∙ spaced))
    by false e named later = later

no_name : (name : List ℕ) → is_word name ≡ false → find_name permission_table name ≡ None
no_name name spaced = by (length name == 0) where
  by : (empty : Bool) → (if empty then None else find_row permission_table name) ≡ None
  by true = refl
  by false = no_row permission_table name refl spaced

no_names : (names : List (List ℕ)) (bits : ℕ) → list_all is_word names ≡ false → with_names bits names ≡ None
no_names [] bits spaced = cc
no_names (name ∷ names) bits spaced = by (is_word name) refl spaced (find_name permission_table name) refl (λ more later. no_names names more later) where
  by : (word : Bool) → is_word name ≡ word → (word && list_all is_word names) ≡ false → (found : Option ℕ) → find_name permission_table name ≡ found
      → ((more : ℕ) → list_all is_word names ≡ false → with_names more names ≡ None) → with_names bits (name ∷ names) ≡ None
  by false is spaced found e rest = rw (no_name name is) refl
  by true is spaced None e rest = rw e refl
  by true is spaced (Some named) e rest = rw e (rest (bit_or bits named) spaced)

-- where a text has a space, one of its pieces between `+` has one
pieces-spaced : (text : List ℕ) → is_word text ≡ false → list_all is_word (slice_split (λ byte. byte == 43) text) ≡ false
pieces-spaced [] spaced = cc
pieces-spaced (x ∷ text) spaced = by (x == 43) refl (x == 32) refl spaced (slice_split (λ byte. byte == 43) text) (pieces-spaced text) where
  by : (joint : Bool) → (x == 43) ≡ joint → (space : Bool) → (x == 32) ≡ space → (not space && is_word text) ≡ false
      → (pieces : List (List ℕ)) → (is_word text ≡ false → list_all is_word pieces ≡ false)
      → list_all is_word (if joint then [] ∷ pieces else onto_first x pieces) ≡ false
  by true is true at spaced pieces later = absurd (omega (arith, eqb-true x 43 is, eqb-true x 32 at))
  by true is false at spaced pieces later = later spaced
  by false is true at spaced [] later = rw at refl
  by false is true at spaced (piece ∷ pieces) later = rw at refl
  by false is false at spaced [] later = rw at (later spaced)
  by false is false at spaced (piece ∷ pieces) later = rw at (later spaced)

no_permissions : (text : List ℕ) → is_word text ≡ false → permissions_in text ≡ Err Syntax
no_permissions text spaced = by (bytes_eq text (codes "-")) refl where
  by : (none : Bool) → bytes_eq text (codes "-") ≡ none → permissions_in text ≡ Err Syntax
  by true is = absurd (let word : is_word text ≡ true = ap is_word ((bytes_eq-Decides text (codes "-")).0 is) in cc)
  by false is = rw (is, no_names (slice_split (λ byte. byte == 43) text) 0 (pieces-spaced text spaced)) refl

-- ---- words

one_word : (text : List ℕ) → is_word text ≡ true → words_of text ≡ text ∷ []
one_word [] is = refl
one_word (x ∷ text) is = by (x == 32) is (λ later. one_word text later) where
  by : (space : Bool) → (not space && is_word text) ≡ true → (is_word text ≡ true → words_of text ≡ text ∷ []) → (if space then [] ∷ words_of text else onto_first x (words_of text)) ≡ (x ∷ text) ∷ []
  by true is rest = cc
  by false is rest = ap (onto_first x) (rest is)

many : (text : List ℕ) → is_word text ≡ false → 2 ≤ length (words_of text)
many [] spaced = cc
many (x ∷ text) spaced = by (x == 32) spaced (words_of text) (many text) (length-slice_split (λ byte. byte == 32) text) where
  by : (space : Bool) → (not space && is_word text) ≡ false → (words : List (List ℕ)) → (is_word text ≡ false → 2 ≤ length words)
      → length words ≡ count_by (λ byte. byte == 32) text + 1 → 2 ≤ length (if space then [] ∷ words else onto_first x words)
  by true spaced words later sized = omega (arith, sized)
  by false spaced [] later sized = absurd (omega (arith, sized))
  by false spaced (word ∷ words) later sized = later spaced

pub some_words : (text : List ℕ) → 0 < length (words_of text)
some_words text = omega (arith, length-slice_split (λ byte. byte == 32) text)

-- ---- one value

-- If no value of a kind has a space, a string is one token that parses as the value, or has the
-- error `Syntax`.
pub single_of : {A : Type 0} (value_in : List ℕ → Result A Refusal) (text : List ℕ) → (is_word text ≡ false → value_in text ≡ Err Syntax)
    → value_in text ≡ single value_in (words_of text)
single_of value_in text spaced = by (is_word text) refl where
  fewer : (words : List (List ℕ)) → 2 ≤ length words → Err Syntax ≡ single value_in words
  fewer [] h = absurd (omega arith)
  fewer (a ∷ []) h = absurd (omega arith)
  fewer (a ∷ b ∷ words) h = refl

  by : (word : Bool) → is_word text ≡ word → value_in text ≡ single value_in (words_of text)
  by true is = rw (one_word text is) refl
  by false is = spaced is ∙ fewer (words_of text) (many text is)

pub index_in_single : (text : List ℕ) → index_in text ≡ single index_in (words_of text)
index_in_single text = single_of index_in text (limited (2 ^ 32 - 1) text)

pub address_in_single : (text : List ℕ) → address_in text ≡ single address_in (words_of text)
address_in_single text = single_of address_in text (limited (2 ^ 64 - 1) text)

pub length_in_single : (text : List ℕ) → length_in text ≡ single length_in (words_of text)
length_in_single text = single_of length_in text (limited (2 ^ 64) text)

pub flag_in_single : (text : List ℕ) → flag_in text ≡ single flag_in (words_of text)
flag_in_single text = single_of flag_in text (no_flag text)

pub word_in_single : (text : List ℕ) → word_in text ≡ single word_in (words_of text)
word_in_single text = single_of word_in text (no_word text)

pub permissions_in_single : (text : List ℕ) → permissions_in text ≡ single permissions_in (words_of text)
permissions_in_single text = single_of permissions_in text (no_permissions text)

-- ---- decimal digits

decimal_of : (word : List ℕ) → 0 < length word → list_all (λ digit. is_digit digit 10) word ≡ true → numeral_of 10 word ≡ Some (digits_value 10 word)
decimal_of word some is = rw (lt-ltb 0 (length word) some, is) refl

pub spelled : (word : List ℕ) → 0 < length word → list_all (λ digit. is_digit digit 10) word ≡ true → number_of word ≡ Some (digits_value 10 word)
spelled [] some is = absurd (omega (arith, some))
spelled (x ∷ []) some is = by (bytes_eq (x ∷ []) (48 ∷ 120 ∷ [])) refl where
  by : (prefixed : Bool) → bytes_eq (x ∷ []) (48 ∷ 120 ∷ []) ≡ prefixed
      → (if prefixed then numeral_of 16 [] else numeral_of 10 (x ∷ [])) ≡ Some (digits_value 10 (x ∷ []))
  by true e = absurd (omega (arith, ap length ((bytes_eq-Decides (x ∷ []) (48 ∷ 120 ∷ [])).0 e)))
  by false e = decimal_of (x ∷ []) some is
spelled (x ∷ y ∷ word) some is = by (bytes_eq (x ∷ y ∷ []) (48 ∷ 120 ∷ [])) refl where
  by : (prefixed : Bool) → bytes_eq (x ∷ y ∷ []) (48 ∷ 120 ∷ []) ≡ prefixed
      → (if prefixed then numeral_of 16 word else numeral_of 10 (x ∷ y ∷ word)) ≡ Some (digits_value 10 (x ∷ y ∷ word))
  by true e =
      let same : x ∷ y ∷ [] ≡ 48 ∷ 120 ∷ [] = (bytes_eq-Decides (x ∷ y ∷ []) (48 ∷ 120 ∷ [])).0 e in
      let second : y ≡ 120 = cc in
      let rest = (both_true (is_digit x 10) (list_all (λ digit. is_digit digit 10) (y ∷ word)) is).1 in
      let here = (both_true (is_digit y 10) (list_all (λ digit. is_digit digit 10) word) rest).0 in
      absurd (true≢false (sym here ∙ ap (λ (byte : ℕ). is_digit byte 10) second))
  by false e = decimal_of (x ∷ y ∷ word) some is
