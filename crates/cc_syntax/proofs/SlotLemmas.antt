-- The values after a name: an alignment, or the number of a slot and one more value.
use Rattle.std.proofs.Common.{true≢false, ◌<◌, ◌++◌, take, drop, get_or, length-take, ◌≡◌, ℕ, ◌+◌, ◌≤◌, Bool, true, false, ◌==◌, List, [], ◌∷◌, ◌^◌, ◌-◌, length, Some, Result, Ok, Err, refl, sym}
use Rattle.std.proofs.Common.{◌∙◌, ap, arith, if◌then◌else◌, codes}
use Rattle.std.proofs.lemmas.Bool.{eqb-true, le-leb, lt-leb}
use Rattle.std.proofs.lemmas.List.{take-append-drop, drop_more, take_rest}
use Rattle.std.proofs.lemmas.Slice.Eq.{bytes_eq-Decides}
use Rattle.std.specs.Char.{is_digit}
use Rattle.std.specs.List.{list_all, onto_first}
use Rattle.std.specs.Str.{bytes_eq}
use Rattle.std.specs.Str.Parse.{digits_value}
use Rattle.cc_word.specs.declared.refusal.Refusal.{Refusal}
use Rattle.cc_word.specs.declared.refusal.Refusal.TheVariants.{OutOfRange, Syntax}
use Rattle.cc_bounds.specs.declared.align.Align.TheVariants.{One, Sixteen}
use Rattle.cc_values.specs.Values.{words_of, index_in, both, single}
use Rattle.cc_values.proofs.SpaceLemmas.{is_word, both_true, some_words, single_of, spelled}
use Rattle.cc_syntax.specs.Commands.{align_in, slot_and, slot_and_perhaps, BeginsWithNumber, BeginsWithSlot}

no_align : (text : List ℕ) → is_word text ≡ false → align_in text ≡ Err Syntax
no_align text spaced = by (bytes_eq text (codes "1")) refl (bytes_eq text (codes "16")) refl where
  by : (first : Bool) → bytes_eq text (codes "1") ≡ first → (second : Bool) → bytes_eq text (codes "16") ≡ second
      → (if first then Ok One else if second then Ok Sixteen else Err Syntax) ≡ Err Syntax
  by true is second other = absurd (let same = (bytes_eq-Decides text (codes "1")).0 is in let word : is_word text ≡ true = ap is_word same in cc)
  by false is true other = absurd (let same = (bytes_eq-Decides text (codes "16")).0 other in let word : is_word text ≡ true = ap is_word same in cc)
  by false is false other = refl

pub align_in_single : (text : List ℕ) → align_in text ≡ single align_in (words_of text)
align_in_single text = single_of align_in text (no_align text)

-- ---- a slot and a value

both-syntax : {A B : Type 0} (first : Result A Refusal) → both {A = A} {B = B} first (Err Syntax) ≡ Err Syntax
both-syntax (Ok first) = refl
both-syntax (Err Syntax) = refl
both-syntax (Err fault) = refl

slot_first : {A : Type 0} (value_in : List ℕ → Result A Refusal) (word : List ℕ) (words : List (List ℕ))
    → both (index_in word) (single value_in words) ≡ slot_and value_in (word ∷ words)
slot_first value_in word [] = both-syntax (index_in word)
slot_first value_in word (value ∷ []) = refl
slot_first value_in word (value ∷ other ∷ words) = both-syntax (index_in word)

pub slot_then : {A : Type 0} (value_in : List ℕ → Result A Refusal) (text : List ℕ) (slot : Result ℕ Refusal) (rest : List ℕ)
    → BeginsWithSlot text slot rest → both slot (single value_in (words_of rest)) ≡ slot_and value_in (words_of text)
slot_then value_in text slot rest begins =
    ap (λ (number : Result ℕ Refusal). both number (single value_in (words_of rest))) begins.slot_is
    ∙ slot_first value_in begins.word (words_of rest)
    ∙ ap (slot_and value_in) (sym begins.whole)

perhaps_more : {A : Type 0} (usual : A) (value_in : List ℕ → Result A Refusal) (word : List ℕ) (words : List (List ℕ)) → 0 < length words
    → slot_and value_in (word ∷ words) ≡ slot_and_perhaps usual value_in (word ∷ words)
perhaps_more usual value_in word [] some = absurd (omega arith)
perhaps_more usual value_in word (value ∷ words) some = refl

pub slot_then_perhaps : {A : Type 0} (usual : A) (value_in : List ℕ → Result A Refusal) (text : List ℕ) (slot : Result ℕ Refusal) (rest : List ℕ)
    → BeginsWithSlot text slot rest → both slot (single value_in (words_of rest)) ≡ slot_and_perhaps usual value_in (words_of text)
slot_then_perhaps usual value_in text slot rest begins =
    ap (λ (number : Result ℕ Refusal). both number (single value_in (words_of rest))) begins.slot_is
    ∙ slot_first value_in begins.word (words_of rest)
    ∙ perhaps_more usual value_in begins.word (words_of rest) (some_words rest)
    ∙ ap (slot_and_perhaps usual value_in) (sym begins.whole)

-- ---- a number that comes first

digits_then : (word rest : List ℕ) → list_all (λ digit. is_digit digit 10) word ≡ true → words_of (word ++ 32 ∷ rest) ≡ word ∷ words_of rest
digits_then [] rest is = refl
digits_then (x ∷ word) rest is = by (both_true (is_digit x 10) (list_all (λ digit. is_digit digit 10) word) is) (λ later. digits_then word rest later) (x == 32) refl where
  by : (is_digit x 10 ≡ true) × (list_all (λ digit. is_digit digit 10) word ≡ true)
      → (list_all (λ digit. is_digit digit 10) word ≡ true → words_of (word ++ 32 ∷ rest) ≡ word ∷ words_of rest)
      → (space : Bool) → (x == 32) ≡ space
      → (if space then [] ∷ words_of (word ++ 32 ∷ rest) else onto_first x (words_of (word ++ 32 ∷ rest))) ≡ (x ∷ word) ∷ words_of rest
  by parts later true at = absurd (true≢false (sym parts.0 ∙ ap (λ (byte : ℕ). is_digit byte 10) (eqb-true x 32 at)))
  by parts later false at = ap (onto_first x) (later parts.1)

-- decimal digits, and then a space
pub number_begins : (text : List ℕ) (at number : ℕ) → at < length text → 0 < at → get_or text at 0 ≡ 32
    → list_all (λ digit. is_digit digit 10) (take at text) ≡ true → number ≡ digits_value 10 (take at text)
    → BeginsWithNumber text number (take (length text - (at + 1)) (drop (at + 1) text))
number_begins text at number within some space digits is =
    let sized : length (take at text) ≡ at = omega (arith, length-take at text) in
    let parts : text ≡ take at text ++ 32 ∷ drop (at + 1) text =
    sym (take-append-drop at text) ∙ ap (λ (l : List ℕ). take at text ++ l) (drop_more text at 0 within ∙ ap (λ (b : ℕ). b ∷ drop (at + 1) text) space) in
    record {
      word = take at text;
      whole = rw (take_rest text (at + 1)) (ap words_of parts ∙ digits_then (take at text) (drop (at + 1) text) digits);
      spelled = spelled (take at text) (omega (arith, sized)) digits ∙ ap Some (sym is);
    }

-- A number that comes first and is over the limit of a slot.
pub number_over : {A : Type 0} (value_in : List ℕ → Result A Refusal) (text : List ℕ) (number : ℕ) (rest : List ℕ)
    → BeginsWithNumber text number rest → 2 ^ 32 - 1 < number → both (Err OutOfRange) (single value_in (words_of rest)) ≡ slot_and value_in (words_of text)
number_over value_in text number rest begins over =
    slot_then value_in text (Err OutOfRange) rest
    (record { word = begins.word; whole = begins.whole; slot_is = rw (begins.spelled, lt-leb number (2 ^ 32 - 1) over) refl })

-- A number that comes first and is one of a slot.
pub number_then : {A : Type 0} (value_in : List ℕ → Result A Refusal) (text : List ℕ) (number : ℕ) (rest : List ℕ)
    → BeginsWithNumber text number rest → number ≤ 2 ^ 32 - 1 → both (Ok number) (single value_in (words_of rest)) ≡ slot_and value_in (words_of text)
number_then value_in text number rest begins fits =
    slot_then value_in text (Ok number) rest
    (record { word = begins.word; whole = begins.whole; slot_is = rw (begins.spelled, le-leb number (2 ^ 32 - 1) fits) refl })
