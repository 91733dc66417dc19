-- The parts of a string between two bytes, from the first position of such a byte.
use Rattle.std.proofs.Common.{◌≡◌, ℕ, ◌+◌, ◌-◌, ◌<◌, Bool, true, false, List, [], ◌∷◌, take, drop, length, Option, Some, None, refl, sym, ◌∙◌, ap, subst, arith, if◌then◌else◌, nat_lt, unwrap_or}
use Rattle.std.proofs.Common.{◌==◌, ◌++◌}
use Rattle.std.proofs.lemmas.Bool.{eqb-false, ltb-true, ltb-false, ne_eqb}
use Rattle.std.proofs.lemmas.List.{take_rest}
use Rattle.std.proofs.lemmas.List.Splits.{join_with_byte-slice_split, length-slice_split, slice_split_first, slice_split_none}
use Rattle.std.proofs.lemmas.List.Sums.{fails_before_first}
use Rattle.std.specs.List.{AllByRecursion, join_with_byte, onto_first, slice_split, position, position_or_len}
use Rattle.cc_values.specs.Values.{IsWord, OneJoin}

module _ (p : ℕ → Bool) where
  -- The position that was found, from the test after it.
  found_at : (first len at : ℕ) (is : Bool) → nat_lt first len ≡ is → (if is then Some first else None) ≡ Some at
      → (first < len) × (first ≡ at)
  found_at first len at true less e = (ltb-true first len less, ap (λ (o : Option ℕ). unwrap_or o 0) e)
  found_at first len at false less e = cc

  none_at : (first len : ℕ) (is : Bool) → nat_lt first len ≡ is → (if is then Some first else None) ≡ None
      → nat_lt first len ≡ false
  none_at first len true less e = cc
  none_at first len false less e = less

  -- If such a byte is found, its position is in the string, and the parts are on both sides of it.
  pub split_found : (text : List ℕ) (at : ℕ) → position p text ≡ Some at
      → (at < length text) × (slice_split p text ≡ take at text ∷ slice_split p (take (length text - (at + 1)) (drop (at + 1) text)))
  split_found text at e =
      let first = found_at (position_or_len p text) (length text) at (nat_lt (position_or_len p text) (length text)) refl e in
      let split = slice_split_first p text 0 first.0 in
      let here = subst (λ (n : ℕ). slice_split p text ≡ take n text ∷ slice_split p (drop (n + 1) text)) first.1 split in (
        subst (λ (n : ℕ). n < length text) first.1 first.0,
        rw (take_rest text (at + 1)) here,
      )

  -- If there is no such byte, the string is the only part.
  pub split_whole : (text : List ℕ) → position p text ≡ None → slice_split p text ≡ text ∷ []
  split_whole text e =
      let none = none_at (position_or_len p text) (length text) (nat_lt (position_or_len p text) (length text)) refl e in
      slice_split_none p text (λ k d within. fails_before_first p text k d (omega (arith, ltb-false (position_or_len p text) (length text) none)))

-- ---- the tokens of a line

-- `is_space` holds if the byte is a space.
abbrev is_space : ℕ → Bool
is_space byte = byte == 32

pieces_are_words : (line : List ℕ) → AllByRecursion IsWord (slice_split is_space line)
pieces_are_words [] = (tt, tt)
pieces_are_words (x ∷ line) = by (x == 32) refl (slice_split is_space line) (pieces_are_words line) where
  by : (space : Bool) → (x == 32) ≡ space → (pieces : List (List ℕ)) → AllByRecursion IsWord pieces
      → AllByRecursion IsWord (if space then [] ∷ pieces else onto_first x pieces)
  by true is pieces words = (tt, words)
  by false is [] words = ((eqb-false x 32 is, tt), tt)
  by false is (piece ∷ pieces) words = ((eqb-false x 32 is, words.0), words.1)

word_alone : (word : List ℕ) → IsWord word → slice_split is_space word ≡ word ∷ []
word_alone [] is = refl
word_alone (x ∷ word) is = rw (ne_eqb x 32 is.0) (ap (onto_first x) (word_alone word is.1))

word_then : (word rest : List ℕ) → IsWord word → slice_split is_space (word ++ 32 ∷ rest) ≡ word ∷ slice_split is_space rest
word_then [] rest is = refl
word_then (x ∷ word) rest is = rw (ne_eqb x 32 is.0) (ap (onto_first x) (word_then word rest is.1))

words_again : (words : List (List ℕ)) → 0 < length words → AllByRecursion IsWord words → slice_split is_space (join_with_byte 32 words) ≡ words
words_again [] some each = absurd (omega arith)
words_again (word ∷ []) some each = word_alone word each.0
words_again (word ∷ next ∷ words) some each =
    word_then word (join_with_byte 32 (next ∷ words)) each.0
    ∙ ap (λ (l : List (List ℕ)). word ∷ l) (words_again (next ∷ words) (omega arith) each.1)

pub one_join : (line : List ℕ) → OneJoin line
one_join line = record {
  joined = record {
    whole = sym (join_with_byte-slice_split 32 line);
    some = omega (arith, length-slice_split is_space line);
    each = pieces_are_words line;
  };
  only = λ words is. sym (ap (slice_split is_space) is.whole ∙ words_again words is.some is.each);
}
