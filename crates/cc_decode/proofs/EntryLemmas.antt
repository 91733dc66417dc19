-- The digits of a line that is a word.
use Rattle.std.proofs.Common.{◌≡◌, ◌≢◌, ◌≤◌, ◌+◌, ℕ, Bool, true, false, List, [], ◌∷◌, ◌++◌, codes, length, if◌then◌else◌, refl, ap, subst, arith}
use Rattle.std.specs.Str.{bytes_eq}
use Rattle.std.specs.List.{AllPass}
use Rattle.std.proofs.lemmas.List.Elements.{All-head, All-tail}
use Rattle.std.proofs.lemmas.Slice.Eq.{bytes_eq-Decides}
use Rattle.hex.specs.Hex.{is_hex_digit}
use Rattle.cc_word.specs.WordText.{IsWordText}
use Rattle.cc_decode.specs.Input.{digits_in}

-- a line has at most two bytes before its digits
pub digits_short : (line : List ℕ) → length line ≤ length (digits_in line) + 2
digits_short [] = omega arith
digits_short (a ∷ []) = by (bytes_eq (a ∷ []) (codes "0x")) where
  by : (b : Bool) → 1 ≤ length (if b then [] else a ∷ []) + 2
  by true = omega arith
  by false = omega arith
digits_short (a ∷ (c ∷ rest)) = by (bytes_eq (a ∷ c ∷ []) (codes "0x")) where
  by : (b : Bool) → length (a ∷ c ∷ rest) ≤ length (if b then rest else a ∷ c ∷ rest) + 2
  by true = omega arith
  by false = omega arith

-- a line that does not begin with `0x`
pub digits_all : (line : List ℕ) → ((rest : List ℕ) → line ≢ codes "0x" ++ rest) → digits_in line ≡ line
digits_all [] other = refl
digits_all (a ∷ []) other = by (bytes_eq (a ∷ []) (codes "0x")) ((bytes_eq-Decides (a ∷ []) (codes "0x")).0) where
  by : (b : Bool) → (b ≡ true → a ∷ [] ≡ codes "0x") → (if b then [] else a ∷ []) ≡ a ∷ []
  by true h = cc (h refl)
  by false h = refl
digits_all (a ∷ (c ∷ rest)) other = by (bytes_eq (a ∷ c ∷ []) (codes "0x")) ((bytes_eq-Decides (a ∷ c ∷ []) (codes "0x")).0) where
  by : (b : Bool) → (b ≡ true → a ∷ c ∷ [] ≡ codes "0x") → (if b then rest else a ∷ c ∷ rest) ≡ a ∷ c ∷ rest
  by true h = absurd (other rest (ap (λ (l : List ℕ). l ++ rest) (h refl)))
  by false h = refl

-- digits alone do not begin with `0x`
pub digits_alone : (line : List ℕ) → IsWordText line → digits_in line ≡ line
digits_alone line word = digits_all line (λ rest is. absurd (second rest (subst (λ (l : List ℕ). AllPass is_hex_digit l) is word.1))) where
  second : (rest : List ℕ) → AllPass is_hex_digit (codes "0x" ++ rest) → ⊥
  second rest all =
      let tail = All-tail (λ (c : ℕ). is_hex_digit c ≡ true) 48 (120 ∷ rest) all in
      let x : is_hex_digit 120 ≡ true = All-head (λ (c : ℕ). is_hex_digit c ≡ true) 120 rest tail in
      cc x
