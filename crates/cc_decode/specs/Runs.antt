-- The way to cut a text at its word characters, and its laws. They are in `specs`, since an impl
-- cites them.
use Rattle.std.proofs.Common.{◌≡◌, ◌+◌, ◌<◌, ℕ, List, [], ◌∷◌, ◌++◌, length, refl, ap, not, ◌||◌, ◌==◌, Bool, true, false, if◌then◌else◌}
use Rattle.cc_io.specs.Frames.{Frame, IsFrame}
use Rattle.cc_decode.specs.Annotate.{is_word_byte, IsRun}

-- Whether an entry that has begun with `begun` ends with the byte: it is not a word character, or
-- the entry has 64 bytes with it.
abbrev pub ends_entry : (begun : List ℕ) (byte : ℕ) → Bool
ends_entry begun byte = not (is_word_byte byte) || length begun == 63

-- The entries that end in `text`, if the first has begun with `begun`.
abbrev pub runs_from : (begun text : List ℕ) → List (List ℕ)
runs_from begun [] = []
runs_from begun (byte ∷ text) =
    if ends_entry begun byte then (begun ++ byte ∷ []) ∷ runs_from [] text else runs_from (begun ++ byte ∷ []) text

-- The bytes after the last entry, if the first entry has begun with `begun`.
abbrev pub run_rest_from : (begun text : List ℕ) → List ℕ
run_rest_from begun [] = begun
run_rest_from begun (byte ∷ text) =
    if ends_entry begun byte then run_rest_from [] text else run_rest_from (begun ++ byte ∷ []) text

-- Runs of word characters, each with the byte after it, or 64 word characters.
abbrev pub runs : Frame
runs = record { entries = runs_from; left = run_rest_from }

-- The entries of two parts are the entries of the first, and then those of the second after the
-- bytes left.
runs_further : (begun xs ys : List ℕ) → runs_from begun (xs ++ ys) ≡ runs_from begun xs ++ runs_from (run_rest_from begun xs) ys
runs_further begun [] ys = refl
runs_further begun (x ∷ xs) ys = go (ends_entry begun x) (runs_further [] xs ys) (runs_further (begun ++ x ∷ []) xs ys) where
  go : (b : Bool)
      → runs_from [] (xs ++ ys) ≡ runs_from [] xs ++ runs_from (run_rest_from [] xs) ys
      → runs_from (begun ++ x ∷ []) (xs ++ ys) ≡ runs_from (begun ++ x ∷ []) xs ++ runs_from (run_rest_from (begun ++ x ∷ []) xs) ys
      → (if b then (begun ++ x ∷ []) ∷ runs_from [] (xs ++ ys) else runs_from (begun ++ x ∷ []) (xs ++ ys))
      ≡ (if b then (begun ++ x ∷ []) ∷ runs_from [] xs else runs_from (begun ++ x ∷ []) xs)
      ++ runs_from (if b then run_rest_from [] xs else run_rest_from (begun ++ x ∷ []) xs) ys
  go true p q = ap (λ (l : List (List ℕ)). (begun ++ x ∷ []) ∷ l) p
  go false p q = q

-- Two parts leave the bytes that the second leaves after the bytes left by the first.
run_rest_further : (begun xs ys : List ℕ) → run_rest_from begun (xs ++ ys) ≡ run_rest_from (run_rest_from begun xs) ys
run_rest_further begun [] ys = refl
run_rest_further begun (x ∷ xs) ys = go (ends_entry begun x) (run_rest_further [] xs ys) (run_rest_further (begun ++ x ∷ []) xs ys) where
  go : (b : Bool)
      → run_rest_from [] (xs ++ ys) ≡ run_rest_from (run_rest_from [] xs) ys
      → run_rest_from (begun ++ x ∷ []) (xs ++ ys) ≡ run_rest_from (run_rest_from (begun ++ x ∷ []) xs) ys
      → (if b then run_rest_from [] (xs ++ ys) else run_rest_from (begun ++ x ∷ []) (xs ++ ys))
      ≡ run_rest_from (if b then run_rest_from [] xs else run_rest_from (begun ++ x ∷ []) xs) ys
  go true p q = p
  go false p q = q

-- `runs` satisfies `IsFrame`.
pub runs_frame : IsFrame runs
runs_frame = record { none = λ begun. refl; all = λ begun. refl; entries_further = runs_further; left_further = run_rest_further }

-- `EndsRun` holds if `end` ends an entry whose first `begun` word characters came earlier: word
-- characters, and then a byte that is not one, or the 64th byte.
pub record EndsRun (begun : ℕ) (end : List ℕ) : Type 0 where
  pub run : List ℕ
  pub byte : ℕ
  pub end_is : end ≡ run ++ byte ∷ []
  pub is_run : IsRun run
  pub fits : begun + length run < 64
  pub ends : (not (is_word_byte byte) || begun + length run == 63) ≡ true
