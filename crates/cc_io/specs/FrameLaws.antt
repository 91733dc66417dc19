-- The laws of the two framings. They are in `specs`, since an impl cites them.
use Rattle.std.proofs.Common.{◌≡◌, ℕ, List, [], ◌∷◌, ◌++◌, length, refl, ap, ◌==◌, Bool, true, false, if◌then◌else◌}
use Rattle.cc_io.specs.Lines.{lines_from, rest_from}
use Rattle.cc_io.specs.Blocks.{blocks_from, block_rest_from}
use Rattle.cc_io.specs.Frames.{IsFrame, lines, blocks}

-- The lines of two parts are the lines of the first, and then those of the second after the bytes
-- left.
pub lines_further : (begun xs ys : List ℕ) → lines_from begun (xs ++ ys) ≡ lines_from begun xs ++ lines_from (rest_from begun xs) ys
lines_further begun [] ys = refl
lines_further begun (x ∷ xs) ys = by_feed (x == 10) (lines_further [] xs ys) (lines_further (begun ++ x ∷ []) xs ys) where
  by_feed : (b : Bool)
      → lines_from [] (xs ++ ys) ≡ lines_from [] xs ++ lines_from (rest_from [] xs) ys
      → lines_from (begun ++ x ∷ []) (xs ++ ys) ≡ lines_from (begun ++ x ∷ []) xs ++ lines_from (rest_from (begun ++ x ∷ []) xs) ys
      → (if b then begun ∷ lines_from [] (xs ++ ys) else lines_from (begun ++ x ∷ []) (xs ++ ys))
      ≡ (if b then begun ∷ lines_from [] xs else lines_from (begun ++ x ∷ []) xs) ++ lines_from (if b then rest_from [] xs else rest_from (begun ++ x ∷ []) xs) ys
  by_feed true p q = ap (λ (l : List (List ℕ)). begun ∷ l) p
  by_feed false p q = q

-- Two parts leave the bytes that the second leaves after the bytes left by the first.
pub rest_further : (begun xs ys : List ℕ) → rest_from begun (xs ++ ys) ≡ rest_from (rest_from begun xs) ys
rest_further begun [] ys = refl
rest_further begun (x ∷ xs) ys = by_feed (x == 10) (rest_further [] xs ys) (rest_further (begun ++ x ∷ []) xs ys) where
  by_feed : (b : Bool)
      → rest_from [] (xs ++ ys) ≡ rest_from (rest_from [] xs) ys
      → rest_from (begun ++ x ∷ []) (xs ++ ys) ≡ rest_from (rest_from (begun ++ x ∷ []) xs) ys
      → (if b then rest_from [] (xs ++ ys) else rest_from (begun ++ x ∷ []) (xs ++ ys))
      ≡ rest_from (if b then rest_from [] xs else rest_from (begun ++ x ∷ []) xs) ys
  by_feed true p q = p
  by_feed false p q = q

-- The blocks of two parts are the blocks of the first, and then those of the second after the bytes
-- left.
blocks_further : (begun xs ys : List ℕ) → blocks_from begun (xs ++ ys) ≡ blocks_from begun xs ++ blocks_from (block_rest_from begun xs) ys
blocks_further begun [] ys = refl
blocks_further begun (x ∷ xs) ys = go (length begun == 15) (blocks_further [] xs ys) (blocks_further (begun ++ x ∷ []) xs ys) where
  go : (b : Bool)
      → blocks_from [] (xs ++ ys) ≡ blocks_from [] xs ++ blocks_from (block_rest_from [] xs) ys
      → blocks_from (begun ++ x ∷ []) (xs ++ ys) ≡ blocks_from (begun ++ x ∷ []) xs ++ blocks_from (block_rest_from (begun ++ x ∷ []) xs) ys
      → (if b then (begun ++ x ∷ []) ∷ blocks_from [] (xs ++ ys) else blocks_from (begun ++ x ∷ []) (xs ++ ys))
      ≡ (if b then (begun ++ x ∷ []) ∷ blocks_from [] xs else blocks_from (begun ++ x ∷ []) xs)
      ++ blocks_from (if b then block_rest_from [] xs else block_rest_from (begun ++ x ∷ []) xs) ys
  go true p q = ap (λ (l : List (List ℕ)). (begun ++ x ∷ []) ∷ l) p
  go false p q = q

-- Two parts leave the bytes that the second leaves after the bytes left by the first.
block_rest_further : (begun xs ys : List ℕ) → block_rest_from begun (xs ++ ys) ≡ block_rest_from (block_rest_from begun xs) ys
block_rest_further begun [] ys = refl
block_rest_further begun (x ∷ xs) ys = go (length begun == 15) (block_rest_further [] xs ys) (block_rest_further (begun ++ x ∷ []) xs ys) where
  go : (b : Bool)
      → block_rest_from [] (xs ++ ys) ≡ block_rest_from (block_rest_from [] xs) ys
      → block_rest_from (begun ++ x ∷ []) (xs ++ ys) ≡ block_rest_from (block_rest_from (begun ++ x ∷ []) xs) ys
      → (if b then block_rest_from [] (xs ++ ys) else block_rest_from (begun ++ x ∷ []) (xs ++ ys))
      ≡ block_rest_from (if b then block_rest_from [] xs else block_rest_from (begun ++ x ∷ []) xs) ys
  go true p q = p
  go false p q = q

-- `lines` satisfies `IsFrame`.
pub lines_frame : IsFrame lines
lines_frame = record { none = λ begun. refl; all = λ begun. refl; entries_further = lines_further; left_further = rest_further }

-- `blocks` satisfies `IsFrame`.
pub blocks_frame : IsFrame blocks
blocks_frame = record { none = λ begun. refl; all = λ begun. refl; entries_further = blocks_further; left_further = block_rest_further }
