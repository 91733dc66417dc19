-- Blocks of 16 bytes, and the bytes after the last block.
use Rattle.std.specs.Prelude.{◌≡◌, ◌<◌, ℕ, List, [], ◌∷◌, ◌++◌, ◌==◌, length, if◌then◌else◌}
use Rattle.std.specs.List.{AllByRecursion}

-- The blocks of 16 bytes that end in these bytes, if the first block has begun with `begun`.
abbrev pub blocks_from : (begun bytes : List ℕ) → List (List ℕ)
blocks_from begun [] = []
blocks_from begun (byte ∷ bytes) =
    if length begun == 15 then (begun ++ byte ∷ []) ∷ blocks_from [] bytes else blocks_from (begun ++ byte ∷ []) bytes

-- The bytes after the last block, if the first block has begun with `begun`.
abbrev pub block_rest_from : (begun bytes : List ℕ) → List ℕ
block_rest_from begun [] = begun
block_rest_from begun (byte ∷ bytes) =
    if length begun == 15 then block_rest_from [] bytes else block_rest_from (begun ++ byte ∷ []) bytes

-- The bytes of all blocks in order.
abbrev pub blocks_text : List (List ℕ) → List ℕ
blocks_text [] = []
blocks_text (block ∷ blocks) = block ++ blocks_text blocks

-- `Cuts` holds if the bytes are these blocks, of 16 bytes each, and then `rest`, of fewer.
pub record Cuts (bytes : List ℕ) (blocks : List (List ℕ)) (rest : List ℕ) : Type 0 where
  pub whole : bytes ≡ blocks_text blocks ++ rest
  pub each : AllByRecursion (λ block. length block ≡ 16) blocks
  pub last : length rest < 16

-- `OneCut` holds if `blocks_from` and `block_rest_from` are the only way to cut the bytes into
-- blocks and trailing bytes.
pub record OneCut (bytes : List ℕ) : Type 0 where
  pub cuts : Cuts bytes (blocks_from [] bytes) (block_rest_from [] bytes)
  pub only : (blocks : List (List ℕ)) (rest : List ℕ) → Cuts bytes blocks rest
      → (blocks ≡ blocks_from [] bytes) × (rest ≡ block_rest_from [] bytes)
