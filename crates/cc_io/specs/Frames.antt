-- The two ways to cut an input into entries.
use Rattle.std.specs.Prelude.{◌≡◌, ℕ, List, [], ◌∷◌, ◌++◌}
use Rattle.cc_io.specs.Lines.{lines_from, rest_from}
use Rattle.cc_io.specs.Blocks.{blocks_from, block_rest_from}

-- A way to cut `text`, whose first entry has begun with `begun`: the entries that end in it, and
-- the bytes after the last of them.
pub record Frame : Type 0 where
  pub entries : (begun text : List ℕ) → List (List ℕ)
  pub left : (begun text : List ℕ) → List ℕ

-- Lines, each ended by a line feed.
abbrev pub lines : Frame
lines = record { entries = lines_from; left = rest_from }

-- Blocks of 16 bytes.
abbrev pub blocks : Frame
blocks = record { entries = blocks_from; left = block_rest_from }

-- `IsFrame` holds if cutting two parts of an input one after the other is cutting the whole.
pub record IsFrame (frame : Frame) : Type 0 where
  pub none : (begun : List ℕ) → frame.entries begun [] ≡ []
  pub all : (begun : List ℕ) → frame.left begun [] ≡ begun
  pub entries_further : (begun xs ys : List ℕ) → frame.entries begun (xs ++ ys) ≡ frame.entries begun xs ++ frame.entries (frame.left begun xs) ys
  pub left_further : (begun xs ys : List ℕ) → frame.left begun (xs ++ ys) ≡ frame.left (frame.left begun xs) ys

-- `EndsEntry` holds if the entry that has begun with `begun` ends with `end`, and `after` follows
-- it.
pub record EndsEntry (frame : Frame) (begun text end after : List ℕ) : Type 0 where
  pub entries : frame.entries begun text ≡ (begun ++ end) ∷ frame.entries [] after
  pub left : frame.left begun text ≡ frame.left [] after

-- `EndsNone` holds if no entry ends in `text`.
pub record EndsNone (frame : Frame) (begun text : List ℕ) : Type 0 where
  pub entries : frame.entries begun text ≡ []
  pub left : frame.left begun text ≡ begun ++ text
