-- The lines of an input, and the bytes after the last line feed.
use Rattle.std.specs.Prelude.{◌≡◌, ◌≢◌, ℕ, List, [], ◌∷◌, ◌++◌, ◌==◌, codes, drop, take, if◌then◌else◌}
use Rattle.std.specs.List.{AllByRecursion}
use Rattle.std.specs.Str.{bytes_eq}

-- `IsLine` holds if `text` has no line feed.
abbrev pub IsLine : List ℕ → Type 0
IsLine text = AllByRecursion (λ byte. byte ≢ 10) text

-- The bytes of lines, each with its line feed.
abbrev pub lines_text : (lines : List (List ℕ)) → List ℕ
lines_text [] = []
lines_text (line ∷ lines) = line ++ 10 ∷ lines_text lines

-- `Splits` holds if `text` is these lines, each with its line feed, and then `rest`, and has no
-- other line feed.
pub record Splits (text : List ℕ) (lines : List (List ℕ)) (rest : List ℕ) : Type 0 where
  pub whole : text ≡ lines_text lines ++ rest
  pub each : AllByRecursion IsLine lines
  pub last : IsLine rest

-- The lines of `text`, whose first line has begun with `begun`.
abbrev pub lines_from : (begun text : List ℕ) → List (List ℕ)
lines_from begun [] = []
lines_from begun (byte ∷ text) = if byte == 10 then begun ∷ lines_from [] text else lines_from (begun ++ byte ∷ []) text

-- The bytes after the last line feed of `text`, whose first line has begun with `begun`.
abbrev pub rest_from : (begun text : List ℕ) → List ℕ
rest_from begun [] = begun
rest_from begun (byte ∷ text) = if byte == 10 then rest_from [] text else rest_from (begun ++ byte ∷ []) text

-- The lines of `text`: the bytes before each line feed.
abbrev pub lines_of : List ℕ → List (List ℕ)
lines_of text = lines_from [] text

-- The bytes of `text` after its last line feed, or all of them if there is no line feed.
abbrev pub rest_of : List ℕ → List ℕ
rest_of text = rest_from [] text

-- `OneSplit` holds if `lines_of` and `rest_of` are the only way to split `text`.
pub record OneSplit (text : List ℕ) : Type 0 where
  pub splits : Splits text (lines_of text) (rest_of text)
  pub only : (lines : List (List ℕ)) (rest : List ℕ) → Splits text lines rest → (lines ≡ lines_of text) × (rest ≡ rest_of text)

-- The digits of a string: the bytes after `0x` if it begins with `0x`, and otherwise all of them.
abbrev pub digits_in : (text : List ℕ) → List ℕ
digits_in text = if bytes_eq (take 2 text) (codes "0x") then drop 2 text else text
