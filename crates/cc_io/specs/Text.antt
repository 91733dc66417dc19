-- The bytes of lines, and of refusals.
use Rattle.std.specs.Prelude.{ℕ, List, [], ◌∷◌, ◌++◌, codes, decimal}
use Rattle.cc_word.specs.Refusal.{code_of, name_of}
use Rattle.cc_word.specs.declared.refusal.Refusal.{Refusal}
use Rattle.cc_word.specs.declared.refusal.Refusal.TheVariants.{Unfinished}

-- A line and its line feed.
abbrev pub with_line_feed : List ℕ → List ℕ
with_line_feed text = text ++ 10 ∷ []

-- The line of a refusal: `error `, its code, a space and its name.
abbrev pub refusal_text : Refusal → List ℕ
refusal_text refusal = codes "error " ++ decimal (code_of refusal) ++ codes " " ++ name_of refusal

-- The last line of an output: `error 2 unfinished` for trailing bytes, or nothing if there are
-- none.
abbrev pub rest_text : (rest : List ℕ) → List ℕ
rest_text [] = []
rest_text (byte ∷ rest) = with_line_feed (refusal_text Unfinished)
