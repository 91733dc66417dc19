-- The parts of SVG documents. The prover does not unfold them by itself, so that a proof on many of
-- them does not examine each byte.
use Rattle.std.specs.Prelude.{ℕ, List, ◌++◌, codes}

-- Bytes of a document as they are.
unfoldable pub markup : List ℕ → List ℕ
markup bytes = bytes

-- The start of a document with these attributes.
unfoldable pub opening_text : (attributes : List ℕ) → List ℕ
opening_text attributes = markup (codes "<svg xmlns='http://www.w3.org/2000/svg' ") ++ attributes ++ codes ">\n"

-- A white rectangle with these attributes: the ground of a drawing.
unfoldable pub sheet_text : (attributes : List ℕ) → List ℕ
sheet_text attributes = codes "<rect " ++ attributes ++ codes " fill='#fff'/>\n"
