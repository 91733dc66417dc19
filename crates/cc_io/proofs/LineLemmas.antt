-- Lines of texts that come in pieces.
use Rattle.std.proofs.Common.{◌≡◌, ℕ, ◌+◌, ◌-◌, ◌≤◌, min, List, [], ◌∷◌, ◌++◌, length, take, refl, sym, ◌∙◌, ap, arith, append-nil, append_assoc, length-take, inl, inr}
use Rattle.std.proofs.lemmas.List.{take_all, take_at, take-append-le}
use Rattle.std.proofs.lemmas.Bool.{cases_lt, ne_eqb}
use Rattle.std.proofs.Math.Seq.{take-append-add}
use Rattle.cc_io.specs.Lines.{lines_from, rest_from, IsLine}

-- no line ends in a text without a line feed
pub no_lines : (begun text : List ℕ) → IsLine text → lines_from begun text ≡ []
no_lines begun [] h = refl
no_lines begun (x ∷ text) h = rw (ne_eqb x 10 h.0) (no_lines (begun ++ x ∷ []) text h.1)

pub all_rest : (begun text : List ℕ) → IsLine text → rest_from begun text ≡ begun ++ text
all_rest begun [] h = sym (append-nil begun)
all_rest begun (x ∷ text) h = rw (ne_eqb x 10 h.0) (all_rest (begun ++ x ∷ []) text h.1 ∙ append_assoc begun (x ∷ []) text)

-- the bytes that fit: all of them, or as many as there is space for
cut_same : (bytes : List ℕ) (count room : ℕ) → count ≡ min (length bytes) room → take count bytes ≡ take room bytes
cut_same bytes count room is = elim (cases_lt (length bytes) room) [
  | inl short ↦ take_all count bytes (omega arith) ∙ sym (take_all room bytes (omega arith))
  | inr long ↦ let same : count ≡ room = omega arith in ap (λ (n : ℕ). take n bytes) same
]

-- the buffer keeps the first 129 bytes of the line as more of it is appended
pub extend_room : (line bytes : List ℕ) (count : ℕ) → length line ≤ 129 → count ≡ min (length bytes) (129 - length line)
    → line ++ take count bytes ≡ take 129 (line ++ bytes)
extend_room line bytes count fits is =
    let whole : length line + (129 - length line) ≡ 129 = omega arith in
    ap (λ (l : List ℕ). line ++ l) (cut_same bytes count (129 - length line) is)
    ∙ sym (take-append-add line bytes (129 - length line))
    ∙ ap (λ (n : ℕ). take n (line ++ bytes)) whole

-- the first 129 bytes of a line and the bytes after it give the first 129 of both
pub start_longer : (line more : List ℕ) → take 129 (take 129 line ++ more) ≡ take 129 (line ++ more)
start_longer line more = elim (cases_lt (length line) 129) [
  | inl short ↦ ap (λ (l : List ℕ). take 129 (l ++ more)) (take_all 129 line (omega arith))
  | inr long ↦
      let len : length (take 129 line) ≡ 129 = omega (arith, length-take 129 line) in
      take_at (take 129 line) more 129 len ∙ sym (take-append-le 129 line more long)
]
