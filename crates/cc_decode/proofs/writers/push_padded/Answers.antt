use Rattle.std.proofs.Common.{◌∙◌, ap, sym, ℕ, List, [], ◌∷◌, ◌++◌, ◌/◌, ◌%◌, ◌^◌, append_assoc}
use Rattle.cc_word.specs.WordText.{digits_of}
use Rattle.cc_decode.proofs.DigitLemmas.{seventeen_digits}
use Rattle.cc_decode.proofs.writers.push_padded.Goals as goal

pub returns-clause-value : goal.returns-clause-value
returns-clause-value c =
    let number = c.args.number in
    let old : List ℕ = c.args.batch.now in
    let before : List ℕ = old ++ 48 ∷ 120 ∷ [] in
    let high = digits_of 1 (number / 2 ^ 64) in
    let low = digits_of 16 (number % 2 ^ 64) in
    c.push.ensures
    ∙ rw (c.push_digits.ensures.value, c.push_known.ensures, c.write_half.ensures)
    (append_assoc before high low
    ∙ ap (λ (l : List ℕ). before ++ l) (sym (seventeen_digits number))
    ∙ append_assoc old (48 ∷ 120 ∷ []) (digits_of 17 number))
