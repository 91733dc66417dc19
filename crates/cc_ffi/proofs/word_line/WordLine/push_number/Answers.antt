use Rattle.std.proofs.Common.{◌∙◌, sym, ap, arith, ℕ, List, [], ◌∷◌, ◌++◌, append_assoc, false}
use Rattle.std.specs.Fmt.{digits}
use Rattle.cc_word.proofs.DigitLemmas.{digits-count, last_digits}
use Rattle.cc_ffi.proofs.word_line.WordLine.push_number.Goals as goal

pub returns-clause-value : goal.returns-clause-value
returns-clause-value c =
    let number = c.args.number in
    let has = c.digit_count.ensures in
    let count = c.digit_count.result in
    let prefix : List ℕ = 48 ∷ 120 ∷ [] in
    let before : List ℕ = c.args.self.now ++ prefix in
    c.push-2.ensures
    ∙ rw (c.push.ensures, c.write_word_fast.ensures)
    (ap (λ (l : List ℕ). before ++ l)
    (last_digits count number (omega (arith, has.most)) ∙ sym (digits-count count number has.some (omega (arith, has.most)) has.fits has.least))
    ∙ append_assoc c.args.self.now prefix (digits 16 false number))
