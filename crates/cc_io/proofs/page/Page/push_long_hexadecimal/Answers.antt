use Rattle.std.proofs.Common.{rules, arith, length, ◌+◌, ◌≡◌, ◌∙◌, ap, ℕ, List, [], ◌∷◌, ◌++◌, ◌/◌, ◌%◌, ◌^◌, append_assoc, false}
use Rattle.std.specs.Fmt.{digits}
use Rattle.cc_word.specs.WordText.{digits_of}
use Rattle.cc_word.proofs.DigitLemmas.{length-digits_of}
use Rattle.cc_io.proofs.DecimalLemmas.{longer}
use Rattle.cc_io.proofs.DigitLemmas.{digits-long}
use Rattle.cc_io.proofs.page.Page.push_long_hexadecimal.Goals as goal

pub returns-clause-value : goal.returns-clause-value
returns-clause-value g c =
    let number = c.args.number in
    let before : List ℕ = c.args.self.now ++ 48 ∷ 120 ∷ [] in
    let high = digits 16 false (number / 2 ^ 64) in
    let low = digits_of 16 (number % 2 ^ 64) in
    c.push.ensures
    ∙ rw (c.push_significant.ensures.value, c.push_known.ensures, c.write_half.ensures)
    (append_assoc before high low
    ∙ ap (λ (l : List ℕ). before ++ l) (digits-long number c.ranges.number.fits c.requires.long)
    ∙ append_assoc c.args.self.now (48 ∷ 120 ∷ []) (digits 16 false number))

pub push_significant-requires : goal.push_significant-requires
push_significant-requires g c = omega (arith, longer c.args.self.now (48 ∷ 120 ∷ []) c.push_known.new.self c.push_known.ensures, c.requires.room)

pub push-requires : goal.push-requires
push-requires g c =
    let known = longer c.args.self.now (48 ∷ 120 ∷ []) c.push_known.new.self c.push_known.ensures in
    let sized : length c.write_half.result ≡ 16 = ap length c.write_half.ensures ∙ length-digits_of 16 _ in
    (search rules, omega (arith, known, c.push_significant.ensures.fits, sized, c.requires.room))

pub returns-clause-fits : goal.returns-clause-fits
returns-clause-fits g c =
    let known = longer c.args.self.now (48 ∷ 120 ∷ []) c.push_known.new.self c.push_known.ensures in
    let sized : length c.write_half.result ≡ 16 = ap length c.write_half.ensures ∙ length-digits_of 16 _ in
    omega (arith, known, c.push_significant.ensures.fits, sized, longer c.push_significant.new.self c.write_half.result c.push.new.self c.push.ensures)
