use Rattle.std.proofs.Common.{rules, ◌≡◌, ◌∙◌, ◌-◌, ◌+◌, ap, arith, ℕ, List, ◌++◌, length, length-append, length-take, take}
use Rattle.std.proofs.Math.Seq.{take-append-add}
use Rattle.cc_word.proofs.DigitLemmas.{length-digits_of}
use Rattle.cc_io.proofs.DecimalLemmas.{longer}
use Rattle.cc_io.proofs.DigitLemmas.{HasZeros, digits-moved}
use Rattle.cc_io.proofs.page.Page.push_significant.Goals as goal

pub returns-clause-value : goal.returns-clause-value
returns-clause-value g c =
    let line = c.args.self.now in
    let zeros = c.leading_zeros-zeros.result in
    let sixteen = c.write_half.result in
    let counted = c.leading_zeros-zeros.ensures in
    let is : HasZeros zeros c.args.number = record { few = counted.few; fits = counted.fits; least = counted.least } in
    let sized : length sixteen ≡ 16 = ap length c.write_half.ensures ∙ length-digits_of 16 _ in
    let kept : length c.push.new.self - zeros ≡ length line + (16 - zeros) =
    omega (arith, ap length c.push.ensures, length-append line sixteen, sized, is.few) in
    c.drop_last.ensures
    ∙ ap (λ (n : ℕ). take n c.push.new.self) kept
    ∙ ap (λ (l : List ℕ). take (length line + (16 - zeros)) l) c.push.ensures
    ∙ take-append-add line sixteen (16 - zeros)
    ∙ ap (λ (l : List ℕ). line ++ l) (ap (λ (l : List ℕ). take (16 - zeros) l) c.write_half.ensures ∙ digits-moved zeros c.args.number is)

pub overflow_shl-number : goal.overflow_shl-number
overflow_shl-number g c = omega (arith, c.leading_zeros-zeros.ensures.few)

pub push-requires : goal.push-requires
push-requires g c =
    let sized : length c.write_half.result ≡ 16 = ap length c.write_half.ensures ∙ length-digits_of 16 _ in
    (search rules, omega (arith, sized, c.requires))

pub returns-clause-fits : goal.returns-clause-fits
returns-clause-fits g c =
    let sized : length c.write_half.result ≡ 16 = ap length c.write_half.ensures ∙ length-digits_of 16 _ in
    let first = longer c.args.self.now c.write_half.result c.push.new.self c.push.ensures in
    let kept = length-take (length c.push.new.self - c.leading_zeros-zeros.result) c.push.new.self in
    omega (arith, first, sized, ap length c.drop_last.ensures, kept)
