use Rattle.std.proofs.Common.{◌∙◌, ◌++◌, List, ℕ, ap, ap₂, arith, codes, length, length-append}
use Rattle.cc_word.specs.WordText.{hexadecimal}
use Rattle.cc_syntax.proofs.printing.push_rounded.Goals as goal

pub returns-clause-value : goal.returns-clause-value
returns-clause-value g c =
    let first = c.push_hexadecimal.ensures.value ∙ ap (λ (l : List ℕ). l ++ hexadecimal c.args.rounded) c.push_known.ensures in
    let between = c.push_known-2.ensures ∙ ap (λ (l : List ℕ). l ++ codes " ") first in
    let second = c.push_hexadecimal-2.ensures.value ∙ ap₂ (λ (l : List ℕ) (n : ℕ). l ++ hexadecimal n) between c.from.ensures in
    let after = c.push_known-3.ensures ∙ ap (λ (l : List ℕ). l ++ codes " ") second in
    c.push_hexadecimal-3.ensures.value ∙ ap₂ (λ (l : List ℕ) (n : ℕ). l ++ hexadecimal n) after c.from-2.ensures

pub push_known-requires-3 : goal.push_known-requires-3
push_known-requires-3 g c =
    omega (
      arith,
      c.push_hexadecimal-2.ensures.fits,
      ap length c.push_known-2.ensures,
      length-append c.push_hexadecimal.new.self (codes " "),
      c.push_hexadecimal.ensures.fits,
      ap length c.push_known.ensures,
      length-append c.args.line.now (codes "round "),
      c.requires,
    )

pub push_hexadecimal-requires-3 : goal.push_hexadecimal-requires-3
push_hexadecimal-requires-3 g c =
    omega (
      arith,
      ap length c.push_known-3.ensures,
      length-append c.push_hexadecimal-2.new.self (codes " "),
      c.push_hexadecimal-2.ensures.fits,
      ap length c.push_known-2.ensures,
      length-append c.push_hexadecimal.new.self (codes " "),
      c.push_hexadecimal.ensures.fits,
      ap length c.push_known.ensures,
      length-append c.args.line.now (codes "round "),
      c.requires,
    )

pub returns-clause-fits : goal.returns-clause-fits
returns-clause-fits g c =
    omega (
      arith,
      c.push_hexadecimal-3.ensures.fits,
      ap length c.push_known-3.ensures,
      length-append c.push_hexadecimal-2.new.self (codes " "),
      c.push_hexadecimal-2.ensures.fits,
      ap length c.push_known-2.ensures,
      length-append c.push_hexadecimal.new.self (codes " "),
      c.push_hexadecimal.ensures.fits,
      ap length c.push_known.ensures,
      length-append c.args.line.now (codes "round "),
    )
