use Rattle.std.proofs.Common.{◌≡◌, ◌∙◌, ◌++◌, List, ℕ, ap, append_assoc, arith, codes, decimal, length, length-append}
use Rattle.cc_word.specs.WordText.{digits_of}
use Rattle.cc_syntax.specs.Replies.{bounds_text}
use Rattle.cc_syntax.proofs.printing.push_made.Goals as goal

pub push_known-requires : goal.push_known-requires
push_known-requires g c =
    omega (arith, c.push_index.ensures.fits, c.requires)

pub push_word-requires : goal.push_word-requires
push_word-requires g c =
    omega (
      arith,
      ap length c.push_known.ensures,
      length-append c.push_index.new.self (codes " "),
      c.push_index.ensures.fits,
      c.requires,
    )

pub push_known-requires-2 : goal.push_known-requires-2
push_known-requires-2 g c =
    omega (
      arith,
      c.push_word.ensures.fits,
      ap length c.push_known.ensures,
      length-append c.push_index.new.self (codes " "),
      c.push_index.ensures.fits,
      c.requires,
    )

pub push_bounds-requires : goal.push_bounds-requires
push_bounds-requires g c =
    omega (
      arith,
      ap length c.push_known-2.ensures,
      length-append c.push_word.new.self (codes " "),
      c.push_word.ensures.fits,
      ap length c.push_known.ensures,
      length-append c.push_index.new.self (codes " "),
      c.push_index.ensures.fits,
      c.requires,
    )

five_pieces : (l a b c d e : List ℕ) → ((((l ++ a) ++ b) ++ c) ++ d) ++ e ≡ l ++ ((((a ++ b) ++ c) ++ d) ++ e)
five_pieces l a b c d e =
    ap (λ (m : List ℕ). ((m ++ c) ++ d) ++ e) (append_assoc l a b) ∙ ap (λ (m : List ℕ). (m ++ d) ++ e) (append_assoc l (a ++ b) c)
    ∙ ap (λ (m : List ℕ). m ++ e) (append_assoc l ((a ++ b) ++ c) d) ∙ append_assoc l (((a ++ b) ++ c) ++ d) e

pub returns-clause-value : goal.returns-clause-value
returns-clause-value g c =
    rw (c.push_bounds.ensures.value, c.push_known-2.ensures, c.push_word.ensures.value, c.push_known.ensures, c.push_index.ensures.value)
    (five_pieces c.args.line.now (decimal c.args.slot) (codes " ") (digits_of 32 c.args.word) (codes " ") (bounds_text c.args.span.now))

pub returns-clause-fits : goal.returns-clause-fits
returns-clause-fits g c =
    omega (
      arith,
      c.push_bounds.ensures.fits,
      ap length c.push_known-2.ensures,
      length-append c.push_word.new.self (codes " "),
      c.push_word.ensures.fits,
      ap length c.push_known.ensures,
      length-append c.push_index.new.self (codes " "),
      c.push_index.ensures.fits,
    )
