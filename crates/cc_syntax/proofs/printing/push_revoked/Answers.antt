use Rattle.std.proofs.Common.{◌≡◌, ◌∙◌, ◌++◌, List, ℕ, ap, append_assoc, arith, codes, decimal, length, length-append}
use Rattle.cc_syntax.proofs.printing.push_revoked.Goals as goal

pub push_index-requires : goal.push_index-requires
push_index-requires g c =
    omega (arith, ap length c.push_known.ensures, length-append c.args.line.now (codes " revoked "), c.requires)

pub push_known-requires-2 : goal.push_known-requires-2
push_known-requires-2 g c =
    omega (
      arith,
      c.push_index.ensures.fits,
      ap length c.push_known.ensures,
      length-append c.args.line.now (codes " revoked "),
      c.requires,
    )

pub push_decimal-requires : goal.push_decimal-requires
push_decimal-requires g c =
    omega (
      arith,
      ap length c.push_known-2.ensures,
      length-append c.push_index.new.self (codes " held "),
      c.push_index.ensures.fits,
      ap length c.push_known.ensures,
      length-append c.args.line.now (codes " revoked "),
      c.requires,
    )

four_pieces : (l a b c d : List ℕ) → (((l ++ a) ++ b) ++ c) ++ d ≡ l ++ (((a ++ b) ++ c) ++ d)
four_pieces l a b c d =
    ap (λ (m : List ℕ). (m ++ c) ++ d) (append_assoc l a b) ∙ ap (λ (m : List ℕ). m ++ d) (append_assoc l (a ++ b) c)
    ∙ append_assoc l ((a ++ b) ++ c) d

pub returns-clause-value : goal.returns-clause-value
returns-clause-value g c =
    rw (c.push_decimal.ensures.value, c.push_known-2.ensures, c.push_index.ensures.value, c.push_known.ensures)
    (four_pieces c.args.line.now (codes " revoked ") (decimal c.args.revoked) (codes " held ") (decimal c.args.held))

pub returns-clause-fits : goal.returns-clause-fits
returns-clause-fits g c =
    omega (
      arith,
      c.push_decimal.ensures.fits,
      ap length c.push_known-2.ensures,
      length-append c.push_index.new.self (codes " held "),
      c.push_index.ensures.fits,
      ap length c.push_known.ensures,
      length-append c.args.line.now (codes " revoked "),
    )
