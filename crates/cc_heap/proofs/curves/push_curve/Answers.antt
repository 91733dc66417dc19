use Rattle.std.proofs.Common.{◌≡◌, ◌∙◌, ◌++◌, List, ℕ, ap, append_assoc, arith, codes, length, length-append}
use Rattle.cc_heap.proofs.curves.push_curve.Goals as goal

pub push_steps-requires : goal.push_steps-requires
push_steps-requires g c =
    omega (arith, ap length c.push.ensures, length-append c.args.page.now (codes "<path d='M0,3200"), c.requires.room, c.requires.few)

pub push-requires-2 : goal.push-requires-2
push-requires-2 g c =
    omega (
      arith,
      c.stroke.ensures.fits,
      c.push_steps.ensures.fits,
      ap length c.push.ensures,
      length-append c.args.page.now (codes "<path d='M0,3200"),
      c.requires.room,
      c.requires.few,
    )

three_pieces : (l a b c : List ℕ) → ((l ++ a) ++ b) ++ c ≡ l ++ ((a ++ b) ++ c)
three_pieces l a b c = ap (λ (m : List ℕ). m ++ c) (append_assoc l a b) ∙ append_assoc l (a ++ b) c

pub returns-clause-value : goal.returns-clause-value
returns-clause-value g c =
    rw (c.push-2.ensures, c.stroke.ensures.value, c.push_steps.ensures.value, c.push.ensures)
    (three_pieces c.args.page.now (codes "<path d='M0,3200") _ _)

pub returns-clause-fits : goal.returns-clause-fits
returns-clause-fits g c =
    omega (
      arith,
      ap length c.push-2.ensures,
      length-append c.push_steps.new.page c.stroke.result.now,
      c.stroke.ensures.fits,
      c.push_steps.ensures.fits,
      ap length c.push.ensures,
      length-append c.args.page.now (codes "<path d='M0,3200"),
      c.requires.few,
    )
