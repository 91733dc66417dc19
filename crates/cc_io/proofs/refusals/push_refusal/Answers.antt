use Rattle.std.proofs.Common.{rules, ◌≡◌, ◌∙◌, ◌-◌, ◌+◌, ap, arith, ℕ, List, ◌++◌, length, length-append, take}
use Rattle.std.proofs.Math.Seq.{take-append-add}
use Rattle.cc_io.proofs.refusals.push_refusal.Goals as goal

pub returns-clause-value : goal.returns-clause-value
returns-clause-value g c =
    let page = c.args.page.now in
    let row = c.row_of-len.result.0.now in
    let len = c.row_of-len.result.1 in
    let sized : length row ≡ 32 = search rules in
    let kept : length c.push.new.self - (32 - len) ≡ length page + len =
    omega (arith, ap length c.push.ensures, length-append page row, sized, c.row_of-len.ensures.fits) in
    c.drop_last.ensures
    ∙ ap (λ (n : ℕ). take n c.push.new.self) kept
    ∙ ap (λ (l : List ℕ). take (length page + len) l) c.push.ensures
    ∙ take-append-add page row len
    ∙ ap (λ (l : List ℕ). page ++ l) c.row_of-len.ensures.value
