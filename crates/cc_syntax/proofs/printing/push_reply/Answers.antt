use Rattle.std.proofs.Common.{◌≡◌, ◌∙◌, ◌-◌, ◌++◌, ◌∷◌, [], ℕ, List, ap, append_assoc, arith, length, length-append, take}
use Rattle.std.proofs.Math.Seq.{take-append_seam}
use Rattle.cc_syntax.specs.Replies.{refusal_text, reply_text}
use Rattle.cc_syntax.proofs.printing.push_reply.Goals as goal

pub returns-in-Shown-clause-value : goal.returns-in-Shown-clause-value
unfolding reply_text
returns-in-Shown-clause-value g c = grind (arith, append_assoc)

pub returns-in-Shown-clause-fits : goal.returns-in-Shown-clause-fits
returns-in-Shown-clause-fits g c =
    omega (arith, c.push_parent.ensures.fits, c.push_rights.ensures.fits, c.push_shown.ensures.fits)

pub returns-in-Refused-clause-value : goal.returns-in-Refused-clause-value
unfolding reply_text
returns-in-Refused-clause-value g c =
    let bytes = c.refusal_bytes-bytes.result.now in
    let text = refusal_text c.in-Refused.refusal in
    let whole : bytes ≡ text ++ 10 ∷ [] = c.refusal_bytes-bytes.ensures.value in
    let less : length bytes - 1 ≡ length text = omega (arith, ap length whole, length-append text (10 ∷ [])) in
    let same : take (length bytes - 1) bytes ≡ text =
    ap (λ (n : ℕ). take n bytes) less ∙ ap (take (length text)) whole ∙ take-append_seam text (10 ∷ []) in
    rw c.in-Refused.is (c.push.ensures ∙ ap (λ (l : List ℕ). c.args.line.now ++ l) same)
