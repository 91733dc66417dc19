use Rattle.std.proofs.Common.{◌≡◌, ◌∙◌, codes, ap, append_assoc}
use Rattle.cc_word.specs.Word.{bit_of}
use Rattle.cc_bounds.specs.Encoding.{Encoding, ie_of, t_of, b_of}
use Rattle.cc_explain.specs.Explanation.{bounds_fields_text}
use Rattle.cc_explain.proofs.explained_steps.push_other_fields.Goals as goal

pub returns-clause-value : goal.returns-clause-value
returns-clause-value c =
    let ie : c.ie.result ≡ ie_of c.args.bounds = c.ie.ensures.computed ∙ ap (λ (set : Encoding). ie_of set.granted) c.of_sound-set.ensures in
    let t : c.t.result ≡ t_of c.args.bounds = c.t.ensures.computed ∙ ap (λ (set : Encoding). t_of set.granted) c.of_sound-set.ensures in
    let b : c.b.result ≡ b_of c.args.bounds = c.b.ensures.computed ∙ ap (λ (set : Encoding). b_of set.granted) c.of_sound-set.ensures in
    let same : bounds_fields_text (codes "canonical no: setting these bounds stores IE ") (bit_of c.ie.result) c.t.result c.b.result
    ≡ bounds_fields_text (codes "canonical no: setting these bounds stores IE ") (bit_of (ie_of c.args.bounds)) (t_of c.args.bounds) (b_of c.args.bounds) =
    λ i. bounds_fields_text (codes "canonical no: setting these bounds stores IE ") (bit_of (ie i)) (t i) (b i) in
    rw (c.push.ensures, c.push_bounds_fields.ensures.value, same) (simp append_assoc)
