use Rattle.std.proofs.Common.{◌∙◌, ◌++◌, ℕ, List, [], ◌∷◌, ap, append_assoc, arith, length, length-append, rules}
use Rattle.cc_script.proofs.answering.answer_op.Goals as goal

pub push_known-requires : goal.push_known-requires
push_known-requires g c = omega (arith, c.push_reply.ensures.fits, c.requires)

pub returns-in_default : goal.returns-in_default
returns-in_default g c = record {
  answers = λ command is. record {
    reply = c.step-reply.result;
    takes = search rules;
    text_is =
        c.push_known.ensures ∙ ap (λ (l : List ℕ). l ++ 10 ∷ []) c.push_reply.ensures.value
        ∙ append_assoc c.args.text.now _ (10 ∷ []);
    error_is = search rules;
  };
  fits = omega (arith, ap length c.push_known.ensures, length-append c.push_reply.new.line (10 ∷ []), c.push_reply.ensures.fits);
}
