use Rattle.cc_explain.proofs.StepLemmas.{steps-fit}
use Rattle.cc_explain.proofs.window_drawing.push_window_drawing.Goals as goal

pub push_parts-requires-clause-exponent : goal.push_parts-requires-clause-exponent
push_parts-requires-clause-exponent c =
    (steps-fit c.of_word-decoded.result.fields c.decoding_steps-steps.result c.decoding_steps-steps.ensures).exponent

pub returns : goal.returns
returns c = record {
  fields = c.of_word-decoded.result.fields;
  steps = c.decoding_steps-steps.result;
  bounds = c.of_word-decoded.result.bounds;
  of_word = c.of_word-decoded.ensures.word;
  only_fields = c.of_word-decoded.ensures.only_fields;
  are_steps = c.decoding_steps-steps.ensures;
  decoded = c.of_word-decoded.ensures.decodes;
  only_bounds = c.of_word-decoded.ensures.only_bounds;
  lines = c.push_parts.ensures;
}
