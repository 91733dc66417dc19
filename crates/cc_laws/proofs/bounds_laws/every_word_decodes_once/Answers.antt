use Rattle.cc_bounds.proofs.ExactlyOneLemmas.{one-top_mantissa, one-window, one-place, one-top, one-span}
use Rattle.cc_laws.proofs.bounds_laws.every_word_decodes_once.Goals as goal

pub returns : goal.returns
returns c = record {
  top_mantissa = one-top_mantissa;
  window = one-window;
  place = one-place;
  top = one-top;
  span = one-span;
}
