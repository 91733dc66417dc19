use Rattle.std.proofs.Common.{[], refl}
use Rattle.cc_word.specs.declared.refusal.Refusal.TheVariants.{Unfinished}
use Rattle.cc_io.specs.Text.{refusal_text, with_line_feed}
use Rattle.cc_script.proofs.running.SessionAnswerer.end.Goals as goal

pub returns : goal.returns
returns g c = record {
  text = with_line_feed (refusal_text Unfinished);
  out_is = c.push_refusal.ensures.value;
  answered = record {
    text_is = refl;
    error_is = refl;
    stays = refl;
    counted = λ opening exchanges counts. c.take_refused.ensures opening exchanges [] refl counts;
    same = refl;
  };
}
