use Rattle.std.proofs.Common.{arith}
use Rattle.cc_explain.specs.declared.steps.Steps.{Steps}
use Rattle.cc_explain.proofs.CorrectionLemmas.{corrected}
use Rattle.cc_explain.proofs.steps.decoding_steps.Goals as goal

pub returns : goal.returns
returns c =
    let steps : Steps = record {
      exponent = c.args.decoded.now.exponent;
      b = c.base_mantissa-b.result;
      t = c.top_mantissa-t.result;
      first_section = c.first_section.result;
      start = c.window_start-start.result;
      base = c.place.result;
      top = c.place-2.result;
    } in
    record {
      exponent = c.args.decoded.now.is_exponent;
      base_mantissa = c.base_mantissa-b.ensures.value;
      top_mantissa = c.top_mantissa-t.ensures.value;
      implied = grind (arith, c.top_mantissa-t.ensures.value.fits, c.top_mantissa-t.ensures.value.implied, c.base_mantissa-b.ensures.value, c.base_mantissa-b.ensures.fits);
      first_section = c.first_section.ensures;
      window = c.window_start-start.ensures;
      base = c.place.ensures;
      top = c.place-2.ensures;
      base_corrected = corrected c.args.decoded.now.fields steps c.args.decoded.now.is_exponent c.first_section.ensures steps.b steps.base c.base_mantissa-b.ensures.fits c.place.ensures;
      top_corrected = corrected c.args.decoded.now.fields steps c.args.decoded.now.is_exponent c.first_section.ensures steps.t steps.top c.top_mantissa-t.ensures.fits c.place-2.ensures;
    }
