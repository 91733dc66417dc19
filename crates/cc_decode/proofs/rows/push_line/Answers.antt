use Rattle.std.proofs.Common.{rules, refl, true}
use Rattle.cc_cap.specs.LineText.{word_line_of}
use Rattle.cc_decode.proofs.rows.push_line.Goals as goal

pub returns-clause-row : goal.returns-clause-row
returns-clause-row c = record {
  row = word_line_of c.of_word-decoded.result.fields c.of_word-decoded.result.bounds true;
  is_row = record {
    fields = c.of_word-decoded.result.fields;
    bounds = c.of_word-decoded.result.bounds;
    of_word = search rules;
    decoded = search rules;
    text = refl;
  };
  written = search rules;
}
