use Rattle.std.proofs.Common.{◌≡◌, ℕ, List, ◌++◌, Option, refl, subst}
use Rattle.std.specs.Prelude.{MatchOption}
use Rattle.cc_word.specs.Word.{word_of}
use Rattle.cc_bounds.proofs.TightestLemmas.{decoded-sound}
use Rattle.cc_cap.specs.Canonical.{IsCanonical}
use Rattle.cc_cap.specs.Defect.{HasDefect}
use Rattle.cc_cap.specs.declared.canonical.Defect.{Defect}
use Rattle.cc_word.specs.declared.fields.Fields.{Fields}
use Rattle.cc_explain.specs.declared.steps.Steps.{Steps}
use Rattle.cc_explain.specs.Explanation.{explanation_of, fields_text, mantissas_text, picture_text, window_lines_text}
use Rattle.cc_explain.proofs.StepLemmas.{steps-fit}
use Rattle.cc_explain.proofs.explaining.push_explained_word.Goals as goal

-- Four lists of bytes, one after another.
grown : (one two three four first second third last : List ℕ) → first ≡ one → second ≡ first ++ two → third ≡ second ++ three
    → last ≡ third ++ four → last ≡ one ++ two ++ three ++ four
grown one two three four first second third last is_first is_second is_third is_last =
    rw (is_last, is_third, is_second, is_first) refl

pub rows_of-rows-requires-clause-exponent : goal.rows_of-rows-requires-clause-exponent
rows_of-rows-requires-clause-exponent c =
    (steps-fit c.of_word-decoded.result.fields c.decoding_steps-steps.result c.decoding_steps-steps.ensures).exponent

pub rows_of-rows-requires-clause-base : goal.rows_of-rows-requires-clause-base
rows_of-rows-requires-clause-base c =
    (steps-fit c.of_word-decoded.result.fields c.decoding_steps-steps.result c.decoding_steps-steps.ensures).base

pub rows_of-rows-requires-clause-top : goal.rows_of-rows-requires-clause-top
rows_of-rows-requires-clause-top c =
    (steps-fit c.of_word-decoded.result.fields c.decoding_steps-steps.result c.decoding_steps-steps.ensures).top

pub push_mantissas-requires-clause-exponent : goal.push_mantissas-requires-clause-exponent
push_mantissas-requires-clause-exponent c =
    (steps-fit c.of_word-decoded.result.fields c.decoding_steps-steps.result c.decoding_steps-steps.ensures).exponent

pub push_mantissas-requires-clause-base_mantissa : goal.push_mantissas-requires-clause-base_mantissa
push_mantissas-requires-clause-base_mantissa c =
    (steps-fit c.of_word-decoded.result.fields c.decoding_steps-steps.result c.decoding_steps-steps.ensures).base_mantissa

pub push_window_lines-requires-clause-exponent : goal.push_window_lines-requires-clause-exponent
push_window_lines-requires-clause-exponent c =
    (steps-fit c.of_word-decoded.result.fields c.decoding_steps-steps.result c.decoding_steps-steps.ensures).exponent

pub push_window_lines-requires-clause-other_fields : goal.push_window_lines-requires-clause-other_fields
push_window_lines-requires-clause-other_fields c is =
    let word = c.of_word-decoded.result in
    let found = subst
    (λ (d : Option Defect). MatchOption d (IsCanonical (word_of word.fields)) (λ reason. (¬ IsCanonical (word_of word.fields)) × HasDefect word.fields word.bounds reason))
    is c.defect.ensures in
    let is_span = found.1.1 in
    (is_span, decoded-sound word.bounds is_span (word.fields, c.of_word-decoded.ensures.decodes))

pub push_picture-requires-clause-exponent : goal.push_picture-requires-clause-exponent
push_picture-requires-clause-exponent c =
    (steps-fit c.of_word-decoded.result.fields c.decoding_steps-steps.result c.decoding_steps-steps.ensures).exponent

pub returns : goal.returns
returns c =
    let word = c.args.word in
    let fields : Fields = c.of_word-decoded.result.fields in
    let steps : Steps = c.decoding_steps-steps.result in
    let lines : c.push_picture.new.text
    ≡ explanation_of word c.of_word-decoded.result.fields c.decoding_steps-steps.result c.of_word-decoded.result.bounds
    c.defect.result c.rows_of-rows.result =
    grown (fields_text word fields) (mantissas_text fields steps)
    (window_lines_text fields steps c.of_word-decoded.result.bounds c.defect.result)
    (picture_text steps c.rows_of-rows.result) c.push_fields.new.text c.push_mantissas.new.text c.push_window_lines.new.text
    c.push_picture.new.text c.push_fields.ensures.value c.push_mantissas.ensures.value c.push_window_lines.ensures.value
    c.push_picture.ensures in
    record {
      fields = c.of_word-decoded.result.fields;
      steps = c.decoding_steps-steps.result;
      bounds = c.of_word-decoded.result.bounds;
      defect = c.defect.result;
      rows = c.rows_of-rows.result;
      of_word = c.of_word-decoded.ensures.word;
      only_fields = c.of_word-decoded.ensures.only_fields;
      are_steps = c.decoding_steps-steps.ensures;
      decoded = c.of_word-decoded.ensures.decodes;
      only_bounds = c.of_word-decoded.ensures.only_bounds;
      is_defect =
          subst (λ (word : ℕ). MatchOption c.defect.result (IsCanonical word) (λ reason. (¬ IsCanonical word) × HasDefect fields c.of_word-decoded.result.bounds reason))
          c.of_word-decoded.ensures.word c.defect.ensures;
      are_rows = c.rows_of-rows.ensures;
      lines = lines;
    }
