use Rattle.std.proofs.Common.{ℕ, IsTrue, rules, refl, subst}
use Rattle.std.specs.Prelude.{◌↔◌}
use Rattle.cc_cap.specs.Canonical.{IsCanonical}
use Rattle.cc_decode.specs.Row.{csv_text}
use Rattle.cc_decode.proofs.rows.push_csv.Goals as goal

pub returns-clause-row : goal.returns-clause-row
returns-clause-row c = record {
  row = csv_text c.args.word c.of_word-decoded.result.fields c.of_word-decoded.result.bounds c.is_canonical-canonical.result;
  is_row = record {
    fields = c.of_word-decoded.result.fields;
    bounds = c.of_word-decoded.result.bounds;
    canonical = c.is_canonical-canonical.result;
    of_word = search rules;
    only_fields = search rules;
    decoded = search rules;
    only_bounds = search rules;
    is_canonical =
        subst (λ (word : ℕ). IsTrue c.is_canonical-canonical.result ↔ IsCanonical word) c.of_word-decoded.ensures.word
        c.is_canonical-canonical.ensures;
    is_text = refl;
  };
  written = search rules;
}
