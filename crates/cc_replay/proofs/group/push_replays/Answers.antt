use Rattle.std.proofs.Common.{◌≡◌, ◌∙◌, List, ◌∷◌, ◌++◌, ap, ap₂, arith, length, length-append, sym, ℕ}
use Rattle.std.proofs.lemmas.Grind.{common_steps}
use Rattle.cc_replay.specs.Group.{more_policies, policy_rows}
use Rattle.cc_replay.specs.Replay.{ReplayState}
use Rattle.cc_replay.specs.Rows.{between_rows, row_text, table_rows}
use Rattle.cc_replay.proofs.RowLemmas.{headed}
use Rattle.cc_replay.proofs.group.push_replays.Goals as goal

pub rows-preserved : goal.rows-preserved
rows-preserved g c =
    let format = c.args.format in
    let first = c.in-Some.first.now in
    let after = c.in-Some.after.now in
    let rest : c.rows.rest.now ≡ first ∷ after = c.in-Some.ensures.cases.0 in
    let rows : table_rows c.as_slice.result.now ≡ policy_rows first = ap table_rows c.as_slice.ensures.value ∙ c.rows_with_policy-rows.ensures.value in
    record {
      text = ap₂ (λ (page before : List ℕ). page ++ more_policies format before after)
          (c.push_row.ensures.value ∙ ap₂ (λ (page row : List ℕ). page ++ row) c.push.ensures (ap (row_text format) rows))
          c.between_rows-before.ensures.value
          ∙ headed c.rows.page c.rows.before.now (row_text format (policy_rows first)) (more_policies format (between_rows format) after)
          ∙ ap (λ (l : List ReplayState). c.rows.page ++ more_policies format c.rows.before.now l) (sym rest) ∙ c.rows.invariant.text;
      fits = omega (
        arith,
        ap length rest,
        ap length c.push.ensures,
        length-append c.rows.page c.rows.before.now,
        ap length c.as_slice.ensures.value,
        c.rows_with_policy-rows.ensures.few,
        c.push_row.ensures.fits,
        c.rows.invariant.fits,
        c.rows.invariant.short,
      );
      short = c.between_rows-before.ensures.fits;
    }

pub push-requires : goal.push-requires
push-requires g c = grind (arith, common_steps) steps 4000000

pub push_row-requires : goal.push_row-requires
push_row-requires g c = grind (arith, common_steps) steps 4000000
