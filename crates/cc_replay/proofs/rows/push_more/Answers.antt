use Rattle.std.proofs.Common.{◌≡◌, ◌++◌, ◌∙◌, List, ◌∷◌, ap, arith, length, length-append, sym}
use Rattle.cc_replay.specs.declared.table.Row.{Row}
use Rattle.cc_replay.specs.Rows.{item_text, more_items, table_rows, separator_of}
use Rattle.cc_replay.proofs.RowLemmas.{headed}
use Rattle.cc_replay.proofs.rows.push_more.Goals as goal

pub rows-preserved : goal.rows-preserved
rows-preserved g c =
    let part = c.args.part in
    let row = c.in-Some.row.now in
    let rest : c.rows.rest.now ≡ row ∷ c.in-Some.after.now = c.in-Some.ensures.cases.0 in
    record {
      text = rw (c.push_item.ensures.value, c.push.ensures, c.separator_of.ensures.value)
          (headed c.rows.page (separator_of part) (item_text part (record { name = row.name.now; value = row.value })) (more_items part (table_rows c.in-Some.after.now))
          ∙ ap (λ (l : List Row). c.rows.page ++ more_items part (table_rows l)) (sym rest) ∙ c.rows.invariant.text);
      fits = omega (
        arith,
        ap length rest,
        ap length c.push.ensures,
        length-append c.rows.page c.separator_of.result.now,
        c.separator_of.ensures.fits,
        c.push_item.ensures.fits,
        c.rows.invariant.fits,
      );
    }
