use Rattle.std.proofs.Common.{[], ◌∷◌, ap, append_assoc, arith, length, length-append, rules}
use Rattle.cc_replay.specs.declared.table.Part.TheVariants.{Member}
use Rattle.cc_replay.specs.Rows.{items_text, names_line, table_rows, values_line}
use Rattle.cc_replay.proofs.RowLemmas.{bracketed}
use Rattle.cc_replay.proofs.rows.push_table.Goals as goal

pub push_values-requires : goal.push_values-requires
push_values-requires g c = (search rules, omega (arith, c.push_names.ensures.fits, c.requires))

pub push_items-requires-in-Json : goal.push_items-requires-in-Json
push_items-requires-in-Json g c =
    (search rules, omega (arith, ap length c.push.ensures, length-append c.args.page.now (123 ∷ []), c.requires))

pub push-requires-in-Json : goal.push-requires-in-Json
push-requires-in-Json g c = (
  search rules,
  omega (
    arith,
    ap length c.push.ensures,
    length-append c.args.page.now (123 ∷ []),
    c.push_items-in-Json.ensures.fits,
    c.requires,
  ),
)

pub returns-in-Csv : goal.returns-in-Csv
returns-in-Csv g c =
    let rows = table_rows c.args.rows.now in
    rw (c.in-Csv.is, c.push_values.ensures.value, c.push_names.ensures.value)
    (append_assoc c.args.page.now (names_line rows) (values_line rows))

pub returns-in-Json : goal.returns-in-Json
returns-in-Json g c =
    rw (c.in-Json.is, c.push-in-Json.ensures, c.push_items-in-Json.ensures.value, c.push.ensures)
    (bracketed c.args.page.now (123 ∷ []) (items_text Member (table_rows c.args.rows.now)) (125 ∷ 10 ∷ []))
