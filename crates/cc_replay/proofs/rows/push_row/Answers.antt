use Rattle.std.proofs.Common.{[], ◌∷◌, ap, arith, length, length-append, rules}
use Rattle.cc_replay.specs.declared.table.Part.TheVariants.{Member}
use Rattle.cc_replay.specs.Rows.{items_text, table_rows}
use Rattle.cc_replay.proofs.RowLemmas.{bracketed}
use Rattle.cc_replay.proofs.rows.push_row.Goals as goal

pub push-requires : goal.push-requires
push-requires g c = (search rules, omega (arith, c.push_items.ensures.fits, c.requires))

pub push_items-requires-in-Json : goal.push_items-requires-in-Json
push_items-requires-in-Json g c = (
  search rules,
  omega (
    arith,
    ap length c.push-in-Json.ensures,
    length-append c.args.page.now (123 ∷ []),
    c.requires,
  ),
)

pub push-requires-in-Json-2 : goal.push-requires-in-Json-2
push-requires-in-Json-2 g c = (
  search rules,
  omega (
    arith,
    ap length c.push-in-Json.ensures,
    length-append c.args.page.now (123 ∷ []),
    c.push_items-in-Json.ensures.fits,
    c.requires,
  ),
)

pub returns-in-Text-clause-fits : goal.returns-in-Text-clause-fits
returns-in-Text-clause-fits g c =
    omega (arith, c.push_items.ensures.fits, ap length c.push.ensures, length-append c.push_items.new.page (10 ∷ []))

pub returns-in-Json-clause-value : goal.returns-in-Json-clause-value
returns-in-Json-clause-value g c =
    rw (c.in-Json.is, c.push-in-Json-2.ensures, c.push_items-in-Json.ensures.value, c.push-in-Json.ensures)
    (bracketed c.args.page.now (123 ∷ []) (items_text Member (table_rows c.args.row.now)) (125 ∷ []))

pub returns-in-Json-clause-fits : goal.returns-in-Json-clause-fits
returns-in-Json-clause-fits g c =
    omega (
      arith,
      ap length c.push-in-Json.ensures,
      ap length c.push-in-Json-2.ensures,
      length-append c.args.page.now (123 ∷ []),
      length-append c.push_items-in-Json.new.page (125 ∷ []),
      c.push_items-in-Json.ensures.fits,
    )
