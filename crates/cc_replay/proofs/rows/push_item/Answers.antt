use Rattle.std.proofs.Common.{◌≤◌, [], ◌∷◌, ap, arith, length, length-append, rules}
use Rattle.cc_replay.specs.Rows.{item_text, json_key, member_text, value_text}
use Rattle.cc_replay.proofs.RowLemmas.{joined}
use Rattle.cc_replay.proofs.rows.push_item.Goals as goal

pub push_value-requires : goal.push_value-requires
push_value-requires g c =
    let short : length c.args.row.now.name.now ≤ 40 = search rules in (
      search rules,
      omega (
        arith,
        ap length c.push.ensures,
        ap length c.push-in-Line.ensures,
        length-append c.args.page.now c.args.row.now.name.now,
        length-append c.push.new.self (32 ∷ []),
        short,
        c.requires,
      ),
    )

pub push-requires-in-Line-2 : goal.push-requires-in-Line-2
push-requires-in-Line-2 g c =
    let short : length c.args.row.now.name.now ≤ 40 = search rules in (
      search rules,
      omega (
        arith,
        ap length c.push.ensures,
        ap length c.push-in-Line.ensures,
        length-append c.args.page.now c.args.row.now.name.now,
        length-append c.push.new.self (32 ∷ []),
        c.push_value.ensures.fits,
        short,
        c.requires,
      ),
    )

pub push_key-requires : goal.push_key-requires
push_key-requires g c =
    let short : length c.args.row.now.name.now ≤ 40 = search rules in
    (search rules, omega (arith, ap length c.push-in-Member.ensures, length-append c.args.page.now (34 ∷ []), short, c.requires))

pub push-requires-in-Member-2 : goal.push-requires-in-Member-2
push-requires-in-Member-2 g c =
    let short : length c.args.row.now.name.now ≤ 40 = search rules in (
      search rules,
      omega (arith, ap length c.push-in-Member.ensures, length-append c.args.page.now (34 ∷ []), c.push_key.ensures.fits, short, c.requires),
    )

pub push_member-requires : goal.push_member-requires
push_member-requires g c =
    let short : length c.args.row.now.name.now ≤ 40 = search rules in (
      search rules,
      omega (
        arith,
        ap length c.push-in-Member.ensures,
        ap length c.push-in-Member-2.ensures,
        length-append c.args.page.now (34 ∷ []),
        length-append c.push_key.new.page (34 ∷ 58 ∷ 32 ∷ []),
        c.push_key.ensures.fits,
        short,
        c.requires,
      ),
    )

pub returns-in-Line-clause-fits : goal.returns-in-Line-clause-fits
returns-in-Line-clause-fits g c =
    let short : length c.args.row.now.name.now ≤ 40 = search rules in
    omega (
      arith,
      ap length c.push.ensures,
      ap length c.push-in-Line.ensures,
      ap length c.push-in-Line-2.ensures,
      length-append c.args.page.now c.args.row.now.name.now,
      length-append c.push.new.self (32 ∷ []),
      length-append c.push_value.new.page (10 ∷ []),
      c.push_value.ensures.fits,
      short,
    )

pub returns-in-Member-clause-fits : goal.returns-in-Member-clause-fits
returns-in-Member-clause-fits g c =
    let short : length c.args.row.now.name.now ≤ 40 = search rules in
    omega (
      arith,
      ap length c.push-in-Member.ensures,
      ap length c.push-in-Member-2.ensures,
      length-append c.args.page.now (34 ∷ []),
      length-append c.push_key.new.page (34 ∷ 58 ∷ 32 ∷ []),
      c.push_key.ensures.fits,
      c.push_member.ensures.fits,
      short,
    )

pub returns-in-Line-clause-value : goal.returns-in-Line-clause-value
unfolding item_text
returns-in-Line-clause-value g c =
    rw (c.in-Line.is, c.push-in-Line-2.ensures, c.push_value.ensures.value, c.push-in-Line.ensures, c.push.ensures)
    (joined c.args.page.now c.args.row.now.name.now (32 ∷ []) (value_text c.args.row.now.value) (10 ∷ []))

pub returns-in-Member-clause-value : goal.returns-in-Member-clause-value
unfolding item_text
returns-in-Member-clause-value g c =
    rw (c.in-Member.is, c.push_member.ensures.value, c.push-in-Member-2.ensures, c.push_key.ensures.value, c.push-in-Member.ensures)
    (joined c.args.page.now (34 ∷ []) (json_key c.args.row.now.name.now) (34 ∷ 58 ∷ 32 ∷ []) (member_text c.args.row.now.value))
