use Rattle.std.proofs.Common.{◌≤◌, ◌+◌, ◌%◌, arith, codes, length}
use Rattle.cc_explain.specs.WindowDrawing.{number_text}
use Rattle.cc_explain.proofs.TextLemmas.{longer, ten}
use Rattle.cc_explain.proofs.window_drawing.push_numbers.Goals as goal

-- ---- each piece fits

pub push_number-requires-2-clause-room : goal.push_number-requires-2-clause-room
push_number-requires-2-clause-room c =
    let opened : length c.push.new.self ≤ length c.args.text.now + 25 = longer _ _ _ 25 c.push.ensures (omega arith) in
    omega (arith, opened, c.push_number.ensures.fits, c.requires.room)

pub push_number-requires-3-clause-room : goal.push_number-requires-3-clause-room
push_number-requires-3-clause-room c =
    let opened : length c.push.new.self ≤ length c.args.text.now + 25 = longer _ _ _ 25 c.push.ensures (omega arith) in
    omega (arith, opened, c.push_number.ensures.fits, c.push_number-2.ensures.fits, c.requires.room)

pub push_number-requires-4-clause-room : goal.push_number-requires-4-clause-room
push_number-requires-4-clause-room c =
    let opened : length c.push.new.self ≤ length c.args.text.now + 25 = longer _ _ _ 25 c.push.ensures (omega arith) in
    omega (arith, opened, c.push_number.ensures.fits, c.push_number-2.ensures.fits, c.push_number-3.ensures.fits, c.requires.room)

pub push_number-requires-5-clause-room : goal.push_number-requires-5-clause-room
push_number-requires-5-clause-room c =
    let opened : length c.push.new.self ≤ length c.args.text.now + 25 = longer _ _ _ 25 c.push.ensures (omega arith) in
    omega (arith, opened, c.push_number.ensures.fits, c.push_number-2.ensures.fits, c.push_number-3.ensures.fits, c.push_number-4.ensures.fits, c.requires.room)

pub push_number-requires-6-clause-room : goal.push_number-requires-6-clause-room
push_number-requires-6-clause-room c =
    let opened : length c.push.new.self ≤ length c.args.text.now + 25 = longer _ _ _ 25 c.push.ensures (omega arith) in
    omega (arith, opened, c.push_number.ensures.fits, c.push_number-2.ensures.fits, c.push_number-3.ensures.fits, c.push_number-4.ensures.fits, c.push_number-5.ensures.fits, c.requires.room)

pub push_number-requires-7-clause-room : goal.push_number-requires-7-clause-room
push_number-requires-7-clause-room c =
    let opened : length c.push.new.self ≤ length c.args.text.now + 25 = longer _ _ _ 25 c.push.ensures (omega arith) in
    omega (
      arith,
      opened,
      c.push_number.ensures.fits,
      c.push_number-2.ensures.fits,
      c.push_number-3.ensures.fits,
      c.push_number-4.ensures.fits,
      c.push_number-5.ensures.fits,
      c.push_number-6.ensures.fits,
      c.requires.room,
    )

pub push_number-requires-8-clause-room : goal.push_number-requires-8-clause-room
push_number-requires-8-clause-room c =
    let opened : length c.push.new.self ≤ length c.args.text.now + 25 = longer _ _ _ 25 c.push.ensures (omega arith) in
    omega (
      arith,
      opened,
      c.push_number.ensures.fits,
      c.push_number-2.ensures.fits,
      c.push_number-3.ensures.fits,
      c.push_number-4.ensures.fits,
      c.push_number-5.ensures.fits,
      c.push_number-6.ensures.fits,
      c.push_number-7.ensures.fits,
      c.requires.room,
    )

pub push-requires-2 : goal.push-requires-2
push-requires-2 c =
    let opened : length c.push.new.self ≤ length c.args.text.now + 25 = longer _ _ _ 25 c.push.ensures (omega arith) in
    omega (
      arith,
      opened,
      c.push_number.ensures.fits,
      c.push_number-2.ensures.fits,
      c.push_number-3.ensures.fits,
      c.push_number-4.ensures.fits,
      c.push_number-5.ensures.fits,
      c.push_number-6.ensures.fits,
      c.push_number-7.ensures.fits,
      c.push_number-8.ensures.fits,
      c.requires.room,
    )

pub returns-clause-value : goal.returns-clause-value
returns-clause-value c =
    let first = c.args.first in
    ten c.args.text.now (codes "<g text-anchor='middle'>\n")
    (number_text (codes "<text x='1024' y='880'>") first)
    (number_text (codes "<text x='3072' y='880'>") ((first + 1) % 8))
    (number_text (codes "<text x='5120' y='880'>") ((first + 2) % 8))
    (number_text (codes "<text x='7168' y='880'>") ((first + 3) % 8))
    (number_text (codes "<text x='9216' y='880'>") ((first + 4) % 8))
    (number_text (codes "<text x='11264' y='880'>") ((first + 5) % 8))
    (number_text (codes "<text x='13312' y='880'>") ((first + 6) % 8))
    (number_text (codes "<text x='15360' y='880'>") ((first + 7) % 8))
    (codes "</g>\n") _ _ _ _ _ _ _ _ _ _
    c.push.ensures c.push_number.ensures.value c.push_number-2.ensures.value c.push_number-3.ensures.value c.push_number-4.ensures.value
    c.push_number-5.ensures.value c.push_number-6.ensures.value c.push_number-7.ensures.value c.push_number-8.ensures.value c.push-2.ensures

pub returns-clause-fits : goal.returns-clause-fits
returns-clause-fits c =
    let opened : length c.push.new.self ≤ length c.args.text.now + 25 = longer _ _ _ 25 c.push.ensures (omega arith) in
    let closed : length c.push-2.new.self ≤ length c.push_number-8.new.text + 5 = longer _ _ _ 5 c.push-2.ensures (omega arith) in
    omega (
      arith,
      opened,
      c.push_number.ensures.fits,
      c.push_number-2.ensures.fits,
      c.push_number-3.ensures.fits,
      c.push_number-4.ensures.fits,
      c.push_number-5.ensures.fits,
      c.push_number-6.ensures.fits,
      c.push_number-7.ensures.fits,
      c.push_number-8.ensures.fits,
      closed,
    )
