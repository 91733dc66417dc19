use Rattle.std.proofs.Common.{ap, arith, length, refl}
use Rattle.cc_explain.proofs.window_drawing.push_parts.Goals as goal

-- ---- each piece fits

pub push_title-requires : goal.push_title-requires
push_title-requires c =
    omega (arith, c.push_opening.ensures.fits, ap length c.requires.empty)

pub push_sheet-requires : goal.push_sheet-requires
push_sheet-requires c =
    omega (arith, c.push_opening.ensures.fits, c.push_title.ensures.fits, ap length c.requires.empty)

pub push_heading-requires-clause-room : goal.push_heading-requires-clause-room
push_heading-requires-clause-room c =
    omega (arith, c.push_opening.ensures.fits, c.push_title.ensures.fits, c.push_sheet.ensures.fits, ap length c.requires.empty)

pub push_window_ground-requires : goal.push_window_ground-requires
push_window_ground-requires c =
    omega (arith, c.push_opening.ensures.fits, c.push_title.ensures.fits, c.push_sheet.ensures.fits, c.push_heading.ensures.fits, ap length c.requires.empty)

pub push_bytes-requires-clause-room : goal.push_bytes-requires-clause-room
push_bytes-requires-clause-room c =
    omega (arith, c.push_opening.ensures.fits, c.push_title.ensures.fits, c.push_sheet.ensures.fits, c.push_heading.ensures.fits, c.push_window_ground.ensures.fits, ap length c.requires.empty)

pub push_numbers-requires-clause-room : goal.push_numbers-requires-clause-room
push_numbers-requires-clause-room c =
    omega (
      arith,
      c.push_opening.ensures.fits,
      c.push_title.ensures.fits,
      c.push_sheet.ensures.fits,
      c.push_heading.ensures.fits,
      c.push_window_ground.ensures.fits,
      c.push_bytes.ensures.fits,
      ap length c.requires.empty,
    )

pub push_bounds_marks-requires-clause-room : goal.push_bounds_marks-requires-clause-room
push_bounds_marks-requires-clause-room c =
    omega (
      arith,
      c.push_opening.ensures.fits,
      c.push_title.ensures.fits,
      c.push_sheet.ensures.fits,
      c.push_heading.ensures.fits,
      c.push_window_ground.ensures.fits,
      c.push_bytes.ensures.fits,
      c.push_numbers.ensures.fits,
      ap length c.requires.empty,
    )

pub push_address_mark-requires-clause-room : goal.push_address_mark-requires-clause-room
push_address_mark-requires-clause-room c =
    omega (
      arith,
      c.push_opening.ensures.fits,
      c.push_title.ensures.fits,
      c.push_sheet.ensures.fits,
      c.push_heading.ensures.fits,
      c.push_window_ground.ensures.fits,
      c.push_bytes.ensures.fits,
      c.push_numbers.ensures.fits,
      c.push_bounds_marks.ensures.fits,
      ap length c.requires.empty,
    )

pub push_ends-requires-clause-room : goal.push_ends-requires-clause-room
push_ends-requires-clause-room c =
    omega (
      arith,
      c.push_opening.ensures.fits,
      c.push_title.ensures.fits,
      c.push_sheet.ensures.fits,
      c.push_heading.ensures.fits,
      c.push_window_ground.ensures.fits,
      c.push_bytes.ensures.fits,
      c.push_numbers.ensures.fits,
      c.push_bounds_marks.ensures.fits,
      c.push_address_mark.ensures.fits,
      ap length c.requires.empty,
    )

pub push_markup-requires : goal.push_markup-requires
push_markup-requires c =
    omega (
      arith,
      c.push_opening.ensures.fits,
      c.push_title.ensures.fits,
      c.push_sheet.ensures.fits,
      c.push_heading.ensures.fits,
      c.push_window_ground.ensures.fits,
      c.push_bytes.ensures.fits,
      c.push_numbers.ensures.fits,
      c.push_bounds_marks.ensures.fits,
      c.push_address_mark.ensures.fits,
      c.push_ends.ensures.fits,
      ap length c.requires.empty,
    )

pub returns : goal.returns
returns c =
    rw (
      c.push_markup.ensures.value,
      c.push_ends.ensures.value,
      c.push_address_mark.ensures.value,
      c.push_bounds_marks.ensures.value,
      c.push_numbers.ensures.value,
      c.push_bytes.ensures.value,
      c.push_window_ground.ensures.value,
      c.push_heading.ensures.value,
      c.push_sheet.ensures.value,
      c.push_title.ensures.value,
      c.push_opening.ensures.value,
      c.from.ensures,
      c.requires.empty,
    ) refl
