use Rattle.std.proofs.Common.{◌≡◌, ◌+◌, ◌*◌, arith, ap, ◌∙◌, ◌++◌, length, List, ℕ, Bor, rules, get_or}
use Rattle.std.proofs.lemmas.Bool.{eq-eqb, ne_eqb}
use Rattle.std.specs.Int.RustNames.{bit_and}
use Rattle.cc_word.specs.Permissions.{bits_of}
use Rattle.cc_io.specs.Permissions.{in_quotes, names_of_set, rows_of}
use Rattle.cc_io.proofs.PermissionLemmas.{separated-none, next_row, next_room, row_of, nothing, name_taken, name_passed, none_left}
use Rattle.cc_io.proofs.permissions.push_names.Goals.{then-contains, else-contains}
use Rattle.cc_io.proofs.permissions.push_names.Goals as goal

pub loop-flag-init : goal.loop-flag-init
loop-flag-init g c = record {
  text = ap (λ (l : List ℕ). c.args.page.now ++ l) (separated-none c.args.quote.now c.args.between.now (names_of_set (bits_of c.args.perms) (rows_of c.args.flags.now)));
  room = omega arith;
  short = omega arith;
}

pub push_quoted-requires : goal.push_quoted-requires
push_quoted-requires g c =
    let next = next_room (2 * length c.args.quote.now + length c.args.between.now) c.args.flags.now c.loop-flag.flag-index c.loop-flag-test.true in
    omega (
      arith,
      next,
      ap length c.name.ensures,
      ap length c.as_bytes.ensures.value,
      c.loop-flag.invariant.room,
      c.loop-flag.invariant.short,
      c.requires,
    )

pub loop-flag-preserved : goal.loop-flag-preserved
loop-flag-preserved g c =
    let i = c.loop-flag.invariant in
    let flags = c.args.flags.now in
    let bits = bits_of c.args.perms in
    let row = row_of (get_or flags c.loop-flag.flag-index nothing) in
    let next = next_row flags c.loop-flag.flag-index c.loop-flag-test.true in
    let room = next_room (2 * length c.args.quote.now + length c.args.between.now) flags c.loop-flag.flag-index c.loop-flag-test.true in
    elim c.if-contains.branch [
      | then-contains w ↦
          let name_is : w.as_bytes.result.now ≡ row.0 = w.as_bytes.ensures.value ∙ w.name.ensures in
          let has : bit_and bits row.1 ≡ row.1 = search rules in
          record {
            text = rw (w.page-is, w.separator-is)
                (name_taken c.args.quote.now c.args.between.now _ _ _ _ bits row _ _ next (eq-eqb (bit_and bits row.1) row.1 has)
                (w.push_quoted.ensures.value ∙ ap (λ (l : List ℕ). c.loop-flag.page ++ c.loop-flag.separator.now ++ in_quotes c.args.quote.now l) name_is)
                i.text);
            room = omega (arith, room, ap length name_is, w.push_quoted.ensures.fits, ap length w.page-is, i.room, i.short);
            short = omega (arith, ap (λ (s : Bor (List ℕ)). length s.now) w.separator-is);
          }
      | else-contains w ↦
          let lacks : (bit_and bits row.1 ≡ row.1) → ⊥ = search rules in
          record {
            text = rw (w.page-is, w.separator-is)
                (name_passed c.args.quote.now c.args.between.now _ _ _ bits row _ _ next (ne_eqb (bit_and bits row.1) row.1 lacks) i.text);
            room = omega (arith, room, ap length w.page-is, i.room);
            short = omega (arith, ap (λ (s : Bor (List ℕ)). length s.now) w.separator-is, i.short);
          }
    ]

pub returns-clause-value : goal.returns-clause-value
returns-clause-value g c =
    none_left c.args.quote.now c.args.between.now c.loop-flag.page c.loop-flag.separator.now _ (bits_of c.args.perms) c.loop-flag.flag-index c.args.flags.now
    c.loop-flag-test.false c.loop-flag.invariant.text
