use Rattle.std.proofs.Common.{◌<◌, arith}
use Rattle.cc_bounds.specs.Decoding.{stored_exponent}
use Rattle.cc_bounds.proofs.DecodingLemmas.{exponent_field-capped, exponent_field-fits}
use Rattle.cc_bounds.proofs.StoredLemmas.{small-short, small-stored}
use Rattle.cc_bounds.proofs.encoding.stores_with.Goals as goal

pub ends_in_space-requires : goal.ends_in_space-requires
ends_in_space-requires c =
    let fields = c.args.fields.now in
    let capped = exponent_field-capped fields in
    let small : stored_exponent fields < 51 = omega (arith, capped, c.requires.is_field, c.if-exponent-lt-FIRST_LARGE_EXPONENT.true) in
    let both = small-short fields c.args.bounds.now c.requires.decodes small in
    record { base_fits = omega (arith); in_order = both.0; short = omega (arith, both.1) }

pub large_stores-requires : goal.large_stores-requires
large_stores-requires c =
    let fits = exponent_field-fits c.args.fields.now in
    record {
      is_field = c.requires.is_field;
      large = omega (arith, c.if-exponent-lt-FIRST_LARGE_EXPONENT.false);
      fits = omega (arith, fits, c.requires.is_field);
    }

pub returns-then-exponent-lt-FIRST_LARGE_EXPONENT : goal.returns-then-exponent-lt-FIRST_LARGE_EXPONENT
returns-then-exponent-lt-FIRST_LARGE_EXPONENT c =
    let fields = c.args.fields.now in
    let capped = exponent_field-capped fields in
    let small : stored_exponent fields < 51 = omega (arith, capped, c.requires.is_field, c.if-exponent-lt-FIRST_LARGE_EXPONENT.true) in
    let law = small-stored fields c.args.bounds.now c.requires.decodes small in
    (λ yes. law.0 (c.ends_in_space.ensures.0 yes), λ stores. c.ends_in_space.ensures.1 (law.1 stores))

pub returns-else-exponent-lt-FIRST_LARGE_EXPONENT : goal.returns-else-exponent-lt-FIRST_LARGE_EXPONENT
returns-else-exponent-lt-FIRST_LARGE_EXPONENT c = c.large_stores.ensures c.args.bounds.now c.requires.decodes
