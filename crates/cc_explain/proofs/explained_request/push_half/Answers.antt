use Rattle.std.proofs.Common.{append_assoc, rules}
use Rattle.std.proofs.lemmas.Bool.{ne_eqb}
use Rattle.cc_explain.proofs.explained_request.push_half.Goals as goal

pub returns-else-granule-eq8-clause-value : goal.returns-else-granule-eq8-clause-value
returns-else-granule-eq8-clause-value c =
    let large = ne_eqb c.args.granule 8 (search rules) in
    rw (large, c.end_with_decimal.ensures.value, c.push_hexadecimal.ensures.value, c.granule_count.ensures, c.from.ensures) (simp append_assoc)
