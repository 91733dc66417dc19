use Rattle.std.proofs.Common.{rules, ◌≡◌, Some, append_assoc}
use Rattle.cc_syntax.proofs.hints.push_pool_hint.Goals as goal

pub returns-in-Some-clause-value : goal.returns-in-Some-clause-value
returns-in-Some-clause-value c =
    let given : c.args.inexact ≡ Some c.in-Some.length = search rules in
    rw (c.end_with_hexadecimal.ensures.value, c.push_hexadecimal.ensures.value, c.round_length.ensures, c.from.ensures, c.granule.ensures.computed, c.get-bytes.ensures.value, given)
    (simp append_assoc)
