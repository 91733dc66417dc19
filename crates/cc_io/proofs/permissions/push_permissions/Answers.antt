use Rattle.std.proofs.Common.{rules, ◌≡◌, ◌++◌, ◌∙◌, ◌∷◌, [], ap, List, ℕ}
use Rattle.std.proofs.lemmas.Bool.{ne_eqb}
use Rattle.std.specs.List.{join_by}
use Rattle.bitflags.specs.Sets.{Row}
use Rattle.cc_word.specs.Permissions.{bits_of, permission_table}
use Rattle.cc_io.specs.Permissions.{in_quotes, names_of_set, permissions_text, rows_of}
use Rattle.cc_io.proofs.PermissionLemmas.{joined}
use Rattle.cc_io.proofs.permissions.push_permissions.Goals as goal

pub returns-else-bits-eq0-clause-value : goal.returns-else-bits-eq0-clause-value
unfolding permissions_text
returns-else-bits-eq0-clause-value g c =
    let rows : rows_of c.flags.result.now ≡ permission_table = search rules in
    let some = ne_eqb (bits_of c.args.perms) 0 (search rules) in
    rw some
    (c.push_names.ensures.value
    ∙ ap (λ (l : List Row). c.args.page.now ++ join_by (in_quotes []) (43 ∷ []) (names_of_set (bits_of c.args.perms) l)) rows
    ∙ ap (λ (l : List ℕ). c.args.page.now ++ l) (joined (names_of_set (bits_of c.args.perms) permission_table)))
