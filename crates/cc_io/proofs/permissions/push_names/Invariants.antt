use Rattle.std.proofs.Common.{◌≡◌, ◌+◌, ◌*◌, ◌≤◌, ◌++◌, drop, length}
use Rattle.std.specs.List.{join_by}
use Rattle.cc_word.specs.Permissions.{bits_of}
use Rattle.cc_io.specs.Permissions.{in_quotes, names_of_set, names_length, rows_of}
use Rattle.cc_io.proofs.PermissionLemmas.{separated}
use Rattle.cc_io.proofs.permissions.push_names.Given as goal

abbrev pub invariant-loop-flag : goal.invariant-loop-flag
invariant-loop-flag g l = record {
  text : l.page ++ separated l.quote l.between l.separator (names_of_set (bits_of l.perms) (drop l.flag-index (rows_of l.flags)))
      ≡ l.initial.page ++ join_by (in_quotes l.quote) l.between (names_of_set (bits_of l.perms) (rows_of l.flags));
  room : length l.page + names_length (2 * length l.quote + length l.between) (drop l.flag-index (rows_of l.flags))
      ≤ length l.initial.page + names_length (2 * length l.quote + length l.between) (rows_of l.flags);
  short : length l.separator ≤ length l.between;
}
