-- The digits of a percentage, rows after others, and pieces after a page.
use Rattle.std.proofs.Common.{◌≡◌, ℕ, ◌%◌, ◌+◌, List, [], ◌∷◌, ◌++◌, ◌∙◌, ap, append_assoc, arith, refl}
use Rattle.std.specs.Prelude.{codes, decimal}
use Rattle.cc_io.proofs.DecimalLemmas.{one_digit}
use Rattle.cc_heap.specs.declared.settings.Settings.{Settings}
use Rattle.cc_replay.specs.declared.table.Row.{Row as RowValue}
use Rattle.cc_replay.specs.declared.table.Value.TheVariants.{Sweeping}
use Rattle.cc_replay.specs.Rows.{Row, table_rows}

pub last_digit : (n : ℕ) → decimal (n % 10) ≡ (48 + n % 10) ∷ []
last_digit n =
    let same : n % 10 % 10 ≡ n % 10 = omega arith in
    one_digit (n % 10) (omega arith) ∙ ap (λ (d : ℕ). (48 + d) ∷ []) same

pub rows_after : (rows more : List RowValue) → table_rows (rows ++ more) ≡ table_rows rows ++ table_rows more
rows_after [] more = refl
rows_after (row ∷ rows) more = ap (λ (others : List Row). record { name = row.name.now; value = row.value } ∷ others) (rows_after rows more)

pub bracketed : (page first inner last : List ℕ) → page ++ first ++ inner ++ last ≡ page ++ (first ++ (inner ++ last))
bracketed page first inner last = append_assoc (page ++ first) inner last ∙ append_assoc page first (inner ++ last)

pub headed : (page heading feed rows : List ℕ) → page ++ heading ++ feed ++ rows ≡ page ++ (heading ++ feed ++ rows)
headed page heading feed rows = ap (λ (l : List ℕ). l ++ rows) (append_assoc page heading feed) ∙ append_assoc page (heading ++ feed) rows

pub joined : (page a b c d : List ℕ) → page ++ a ++ b ++ c ++ d ≡ page ++ (a ++ b ++ c ++ d)
joined page a b c d = ap (λ (l : List ℕ). l ++ d) (headed page a b c) ∙ append_assoc page (a ++ b ++ c) d

-- the row of the policy of settings
abbrev pub policy_row : Settings → Row
policy_row settings = record { name = codes "policy"; value = Sweeping settings.policy }
