-- The names of the permissions are text.
use Rattle.std.proofs.Common.{true≢false, ◌≡◌, ℕ, List, [], ◌∷◌, Bool, true, false, ◌&&◌, ◌==◌, None, Some, if◌then◌else◌, refl, sym, subst}
use Rattle.std.specs.Char.{is_ascii}
use Rattle.std.specs.Cmp.Lexicographic.{pointwise, same_text}
use Rattle.std.specs.List.{list_all}
use Rattle.std.specs.Prelude.{Option, nat_eq, length}
use Rattle.std.specs.Str.{IsAscii, IsUtf8}
use Rattle.std.proofs.lemmas.Bool.{ltb-true}
use Rattle.std.proofs.lemmas.Str.{IsUtf8-from_ascii}
use Rattle.std.proofs.lemmas.Str.Ascii.{IsAscii-cons, IsAscii-nil}
use Rattle.bitflags.specs.Sets.{Row, find_name, find_row}
use Rattle.cc_word.specs.Permissions.{permission_table}

-- A list of ASCII alone, by its test.
ascii : (bytes : List ℕ) → list_all is_ascii bytes ≡ true → IsAscii bytes
ascii [] all = IsAscii-nil
ascii (byte ∷ bytes) all = by (is_ascii byte) refl all (ascii bytes) where
  by : (small : Bool) → is_ascii byte ≡ small → (small && list_all is_ascii bytes) ≡ true → (list_all is_ascii bytes ≡ true → IsAscii bytes) → IsAscii (byte ∷ bytes)
  by true small rest later = IsAscii-cons byte bytes (ltb-true byte 128 small) (later rest)
  by false small rest later = absurd (true≢false (sym rest))

-- Bytes that are not text are not a name in a table of text.
missing : (rows : List Row) (name : List ℕ) → list_all (λ row. list_all is_ascii row.0) rows ≡ true → ¬ IsUtf8 name → find_row rows name ≡ None
unfolding find_row
missing [] name texts is_not = refl
missing (row ∷ rows) name texts is_not =
    by (list_all is_ascii row.0) (pointwise nat_eq row.0 name) (find_row rows name) refl refl texts (λ rest. missing rows name rest is_not) where
      by : (is_text same : Bool) (later : Option ℕ) → list_all is_ascii row.0 ≡ is_text → pointwise nat_eq row.0 name ≡ same
          → (is_text && list_all (λ row. list_all is_ascii row.0) rows) ≡ true → (list_all (λ row. list_all is_ascii row.0) rows ≡ true → later ≡ None)
          → (if same then Some row.1 else later) ≡ None
      by true true later text same rest missed = absurd (is_not (subst IsUtf8 (same_text row.0 name (sym same)) (IsUtf8-from_ascii row.0 (ascii row.0 text))))
      by true false later text same rest missed = missed rest
      by false same later text equal rest missed = absurd (true≢false (sym rest))

-- Bytes that are not text are not the name of a permission.
pub unnamed : (name : List ℕ) → ¬ IsUtf8 name → None ≡ find_name permission_table name
unnamed name is_not = by (length name == 0) where
  by : (empty : Bool) → None ≡ (if empty then None else find_row permission_table name)
  by true = refl
  by false = sym (missing permission_table name refl is_not)
