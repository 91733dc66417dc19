-- Names joined one after another.
use Rattle.std.proofs.Common.{◌≡◌, ℕ, ◌+◌, ◌<◌, ◌==◌, true, false, List, [], ◌∷◌, ◌++◌, length, drop, refl, sym, ◌∙◌, ap, append_assoc, get_or, ◌≤◌, arith}
use Rattle.std.proofs.lemmas.List.{append-nil, drop-map, drop_more, length-map, drop_all}
use Rattle.std.proofs.lemmas.List.Sums.{sum_by-cons}
use Rattle.std.specs.Int.RustNames.{bit_and}
use Rattle.std.specs.Prelude.{flat_map}
use Rattle.std.specs.List.{join_by, join_with_byte}
use Rattle.bitflags.specs.Sets.{Row}
use Rattle.bitflags.specs.declared.traits.Flag.{Flag}
use Rattle.cc_word.specs.Permissions.{bits_of}
use Rattle.cc_word.specs.declared.perms.Perms.{Perms}
use Rattle.cc_io.specs.Permissions.{in_quotes, names_of_set, names_length, rows_of}

-- the names after another, each after a separator
abbrev following : (quote between : List ℕ) → List (List ℕ) → List ℕ
following quote between names = flat_map (λ name. between ++ in_quotes quote name) names

-- the names one after another: the first after this separator, and each other after the one between names
abbrev pub separated : (quote between separator : List ℕ) → List (List ℕ) → List ℕ
separated quote between separator [] = []
separated quote between separator (name ∷ names) = separator ++ in_quotes quote name ++ following quote between names

pub separated-none : (quote between : List ℕ) (names : List (List ℕ)) → separated quote between [] names ≡ join_by (in_quotes quote) between names
separated-none quote between [] = refl
separated-none quote between (name ∷ names) = refl

separated-following : (quote between : List ℕ) (names : List (List ℕ)) → separated quote between between names ≡ following quote between names
separated-following quote between [] = refl
separated-following quote between (name ∷ names) = refl

-- names without quotation marks, joined by a byte
pub joined : (names : List (List ℕ)) → join_by (in_quotes []) (43 ∷ []) names ≡ join_with_byte 43 names
joined [] = refl
joined (name ∷ []) = append-nil (name ++ []) ∙ append-nil name
joined (name ∷ next ∷ names) =
    ap (λ (l : List ℕ). l ++ 43 ∷ join_by (in_quotes []) (43 ∷ []) (next ∷ names)) (append-nil name)
    ∙ ap (λ (l : List ℕ). name ++ 43 ∷ l) (joined (next ∷ names))

-- the row of a flag
abbrev pub row_of : Flag Perms → Row
row_of flag = (flag.name.now, bits_of flag.value)

-- the flag that a look-up past the end gives: without name and bits
abbrev pub nothing : Flag Perms
nothing = record { name = record { ref_ptr = (0, 0); now = [] }; value = record { 0 = 0 } }

-- the rows from an index on are the row at it and those after it
pub next_row : (flags : List (Flag Perms)) (i : ℕ) → i < length flags
    → drop i (rows_of flags) ≡ row_of (get_or flags i nothing) ∷ drop (i + 1) (rows_of flags)
next_row flags i h =
    drop-map row_of i flags ∙ ap (λ (l : List (Flag Perms)). rows_of l) (drop_more flags i nothing h)
    ∙ ap (λ (l : List Row). row_of (get_or flags i nothing) ∷ l) (sym (drop-map row_of (i + 1) flags))

-- and so is the space that their names take
pub next_room : (more : ℕ) (flags : List (Flag Perms)) (i : ℕ) → i < length flags
    → names_length more (drop i (rows_of flags)) ≡ length (get_or flags i nothing).name.now + more + names_length more (drop (i + 1) (rows_of flags))
next_room more flags i h =
    ap (names_length more) (next_row flags i h) ∙ sum_by-cons (λ (row : Row). length row.0 + more) (row_of (get_or flags i nothing)) (drop (i + 1) (rows_of flags))

pub name_taken : (quote between text separator after whole : List ℕ) (bits : ℕ) (row : Row) (rows later : List Row)
    → rows ≡ row ∷ later → (bit_and bits row.1 == row.1) ≡ true → after ≡ text ++ separator ++ in_quotes quote row.0
    → text ++ separated quote between separator (names_of_set bits rows) ≡ whole
    → after ++ separated quote between between (names_of_set bits later) ≡ whole
name_taken quote between text separator after whole bits row rows later first is p h =
    let names = names_of_set bits later in
    let more = following quote between names in
    let opened : text ++ (separator ++ in_quotes quote row.0 ++ more) ≡ whole = rw (first, is) at h in
    let order : (text ++ separator ++ in_quotes quote row.0) ++ more ≡ text ++ (separator ++ in_quotes quote row.0 ++ more) = simp append_assoc in
    rw p (ap (λ (l : List ℕ). (text ++ separator ++ in_quotes quote row.0) ++ l) (separated-following quote between names) ∙ order ∙ opened)

pub name_passed : (quote between text separator whole : List ℕ) (bits : ℕ) (row : Row) (rows later : List Row)
    → rows ≡ row ∷ later → (bit_and bits row.1 == row.1) ≡ false
    → text ++ separated quote between separator (names_of_set bits rows) ≡ whole
    → text ++ separated quote between separator (names_of_set bits later) ≡ whole
name_passed quote between text separator whole bits row rows later first is h = rw (first, is) at h

pub none_left : (quote between text separator whole : List ℕ) (bits i : ℕ) (flags : List (Flag Perms)) → length flags ≤ i
    → text ++ separated quote between separator (names_of_set bits (drop i (rows_of flags))) ≡ whole → text ≡ whole
none_left quote between text separator whole bits i flags h e =
    let all : drop i (rows_of flags) ≡ [] = drop_all i (rows_of flags) (omega (arith, length-map flags row_of)) in
    sym (append-nil text) ∙ (rw all at e)
