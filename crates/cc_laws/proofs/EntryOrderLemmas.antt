-- Entries in whatever order. Two lists have the same entries exactly if every weight adds up to the same
-- over both.
use Rattle.std.proofs.Common.{ℕ, zero, suc, ◌≡◌, ◌+◌, ◌≤◌, ◌&&◌, Bool, true, false, cond, nat_eq, List, [], ◌∷◌, Option, Some, None, Contains, count_by, sum_by, remove, arith, refl, ap, ◌∙◌, sym}
use Rattle.std.proofs.Common.{IsPermutation}
use Rattle.std.specs.Map.{lookup, remove_entry}
use Rattle.std.proofs.lemmas.List.Sums.{sum_by-cons}
use Rattle.std.proofs.lemmas.List.Sorted.{IsPermutation-cons, IsPermutation-refl, IsPermutation-remove, IsPermutation-sym, IsPermutation-trans, sum_by-IsPermutation}
use Rattle.std.proofs.lemmas.Bool.Decides.{nat_tests}
use Rattle.cc_heap.specs.declared.object.Object.{Object}
use Rattle.cc_heap.proofs.MemoryLemmas.{found_first}
use Rattle.cc_replay.specs.Kept.{id_weight}
use Rattle.cc_replay.proofs.EntryLemmas.{itself, none_counted}

-- an object under an id
abbrev pub Entry : Type 0
Entry = ℕ × Object

-- every weight adds up to the same over both lists
abbrev pub HaveSameSums : List Entry → List Entry → Type 0
HaveSameSums entries others = (weight : Entry → ℕ) → sum_by weight others ≡ sum_by weight entries

-- whether two entries are one
abbrev is_entry : Entry → Entry → Bool
is_entry one other =
    nat_eq one.0 other.0 && (nat_eq one.1.size other.1.size && (nat_eq one.1.align other.1.align
    && (nat_eq one.1.span.base other.1.span.base && nat_eq one.1.span.top other.1.span.top)))

is_entry-same : (one other : Entry) → is_entry one other ≡ true → other ≡ one
is_entry-same one other same =
    let id : other.0 ≡ one.0 = grind (arith, nat_tests) in
    let size : other.1.size ≡ one.1.size = grind (arith, nat_tests) in
    let align : other.1.align ≡ one.1.align = grind (arith, nat_tests) in
    let base : other.1.span.base ≡ one.1.span.base = grind (arith, nat_tests) in
    let top : other.1.span.top ≡ one.1.span.top = grind (arith, nat_tests) in
    λ i. (id i, record { size = size i; align = align i; span = record { base = base i; top = top i } })

is_entry-itself : (entry : Entry) → is_entry entry entry ≡ true
is_entry-itself entry = grind (arith, nat_tests)

in_first : (same : Bool) (entry first : Entry) (entries : List Entry) (n : ℕ) → (same ≡ true → first ≡ entry)
    → (1 ≤ n → Contains entries entry) → 1 ≤ cond same 1 0 + n → Contains (first ∷ entries) entry
in_first true entry first entries n is rest some = (0, omega arith, is refl)
in_first false entry first entries n is rest some = let (k, within, at) = rest (omega arith) in (suc k, omega arith, at)

-- an entry that is counted at least once is in the list
contains_counted : (entry : Entry) (entries : List Entry) → 1 ≤ count_by (is_entry entry) entries → Contains entries entry
contains_counted entry [] some = absurd (omega arith)
contains_counted entry (first ∷ entries) some =
    in_first (is_entry entry first) entry first entries (count_by (is_entry entry) entries) (is_entry-same entry first)
    (contains_counted entry entries)
    (rw (sum_by-cons (λ s. cond (is_entry entry s) 1 0) first entries) at some)

-- if the sums are the same, the first entry of one list is in the other
contains_first : (entry : Entry) (entries others : List Entry) → HaveSameSums (entry ∷ entries) others → Contains others entry
contains_first entry entries others same =
    let one : count_by (is_entry entry) (entry ∷ entries) ≡ 1 + count_by (is_entry entry) entries =
    sum_by-cons (λ s. cond (is_entry entry s) 1 0) entry entries ∙ rw (is_entry-itself entry) refl in
    contains_counted entry others (omega (arith, same (λ s. cond (is_entry entry s) 1 0), one))

empty_sums : (others : List Entry) → HaveSameSums [] others → IsPermutation [] others
empty_sums [] same = IsPermutation-refl []
empty_sums (first ∷ others) same = absurd (omega (arith, same (λ _. 1), sum_by-cons (λ _. 1) first others))

-- lists with the same sums have the same entries
pub reordered : (entries others : List Entry) → HaveSameSums entries others → IsPermutation entries others
reordered [] others same = empty_sums others same
reordered (entry ∷ entries) others same =
    let (k, within, is) = contains_first entry entries others same in
    let taken : IsPermutation others (entry ∷ remove others k) = IsPermutation-remove others k entry within (sym is) in
    let rest : HaveSameSums entries (remove others k) =
    λ weight. omega (
      arith,
      same weight,
      sum_by-cons weight entry entries,
      sum_by-IsPermutation weight others (entry ∷ remove others k) taken,
      sum_by-cons weight entry (remove others k),
    ) in
    IsPermutation-trans (entry ∷ entries) (entry ∷ remove others k) others
    (IsPermutation-cons entry entries (remove others k) (reordered entries (remove others k) rest))
    (IsPermutation-sym others (entry ∷ remove others k) taken)

-- ---- look-ups

-- an entry of the list counts under its id
contained_counted : (id : ℕ) (object : Object) (entries : List Entry) → Contains entries (id, object) → 1 ≤ sum_by (id_weight id) entries
contained_counted id object [] (k, within, at) = absurd (omega (arith, within))
contained_counted id object (first ∷ entries) (zero, within, at) =
    let key : id ≡ first.0 = ap (λ (e : Entry). e.0) (sym at) in
    let one : id_weight id first ≡ 1 = ap (λ (n : ℕ). cond (nat_eq id n) 1 0) (sym key) ∙ ap (λ (t : Bool). cond t 1 0) (itself id) in
    omega (arith, one, sum_by-cons (id_weight id) first entries)
contained_counted id object (first ∷ entries) (suc k, within, at) =
    omega (arith, contained_counted id object entries (k, omega (arith, within), at), sum_by-cons (id_weight id) first entries)

-- the entry that a look-up finds, and the others
pub found_one : (id : ℕ) (object : Object) (entries : List Entry) → lookup (nat_eq id) entries ≡ Some object
    → (weight : Entry → ℕ) → sum_by weight entries ≡ weight (id, object) + sum_by weight (remove_entry (nat_eq id) entries)
found_one id object entries found weight =
    omega (
      arith,
      sum_by-IsPermutation weight entries ((id, object) ∷ remove_entry (nat_eq id) entries) (found_first id object entries found),
      sum_by-cons weight (id, object) (remove_entry (nat_eq id) entries),
    )

-- each id has one entry at most
abbrev pub AreOnceIn : List Entry → Type 0
AreOnceIn entries = (id : ℕ) → sum_by (id_weight id) entries ≤ 1

pub own_weight : (id : ℕ) (object : Object) → id_weight id (id, object) ≡ 1
own_weight id object = ap (λ (t : Bool). cond t 1 0) (itself id)

-- the order of entries with an id each says nothing to a look-up
pub lookup_along : (id : ℕ) (entries others : List Entry) → AreOnceIn entries → HaveSameSums entries others
    → lookup (nat_eq id) others ≡ lookup (nat_eq id) entries
lookup_along id entries others once same = by_found (lookup (nat_eq id) entries) (lookup (nat_eq id) others) refl refl
  where
    by_found : (one other : Option Object) → lookup (nat_eq id) entries ≡ one → lookup (nat_eq id) others ≡ other
        → lookup (nat_eq id) others ≡ lookup (nat_eq id) entries
    by_found None None is is_other = is_other ∙ sym is
    by_found None (Some other) is is_other =
        absurd (omega (arith, none_counted id entries is, found_one id other others is_other (id_weight id), own_weight id other, same (id_weight id)))
    by_found (Some one) None is is_other =
        absurd (omega (arith, none_counted id others is_other, found_one id one entries is (id_weight id), own_weight id one, same (id_weight id)))
    by_found (Some one) (Some other) is is_other = is_other ∙ ap (λ (o : Object). Some o) (by_place place) ∙ sym is
      where
        rest : List Entry
        rest = remove_entry (nat_eq id) others

        place : Contains ((id, other) ∷ rest) (id, one)
        place = contains_first (id, one) (remove_entry (nat_eq id) entries) ((id, other) ∷ rest) (λ weight. omega (
          arith,
          same weight,
          found_one id one entries is weight,
          found_one id other others is_other weight,
          sum_by-cons weight (id, one) (remove_entry (nat_eq id) entries),
          sum_by-cons weight (id, other) rest,
        ))

        by_place : Contains ((id, other) ∷ rest) (id, one) → other ≡ one
        by_place (zero, within, at) = ap (λ (e : Entry). e.1) at
        by_place (suc k, within, at) =
            let counted = contained_counted id one rest (k, omega (arith, within), at) in
            absurd (omega (arith, counted, found_one id other others is_other (id_weight id), own_weight id other, same (id_weight id), once id))
