-- The entries of a heap under an id.
use Rattle.std.proofs.Common.{ℕ, Bool, true, false, cond, ◌≡◌, ◌+◌, ◌≤◌, nat_eq, List, [], ◌∷◌, Option, Some, None, sum_by, arith, refl, ap, ◌∙◌, IsPermutation}
use Rattle.std.specs.Option.{IsNone}
use Rattle.std.specs.Map.{lookup}
use Rattle.std.proofs.lemmas.Bool.Decides.{nat_tests}
use Rattle.std.proofs.lemmas.List.Sums.{sum_by-cons}
use Rattle.std.proofs.lemmas.List.Sorted.{sum_by-IsPermutation}
use Rattle.cc_heap.specs.declared.object.Object.{Object}
use Rattle.cc_replay.specs.Kept.{id_weight}

-- one list has the entries of another and one more
abbrev pub HasOneMore : List (ℕ × Object) → ℕ × Object → List (ℕ × Object) → Type 0
HasOneMore entries entry more =
    (weight : ℕ × Object → ℕ) → sum_by weight more ≡ weight entry + sum_by weight entries

pub one_more : (entries more : List (ℕ × Object)) (entry : ℕ × Object) → IsPermutation (entry ∷ entries) more
    → HasOneMore entries entry more
one_more entries more entry adds weight =
    omega (arith, sum_by-IsPermutation weight (entry ∷ entries) more adds, sum_by-cons weight entry entries)

pub one_fewer : (entries fewer : List (ℕ × Object)) (entry : ℕ × Object) → IsPermutation entries (entry ∷ fewer)
    → HasOneMore fewer entry entries
one_fewer entries fewer entry takes weight =
    omega (arith, sum_by-IsPermutation weight entries (entry ∷ fewer) takes, sum_by-cons weight entry fewer)

pub itself : (id : ℕ) → nat_eq id id ≡ true
itself id = grind (arith, nat_tests)

pub same_key : (id key : ℕ) → nat_eq id key ≡ true → id ≡ key
same_key id key is = grind (arith, nat_tests)

pub other_key : (id key : ℕ) → (id ≡ key → ⊥) → nat_eq key id ≡ false
other_key id key differ = by_test (nat_eq key id) refl
  where
    by_test : (b : Bool) → nat_eq key id ≡ b → nat_eq key id ≡ false
    by_test true is = absurd (differ (sym_key (same_key key id is)))
      where
        sym_key : key ≡ id → id ≡ key
        sym_key e = cc
    by_test false is = is

-- an absent object
pub none_is : (found : Option Object) → IsNone found → found ≡ None
none_is None none = refl
none_is (Some object) none = absurd (never none)
  where
    never : true ≡ false → ⊥
    never e = cc

-- no entry has an id that a look-up does not find
pub none_counted : (id : ℕ) (entries : List (ℕ × Object)) → lookup (nat_eq id) entries ≡ None
    → sum_by (id_weight id) entries ≡ 0
none_counted id [] none = refl
none_counted id ((key, object) ∷ entries) none =
    by_test (nat_eq id key) refl none (none_counted id entries)
  where
    by_test : (b : Bool) → nat_eq id key ≡ b → cond b (Some object) (lookup (nat_eq id) entries) ≡ None
        → (lookup (nat_eq id) entries ≡ None → sum_by (id_weight id) entries ≡ 0)
        → sum_by (id_weight id) ((key, object) ∷ entries) ≡ 0
    by_test true is never rest = absurd (not_none never)
      where
        not_none : Some object ≡ None → ⊥
        not_none found = cc
    by_test false is rest_none rest =
        let first : id_weight id (key, object) ≡ 0 = ap (λ (t : Bool). cond t 1 0) is in
        omega (arith, first, rest rest_none, sum_by-cons (id_weight id) (key, object) entries)

-- a look-up finds nothing under an id that no entry has
pub found_none : (id : ℕ) (entries : List (ℕ × Object)) → sum_by (id_weight id) entries ≡ 0
    → IsNone (lookup (nat_eq id) entries)
found_none id [] none = refl
found_none id ((key, object) ∷ entries) none =
    by_test (nat_eq id key) refl (found_none id entries)
  where
    by_test : (b : Bool) → nat_eq id key ≡ b → (sum_by (id_weight id) entries ≡ 0 → IsNone (lookup (nat_eq id) entries))
        → IsNone (cond b (Some object) (lookup (nat_eq id) entries))
    by_test true is rest =
        let one : id_weight id (key, object) ≡ 1 = ap (λ (t : Bool). cond t 1 0) is in
        absurd (omega (arith, one, none, sum_by-cons (id_weight id) (key, object) entries))
    by_test false is rest = rest (omega (arith, none, sum_by-cons (id_weight id) (key, object) entries))

-- an entry more under an id that none has
pub once_more : (id : ℕ) (object : Object) (live more : List (ℕ × Object)) → sum_by (id_weight id) live ≡ 0
    → HasOneMore live (id, object) more → ((other : ℕ) → sum_by (id_weight other) live ≤ 1)
    → (other : ℕ) → sum_by (id_weight other) more ≤ 1
once_more id object live more none adds once other = by_test (nat_eq other id) refl
  where
    by_test : (b : Bool) → nat_eq other id ≡ b → sum_by (id_weight other) more ≤ 1
    by_test true is =
        let same_id : other ≡ id = same_key other id is in
        let zero_is : sum_by (id_weight other) live ≡ 0 = ap (λ (n : ℕ). sum_by (id_weight n) live) same_id ∙ none in
        let one : id_weight other (id, object) ≡ 1 = ap (λ (t : Bool). cond t 1 0) is in
        omega (arith, adds (id_weight other), zero_is, one)
    by_test false is =
        let zero_is : id_weight other (id, object) ≡ 0 = ap (λ (t : Bool). cond t 1 0) is in
        omega (arith, adds (id_weight other), zero_is, once other)
