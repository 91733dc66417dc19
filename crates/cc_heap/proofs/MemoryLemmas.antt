-- Held spans, and entries under ids, in whatever order.
use Rattle.std.proofs.Common.{ℕ, suc, Bool, true, false, cond, ◌≡◌, ◌≤◌, nat_eq, List, [], ◌∷◌, ◌++◌, Some, None, Contains, count_by, map, sum_by, arith, refl, ap, IsPermutation}
use Rattle.std.specs.Map.{lookup, remove_entry, set_value}
use Rattle.std.proofs.lemmas.List.Sums.{sum_by-append, sum_by-cons, sum_by_push}
use Rattle.std.proofs.lemmas.List.Sorted.{IsPermutation-append_left, IsPermutation-cons, IsPermutation-map, IsPermutation-middle, IsPermutation-refl, IsPermutation-sym, IsPermutation-trans}
use Rattle.std.proofs.lemmas.List.Sorted.{sum_by-IsPermutation}
use Rattle.std.proofs.lemmas.Bool.Decides.{nat_tests}
use Rattle.cc_bounds.specs.declared.span.Span.{Span}
use Rattle.cc_bounds.specs.Span.{SharesByte}
use Rattle.cc_placer.specs.Placement.{IsApartFrom}
use Rattle.cc_placer.proofs.SameSpansLemmas.{permutation_from_sums}
use Rattle.cc_heap.specs.declared.object.Object.{Object}
use Rattle.cc_heap.specs.Memory.{ShareNoByte, span_has_byte, object_span}

-- ---- bytes

-- the byte is one of both spans
both : (byte : ℕ) (one other : Span) → span_has_byte byte one ≡ true → span_has_byte byte other ≡ true → SharesByte one other
both byte one other in_one in_other = record {
  byte = byte;
  in_one = record { from_base = grind (arith, nat_tests); below_top = grind (arith, nat_tests) };
  in_other = record { from_base = grind (arith, nat_tests); below_top = grind (arith, nat_tests) };
}

contains_later : (first : Span) (spans : List Span) (other : Span) → Contains spans other → Contains (first ∷ spans) other
contains_later first spans other (k, within, is) = (suc k, omega (arith, within), is)

-- what a span adds to the count of those that have the byte
abbrev weight_of : (byte : ℕ) → Span → ℕ
weight_of byte span = cond (span_has_byte byte span) 1 0

-- no span has the byte
none_has : (byte : ℕ) (spans : List Span) → ((other : Span) → Contains spans other → span_has_byte byte other ≡ false)
    → count_by (span_has_byte byte) spans ≡ 0
none_has byte [] none = refl
none_has byte (first ∷ spans) none =
    let here : span_has_byte byte first ≡ false = none first (0, omega arith, refl) in
    let rest = none_has byte spans (λ other at. none other (contains_later first spans other at)) in
    let weight : weight_of byte first ≡ 0 = rw here refl in
    omega (arith, sum_by-cons (weight_of byte) first spans, rest, weight)

-- a span that shares no byte with those that share none
pub once_more : (spans : List Span) (span : Span) → ShareNoByte spans → IsApartFrom spans span
    → ShareNoByte (span ∷ spans)
once_more spans span once apart byte = by_case (span_has_byte byte span) refl
  where
    by_case : (b : Bool) → span_has_byte byte span ≡ b → count_by (span_has_byte byte) (span ∷ spans) ≤ 1
    by_case true is =
        let weight : weight_of byte span ≡ 1 = rw is refl in
        let none = none_has byte spans (λ other at. not_both other at (span_has_byte byte other) refl) in
        omega (arith, sum_by-cons (weight_of byte) span spans, none, weight)
      where
        not_both : (other : Span) → Contains spans other → (b : Bool) → span_has_byte byte other ≡ b → span_has_byte byte other ≡ false
        not_both other at true has = absurd (apart other at (both byte span other is has))
        not_both other at false has = has
    by_case false is =
        let weight : weight_of byte span ≡ 0 = rw is refl in
        let before = once byte in
        omega (arith, sum_by-cons (weight_of byte) span spans, before, weight)

-- the order says nothing
pub once_along : (spans others : List Span) → IsPermutation spans others → ShareNoByte spans → ShareNoByte others
once_along spans others same once byte =
    let before = once byte in
    omega (arith, sum_by-IsPermutation (weight_of byte) spans others same, before)

-- fewer spans
pub once_fewer : (spans : List Span) (span : Span) → ShareNoByte (span ∷ spans) → ShareNoByte spans
once_fewer spans span once byte =
    let before = once byte in
    omega (arith, sum_by-cons (weight_of byte) span spans, before)

-- ---- spans in two lists

-- the spans of entries and those that wait, with one entry more
pub held_made : (entry : ℕ × Object) (live more : List (ℕ × Object)) (waiting : List Span)
    → IsPermutation (entry ∷ live) more
    → IsPermutation (object_span entry ∷ (map object_span live ++ waiting)) (map object_span more ++ waiting)
held_made entry live more waiting adds =
    IsPermutation-append_left waiting (map object_span (entry ∷ live)) (map object_span more)
    (IsPermutation-map object_span (entry ∷ live) more adds)

-- with one entry's span among those that wait
pub held_retired : (entry : ℕ × Object) (live fewer : List (ℕ × Object)) (waiting : List Span)
    → IsPermutation live (entry ∷ fewer)
    → IsPermutation (map object_span live ++ waiting) (map object_span fewer ++ (waiting ++ object_span entry ∷ []))
held_retired entry live fewer waiting takes =
    let one : IsPermutation (map object_span live ++ waiting) (object_span entry ∷ (map object_span fewer ++ waiting)) =
    IsPermutation-append_left waiting (map object_span live) (map object_span (entry ∷ fewer))
    (IsPermutation-map object_span live (entry ∷ fewer) takes) in
    IsPermutation-trans (map object_span live ++ waiting) (object_span entry ∷ (map object_span fewer ++ waiting))
    (map object_span fewer ++ (waiting ++ object_span entry ∷ [])) one (last_first (map object_span fewer) waiting (object_span entry))
  where
    last_first : (xs ys : List Span) (span : Span) → IsPermutation (span ∷ (xs ++ ys)) (xs ++ (ys ++ span ∷ []))
    last_first xs ys span =
        permutation_from_sums (span ∷ (xs ++ ys)) (xs ++ (ys ++ span ∷ [])) (λ weight. omega (
          arith,
          sum_by-cons weight span (xs ++ ys),
          sum_by-append weight xs ys,
          sum_by-append weight xs (ys ++ span ∷ []),
          sum_by_push weight ys span,
        ))

-- and with the last of those that wait taken away
pub held_swept : (xs ys : List Span) (span : Span) → IsPermutation (xs ++ (ys ++ span ∷ [])) (span ∷ (xs ++ ys))
held_swept xs ys span =
    permutation_from_sums (xs ++ (ys ++ span ∷ [])) (span ∷ (xs ++ ys)) (λ weight. omega (
      arith,
      sum_by-cons weight span (xs ++ ys),
      sum_by-append weight xs ys,
      sum_by-append weight xs (ys ++ span ∷ []),
      sum_by_push weight ys span,
    ))

-- with an entry for another that has the same span
pub held_swapped : (entry before : ℕ × Object) (live more : List (ℕ × Object)) (waiting : List Span)
    → IsPermutation (entry ∷ live) (before ∷ more) → object_span entry ≡ object_span before
    → IsPermutation (map object_span live ++ waiting) (map object_span more ++ waiting)
held_swapped entry before live more waiting swaps same =
    permutation_from_sums (map object_span live ++ waiting) (map object_span more ++ waiting) (λ weight.
    let sums : sum_by weight (map object_span (before ∷ more)) ≡ sum_by weight (map object_span (entry ∷ live)) =
    sum_by-IsPermutation weight (map object_span (entry ∷ live)) (map object_span (before ∷ more))
    (IsPermutation-map object_span (entry ∷ live) (before ∷ more) swaps) in
    omega (
      arith,
      sums,
      ap weight same,
      sum_by-cons weight (object_span entry) (map object_span live),
      sum_by-cons weight (object_span before) (map object_span more),
      sum_by-append weight (map object_span live) waiting,
      sum_by-append weight (map object_span more) waiting,
    ))

-- ---- entries under ids

exchange : (one other : ℕ × Object) (entries : List (ℕ × Object))
    → IsPermutation (one ∷ other ∷ entries) (other ∷ one ∷ entries)
exchange one other entries = IsPermutation-middle (one ∷ []) other entries

-- what `Some` holds is one object
same_some : (one other : Object) → Some one ≡ Some other → one ≡ other
same_some one other same = cc

same_id : (id key : ℕ) → nat_eq id key ≡ true → key ≡ id
same_id id key is = grind (arith, nat_tests)

same_entry : (id key : ℕ) (object value : Object) (entries : List (ℕ × Object)) → key ≡ id → value ≡ object
    → IsPermutation ((key, value) ∷ entries) ((id, object) ∷ entries)
same_entry id key object value entries key_is value_is =
    rw (key_is, value_is) (IsPermutation-refl ((id, object) ∷ entries))

-- the entry that a look-up finds, and the others
pub found_first : (id : ℕ) (object : Object) (entries : List (ℕ × Object)) → lookup (nat_eq id) entries ≡ Some object
    → IsPermutation entries ((id, object) ∷ remove_entry (nat_eq id) entries)
found_first id object [] found = absurd (never found)
  where
    never : None ≡ Some object → ⊥
    never is = cc
found_first id object ((key, value) ∷ entries) found =
    by_case (nat_eq id key) refl found (found_first id object entries)
  where
    by_case : (b : Bool) → nat_eq id key ≡ b → cond b (Some value) (lookup (nat_eq id) entries) ≡ Some object
        → (lookup (nat_eq id) entries ≡ Some object
        → IsPermutation entries ((id, object) ∷ remove_entry (nat_eq id) entries))
        → IsPermutation ((key, value) ∷ entries)
        ((id, object) ∷ cond b entries ((key, value) ∷ remove_entry (nat_eq id) entries))
    by_case true is at rest = same_entry id key object value entries (same_id id key is) (same_some value object at)
    by_case false is at rest =
        IsPermutation-trans ((key, value) ∷ entries) ((key, value) ∷ (id, object) ∷ remove_entry (nat_eq id) entries)
        ((id, object) ∷ (key, value) ∷ remove_entry (nat_eq id) entries)
        (IsPermutation-cons (key, value) entries ((id, object) ∷ remove_entry (nat_eq id) entries) (rest at))
        (exchange (key, value) (id, object) (remove_entry (nat_eq id) entries))

-- the entries with another object in its place
put_first : (id : ℕ) (before object : Object) (entries : List (ℕ × Object))
    → lookup (nat_eq id) entries ≡ Some before
    → IsPermutation (set_value (nat_eq id) entries object) ((id, object) ∷ remove_entry (nat_eq id) entries)
put_first id before object [] found = absurd (never found)
  where
    never : None ≡ Some before → ⊥
    never is = cc
put_first id before object ((key, value) ∷ entries) found =
    by_case (nat_eq id key) refl found (put_first id before object entries)
  where
    by_case : (b : Bool) → nat_eq id key ≡ b → cond b (Some value) (lookup (nat_eq id) entries) ≡ Some before
        → (lookup (nat_eq id) entries ≡ Some before
        → IsPermutation (set_value (nat_eq id) entries object) ((id, object) ∷ remove_entry (nat_eq id) entries))
        → IsPermutation (cond b ((key, object) ∷ entries) ((key, value) ∷ set_value (nat_eq id) entries object))
        ((id, object) ∷ cond b entries ((key, value) ∷ remove_entry (nat_eq id) entries))
    by_case true is at rest = same_entry id key object object entries (same_id id key is) refl
    by_case false is at rest =
        IsPermutation-trans ((key, value) ∷ set_value (nat_eq id) entries object)
        ((key, value) ∷ (id, object) ∷ remove_entry (nat_eq id) entries)
        ((id, object) ∷ (key, value) ∷ remove_entry (nat_eq id) entries)
        (IsPermutation-cons (key, value) (set_value (nat_eq id) entries object)
        ((id, object) ∷ remove_entry (nat_eq id) entries) (rest at))
        (exchange (key, value) (id, object) (remove_entry (nat_eq id) entries))

-- the new object added, then the one before it taken away
pub set_first : (id : ℕ) (before object : Object) (entries : List (ℕ × Object))
    → lookup (nat_eq id) entries ≡ Some before
    → IsPermutation ((id, object) ∷ entries) ((id, before) ∷ set_value (nat_eq id) entries object)
set_first id before object entries found =
    let others = remove_entry (nat_eq id) entries in
    IsPermutation-trans ((id, object) ∷ entries) ((id, object) ∷ (id, before) ∷ others)
    ((id, before) ∷ set_value (nat_eq id) entries object)
    (IsPermutation-cons (id, object) entries ((id, before) ∷ others) (found_first id before entries found))
    (IsPermutation-trans ((id, object) ∷ (id, before) ∷ others) ((id, before) ∷ (id, object) ∷ others)
    ((id, before) ∷ set_value (nat_eq id) entries object) (exchange (id, object) (id, before) others)
    (IsPermutation-cons (id, before) ((id, object) ∷ others) (set_value (nat_eq id) entries object)
    (IsPermutation-sym (set_value (nat_eq id) entries object) ((id, object) ∷ others)
    (put_first id before object entries found))))
