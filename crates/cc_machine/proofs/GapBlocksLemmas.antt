-- A row of blocks of gaps, by its keys, whose block at a position is written, put in or taken away.
use Rattle.std.proofs.Common.{ℕ, ◌≡◌, ◌≢◌, ◌+◌, ◌-◌, ◌<◌, ◌≤◌, List, length, get_or, set, insert, remove, Option, Some, None, IsSome, arith, refl, sym, ap, subst, ◌∙◌, inl, inr}
use Rattle.std.proofs.lemmas.Bool.{cases_eq, cases_lt}
use Rattle.std.proofs.lemmas.List.{get_or-map, get_or_default, get_or-set_same, get_or-set_other, length-map, length-set, same_lists}
use Rattle.std.proofs.lemmas.List.Edits.{get_or-insert_at, get_or-insert_below, get_or-insert_above, get_or-remove_below, get_or-remove_above, length-insert, length-remove}
use Rattle.slab.specs.Slab.{Slab, ContainsKey, Updates, get, slab_len, with_value}
use Rattle.slab.proofs.SlabLemmas.{Updates-with_value}
use Rattle.cc_bounds.specs.declared.span.Span.{Span}
use Rattle.cc_machine.specs.GapBlocks.{IsKeyed, gaps_in_slot, gaps_under, blocks_under}

pub under_key : (slab : Slab (List Span)) (keys : List ℕ) (k : ℕ) (d : List Span) → k < length keys
    → get_or (blocks_under slab keys) k d ≡ gaps_under slab (get_or keys k 0)
under_key slab keys k d within = get_or-map (gaps_under slab) keys k 0 d within

-- two positions have two keys
keys_differ : (slab : Slab (List Span)) (keys : List ℕ) (room capacity at other : ℕ) → IsKeyed slab keys room capacity
    → at < length keys → other < length keys → other ≢ at → get_or keys other 0 ≢ get_or keys at 0
keys_differ slab keys room capacity at other is within other_within apart = elim (cases_lt at other) [
  | inl below ↦ λ same. is.distinct at other 0 below other_within (sym same)
  | inr above ↦ is.distinct other at 0 (omega (arith, above, apart)) within
]

-- ---- A block written.

pub row_written : (slab : Slab (List Span)) (keys : List ℕ) (room capacity at : ℕ) (block : List Span)
    → IsKeyed slab keys room capacity → at < length keys
    → blocks_under (with_value slab (get_or keys at 0) block) keys ≡ set (blocks_under slab keys) at block
row_written slab keys room capacity at block is within =
    same_lists (blocks_under new keys) (set (blocks_under slab keys) at block)
    (length-map keys (gaps_under new) ∙ sym (length-set (blocks_under slab keys) at block ∙ length-map keys (gaps_under slab)))
    (λ k d low. each k d (subst (λ (n : ℕ). k < n) (length-map keys (gaps_under new)) low))
  where
    new : Slab (List Span)
    new = with_value slab (get_or keys at 0) block

    updates : Updates slab new (get_or keys at 0) (Some block)
    updates = Updates-with_value slab (get_or keys at 0) block (is.filled at 0 within)

    each : (k : ℕ) (d : List Span) → k < length keys
        → get_or (blocks_under new keys) k d ≡ get_or (set (blocks_under slab keys) at block) k d
    each k d low = under_key new keys k d low ∙ elim (cases_eq k at) [
      | inl same ↦ rw same
          (ap gaps_in_slot updates.changed
          ∙ sym (get_or-set_same (blocks_under slab keys) at block d
          (subst (λ (n : ℕ). at < n) (sym (length-map keys (gaps_under slab))) within)))
      | inr apart ↦ ap gaps_in_slot (updates.others (get_or keys k 0) (keys_differ slab keys room capacity at k is within low apart))
          ∙ sym (get_or-set_other (blocks_under slab keys) at k block d apart ∙ under_key slab keys k d low)
    ]

-- ---- The positions of the items of a list after one was inserted or removed.

module _ {X : Type 0} where
  put_above : (xs : List X) (at : ℕ) (y d : X) (k : ℕ) → at < k → at ≤ length xs
      → get_or (insert xs at y) k d ≡ get_or xs (k - 1) d
  put_above xs at y d k low within =
      let same : k - 1 + 1 ≡ k = omega (arith, low) in
      subst (λ (n : ℕ). get_or (insert xs at y) n d ≡ get_or xs (k - 1) d) same
      (get_or-insert_above xs at y d (k - 1) (omega (arith, low)) within)

  -- an item of the longer list is the new one, or one of the others
  pub record IsOther (xs : List X) (at : ℕ) (y d : X) (k : ℕ) : Type 0 where
    pub place : ℕ
    pub within : place < length xs
    pub same : get_or (insert xs at y) k d ≡ get_or xs place d
    pub below : k < at → place ≡ k
    pub above : at < k → place + 1 ≡ k

  pub other_of : (xs : List X) (at : ℕ) (y d : X) (k : ℕ) → at ≤ length xs → k < length xs + 1 → k ≢ at → IsOther xs at y d k
  other_of xs at y d k within inside apart = elim (cases_lt k at) [
    | inl low ↦ record {
      place = k;
      within = omega (arith, low, within);
      same = get_or-insert_below xs at y d k low within;
      below = λ _. refl;
      above = λ high. absurd (omega (arith, low, high));
    }
    | inr high ↦
        let more : at < k = omega (arith, high, apart) in
        record {
          place = k - 1;
          within = omega (arith, more, inside);
          same = put_above xs at y d k more within;
          below = λ low. absurd (omega (arith, low, more));
          above = λ _. omega (arith, more);
        }
  ]

  -- an item of the shorter list is one of the others
  pub record IsLeft (xs : List X) (at : ℕ) (d : X) (k : ℕ) : Type 0 where
    pub place : ℕ
    pub within : place < length xs
    pub apart : place ≢ at
    pub same : get_or (remove xs at) k d ≡ get_or xs place d
    pub below : k < at → place ≡ k
    pub above : at ≤ k → place ≡ k + 1

  pub left_of : (xs : List X) (at : ℕ) (d : X) (k : ℕ) → at < length xs → k + 1 < length xs → IsLeft xs at d k
  left_of xs at d k within inside = elim (cases_lt k at) [
    | inl low ↦ record {
      place = k;
      within = omega (arith, low, within);
      apart = λ same. omega (arith, low, same);
      same = get_or-remove_below xs at d k low within;
      below = λ _. refl;
      above = λ high. absurd (omega (arith, low, high));
    }
    | inr high ↦ record {
      place = k + 1;
      within = inside;
      apart = λ same. omega (arith, high, same);
      same = get_or-remove_above xs at d k high within;
      below = λ low. absurd (omega (arith, low, high));
      above = λ _. refl;
    }
  ]

-- ---- A block put in.

module _ (slab new : Slab (List Span)) (keys : List ℕ) (room capacity at key : ℕ) (block : List Span)
    (is : IsKeyed slab keys room capacity) (within : at ≤ length keys) (vacant : get slab key ≡ None)
    (updates : Updates slab new key (Some block)) where
  -- the new key differs from all others
  fresh : (k : ℕ) → k < length keys → get_or keys k 0 ≢ key
  fresh k low same =
      let none = subst (λ (o : Option (List Span)). IsSome o) (ap (get slab) same ∙ vacant) (is.filled k 0 low) in cc

  kept_block : (k : ℕ) → k < length keys → get new (get_or keys k 0) ≡ get slab (get_or keys k 0)
  kept_block k low = updates.others (get_or keys k 0) (fresh k low)

  here : get_or (insert keys at key) at 0 ≡ key
  here = get_or-insert_at keys at key 0 within

  filled_at : (k : ℕ) → k < length keys + 1 → ContainsKey new (get_or (insert keys at key) k 0)
  filled_at k low = elim (cases_eq k at) [
    | inl same ↦ rw (same, here, updates.changed) refl
    | inr apart ↦
        let other = other_of keys at key 0 k within low apart in
        rw (other.same, kept_block other.place other.within) (is.filled other.place 0 other.within)
  ]

  distinct_at : (k other : ℕ) → k < other → other < length keys + 1
      → get_or (insert keys at key) k 0 ≢ get_or (insert keys at key) other 0
  distinct_at k other order inside = elim (cases_eq k at) [
    | inl same ↦
        let higher = other_of keys at key 0 other within inside (λ e. omega (arith, order, same, e)) in
        rw (same, here, higher.same) (λ e. fresh higher.place higher.within (sym e))
    | inr apart ↦
        let lower = other_of keys at key 0 k within (omega (arith, order, inside)) apart in
        elim (cases_eq other at) [
          | inl same ↦ rw (same, here, lower.same) (fresh lower.place lower.within)
          | inr higher_apart ↦
              let higher = other_of keys at key 0 other within inside higher_apart in
              let places : lower.place < higher.place = elim (cases_lt k at) [
                | inl low ↦ elim (cases_lt other at) [
                  | inl also ↦ omega (arith, order, lower.below low, higher.below also)
                  | inr high ↦ omega (arith, order, lower.below low, higher.above (omega (arith, high, higher_apart)), low, high, higher_apart)
                ]
                | inr high ↦ omega (arith, order, lower.above (omega (arith, high, apart)), higher.above (omega (arith, high, order)))
              ] in
              rw (lower.same, higher.same) (is.distinct lower.place higher.place 0 places higher.within)
        ]
  ]

  same_block : (k : ℕ) (d : List Span) → k < length keys + 1
      → get_or (blocks_under new (insert keys at key)) k d ≡ get_or (insert (blocks_under slab keys) at block) k d
  same_block k d low =
      under_key new (insert keys at key) k d (omega (arith, low, length-insert keys at key within))
      ∙ elim (cases_eq k at) [
        | inl same ↦ rw same (ap (gaps_under new) here ∙ (ap gaps_in_slot updates.changed
            ∙ sym (get_or-insert_at (blocks_under slab keys) at block d in_blocks)))
        | inr apart ↦
            let other = other_of keys at key 0 k within low apart in
            let block_other = other_of (blocks_under slab keys) at block d k in_blocks
            (omega (arith, low, length-map keys (gaps_under slab))) apart in
            let place : block_other.place ≡ other.place = elim (cases_lt k at) [
              | inl less ↦ block_other.below less ∙ sym (other.below less)
              | inr high ↦ omega (arith, block_other.above (omega (arith, high, apart)), other.above (omega (arith, high, apart)))
            ] in
            rw (block_other.same, place, under_key slab keys other.place d other.within, other.same)
            (ap gaps_in_slot (kept_block other.place other.within))
      ]
    where
      in_blocks : at ≤ length (blocks_under slab keys)
      in_blocks = omega (arith, within, length-map keys (gaps_under slab))

  pub row_put : blocks_under new (insert keys at key) ≡ insert (blocks_under slab keys) at block
  row_put =
      same_lists (blocks_under new (insert keys at key)) (insert (blocks_under slab keys) at block) long
      (λ k d low. same_block k d (omega (
        arith,
        low,
        length-map (insert keys at key) (gaps_under new),
        length-insert keys at key within,
      )))
    where
      in_blocks : at ≤ length (blocks_under slab keys)
      in_blocks = omega (arith, within, length-map keys (gaps_under slab))

      long : length (blocks_under new (insert keys at key)) ≡ length (insert (blocks_under slab keys) at block)
      long = omega (
        arith,
        length-map (insert keys at key) (gaps_under new),
        length-insert keys at key within,
        length-insert (blocks_under slab keys) at block in_blocks,
        length-map keys (gaps_under slab),
      )

  pub is_row_put : (after : ℕ) → length keys < room → slab_len new ≡ slab_len slab + 1 → new.capacity ≡ slab.capacity
      → capacity ≤ after → IsKeyed new (insert keys at key) room after
  is_row_put after more all reserved keys_reserved =
      let long = length-insert keys at key within in
      record {
        filled = λ k d low. rw (get_or_default (insert keys at key) k d 0 low) (filled_at k (omega (arith, low, long)));
        distinct = λ k other d order low. rw (
          get_or_default (insert keys at key) k d 0 (omega (arith, order, low)),
          get_or_default (insert keys at key) other d 0 low,
        )
            (distinct_at k other order (omega (arith, low, long)));
        all = omega (arith, all, is.all, long);
        fits = omega (arith, more, long);
        reserved = omega (arith, reserved, is.reserved);
        keys_reserved = omega (arith, keys_reserved, is.keys_reserved);
      }

-- ---- A block taken away.

module _ (slab new : Slab (List Span)) (keys : List ℕ) (room capacity at : ℕ) (is : IsKeyed slab keys room capacity)
    (within : at < length keys) (updates : Updates slab new (get_or keys at 0) None) where
  left_block : (k : ℕ) → k < length keys → k ≢ at → get new (get_or keys k 0) ≡ get slab (get_or keys k 0)
  left_block k low apart =
      updates.others (get_or keys k 0) (keys_differ slab keys room capacity at k is within low apart)

  filled_left : (k : ℕ) → k + 1 < length keys → ContainsKey new (get_or (remove keys at) k 0)
  filled_left k low =
      let left = left_of keys at 0 k within low in
      rw (left.same, left_block left.place left.within left.apart) (is.filled left.place 0 left.within)

  distinct_left : (k other : ℕ) → k < other → other + 1 < length keys
      → get_or (remove keys at) k 0 ≢ get_or (remove keys at) other 0
  distinct_left k other order inside =
      let lower = left_of keys at 0 k within (omega (arith, order, inside)) in
      let higher = left_of keys at 0 other within inside in
      let places : lower.place < higher.place = elim (cases_lt k at) [
        | inl low ↦ elim (cases_lt other at) [
          | inl also ↦ omega (arith, order, lower.below low, higher.below also)
          | inr high ↦ omega (arith, order, lower.below low, higher.above high)
        ]
        | inr high ↦ omega (arith, order, lower.above high, higher.above (omega (arith, high, order)))
      ] in
      rw (lower.same, higher.same) (is.distinct lower.place higher.place 0 places higher.within)

  same_left : (k : ℕ) (d : List Span) → k + 1 < length keys
      → get_or (blocks_under new (remove keys at)) k d ≡ get_or (remove (blocks_under slab keys) at) k d
  same_left k d low =
      let left = left_of keys at 0 k within low in
      let long = length-map keys (gaps_under slab) in
      let block_left = left_of (blocks_under slab keys) at d k (omega (arith, within, long)) (omega (arith, low, long)) in
      let place : block_left.place ≡ left.place = elim (cases_lt k at) [
        | inl less ↦ block_left.below less ∙ sym (left.below less)
        | inr high ↦ block_left.above high ∙ sym (left.above high)
      ] in
      under_key new (remove keys at) k d (omega (arith, low, length-remove keys at within))
      ∙ rw (block_left.same, place, under_key slab keys left.place d left.within, left.same)
      (ap gaps_in_slot (left_block left.place left.within left.apart))

  pub row_taken : blocks_under new (remove keys at) ≡ remove (blocks_under slab keys) at
  row_taken =
      same_lists (blocks_under new (remove keys at)) (remove (blocks_under slab keys) at)
      (omega (arith, shorter, length-remove keys at within, length-remove (blocks_under slab keys) at in_blocks, length-map keys (gaps_under slab)))
      (λ k d low. same_left k d (omega (arith, low, shorter, length-remove keys at within)))
    where
      in_blocks : at < length (blocks_under slab keys)
      in_blocks = omega (arith, within, length-map keys (gaps_under slab))

      shorter : length (blocks_under new (remove keys at)) ≡ length (remove keys at)
      shorter = length-map (remove keys at) (gaps_under new)

  pub is_row_taken : (after : ℕ) → slab_len new + 1 ≡ slab_len slab → new.capacity ≡ slab.capacity → capacity ≤ after
      → IsKeyed new (remove keys at) room after
  is_row_taken after all reserved keys_reserved =
      let short = length-remove keys at within in
      record {
        filled = λ k d low. rw (get_or_default (remove keys at) k d 0 low) (filled_left k (omega (arith, low, short)));
        distinct = λ k other d order low. rw (
          get_or_default (remove keys at) k d 0 (omega (arith, order, low)),
          get_or_default (remove keys at) other d 0 low,
        )
            (distinct_left k other order (omega (arith, low, short)));
        all = omega (arith, all, is.all, short);
        fits = omega (arith, is.fits, short);
        reserved = omega (arith, reserved, is.reserved);
        keys_reserved = omega (arith, keys_reserved, is.keys_reserved);
      }
