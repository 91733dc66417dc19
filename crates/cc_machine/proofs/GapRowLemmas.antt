-- A row of gaps: its blocks and heads, and its gaps one after another.
use Rattle.std.proofs.Common.{ℕ, zero, suc, ◌≡◌, ◌+◌, ◌-◌, ◌*◌, ◌/◌, ◌^◌, ◌<◌, ◌≤◌, max, ◌⊎◌, Some, None, List, [], ◌∷◌, ◌++◌, All, Contains, slice_get, length, take, drop, get_or, set, insert}
use Rattle.std.proofs.Common.{remove, arith, refl, sym, ap, subst, ◌∙◌, inl, inr, append_assoc, length-append}
use Rattle.std.proofs.lemmas.Bool.{cases_eq, cases_lt}
use Rattle.std.proofs.lemmas.List.{append-nil, get_or_default, get_or-set_same, get_or-set_other, get_or_append_left, get_or-append-add, length-set, length-take-le, take-append-le, take-set-le}
use Rattle.std.proofs.lemmas.List.{take-take, set-append_left, set-append_right, take_more, take_all}
use Rattle.std.proofs.lemmas.List.Edits.{get_or-insert_above, get_or-insert_at, get_or-insert_below, get_or-remove_below, length-insert, length-remove, insert-append_left, insert-append_right}
use Rattle.std.proofs.lemmas.List.Edits.{remove-append_left, remove-append_right}
use Rattle.std.proofs.lemmas.List.Elements.{All-append, All-cons, All-drop, All-set, All-take, Contains-append_cases, Contains-append_left, Contains-append_right}
use Rattle.std.proofs.lemmas.List.Quantifiers.{all_pairs_remove}
use Rattle.std.proofs.lemmas.Option.{slice_get-get_or}
use Rattle.std.proofs.lemmas.List.Concat.{flat_map-append, get_or-flat_map}
use Rattle.cc_bounds.specs.declared.span.Span.{Span}
use Rattle.cc_machine.specs.declared.gap_heads.Head.{Head}
use Rattle.cc_placer.specs.PlacerState.{IsSomeBytes}
use Rattle.cc_machine.specs.Gaps.{AreGaps, FitsGap, IsFirstFit}
use Rattle.cc_machine.specs.GapRowState.{IsPlaceAt, gaps_of, index_at}
use Rattle.cc_machine.specs.GapHeads.{AreAtMost}
use Rattle.cc_machine.specs.GapRow.{AreHeaded, HaveNoFit, IsAtMost, IsGapRow, IsHead, IsLocated, IsSplit}

-- ---- Blocks and their heads.

pub headed_length : (blocks : List (List Span)) (heads : List Head) → AreHeaded blocks heads → length heads ≡ length blocks
headed_length [] [] are = refl
headed_length [] (y ∷ ys) are = absurd are
headed_length (x ∷ xs) [] are = absurd are
headed_length (x ∷ xs) (y ∷ ys) are = let rest = headed_length xs ys are.1 in omega arith

pub head_at : (blocks : List (List Span)) (heads : List Head) (k : ℕ) (d : List Span) (e : Head) → AreHeaded blocks heads
    → k < length blocks → IsHead (get_or blocks k d) (get_or heads k e)
head_at [] heads k d e are within = absurd (omega arith)
head_at (x ∷ xs) [] k d e are within = absurd are
head_at (x ∷ xs) (y ∷ ys) zero d e are within = are.0
head_at (x ∷ xs) (y ∷ ys) (suc k) d e are within = head_at xs ys k d e are.1 (omega (arith, within))

-- ---- The number of gaps before a place.

-- the gaps of the blocks up to one, and its own
pub index_next : (blocks : List (List Span)) (k : ℕ) (d : List Span) → k < length blocks
    → length (gaps_of (take (k + 1) blocks)) ≡ length (gaps_of (take k blocks)) + length (get_or blocks k d)
index_next blocks k d within =
    ap (λ (bs : List (List Span)). length (gaps_of bs)) (take_more blocks k d within)
    ∙ (ap (λ (gs : List Span). length gs) (flat_map-append (λ block. block) (take k blocks) (get_or blocks k d ∷ []))
    ∙ (length-append (gaps_of (take k blocks)) (get_or blocks k d ++ [])
    ∙ ap (λ (gs : List Span). length (gaps_of (take k blocks)) + length gs) (append-nil (get_or blocks k d))))

pub index_most : (blocks : List (List Span)) (k : ℕ) → length (gaps_of (take k blocks)) ≤ length (gaps_of blocks)
index_most blocks zero = omega arith
index_most [] (suc k) = omega arith
index_most (x ∷ xs) (suc k) =
    let rest = index_most xs k in omega (arith, rest, length-append x (gaps_of (take k xs)), length-append x (gaps_of xs))

index_mono : (blocks : List (List Span)) (i j : ℕ) → i ≤ j → length (gaps_of (take i blocks)) ≤ length (gaps_of (take j blocks))
index_mono blocks zero j less = omega arith
index_mono [] (suc i) j less = omega arith
index_mono (x ∷ xs) (suc i) zero less = absurd (omega (arith, less))
index_mono (x ∷ xs) (suc i) (suc j) less =
    let rest = index_mono xs i j (omega (arith, less)) in
    omega (arith, rest, length-append x (gaps_of (take i xs)), length-append x (gaps_of (take j xs)))

-- the index of a place has a gap, or is the end
pub index_inside : (blocks : List (List Span)) (k at : ℕ) (d : List Span) → k < length blocks → at < length (get_or blocks k d)
    → index_at blocks k at < length (gaps_of blocks)
index_inside blocks k at d within inside =
    omega (arith, index_next blocks k d within, index_most blocks (k + 1), inside)

pub index_end : (blocks : List (List Span)) (k : ℕ) → length blocks ≤ k → length (gaps_of (take k blocks)) ≡ length (gaps_of blocks)
index_end blocks k all = ap (λ (bs : List (List Span)). length (gaps_of bs)) (take_all k blocks all)

-- the gap at a place
pub gap_at : (blocks : List (List Span)) (k at : ℕ) (d : List Span) (e : Span) → k < length blocks
    → at < length (get_or blocks k d) → get_or (gaps_of blocks) (index_at blocks k at) e ≡ get_or (get_or blocks k d) at e
gap_at blocks k at d e within inside = get_or-flat_map (λ block. block) blocks k at d e within inside

-- ---- Locating an address.

-- if the last gap before a position ends at or below an address, each does
pub each_below : (gaps : List Span) (address at : ℕ) → AreGaps gaps → at ≤ length gaps
    → (0 < at → (d : Span) → (get_or gaps (at - 1) d).top ≤ address)
    → (k : ℕ) (d : Span) → k < at → (get_or gaps k d).top ≤ address
each_below gaps address at are within last k d low =
    elim (cases_lt k (at - 1)) [
      | inl less ↦
          let apart = are.apart k (at - 1) d less (omega (arith, low, within)) in
          let some = are.some (at - 1) d (omega (arith, low, within)) in
          omega (arith, apart, some.not_empty, last (omega (arith, low)) d)
      | inr more ↦
          let same : k ≡ at - 1 = omega (arith, more, low) in
          rw same (last (omega (arith, low)) d)
    ]

-- the gap before a place: the one before it in its block, or the last of the block before
pub before_inside : (blocks : List (List Span)) (k at : ℕ) (d : List Span) (e : Span) → k < length blocks → 0 < at
    → at ≤ length (get_or blocks k d)
    → get_or (gaps_of blocks) (index_at blocks k at - 1) e ≡ get_or (get_or blocks k d) (at - 1) e
before_inside blocks k at d e within some inside =
    let same : index_at blocks k at - 1 ≡ index_at blocks k (at - 1) = omega (arith, some) in
    rw same (gap_at blocks k (at - 1) d e within (omega (arith, some, inside)))

pub before_first : (blocks : List (List Span)) (k : ℕ) (d : List Span) (e : Span) → k < length blocks
    → 0 < length (get_or blocks k d)
    → get_or (gaps_of blocks) (index_at blocks (k + 1) 0 - 1) e ≡ get_or (get_or blocks k d) (length (get_or blocks k d) - 1) e
before_first blocks k d e within some =
    let same : index_at blocks (k + 1) 0 - 1 ≡ index_at blocks k (length (get_or blocks k d) - 1)
    = omega (arith, index_next blocks k d within, some) in
    rw same (gap_at blocks k (length (get_or blocks k d) - 1) d e within (omega (arith, some)))

-- the heads are in the order of their last bytes
pub lasts_rise : (blocks : List (List Span)) (heads : List Head) → AreGaps (gaps_of blocks) → AreHeaded blocks heads → (i j : ℕ) (d : Head)
    → i ≤ j → j < length heads → (get_or heads i d).last ≤ (get_or heads j d).last
lasts_rise blocks heads gaps are i j d order within =
    let same = headed_length blocks heads are in
    let low = head_at blocks heads i [] d are (omega (arith, order, within, same)) in
    let high = head_at blocks heads j [] d are (omega (arith, within, same)) in
    let e : Span = record { base = 0; top = 0 } in
    elim (cases_eq i j) [
      | inl equal ↦ rw equal (omega arith)
      | inr apart ↦
          let first = before_first blocks i [] e (omega (arith, order, within, same)) low.some in
          let last = before_first blocks j [] e (omega (arith, within, same)) high.some in
          let next_low = index_next blocks i [] (omega (arith, order, within, same)) in
          let next_high = index_next blocks j [] (omega (arith, within, same)) in
          let mono = index_mono blocks (i + 1) j (omega (arith, order, apart)) in
          let inside : index_at blocks (j + 1) 0 - 1 < length (gaps_of blocks)
          = omega (arith, index_most blocks (j + 1), next_high, high.some) in
          let rise = gaps.apart (index_at blocks (i + 1) 0 - 1) (index_at blocks (j + 1) 0 - 1) e
          (omega (arith, mono, next_low, next_high, low.some, high.some)) inside in
          let some = (gaps.some (index_at blocks (j + 1) 0 - 1) e inside).not_empty in
          omega (
            arith,
            low.last e,
            high.last e,
            rise,
            some,
            ap (λ (s : Span). s.top) first,
            ap (λ (s : Span). s.top) last,
          )
    ]

-- the position that heads give has all gaps before it at or below the address
pub heads_below : (blocks : List (List Span)) (heads : List Head) (address k : ℕ) (d : Span) → AreHeaded blocks heads
    → k ≤ length blocks → ((e : Head) → 0 < k → (get_or heads (k - 1) e).last < address) → 0 < index_at blocks k 0
    → (get_or (gaps_of blocks) (index_at blocks k 0 - 1) d).top ≤ address
heads_below blocks heads address zero d are within below some = absurd (omega arith)
heads_below blocks heads address (suc k) d are within below some =
    let one : suc k ≡ k + 1 = omega arith in
    let same : suc k - 1 ≡ k = omega arith in
    let e : Head = record { last = 0; bound = 0 } in
    let head = head_at blocks heads k [] e are (omega (arith, within)) in
    let low = rw same at (below e (omega arith)) in
    rw one (rw (before_first blocks k [] d (omega (arith, within)) head.some)
    (omega (arith, low, head.last d)))

pub located_end : (blocks : List (List Span)) (heads : List Head) (address k : ℕ) → AreGaps (gaps_of blocks)
    → AreHeaded blocks heads → k ≡ length blocks → ((e : Head) → 0 < k → (get_or heads (k - 1) e).last < address)
    → IsLocated (gaps_of blocks) address (index_at blocks k 0)
located_end blocks heads address k gaps are end below =
    let all = index_end blocks k (omega (arith, end)) in
    record {
      within = omega (arith, all);
      below = each_below (gaps_of blocks) address (index_at blocks k 0) gaps (omega (arith, all))
          (λ some d. heads_below blocks heads address k d are (omega (arith, end)) below some);
      above = λ d low. absurd (omega (arith, low, all));
    }

pub located_in : (blocks : List (List Span)) (heads : List Head) (address k at : ℕ) (b : List Span) → AreGaps (gaps_of blocks)
    → AreHeaded blocks heads → k < length blocks → ((e : Head) → 0 < k → (get_or heads (k - 1) e).last < address)
    → b ≡ get_or blocks k b → at < length b → (0 < at → (d : Span) → (get_or b (at - 1) d).top ≤ address)
    → ((d : Span) → address < (get_or b at d).top)
    → IsLocated (gaps_of blocks) address (index_at blocks k at)
located_in blocks heads address k at b gaps are within below is inside low high =
    let in_block : at < length (get_or blocks k b) = rw (← is) inside in
    let in_gaps = index_inside blocks k at b within in_block in
    record {
      within = omega (arith, in_gaps);
      below = each_below (gaps_of blocks) address (index_at blocks k at) gaps (omega (arith, in_gaps)) last;
      above = λ d _. rw (gap_at blocks k at b d within in_block, ← is) (high d);
    }
  where
    by_at : (n : ℕ) → n ≡ at → 0 < index_at blocks k n → (d : Span)
        → (get_or (gaps_of blocks) (index_at blocks k n - 1) d).top ≤ address
    by_at zero same some d = heads_below blocks heads address k d are (omega (arith, within)) below some
    by_at (suc n) same some d =
        rw (before_inside blocks k (suc n) b d within (omega arith) (rw (← is) (omega (arith, inside, same))), ← is, same)
        (low (omega (arith, same)) d)

    last : 0 < index_at blocks k at → (d : Span) → (get_or (gaps_of blocks) (index_at blocks k at - 1) d).top ≤ address
    last some d = by_at at refl some d

-- the head of a block that was read
pub head_of_block : (blocks : List (List Span)) (heads : List Head) (k : ℕ) (b : List Span) (e : Head)
    → AreHeaded blocks heads → k < length blocks → b ≡ get_or blocks k b → IsHead b (get_or heads k e)
head_of_block blocks heads k b e are within is =
    subst (λ (x : List Span). IsHead x (get_or heads k e)) (sym is) (head_at blocks heads k b e are within)

-- the length of a block that was read
pub length_of_block : (blocks : List (List Span)) (k : ℕ) (b d : List Span) → k < length blocks → b ≡ get_or blocks k b
    → length (get_or blocks k d) ≡ length b
length_of_block blocks k b d within is =
    ap (λ (x : List Span). length x) (get_or_default blocks k d b within ∙ sym is)

-- the last gap of a block ends above an address that its head's last byte reaches
pub last_above : (block : List Span) (head : Head) (address : ℕ) → IsHead block head → address ≤ head.last → (d : Span)
    → address < (get_or block (length block - 1) d).top
last_above block head address is reaches d = omega (arith, is.last d, reaches)

-- the last place of the block before
pub before_place : (blocks : List (List Span)) (heads : List Head) (k block at n : ℕ) (b : List Span)
    → AreHeaded blocks heads → k + 1 ≡ block → block ≤ length blocks → at ≡ 0 → b ≡ get_or blocks k b → n ≡ length b
    → IsPlaceAt blocks k (n - 1) × (index_at blocks k (n - 1) + 1 ≡ index_at blocks block at)
before_place blocks heads k block at n b are next within first is long =
    let inside : k < length blocks = omega (arith, next, within) in
    let head = head_of_block blocks heads k b (record { last = 0; bound = 0 }) are inside is in
    let same = length_of_block blocks k b [] inside is in (
      record {
        within = omega (arith, inside);
        inside = λ _. omega (arith, head.some, long, same);
        end = λ high. absurd (omega (arith, high, inside));
      },
      rw (← next, first) (omega (arith, index_next blocks k [] inside, head.some, long, same)),
    )

-- ---- The first fit.

fits_left : (xs ys : List Span) (size align start : ℕ) → FitsGap xs size align start → FitsGap (xs ++ ys) size align start
fits_left xs ys size align start fits = record {
  aligned = fits.aligned;
  gap = fits.gap;
  among = Contains-append_left xs ys fits.gap fits.among;
  within = fits.within;
}

fits_right : (xs ys : List Span) (size align start : ℕ) → FitsGap ys size align start → FitsGap (xs ++ ys) size align start
fits_right xs ys size align start fits = record {
  aligned = fits.aligned;
  gap = fits.gap;
  among = Contains-append_right xs ys fits.gap fits.among;
  within = fits.within;
}

fits_cases : (xs ys : List Span) (size align start : ℕ) → FitsGap (xs ++ ys) size align start
    → FitsGap xs size align start ⊎ FitsGap ys size align start
fits_cases xs ys size align start fits =
    elim (Contains-append_cases xs ys fits.gap fits.among) [
      | inl low ↦ inl (record { aligned = fits.aligned; gap = fits.gap; among = low; within = fits.within })
      | inr high ↦ inr (record { aligned = fits.aligned; gap = fits.gap; among = high; within = fits.within })
    ]

-- of gaps in order each is below those after it
gaps_between : (xs ys : List Span) (x y : Span) → AreGaps (xs ++ ys) → Contains xs x → Contains ys y → x.top < y.base
gaps_between xs ys x y are low high =
    let apart = are.apart low.0 (length xs + high.0) x (omega (arith, low.1)) (omega (arith, high.1, length-append xs ys)) in
    let lower = get_or_append_left xs ys x low.0 low.1 ∙ low.2 in
    let higher = get_or-append-add xs ys high.0 x ∙ (get_or_default ys high.0 x y high.1 ∙ high.2) in
    omega (arith, apart, ap (λ (s : Span). s.top) lower, ap (λ (s : Span). s.base) higher)

gaps_left : (xs ys : List Span) → AreGaps (xs ++ ys) → AreGaps xs
gaps_left xs ys are = record {
  some = λ k d within.
      rw (get_or_append_left xs ys d k within) at (are.some k d (omega (arith, within, length-append xs ys)));
  apart = λ i j d less within.
      rw (get_or_append_left xs ys d j within, get_or_append_left xs ys d i (omega (arith, less, within)))
      at (are.apart i j d less (omega (arith, within, length-append xs ys)));
}

gaps_right : (xs ys : List Span) → AreGaps (xs ++ ys) → AreGaps ys
gaps_right xs ys are = record {
  some = λ k d within.
      rw (get_or-append-add xs ys k d) at (are.some (length xs + k) d (omega (arith, within, length-append xs ys)));
  apart = λ i j d less within.
      rw (get_or-append-add xs ys j d, get_or-append-add xs ys i d)
      at (are.apart (length xs + i) (length xs + j) d (omega (arith, less)) (omega (arith, within, length-append xs ys)));
}

pub gaps_of_block : (blocks : List (List Span)) (k : ℕ) (d : List Span) → AreGaps (gaps_of blocks) → k < length blocks
    → AreGaps (get_or blocks k d)
gaps_of_block [] k d are within = absurd (omega arith)
gaps_of_block (x ∷ xs) zero d are within = gaps_left x (gaps_of xs) are
gaps_of_block (x ∷ xs) (suc k) d are within =
    gaps_of_block xs k d (gaps_right x (gaps_of xs) are) (omega (arith, within))

pub gaps_of_read : (blocks : List (List Span)) (k : ℕ) (b : List Span) → AreGaps (gaps_of blocks) → k < length blocks
    → b ≡ get_or blocks k b → AreGaps b
gaps_of_read blocks k b are within is = subst (λ (x : List Span). AreGaps x) (sym is) (gaps_of_block blocks k b are within)

pub found_in : (blocks : List (List Span)) (k : ℕ) (d : List Span) (size align start : ℕ) → AreGaps (gaps_of blocks)
    → k < length blocks → HaveNoFit blocks k size align → IsFirstFit (get_or blocks k d) size align (Some start)
    → IsFirstFit (gaps_of blocks) size align (Some start)
found_in [] k d size align start are within none found = absurd (omega arith)
found_in (x ∷ xs) zero d size align start are within none found = (
  fits_left x (gaps_of xs) size align start found.0,
  λ other fits. elim (fits_cases x (gaps_of xs) size align other fits) [
    | inl low ↦ found.1 other low
    | inr high ↦
        let apart = gaps_between x (gaps_of xs) found.0.gap high.gap are found.0.among high.among in
        omega (arith, apart, found.0.within.to_top, high.within.from_base)
  ],
)
found_in (x ∷ xs) (suc k) d size align start are within none found =
    let rest = found_in xs k d size align start (gaps_right x (gaps_of xs) are) (omega (arith, within))
    (λ j e s low inside. none (suc j) e s (omega (arith, low)) (omega (arith, inside))) found in (
      fits_right x (gaps_of xs) size align start rest.0,
      λ other fits. elim (fits_cases x (gaps_of xs) size align other fits) [
        | inl low ↦ absurd (none zero d other (omega arith) (omega arith) low)
        | inr high ↦ rest.1 other high
      ],
    )

pub found_read : (blocks : List (List Span)) (k : ℕ) (b : List Span) (size align start : ℕ) → AreGaps (gaps_of blocks)
    → k < length blocks → HaveNoFit blocks k size align → b ≡ get_or blocks k b → IsFirstFit b size align (Some start)
    → IsFirstFit (gaps_of blocks) size align (Some start)
found_read blocks k b size align start are within none is found =
    found_in blocks k b size align start are within none
    (subst (λ (x : List Span). IsFirstFit x size align (Some start)) is found)

pub none_in : (blocks : List (List Span)) (to size align : ℕ) → length blocks ≤ to → HaveNoFit blocks to size align
    → IsFirstFit (gaps_of blocks) size align None
none_in [] to size align all none other fits = absurd (omega (arith, fits.among.1))
none_in (x ∷ xs) to size align all none other fits =
    elim (fits_cases x (gaps_of xs) size align other fits) [
      | inl low ↦ none zero x other (omega (arith, all)) (omega arith) low
      | inr high ↦
          none_in xs (length xs) size align (omega arith)
          (λ j e s low inside. none (suc j) e s (omega (arith, inside, all)) (omega (arith, inside))) other high
    ]

-- the bytes of a size above a block's bound fit none of its gaps
narrow : (block : List Span) (head : Head) (less align start : ℕ) → IsHead block head → head.bound < less
    → ¬ FitsGap block (less + 1) align start
narrow block head less align start is low fits =
    let bound = is.bound fits.among.0 fits.gap fits.among.1 in
    omega (
      arith,
      low,
      bound,
      ap (λ (s : Span). s.base) fits.among.2,
      ap (λ (s : Span). s.top) fits.among.2,
      fits.within.from_base,
      fits.within.to_top,
    )

-- one block more without a fit
pub none_narrow : (blocks : List (List Span)) (heads : List Head) (k less align : ℕ) (h : Head) → AreHeaded blocks heads
    → h ≡ get_or heads k h → h.bound < less → HaveNoFit blocks k (less + 1) align → HaveNoFit blocks (k + 1) (less + 1) align
none_narrow blocks heads k less align h are is low none j d start below inside =
    elim (cases_lt j k) [
      | inl before ↦ none j d start before inside
      | inr after ↦
          let here : j ≡ k = omega (arith, below, after) in
          narrow (get_or blocks j d) h less align start
          (subst (λ (e : Head). IsHead (get_or blocks j d) e) (ap (λ (n : ℕ). get_or heads n h) here ∙ sym is)
          (head_at blocks heads j d h are inside)) low
    ]

pub none_read : (blocks : List (List Span)) (k size align : ℕ) (b : List Span) → b ≡ get_or blocks k b
    → IsFirstFit b size align None → HaveNoFit blocks k size align → HaveNoFit blocks (k + 1) size align
none_read blocks k size align b is no_fit none j d start below inside =
    elim (cases_lt j k) [
      | inl before ↦ none j d start before inside
      | inr after ↦
          let here : j ≡ k = omega (arith, below, after) in
          let same : get_or blocks j d ≡ b
          = get_or_default blocks j d b inside ∙ (ap (λ (n : ℕ). get_or blocks n b) here ∙ sym is) in
          λ fits. no_fit start (subst (λ (x : List Span). FitsGap x size align start) same fits)
    ]

-- the blocks of a group without a fit
pub none_in_group : (blocks : List (List Span)) (heads : List Head) (group less align bound : ℕ) → AreHeaded blocks heads
    → ((k : ℕ) (e : Head) → k < length heads → k / 16 ≡ group → (get_or heads k e).bound ≤ bound) → bound < less
    → HaveNoFit blocks (16 * group) (less + 1) align → HaveNoFit blocks (16 * (group + 1)) (less + 1) align
none_in_group blocks heads group less align bound are bounded low none j d start below inside =
    elim (cases_lt j (16 * group)) [
      | inl before ↦ none j d start before inside
      | inr after ↦
          let e : Head = record { last = 0; bound = 0 } in
          let most = bounded j e (omega (arith, inside, headed_length blocks heads are)) (omega (arith, below, after)) in
          narrow (get_or blocks j d) (get_or heads j e) less align start (head_at blocks heads j d e are inside)
          (omega (arith, most, low))
    ]

-- no block has a fit
pub none_at_all : (blocks : List (List Span)) (heads : List Head) (less align bound : ℕ) → AreHeaded blocks heads
    → AreAtMost bound heads → bound < less → HaveNoFit blocks (length blocks) (less + 1) align
none_at_all blocks heads less align bound are most low j d start _ inside =
    let e : Head = record { last = 0; bound = 0 } in
    narrow (get_or blocks j d) (get_or heads j e) less align start (head_at blocks heads j d e are inside)
    (omega (arith, most j e (omega (arith, inside, headed_length blocks heads are)), low))

-- no gap has more than 2 ^ 64 bytes
pub too_long : (gaps : List Span) (size align : ℕ) → AreGaps gaps → 2 ^ 64 < size → IsFirstFit gaps size align None
too_long gaps size align are long other fits =
    let some = are.some fits.among.0 fits.gap fits.among.1 in
    omega (arith, long, some.fits, ap (λ (s : Span). s.top) fits.among.2, fits.within.to_top)

-- the gap at a place, read from its block
pub gap_read : (blocks : List (List Span)) (k at : ℕ) (b : List Span) (x : Span) → k < length blocks
    → at < length (get_or blocks k []) → b ≡ get_or blocks k b → x ≡ get_or b at x
    → slice_get (gaps_of blocks) (index_at blocks k at) ≡ Some x
gap_read blocks k at b x within inside is here =
    slice_get-get_or (gaps_of blocks) (index_at blocks k at) x (index_inside blocks k at [] within inside)
    ∙ ap Some (gap_at blocks k at [] x within inside
    ∙ (ap (λ (gs : List Span). get_or gs at x) (get_or_default blocks k [] b within ∙ sym is) ∙ sym here))

-- ---- Heads after a change.

pub headed_set : (blocks : List (List Span)) (heads : List Head) (k : ℕ) (b : List Span) (h : Head) → AreHeaded blocks heads
    → k < length blocks → IsHead b h → AreHeaded (set blocks k b) (set heads k h)
headed_set [] heads k b h are within is = absurd (omega arith)
headed_set (x ∷ xs) [] k b h are within is = absurd are
headed_set (x ∷ xs) (y ∷ ys) zero b h are within is = (is, are.1)
headed_set (x ∷ xs) (y ∷ ys) (suc k) b h are within is = (are.0, headed_set xs ys k b h are.1 (omega (arith, within)) is)

pub headed_insert : (blocks : List (List Span)) (heads : List Head) (k : ℕ) (b : List Span) (h : Head) → AreHeaded blocks heads
    → k ≤ length blocks → IsHead b h → AreHeaded (insert blocks k b) (insert heads k h)
headed_insert [] [] zero b h are within is = (is, tt)
headed_insert [] [] (suc k) b h are within is = absurd (omega arith)
headed_insert [] (y ∷ ys) k b h are within is = absurd are
headed_insert (x ∷ xs) [] k b h are within is = absurd are
headed_insert (x ∷ xs) (y ∷ ys) zero b h are within is = (is, are)
headed_insert (x ∷ xs) (y ∷ ys) (suc k) b h are within is =
    (are.0, headed_insert xs ys k b h are.1 (omega (arith, within)) is)

pub headed_remove : (blocks : List (List Span)) (heads : List Head) (k : ℕ) → AreHeaded blocks heads → k < length blocks
    → AreHeaded (remove blocks k) (remove heads k)
headed_remove [] heads k are within = absurd (omega arith)
headed_remove (x ∷ xs) [] k are within = absurd are
headed_remove (x ∷ xs) (y ∷ ys) zero are within = are.1
headed_remove (x ∷ xs) (y ∷ ys) (suc k) are within = (are.0, headed_remove xs ys k are.1 (omega (arith, within)))

bound_more : (block : List Span) (bound added : ℕ) → All (IsAtMost bound) block → All (IsAtMost (max bound added)) block
bound_more block bound added are k d within = let one = are k d within in omega (arith, one)

pub bound_set : (block : List Span) (bound at added : ℕ) (gap : Span) → All (IsAtMost bound) block
    → gap.base + added + 1 ≡ gap.top → All (IsAtMost (max bound added)) (set block at gap)
bound_set block bound at added gap are is =
    All-set (IsAtMost (max bound added)) block at gap (omega (arith, is)) (bound_more block bound added are)

pub bound_insert : (block : List Span) (bound at added : ℕ) (gap : Span) → All (IsAtMost bound) block
    → gap.base + added + 1 ≡ gap.top → All (IsAtMost (max bound added)) (insert block at gap)
bound_insert block bound at added gap are is =
    let more = bound_more block bound added are in
    All-append (IsAtMost (max bound added)) (take at block) (gap ∷ drop at block)
    (All-take (IsAtMost (max bound added)) at block more)
    (All-cons (IsAtMost (max bound added)) gap (drop at block) (omega (arith, is)) (All-drop (IsAtMost (max bound added)) at block more))

pub bound_remove : (block : List Span) (bound at : ℕ) → All (IsAtMost bound) block
    → All (IsAtMost (max bound 0)) (remove block at)
bound_remove block bound at are =
    let more = bound_more block bound 0 are in
    All-append (IsAtMost (max bound 0)) (take at block) (drop (suc at) block)
    (All-take (IsAtMost (max bound 0)) at block more) (All-drop (IsAtMost (max bound 0)) (suc at) block more)

-- ---- A gap changed in its block.

pub gaps_set : (blocks : List (List Span)) (k at : ℕ) (gap : Span) → k < length blocks → at < length (get_or blocks k [])
    → gaps_of (set blocks k (set (get_or blocks k []) at gap)) ≡ set (gaps_of blocks) (index_at blocks k at) gap
gaps_set [] k at gap within inside = absurd (omega arith)
gaps_set (x ∷ xs) zero at gap within inside =
    let same : at ≡ 0 + at = omega arith in
    sym (set-append_left x (gaps_of xs) at gap inside) ∙ ap (λ (n : ℕ). set (x ++ gaps_of xs) n gap) same
gaps_set (x ∷ xs) (suc k) at gap within inside =
    let long = length-append x (gaps_of (take k xs)) in
    let same : index_at (x ∷ xs) (suc k) at - length x ≡ index_at xs k at = omega (arith, long) in
    ap (λ (gs : List Span). x ++ gs) (gaps_set xs k at gap (omega (arith, within)) inside)
    ∙ sym (set-append_right x (gaps_of xs) (length x) (index_at (x ∷ xs) (suc k) at) gap refl (omega (arith, long))
    ∙ ap (λ (n : ℕ). x ++ set (gaps_of xs) n gap) same)

pub gaps_insert : (blocks : List (List Span)) (k at : ℕ) (gap : Span) → k < length blocks → at ≤ length (get_or blocks k [])
    → gaps_of (set blocks k (insert (get_or blocks k []) at gap)) ≡ insert (gaps_of blocks) (index_at blocks k at) gap
gaps_insert [] k at gap within inside = absurd (omega arith)
gaps_insert (x ∷ xs) zero at gap within inside =
    let same : at ≡ 0 + at = omega arith in
    sym (insert-append_left x (gaps_of xs) at gap inside) ∙ ap (λ (n : ℕ). insert (x ++ gaps_of xs) n gap) same
gaps_insert (x ∷ xs) (suc k) at gap within inside =
    let long = length-append x (gaps_of (take k xs)) in
    let same : index_at (x ∷ xs) (suc k) at - length x ≡ index_at xs k at = omega (arith, long) in
    ap (λ (gs : List Span). x ++ gs) (gaps_insert xs k at gap (omega (arith, within)) inside)
    ∙ sym (insert-append_right x (gaps_of xs) (length x) (index_at (x ∷ xs) (suc k) at) gap refl (omega (arith, long))
    ∙ ap (λ (n : ℕ). x ++ insert (gaps_of xs) n gap) same)

pub gaps_remove : (blocks : List (List Span)) (k at : ℕ) → k < length blocks → at < length (get_or blocks k [])
    → gaps_of (set blocks k (remove (get_or blocks k []) at)) ≡ remove (gaps_of blocks) (index_at blocks k at)
gaps_remove [] k at within inside = absurd (omega arith)
gaps_remove (x ∷ xs) zero at within inside =
    let same : at ≡ 0 + at = omega arith in
    sym (remove-append_left x (gaps_of xs) at inside) ∙ ap (λ (n : ℕ). remove (x ++ gaps_of xs) n) same
gaps_remove (x ∷ xs) (suc k) at within inside =
    let long = length-append x (gaps_of (take k xs)) in
    let same : index_at (x ∷ xs) (suc k) at - length x ≡ index_at xs k at = omega (arith, long) in
    ap (λ (gs : List Span). x ++ gs) (gaps_remove xs k at (omega (arith, within)) inside)
    ∙ sym (remove-append_right x (gaps_of xs) (length x) (index_at (x ∷ xs) (suc k) at) refl (omega (arith, long))
    ∙ ap (λ (n : ℕ). x ++ remove (gaps_of xs) n) same)

-- a block of one gap taken away
pub gaps_remove_block : (blocks : List (List Span)) (k : ℕ) → k < length blocks → length (get_or blocks k []) ≡ 1
    → gaps_of (remove blocks k) ≡ remove (gaps_of blocks) (index_at blocks k 0)
gaps_remove_block [] k within one = absurd (omega arith)
gaps_remove_block ([] ∷ xs) zero within one = absurd (omega (arith, one))
gaps_remove_block ((g ∷ []) ∷ xs) zero within one = refl
gaps_remove_block ((g ∷ h ∷ gs) ∷ xs) zero within one = absurd (omega (arith, one))
gaps_remove_block (x ∷ xs) (suc k) within one =
    let long = length-append x (gaps_of (take k xs)) in
    let same : index_at (x ∷ xs) (suc k) 0 - length x ≡ index_at xs k 0 = omega (arith, long) in
    ap (λ (gs : List Span). x ++ gs) (gaps_remove_block xs k (omega (arith, within)) one)
    ∙ sym (remove-append_right x (gaps_of xs) (length x) (index_at (x ∷ xs) (suc k) 0) refl (omega (arith, long))
    ∙ ap (λ (n : ℕ). x ++ remove (gaps_of xs) n) same)

-- a head that was read, with its block
pub head_read : (blocks : List (List Span)) (heads : List Head) (k : ℕ) (b : List Span) (h : Head) → AreHeaded blocks heads
    → k < length blocks → b ≡ get_or blocks k b → h ≡ get_or heads k h → IsHead b h
head_read blocks heads k b h are within is here =
    subst (λ (e : Head). IsHead b e) (sym here) (head_of_block blocks heads k b h are within is)

-- ---- Places.

-- a place before the end has a gap
pub place_within : (blocks : List (List Span)) (k at : ℕ) → IsPlaceAt blocks k at
    → index_at blocks k at < length (gaps_of blocks) → k < length blocks
place_within blocks k at place inside =
    elim (cases_lt k (length blocks)) [
      | inl low ↦ low
      | inr high ↦ absurd (omega (arith, inside, index_end blocks k high))
    ]

-- a lower place is in the same block or in one before it
place_order : (blocks : List (List Span)) (k at ob oa : ℕ) → k < length blocks → at < length (get_or blocks k [])
    → index_at blocks ob oa < index_at blocks k at → (ob < k) ⊎ ((ob ≡ k) × (oa < at))
place_order blocks k at ob oa within inside less =
    elim (cases_lt ob k) [
      | inl low ↦ inl low
      | inr high ↦ elim (cases_eq ob k) [
        | inl same ↦ inr (same, (let same_index = ap (λ (n : ℕ). length (gaps_of (take n blocks))) same in omega (arith, less, same_index)))
        | inr apart ↦ absurd (omega (
          arith,
          less,
          index_mono blocks (k + 1) ob (omega (arith, high, apart)),
          index_next blocks k [] within,
          inside,
        ))
      ]
    ]

-- where a block has another in its place that is as long
take_set_length : (blocks : List (List Span)) (k j : ℕ) (b : List Span) → length b ≡ length (get_or blocks k [])
    → length (gaps_of (take j (set blocks k b))) ≡ length (gaps_of (take j blocks))
take_set_length [] k j b long = refl
take_set_length (x ∷ xs) k zero b long = refl
take_set_length (x ∷ xs) zero (suc j) b long =
    omega (arith, long, length-append b (gaps_of (take j xs)), length-append x (gaps_of (take j xs)))
take_set_length (x ∷ xs) (suc k) (suc j) b long =
    let rest = take_set_length xs k j b long in
    omega (arith, rest, length-append x (gaps_of (take j (set xs k b))), length-append x (gaps_of (take j xs)))

get_set_length : (blocks : List (List Span)) (k j : ℕ) (b : List Span) → k < length blocks
    → length b ≡ length (get_or blocks k []) → length (get_or (set blocks k b) j []) ≡ length (get_or blocks j [])
get_set_length blocks k j b within long =
    elim (cases_eq j k) [
      | inl same ↦ rw (same, get_or-set_same blocks k b [] within) long
      | inr apart ↦ ap (λ (x : List Span). length x) (get_or-set_other blocks k j b [] apart)
    ]

pub places_set : (blocks : List (List Span)) (k ob oa : ℕ) (b : List Span) → k < length blocks
    → length b ≡ length (get_or blocks k []) → IsPlaceAt blocks ob oa
    → IsPlaceAt (set blocks k b) ob oa × (index_at (set blocks k b) ob oa ≡ index_at blocks ob oa)
places_set blocks k ob oa b within long place =
    let all = length-set blocks k b in (
      record {
        within = omega (arith, place.within, all);
        inside = λ low. omega (arith, place.inside (omega (arith, low, all)), get_set_length blocks k ob b within long);
        end = λ high. place.end (omega (arith, high, all));
      },
      omega (arith, take_set_length blocks k ob b long),
    )

-- where a gap was removed from a block
pub places_removed : (blocks : List (List Span)) (k at ob oa : ℕ) → k < length blocks → at < length (get_or blocks k [])
    → IsPlaceAt blocks ob oa → index_at blocks ob oa < index_at blocks k at
    → IsPlaceAt (set blocks k (remove (get_or blocks k []) at)) ob oa
    × (index_at (set blocks k (remove (get_or blocks k []) at)) ob oa ≡ index_at blocks ob oa)
places_removed blocks k at ob oa within inside place less =
    elim (place_order blocks k at ob oa within inside less) [
      | inl low ↦ (
        record {
          within = omega (arith, place.within, all);
          inside = λ _. rw (get_or-set_other blocks k ob b [] (λ e. omega (arith, low, e))) (place.inside (omega (arith, low, within)));
          end = λ high. absurd (omega (arith, high, all, low, within));
        },
        ap (λ (bs : List (List Span)). length (gaps_of bs) + oa) (take-set-le ob blocks k b (omega (arith, low))),
      )
      | inr here ↦ (
        record {
          within = omega (arith, place.within, all);
          inside = λ _. rw (here.0, get_or-set_same blocks k b [] within)
              (omega (arith, here.1, inside, length-remove (get_or blocks k []) at inside));
          end = λ high. absurd (omega (arith, high, all, here.0, within));
        },
        ap (λ (bs : List (List Span)). length (gaps_of bs) + oa) (take-set-le ob blocks k b (omega (arith, here.0))),
      )
    ]
  where
    b : List Span
    b = remove (get_or blocks k []) at

    all : length (set blocks k b) ≡ length blocks
    all = length-set blocks k b

-- where a block was removed
pub places_without : (blocks : List (List Span)) (k at ob oa : ℕ) → k < length blocks → length (get_or blocks k []) ≡ 1
    → at < length (get_or blocks k []) → IsPlaceAt blocks ob oa → index_at blocks ob oa < index_at blocks k at
    → IsPlaceAt (remove blocks k) ob oa × (index_at (remove blocks k) ob oa ≡ index_at blocks ob oa)
places_without blocks k at ob oa within one inside place less =
    elim (place_order blocks k at ob oa within inside less) [
      | inl low ↦ (
        record {
          within = omega (arith, low, within, short);
          inside = λ _. rw (get_or-remove_below blocks k [] ob low within) (place.inside (omega (arith, low, within)));
          end = λ high. absurd (omega (arith, high, low, within, short));
        },
        ap (λ (bs : List (List Span)). length (gaps_of bs) + oa)
            (take-append-le ob (take k blocks) (drop (suc k) blocks) (omega (arith, low, within, length-take-le k blocks (omega (arith, within))))
            ∙ take-take ob k blocks (omega (arith, low))),
      )
      | inr here ↦ absurd (omega (arith, here.1, inside, one))
    ]
  where
    short : length (remove blocks k) + 1 ≡ length blocks
    short = length-remove blocks k within

-- ---- The row after a change.

pub some_set : (gaps : List Span) (at : ℕ) (gap : Span) → AreGaps (set gaps at gap) → at < length gaps → IsSomeBytes gap
some_set gaps at gap are within =
    rw (get_or-set_same gaps at gap gap within) at (are.some at gap (omega (arith, within, length-set gaps at gap)))

pub some_insert : (gaps : List Span) (at : ℕ) (gap : Span) → AreGaps (insert gaps at gap) → at ≤ length gaps → IsSomeBytes gap
some_insert gaps at gap are within =
    rw (get_or-insert_at gaps at gap gap within) at (are.some at gap (omega (arith, within, length-insert gaps at gap within)))

gaps_without : (gaps : List Span) (at : ℕ) → AreGaps gaps → at < length gaps → AreGaps (remove gaps at)
gaps_without gaps at are within = record {
  some = All-append IsSomeBytes (take at gaps) (drop (suc at) gaps) (All-take IsSomeBytes at gaps are.some)
      (All-drop IsSomeBytes (suc at) gaps are.some);
  apart = all_pairs_remove (λ gap later. gap.top < later.base) gaps at within are.apart;
}

pub row_without : (blocks new : List (List Span)) (heads new_heads : List Head) (most block_room head_room at : ℕ)
    → IsGapRow blocks heads most block_room head_room → AreHeaded new new_heads → length new ≤ length blocks
    → at < length (gaps_of blocks) → gaps_of new ≡ remove (gaps_of blocks) at
    → IsGapRow new new_heads most block_room head_room
row_without blocks new heads new_heads most block_room head_room at row are fewer within is = record {
  are_gaps = rw is (gaps_without (gaps_of blocks) at row.are_gaps within);
  at_most = omega (arith, row.at_most, ap (λ (gs : List Span). length gs) is, length-remove (gaps_of blocks) at within);
  few = row.few;
  headed = are;
  fits = omega (arith, fewer, row.fits);
  reserved = row.reserved;
  heads_reserved = row.heads_reserved;
}

pub row_set : (blocks new : List (List Span)) (heads new_heads : List Head) (most block_room head_room at : ℕ) (gap : Span)
    → IsGapRow blocks heads most block_room head_room → AreHeaded new new_heads → length new ≡ length blocks
    → AreGaps (set (gaps_of blocks) at gap) → gaps_of new ≡ set (gaps_of blocks) at gap
    → IsGapRow new new_heads most block_room head_room
row_set blocks new heads new_heads most block_room head_room at gap row are same order is = record {
  are_gaps = rw is order;
  at_most = omega (arith, row.at_most, ap (λ (gs : List Span). length gs) is, length-set (gaps_of blocks) at gap);
  few = row.few;
  headed = are;
  fits = omega (arith, same, row.fits);
  reserved = row.reserved;
  heads_reserved = row.heads_reserved;
}

pub row_insert : (blocks new : List (List Span)) (heads new_heads : List Head) (most block_room head_room at : ℕ) (gap : Span)
    → IsGapRow blocks heads most block_room head_room → AreHeaded new new_heads → length new ≤ block_room
    → at ≤ length (gaps_of blocks) → length (gaps_of blocks) < most
    → AreGaps (insert (gaps_of blocks) at gap) → gaps_of new ≡ insert (gaps_of blocks) at gap
    → IsGapRow new new_heads most block_room head_room
row_insert blocks new heads new_heads most block_room head_room at gap row are fits within more order is = record {
  are_gaps = rw is order;
  at_most = omega (arith, more, ap (λ (gs : List Span). length gs) is, length-insert (gaps_of blocks) at gap within);
  few = row.few;
  headed = are;
  fits = fits;
  reserved = row.reserved;
  heads_reserved = row.heads_reserved;
}

-- ---- Blocks split and joined.

split_below : (blocks : List (List Span)) (k : ℕ) (lower upper : List Span) → k < length blocks
    → lower ++ upper ≡ get_or blocks k [] → length lower ≡ 32 → length upper ≡ 32
    → IsSplit blocks k (insert (set blocks k lower) (suc k) upper)
split_below [] k lower upper within both low high = absurd (omega arith)
split_below (x ∷ xs) zero lower upper within both low high = record {
  gaps = sym (append_assoc lower upper (gaps_of xs)) ∙ ap (λ (gs : List Span). gs ++ gaps_of xs) both;
  before = refl;
  lower = low;
  upper = high;
}
split_below (x ∷ xs) (suc k) lower upper within both low high =
    let rest = split_below xs k lower upper (omega (arith, within)) both low high in
    record {
      gaps = ap (λ (gs : List Span). x ++ gs) rest.gaps;
      before = ap (λ (bs : List (List Span)). x ∷ bs) rest.before;
      lower = rest.lower;
      upper = let one : suc k + 1 ≡ suc (k + 1) = omega arith in rw one rest.upper;
    }

pub split_is : (blocks : List (List Span)) (k : ℕ) (b lower upper : List Span) → k < length blocks → b ≡ get_or blocks k b
    → b ≡ lower ++ upper → length lower ≡ 32 → length upper ≡ 32
    → IsSplit blocks k (insert (set blocks k lower) (k + 1) upper)
split_is blocks k b lower upper within is both low high =
    let one : k + 1 ≡ suc k = omega arith in
    rw one (split_below blocks k lower upper within (sym both ∙ (is ∙ get_or_default blocks k b [] within)) low high)

joined : (blocks : List (List Span)) (k : ℕ) → suc k < length blocks
    → gaps_of (set (remove blocks (suc k)) k (get_or blocks k [] ++ get_or blocks (suc k) [])) ≡ gaps_of blocks
joined [] k within = absurd (omega arith)
joined (x ∷ []) k within = absurd (omega (arith, within))
joined (x ∷ y ∷ xs) zero within = append_assoc x y (gaps_of xs)
joined (x ∷ y ∷ xs) (suc k) within = ap (λ (gs : List Span). x ++ gs) (joined (y ∷ xs) k (omega (arith, within)))

pub joined_is : (blocks : List (List Span)) (k : ℕ) (b upper new : List Span) → k + 1 < length blocks
    → b ≡ get_or (remove blocks (k + 1)) k b → upper ≡ get_or blocks (k + 1) upper → new ≡ b ++ upper
    → gaps_of (set (remove blocks (k + 1)) k new) ≡ gaps_of blocks
joined_is blocks k b upper new within is high both =
    let one : k + 1 ≡ suc k = omega arith in
    let low = is ∙ (get_or-remove_below blocks (k + 1) b k (omega arith) within ∙ get_or_default blocks k b [] (omega (arith, within))) in
    let up = high ∙ get_or_default blocks (k + 1) upper [] within in
    rw (both, low, up, one) (joined blocks k (omega (arith, within)))

pub crowded : (blocks : List (List Span))
    → ((k : ℕ) → k + 1 < length blocks → 49 ≤ length (get_or blocks k []) + length (get_or blocks (k + 1) []))
    → 49 * (length blocks / 2) ≤ length (gaps_of blocks)
crowded [] pairs = omega arith
crowded (x ∷ []) pairs = omega arith
crowded (x ∷ y ∷ ys) pairs =
    let first = pairs 0 (omega arith) in
    let rest = crowded ys (λ k within.
    let one : suc (suc k) + 1 ≡ suc (suc (k + 1)) = omega arith in
    rw one at (pairs (suc (suc k)) (omega (arith, within)))) in
    omega (arith, first, rest, length-append x (y ++ gaps_of ys), length-append y (gaps_of ys))

-- the place of a gap to be inserted is the one that its base locates
pub same_place : (gaps : List Span) (gap : Span) (at other : ℕ) → AreGaps (insert gaps at gap) → at ≤ length gaps
    → AreGaps gaps → IsLocated gaps gap.base other → other ≡ at
same_place gaps gap at other order within are located =
    elim (cases_lt other at) [
      | inl low ↦
          let apart = order.apart other at gap low (omega (arith, within, length-insert gaps at gap within)) in
          let here = get_or-insert_at gaps at gap gap within in
          let before = get_or-insert_below gaps at gap gap other low within in
          absurd (omega (
            arith,
            apart,
            ap (λ (s : Span). s.base) here,
            ap (λ (s : Span). s.top) before,
            located.above gap (omega (arith, low, within)),
          ))
      | inr high ↦ elim (cases_eq other at) [
        | inl same ↦ same
        | inr more ↦
            let inside : at < length gaps = omega (arith, high, more, located.within) in
            let apart = order.apart at (at + 1) gap (omega arith) (omega (arith, inside, length-insert gaps at gap within)) in
            let here = get_or-insert_at gaps at gap gap within in
            let after = get_or-insert_above gaps at gap gap at (omega arith) within in
            let some = are.some at gap inside in
            let own = some_insert gaps at gap order within in
            absurd (omega (
              arith,
              apart,
              ap (λ (s : Span). s.top) here,
              ap (λ (s : Span). s.base) after,
              some.not_empty,
              own.not_empty,
              located.below at gap (omega (arith, high, more)),
            ))
      ]
    ]

-- a gap inserted into one of the halves
pub split_insert_lower : (blocks new : List (List Span)) (k at : ℕ) (gap : Span) → IsSplit blocks k new → k < length new
    → at ≤ 32 → gaps_of (set new k (insert (get_or new k []) at gap)) ≡ insert (gaps_of blocks) (index_at blocks k at) gap
split_insert_lower blocks new k at gap is within low =
    gaps_insert new k at gap within (omega (arith, low, is.lower))
    ∙ rw (is.gaps, is.before) refl

pub split_insert_upper : (blocks new : List (List Span)) (k at : ℕ) (gap : Span) → IsSplit blocks k new → k + 1 < length new
    → 32 < at → at ≤ 64
    → gaps_of (set new (k + 1) (insert (get_or new (k + 1) []) (at - 32) gap)) ≡ insert (gaps_of blocks) (index_at blocks k at) gap
split_insert_upper blocks new k at gap is within high low =
    let next = index_next new k [] (omega (arith, within)) in
    let before = ap (λ (bs : List (List Span)). length (gaps_of bs)) is.before in
    let same : index_at new (k + 1) (at - 32) ≡ index_at blocks k at = omega (arith, next, before, is.lower, high) in
    gaps_insert new (k + 1) (at - 32) gap within (omega (arith, low, is.upper)) ∙ rw (is.gaps, same) refl

-- the lower of two neighbors has gaps
pub joined_head : (blocks : List (List Span)) (heads : List Head) (k : ℕ) (b : List Span) → AreHeaded blocks heads
    → k + 1 < length blocks → b ≡ get_or (remove blocks (k + 1)) k b → 0 < length b
joined_head blocks heads k b are within is =
    let inside : k < length blocks = omega (arith, within) in
    let head = head_of_block blocks heads k b (record { last = 0; bound = 0 }) are inside
    (is ∙ get_or-remove_below blocks (k + 1) b k (omega arith) within) in
    head.some

-- the index of a place is at most the number of gaps
pub place_most : (blocks : List (List Span)) (k at : ℕ) → IsPlaceAt blocks k at → index_at blocks k at ≤ length (gaps_of blocks)
place_most blocks k at place =
    elim (cases_lt k (length blocks)) [
      | inl low ↦ let inside = index_inside blocks k at [] low (place.inside low) in omega (arith, inside)
      | inr high ↦ omega (arith, place.end high, index_end blocks k high)
    ]
