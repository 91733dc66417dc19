-- The two framings.
use Rattle.std.proofs.Common.{◌≡◌, ℕ, ◌+◌, ◌<◌, List, [], ◌∷◌, ◌++◌, length, take, refl, sym, ◌∙◌, ap, arith, append-nil, append_assoc, length-append, length-take, ◌==◌, Bool, true, false}
use Rattle.std.proofs.Common.{if◌then◌else◌, Option, Some, None, IfSome, IfNone}
use Rattle.std.specs.Borrow.{Bor}
use Rattle.std.proofs.lemmas.Bool.{eqb-true, eqb-false}
use Rattle.std.proofs.lemmas.List.{take_all}
use Rattle.cc_io.specs.Lines.{IsLine, lines_from, rest_from}
use Rattle.std.specs.List.{AllByRecursion}
use Rattle.cc_io.specs.Blocks.{blocks_from, block_rest_from, blocks_text, Cuts, OneCut}
use Rattle.cc_io.specs.Frames.{EndsEntry, EndsNone, lines, blocks}
use Rattle.cc_io.proofs.LineLemmas.{no_lines, all_rest}
use Rattle.cc_io.proofs.SplitLemmas.{lines_line, rest_line}

-- ---- blocks

longer : (begun : List ℕ) (x : ℕ) → length (begun ++ x ∷ []) ≡ length begun + 1
longer begun x = length-append begun (x ∷ [])

-- with too few bytes no block ends
no_blocks : (begun text : List ℕ) → length begun + length text < 16 → blocks_from begun text ≡ []
no_blocks begun [] few = refl
no_blocks begun (x ∷ text) few =
    go (length begun == 15) refl (λ (more : length (begun ++ x ∷ []) + length text < 16). no_blocks (begun ++ x ∷ []) text more) where
      go : (b : Bool) → (length begun == 15) ≡ b → (length (begun ++ x ∷ []) + length text < 16 → blocks_from (begun ++ x ∷ []) text ≡ [])
          → (if b then (begun ++ x ∷ []) ∷ blocks_from [] text else blocks_from (begun ++ x ∷ []) text) ≡ []
      go true is p = absurd (omega (arith, eqb-true (length begun) 15 is, few))
      go false is p = p (omega (arith, longer begun x, few))

all_block_rest : (begun text : List ℕ) → length begun + length text < 16 → block_rest_from begun text ≡ begun ++ text
all_block_rest begun [] few = sym (append-nil begun)
all_block_rest begun (x ∷ text) few =
    go (length begun == 15) refl (λ (more : length (begun ++ x ∷ []) + length text < 16). all_block_rest (begun ++ x ∷ []) text more) where
      go : (b : Bool) → (length begun == 15) ≡ b
          → (length (begun ++ x ∷ []) + length text < 16 → block_rest_from (begun ++ x ∷ []) text ≡ (begun ++ x ∷ []) ++ text)
          → (if b then block_rest_from [] text else block_rest_from (begun ++ x ∷ []) text) ≡ begun ++ x ∷ text
      go true is p = absurd (omega (arith, eqb-true (length begun) 15 is, few))
      go false is p = p (omega (arith, longer begun x, few)) ∙ append_assoc begun (x ∷ []) text

-- with the bytes up to its end a block is whole
blocks_block : (begun end after : List ℕ) → length begun < 16 → length begun + length end ≡ 16
    → blocks_from begun (end ++ after) ≡ (begun ++ end) ∷ blocks_from [] after
blocks_block begun [] after short whole = absurd (omega (arith, short, whole))
blocks_block begun (x ∷ end) after short whole =
    go (length begun == 15) refl end whole
    (λ (less : length (begun ++ x ∷ []) < 16) (same : length (begun ++ x ∷ []) + length end ≡ 16). blocks_block (begun ++ x ∷ []) end after less same) where
      go : (b : Bool) → (length begun == 15) ≡ b → (end : List ℕ) → length begun + length (x ∷ end) ≡ 16
          → (length (begun ++ x ∷ []) < 16 → length (begun ++ x ∷ []) + length end ≡ 16
          → blocks_from (begun ++ x ∷ []) (end ++ after) ≡ ((begun ++ x ∷ []) ++ end) ∷ blocks_from [] after)
          → (if b then (begun ++ x ∷ []) ∷ blocks_from [] (end ++ after) else blocks_from (begun ++ x ∷ []) (end ++ after))
          ≡ (begun ++ x ∷ end) ∷ blocks_from [] after
      go true is [] whole p = refl
      go true is (y ∷ end) whole p = absurd (omega (arith, eqb-true (length begun) 15 is, whole))
      go false is end whole p =
          let other = eqb-false (length begun) 15 is in
          p (omega (arith, longer begun x, other, short)) (omega (arith, longer begun x, whole))
          ∙ ap (λ (l : List ℕ). l ∷ blocks_from [] after) (append_assoc begun (x ∷ []) end)

block_rest_block : (begun end after : List ℕ) → length begun < 16 → length begun + length end ≡ 16
    → block_rest_from begun (end ++ after) ≡ block_rest_from [] after
block_rest_block begun [] after short whole = absurd (omega (arith, short, whole))
block_rest_block begun (x ∷ end) after short whole =
    go (length begun == 15) refl end whole
    (λ (less : length (begun ++ x ∷ []) < 16) (same : length (begun ++ x ∷ []) + length end ≡ 16). block_rest_block (begun ++ x ∷ []) end after less same) where
      go : (b : Bool) → (length begun == 15) ≡ b → (end : List ℕ) → length begun + length (x ∷ end) ≡ 16
          → (length (begun ++ x ∷ []) < 16 → length (begun ++ x ∷ []) + length end ≡ 16
          → block_rest_from (begun ++ x ∷ []) (end ++ after) ≡ block_rest_from [] after)
          → (if b then block_rest_from [] (end ++ after) else block_rest_from (begun ++ x ∷ []) (end ++ after)) ≡ block_rest_from [] after
      go true is [] whole p = refl
      go true is (y ∷ end) whole p = absurd (omega (arith, eqb-true (length begun) 15 is, whole))
      go false is end whole p =
          let other = eqb-false (length begun) 15 is in
          p (omega (arith, longer begun x, other, short)) (omega (arith, longer begun x, whole))

-- ---- the one cut

cuts_from : (begun text : List ℕ) → length begun < 16 → Cuts (begun ++ text) (blocks_from begun text) (block_rest_from begun text)
cuts_from begun [] short = record { whole = append-nil begun; each = tt; last = short }
cuts_from begun (x ∷ text) short =
    go (length begun == 15) refl (cuts_from [] text (omega arith)) (λ (less : length (begun ++ x ∷ []) < 16). cuts_from (begun ++ x ∷ []) text less) where
      go : (b : Bool) → (length begun == 15) ≡ b → Cuts text (blocks_from [] text) (block_rest_from [] text)
          → (length (begun ++ x ∷ []) < 16 → Cuts ((begun ++ x ∷ []) ++ text) (blocks_from (begun ++ x ∷ []) text) (block_rest_from (begun ++ x ∷ []) text))
          → Cuts (begun ++ x ∷ text) (if b then (begun ++ x ∷ []) ∷ blocks_from [] text else blocks_from (begun ++ x ∷ []) text)
          (if b then block_rest_from [] text else block_rest_from (begun ++ x ∷ []) text)
      go true is p q = record {
        whole =
            let tail : text ≡ blocks_text (blocks_from [] text) ++ block_rest_from [] text = p.whole in
            sym (append_assoc begun (x ∷ []) text) ∙ ap (λ (l : List ℕ). (begun ++ x ∷ []) ++ l) tail
            ∙ sym (append_assoc (begun ++ x ∷ []) (blocks_text (blocks_from [] text)) (block_rest_from [] text));
        each = (omega (arith, longer begun x, eqb-true (length begun) 15 is), p.each);
        last = p.last;
      }
      go false is p q =
          let other = eqb-false (length begun) 15 is in
          let r = q (omega (arith, longer begun x, other, short)) in
          record { whole = sym (append_assoc begun (x ∷ []) text) ∙ r.whole; each = r.each; last = r.last }

blocks_of_text : (blocks : List (List ℕ)) (rest : List ℕ) → AllByRecursion (λ block. length block ≡ 16) blocks → length rest < 16
    → blocks_from [] (blocks_text blocks ++ rest) ≡ blocks
blocks_of_text [] rest each last = no_blocks [] rest (omega (arith, last))
blocks_of_text (block ∷ blocks) rest each last =
    rw (append_assoc block (blocks_text blocks) rest)
    (blocks_block [] block (blocks_text blocks ++ rest) (omega arith) (omega (arith, each.0))
    ∙ ap (λ (l : List (List ℕ)). block ∷ l) (blocks_of_text blocks rest each.1 last))

rest_of_text : (blocks : List (List ℕ)) (rest : List ℕ) → AllByRecursion (λ block. length block ≡ 16) blocks → length rest < 16
    → block_rest_from [] (blocks_text blocks ++ rest) ≡ rest
rest_of_text [] rest each last = all_block_rest [] rest (omega (arith, last))
rest_of_text (block ∷ blocks) rest each last =
    rw (append_assoc block (blocks_text blocks) rest)
    (block_rest_block [] block (blocks_text blocks ++ rest) (omega arith) (omega (arith, each.0)) ∙ rest_of_text blocks rest each.1 last)

pub one_cut : (bytes : List ℕ) → OneCut bytes
one_cut bytes = record {
  cuts = cuts_from [] bytes (omega arith);
  only = λ blocks rest c. (
    sym (ap (blocks_from []) c.whole ∙ blocks_of_text blocks rest c.each c.last),
    sym (ap (block_rest_from []) c.whole ∙ rest_of_text blocks rest c.each c.last),
  );
}

-- ---- entries of either kind

-- if fewer than 16 bytes are kept of an entry that has begun, they are all of it
start_whole : (start begun : List ℕ) → start ≡ take 129 begun → length start < 16 → start ≡ begun
start_whole start begun is short =
    let cut = ap length is in
    is ∙ take_all 129 begun (omega (arith, cut, length-take 129 begun, short))

pub line_ends : (begun end after text : List ℕ) → text ≡ end ++ 10 ∷ after → IsLine end → EndsEntry lines begun text end after
line_ends begun end after text whole line = record {
  entries = ap (lines_from begun) whole ∙ lines_line begun end after line;
  left = ap (rest_from begun) whole ∙ rest_line begun end after line;
}

pub line_ends_not : (begun text : List ℕ) → IsLine text → EndsNone lines begun text
line_ends_not begun text line = record { entries = no_lines begun text line; left = all_rest begun text line }

pub block_ends : (start begun end after text : List ℕ) → start ≡ take 129 begun → length start < 16
    → length start + length end ≡ 16 → text ≡ end ++ after → EndsEntry blocks begun text end after
block_ends start begun end after text is short whole text_is =
    let same = start_whole start begun is short in
    let fewer : length begun < 16 = omega (arith, ap length same, short) in
    let sixteen : length begun + length end ≡ 16 = omega (arith, ap length same, whole) in
    record {
      entries = ap (blocks_from begun) text_is ∙ blocks_block begun end after fewer sixteen;
      left = ap (block_rest_from begun) text_is ∙ block_rest_block begun end after fewer sixteen;
    }

pub block_ends_not : (start begun text : List ℕ) → start ≡ take 129 begun → length start < 16
    → length start + length text < 16 → EndsNone blocks begun text
block_ends_not start begun text is short few =
    let same = start_whole start begun is short in
    let fewer : length begun + length text < 16 = omega (arith, ap length same, few) in
    record { entries = no_blocks begun text fewer; left = all_block_rest begun text fewer }

-- the result of a split: the two parts, or nothing
abbrev Parts : Type 0
Parts = Option (Bor (List ℕ) × Bor (List ℕ))

pub line_split : (begun text : List ℕ) (parts : Parts) → IfSome parts (λ p. text ≡ p.0.now ++ 10 ∷ p.1.now) → IfSome parts (λ p. IsLine p.0.now)
    → IfSome parts (λ p. EndsEntry lines begun text p.0.now p.1.now)
line_split begun text None whole line = tt
line_split begun text (Some p) whole line = line_ends begun p.0.now p.1.now text whole line

pub line_split_not : (begun text : List ℕ) (parts : Parts) → IfNone parts (IsLine text) → IfNone parts (EndsNone lines begun text)
line_split_not begun text None line = line_ends_not begun text line
line_split_not begun text (Some p) line = tt

pub block_split : (start begun text : List ℕ) (parts : Parts) → start ≡ take 129 begun → length start < 16
    → IfSome parts (λ p. text ≡ p.0.now ++ p.1.now) → IfSome parts (λ p. length start + length p.0.now ≡ 16)
    → IfSome parts (λ p. EndsEntry blocks begun text p.0.now p.1.now)
block_split start begun text None is short whole sixteen = tt
block_split start begun text (Some p) is short whole sixteen =
    block_ends start begun p.0.now p.1.now text is short sixteen whole

pub block_split_not : (start begun text : List ℕ) (parts : Parts) → start ≡ take 129 begun → length start < 16
    → IfNone parts (length start + length text < 16) → IfNone parts (EndsNone blocks begun text)
block_split_not start begun text None is short few = block_ends_not start begun text is short few
block_split_not start begun text (Some p) is short few = tt

-- ---- beginnings

pub block_begun : (start text : List ℕ) (parts : Parts) → IfNone parts (length start + length text < 16) → IfNone parts (length (take 129 (start ++ text)) < 16)
block_begun start text None few = omega (arith, length-take 129 (start ++ text), length-append start text, few)
block_begun start text (Some p) few = tt
