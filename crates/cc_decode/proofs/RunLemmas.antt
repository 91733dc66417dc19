-- Runs of word characters, and the entries of a text.
use Rattle.std.proofs.Common.{
  ◌≡◌,
  ℕ,
  zero,
  suc,
  ◌+◌,
  ◌<◌,
  List,
  [],
  ◌∷◌,
  ◌++◌,
  length,
  get_or,
  take,
  refl,
  sym,
  subst,
  ◌∙◌,
  ap,
  arith,
  append-nil,
  append_assoc,
  length-append,
  length-take,
  ◌==◌,
  ◌||◌,
  not,
  Bool,
  true,
  false,
  if◌then◌else◌,
  true≢false,
  Option,
  Some,
  None,
  IfSome,
  IfNone,
  inl,
  inr,
}
use Rattle.std.specs.Prelude.{◌⊎◌}
use Rattle.std.specs.Borrow.{Bor}
use Rattle.std.specs.List.{AllByRecursion, AllPass}
use Rattle.std.proofs.lemmas.Bool.{eqb-true, eqb-false, ne_eqb}
use Rattle.std.proofs.lemmas.List.{take_all}
use Rattle.std.proofs.lemmas.List.Elements.{All-head, All-tail}
use Rattle.hex.specs.Hex.{is_hex_digit}
use Rattle.cc_io.specs.Blocks.{blocks_text}
use Rattle.cc_io.specs.Frames.{EndsEntry, EndsNone}
use Rattle.cc_decode.specs.Annotate.{is_word_byte, IsRun}
use Rattle.cc_decode.specs.Runs.{EndsRun, ends_entry, run_rest_from, runs, runs_from}

-- ---- runs

pub run_append : (xs ys : List ℕ) → IsRun xs → IsRun ys → IsRun (xs ++ ys)
run_append [] ys p q = q
run_append (x ∷ xs) ys p q = (p.0, run_append xs ys p.1 q)

pub run_left : (xs ys : List ℕ) → IsRun (xs ++ ys) → IsRun xs
run_left [] ys p = tt
run_left (x ∷ xs) ys p = (p.0, run_left xs ys p.1)

pub run_right : (xs ys : List ℕ) → IsRun (xs ++ ys) → IsRun ys
run_right [] ys p = p
run_right (x ∷ xs) ys p = run_right xs ys p.1

hex_word : (c : ℕ) → is_hex_digit c ≡ true → is_word_byte c ≡ true
hex_word c h = grind arith

pub hex_run : (text : List ℕ) → AllPass is_hex_digit text → IsRun text
hex_run [] h = tt
hex_run (x ∷ text) h = (
  hex_word x (All-head (λ (c : ℕ). is_hex_digit c ≡ true) x text h),
  hex_run text (All-tail (λ (c : ℕ). is_hex_digit c ≡ true) x text h),
)

-- ---- entries

picked : {X : Type 0} → (b : Bool) (x y : X) → b ≡ true → (if b then x else y) ≡ x
picked true x y e = refl
picked false x y e = absurd (true≢false (sym e))

passed : {X : Type 0} → (b : Bool) (x y : X) → b ≡ false → (if b then x else y) ≡ y
passed true x y e = absurd (true≢false e)
passed false x y e = refl

goes_on : (begun : List ℕ) (x : ℕ) → is_word_byte x ≡ true → length begun < 63 → ends_entry begun x ≡ false
goes_on begun x word few =
    ap (λ (b : Bool). not b || length begun == 63) word ∙ ne_eqb (length begun) 63 (λ (e : length begun ≡ 63). omega (arith, e, few))

abbrev Ends : (byte n : ℕ) → Bool
Ends byte n = not (is_word_byte byte) || n == 63

run_entry : (begun run : List ℕ) (byte : ℕ) (after : List ℕ) → IsRun run → length begun + length run < 64 → Ends byte (length begun + length run) ≡ true
    → runs_from begun ((run ++ byte ∷ []) ++ after) ≡ (begun ++ (run ++ byte ∷ [])) ∷ runs_from [] after
run_entry begun [] byte after word fits ends =
    let same : length begun ≡ length begun + 0 = omega arith in
    picked (ends_entry begun byte) _ _ (ap (Ends byte) same ∙ ends)
run_entry begun (x ∷ run) byte after word fits ends =
    let more = length-append begun (x ∷ []) in
    let same : length (begun ++ x ∷ []) + length run ≡ length begun + length (x ∷ run) = omega (arith, more) in
    passed (ends_entry begun x) _ _ (goes_on begun x word.0 (omega (arith, fits)))
    ∙ run_entry (begun ++ x ∷ []) run byte after word.1 (omega (arith, same, fits)) (ap (Ends byte) same ∙ ends)
    ∙ ap (λ (l : List ℕ). l ∷ runs_from [] after) (append_assoc begun (x ∷ []) (run ++ byte ∷ []))

run_left_over : (begun run : List ℕ) (byte : ℕ) (after : List ℕ) → IsRun run → length begun + length run < 64 → Ends byte (length begun + length run) ≡ true
    → run_rest_from begun ((run ++ byte ∷ []) ++ after) ≡ run_rest_from [] after
run_left_over begun [] byte after word fits ends =
    let same : length begun ≡ length begun + 0 = omega arith in
    picked (ends_entry begun byte) _ _ (ap (Ends byte) same ∙ ends)
run_left_over begun (x ∷ run) byte after word fits ends =
    let more = length-append begun (x ∷ []) in
    let same : length (begun ++ x ∷ []) + length run ≡ length begun + length (x ∷ run) = omega (arith, more) in
    passed (ends_entry begun x) _ _ (goes_on begun x word.0 (omega (arith, fits)))
    ∙ run_left_over (begun ++ x ∷ []) run byte after word.1 (omega (arith, same, fits)) (ap (Ends byte) same ∙ ends)

no_entry : (begun text : List ℕ) → IsRun text → length begun + length text < 64 → runs_from begun text ≡ []
no_entry begun [] word fits = refl
no_entry begun (x ∷ text) word fits =
    passed (ends_entry begun x) _ _ (goes_on begun x word.0 (omega (arith, fits)))
    ∙ no_entry (begun ++ x ∷ []) text word.1 (omega (arith, length-append begun (x ∷ []), fits))

all_rest : (begun text : List ℕ) → IsRun text → length begun + length text < 64 → run_rest_from begun text ≡ begun ++ text
all_rest begun [] word fits = sym (append-nil begun)
all_rest begun (x ∷ text) word fits =
    passed (ends_entry begun x) _ _ (goes_on begun x word.0 (omega (arith, fits)))
    ∙ all_rest (begun ++ x ∷ []) text word.1 (omega (arith, length-append begun (x ∷ []), fits))
    ∙ append_assoc begun (x ∷ []) text

-- ---- the splits

-- if fewer than 64 bytes are kept of an entry that has begun, they are all of it
start_whole : (start begun : List ℕ) → start ≡ take 129 begun → length start < 64 → start ≡ begun
start_whole start begun is short =
    let cut = ap length is in
    is ∙ take_all 129 begun (omega (arith, cut, length-take 129 begun, short))

abbrev Parts : Type 0
Parts = Option (Bor (List ℕ) × Bor (List ℕ))

pub run_split : (start begun text : List ℕ) (parts : Parts) → start ≡ take 129 begun → length start < 64
    → IfSome parts (λ p. text ≡ p.0.now ++ p.1.now) → IfSome parts (λ p. EndsRun (length start) p.0.now)
    → IfSome parts (λ p. EndsEntry runs begun text p.0.now p.1.now)
run_split start begun text None is short whole ends = tt
run_split start begun text (Some p) is short whole ends =
    let same = ap length (start_whole start begun is short) in
    let cut : text ≡ (ends.run ++ ends.byte ∷ []) ++ p.1.now = whole ∙ ap (λ (l : List ℕ). l ++ p.1.now) ends.end_is in
    let fits : length begun + length ends.run < 64 = omega (arith, same, ends.fits) in
    let sum : length begun + length ends.run ≡ length start + length ends.run = omega (arith, same) in
    let last : Ends ends.byte (length begun + length ends.run) ≡ true = ap (Ends ends.byte) sum ∙ ends.ends in
    record {
      entries =
          ap (runs_from begun) cut ∙ run_entry begun ends.run ends.byte p.1.now ends.is_run fits last
          ∙ ap (λ (l : List ℕ). (begun ++ l) ∷ runs_from [] p.1.now) (sym ends.end_is);
      left = ap (run_rest_from begun) cut ∙ run_left_over begun ends.run ends.byte p.1.now ends.is_run fits last;
    }

pub run_split_not : (start begun text : List ℕ) (parts : Parts) → start ≡ take 129 begun → length start < 64
    → IfNone parts (IsRun text × (length start + length text < 64)) → IfNone parts (EndsNone runs begun text)
run_split_not start begun text None is short none =
    let same = ap length (start_whole start begun is short) in
    let fits : length begun + length text < 64 = omega (arith, same, none.1) in
    record { entries = no_entry begun text none.0 fits; left = all_rest begun text none.0 fits }
run_split_not start begun text (Some p) is short none = tt

pub run_begun : (start text : List ℕ) (parts : Parts) → IfNone parts (IsRun text × (length start + length text < 64))
    → IfNone parts (length (take 129 (start ++ text)) < 64)
run_begun start text None none = omega (arith, length-take 129 (start ++ text), length-append start text, none.1)
run_begun start text (Some p) none = tt

-- ---- all entries of a text

-- a run and a byte that is not a word character, or 64 word characters
abbrev pub IsEntry : List ℕ → Type 0
IsEntry entry =
    ((run : List ℕ) × (byte : ℕ) × (entry ≡ run ++ byte ∷ []) × IsRun run × (length run < 64) × (is_word_byte byte ≡ false))
    ⊎ (IsRun entry × (length entry ≡ 64))

pub record IsCut (text : List ℕ) (entries : List (List ℕ)) (rest : List ℕ) : Type 0 where
  pub whole : text ≡ blocks_text entries ++ rest
  pub each : AllByRecursion IsEntry entries
  pub last : IsRun rest
  pub short : length rest < 64

last_entry : (begun : List ℕ) (x : ℕ) → IsRun begun → length begun < 64 → ends_entry begun x ≡ true → IsEntry (begun ++ x ∷ [])
last_entry begun x run short ends = by (is_word_byte x) refl where
  by : (word : Bool) → is_word_byte x ≡ word → IsEntry (begun ++ x ∷ [])
  by false is = inl (begun, x, refl, run, short, is)
  by true is =
      let full = eqb-true (length begun) 63 (sym (ap (λ (b : Bool). not b || length begun == 63) is) ∙ ends) in
      inr (run_append begun (x ∷ []) run (is, tt), omega (arith, length-append begun (x ∷ []), full))

record Further (begun : List ℕ) (x : ℕ) : Type 0 where
  word : is_word_byte x ≡ true
  few : length begun < 63

further : (begun : List ℕ) (x : ℕ) → length begun < 64 → ends_entry begun x ≡ false → Further begun x
further begun x short ends = by (is_word_byte x) refl where
  by : (word : Bool) → is_word_byte x ≡ word → Further begun x
  by false is = absurd (true≢false (sym (ap (λ (b : Bool). not b || length begun == 63) is) ∙ ends))
  by true is =
      let other = eqb-false (length begun) 63 (sym (ap (λ (b : Bool). not b || length begun == 63) is) ∙ ends) in
      record { word = is; few = omega (arith, other, short) }

pub cut_from : (begun text : List ℕ) → IsRun begun → length begun < 64 → IsCut (begun ++ text) (runs_from begun text) (run_rest_from begun text)
cut_from begun [] run short = record { whole = append-nil begun; each = tt; last = run; short = short }
cut_from begun (x ∷ text) run short =
    go (ends_entry begun x) refl (cut_from [] text tt (omega arith))
    (λ (r : IsRun (begun ++ x ∷ [])) (s : length (begun ++ x ∷ []) < 64). cut_from (begun ++ x ∷ []) text r s) where
      go : (b : Bool) → ends_entry begun x ≡ b → IsCut text (runs_from [] text) (run_rest_from [] text)
          → (IsRun (begun ++ x ∷ []) → length (begun ++ x ∷ []) < 64 → IsCut ((begun ++ x ∷ []) ++ text) (runs_from (begun ++ x ∷ []) text) (run_rest_from (begun ++ x ∷ []) text))
          → IsCut (begun ++ x ∷ text) (if b then (begun ++ x ∷ []) ∷ runs_from [] text else runs_from (begun ++ x ∷ []) text)
          (if b then run_rest_from [] text else run_rest_from (begun ++ x ∷ []) text)
      go true is p q = record {
        whole =
            let tail : text ≡ blocks_text (runs_from [] text) ++ run_rest_from [] text = p.whole in
            sym (append_assoc begun (x ∷ []) text) ∙ ap (λ (l : List ℕ). (begun ++ x ∷ []) ++ l) tail
            ∙ sym (append_assoc (begun ++ x ∷ []) (blocks_text (runs_from [] text)) (run_rest_from [] text));
        each = (last_entry begun x run short is, p.each);
        last = p.last;
        short = p.short;
      }
      go false is p q =
          let more = further begun x short is in
          let r = q (run_append begun (x ∷ []) run (more.word, tt)) (omega (arith, length-append begun (x ∷ []), more.few)) in
          record { whole = sym (append_assoc begun (x ∷ []) text) ∙ r.whole; each = r.each; last = r.last; short = r.short }

pub cut : (text : List ℕ) → IsCut text (runs_from [] text) (run_rest_from [] text)
cut text = cut_from [] text tt (omega arith)
