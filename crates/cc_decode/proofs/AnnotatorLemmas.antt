-- The words that the functions of an annotator find.
use Rattle.std.proofs.Common.{
  ◌≡◌,
  ◌≢◌,
  ℕ,
  zero,
  suc,
  ◌+◌,
  ◌-◌,
  ◌<◌,
  ◌≤◌,
  List,
  [],
  ◌∷◌,
  ◌++◌,
  codes,
  length,
  take,
  drop,
  get_or,
  true≢false,
  refl,
  sym,
  ◌∙◌,
  ap,
  ap₂,
  subst,
  arith,
  append-nil,
  append_assoc,
  length-append,
  length-take,
  true,
  false,
  Option,
  Some,
  None,
  IfSome,
  IfNone,
  inl,
  inr,
}
use Rattle.std.specs.Prelude.{◌↔◌, ◌==◌, IsSome, MatchOption}
use Rattle.std.specs.Borrow.{Bor}
use Rattle.std.specs.Cmp.Lexicographic.{pointwise}
use Rattle.std.proofs.lemmas.Bool.Decides.{Decides-eqb}
use Rattle.std.proofs.lemmas.Slice.Eq.{strip_prefix_is}
use Rattle.std.specs.Str.Parse.{digits_value}
use Rattle.cc_word.specs.WordText.{IsWordText}
use Rattle.cc_decode.specs.Annotate.{IsPrefix, IsRun, is_word_byte}
use Rattle.cc_decode.specs.Annotator.{AreHalves, IsAlone, JoinsHalves, AnswersRun, Follows, Marks, PushesRun, RunIs}
use Rattle.cc_decode.specs.Decoder.{AppendsRow}
use Rattle.cc_io.specs.Answers.{AnswersInto}
use Rattle.cc_decode.specs.declared.annotator.Annotator.{Annotator}
use Rattle.cc_decode.specs.declared.annotator.Before.{Before}
use Rattle.cc_decode.specs.declared.annotator.Before.TheVariants.{Inside}
use Rattle.cc_io.specs.declared.format.Format.TheVariants.{Text}
use Rattle.std.proofs.lemmas.List.{get_or_at, take-append-drop, take_at}

-- ---- a prefix

abbrev Strips : (start text : List ℕ) → Option (Bor (List ℕ)) → Type 0
Strips start text r =
    MatchOption r (pointwise ◌==◌ (take (length start) text) start ≡ false)
    (λ x. (pointwise ◌==◌ (take (length start) text) start ≡ true) × (x.now ≡ drop (length start) text) × (length x.now + length start ≡ length text))

pub after_found : (start text : List ℕ) (r : Option (Bor (List ℕ))) → Strips start text r → IfSome r (λ rest. text ≡ start ++ rest.now)
after_found start text None s = tt
after_found start text (Some x) s = strip_prefix_is Decides-eqb text start (Some x) s

pub after_none : (start text : List ℕ) (r : Option (Bor (List ℕ))) → Strips start text r → IfNone r ((rest : List ℕ) → text ≢ start ++ rest)
after_none start text None s = strip_prefix_is Decides-eqb text start None s
after_none start text (Some x) s = tt

-- ---- words of a run

-- without the prefix these are the bytes of any text of a word
alone_digits : (run digits : List ℕ) (word : ℕ) → (length run ≤ 33 → digits ≡ run) → (33 < length run → (rest : List ℕ) → run ≡ codes "0x" ++ rest → digits ≡ rest)
    → (a : IsAlone run word) → digits ≡ a.digits
alone_digits run digits word short long a = by a.is_prefix where
  low : length a.digits ≤ 33
  low = elim a.is_word [
    | inl w ↦ omega (arith, w.0.0)
    | inr h ↦ omega (arith, ap length h.text_is, length-append (h.high ++ 95 ∷ []) h.low, length-append h.high (95 ∷ []), length-append h.high h.low, h.joined.0, h.joined.1.0)
  ]

  high : 32 ≤ length a.digits
  high = elim a.is_word [
    | inl w ↦ omega (arith, w.0.0)
    | inr h ↦ omega (arith, ap length h.text_is, length-append (h.high ++ 95 ∷ []) h.low, length-append h.high (95 ∷ []), length-append h.high h.low, h.joined.0, h.joined.1.0)
  ]

  by : IsPrefix a.prefix → digits ≡ a.digits
  by (inl none) =
      let same : run ≡ a.digits = a.run_is ∙ ap (λ (l : List ℕ). l ++ a.digits) none in
      short (omega (arith, ap length same, low)) ∙ same
  by (inr zero_x) =
      let same : run ≡ codes "0x" ++ a.digits = a.run_is ∙ ap (λ (l : List ℕ). l ++ a.digits) zero_x in
      long (omega (arith, ap length same, high)) a.digits same

halves_long : (text : List ℕ) (word : ℕ) → AreHalves text word → length text ≡ 33
halves_long text word h =
    omega (arith, ap length h.text_is, length-append (h.high ++ 95 ∷ []) h.low, length-append h.high (95 ∷ []), length-append h.high h.low, h.joined.0, h.joined.1.0)

pub some_digits : (run digits : List ℕ) (r : Option ℕ) → ((prefix : List ℕ) × IsPrefix prefix × (run ≡ prefix ++ digits)) → IsSome r ↔ IsWordText digits
    → IfSome r (λ word. word ≡ digits_value 16 digits) → IfSome r (λ word. IsAlone run word)
some_digits run digits None parts found value = tt
some_digits run digits (Some word) parts found value =
    record { prefix = parts.0; digits = digits; run_is = parts.2; is_prefix = parts.1; is_word = inl (found.0 refl, value) }

pub some_halves : (run digits : List ℕ) (r : Option ℕ) → ((prefix : List ℕ) × IsPrefix prefix × (run ≡ prefix ++ digits))
    → IfSome r (λ word. AreHalves digits word) → IfSome r (λ word. IsAlone run word)
some_halves run digits None parts halves = tt
some_halves run digits (Some word) parts halves =
    record { prefix = parts.0; digits = digits; run_is = parts.2; is_prefix = parts.1; is_word = inr halves }

pub none_digits : (run digits : List ℕ) (r : Option ℕ) → (length run ≤ 33 → digits ≡ run) → (33 < length run → (rest : List ℕ) → run ≡ codes "0x" ++ rest → digits ≡ rest)
    → length digits ≡ 32 → IsSome r ↔ IsWordText digits → IfNone r ((word : ℕ) → ¬ IsAlone run word)
none_digits run digits (Some x) short long full found = tt
none_digits run digits None short long full found = λ word a.
    let same = alone_digits run digits word short long a in
    elim a.is_word [
      | inl w ↦ let some : IsSome {T = ℕ} None = found.1 (subst IsWordText (sym same) w.0) in cc some
      | inr h ↦ omega (arith, halves_long a.digits word h, ap length same, full)
    ]

pub none_halves : (run digits : List ℕ) (r : Option ℕ) → (length run ≤ 33 → digits ≡ run) → (33 < length run → (rest : List ℕ) → run ≡ codes "0x" ++ rest → digits ≡ rest)
    → length digits ≡ 33 → IfNone r ((word : ℕ) → ¬ AreHalves digits word) → IfNone r ((word : ℕ) → ¬ IsAlone run word)
none_halves run digits (Some x) short long full none = tt
none_halves run digits None short long full none = λ word a.
    let same = alone_digits run digits word short long a in
    elim a.is_word [
      | inl w ↦ omega (arith, w.0.0, ap length same, full)
      | inr h ↦ none word (subst (λ (l : List ℕ). AreHalves l word) (sym same) h)
    ]

-- ---- halves

-- lists that are joined in the same place
apart : (ps qs xs ys : List ℕ) → length ps ≡ length qs → ps ++ xs ≡ qs ++ ys → (ps ≡ qs) × (xs ≡ ys)
apart [] [] xs ys h e = (refl, e)
apart [] (q ∷ qs) xs ys h e = absurd (omega (arith, h))
apart (p ∷ ps) [] xs ys h e = absurd (omega (arith, h))
apart (p ∷ ps) (q ∷ qs) xs ys h e =
    let head : p ≡ q = cc e in
    let r = apart ps qs xs ys (omega (arith, h)) (cc e) in
    (ap₂ (λ (a : ℕ) (l : List ℕ). a ∷ l) head r.0, r.1)

-- the parts of a text of two halves
halves_parts : (text front back : List ℕ) (word : ℕ) → front ≡ take 16 text → back ≡ drop 16 text → length text ≡ 33 → (h : AreHalves text word)
    → (front ≡ h.high) × (back ≡ codes "_" ++ h.low)
halves_parts text front back word is_front is_back full h =
    let whole : front ++ back ≡ h.high ++ (codes "_" ++ h.low) =
    ap₂ (λ (a b : List ℕ). a ++ b) is_front is_back ∙ take-append-drop 16 text ∙ h.text_is ∙ append_assoc h.high (codes "_") h.low in
    let sized : length front ≡ length h.high = omega (arith, ap length is_front, length-take 16 text, full, h.joined.0) in
    apart front h.high back (codes "_" ++ h.low) sized whole

pub halves_apart : (text front back low : List ℕ) (r : Option ℕ) → front ≡ take 16 text → back ≡ drop 16 text → length text ≡ 33 → back ≡ codes "_" ++ low
    → IfNone r ((word : ℕ) → ¬ JoinsHalves front low word) → IfNone r ((word : ℕ) → ¬ AreHalves text word)
halves_apart text front back low (Some x) is_front is_back full found none = tt
halves_apart text front back low None is_front is_back full found none = λ word h.
    let parts = halves_parts text front back word is_front is_back full h in
    let both : codes "_" ++ h.low ≡ codes "_" ++ low = sym parts.1 ∙ found in
    let same : h.low ≡ low = cc both in
    none word (subst (λ (l : List ℕ). JoinsHalves l low word) (sym parts.0) (subst (λ (l : List ℕ). JoinsHalves h.high l word) same h.joined))

pub halves_joined : (text front back low : List ℕ) (r : Option ℕ) → front ≡ take 16 text → back ≡ drop 16 text → back ≡ codes "_" ++ low
    → IfSome r (λ word. JoinsHalves front low word) → IfSome r (λ word. AreHalves text word)
halves_joined text front back low None is_front is_back found joined = tt
halves_joined text front back low (Some word) is_front is_back found joined = record {
  high = front;
  low = low;
  text_is = sym (take-append-drop 16 text) ∙ ap₂ (λ (a b : List ℕ). a ++ b) (sym is_front) (sym is_back ∙ found) ∙ sym (append_assoc front (codes "_") low);
  joined = joined;
}

pub no_joint : (text front back : List ℕ) → front ≡ take 16 text → back ≡ drop 16 text → length text ≡ 33 → ((rest : List ℕ) → back ≢ codes "_" ++ rest)
    → (word : ℕ) → ¬ AreHalves text word
no_joint text front back is_front is_back full none word h = none h.low (halves_parts text front back word is_front is_back full h).1

-- ---- what is pushed

pub pushes_line : (state : Before) (run out one two three : List ℕ) (word : ℕ) → one ≡ out ++ run → two ≡ one ++ 32 ∷ [] → AppendsRow Text word two three
    → RunIs state run word → PushesRun state run out three
pushes_line state run out one two three word first second third is = record {
  added = codes " " ++ third.row;
  marks = inl (word, is, record { line = third.row; is_line = third.is_row; added_is = refl });
  written =
      third.written ∙ ap (λ (l : List ℕ). l ++ third.row) (second ∙ ap (λ (l : List ℕ). l ++ 32 ∷ []) first)
      ∙ append_assoc (out ++ run) (codes " ") third.row;
}

pub pushes_none : (state : Before) (run out one : List ℕ) → one ≡ out ++ run → ((word : ℕ) → ¬ RunIs state run word) → PushesRun state run out one
pushes_none state run out one first none = record { added = []; marks = inr (none, refl); written = first ∙ sym (append-nil (out ++ run)) }

-- ---- the reply to a run

record LastParts (entry run : List ℕ) (byte : ℕ) : Type 0 where
  run_is : take (length entry - 1) entry ≡ run
  byte_is : get_or entry (length entry - 1) 0 ≡ byte

last_parts : (entry run : List ℕ) (byte : ℕ) → entry ≡ run ++ byte ∷ [] → LastParts entry run byte
last_parts entry run byte is =
    let count : length entry - 1 ≡ length run = omega (arith, ap length is, length-append run (byte ∷ [])) in
    record {
      run_is = ap₂ (λ (n : ℕ) (l : List ℕ). take n l) count is ∙ take_at run (byte ∷ []) (length run) refl;
      byte_is = ap₂ (λ (n : ℕ) (l : List ℕ). get_or l n 0) count is ∙ get_or_at run byte [] 0 (length run) refl;
    }

run_byte : (text : List ℕ) (k : ℕ) → IsRun text → k < length text → is_word_byte (get_or text k 0) ≡ true
run_byte [] k r h = absurd (omega (arith, h))
run_byte (x ∷ text) zero r h = r.0
run_byte (x ∷ text) (suc k) r h = run_byte text k r.1 (omega (arith, h))

pub answers_whole : (old : Annotator) (entry out two : List ℕ) → 1 ≤ length entry → length entry ≤ 64 → is_word_byte (get_or entry (length entry - 1) 0) ≡ true
    → two ≡ out ++ entry → AnswersInto AnswersRun old entry out two false (record { before = Inside })
answers_whole old entry out two some few word pushed = record {
  text = entry;
  out_is = pushed;
  answered = record {
    short = λ r b is short not_word.
        let parts = last_parts entry r b is in
        absurd (true≢false (sym word ∙ ap is_word_byte parts.byte_is ∙ not_word));
    long = λ full run_all. (refl, refl);
    is_correct = refl;
    fits = omega (arith, few);
  };
}

pub answers_run : (old : Annotator) (entry out one two : List ℕ) (byte : ℕ) (next : Before) → 1 ≤ length entry → byte ≡ get_or entry (length entry - 1) 0
    → is_word_byte byte ≡ false → PushesRun old.before (take (length entry - 1) entry) out one → two ≡ one ++ byte ∷ [] → length one ≤ length out + 599
    → Follows old.before (take (length entry - 1) entry) byte next → AnswersInto AnswersRun old entry out two false (record { before = next })
answers_run old entry out one two byte next some byte_is not_word pushes second fits follows =
    let run : List ℕ = take (length entry - 1) entry in
    let added : List ℕ = pushes.added in
    let out_is : two ≡ out ++ ((run ++ added) ++ byte ∷ []) =
    second ∙ ap (λ (l : List ℕ). l ++ byte ∷ []) (pushes.written ∙ append_assoc out run added) ∙ append_assoc out (run ++ added) (byte ∷ []) in
    record {
      text = (run ++ added) ++ byte ∷ [];
      out_is = out_is;
      answered = record {
        short = λ r b is short word.
            let parts = last_parts entry r b is in
            let last : byte ≡ b = byte_is ∙ parts.byte_is in (
              added,
              subst (λ (l : List ℕ). Marks old.before l added) parts.run_is pushes.marks,
              ap₂ (λ (l : List ℕ) (c : ℕ). (l ++ added) ++ c ∷ []) parts.run_is last,
              subst (λ (c : ℕ). Follows old.before r c next) last (subst (λ (l : List ℕ). Follows old.before l byte next) parts.run_is follows),
            );
        long = λ full run_all.
            let word : is_word_byte byte ≡ true = ap is_word_byte byte_is ∙ run_byte entry (length entry - 1) run_all (omega (arith, some)) in
            absurd (true≢false (sym word ∙ not_word));
        is_correct = refl;
        fits = omega (arith, ap length second, ap length out_is, length-append one (byte ∷ []), length-append out ((run ++ added) ++ byte ∷ []), fits);
      };
    }
