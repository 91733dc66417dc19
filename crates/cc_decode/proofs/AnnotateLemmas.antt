-- The words of a text, found run by run.
use Rattle.std.proofs.Common.{
  ◌≡◌,
  ℕ,
  ◌≤◌,
  List,
  [],
  ◌∷◌,
  ◌++◌,
  length,
  take,
  drop,
  refl,
  sym,
  ◌∙◌,
  ap,
  ap₂,
  subst,
  arith,
  append-nil,
  append_assoc,
  length-append,
  length-take,
  true,
  false,
  true≢false,
  inl,
  inr,
}
use Rattle.std.specs.Prelude.{◌⊎◌, ◌↔◌}
use Rattle.std.proofs.lemmas.List.{take-append-drop}
use Rattle.std.specs.Str.Parse.{digits_value}
use Rattle.cc_word.specs.WordText.{IsWordText}
use Rattle.cc_decode.specs.Annotate.{is_word_byte, IsRun, OpensAfter, ClosesBefore, IsPrefix, IsJoint, IsTextOf, EndsWord, IsAdded, Annotates}
use Rattle.cc_decode.specs.Annotator.{IsAlone, IsHalf, JoinsHalves, RunIs, RunHalves, EndsHalf, Knows, Marks, Follows}
use Rattle.cc_decode.specs.declared.annotator.Before.{Before}
use Rattle.cc_decode.specs.declared.annotator.Before.TheVariants.{Outside, Half, Inside}
use Rattle.cc_decode.proofs.RunLemmas.{run_append, run_left, run_right, hex_run}

-- ---- the last run of a text

-- a word character is not one that is not one
clash : (c : ℕ) → is_word_byte c ≡ true → is_word_byte c ≡ false → ⊥
clash c is is_not = true≢false (sym is ∙ is_not)

last_run : (xs ys : List ℕ) (c d : ℕ) (u v : List ℕ) → is_word_byte c ≡ false → is_word_byte d ≡ false → IsRun u → IsRun v
    → xs ++ c ∷ u ≡ ys ++ d ∷ v → (xs ≡ ys) × (c ≡ d) × (u ≡ v)
last_run [] [] c d u v nc nd ru rv e = (refl, cc e, cc e)
last_run [] (y ∷ ys) c d u v nc nd ru rv e =
    let tail : u ≡ ys ++ d ∷ v = cc e in
    absurd (clash d (run_right ys (d ∷ v) (subst IsRun tail ru)).0 nd)
last_run (x ∷ xs) [] c d u v nc nd ru rv e =
    let tail : v ≡ xs ++ c ∷ u = cc e in
    absurd (clash c (run_right xs (c ∷ u) (subst IsRun tail rv)).0 nc)
last_run (x ∷ xs) (y ∷ ys) c d u v nc nd ru rv e =
    let head : x ≡ y = cc e in
    let r = last_run xs ys c d u v nc nd ru rv (cc e) in
    (ap₂ (λ (a : ℕ) (l : List ℕ). a ∷ l) head r.0, r.1, r.2)

-- a run at the end is no longer than what follows a byte that is not a word character
short_run : (xs ys : List ℕ) (c : ℕ) (text v : List ℕ) → is_word_byte c ≡ false → IsRun v → xs ++ c ∷ text ≡ ys ++ v → length v ≤ length text
short_run [] [] c text v nc rv e = absurd (clash c (subst IsRun (sym e) rv).0 nc)
short_run [] (y ∷ ys) c text v nc rv e =
    let tail : text ≡ ys ++ v = cc e in
    omega (arith, ap length tail, length-append ys v)
short_run (x ∷ xs) [] c text v nc rv e = absurd (clash c (run_right (x ∷ xs) (c ∷ text) (subst IsRun (sym e) rv)).0 nc)
short_run (x ∷ xs) (y ∷ ys) c text v nc rv e = short_run xs ys c text v nc rv (cc e)

-- a run after a byte that is not a word character is the run that begins a word there
same_run : (before : List ℕ) (d : ℕ) (u first text : List ℕ) → is_word_byte d ≡ false → IsRun u → IsRun text → OpensAfter first
    → before ++ d ∷ u ≡ first ++ text → u ≡ text
same_run before d u first text nd ru rt (inl none) e =
    let all : before ++ d ∷ u ≡ text = e ∙ ap (λ (l : List ℕ). l ++ text) none in
    absurd (clash d (run_right before (d ∷ u) (subst IsRun (sym all) rt)).0 nd)
same_run before d u first text nd ru rt (inr o) e =
    let all : before ++ d ∷ u ≡ o.0 ++ o.1 ∷ text = e ∙ ap (λ (l : List ℕ). l ++ text) o.2 ∙ append_assoc o.0 (o.1 ∷ []) text in
    (last_run before o.0 d o.1 u text nd o.3 ru rt all).2

-- ---- texts of words

prefix_run : (prefix : List ℕ) → IsPrefix prefix → IsRun prefix
prefix_run prefix (inl e) = subst IsRun (sym e) tt
prefix_run prefix (inr e) = subst IsRun (sym e) (refl, (refl, tt))

prefix_short : (prefix : List ℕ) → IsPrefix prefix → length prefix ≤ 2
prefix_short prefix (inl e) = omega (arith, ap length e)
prefix_short prefix (inr e) = omega (arith, ap length e)

joint_short : (joint : List ℕ) → IsJoint joint → length joint ≤ 1
joint_short joint (inl e) = omega (arith, ap length e)
joint_short joint (inr (inl e)) = omega (arith, ap length e)
joint_short joint (inr (inr e)) = omega (arith, ap length e)

-- a text of a word that has a colon
pub record HasColon (text : List ℕ) (word : ℕ) : Type 0 where
  pub prefix : List ℕ
  pub high : List ℕ
  pub low : List ℕ
  pub text_is : text ≡ (prefix ++ high) ++ 58 ∷ low
  pub is_prefix : IsPrefix prefix
  pub joined : JoinsHalves high low word

module _ (text : List ℕ) (word : ℕ) (s : IsTextOf text word) where
  high_run : IsRun s.high
  high_run = run_left s.high s.low (hex_run (s.high ++ s.low) s.digits.1)

  low_run : IsRun s.low
  low_run = run_right s.high s.low (hex_run (s.high ++ s.low) s.digits.1)

  pub texted_short : length text ≤ 35
  texted_short =
      omega (
        arith,
        ap length s.text_is,
        length-append (s.prefix ++ s.high ++ s.joint) s.low,
        length-append (s.prefix ++ s.high) s.joint,
        length-append s.prefix s.high,
        prefix_short s.prefix s.is_prefix,
        joint_short s.joint s.is_joint,
        s.digits.0,
        length-append s.high s.low,
      )

  pub texted_long : 32 ≤ length text
  texted_long =
      omega (
        arith,
        ap length s.text_is,
        length-append (s.prefix ++ s.high ++ s.joint) s.low,
        length-append (s.prefix ++ s.high) s.joint,
        length-append s.prefix s.high,
        s.digits.0,
        length-append s.high s.low,
      )

  pub texted_run : (IsRun text × IsAlone text word) ⊎ HasColon text word
  texted_run = by s.is_joint where
    whole : IsRun s.joint → IsRun text
    whole joint =
        subst IsRun (sym s.text_is)
        (run_append (s.prefix ++ s.high ++ s.joint) s.low
        (run_append (s.prefix ++ s.high) s.joint (run_append s.prefix s.high (prefix_run s.prefix s.is_prefix) high_run) joint) low_run)

    by : IsJoint s.joint → (IsRun text × IsAlone text word) ⊎ HasColon text word
    by (inl none) = inl (
      whole (subst IsRun (sym none) tt),
      record {
        prefix = s.prefix;
        digits = s.high ++ s.low;
        run_is =
            s.text_is ∙ ap (λ (l : List ℕ). ((s.prefix ++ s.high) ++ l) ++ s.low) none
            ∙ ap (λ (l : List ℕ). l ++ s.low) (append-nil (s.prefix ++ s.high))
            ∙ append_assoc s.prefix s.high s.low;
        is_prefix = s.is_prefix;
        is_word = inl (s.digits, s.word_is);
      },
    )
    by (inr (inl underscore)) = inl (
      whole (subst IsRun (sym underscore) (refl, tt)),
      record {
        prefix = s.prefix;
        digits = (s.high ++ 95 ∷ []) ++ s.low;
        run_is =
            s.text_is ∙ ap (λ (l : List ℕ). ((s.prefix ++ s.high) ++ l) ++ s.low) underscore
            ∙ ap (λ (l : List ℕ). l ++ s.low) (append_assoc s.prefix s.high (95 ∷ []))
            ∙ append_assoc s.prefix (s.high ++ 95 ∷ []) s.low;
        is_prefix = s.is_prefix;
        is_word = inr (record { high = s.high; low = s.low; text_is = refl; joined = (s.half, s.digits, s.word_is) });
      },
    )
    by (inr (inr colon)) = inr (record {
      prefix = s.prefix;
      high = s.high;
      low = s.low;
      text_is =
          s.text_is ∙ ap (λ (l : List ℕ). ((s.prefix ++ s.high) ++ l) ++ s.low) colon
          ∙ append_assoc (s.prefix ++ s.high) (58 ∷ []) s.low;
      is_prefix = s.is_prefix;
      joined = (s.half, s.digits, s.word_is);
    })

alone_text : (text : List ℕ) (word : ℕ) → IsAlone text word → IsTextOf text word
alone_text text word a = elim a.is_word [
  | inl w ↦
      let parts : take 16 a.digits ++ drop 16 a.digits ≡ a.digits = take-append-drop 16 a.digits in
      record {
        prefix = a.prefix;
        high = take 16 a.digits;
        joint = [];
        low = drop 16 a.digits;
        text_is =
            a.run_is ∙ ap (λ (l : List ℕ). a.prefix ++ l) (sym parts) ∙ sym (append_assoc a.prefix (take 16 a.digits) (drop 16 a.digits))
            ∙ ap (λ (l : List ℕ). l ++ drop 16 a.digits) (sym (append-nil (a.prefix ++ take 16 a.digits)));
        is_prefix = a.is_prefix;
        is_joint = inl refl;
        half = omega (arith, length-take 16 a.digits, w.0.0);
        digits = subst IsWordText (sym parts) w.0;
        word_is = w.1 ∙ ap (digits_value 16) (sym parts);
      }
  | inr h ↦ record {
    prefix = a.prefix;
    high = h.high;
    joint = 95 ∷ [];
    low = h.low;
    text_is =
        a.run_is ∙ ap (λ (l : List ℕ). a.prefix ++ l) h.text_is ∙ sym (append_assoc a.prefix (h.high ++ 95 ∷ []) h.low)
        ∙ ap (λ (l : List ℕ). l ++ h.low) (sym (append_assoc a.prefix h.high (95 ∷ [])));
    is_prefix = a.is_prefix;
    is_joint = inr (inl refl);
    half = h.joined.0;
    digits = h.joined.1;
    word_is = h.joined.2;
  }
]

-- a run that is a word is one without a colon
run_alone : (run : List ℕ) (word : ℕ) → IsRun run → IsTextOf run word → IsAlone run word
run_alone run word r s = elim (texted_run run word s) [
  | inl alone ↦ alone.1
  | inr colon ↦ absurd (clash 58 (run_right (colon.prefix ++ colon.high) (58 ∷ colon.low) (subst IsRun colon.text_is r)).0 refl)
]

-- ---- after a byte that is not a word character

module _ (before : List ℕ) (d : ℕ) (u : List ℕ) (nd : is_word_byte d ≡ false) (ru : IsRun u) where
  pub word_after : (word : ℕ) → EndsWord (before ++ d ∷ u) word
      → IsAlone u word ⊎ ((d ≡ 58) × (high : List ℕ) × EndsHalf before high × JoinsHalves high u word)
  word_after word e = elim (texted_run e.text word e.is_text) [
    | inl run ↦ inl (subst (λ (l : List ℕ). IsAlone l word) (sym (same_run before d u e.first e.text nd ru run.0 e.opens e.before_is)) run.1)
    | inr colon ↦
        let digits = hex_run (colon.high ++ colon.low) colon.joined.1.1 in
        let all : before ++ d ∷ u ≡ (e.first ++ (colon.prefix ++ colon.high)) ++ 58 ∷ colon.low =
        e.before_is ∙ ap (λ (l : List ℕ). e.first ++ l) colon.text_is ∙ sym (append_assoc e.first (colon.prefix ++ colon.high) (58 ∷ colon.low)) in
        let r = last_run before (e.first ++ (colon.prefix ++ colon.high)) d 58 u colon.low nd refl ru (run_right colon.high colon.low digits) all in
        inr (
          r.1,
          colon.high,
          record {
            first = e.first;
            run = colon.prefix ++ colon.high;
            before_is = r.0;
            is_half = record { prefix = colon.prefix; run_is = refl; is_prefix = colon.is_prefix; half = colon.joined.0 };
            is_run = run_append colon.prefix colon.high (prefix_run colon.prefix colon.is_prefix) (run_left colon.high colon.low digits);
            opens = e.opens;
          },
          subst (λ (l : List ℕ). JoinsHalves colon.high l word) (sym r.2) colon.joined,
        )
  ]

  pub half_after : (high : List ℕ) → EndsHalf (before ++ d ∷ u) high → IsHalf u high
  half_after high e = subst (λ (l : List ℕ). IsHalf l high) (sym (same_run before d u e.first e.run nd ru e.is_run e.opens e.before_is)) e.is_half

  opened : OpensAfter (before ++ d ∷ [])
  opened = inr (before, d, refl, nd)

  pub word_of_run : (word : ℕ) → IsAlone u word → EndsWord (before ++ d ∷ u) word
  word_of_run word s = record { first = before ++ d ∷ []; text = u; before_is = sym (append_assoc before (d ∷ []) u); is_text = alone_text u word s; opens = opened }

  pub half_of_run : (high : List ℕ) → IsHalf u high → EndsHalf (before ++ d ∷ u) high
  half_of_run high h = record { first = before ++ d ∷ []; run = u; before_is = sym (append_assoc before (d ∷ []) u); is_half = h; is_run = ru; opens = opened }

-- a half before a colon and the other half after it are a word
word_of_halves : (before high u : List ℕ) (word : ℕ) → EndsHalf before high → JoinsHalves high u word → EndsWord (before ++ 58 ∷ u) word
word_of_halves before high u word h j = record {
  first = h.first;
  text = (h.is_half.prefix ++ high ++ 58 ∷ []) ++ u;
  before_is =
      ap (λ (l : List ℕ). l ++ 58 ∷ u) (h.before_is ∙ ap (λ (l : List ℕ). h.first ++ l) h.is_half.run_is)
      ∙ append_assoc h.first (h.is_half.prefix ++ high) (58 ∷ u)
      ∙ ap (λ (l : List ℕ). h.first ++ l) (sym (append_assoc (h.is_half.prefix ++ high) (58 ∷ []) u));
  is_text = record {
    prefix = h.is_half.prefix;
    high = high;
    joint = 58 ∷ [];
    low = u;
    text_is = refl;
    is_prefix = h.is_half.is_prefix;
    is_joint = inr (inr refl);
    half = j.0;
    digits = j.1;
    word_is = j.2;
  };
  opens = h.opens;
}

-- ---- what a state knows

tails : (ps qs xs ys : List ℕ) → length ps ≡ length qs → ps ++ xs ≡ qs ++ ys → xs ≡ ys
tails [] [] xs ys h e = e
tails [] (q ∷ qs) xs ys h e = absurd (omega (arith, h))
tails (p ∷ ps) [] xs ys h e = absurd (omega (arith, h))
tails (p ∷ ps) (q ∷ qs) xs ys h e = tails ps qs xs ys (omega (arith, h)) (cc e)

same_half : (run high other : List ℕ) → IsHalf run high → IsHalf run other → high ≡ other
same_half run high other p q =
    tails p.prefix q.prefix high other
    (omega (arith, ap length p.run_is, ap length q.run_is, length-append p.prefix high, length-append q.prefix other, p.half, q.half))
    (sym p.run_is ∙ q.run_is)

halves_half : (state : Before) (run high : List ℕ) → RunHalves state run high → IsHalf run high
halves_half Outside run high h = h
halves_half (Half other) run high h = h
halves_half Inside run high h = absurd h

pub first_knows : Knows Outside []
first_knows = record {
  words = λ run word r. (
    λ e. elim e.opens [
      | inl none ↦ run_alone run word r (subst (λ (l : List ℕ). IsTextOf l word) (sym (e.before_is ∙ ap (λ (l : List ℕ). l ++ e.text) none)) e.is_text)
      | inr o ↦
          let all : run ≡ o.0 ++ o.1 ∷ e.text = e.before_is ∙ ap (λ (l : List ℕ). l ++ e.text) o.2 ∙ append_assoc o.0 (o.1 ∷ []) e.text in
          absurd (clash o.1 (run_right o.0 (o.1 ∷ e.text) (subst IsRun all r)).0 o.3)
    ],
    λ s. record { first = []; text = run; before_is = refl; is_text = alone_text run word s; opens = inl refl },
  );
  halves = λ run high r. (
    λ e. elim e.opens [
      | inl none ↦ subst (λ (l : List ℕ). IsHalf l high) (sym (e.before_is ∙ ap (λ (l : List ℕ). l ++ e.run) none)) e.is_half
      | inr o ↦
          let all : run ≡ o.0 ++ o.1 ∷ e.run = e.before_is ∙ ap (λ (l : List ℕ). l ++ e.run) o.2 ∙ append_assoc o.0 (o.1 ∷ []) e.run in
          absurd (clash o.1 (run_right o.0 (o.1 ∷ e.run) (subst IsRun all r)).0 o.3)
    ],
    λ h. record { first = []; run = run; before_is = refl; is_half = h; is_run = r; opens = inl refl },
  );
}

-- no word begins within so long a run
no_long : (before v first text : List ℕ) → IsRun v → 64 ≤ length v → length text ≤ 35 → OpensAfter first → before ++ v ≡ first ++ text → ⊥
no_long before v first text rv long short (inl none) e =
    omega (arith, ap length e, ap length none, length-append before v, length-append first text, long, short)
no_long before v first text rv long short (inr o) e =
    let all : o.0 ++ o.1 ∷ text ≡ before ++ v = sym (e ∙ ap (λ (l : List ℕ). l ++ text) o.2 ∙ append_assoc o.0 (o.1 ∷ []) text) in
    omega (arith, short_run o.0 before o.1 text v o.3 rv all, long, short)

half_short : (run high : List ℕ) → IsHalf run high → length run ≤ 35
half_short run high h = omega (arith, ap length h.run_is, length-append h.prefix high, prefix_short h.prefix h.is_prefix, h.half)

pub inside_knows : (before entry : List ℕ) → IsRun entry → length entry ≡ 64 → Knows Inside (before ++ entry)
inside_knows before entry re full = record {
  words = λ run word r. (
    λ e. no_long before (entry ++ run) e.first e.text (run_append entry run re r) (omega (arith, length-append entry run, full))
        (texted_short e.text word e.is_text) e.opens (sym (append_assoc before entry run) ∙ e.before_is),
    λ none. absurd none,
  );
  halves = λ run high r. (
    λ e. no_long before (entry ++ run) e.first e.run (run_append entry run re r) (omega (arith, length-append entry run, full))
        (half_short e.run high e.is_half) e.opens (sym (append_assoc before entry run) ∙ e.before_is),
    λ none. absurd none,
  );
}

module _ (old : Before) (before run : List ℕ) (d : ℕ) (knows : Knows old before) (rr : IsRun run) (nd : is_word_byte d ≡ false) where
  abbrev start : List ℕ
  start = before ++ run

  moved : (u : List ℕ) → (before ++ (run ++ d ∷ [])) ++ u ≡ start ++ d ∷ u
  moved u = ap (λ (l : List ℕ). l ++ u) (sym (append_assoc before run (d ∷ []))) ∙ append_assoc start (d ∷ []) u

  -- after a byte that is not a word character, the run alone has the halves
  halves_now : (u high : List ℕ) → IsRun u → EndsHalf ((before ++ (run ++ d ∷ [])) ++ u) high ↔ IsHalf u high
  halves_now u high ru = (
    λ e. half_after start d u nd ru high (subst (λ (l : List ℕ). EndsHalf l high) (moved u) e),
    λ h. subst (λ (l : List ℕ). EndsHalf l high) (sym (moved u)) (half_of_run start d u nd ru high h),
  )

  outside_knows : ((high : List ℕ) → d ≡ 58 → ¬ RunHalves old run high) → Knows Outside (before ++ (run ++ d ∷ []))
  outside_knows none = record {
    words = λ u word ru. (
      λ e. elim (word_after start d u nd ru word (subst (λ (l : List ℕ). EndsWord l word) (moved u) e)) [
        | inl s ↦ s
        | inr j ↦ absurd (none j.1 j.0 ((knows.halves run j.1 rr).0 j.2))
      ],
      λ s. subst (λ (l : List ℕ). EndsWord l word) (sym (moved u)) (word_of_run start d u nd ru word s),
    );
    halves = λ u high ru. halves_now u high ru;
  }

  half_knows : (high : List ℕ) → d ≡ 58 → RunHalves old run high → Knows (Half high) (before ++ (run ++ d ∷ []))
  half_knows high colon is = record {
    words = λ u word ru. (
      λ e. elim (word_after start d u nd ru word (subst (λ (l : List ℕ). EndsWord l word) (moved u) e)) [
        | inl s ↦ inl s
        | inr j ↦
            let other = halves_half old run j.1 ((knows.halves run j.1 rr).0 j.2) in
            inr (subst (λ (l : List ℕ). JoinsHalves l u word) (same_half run j.1 high other (halves_half old run high is)) j.3)
      ],
      λ w. subst (λ (l : List ℕ). EndsWord l word) (sym (moved u)) (elim w [
        | inl s ↦ word_of_run start d u nd ru word s
        | inr j ↦ subst (λ (c : ℕ). EndsWord (start ++ c ∷ u) word) (sym colon) (word_of_halves start high u word ((knows.halves run high rr).1 is) j)
      ]),
    );
    halves = λ u other ru. halves_now u other ru;
  }

  pub next_knows : (new : Before) → Follows old run d new → Knows new (before ++ (run ++ d ∷ []))
  next_knows Outside f = outside_knows f
  next_knows (Half high) f = half_knows high f.0 f.1
  next_knows Inside f = absurd f

-- ---- what is added

-- within a run nothing is
none_inside : (before : List ℕ) (byte : ℕ) (after : List ℕ) → is_word_byte byte ≡ true → IsAdded before (byte ∷ after) []
none_inside before byte after word = inr ((λ w e. clash byte word e.1), refl)

-- after a run it is the line of its word
pub marked : (state : Before) (before run added after : List ℕ) → Knows state before → IsRun run → Marks state run added → ClosesBefore after
    → IsAdded (before ++ run) after added
marked state before run added after knows rr (inl m) closes = inl (m.0, ((knows.words run m.0 rr).1 m.1, closes), m.2)
marked state before run added after knows rr (inr m) closes = inr ((λ w e. m.0 w ((knows.words run w rr).0 e.0)), m.1)

joined_long : (high low : List ℕ) (word : ℕ) → JoinsHalves high low word → length low ≡ 16
joined_long high low word j = omega (arith, j.0, j.1.0, length-append high low)

-- without a run there is none
empty_none : (state : Before) (word : ℕ) → RunIs state [] word → ⊥
empty_none Outside word s = omega (arith, texted_long [] word (alone_text [] word s))
empty_none (Half high) word (inl s) = omega (arith, texted_long [] word (alone_text [] word s))
empty_none (Half high) word (inr j) = omega (arith, joined_long high [] word j)
empty_none Inside word none = none

pub nothing_marked : (state : Before) (before : List ℕ) → Knows state before → IsAdded before [] []
nothing_marked state before knows =
    subst (λ (l : List ℕ). IsAdded l [] []) (append-nil before)
    (marked state before [] [] [] knows tt (inr ((λ w r. empty_none state w r), refl)) tt)

-- ---- texts with what is added

-- the bytes of a text with what belongs before each of them
abbrev pub Open : (before text output : List ℕ) → Type 0
Open before [] output = output ≡ []
Open before (byte ∷ text) output =
    (added : List ℕ) × (rest : List ℕ) × (output ≡ added ++ byte ∷ rest) × ((after : List ℕ) → IsAdded before (byte ∷ after) added)
    × Open (before ++ byte ∷ []) text rest

pub open_run : (before run : List ℕ) → IsRun run → Open before run run
open_run before [] r = refl
open_run before (x ∷ run) r = ([], run, refl, (λ after. none_inside before x after r.0), open_run (before ++ x ∷ []) run r.1)

pub open_join : (before xs ys o p : List ℕ) → Open before xs o → Open (before ++ xs) ys p → Open before (xs ++ ys) (o ++ p)
open_join before [] ys o p a b =
    subst (λ (l : List ℕ). Open before ys (l ++ p)) (sym a) (subst (λ (l : List ℕ). Open l ys p) (append-nil before) b)
open_join before (x ∷ xs) ys o p a b = (
  a.0,
  a.1 ++ p,
  ap (λ (l : List ℕ). l ++ p) a.2 ∙ append_assoc a.0 (x ∷ a.1) p,
  a.3,
  open_join (before ++ x ∷ []) xs ys a.1 p a.4 (subst (λ (l : List ℕ). Open l ys p) (sym (append_assoc before (x ∷ []) xs)) b),
)

pub open_end : (before xs o p : List ℕ) → Open before xs o → IsAdded (before ++ xs) [] p → Annotates before xs (o ++ p)
open_end before [] o p a b =
    subst (λ (l : List ℕ). IsAdded before [] (l ++ p)) (sym a) (subst (λ (l : List ℕ). IsAdded l [] p) (append-nil before) b)
open_end before (x ∷ xs) o p a b = (
  a.0,
  a.1 ++ p,
  ap (λ (l : List ℕ). l ++ p) a.2 ∙ append_assoc a.0 (x ∷ a.1) p,
  a.3 xs,
  open_end (before ++ x ∷ []) xs a.1 p a.4 (subst (λ (l : List ℕ). IsAdded l [] p) (sym (append_assoc before (x ∷ []) xs)) b),
)
