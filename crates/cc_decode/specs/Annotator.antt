-- The replies of an annotator. No public clause cites this file.
use Rattle.std.specs.Prelude.{◌≡◌, ◌≤◌, ◌<◌, ℕ, Bool, false, ◌⊎◌, ◌↔◌, List, [], ◌∷◌, ◌++◌, codes, length}
use Rattle.std.specs.Str.Parse.{digits_value}
use Rattle.cc_word.specs.WordText.{IsWordText}
use Rattle.cc_decode.specs.Annotate.{is_word_byte, IsRun, OpensAfter, IsPrefix, EndsWord, AddsLine}
use Rattle.cc_decode.specs.declared.annotator.Annotator.{Annotator}
use Rattle.cc_decode.specs.declared.annotator.Before.{Before}
use Rattle.cc_decode.specs.declared.annotator.Before.TheVariants.{Outside, Half, Inside}

-- IsHalf holds if `run` is `high`, of 16 bytes, after `0x` or nothing.
pub record IsHalf (run high : List ℕ) : Type 0 where
  pub prefix : List ℕ
  pub run_is : run ≡ prefix ++ high
  pub is_prefix : IsPrefix prefix
  pub half : length high ≡ 16

-- JoinsHalves holds if the digits of the run are the low half of the word, and `high` its high half.
abbrev pub JoinsHalves : (high run : List ℕ) (word : ℕ) → Type 0
JoinsHalves high run word = (length high ≡ 16) × IsWordText (high ++ run) × (word ≡ digits_value 16 (high ++ run))

-- AreHalves holds if `text` is the 16 digits of the word's high half, an underscore, and the 16
-- digits of its low half.
pub record AreHalves (text : List ℕ) (word : ℕ) : Type 0 where
  pub high : List ℕ
  pub low : List ℕ
  pub text_is : text ≡ high ++ codes "_" ++ low
  pub joined : JoinsHalves high low word

-- IsAlone holds if `run` is the word: `0x` or not, and then 32 digits, or two halves of 16 with an
-- underscore between.
pub record IsAlone (run : List ℕ) (word : ℕ) : Type 0 where
  pub prefix : List ℕ
  pub digits : List ℕ
  pub run_is : run ≡ prefix ++ digits
  pub is_prefix : IsPrefix prefix
  pub is_word : (IsWordText digits × (word ≡ digits_value 16 digits)) ⊎ AreHalves digits word

-- RunIs holds if a run of word characters ends a text of the word, by what is known of the bytes
-- before the run.
abbrev pub RunIs : Before → (run : List ℕ) (word : ℕ) → Type 0
RunIs Outside run word = IsAlone run word
RunIs (Half high) run word = IsAlone run word ⊎ JoinsHalves high run word
RunIs Inside run word = ⊥

-- RunHalves holds if the run may be the high half of a word.
abbrev pub RunHalves : Before → (run high : List ℕ) → Type 0
RunHalves Outside run high = IsHalf run high
RunHalves (Half other) run high = IsHalf run high
RunHalves Inside run high = ⊥

-- EndsHalf holds if `before` ends in what may be the high half of a word.
pub record EndsHalf (before high : List ℕ) : Type 0 where
  pub first : List ℕ
  pub run : List ℕ
  pub before_is : before ≡ first ++ run
  pub is_half : IsHalf run high
  pub is_run : IsRun run
  pub opens : OpensAfter first

-- Knows holds if the state says which words and halves end in a run after these bytes.
pub record Knows (state : Before) (before : List ℕ) : Type 0 where
  pub words : (run : List ℕ) (word : ℕ) → IsRun run → EndsWord (before ++ run) word ↔ RunIs state run word
  pub halves : (run high : List ℕ) → IsRun run → EndsHalf (before ++ run) high ↔ RunHalves state run high

-- Marks holds if `added` is what belongs after a run: the line of its word, or nothing if it has
-- none.
abbrev pub Marks : Before → (run added : List ℕ) → Type 0
Marks state run added = ((word : ℕ) × RunIs state run word × AddsLine word added) ⊎ (((word : ℕ) → ¬ RunIs state run word) × (added ≡ []))

-- PushesRun holds if the run and what belongs after it were appended.
pub record PushesRun (state : Before) (run old new : List ℕ) : Type 0 where
  pub added : List ℕ
  pub marks : Marks state run added
  pub written : new ≡ old ++ run ++ added

-- Follows holds if `new` is the state after a run and the byte after it, which is not a word
-- character.
abbrev pub Follows : Before → (run : List ℕ) (byte : ℕ) → (new : Before) → Type 0
Follows old run byte Outside = (high : List ℕ) → byte ≡ 58 → ¬ RunHalves old run high
Follows old run byte (Half high) = (byte ≡ 58) × RunHalves old run high
Follows old run byte Inside = ⊥

-- AnswersRun holds for the reply to a run and the byte after it, or to 64 word characters.
pub record AnswersRun (old : Annotator) (entry text : List ℕ) (is_error : Bool) (new : Annotator) : Type 0 where
  pub short : (run : List ℕ) (byte : ℕ) → entry ≡ run ++ byte ∷ [] → length entry ≤ 64 → is_word_byte byte ≡ false
      → (added : List ℕ) × Marks old.before run added × (text ≡ run ++ added ++ byte ∷ []) × Follows old.before run byte new.before
  pub long : length entry ≡ 64 → IsRun entry → (text ≡ entry) × (new.before ≡ Inside)
  pub is_correct : is_error ≡ false
  pub fits : length text ≤ 600

-- AnswersRest holds for the reply to the run at the end of the text.
pub record AnswersRest (old : Annotator) (rest text : List ℕ) (is_error : Bool) (new : Annotator) : Type 0 where
  pub run : length rest < 64 → (added : List ℕ) × Marks old.before rest added × (text ≡ rest ++ added)
  pub is_correct : is_error ≡ false
  pub fits : length text ≤ 600
