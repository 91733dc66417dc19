-- The line of an event has this event.
use Rattle.std.proofs.Common.{◌≡◌, ◌≢◌, ℕ, suc, ◌+◌, ◌-◌, ◌^◌, ◌<◌, ◌≤◌, ◌==◌, false, List, [], ◌∷◌, ◌++◌, length, Some, Ok, refl, sym, ◌∙◌, ap, subst, arith}
use Rattle.std.specs.Prelude.{codes, decimal}
use Rattle.std.specs.Char.{digit_value}
use Rattle.std.specs.List.{AllByRecursion, join_with_byte}
use Rattle.std.specs.Str.Parse.{AllDigits}
use Rattle.std.proofs.lemmas.Bool.{eqb-false, le-leb, le-ltb}
use Rattle.std.proofs.lemmas.Fmt.{decimal_is_IsNumeral, length-decimal-le}
use Rattle.std.proofs.lemmas.List.{append_assoc, length-append}
use Rattle.cc_values.specs.Values.{IsWord, address_in, words_of}
use Rattle.cc_values.specs.Numbers.{within_limit}
use Rattle.cc_values.proofs.PieceLemmas.{one_join}
use Rattle.cc_values.proofs.ReadBackLemmas.{decimal-read}
use Rattle.cc_heap.specs.declared.event.Event.{Event}
use Rattle.cc_heap.specs.declared.event.Event.TheVariants as event
use Rattle.cc_heap.specs.Alignment.{HasAlignment}
use Rattle.cc_replay.specs.Trace.{HasNumbersInRange, entry_of, event_in, event_text}
use Rattle.cc_replay.proofs.PowerLemmas.{power_is_one}

-- digits are a word
digits_are_word : (ds : List ℕ) → AllDigits 10 ds → IsWord ds
digits_are_word [] are = tt
digits_are_word (d ∷ ds) are = (other, digits_are_word ds are.1) where
  other : d ≢ 32
  other is =
      let digit : digit_value 32 < 10 = subst (λ (c : ℕ). digit_value c < 10) is are.0 in
      absurd (omega (arith, digit))

decimal_word : (n : ℕ) → n < 2 ^ 64 → IsWord (decimal n)
decimal_word n fits = digits_are_word (decimal n) (decimal_is_IsNumeral n fits).0.1

decimal_short : (n : ℕ) → n < 2 ^ 64 → length (decimal n) ≤ 20
decimal_short n fits = length-decimal-le 20 n (omega arith) (omega (arith, fits)) fits

decimal_address : (n : ℕ) → n < 2 ^ 64 → address_in (decimal n) ≡ Ok n
decimal_address n fits =
    let less : n ≤ 2 ^ 64 - 1 = omega (arith, fits) in
    ap (within_limit (2 ^ 64 - 1)) (decimal-read n (omega (arith, fits))) ∙ rw (le-leb n (2 ^ 64 - 1) less) refl

words_are : (line : List ℕ) (words : List (List ℕ)) → line ≡ join_with_byte 32 words → 0 < length words
    → AllByRecursion IsWord words → words_of line ≡ words
words_are line words whole some each = sym ((one_join line).only words (record { whole = whole; some = some; each = each }))

-- a line that is not a comment has the event of its words
entry_is : (first : ℕ) (rest : List ℕ) (words : List (List ℕ)) (event : Event) → (first == 35) ≡ false → length rest ≤ 127
    → words_of (first ∷ rest) ≡ words → event_in words ≡ Ok event → entry_of (first ∷ rest) ≡ Ok (Some event)
unfolding entry_of
entry_is first rest words event other short are value =
    rw (other, le-ltb 128 (suc (length rest)) (omega (arith, short)), are, value) refl

-- words with a space between each two, from the left and from the right
two : (a b : List ℕ) → a ++ (32 ∷ []) ++ b ≡ a ++ (32 ∷ b)
two a b = append_assoc a (32 ∷ []) b

three : (a b c : List ℕ) → a ++ (32 ∷ []) ++ b ++ (32 ∷ []) ++ c ≡ a ++ (32 ∷ (b ++ (32 ∷ c)))
three a b c =
    two (a ++ (32 ∷ []) ++ b) c ∙ ap (λ (l : List ℕ). l ++ (32 ∷ c)) (two a b) ∙ append_assoc a (32 ∷ b) (32 ∷ c)

spaced_length : (a b : List ℕ) → length (a ++ (32 ∷ b)) ≡ length a + suc (length b)
spaced_length a b = length-append a (32 ∷ b)

pub event_read_back : (event : Event) → HasAlignment event → HasNumbersInRange event → entry_of (event_text event) ≡ Ok (Some event)
event_read_back (event.Allocate id size align) power fits =
    ap entry_of (three (codes "a " ++ decimal id) (decimal size) (decimal align))
    ∙ entry_is 97 (32 ∷ (decimal id ++ (32 ∷ (decimal size ++ (32 ∷ decimal align)))))
    (codes "a" ∷ decimal id ∷ decimal size ∷ decimal align ∷ []) (event.Allocate id size align) refl
    (omega (
      arith,
      spaced_length (decimal id) (decimal size ++ (32 ∷ decimal align)),
      spaced_length (decimal size) (decimal align),
      decimal_short id fits.0,
      decimal_short size fits.1,
      decimal_short align fits.2,
    ))
    (words_are (97 ∷ 32 ∷ (decimal id ++ (32 ∷ (decimal size ++ (32 ∷ decimal align))))) (codes "a" ∷ decimal id ∷ decimal size ∷ decimal align ∷ []) refl (omega arith)
    ((eqb-false 97 32 refl, tt), (decimal_word id fits.0, (decimal_word size fits.1, (decimal_word align fits.2, tt)))))
    (rw (decimal_address id fits.0, decimal_address size fits.1, decimal_address align fits.2, power_is_one align power) refl)
event_read_back (event.Clear id size) power fits =
    ap entry_of (two (codes "c " ++ decimal id) (decimal size))
    ∙ entry_is 99 (32 ∷ (decimal id ++ (32 ∷ decimal size))) (codes "c" ∷ decimal id ∷ decimal size ∷ []) (event.Clear id size) refl
    (omega (arith, spaced_length (decimal id) (decimal size), decimal_short id fits.0, decimal_short size fits.1))
    (words_are (99 ∷ 32 ∷ (decimal id ++ (32 ∷ decimal size))) (codes "c" ∷ decimal id ∷ decimal size ∷ []) refl (omega arith)
    ((eqb-false 99 32 refl, tt), (decimal_word id fits.0, (decimal_word size fits.1, tt))))
    (rw (decimal_address id fits.0, decimal_address size fits.1) refl)
event_read_back (event.Reallocate old new size) power fits =
    ap entry_of (three (codes "r " ++ decimal old) (decimal new) (decimal size))
    ∙ entry_is 114 (32 ∷ (decimal old ++ (32 ∷ (decimal new ++ (32 ∷ decimal size)))))
    (codes "r" ∷ decimal old ∷ decimal new ∷ decimal size ∷ []) (event.Reallocate old new size) refl
    (omega (
      arith,
      spaced_length (decimal old) (decimal new ++ (32 ∷ decimal size)),
      spaced_length (decimal new) (decimal size),
      decimal_short old fits.0,
      decimal_short new fits.1,
      decimal_short size fits.2,
    ))
    (words_are (114 ∷ 32 ∷ (decimal old ++ (32 ∷ (decimal new ++ (32 ∷ decimal size))))) (codes "r" ∷ decimal old ∷ decimal new ∷ decimal size ∷ []) refl (omega arith)
    ((eqb-false 114 32 refl, tt), (decimal_word old fits.0, (decimal_word new fits.1, (decimal_word size fits.2, tt)))))
    (rw (decimal_address old fits.0, decimal_address new fits.1, decimal_address size fits.2) refl)
event_read_back (event.Free id) power fits =
    entry_is 102 (32 ∷ decimal id) (codes "f" ∷ decimal id ∷ []) (event.Free id) refl (omega (arith, decimal_short id fits))
    (words_are (event_text (event.Free id)) (codes "f" ∷ decimal id ∷ []) refl (omega arith) ((eqb-false 102 32 refl, tt), (decimal_word id fits, tt)))
    (rw (decimal_address id fits) refl)
event_read_back event.Sweep power fits =
    entry_is 115 [] (codes "s" ∷ []) event.Sweep refl (omega arith) refl refl
event_read_back (event.Clock number) power fits =
    entry_is 116 (32 ∷ decimal number) (codes "t" ∷ decimal number ∷ []) (event.Clock number) refl (omega (arith, decimal_short number fits))
    (words_are (event_text (event.Clock number)) (codes "t" ∷ decimal number ∷ []) refl (omega arith) ((eqb-false 116 32 refl, tt), (decimal_word number fits, tt)))
    (rw (decimal_address number fits) refl)
