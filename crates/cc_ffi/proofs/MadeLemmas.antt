-- One more word with bounds, and its refusal.
use Rattle.std.proofs.Common.{ℕ, Bool, List, Result, ◌≡◌, ◌<◌, ◌≢◌, ◌+◌, arith, get_or, get_or-set_other, get_or-set_same, length, set, subst, sym}
use Rattle.cc_word.specs.declared.refusal.Refusal.{Refusal}
use Rattle.cc_cap.specs.Many.{AnswersEach}
use Rattle.cc_cap.proofs.ManyLemmas.{answers_more}
use Rattle.cc_ffi.specs.declared.structs.MadeWord.{MadeWord}
use Rattle.cc_ffi.specs.Memory.{GivesInMemory, word_of_bytes}
use Rattle.cc_ffi.specs.Numbers.{number_of_halves}
use Rattle.cc_ffi.specs.Rules.{GivesResult}

pub made_more : (rule : ℕ → Result ℕ Refusal → Type 0) (big_endian : Bool) (made : List (List ℕ)) (refusals : List ℕ) (i : ℕ)
    (bytes : List ℕ) (told : MadeWord) → i < length made → i < length refusals
    → AnswersEach (λ k bytes. GivesInMemory (rule k) big_endian bytes (get_or refusals k 0)) made i
    → GivesResult (rule i) told → word_of_bytes big_endian bytes ≡ number_of_halves told.high told.low
    → AnswersEach (λ k bytes. GivesInMemory (rule k) big_endian bytes (get_or (set refusals i told.refusal) k 0)) (set made i bytes) (i + 1)
made_more rule big_endian made refusals i bytes told fits also before gives is =
    answers_more (λ (k : ℕ) (bytes : List ℕ). GivesInMemory (rule k) big_endian bytes (get_or (set refusals i told.refusal) k 0)) made i bytes fits
    (λ k other below.
    let ne : k ≢ i = omega arith in
    subst (λ (n : ℕ). GivesInMemory (rule k) big_endian (get_or made k other) n)
    (sym (get_or-set_other refusals i k told.refusal 0 ne)) (before k other below))
    (record { told = told; gives = gives; is_word = is; is_refusal = get_or-set_same refusals i told.refusal 0 also })
