-- The values of a line, of which the last has no space.
use Rattle.std.proofs.Common.{suc, ◌≤◌, take, length-take, None, if◌then◌else◌, inl, inr, ◌≡◌, ℕ, ◌<◌, ◌==◌, List, [], ◌∷◌, length, Result, Ok, Err, refl, sym, ◌∙◌, ap, arith}
use Rattle.std.proofs.lemmas.Bool.{cases_lt, lt-ltb}
use Rattle.std.proofs.lemmas.List.{take_all}
use Rattle.std.proofs.lemmas.List.Splits.{length-slice_split}
use Rattle.cc_word.specs.declared.refusal.Refusal.{Refusal}
use Rattle.cc_word.specs.declared.refusal.Refusal.TheVariants as refusal
use Rattle.cc_values.specs.Values.{address_in, both, single, words_of}
use Rattle.cc_values.proofs.SpaceLemmas.{address_in_single}
use Rattle.cc_heap.specs.declared.event.Event.{Event}
use Rattle.cc_heap.specs.declared.event.Event.TheVariants as event
use Rattle.cc_replay.specs.Trace.{alignment_in, allocation_in, as_alignment, clearing_in, entry_of, pair_in, reallocation_in, single_in, sweep_in, with_trace_values}

-- If one of two values is no number, the error is `Syntax`.
both_syntax : {A B : Type 0} (first : Result A Refusal) → both {A = A} {B = B} first (Err refusal.Syntax) ≡ Err refusal.Syntax
both_syntax (Ok first) = refl
both_syntax (Err refusal.Syntax) = refl
both_syntax (Err other) = refl

-- a line has at least one word
some_words : (text : List ℕ) → 0 < length (words_of text)
some_words text = omega (arith, length-slice_split (λ byte. byte == 32) text)

-- ---- one value

single_by : (make : ℕ → Event) (text : List ℕ) (words : List (List ℕ)) → address_in text ≡ single address_in words
    → single_in make words ≡ with_trace_values make (address_in text)
single_by make text [] is = sym (ap (with_trace_values make) is)
single_by make text (word ∷ []) is = sym (ap (with_trace_values make) is)
single_by make text (word ∷ other ∷ words) is = sym (ap (with_trace_values make) is)

pub single_then : (make : ℕ → Event) (text : List ℕ) → single_in make (words_of text) ≡ with_trace_values make (address_in text)
single_then make text = single_by make text (words_of text) (address_in_single text)

-- ---- two values

clearing_by : (id size : List ℕ) (words : List (List ℕ)) → address_in size ≡ single address_in words
    → clearing_in (id ∷ words) ≡ with_trace_values (λ pair. event.Clear pair.0 pair.1) (pair_in id size)
clearing_by id size [] is =
    sym (ap (with_trace_values (λ pair. event.Clear pair.0 pair.1)) (ap (both (address_in id)) is ∙ both_syntax (address_in id)))
clearing_by id size (word ∷ []) is =
    sym (ap (with_trace_values (λ pair. event.Clear pair.0 pair.1)) (ap (both (address_in id)) is))
clearing_by id size (word ∷ other ∷ words) is =
    sym (ap (with_trace_values (λ pair. event.Clear pair.0 pair.1)) (ap (both (address_in id)) is ∙ both_syntax (address_in id)))

pub clearing_then : (id size : List ℕ) → clearing_in (id ∷ words_of size) ≡ with_trace_values (λ pair. event.Clear pair.0 pair.1) (pair_in id size)
clearing_then id size = clearing_by id size (words_of size) (address_in_single size)

-- ---- three values

reallocation_by : (old new size : List ℕ) (words : List (List ℕ)) → address_in size ≡ single address_in words
    → reallocation_in (old ∷ new ∷ words)
    ≡ with_trace_values (λ all. event.Reallocate all.0.0 all.0.1 all.1) (both (pair_in old new) (address_in size))
reallocation_by old new size [] is =
    sym (ap (with_trace_values (λ all. event.Reallocate all.0.0 all.0.1 all.1)) (ap (both (pair_in old new)) is ∙ both_syntax (pair_in old new)))
reallocation_by old new size (word ∷ []) is =
    sym (ap (with_trace_values (λ all. event.Reallocate all.0.0 all.0.1 all.1)) (ap (both (pair_in old new)) is))
reallocation_by old new size (word ∷ other ∷ words) is =
    sym (ap (with_trace_values (λ all. event.Reallocate all.0.0 all.0.1 all.1)) (ap (both (pair_in old new)) is ∙ both_syntax (pair_in old new)))

pub reallocation_then : (old new size : List ℕ) → reallocation_in (old ∷ new ∷ words_of size)
    ≡ with_trace_values (λ all. event.Reallocate all.0.0 all.0.1 all.1) (both (pair_in old new) (address_in size))
reallocation_then old new size = reallocation_by old new size (words_of size) (address_in_single size)

allocation_by : (id size align : List ℕ) (words : List (List ℕ)) → 0 < length words → address_in align ≡ single address_in words
    → allocation_in (id ∷ size ∷ words)
    ≡ with_trace_values (λ all. event.Allocate all.0.0 all.0.1 all.1) (both (pair_in id size) (alignment_in align))
allocation_by id size align [] some is = absurd (omega (arith, some))
allocation_by id size align (word ∷ []) some is =
    sym (ap (λ (r : Result ℕ Refusal). with_trace_values (λ all. event.Allocate all.0.0 all.0.1 all.1) (both (pair_in id size) (as_alignment r))) is)
allocation_by id size align (word ∷ other ∷ words) some is =
    sym (ap (with_trace_values (λ all. event.Allocate all.0.0 all.0.1 all.1)) (ap (λ (r : Result ℕ Refusal). both (pair_in id size) (as_alignment r)) is ∙ both_syntax (pair_in id size)))

pub allocation_then : (id size align : List ℕ) → allocation_in (id ∷ size ∷ words_of align)
    ≡ with_trace_values (λ all. event.Allocate all.0.0 all.0.1 all.1) (both (pair_in id size) (alignment_in align))
allocation_then id size align = allocation_by id size align (words_of align) (some_words align) (address_in_single align)

-- ---- no value

no_sweep_by : (words : List (List ℕ)) → 0 < length words → sweep_in words ≡ Err refusal.Syntax
no_sweep_by [] some = absurd (omega (arith, some))
no_sweep_by (word ∷ words) some = refl

pub no_sweep : (text : List ℕ) → sweep_in (words_of text) ≡ Err refusal.Syntax
no_sweep text = no_sweep_by (words_of text) (some_words text)

-- ---- the first bytes of a line

-- a line of more than 128 bytes that is not a comment is refused
long_line : (first : ℕ) (rest : List ℕ) → 128 ≤ length rest
    → entry_of (first ∷ rest) ≡ (if first == 35 then Ok None else Err refusal.Syntax)
unfolding entry_of
long_line first rest long = rw (lt-ltb 128 (suc (length rest)) (omega (arith, long))) refl

pub first_bytes : (line : List ℕ) → entry_of (take 129 line) ≡ entry_of line
first_bytes [] = refl
first_bytes (first ∷ rest) = elim (cases_lt (length rest) 128) [
  | inl short ↦ ap (λ (bytes : List ℕ). entry_of (first ∷ bytes)) (take_all 128 rest (omega (arith, short)))
  | inr long ↦
      let cut : length (take 128 rest) ≡ 128 = omega (arith, length-take 128 rest, long) in
      long_line first (take 128 rest) (omega (arith, cut)) ∙ sym (long_line first rest long)
]
