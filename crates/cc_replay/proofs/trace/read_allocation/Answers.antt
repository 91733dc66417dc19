use Rattle.std.proofs.Common.{◌≡◌, ◌∙◌, ℕ, List, ◌∷◌, Result, Err, ap, sym}
use Rattle.cc_word.specs.declared.refusal.Refusal.{Refusal}
use Rattle.cc_values.specs.Values.{both, words_of}
use Rattle.cc_heap.specs.declared.event.Event.TheVariants as event
use Rattle.cc_replay.specs.Trace.{alignment_in, allocation_in, pair_in, with_trace_values}
use Rattle.cc_replay.proofs.PowerLemmas.{aligned_second}
use Rattle.cc_replay.proofs.TraceLemmas.{allocation_then}
use Rattle.cc_replay.proofs.trace.read_allocation.Goals as goal

pub returns-in-Err-clause-value : goal.returns-in-Err-clause-value
returns-in-Err-clause-value c =
    let id = c.in-Some.id.now in
    let size = c.in-Some-split_at_space.size.now in
    let align = c.in-Some-split_at_space.align.now in
    let whole : words_of c.args.values.now ≡ id ∷ size ∷ words_of align =
    c.in-Some.ensures.parts ∙ ap (λ (words : List (List ℕ)). id ∷ words) c.in-Some-split_at_space.ensures.parts in
    let is : Err c.in-Err.refusal ≡ both (pair_in id size) (alignment_in align) =
    sym c.in-Err.is ∙ c.both.ensures ∙ ap (λ (r : Result (ℕ × ℕ) Refusal). both r c.read_alignment.result) c.read_pair-in-Some-split_at_space.ensures
    ∙ ap (both (pair_in id size)) c.read_alignment.ensures.value in
    ap (with_trace_values (λ all. event.Allocate all.0.0 all.0.1 all.1)) is
    ∙ sym (ap allocation_in whole ∙ allocation_then id size align)

pub returns-in-Ok-clause-aligned : goal.returns-in-Ok-clause-aligned
returns-in-Ok-clause-aligned c =
    aligned_second c.read_pair-in-Some-split_at_space.result c.read_alignment.result (c.in-Ok.id, c.in-Ok.size) c.in-Ok.align (sym c.both.ensures ∙ c.in-Ok.is)
    c.read_alignment.ensures.aligned
