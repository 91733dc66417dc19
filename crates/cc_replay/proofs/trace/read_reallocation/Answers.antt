use Rattle.std.proofs.Common.{◌≡◌, ◌∙◌, ℕ, List, ◌∷◌, Result, Err, ap, sym}
use Rattle.cc_word.specs.declared.refusal.Refusal.{Refusal}
use Rattle.cc_values.specs.Values.{address_in, both, words_of}
use Rattle.cc_heap.specs.declared.event.Event.TheVariants as event
use Rattle.cc_replay.specs.Trace.{pair_in, reallocation_in, with_trace_values}
use Rattle.cc_replay.proofs.TraceLemmas.{reallocation_then}
use Rattle.cc_replay.proofs.trace.read_reallocation.Goals as goal

pub returns-in-Err-clause-value : goal.returns-in-Err-clause-value
returns-in-Err-clause-value c =
    let old = c.in-Some.old.now in
    let new = c.in-Some-split_at_space.new.now in
    let size = c.in-Some-split_at_space.size.now in
    let whole : words_of c.args.values.now ≡ old ∷ new ∷ words_of size =
    c.in-Some.ensures.parts ∙ ap (λ (words : List (List ℕ)). old ∷ words) c.in-Some-split_at_space.ensures.parts in
    let is : Err c.in-Err.refusal ≡ both (pair_in old new) (address_in size) =
    sym c.in-Err.is ∙ c.both.ensures ∙ ap (λ (r : Result (ℕ × ℕ) Refusal). both r c.read_address.result) c.read_pair.ensures
    ∙ ap (both (pair_in old new)) c.read_address.ensures in
    ap (with_trace_values (λ all. event.Reallocate all.0.0 all.0.1 all.1)) is
    ∙ sym (ap reallocation_in whole ∙ reallocation_then old new size)
