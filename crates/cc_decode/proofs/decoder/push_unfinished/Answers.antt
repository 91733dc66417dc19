use Rattle.std.proofs.Common.{◌≡◌, ℕ, List, [], ◌++◌, refl, sym, subst, inl, inr, append-nil, append_assoc}
use Rattle.cc_word.specs.declared.refusal.Refusal.TheVariants.{Unfinished}
use Rattle.cc_decode.specs.Output.{IsWordAnswer, refusal_line}
use Rattle.cc_decode.proofs.decoder.push_unfinished.Goals.{in-Some, in-None}
use Rattle.cc_decode.proofs.decoder.push_unfinished.Goals as goal

-- a row and a refusal that were appended
joined : (old row line pushed mid out new : List ℕ) → mid ≡ old ++ row → out ≡ mid → new ≡ out ++ pushed → pushed ≡ line → new ≡ old ++ (row ++ line)
joined old row line pushed mid out new p q r s = rw (r, s, q, p) (append_assoc old row line)

pub returns : goal.returns
returns c = elim c.match-read_entry.branch [
  | in-Some w ↦
      let reply = w.push_word.ensures.word in
      record {
        text = reply.text ++ refusal_line c.args.options.now.format Unfinished;
        is_reply = record {
          row = reply.text;
          is_row = inl (w.in-Some.ensures.found.0 refl, subst (λ (word : ℕ). IsWordAnswer c.args.options.now word reply.text) w.in-Some.ensures.value reply.is_answer);
          text_is = refl;
        };
        written = joined c.args.out.now reply.text _ _ w.push_word.new.out _ _ reply.written w.out-is c.push.ensures c.unfinished_refusal.ensures.value;
      }
  | in-None w ↦ record {
    text = refusal_line c.args.options.now.format Unfinished;
    is_reply = record { row = []; is_row = inr (λ word. cc (w.in-None.ensures.found.1 word), refl); text_is = refl };
    written = joined c.args.out.now [] _ _ c.args.out.now _ _ (sym (append-nil c.args.out.now)) w.out-is c.push.ensures c.unfinished_refusal.ensures.value;
  }
]
