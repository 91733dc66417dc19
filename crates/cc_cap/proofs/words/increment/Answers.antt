use Rattle.std.proofs.Common.{ℕ, ◌∙◌, ◌+◌, ◌-◌, ◌%◌, ◌^◌, ap, arith}
use Rattle.cc_cap.specs.Derivation.{Increments}
use Rattle.cc_cap.proofs.WordRuleLemmas.{address-replaced, word_made}
use Rattle.cc_cap.proofs.words.increment.Goals as goal

pub own_word-requires : goal.own_word-requires
own_word-requires c =
    address-replaced c.in_ok-cap.cap c.args.word ((c.in_ok-cap.cap.address + c.args.amount) % 2 ^ 64) c.increment.result c.with_address.result c.in_ok-cap.ensures.0 (omega arith)
    c.increment.ensures.made
    (λ fields has.
    c.with_address.ensures fields has
    ∙ ap (λ (n : ℕ). c.args.word - fields.address + (n + c.args.amount) % 2 ^ 64) c.address.ensures)

pub returns : goal.returns
returns c = record {
  made = word_made (λ cap. Increments cap c.args.amount) c.args.word c.in_ok-cap.cap c.increment.result c.own_word.result
      c.in_ok-cap.ensures.0 c.increment.ensures.made c.own_word.ensures;
}
