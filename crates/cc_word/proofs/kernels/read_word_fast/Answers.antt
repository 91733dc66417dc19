use Rattle.std.proofs.Common.{arith, refl, sym, ap, ◌∙◌, ◌≡◌, List, ℕ, length}
use Rattle.std.specs.Int.{w128, from_be_bytes}
use Rattle.std.proofs.lemmas.List.{take_all}
use Rattle.std.proofs.lemmas.List.Sums.{AllPass-from_list_all, list_all-from_AllPass}
use lib.Lanes.{chunk, Each2}
use Rattle.hex.specs.Hex.{is_hex_digit}
use Rattle.cc_word.specs.DigitValue.{IsValue}
use Rattle.cc_word.proofs.PairLemmas.{from_be_bytes-value}
use Rattle.cc_word.proofs.LaneLemmas.{none_over, over_none, mask_over, bytes_are, paired, length-paired, paired-value}
use Rattle.cc_word.proofs.kernels.read_word_fast.Goals as goal

pub returns-then-values-ne0-clause-found : goal.returns-then-values-ne0-clause-found
returns-then-values-ne0-clause-found c =
    let text : List ℕ = c.args.text.now in
    let values : List ℕ = c.values_of_digits-values.result in
    let long = c.values_of_digits-values.ensures.all in
    let whole : chunk 0 32 text ≡ text = take_all 32 text (omega (arith, c.if-text-ne32.false)) in
    let are : Each2 IsValue text values = rw whole at c.values_of_digits-values.ensures.values in (
      λ some. cc some,
      λ word.
          let none = mask_over values long ∙ over_none text values (omega (arith, long, c.if-text-ne32.false)) are (list_all-from_AllPass is_hex_digit text word.1) in
          absurd (omega (arith, none, c.if-values-ne0.true)),
    )

pub returns-clause-found : goal.returns-clause-found
returns-clause-found c =
    let text : List ℕ = c.args.text.now in
    let values : List ℕ = c.values_of_digits-values.result in
    let long = c.values_of_digits-values.ensures.all in
    let whole : chunk 0 32 text ≡ text = take_all 32 text (omega (arith, c.if-text-ne32.false)) in
    let are : Each2 IsValue text values = rw whole at c.values_of_digits-values.ensures.values in
    let all = none_over text values (omega (arith, long, c.if-text-ne32.false)) are (sym (mask_over values long) ∙ c.if-values-ne0.false) in (
      λ _. (c.if-text-ne32.false, AllPass-from_list_all is_hex_digit text all),
      λ _. refl,
    )

pub returns-clause-value : goal.returns-clause-value
returns-clause-value c =
    let text : List ℕ = c.args.text.now in
    let values : List ℕ = c.values_of_digits-values.result in
    let long = c.values_of_digits-values.ensures.all in
    let whole : chunk 0 32 text ≡ text = take_all 32 text (omega (arith, c.if-text-ne32.false)) in
    let are : Each2 IsValue text values = rw whole at c.values_of_digits-values.ensures.values in
    let same : length text ≡ length values = omega (arith, long, c.if-text-ne32.false) in
    let all = none_over text values same are (sym (mask_over values long) ∙ c.if-values-ne0.false) in
    c.from_be_bytes.ensures
    ∙ ap (λ (l : List ℕ). from_be_bytes w128 l) (bytes_are values long)
    ∙ from_be_bytes-value (paired values) (length-paired values long)
    ∙ sym (paired-value 16 0 text values c.if-text-ne32.false same are all)
