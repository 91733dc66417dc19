use Rattle.std.proofs.Common.{◌∙◌, ap, List, ℕ}
use Rattle.hex.specs.Hex.{encode_with, lower_digits}
use Rattle.cc_word.proofs.TextLemmas.{word_written}
use Rattle.cc_word.proofs.word_text.bytes_of_word.Goals as goal

pub returns : goal.returns
returns c =
    ap (λ (bytes : List ℕ). encode_with lower_digits bytes) c.to_be_bytes.ensures ∙ word_written c.args.word
