use Rattle.std.proofs.Common.{refl}
use Rattle.hex.specs.Hex.{decode_sized}
use Rattle.hex.proofs.HexLemmas.{IsOk-decode_sized}
use Rattle.cc_word.proofs.PairLemmas.{decode_sized-word, decoded_ok, decoded_err}
use Rattle.cc_word.proofs.word_text.bytes_of_digits.Goals as goal

pub returns-in-Ok-clause-found : goal.returns-in-Ok-clause-found
returns-in-Ok-clause-found c =
    let text = c.args.text.now in
    let decoded = decoded_ok (decode_sized text 16) c.decode_to_slice.new.out c.in-Ok.ensures.value in
    let h = (IsOk-decode_sized text 16).0 in
    (λ _. h (rw decoded refl), λ _. refl)

pub returns-in-Err-clause-found : goal.returns-in-Err-clause-found
returns-in-Err-clause-found c =
    let text = c.args.text.now in
    let decoded = decoded_err (decode_sized text 16) c.decode_to_slice.new.out c.in-Err.field-0 c.in-Err.ensures.value in
    let h = (IsOk-decode_sized text 16).1 in
    (λ x. cc x, λ x. rw decoded at (h x))

pub returns-in-Ok-clause-value : goal.returns-in-Ok-clause-value
returns-in-Ok-clause-value c =
    let text = c.args.text.now in
    let decoded = decoded_ok (decode_sized text 16) c.decode_to_slice.new.out c.in-Ok.ensures.value in
    decode_sized-word text c.decode_to_slice.new.out decoded
