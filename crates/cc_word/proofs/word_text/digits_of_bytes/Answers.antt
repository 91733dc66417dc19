use Rattle.std.proofs.Common.{Result, Ok, Err, arith}
use Rattle.std.specs.Prelude.{OnOk, IsOk}
use Rattle.cc_word.proofs.word_text.digits_of_bytes.Goals as goal

on_ok : {A B P : Type 0} (r : Result A B) → IsOk r → OnOk r P → P
on_ok (Ok x) i h = h
on_ok (Err e) i h = cc i

pub returns : goal.returns
returns c =
    on_ok c.encode_to_slice.result (c.encode_to_slice.ensures.fits.1 (omega arith)) c.encode_to_slice.ensures.written
