use Rattle.std.proofs.Common.{◌∙◌, ap, arith}
use Rattle.std.specs.Int.{from_be_bytes, from_le_bytes, w128}
use Rattle.cc_ffi.proofs.BytesLemmas.{from_be_bytes-to_be_bytes, from_le_bytes-to_le_bytes}
use Rattle.cc_ffi.proofs.c_memory.bytes_of.Goals as goal

pub returns-then-big_endian : goal.returns-then-big_endian
returns-then-big_endian c =
    rw c.if-big_endian.true
    (ap (from_be_bytes w128) c.to_be_bytes.ensures ∙ from_be_bytes-to_be_bytes c.number-word.result (omega arith) ∙ c.number-word.ensures)

pub returns-else-big_endian : goal.returns-else-big_endian
returns-else-big_endian c =
    rw c.if-big_endian.false
    (ap (from_le_bytes w128) c.to_le_bytes.ensures ∙ from_le_bytes-to_le_bytes c.number-word.result (omega arith) ∙ c.number-word.ensures)
