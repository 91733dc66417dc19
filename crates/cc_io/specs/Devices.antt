-- The bytes that a call of a source or a sink moves, and the states of the source and the sink over
-- slices.
use Rattle.std.specs.Prelude.{ℕ, Bool, true, false, ◌≡◌, ◌⊎◌, ◌↔◌, ◌≤◌, ◌<◌, ◌+◌, List, length, take, Option, Some, Result, Err, IfOk, OnOk, OnErr, IsErr, ⊤}
use Rattle.std.specs.Io.{ReadsAtMost, WritesAtMost}
use Rattle.std.specs.Io.KnownBytes.{Appends, Keeps, ReadConsumes, WriteAppends}
use Rattle.cc_io.specs.declared.summary.IoError.{IoError}
use Rattle.cc_io.specs.declared.summary.IoError.TheVariants.{Read, Write}
use Rattle.cc_io.specs.declared.summary.Summary.{Summary}

-- `TakesPrefix` holds if the sink took a prefix of the bytes, and no more.
pub record TakesPrefix (old new : Option (List ℕ)) (bytes : List ℕ) : Type 0 where
  pub count : ℕ
  pub within : count ≤ length bytes
  pub taken : Appends old new (take count bytes)

-- The state of a source: the unread bytes, if it says which they are; the maximum number of
-- bytes that it can still give; and whether a call has failed.
pub record InputState : Type 0 where
  pub unread : Option (List ℕ)
  pub most_unread : ℕ
  pub has_failed : Bool

-- `ReadsPiece` holds if a call gave the next bytes, or failed and gave none. After a failure each call
-- fails.
pub record ReadsPiece {E : Type 0} (old new : InputState) (room_now : List ℕ) (result : Result ℕ E) : Type 0 where
  pub count : ReadsAtMost result room_now
  pub gives : ReadConsumes old.unread new.unread result room_now
  pub shrinks : IfOk result (λ count. new.most_unread + count ≡ old.most_unread)
  pub kept : OnErr result (new.most_unread ≡ old.most_unread)
  pub fails : IsErr result ↔ (new.has_failed ≡ true)
  pub stays : old.has_failed ≡ true → new.has_failed ≡ true

-- The state of a sink: the bytes taken so far, if it says which they are; whether the last call
-- was a flush, and succeeded, which is always true of a sink that does not say so, such as
-- `FromWriter` and `SliceSink`; and whether a call has failed.
pub record OutputState : Type 0 where
  pub taken : Option (List ℕ)
  pub is_flushed : Bool
  pub has_failed : Bool

-- `WritesPiece` holds if a call took a prefix of the bytes, of at least 1 byte unless there are none,
-- or failed. After a failure each call fails.
pub record WritesPiece {E : Type 0} (old new : OutputState) (piece : List ℕ) (result : Result ℕ E) : Type 0 where
  pub count : WritesAtMost result piece
  pub takes : WriteAppends old.taken new.taken result piece
  pub some : IfOk result (λ count. 0 < length piece → 0 < count)
  pub fails : IsErr result ↔ (new.has_failed ≡ true)
  pub stays : old.has_failed ≡ true → new.has_failed ≡ true

-- `Flushes` holds if a call moved no bytes and flushed the sink, or failed.
pub record Flushes {E : Type 0} (old new : OutputState) (result : Result ⊤ E) : Type 0 where
  pub keeps : Keeps old.taken new.taken
  pub flushed : OnOk result (new.is_flushed ≡ true)
  pub fails : IsErr result ↔ (new.has_failed ≡ true)
  pub stays : old.has_failed ≡ true → new.has_failed ≡ true

-- `AreReady` holds if no call of the source or of the sink has failed.
pub record AreReady (input : InputState) (output : OutputState) : Type 0 where
  pub source : input.has_failed ≡ false
  pub sink : output.has_failed ≡ false

-- `WritesBytes` holds if the sink took all the bytes, or failed after a prefix of them.
pub record WritesBytes {E : Type 0} (old new : OutputState) (bytes : List ℕ) (result : Result ⊤ E) : Type 0 where
  pub ok : OnOk result (Appends old.taken new.taken bytes)
  pub err : OnErr result (TakesPrefix old.taken new.taken bytes)
  pub fails : IsErr result ↔ (new.has_failed ≡ true)

-- `SendsBytes` holds if the sink took all the bytes and was flushed, or failed after a prefix of them.
pub record SendsBytes {E : Type 0} (old new : OutputState) (bytes : List ℕ) (result : Result ⊤ E) : Type 0 where
  pub ok : OnOk result (Appends old.taken new.taken bytes)
  pub err : OnErr result (TakesPrefix old.taken new.taken bytes)
  pub flushed : OnOk result (new.is_flushed ≡ true)
  pub fails : IsErr result ↔ (new.has_failed ≡ true)

-- `IsOutcome` holds if the result is `Read` if and only if the source failed, and `Write` if and only
-- if the sink failed, and otherwise the sink is flushed.
pub record IsOutcome (input : InputState) (output : OutputState) (result : Result Summary IoError) : Type 0 where
  pub read : (result ≡ Err Read) ↔ (input.has_failed ≡ true)
  pub write : (result ≡ Err Write) ↔ (output.has_failed ≡ true)
  pub flushed : OnOk result (output.is_flushed ≡ true)

-- The state of a source over a slice: the unread bytes, the maximum length of a read, the number of
-- the call that fails, counted from 1 at the next call (0 if none fails), and whether a call has
-- failed.
pub record SourceState : Type 0 where
  pub rest : List ℕ
  pub piece : ℕ
  pub calls_left : ℕ
  pub has_failed : Bool

-- The state of a sink over a slice: the bytes taken, the length of the slice, the maximum length of
-- a write, the number of the call that fails, counted from 1 at the next call (0 if none fails),
-- and whether a call has failed.
pub record SinkState : Type 0 where
  pub taken : List ℕ
  pub room : ℕ
  pub piece : ℕ
  pub calls_left : ℕ
  pub has_failed : Bool

-- The state of a source over a slice, in the words of every source.
abbrev pub input_of : SourceState → InputState
input_of s = record { unread = Some s.rest; most_unread = length s.rest; has_failed = s.has_failed }

-- The state of a sink over a slice, in the words of every sink.
abbrev pub output_of : SinkState → OutputState
output_of s = record { taken = Some s.taken; is_flushed = true; has_failed = s.has_failed }

-- `FailsNext` holds if the next call of a source or a sink over a slice fails: an earlier call has
-- failed, or the next is the one to fail.
abbrev pub FailsNext : (calls_left : ℕ) (has_failed : Bool) → Type 0
FailsNext calls_left has_failed = (has_failed ≡ true) ⊎ (calls_left ≡ 1)
