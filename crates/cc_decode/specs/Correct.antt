-- The theorem of decoding an input: the bytes that the sink took, and those left in the source, by
-- the result.
use Rattle.std.specs.Prelude.{◌≡◌, ◌<◌, ◌≤◌, ◌⊎◌, ℕ, Bool, List, drop, length, Option, Result, Err}
use Rattle.std.specs.Io.KnownBytes.{Consumes, IsAtEnd}
use Rattle.cc_io.specs.Devices.{InputState, IsOutcome, OutputState}
use Rattle.cc_io.specs.Serving.{ServesText, WritesWhole}
use Rattle.cc_io.specs.declared.summary.IoError.{IoError}
use Rattle.cc_io.specs.declared.summary.IoError.TheVariants.{Read}
use Rattle.cc_io.specs.declared.summary.Summary.{Summary}
use Rattle.cc_decode.specs.Input.{frame_of, input_entries}
use Rattle.cc_decode.specs.Output.{AreAnswers, EndsListing}
use Rattle.cc_decode.specs.Part.{frame_part, unread_after}
use Rattle.cc_decode.specs.Place.{header_of}
use Rattle.cc_decode.specs.declared.options.Options.{Options}
use Rattle.cc_decode.specs.declared.options.Part.{Part}

-- WritesListing holds if the sink took the whole listing of `text`: the header of the format, the
-- reply to each entry, and that to trailing bytes, if any.
abbrev pub WritesListing : Options → (text : List ℕ) (taken taken_now : Option (List ℕ)) → (any_error : Bool) → Type 0
WritesListing options text taken taken_now any_error =
    WritesWhole (AreAnswers options) (EndsListing options) (frame_of options.input) (header_of options) text taken taken_now any_error

-- IsPast holds if the source gave as many bytes as are skipped, or does not say that any is left.
abbrev pub IsPast : (skipped : ℕ) (text : List ℕ) (unread : Option (List ℕ)) → Type 0
IsPast skipped text unread = (skipped ≤ length text) ⊎ IsAtEnd unread

-- Lists holds if the bytes written are the listing of the part of some text that the source gave, up to
-- a failure: the header of the format, and the replies to the entries after the skipped bytes, as many as
-- the part has. At a failure of the sink, these are on a page of 32,768 bytes, of which at least 512 were
-- free before the last. If the source failed among the skipped bytes, and says that some are left, nothing
-- was written. If the source says which bytes are unread, the text is a prefix of them.
pub record Lists (part : Part) (options : Options) (input input_now : InputState) (output output_now : OutputState) (result : Result Summary IoError) : Type 0 where
  pub text : List ℕ
  pub given : Consumes input.unread input_now.unread text
  pub lists :
      ((result ≡ Err Read) × (length text < part.skipped) × (output_now.taken ≡ output.taken))
      ⊎ (IsPast part.skipped text input_now.unread
      × ServesText (AreAnswers options) (EndsListing options) (frame_part part.count (frame_of options.input)) 32768 512 (header_of options) (drop part.skipped text)
      (unread_after part.count (input_entries options.input (drop part.skipped text)) input_now.unread) output.taken output_now.taken result)
  pub outcome : IsOutcome input_now output_now result
