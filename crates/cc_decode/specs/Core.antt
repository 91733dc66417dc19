-- The listing of a core file: the bytes that the sink took, by the result.
use Rattle.std.specs.Prelude.{◌≡◌, ◌⊎◌, ℕ, Bool, true, false, ◌||◌, List, [], ◌∷◌, ◌++◌, length, Option, None, Some, Result, Ok, Err, IfOk, if◌then◌else◌}
use Rattle.cc_word.specs.declared.refusal.Refusal.TheVariants.{Syntax, Unfinished}
use Rattle.cc_io.specs.CommandOutput.{WritesAnswer}
use Rattle.cc_io.specs.Devices.{InputState, OutputState, SendsBytes}
use Rattle.cc_io.specs.Frames.{blocks}
use Rattle.cc_io.specs.Serving.{Serves}
use Rattle.cc_io.specs.declared.format.Format.{Format}
use Rattle.cc_io.specs.declared.input_form.ByteOrder.{ByteOrder}
use Rattle.cc_io.specs.declared.input_form.InputForm.TheVariants.{Bytes}
use Rattle.cc_io.specs.declared.summary.IoError.{IoError}
use Rattle.cc_io.specs.declared.summary.IoError.TheVariants.{Write}
use Rattle.cc_io.specs.declared.summary.Summary.{Summary}
use Rattle.cc_decode.specs.Elf.{LoadedSegment, elf_order, is_table_cut, segments_of}
use Rattle.cc_decode.specs.Output.{AreAnswers, EndsListing, refusal_line}
use Rattle.cc_decode.specs.Place.{place_name}
use Rattle.cc_decode.specs.Row.{header_text}
use Rattle.cc_decode.specs.declared.options.Options.{Options}
use Rattle.cc_decode.specs.declared.options.Search.{Search}

-- The options of the listing of a segment whose first word is at this address.
abbrev pub segment_options : ByteOrder → Format → Option Search → (address : ℕ) → Options
segment_options order format search address =
    record { input = Bytes order; format = format; at = Some address; tags = None; search = search }

-- A source of these bytes that does not fail.
abbrev pub unread_bytes : List ℕ → InputState
unread_bytes bytes = record { unread = Some bytes; most_unread = length bytes; has_failed = false }

-- ListsSegment holds if the replies to the words were written, up to a failure of the sink.
pub record ListsSegment (options : Options) (words : List ℕ) (output output_now : OutputState) (result : Result Summary IoError) : Type 0 where
  pub left : List ℕ
  pub serves : Serves (AreAnswers options) (EndsListing options) blocks 32768 512 [] (unread_bytes words) (unread_bytes left) output output_now result

-- EndsCore holds if the listing ends with this line, or with a prefix of it if the sink failed, and has an error if `any_error` is true.
pub record EndsCore (line : List ℕ) (any_error : Bool) (output output_now : OutputState) (result : Result Summary IoError) : Type 0 where
  pub written : WritesAnswer (λ text. text ≡ line) output output_now result
  pub error_is : IfOk result (λ summary. summary.any_error ≡ any_error)

-- ListsSegments holds if the segments were listed in this order, and then the refusal `unfinished` if the file is cut off, up to a
-- failure of the sink.
abbrev pub ListsSegments : ByteOrder → Format → Option Search → List LoadedSegment → (is_cut any_error : Bool) → (output output_now : OutputState)
    → Result Summary IoError → Type 0
ListsSegments order format search [] is_cut any_error output output_now result =
    EndsCore (if is_cut then refusal_line format Unfinished else []) (any_error || is_cut) output output_now result
ListsSegments order format search (segment ∷ segments) is_cut any_error output output_now result =
    ((result ≡ Err Write) × ListsSegment (segment_options order format search segment.address) segment.words output output_now (Err Write))
    ⊎ ((mid : OutputState) × (one : Summary) × ListsSegment (segment_options order format search segment.address) segment.words output mid (Ok one)
    × ListsSegments order format search segments (is_cut || segment.is_cut) (any_error || one.any_error) mid output_now result)

-- ListsFile holds if the segments of a file in this order were listed, or the refusal `syntax` was written for a file without one.
abbrev pub ListsFile : Format → Option Search → (file : List ℕ) → Option ByteOrder → (output output_now : OutputState) → Result Summary IoError → Type 0
ListsFile format search file None output output_now result = EndsCore (refusal_line format Syntax) true output output_now result
ListsFile format search file (Some order) output output_now result =
    ListsSegments order format search (segments_of order file) (is_table_cut order file) false output output_now result

-- The header of the listing.
abbrev pub core_header : Format → List ℕ
core_header format = place_name format ++ header_text format

-- ListsCore holds if the header was written, once, and then the listing of the file, up to a failure of the sink.
abbrev pub ListsCore : Format → Option Search → (file : List ℕ) → (output output_now : OutputState) → Result Summary IoError → Type 0
ListsCore format search file output output_now result =
    ((result ≡ Err Write) × SendsBytes {E = IoError} output output_now (core_header format) (Err Write))
    ⊎ ((mid : OutputState) × SendsBytes {E = IoError} output mid (core_header format) (Ok tt) × ListsFile format search file (elf_order file) mid output_now result)
