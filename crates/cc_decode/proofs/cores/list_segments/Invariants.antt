use Rattle.std.proofs.Common.{◌≡◌, false, Result}
use Rattle.cc_io.specs.Devices.{OutputState}
use Rattle.cc_io.specs.declared.summary.IoError.{IoError}
use Rattle.cc_io.specs.declared.summary.Summary.{Summary}
use Rattle.cc_decode.specs.Core.{ListsSegments}
use Rattle.cc_decode.specs.Elf.{is_table_cut, segments_in, segments_of}
use Rattle.cc_decode.proofs.cores.list_segments.Given as goal

-- what is listed from here on completes the listing
abbrev pub invariant-entries : goal.invariant-entries
invariant-entries g l = record {
  more : (now : OutputState) (result : Result Summary IoError)
      → ListsSegments l.order l.format l.search (segments_in l.order l.file l.left l.table) l.is_cut l.any_error (g.W.Sink.state l.sink) now result
      → ListsSegments l.order l.format l.search (segments_of l.order l.file) (is_table_cut l.order l.file) false (g.W.Sink.state l.initial.sink) now result;
  works : (g.W.Sink.state l.sink).has_failed ≡ false;
}

abbrev pub decreases-entries : goal.decreases-entries
decreases-entries g l = l.left
