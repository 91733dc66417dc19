use Rattle.std.proofs.Common.{◌<◌, rules, subst, sym, List}
use Rattle.cc_decode.specs.Core.{ListsSegments}
use Rattle.cc_decode.specs.Elf.{LoadedSegment, segments_in}
use Rattle.cc_decode.proofs.CoreLemmas.{Splits, ends_after, from_start, goes_on, none_left, none_over, other_next, stops_in}
use Rattle.cc_decode.proofs.cores.list_segments.Goals.{else-entries-test, else-is_cut, else-is_loaded, then-entries-test+in-None, then-is_cut, then-is_loaded+in-Ok}
use Rattle.cc_decode.proofs.cores.list_segments.Goals as goal

pub entries-init : goal.entries-init
entries-init g c = record {
  more = λ now result lists. from_start c.args.order c.args.format c.args.search c.args.file.now c.segment_count-left.result c.from.result
      c.table_of-table.result.now _ now result c.table_of-table.ensures c.segment_count-left.ensures (search rules) lists;
  works = c.requires.sink;
}

pub returns-in-Err-clause-lists : goal.returns-in-Err-clause-lists
returns-in-Err-clause-lists g c =
    let splits : Splits c.entries.table.now c.in-Some.parts.0.now c.in-Some.parts.1.now =
    record { whole = search rules; first = search rules; rest = search rules } in
    c.entries.invariant.more _ _
    (stops_in c.args.order c.args.format c.args.search c.args.file.now c.entries.table.now c.in-Some.parts.0.now c.in-Some.parts.1.now c.entries.left
    c.segment_of-segment.result.address c.segment_of-segment.result.words.now c.segment_options.result c.entries.is_cut c.entries.any_error _ _ _
    (record {
      some = search rules;
      splits = splits;
      loaded = sym c.if-is_loaded.ensures;
      address_is = c.segment_of-segment.ensures.address;
      words_is = c.segment_of-segment.ensures.words;
    })
    c.segment_options.ensures c.in-Err.ensures.write c.in-Err.ensures.lists)

pub entries-preserved : goal.entries-preserved
entries-preserved g c =
    let splits : Splits c.entries.table.now c.in-Some.parts.0.now c.in-Some.parts.1.now =
    record { whole = search rules; first = search rules; rest = search rules } in
    let some : 0 < c.entries.left = search rules in
    record {
      more = λ now result lists. c.entries.invariant.more now result
          (elim c.if-is_loaded.branch [
            | then-is_loaded+in-Ok w ↦
                goes_on c.args.order c.args.format c.args.search c.args.file.now c.entries.table.now c.in-Some.parts.0.now c.in-Some.parts.1.now c.entries.left
                w.segment_of-segment.result.address w.segment_of-segment.result.words.now w.segment_options.result c.entries.is_cut w.segment_of-segment.result.is_cut
                c.entries.any_error w.in-Ok.summary _ (g.W.Sink.state w.list_segment.new.sink) now result
                (record {
                  some = some;
                  splits = splits;
                  loaded = sym w.if-is_loaded.ensures;
                  address_is = w.segment_of-segment.ensures.address;
                  words_is = w.segment_of-segment.ensures.words;
                })
                w.segment_options.ensures w.segment_of-segment.ensures.is_cut w.in-Ok.ensures.lists
                (rw (sym w.is_cut-is, sym w.any_error-is, sym w.sink-is) lists)
            | else-is_loaded w ↦
                subst (λ (s : List LoadedSegment). ListsSegments c.args.order c.args.format c.args.search s c.entries.is_cut c.entries.any_error (g.W.Sink.state c.entries.sink) now result)
                (sym (other_next c.args.order c.args.file.now c.entries.left c.entries.table.now c.in-Some.parts.0.now c.in-Some.parts.1.now some splits (sym w.if-is_loaded.ensures)))
                (rw (sym w.is_cut-is, sym w.any_error-is, sym w.sink-is) lists)
          ]);
      works = search rules;
    }

pub returns-clause-lists : goal.returns-clause-lists
returns-clause-lists g c =
    c.entries.invariant.more _ _
    (ends_after c.args.order c.args.format c.args.search (segments_in c.args.order c.args.file.now c.entries.left c.entries.table.now) c.entries.is_cut
    c.entries.any_error c.if-is_cut.line.now _ _ c.end_core.result
    (elim c.entries-test.branch [
      | else-entries-test w ↦ none_over c.args.order c.args.file.now c.entries.left c.entries.table.now w.entries-test.false
      | then-entries-test+in-None w ↦ none_left c.args.order c.args.file.now c.entries.left c.entries.table.now (search rules)
    ])
    (elim c.if-is_cut.branch [
      | then-is_cut w ↦ search rules
      | else-is_cut w ↦ search rules
    ])
    c.end_core.ensures.ends)
