-- The first bytes of lines have the events of the lines.
use Rattle.std.proofs.Common.{◌≡◌, ℕ, List, [], ◌∷◌, map, take, Option, refl, ◌∙◌, ap}
use Rattle.cc_replay.specs.declared.formats.Entry.{Entry}
use Rattle.cc_replay.specs.declared.formats.TraceFormat.{TraceFormat}
use Rattle.cc_replay.specs.Formats.{entry_in}
use Rattle.cc_replay.specs.Replay.{event_before, events_in}
use Rattle.cc_replay.proofs.FormatLemmas.{entry_start}

pub events_seen : (format : TraceFormat) (pending : Option ℕ) (ls : List (List ℕ)) → events_in format pending (map (take 129) ls) ≡ events_in format pending ls
events_seen format pending [] = refl
events_seen format pending (line ∷ ls) =
    ap (λ (entry : Entry). event_before entry.event (events_in format entry.pending (map (take 129) ls))) (entry_start format pending line)
    ∙ ap (event_before (entry_in format pending line).event) (events_seen format (entry_in format pending line).pending ls)
