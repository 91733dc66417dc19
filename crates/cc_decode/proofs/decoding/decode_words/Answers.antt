use Rattle.std.proofs.Common.{◌≡◌, ◌∙◌, Some, Err, ap, refl, rules}
use Rattle.std.proofs.lemmas.Result.{err_from_is_err_and}
use Rattle.std.specs.Prelude.{is_some}
use Rattle.cc_decode.proofs.ListLemmas.{lists_part, lists_plainly}
use Rattle.cc_decode.proofs.SkipLemmas.{lists_header, lists_none, stops_at_header}
use Rattle.cc_decode.proofs.decoding.decode_words.Goals as goal

pub returns-in-Err : goal.returns-in-Err
returns-in-Err g c = lists_none _ _ _ _ _ _ c.in-Err.ensures c.requires.sink

pub returns-in_err-write_and_flush : goal.returns-in_err-write_and_flush
returns-in_err-write_and_flush g c =
    let none : c.args.part.count ≡ Some 0 = search rules in
    let told = err_from_is_err_and c.from_residual.result c.from_residual.ensures.1 in
    stops_at_header c.args.part c.args.options _ _ _ _ c.push_header.new.page c.in_err-write_and_flush.field-0.0 c.from_residual.result none c.push_header.ensures
    c.in-Ok.ensures c.in_err-write_and_flush.ensures.sends (search rules) (told.1 ∙ ap Err told.2)

pub returns-in-Some : goal.returns-in-Some
returns-in-Some g c =
    lists_plainly c.args.part c.args.options c.in-Some.decoder c.list_entries.new.decoder c.push_header.new.page _ _ _ _ _ _
    (c.plain_decoder.ensures.all (ap is_some c.in-Some.is)) c.in-Some.ensures.options c.push_header.ensures c.in-Ok.ensures c.list_entries.ensures.outcome c.list_entries.ensures.pumps

pub returns-in-None : goal.returns-in-None
returns-in-None g c =
    lists_part c.args.part c.args.options (record { options = c.args.options; left = c.args.part.count }) c.list_entries-in-None.new.decoder
    c.push_header.new.page _ _ _ _ _ _ refl refl c.push_header.ensures c.in-Ok.ensures c.list_entries-in-None.ensures.outcome
    c.list_entries-in-None.ensures.pumps

pub returns-then-eq : goal.returns-then-eq
returns-then-eq g c =
    let none : c.args.part.count ≡ Some 0 = search rules in
    lists_header c.args.part c.args.options _ _ _ _ c.push_header.new.page none c.push_header.ensures c.in-Ok.ensures c.in_ok-write_and_flush.ensures.sends
