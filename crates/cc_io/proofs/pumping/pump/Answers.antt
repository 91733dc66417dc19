use Rattle.std.proofs.Common.{rules, ◌≡◌, ◌||◌, ◌↔◌, ◌∙◌, Bool, true, false, Ok, ℕ, List, take, subst, sym, refl}
use Rattle.std.specs.Io.KnownBytes.{Consumes, Appends}
use Rattle.cc_io.specs.Devices.{TakesPrefix}
use Rattle.cc_io.specs.Answers.{EndsWith}
use Rattle.cc_io.specs.Correct.{Pumps}
use Rattle.cc_io.specs.declared.summary.IoError.TheVariants.{Write}
use Rattle.cc_io.proofs.DeviceLemmas.{keeps_consumes}
use Rattle.cc_io.proofs.EngineLemmas.{reads_begins, stops_pending, reads_more, fails_reading, stops_reading, ends, stops_ending, piece_goes_on, piece_done, ends_early, stops_done}
use Rattle.cc_io.proofs.pumping.pump.Goals as goal

-- a result is this failure if and only if the device has failed: neither is so, or both are
neither_failed : {R : Type 0} (result failure : R) (failed : Bool) → (failed ≡ true → false ≡ true) → (result ≡ failure → ⊥)
    → (result ≡ failure) ↔ (failed ≡ true)
neither_failed result failure failed works other = (λ is. absurd (other is), λ h. let no = works h in absurd (cc (no)))

both_failed : {R : Type 0} (failure : R) (failed : Bool) → failed ≡ true → (failure ≡ failure) ↔ (failed ≡ true)
both_failed failure failed fails = (λ _. fails, λ _. refl)

pub pieces-init : goal.pieces-init
pieces-init g c = record {
  reads = reads_begins _ _ (g.met.F.Framing.is_frame c.args.framing.now) _ _ _ _ _ _ c.new-start.ensures c.in-Ok.ensures.writes.ok;
  begun = subst (g.F.Framing.IsBegun c.args.framing.now) (sym c.new-start.ensures) (g.met.F.Framing.begins c.args.framing.now);
  none_waits = c.in-Ok.ensures.empty;
  gives = search rules;
  takes = search rules;
  goes_on = c.requires.goes_on;
}

pub returns-in-Err-clause-pumps : goal.returns-in-Err-clause-pumps
returns-in-Err-clause-pumps g c = stops_pending _ _ _ _ _ _ _ _ _ _ _ c.in-Err.ensures.writes.err c.in-Err.ensures.some

pub returns-in-Err-read-clause-pumps : goal.returns-in-Err-read-clause-pumps
returns-in-Err-read-clause-pumps g c =
    fails_reading _ _ _ _ _ _ _ _ _ _ _ _ _ _ _ _ c.pieces.invariant.reads (keeps_consumes _ _ c.in-Err-read.ensures.gives)

pub pieces-preserved : goal.pieces-preserved
pieces-preserved g c =
    let r = c.pieces.invariant.reads in
    record {
      reads = reads_more _ _ (g.met.F.Framing.is_frame c.args.framing.now) _ _ _ _ _ _ _ _ _ _ _ _ _ _ _ r c.in-Ok-read.ensures.gives.0
          (piece_goes_on g.A.Answerer.done _ _ _ _ _ _ _ _ _ _ (c.in-Ok-take_piece.ensures.ok _ r.answers.start_is) (sym c.is_done.ensures ∙ c.if-is_done.false));
      begun = c.in-Ok-take_piece.ensures.begun;
      none_waits = c.in-Ok-take_piece.ensures.empty;
      gives = search rules;
      takes = search rules;
      goes_on = sym c.is_done.ensures ∙ c.if-is_done.false;
    }

pub returns-in-Err-take_piece-clause-pumps : goal.returns-in-Err-take_piece-clause-pumps
returns-in-Err-take_piece-clause-pumps g c =
    let r = c.pieces.invariant.reads in
    stops_reading _ _ _ _ (g.met.F.Framing.is_frame c.args.framing.now) _ _ _ _ _ _ _ _ _ _ _ _ _ _ _ r c.in-Ok-read.ensures.gives.0 (c.in-Err-take_piece.ensures.err _ r.answers.start_is)

pub returns-in-Ok-flush-clause-pumps : goal.returns-in-Ok-flush-clause-pumps
returns-in-Ok-flush-clause-pumps g c =
    let r = c.pieces.invariant.reads in
    let over = sym c.is_done.ensures ∙ c.if-is_done.true in
    ends_early g.A.Answerer.done _ _ _ (g.met.F.Framing.is_frame c.args.framing.now) _ _ _ _ _ _ _ _ _ _ _ _ _ _ _ _ _ r c.in-Ok-read.ensures.gives.0 over
    (piece_done g.A.Answerer.done _ _ _ _ _ _ _ _ _ _ (c.in-Ok-take_piece.ensures.ok _ r.answers.start_is) over) c.in-Ok-flush.ensures.keeps

pub returns-in-Err-flush-clause-pumps : goal.returns-in-Err-flush-clause-pumps
returns-in-Err-flush-clause-pumps g c =
    let r = c.pieces.invariant.reads in
    let over = sym c.is_done.ensures ∙ c.if-is_done.true in
    stops_done g.A.Answerer.done _ _ _ (g.met.F.Framing.is_frame c.args.framing.now) _ _ _ _ _ _ _ _ _ _ _ _ _ _ _ _ _ r c.in-Ok-read.ensures.gives.0 over
    (piece_done g.A.Answerer.done _ _ _ _ _ _ _ _ _ _ (c.in-Ok-take_piece.ensures.ok _ r.answers.start_is) over) c.in-Err-flush.ensures.keeps

pub returns-in-Ok-write_and_flush-clause-pumps : goal.returns-in-Ok-write_and_flush-clause-pumps
returns-in-Ok-write_and_flush-clause-pumps g c =
    let given = c.in-Ok-read.ensures.gives in
    let none : c.in-Ok-read.count ≡ 0 = search rules in
    let nothing = subst (λ (n : ℕ). Consumes (g.R.Source.state c.pieces.source).unread (g.R.Source.state c.read.new.self).unread (take n c.read.new.room)) none given.0 in
    let ended = c.end_rest-end_error.ensures in
    subst (λ (e : Bool). Pumps g.A.Answerer.done g.A.Answerer.Answered g.A.Answerer.Ended (g.F.Framing.frame c.args.framing.now) g.row.N g.A.Answerer.MOST c.args.answerer.now c.args.page.now
    (g.R.Source.state c.args.source.now).unread (g.R.Source.state c.read.new.self).unread (g.W.Sink.state c.args.sink.now).taken (g.W.Sink.state c.write_and_flush.new.sink).taken
    (Ok (record { any_error = c.pieces.any_error || e })) c.end_rest-end_error.new.answerer) (sym ended.error_is)
    (ends _ _ _ _ _ _ _ _ _ _ _ _ _ _ _ _ _ _ ended.ending c.pieces.invariant.reads nothing (given.1 none (search rules))
    (subst (λ (start : List ℕ). EndsWith g.A.Answerer.Ended c.pieces.answerer start ended.ending c.end_rest-end_error.new.answerer) c.as_slice.ensures ended.ends)
    (subst (λ (l : List ℕ). Appends (g.W.Sink.state c.pieces.sink).taken (g.W.Sink.state c.write_and_flush.new.sink).taken l) ended.text_is c.in-Ok-write_and_flush.ensures.sends.ok))

pub returns-in-Err-write_and_flush-clause-pumps : goal.returns-in-Err-write_and_flush-clause-pumps
returns-in-Err-write_and_flush-clause-pumps g c =
    let given = c.in-Ok-read.ensures.gives in
    let none : c.in-Ok-read.count ≡ 0 = search rules in
    let nothing = subst (λ (n : ℕ). Consumes (g.R.Source.state c.pieces.source).unread (g.R.Source.state c.read.new.self).unread (take n c.read.new.room)) none given.0 in
    let ended = c.end_rest-end_error.ensures in
    let is_write : c.in-Err-write_and_flush.error ≡ Write = search rules in
    rw is_write (stops_ending _ _ _ _ _ _ _ _ _ _ _ _ _ _ _ _ _ _ ended.ending c.pieces.invariant.reads nothing (given.1 none (search rules))
    (subst (λ (start : List ℕ). EndsWith g.A.Answerer.Ended c.pieces.answerer start ended.ending c.end_rest-end_error.new.answerer) c.as_slice.ensures ended.ends)
    (subst (λ (l : List ℕ). TakesPrefix (g.W.Sink.state c.pieces.sink).taken (g.W.Sink.state c.write_and_flush.new.sink).taken l) ended.text_is c.in-Err-write_and_flush.ensures.sends.err))

pub returns-in-Err-clause-outcome : goal.returns-in-Err-clause-outcome
returns-in-Err-clause-outcome g c = record {
  read = neither_failed _ _ _ (λ h. sym c.requires.ready.source ∙ h) (λ is. cc (is));
  write = both_failed _ _ (c.in-Err.ensures.writes.fails.0 refl);
  flushed = tt;
}

pub returns-in-Err-read-clause-outcome : goal.returns-in-Err-read-clause-outcome
returns-in-Err-read-clause-outcome g c = record {
  read = both_failed _ _ (c.in-Err-read.ensures.fails.0 refl);
  write = neither_failed _ _ _ (λ h. sym c.pieces.invariant.takes ∙ h) (λ is. cc (is));
  flushed = tt;
}

pub returns-in-Err-take_piece-clause-outcome : goal.returns-in-Err-take_piece-clause-outcome
returns-in-Err-take_piece-clause-outcome g c = record {
  read = neither_failed _ _ _ c.in-Ok-read.ensures.fails.1 (λ is. cc (is));
  write = both_failed _ _ (c.in-Err-take_piece.ensures.fails.0 refl);
  flushed = tt;
}

pub returns-in-Ok-write_and_flush-clause-outcome : goal.returns-in-Ok-write_and_flush-clause-outcome
returns-in-Ok-write_and_flush-clause-outcome g c = record {
  read = neither_failed _ _ _ c.in-Ok-read.ensures.fails.1 (λ is. cc (is));
  write = neither_failed _ _ _ c.in-Ok-write_and_flush.ensures.sends.fails.1 (λ is. cc (is));
  flushed = c.in-Ok-write_and_flush.ensures.sends.flushed;
}

pub returns-in-Err-write_and_flush-clause-outcome : goal.returns-in-Err-write_and_flush-clause-outcome
returns-in-Err-write_and_flush-clause-outcome g c =
    let is_write : c.in-Err-write_and_flush.error ≡ Write = search rules in
    rw is_write (record {
      read = neither_failed _ _ _ c.in-Ok-read.ensures.fails.1 (λ is. cc (is));
      write = both_failed _ _ (c.in-Err-write_and_flush.ensures.sends.fails.0 refl);
      flushed = tt;
    })
