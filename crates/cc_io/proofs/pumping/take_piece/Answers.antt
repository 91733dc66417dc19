use Rattle.std.proofs.Common.{rules, ℕ, ◌+◌, ◌≤◌, length, ◌∙◌, sym, subst, inl, inr}
use Rattle.cc_io.proofs.EngineLemmas.{first_begins, first_passes, first_more, first_ends, first_stops, first_done}
use Rattle.cc_io.proofs.pumping.take_piece.Goals as goal

pub entries-init : goal.entries-init
entries-init g c = record {
  answers = λ begun is. first_begins _ _ _ _ _ _ begun _ _ _ is c.requires.empty;
  begun = c.requires.start;
  works = c.requires.sink;
  goes_on = c.requires.goes_on;
}

pub split-requires : goal.split-requires
split-requires g c = subst (g.F.Framing.IsBegun c.args.framing.now) (sym c.as_slice.ensures) c.entries.invariant.begun

pub returns-in-Err-clause-err : goal.returns-in-Err-clause-err
returns-in-Err-clause-err g c begun is = first_stops _ _ _ _ _ _ _ _ _ begun _ _ _ _ _ (c.entries.invariant.answers begun is) c.in-Err.ensures.err c.in-Err.ensures.some c.in-Err.ensures.within

pub entries-preserved : goal.entries-preserved
entries-preserved g c = record {
  answers = λ begun is.
      let p = first_passes _ _ _ _ _ _ _ _ _ begun _ _ _ _ _ _ (c.entries.invariant.answers begun is) c.in-Ok.ensures.ok in
      let ends = c.in-Some.ensures.ends p.begun_now (c.as_slice.ensures ∙ p.start_is) in
      first_more _ _ _ _ _ _ _ _ _ begun _ _ _ _ _ _ _ _ _ _ p ends (c.end_entry-any_error.ensures.answers p.begun_now p.start_is)
      (subst (λ (most : ℕ). length c.make_room.new.page + most ≤ g.row.N) c.most.ensures c.in-Ok.ensures.room)
      c.end_entry-any_error.ensures.next;
  begun = subst (g.F.Framing.IsBegun c.args.framing.now) (sym c.end_entry-any_error.ensures.next) (g.met.F.Framing.begins c.args.framing.now);
  works = search rules;
  goes_on = sym c.is_done.ensures ∙ c.if-is_done.false;
}

pub returns-in-Ok-write_page-clause-ok : goal.returns-in-Ok-write_page-clause-ok
returns-in-Ok-write_page-clause-ok g c begun is =
    let p = first_passes _ _ _ _ _ _ _ _ _ begun _ _ _ _ _ _ (c.entries.invariant.answers begun is) c.in-Ok.ensures.ok in
    let ends = c.in-Some.ensures.ends p.begun_now (c.as_slice.ensures ∙ p.start_is) in
    let q = first_more _ _ _ _ _ _ _ _ _ begun _ _ _ _ _ _ _ _ _ _ p ends (c.end_entry-any_error.ensures.answers p.begun_now p.start_is)
    (subst (λ (most : ℕ). length c.make_room.new.page + most ≤ g.row.N) c.most.ensures c.in-Ok.ensures.room)
    c.end_entry-any_error.ensures.next in
    inr (sym c.is_done.ensures ∙ c.if-is_done.true, first_done _ _ _ _ _ _ _ _ _ begun _ _ _ _ _ q c.in-Ok-write_page.ensures.writes.ok)

pub returns-in-Err-write_page-clause-err : goal.returns-in-Err-write_page-clause-err
returns-in-Err-write_page-clause-err g c begun is =
    let p = first_passes _ _ _ _ _ _ _ _ _ begun _ _ _ _ _ _ (c.entries.invariant.answers begun is) c.in-Ok.ensures.ok in
    let ends = c.in-Some.ensures.ends p.begun_now (c.as_slice.ensures ∙ p.start_is) in
    let q = first_more _ _ _ _ _ _ _ _ _ begun _ _ _ _ _ _ _ _ _ _ p ends (c.end_entry-any_error.ensures.answers p.begun_now p.start_is)
    (subst (λ (most : ℕ). length c.make_room.new.page + most ≤ g.row.N) c.most.ensures c.in-Ok.ensures.room)
    c.end_entry-any_error.ensures.next in
    first_stops _ _ _ _ _ _ _ _ _ begun _ _ _ _ _ q c.in-Err-write_page.ensures.writes.err c.in-Err-write_page.ensures.some c.in-Err-write_page.ensures.within

pub returns-in-Ok-write_page-2-clause-ok : goal.returns-in-Ok-write_page-2-clause-ok
returns-in-Ok-write_page-2-clause-ok g c begun is =
    let p = c.entries.invariant.answers begun is in
    inl (
      c.entries.invariant.goes_on,
      first_ends _ _ _ _ _ _ _ _ _ begun _ _ _ _ _ _ p (c.in_default.ensures.none p.begun_now (c.as_slice.ensures ∙ p.start_is)) c.extend.ensures
          c.in-Ok-write_page-2.ensures.writes.ok,
    )

pub returns-in-Err-write_page-2-clause-err : goal.returns-in-Err-write_page-2-clause-err
returns-in-Err-write_page-2-clause-err g c begun is =
    first_stops _ _ _ _ _ _ _ _ _ begun _ _ _ _ _ (c.entries.invariant.answers begun is) c.in-Err-write_page-2.ensures.writes.err c.in-Err-write_page-2.ensures.some
    c.in-Err-write_page-2.ensures.within
