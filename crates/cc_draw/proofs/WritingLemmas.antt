-- Output that is written in several chunks.
use Rattle.std.proofs.Common.{◌≡◌, ◌+◌, ◌∙◌, ◌++◌, ℕ, List, [], Option, Result, Ok, Err, append_assoc, ap, arith, inl, inr, length, length-append, refl, subst, sym, take}
use Rattle.std.proofs.lemmas.List.{take-append-le}
use Rattle.std.proofs.Math.Seq.{take-append-add}
use Rattle.std.specs.Prelude.{OnErr, OnOk, ⊤}
use Rattle.std.specs.Io.KnownBytes.{Appends}
use Rattle.cc_io.specs.Devices.{OutputState, SendsBytes, TakesPrefix, WritesBytes}
use Rattle.cc_io.specs.Engine.{PassesPage}
use Rattle.cc_io.proofs.DeviceLemmas.{appends_none, appends_twice}

-- Writing holds if all of the output was written except `rest`.
pub record Writing (old now : Option (List ℕ)) (rest whole : List ℕ) : Type 0 where
  pub done : List ℕ
  pub written : Appends old now done
  pub whole_is : done ++ rest ≡ whole

pub writing_begins : (a : Option (List ℕ)) (whole : List ℕ) → Writing a a whole whole
writing_begins a whole = record { done = []; written = appends_none a; whole_is = refl }

-- One more chunk was written, and others are left.
pub writing_more : (a b c : Option (List ℕ)) (piece rest whole : List ℕ) → Writing a b (piece ++ rest) whole → Appends b c piece → Writing a c rest whole
writing_more a b c piece rest whole w p = record {
  done = w.done ++ piece;
  written = appends_twice a b c w.done piece w.written p;
  whole_is = append_assoc w.done piece rest ∙ w.whole_is;
}

-- A page was written and is empty, or nothing was done: the bytes on the page are still to be written, before the others.
pub writing_passes : (a b c : Option (List ℕ)) (page page_now rest whole : List ℕ) → Writing a b (page ++ rest) whole → PassesPage b c page page_now
    → Writing a c (page_now ++ rest) whole
writing_passes a b c page page_now rest whole w (inl (same, kept)) =
    subst (λ (now : Option (List ℕ)). Writing a now (page_now ++ rest) whole) (sym same) (subst (λ (l : List ℕ). Writing a b (l ++ rest) whole) (sym kept) w)
writing_passes a b c page page_now rest whole w (inr (written, empty)) =
    subst (λ (l : List ℕ). Writing a c (l ++ rest) whole) (sym empty) (writing_more a b c page rest whole w written)

-- The unwritten bytes may be named by an equal list.
pub writing_same : (a b : Option (List ℕ)) (rest other whole : List ℕ) → rest ≡ other → Writing a b rest whole → Writing a b other whole
writing_same a b rest other whole same w = subst (λ (l : List ℕ). Writing a b l whole) same w

-- The last chunk was written, so all of it was.
pub writing_last : (a b c : Option (List ℕ)) (piece whole : List ℕ) → Writing a b piece whole → Appends b c piece → Appends a c whole
writing_last a b c piece whole w p = subst (λ (l : List ℕ). Appends a c l) w.whole_is (appends_twice a b c w.done piece w.written p)

-- A prefix of the last chunk was written, so a prefix of the output was.
pub writing_stops_last : (a b c : Option (List ℕ)) (piece whole : List ℕ) → Writing a b piece whole → TakesPrefix b c piece → TakesPrefix a c whole
writing_stops_last a b c piece whole w q =
    let taken = appends_twice a b c w.done (take q.count piece) w.written q.taken in
    record {
      count = length w.done + q.count;
      within = omega (arith, ap (λ (l : List ℕ). length l) w.whole_is, length-append w.done piece, q.within);
      taken = subst (λ (l : List ℕ). Appends a c l)
          (sym (take-append-add w.done piece q.count) ∙ ap (λ (l : List ℕ). take (length w.done + q.count) l) w.whole_is) taken;
    }

-- A prefix of a chunk is a prefix of that chunk and the bytes after it.
pub begins_longer : (b c : Option (List ℕ)) (piece rest : List ℕ) → TakesPrefix b c piece → TakesPrefix b c (piece ++ rest)
begins_longer b c piece rest q = record {
  count = q.count;
  within = omega (arith, length-append piece rest, q.within);
  taken = subst (λ (l : List ℕ). Appends b c l) (sym (take-append-le q.count piece rest q.within)) q.taken;
}

pub writing_stops : (a b c : Option (List ℕ)) (piece rest whole : List ℕ) → Writing a b (piece ++ rest) whole → TakesPrefix b c piece → TakesPrefix a c whole
writing_stops a b c piece rest whole w q = writing_stops_last a b c (piece ++ rest) whole w (begins_longer b c piece rest q)

-- A consequence of a claim about a success holds about a success. The next lemma says that of an
-- error.
pub on_ok_weaker : {A E P Q : Type 0} (result : Result A E) → (P → Q) → OnOk result P → OnOk result Q
on_ok_weaker (Ok value) next is = next is
on_ok_weaker (Err error) next is = tt

pub on_err_weaker : {A E P Q : Type 0} (result : Result A E) → (P → Q) → OnErr result P → OnErr result Q
on_err_weaker (Ok value) next is = tt
on_err_weaker (Err error) next is = next is

-- ---- bytes that are sent in several calls

-- A call failed in the first of the bytes, which may be named by an equal list.
pub fails_in : {E F : Type 0} (a b : OutputState) (bytes first later : List ℕ) (error : E) (failed : F) → bytes ≡ first → WritesBytes a b bytes (Err failed)
    → SendsBytes a b (first ++ later) (Err error)
fails_in a b bytes first later error failed is w = record {
  ok = tt;
  err = begins_longer a.taken b.taken first later (subst (λ (l : List ℕ). TakesPrefix a.taken b.taken l) is w.err);
  flushed = tt;
  fails = w.fails;
}

-- The first bytes were written, and a call writes those after them.
pub writes_after : {E : Type 0} (a b c : OutputState) (first later : List ℕ) (result : Result ⊤ E) → Appends a.taken b.taken first → WritesBytes b c later result
    → WritesBytes a c (first ++ later) result
writes_after a b c first later result p w =
    let whole : List ℕ = first ++ later in
    let writing = writing_more a.taken a.taken b.taken first later whole (writing_begins a.taken whole) p in
    record {
      ok = on_ok_weaker result (writing_last a.taken b.taken c.taken later whole writing) w.ok;
      err = on_err_weaker result (writing_stops_last a.taken b.taken c.taken later whole writing) w.err;
      fails = w.fails;
    }

-- The first bytes, which may be named by an equal list, were written, and a call sends those after them.
pub sends_after : {E : Type 0} (a b c : OutputState) (bytes first later : List ℕ) (result : Result ⊤ E) → bytes ≡ first → Appends a.taken b.taken bytes
    → SendsBytes b c later result → SendsBytes a c (first ++ later) result
sends_after a b c bytes first later result is p w =
    let written = subst (λ (l : List ℕ). Appends a.taken b.taken l) is p in
    let all = writes_after a b c first later result written (record { ok = w.ok; err = w.err; fails = w.fails }) in
    record { ok = all.ok; err = all.err; flushed = w.flushed; fails = w.fails }

-- The bytes that were sent may be named by an equal list.
pub sends_same : {E : Type 0} (a b : OutputState) (bytes other : List ℕ) (result : Result ⊤ E) → bytes ≡ other → SendsBytes a b bytes result → SendsBytes a b other result
sends_same a b bytes other result is w = subst (λ (l : List ℕ). SendsBytes a b l result) is w
