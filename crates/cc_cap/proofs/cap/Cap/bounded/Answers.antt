use Rattle.std.proofs.Common.{◌∙◌, ap, sym}
use Rattle.cc_bounds.specs.Encoding.{Encoding}
use Rattle.cc_cap.specs.Cap.{value_of}
use Rattle.cc_cap.proofs.BoundsLemmas.{bounded}
use Rattle.cc_cap.proofs.cap.Cap.bounded.Goals as goal
use Rattle.cc_cap.proofs.cap.Cap.bounded.Goals.{else-exact-via-then-exact+else-not-exact, else-exact-via-else-exact}

pub invariant_of-result : goal.invariant_of-result
invariant_of-result c =
    let is = bounded (value_of c.self.inside) c.args.self.now c.span-span.result c.from.result c.in-Some.room c.args.len c.args.exact
    c.set_bounds-set.result c.as_exact.result c.self.view_is c.span-span.ensures.span c.self.invariant.is_capability c.requires
    c.if-self-span.false c.from.ensures c.in-Some.ensures c.if-len-room.false c.set_bounds-set.ensures.granted
    c.set_bounds-set.ensures.exact c.as_exact.ensures
    (λ exact. elim c.else-exact.branch [
      | else-exact-via-then-exact+else-not-exact w ↦ sym w.exact.ensures ∙ w.if-not-exact.false
      | else-exact-via-else-exact w ↦ absurd (cc (exact, w.if-exact.false))
    ]) in
    record { exact = ap (λ (set : Encoding). set.exact) c.as_exact.ensures; is_capability = is.is_capability }

pub returns-clause-made : goal.returns-clause-made
returns-clause-made c =
    let is = bounded (value_of c.self.inside) c.args.self.now c.span-span.result c.from.result c.in-Some.room c.args.len c.args.exact
    c.set_bounds-set.result c.as_exact.result c.self.view_is c.span-span.ensures.span c.self.invariant.is_capability c.requires
    c.if-self-span.false c.from.ensures c.in-Some.ensures c.if-len-room.false c.set_bounds-set.ensures.granted
    c.set_bounds-set.ensures.exact c.as_exact.ensures
    (λ exact. elim c.else-exact.branch [
      | else-exact-via-then-exact+else-not-exact w ↦ sym w.exact.ensures ∙ w.if-not-exact.false
      | else-exact-via-else-exact w ↦ absurd (cc (exact, w.if-exact.false))
    ]) in
    is.rule

pub returns-clause-monotonic : goal.returns-clause-monotonic
returns-clause-monotonic c =
    let is = bounded (value_of c.self.inside) c.args.self.now c.span-span.result c.from.result c.in-Some.room c.args.len c.args.exact
    c.set_bounds-set.result c.as_exact.result c.self.view_is c.span-span.ensures.span c.self.invariant.is_capability c.requires
    c.if-self-span.false c.from.ensures c.in-Some.ensures c.if-len-room.false c.set_bounds-set.ensures.granted
    c.set_bounds-set.ensures.exact c.as_exact.ensures
    (λ exact. elim c.else-exact.branch [
      | else-exact-via-then-exact+else-not-exact w ↦ sym w.exact.ensures ∙ w.if-not-exact.false
      | else-exact-via-else-exact w ↦ absurd (cc (exact, w.if-exact.false))
    ]) in
    is.grants
