use Rattle.std.proofs.Common.{ℕ, ◌≡◌, ◌+◌, ◌-◌, ◌/◌, ◌<◌, List, get_or, length, arith, inl, inr, ap, subst, sym, ◌∙◌}
use Rattle.std.proofs.lemmas.Bool.{cases_lt}
use Rattle.std.proofs.lemmas.List.{get_or_default}
use Rattle.cc_machine.specs.GapHeadsState.{GapHeadsState}
use Rattle.cc_machine.specs.declared.gap_heads.Head.{Head}
use Rattle.cc_machine.proofs.gap_heads.Heads.position.Goals as goal

pub loop-size-preserved : goal.loop-size-preserved
loop-size-preserved c =
    let found = c.loop-size.invariant in
    let some = c.loop-size-test.true in
    let heads : List Head = c.args.self.now.heads in
    let head : Head = c.index.result.now in
    let at : ℕ = c.loop-size.low + c.loop-size.size / 2 - 1 in
    let inside : at < length heads = omega (arith, found.within, some) in
    let read : head ≡ get_or heads at head
    = subst (λ (items : List Head). head ≡ get_or items at head) (ap (λ (s : GapHeadsState). s.heads) c.self.view_is) c.index.ensures in
    let last_at : (d : Head) → (get_or heads at d).last ≡ head.last
    = λ d. ap (λ (h : Head). h.last) (get_or_default heads at d head inside ∙ sym read) in
    elim (cases_lt head.last c.args.address) [
      | inl less ↦
          let step = c.step_if_below-low.ensures.below less in
          let here : c.loop-size.low + c.step_if_below-low.result - 1 ≡ at = omega (arith, step) in
          let end : c.loop-size.low + c.step_if_below-low.result + (c.loop-size.size - c.loop-size.size / 2) ≡ c.loop-size.low + c.loop-size.size
          = omega (arith, step, some) in
          record {
            some = omega (arith, some);
            within = omega (arith, end, found.within);
            below = λ d _. rw here (omega (arith, last_at d, less));
            above = λ d more. rw end (found.above d (omega (arith, end, more)));
          }
      | inr more ↦
          let step = c.step_if_below-low.ensures.above more in
          let same : c.loop-size.low + c.step_if_below-low.result ≡ c.loop-size.low = omega (arith, step) in
          let within : c.loop-size.low + (c.loop-size.size - c.loop-size.size / 2) < length heads = omega (arith, found.within, some) in
          record {
            some = omega (arith, some);
            within = omega (arith, same, found.within);
            below = λ d positive. rw same (found.below d (omega (arith, same, positive)));
            above = λ d _. rw same (omega (
              arith,
              c.requires.order at (c.loop-size.low + (c.loop-size.size - c.loop-size.size / 2)) d (omega (arith, some)) within,
              last_at d,
              more,
            ));
          }
    ]
