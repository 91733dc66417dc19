use Rattle.std.proofs.Common.{ℕ, ◌≡◌, ◌+◌, ◌-◌, ◌/◌, ◌<◌, List, get_or, length, arith, inl, inr, ap, subst, sym, ◌∙◌}
use Rattle.std.proofs.lemmas.Bool.{cases_lt}
use Rattle.std.proofs.lemmas.List.{get_or_default}
use Rattle.cc_bounds.specs.declared.span.Span.{Span}
use Rattle.cc_machine.proofs.GapFitLemmas.{bases_rise}
use Rattle.cc_machine.proofs.gap_block.GapBlock.position.Goals as goal

pub loop-size-preserved : goal.loop-size-preserved
loop-size-preserved c =
    let found = c.loop-size.invariant in
    let some = c.loop-size-test.true in
    let gaps : List Span = c.args.self.now in
    let gap : Span = c.index-deref-low.result in
    let at : ℕ = c.loop-size.low + c.loop-size.size / 2 in
    let inside : at < length gaps = omega (arith, found.within, some) in
    let read : gap ≡ get_or gaps at gap
    = subst (λ (items : List Span). gap ≡ get_or items at gap) (c.deref.ensures.0 ∙ c.self.view_is) c.index-deref-low.is in
    let base_at : (d : Span) → (get_or gaps at d).base ≡ gap.base
    = λ d. ap (λ (s : Span). s.base) (get_or_default gaps at d gap inside ∙ sym read) in
    elim (cases_lt c.base.result c.args.address) [
      | inl less ↦
          let step = c.step_if_below-low.ensures.below less in
          let here : c.loop-size.low + c.step_if_below-low.result ≡ at = omega (arith, step) in
          let end : c.loop-size.low + c.step_if_below-low.result + (c.loop-size.size - c.loop-size.size / 2) ≡ c.loop-size.low + c.loop-size.size
          = omega (arith, step, some) in
          record {
            some = omega (arith, some);
            within = omega (arith, end, found.within);
            below = λ d _. rw here (omega (arith, base_at d, c.base.ensures, less));
            above = λ d more. rw end (found.above d (omega (arith, end, more)));
          }
      | inr more ↦
          let step = c.step_if_below-low.ensures.above more in
          let same : c.loop-size.low + c.step_if_below-low.result ≡ c.loop-size.low = omega (arith, step) in
          let within : c.loop-size.low + (c.loop-size.size - c.loop-size.size / 2) < length gaps = omega (arith, found.within, some) in
          record {
            some = omega (arith, some);
            within = omega (arith, same, found.within);
            below = λ d positive. rw same (found.below d (omega (arith, same, positive)));
            above = λ d _. rw same (omega (
              arith,
              bases_rise gaps at (c.loop-size.low + (c.loop-size.size - c.loop-size.size / 2)) d c.requires.gaps
                  (omega (arith, some)) within,
              base_at d,
              c.base.ensures,
              more,
            ));
          }
    ]
