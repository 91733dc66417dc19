-- One more label of an axis.
use Rattle.std.proofs.Common.{◌≡◌, ℕ, suc, ◌+◌, ◌*◌, ◌^◌, ◌++◌, arith, refl, subst}
use Rattle.cc_heap.specs.Scale.{Scale, down_to}
use Rattle.cc_heap.specs.ChartDrawing.{byte_label, byte_labels, event_label, event_labels}

next_is : (n : ℕ) → suc n ≡ n + 1
next_is n = omega arith

pub one_more_byte_label : (scale : Scale) (power steps : ℕ)
    → byte_labels scale power (steps + 1)
    ≡ byte_labels scale power steps ++ byte_label power (down_to scale ((steps + 1) * 2 ^ power)) (steps + 1)
one_more_byte_label scale power steps =
    subst (λ (n : ℕ). byte_labels scale power n ≡ byte_labels scale power steps ++ byte_label power (down_to scale (n * 2 ^ power)) n)
    (next_is steps) refl

pub one_more_event_label : (scale : Scale) (step steps : ℕ)
    → event_labels scale step (steps + 1) ≡ event_labels scale step steps ++ event_label scale step ((steps + 1) * step)
one_more_event_label scale step steps =
    subst (λ (n : ℕ). event_labels scale step n ≡ event_labels scale step steps ++ event_label scale step (n * step)) (next_is steps) refl
