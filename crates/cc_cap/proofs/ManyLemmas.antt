-- One more result.
use Rattle.std.proofs.Common.{ℕ, List, ◌<◌, ◌≢◌, ◌+◌, arith, below_more, get_or, get_or-set_other, get_or-set_same, length, set}
use Rattle.cc_cap.specs.Many.{AnswersEach}

-- what holds of the results below i, and of a new result at i, holds below i + 1 once that is
-- written
pub answers_more : {A : Type 0} (IsAnswer : ℕ → A → Type 0) (answers : List A) (i : ℕ) (answer : A) → i < length answers → AnswersEach IsAnswer answers i → IsAnswer i answer
    → AnswersEach IsAnswer (set answers i answer) (i + 1)
answers_more {A} IsAnswer answers i answer fits before here k other below =
    below_more (λ (k : ℕ). (other : A) → IsAnswer k (get_or (set answers i answer) k other)) i
    (λ k h other. let ne : k ≢ i = omega arith in rw get_or-set_other (before k other h)) (λ other. rw get_or-set_same here) k below other
