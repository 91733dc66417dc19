-- The values of the values of `replay`, and their refusals.
use Rattle.std.proofs.Common.{◌≡◌, ◌∙◌, ◌<◌, List, [], ◌∷◌, length, nat_lt, true, false, Option, Result, Ok, Err, ap, ap₂, arith, refl, subst, sym}
use Rattle.std.specs.Prelude.{ℕ, ◌==◌, IfOk}
use Rattle.std.specs.List.{after_first, before_first, position_or_len}
use Rattle.cc_word.specs.declared.refusal.Refusal.{Refusal}
use Rattle.cc_word.specs.declared.refusal.Refusal.TheVariants.{Syntax}
use Rattle.cc_bounds.specs.declared.span.Span.{Span}
use Rattle.cc_syntax.specs.Request.{request_in}
use Rattle.cc_values.specs.Values.{both}
use Rattle.cli.specs.declared.invocation.ReplayOutput.{ReplayOutput}
use Rattle.cc_io.specs.CommandOutput.{changed}
use Rattle.cli_replay.specs.ReplayValues.{in_summary, others_in, policies_after, span_in}

-- The two results have both values.
pub parts_of_both : {A B : Type 0} (first : Result A Refusal) (second : Result B Refusal) (found : A × B) → both first second ≡ Ok found
    → (first ≡ Ok found.0) × (second ≡ Ok found.1)
parts_of_both (Ok a) (Ok b) found e = let same : (a, b) ≡ found = cc e in (ap (λ pair. Ok pair.0) same, ap (λ pair. Ok pair.1) same)
parts_of_both (Ok a) (Err fault) found e = cc e
parts_of_both (Err Syntax) second found e = cc e
parts_of_both (Err fault) (Ok b) found e = cc e
parts_of_both (Err fault) (Err other) found e = cc e

-- The changed value of a result that is known.
pub changed_found : {A B : Type 0} (change : A → B) (given found : Result A Refusal) → given ≡ found → changed change found ≡ changed change given
changed_found change given found told = ap (changed change) (sym told)

-- A claim on the value of a result holds for its value.
pub of_value : {A : Type 0} (P : A → Type 0) (result : Result A Refusal) (value : A) → IfOk result P → result ≡ Ok value → P value
of_value P (Ok other) value holds e = let same : other ≡ value = cc e in subst P same holds
of_value P (Err refusal) value holds e = cc e

-- The third of four values.
pub third_of_four : {A B C D : Type 0} (rest : Result (A × B) Refusal) (c : Result C Refusal) (d : Result D Refusal) (found : (A × B) × (C × D))
    → both rest (both c d) ≡ Ok found → c ≡ Ok found.1.0
third_of_four rest c d found told = (parts_of_both c d found.1 (parts_of_both rest (both c d) found told).1).0

-- The last of four values.
pub fourth_of_four : {A B C D : Type 0} (rest : Result (A × B) Refusal) (c : Result C Refusal) (d : Result D Refusal) (found : (A × B) × (C × D))
    → both rest (both c d) ≡ Ok found → d ≡ Ok found.1.1
fourth_of_four rest c d found told = (parts_of_both c d found.1 (parts_of_both rest (both c d) found told).1).1

-- Both results have the refusal of the first, if the second has a value.
pub both_first : {A B : Type 0} (fault : Refusal) (value : B) → both {A = A} {B = B} (Err fault) (Ok value) ≡ Err fault
both_first Syntax value = refl
both_first fault value = refl

-- Both results have the second of two refusals, if the first is not `Syntax`.
pub both_refused : {A B : Type 0} (fault other : Refusal) → (fault ≡ Syntax → ⊥) → both {A = A} {B = B} (Err fault) (Err other) ≡ Err other
both_refused Syntax other not = absurd (not refl)
both_refused fault other not = refl

-- The span of a text with a colon, and the refusal of one without.
pub span_split : (text base size : List ℕ) (result : Result Span Refusal) → base ≡ before_first (λ byte. byte == 58) text → size ≡ after_first (λ byte. byte == 58) text
    → position_or_len (λ byte. byte == 58) text < length text → result ≡ request_in base size → result ≡ span_in text
span_split text base size result b s within is =
    let test : nat_lt (position_or_len (λ byte. byte == 58) text) (length text) ≡ true = grind arith in
    is ∙ ap₂ request_in b s ∙ rw test refl

pub span_unsplit : (text : List ℕ) → position_or_len (λ byte. byte == 58) text ≡ length text → Err Syntax ≡ span_in text
span_unsplit text none =
    let test : nat_lt (position_or_len (λ byte. byte == 58) text) (length text) ≡ false = grind arith in
    rw test refl

-- ---- the policies after the first

pub others_summed : (first : List ℕ) (names : List (List ℕ)) (output : Option ReplayOutput) → 0 < length names
    → others_in (first ∷ names) output ≡ in_summary output (policies_after (Ok []) names)
others_summed first [] output some = absurd (omega (arith, some))
others_summed first (name ∷ names) output some = refl
