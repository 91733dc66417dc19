-- The lines of operations, one after another.
use Rattle.std.proofs.Common.{ℕ, ◌≡◌, List, [], ◌∷◌, ◌++◌, refl, sym, ap, ◌∙◌}
use Rattle.std.proofs.lemmas.List.{append_assoc}
use Rattle.cc_values.specs.declared.op.Op.{Op}
use Rattle.cc_replay.specs.Operations.{operation_line, operation_lines}

pub lines_joined : (ops others : List Op) → operation_lines (ops ++ others) ≡ operation_lines ops ++ operation_lines others
lines_joined [] others = refl
lines_joined (op ∷ ops) others =
    ap (λ (l : List ℕ). operation_line op ++ l) (lines_joined ops others)
    ∙ sym (append_assoc (operation_line op) (operation_lines ops) (operation_lines others))

pushed : (page next last : List ℕ) (ops others : List Op) → next ≡ page ++ operation_lines ops
    → last ≡ next ++ operation_lines others → last ≡ page ++ operation_lines (ops ++ others)
pushed page next last ops others one other =
    other ∙ ap (λ (l : List ℕ). l ++ operation_lines others) one
    ∙ append_assoc page (operation_lines ops) (operation_lines others)
    ∙ ap (λ (l : List ℕ). page ++ l) (sym (lines_joined ops others))

-- five parts
pub deeds_pushed : (page one two three four five : List ℕ) (a b c d e : List Op)
    → one ≡ page ++ operation_lines a → two ≡ one ++ operation_lines b → three ≡ two ++ operation_lines c
    → four ≡ three ++ operation_lines d → five ≡ four ++ operation_lines e
    → five ≡ page ++ operation_lines (a ++ (b ++ (c ++ (d ++ e))))
deeds_pushed page one two three four five a b c d e is_one is_two is_three is_four is_five =
    pushed page one five a (b ++ (c ++ (d ++ e))) is_one
    (pushed one two five b (c ++ (d ++ e)) is_two
    (pushed two three five c (d ++ e) is_three (pushed three four five d e is_four is_five)))
