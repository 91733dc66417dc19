-- The output of a text and of more text after it, if the first ends in a line feed.
use Rattle.std.proofs.Common.{◌≡◌, ℕ, Bool, true, false, List, [], ◌∷◌, ◌++◌, length, map, refl, sym, ◌∙◌, ap, subst, append_assoc, append-nil, Result, Ok, not, ◌||◌, ◌==◌}
use Rattle.std.specs.Prelude.{◌↔◌}
use Rattle.std.specs.List.{list_any}
use Rattle.std.proofs.lemmas.List.{map-append}
use Rattle.std.proofs.lemmas.List.Folds.{list_any-append}
use Rattle.cc_word.specs.declared.refusal.Refusal.{Refusal}
use Rattle.cc_values.specs.declared.op.Op.{Op}
use Rattle.cc_values.specs.declared.reply.Reply.{Reply}
use Rattle.cc_machine.specs.State.{State}
use Rattle.cc_io.specs.Lines.{lines_of, rest_of, lines_from, rest_from}
use Rattle.cc_syntax.specs.Commands.{operation_of}
use Rattle.cc_syntax.specs.Replies.{is_error}
use Rattle.cc_script.specs.Output.{commands_of, TakesAll, ScriptOutput, replies_text, rest_text}
use Rattle.cc_laws.specs.ScriptParts.{EndsLine, OutputInParts}
use Rattle.cc_io.specs.FrameLaws.{lines_further, rest_further}
use Rattle.cc_script.proofs.ReplyLemmas.{takes_further, replies_text-append}
use Rattle.cc_script.proofs.OutputLemmas.{cut}

-- A text that ends in a line feed has no trailing bytes.
pub feed_ends : (text : List ℕ) → EndsLine (text ++ 10 ∷ [])
feed_ends text = rest_further [] text (10 ∷ [])

module _ (opening : List Op) (text more : List ℕ) (ends : EndsLine text) where
  commands : commands_of opening (text ++ more) ≡ commands_of opening text ++ commands_of [] more
  commands =
      let lines : lines_of (text ++ more) ≡ lines_of text ++ lines_of more =
      lines_further [] text more ∙ ap (λ (rest : List ℕ). lines_of text ++ lines_from rest more) ends in
      ap (λ (l : List (List ℕ)). map Ok opening ++ map operation_of l) lines
      ∙ ap (λ (l : List (Result Op Refusal)). map Ok opening ++ l) (map-append operation_of (lines_of text) (lines_of more))
      ∙ sym (append_assoc (map Ok opening) (map operation_of (lines_of text)) (map operation_of (lines_of more)))

  last : rest_of (text ++ more) ≡ rest_of more
  last = rest_further [] text more ∙ ap (λ (rest : List ℕ). rest_from rest more) ends

  -- The output of both parts.
  written : (first second : List Reply) → replies_text (first ++ second) ++ rest_text (rest_of (text ++ more))
      ≡ (replies_text first ++ rest_text (rest_of text)) ++ (replies_text second ++ rest_text (rest_of more))
  written first second =
      ap (λ (rest : List ℕ). replies_text (first ++ second) ++ rest_text rest) last
      ∙ ap (λ (l : List ℕ). l ++ rest_text (rest_of more)) (replies_text-append first second)
      ∙ append_assoc (replies_text first) (replies_text second) (rest_text (rest_of more))
      ∙ ap (λ (l : List ℕ). l ++ (replies_text second ++ rest_text (rest_of more))) (sym (append-nil (replies_text first)))
      ∙ ap (λ (rest : List ℕ). (replies_text first ++ rest_text rest) ++ (replies_text second ++ rest_text (rest_of more))) (sym ends)

  -- Whether either part has an error.
  error : (first second : List Reply) → (list_any is_error (first ++ second) || not (length (rest_of (text ++ more)) == 0))
      ≡ ((list_any is_error first || not (length (rest_of text) == 0)) || (list_any is_error second || not (length (rest_of more) == 0)))
  error first second =
      ap (λ (rest : List ℕ). list_any is_error (first ++ second) || not (length rest == 0)) last
      ∙ ap (λ (b : Bool). b || not (length (rest_of more) == 0)) (list_any-append is_error first second)
      ∙ grouped (list_any is_error first) (list_any is_error second) (not (length (rest_of more) == 0))
      ∙ ap (λ (rest : List ℕ). (list_any is_error first || not (length rest == 0)) || (list_any is_error second || not (length (rest_of more) == 0))) (sym ends)
    where
      grouped : (a b c : Bool) → ((a || b) || c) ≡ ((a || false) || (b || c))
      grouped true b c = refl
      grouped false b c = refl

  join : (old new : State) (output : List ℕ) (any_error : Bool) → OutputInParts old opening text more output any_error new
      → ScriptOutput old opening (text ++ more) output any_error new
  join old new output any_error parts =
      let a = parts.of_text in
      let b = parts.of_more in
      record {
        replies = a.replies ++ b.replies;
        takes =
            subst (λ (l : List (Result Op Refusal)). TakesAll old l (a.replies ++ b.replies) new) (sym commands)
            (takes_further old parts.mid new (commands_of opening text) (commands_of [] more) a.replies b.replies a.takes b.takes);
        output_is =
            parts.output_is ∙ ap (λ (l : List ℕ). l ++ parts.second) a.output_is
            ∙ ap (λ (l : List ℕ). (replies_text a.replies ++ rest_text (rest_of text)) ++ l) b.output_is
            ∙ sym (written a.replies b.replies);
        error_is =
            parts.error_is ∙ ap (λ (x : Bool). x || parts.second_error) a.error_is
            ∙ ap (λ (x : Bool). (list_any is_error a.replies || not (length (rest_of text) == 0)) || x) b.error_is
            ∙ sym (error a.replies b.replies);
      }

  part : (old new : State) (output : List ℕ) (any_error : Bool) → ScriptOutput old opening (text ++ more) output any_error new
      → OutputInParts old opening text more output any_error new
  part old new output any_error whole =
      let parts =
      cut old new (commands_of opening text) (commands_of [] more) whole.replies
      (subst (λ (l : List (Result Op Refusal)). TakesAll old l whole.replies new) commands whole.takes) in
      record {
        mid = parts.mid;
        first = replies_text parts.first ++ rest_text (rest_of text);
        second = replies_text parts.second ++ rest_text (rest_of more);
        first_error = list_any is_error parts.first || not (length (rest_of text) == 0);
        second_error = list_any is_error parts.second || not (length (rest_of more) == 0);
        of_text = record { replies = parts.first; takes = parts.before; output_is = refl; error_is = refl };
        of_more = record { replies = parts.second; takes = parts.after; output_is = refl; error_is = refl };
        output_is =
            whole.output_is ∙ ap (λ (l : List Reply). replies_text l ++ rest_text (rest_of (text ++ more))) parts.replies_are
            ∙ written parts.first parts.second;
        error_is =
            whole.error_is ∙ ap (λ (l : List Reply). list_any is_error l || not (length (rest_of (text ++ more)) == 0)) parts.replies_are
            ∙ error parts.first parts.second;
      }

-- The output of both is the first one's, followed by the second one's.
pub in_parts : (old new : State) (opening : List Op) (text more output : List ℕ) (any_error : Bool) → EndsLine text
    → ScriptOutput old opening (text ++ more) output any_error new ↔ OutputInParts old opening text more output any_error new
in_parts old new opening text more output any_error ends =
    (part opening text more ends old new output any_error, join opening text more ends old new output any_error)
