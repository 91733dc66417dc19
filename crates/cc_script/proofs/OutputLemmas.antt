-- A script has one output. If the sink failed, the bytes taken are a prefix of it.
use Rattle.std.proofs.Common.{◌≡◌, ℕ, Bool, ◌+◌, List, [], ◌∷◌, ◌++◌, length, take, refl, sym, ◌∙◌, ap, subst, append_assoc, Option, Result, Ok, Err, inl, inr, not, ◌||◌, ◌==◌, ◌⊎◌}
use Rattle.std.proofs.lemmas.List.{take-append-le}
use Rattle.std.proofs.Math.Seq.{take-append-add}
use Rattle.std.specs.Io.KnownBytes.{Appends}
use Rattle.std.specs.List.{list_any}
use Rattle.cc_word.specs.declared.refusal.Refusal.{Refusal}
use Rattle.cc_values.specs.declared.op.Op.{Op}
use Rattle.cc_values.specs.declared.reply.Reply.{Reply}
use Rattle.cc_machine.specs.State.{State}
use Rattle.cc_machine.proofs.OutcomeLemmas.{Step-one, IsSameOutcome, IsSameRun}
use Rattle.cc_io.specs.Lines.{rest_of}
use Rattle.cc_syntax.specs.Replies.{is_error}
use Rattle.cc_script.specs.Output.{commands_of, Takes, TakesAll, ScriptOutput, replies_text, rest_text}
use Rattle.cc_script.specs.Failures.{StopsInReplies, StopsAfterLines, BeginsScriptOutput}
use Rattle.cc_script.proofs.ReplyLemmas.{takes_further, replies_text-append}

-- ---- one output

takes-one : (old new new' : State) (command : Result Op Refusal) (reply reply' : Reply)
    → Takes old command reply new → Takes old command reply' new' → IsSameOutcome reply reply' new new'
takes-one old new new' (Ok op) reply reply' one other = Step-one old new new' op reply reply' one other
takes-one old new new' (Err refusal) reply reply' one other =
    record { reply_same = one.0 ∙ sym other.0; state_same = one.1 ∙ sym other.1 }

-- Commands that are taken from one state get the same replies, and lead to the same state.
all-one : (old new new' : State) (commands : List (Result Op Refusal)) (replies replies' : List Reply)
    → TakesAll old commands replies new → TakesAll old commands replies' new' → IsSameRun replies replies' new new'
all-one old new new' [] [] [] one other = record { replies_same = refl; state_same = one ∙ sym other }
all-one old new new' [] [] (r ∷ rs) one other = absurd other
all-one old new new' [] (r ∷ rs) replies' one other = absurd one
all-one old new new' (command ∷ commands) [] replies' one other = absurd one
all-one old new new' (command ∷ commands) (r ∷ rs) [] one other = absurd other
all-one old new new' (command ∷ commands) (r ∷ rs) (s ∷ ss) one other =
    let first = takes-one old one.0 other.0 command r s one.1 other.1 in
    let P : State → Type 0 = λ mid. TakesAll mid commands ss new' in
    let rest = all-one one.0 new new' commands rs ss one.2 (subst P (sym first.state_same) other.2) in
    record {
      replies_same =
          ap (λ (reply : Reply). reply ∷ rs) first.reply_same ∙ ap (λ (list : List Reply). s ∷ list) rest.replies_same;
      state_same = rest.state_same;
    }

pub one_output : (old new other : State) (opening : List Op) (text output other_output : List ℕ) (any_error other_error : Bool)
    → ScriptOutput old opening text output any_error new → ScriptOutput old opening text other_output other_error other
    → (output ≡ other_output) × (any_error ≡ other_error) × (new ≡ other)
one_output old new other opening text output other_output any_error other_error one two =
    let same = all-one old new other (commands_of opening text) one.replies two.replies one.takes two.takes in (
      one.output_is ∙ ap (λ (l : List Reply). replies_text l ++ rest_text (rest_of text)) same.replies_same ∙ sym two.output_is,
      one.error_is ∙ ap (λ (l : List Reply). list_any is_error l || not (length (rest_of text) == 0)) same.replies_same
          ∙ sym two.error_is,
      same.state_same,
    )

-- ---- a prefix of the output

-- IsCut holds if a run of commands is cut in two: the front leads to a state in between, and the
-- back leads on from there.
pub record IsCut (old end : State) (front back : List (Result Op Refusal)) (replies : List Reply) : Type 0 where
  pub first : List Reply
  pub second : List Reply
  pub replies_are : replies ≡ first ++ second
  pub mid : State
  pub before : TakesAll old front first mid
  pub after : TakesAll mid back second end

pub cut : (old end : State) (front back : List (Result Op Refusal)) (replies : List Reply)
    → TakesAll old (front ++ back) replies end → IsCut old end front back replies
cut old end [] back replies taken =
    record { first = []; second = replies; replies_are = refl; mid = old; before = refl; after = taken }
cut old end (command ∷ front) back [] taken = absurd taken
cut old end (command ∷ front) back (reply ∷ replies) taken =
    let rest = cut taken.0 end front back replies taken.2 in
    record {
      first = reply ∷ rest.first;
      second = rest.second;
      replies_are = ap (λ (l : List Reply). reply ∷ l) rest.replies_are;
      mid = rest.mid;
      before = (taken.0, taken.1, rest.before);
      after = rest.after;
    }

-- The output, if the replies to the first of the commands are known.
output_from : (old new end : State) (opening : List Op) (text output : List ℕ) (any_error : Bool)
    (earlier later : List (Result Op Refusal)) (replies : List Reply)
    → commands_of opening text ≡ earlier ++ later → TakesAll old earlier replies new → ScriptOutput old opening text output any_error end
    → (back : List ℕ) × (output ≡ replies_text replies ++ back)
output_from old new end opening text output any_error earlier later replies commands_are before whole =
    let parts = cut old end earlier later whole.replies (subst (λ l. TakesAll old l whole.replies end) commands_are whole.takes) in
    let same = all-one old parts.mid new earlier parts.first replies parts.before before in
    let back : List ℕ = replies_text parts.second ++ rest_text (rest_of text) in (
      back,
      whole.output_is
          ∙ ap (λ (l : List Reply). replies_text l ++ rest_text (rest_of text))
          (parts.replies_are ∙ ap (λ (l : List Reply). l ++ parts.second) same.replies_same)
          ∙ ap (λ (l : List ℕ). l ++ rest_text (rest_of text)) (replies_text-append replies parts.second)
          ∙ append_assoc (replies_text replies) (replies_text parts.second) (rest_text (rest_of text)),
    )

-- The bytes taken are a prefix of the output if replies were collected on a page.
begins_in_replies : (room : ℕ) (old new end : State) (t u : Option (List ℕ)) (opening : List Op) (text output : List ℕ) (any_error : Bool)
    → StopsInReplies room old (commands_of opening text) (Appends t u) new → ScriptOutput old opening text output any_error end
    → (count : ℕ) × Appends t u (take count output)
begins_in_replies room old new end t u opening text output any_error s whole =
    let page : List ℕ = replies_text s.page in
    let front : List ℕ = replies_text s.replies in
    let commands_are = s.commands_are ∙ sym (append_assoc s.earlier s.on_page s.later) in
    let before = takes_further old s.mid new s.earlier s.on_page s.replies s.page s.before s.takes in
    let is = output_from old new end opening text output any_error (s.earlier ++ s.on_page) s.later (s.replies ++ s.page) commands_are before whole in
    let split : output ≡ front ++ (page ++ is.0) =
    is.1 ∙ ap (λ (l : List ℕ). l ++ is.0) (replies_text-append s.replies s.page) ∙ append_assoc front page is.0 in
    let part : take (length front + s.count) output ≡ front ++ take s.count page =
    ap (take (length front + s.count)) split ∙ take-append-add front (page ++ is.0) s.count
    ∙ ap (λ (l : List ℕ). front ++ l) (take-append-le s.count page is.0 s.within) in
    (length front + s.count, subst (λ (l : List ℕ). Appends t u l) (sym part) s.written)

begins_after_lines : (old new end : State) (t u : Option (List ℕ)) (opening : List Op) (text output : List ℕ) (any_error : Bool)
    → StopsAfterLines old opening text (Appends t u) new → ScriptOutput old opening text output any_error end
    → (count : ℕ) × Appends t u (take count output)
begins_after_lines old new end t u opening text output any_error s whole =
    let rest : List ℕ = rest_text (rest_of text) in
    let same = all-one old end new (commands_of opening text) whole.replies s.replies whole.takes s.takes in
    let is : output ≡ replies_text s.replies ++ rest =
    whole.output_is ∙ ap (λ (l : List Reply). replies_text l ++ rest) same.replies_same in
    let part : take (length (replies_text s.replies) + s.count) output ≡ replies_text s.replies ++ take s.count rest =
    ap (take (length (replies_text s.replies) + s.count)) is ∙ take-append-add (replies_text s.replies) rest s.count in
    (length (replies_text s.replies) + s.count, subst (λ (l : List ℕ). Appends t u l) (sym part) s.written)

pub stopped_begins : (room : ℕ) (old new : State) (opening : List Op) (text : List ℕ) (t u : Option (List ℕ))
    → StopsInReplies room old (commands_of opening text) (Appends t u) new ⊎ StopsAfterLines old opening text (Appends t u) new → BeginsScriptOutput old opening text (Appends t u)
stopped_begins room old new opening text t u (inl s) output any_error end whole =
    begins_in_replies room old new end t u opening text output any_error s whole
stopped_begins room old new opening text t u (inr s) output any_error end whole =
    begins_after_lines old new end t u opening text output any_error s whole
