-- Commands, and sinks that stop, that meet the premises of the laws of scripts, and outputs that break them.
use Rattle.std.proofs.Common.{ℕ, Bool, true, false, ◌≡◌, ◌+◌, ◌||◌, List, [], ◌∷◌, ◌++◌, length, Some, Ok, Err, refl, sym, ap, ◌∙◌, arith}
use Rattle.std.specs.Prelude.{take}
use Rattle.std.specs.Fmt.{digits}
use Rattle.std.specs.List.{AllByRecursion, list_any}
use Rattle.std.specs.Io.KnownBytes.{Appends}
use Rattle.cc_word.specs.WordText.{digits_of}
use Rattle.cc_word.specs.declared.refusal.Refusal.TheVariants.{NoSlot, Syntax}
use Rattle.cc_bounds.specs.Span.{span_from}
use Rattle.cc_bounds.specs.declared.align.Align.TheVariants.{One}
use Rattle.cc_values.specs.declared.op.Op.TheVariants.{Flag, Show}
use Rattle.cc_values.specs.declared.reply.Reply.{Reply}
use Rattle.cc_values.specs.declared.reply.Reply.TheVariants.{Made, Refused}
use Rattle.cc_syntax.specs.Planning.{plan_opening}
use Rattle.cc_syntax.specs.Replies.{is_error, reply_text}
use Rattle.cc_machine.specs.State.{State, initial_state}
use Rattle.cc_machine.specs.Run.{IsInAddressSpace, IsReached}
use Rattle.cc_io.specs.Lines.{rest_of}
use Rattle.cc_script.specs.Output.{ScriptOutput, TakesAll, commands_of, replies_text, rest_text}
use Rattle.cc_script.specs.Failures.{BeginsScriptOutput, StopsAfterLines, StopsInReplies}
use Rattle.cc_script.specs.Laws.{TakesAllWithin}
use Rattle.cc_laws.specs.ScriptParts.{EndsLine, OutputInParts}
use Rattle.cc_laws.specs.Witnesses.{is_of_object, with_derived_slot, with_first_object}
use Rattle.cc_laws.proofs.FrameWitnessLemmas.{none-taken}
use Rattle.cc_laws.proofs.WitnessLemmas.{within}

-- ---- what meets the premises

pub reached : (limit : ℕ) → IsReached (initial_state limit)
reached limit = record { limit = limit; ops = []; replies = []; run = refl }

pub setup : AllByRecursion IsInAddressSpace (plan_opening 0x10000 65536 One)
setup = (omega arith, _)

pub takes : (word : ℕ) × TakesAllWithin is_of_object with_first_object with_first_object (Ok (Flag 1 true) ∷ Err Syntax ∷ [])
    (Made 2 word (span_from 0 16) ∷ Refused Syntax ∷ []) with_derived_slot
takes = (within.0, (within.1.0, within.1.1, (within.1.0, (refl, refl), within.1.2)))

abbrev page : List Reply
page = Refused NoSlot ∷ []

page-length : length (replies_text page) ≡ 13
unfolding reply_text digits_of digits
page-length = refl

page-byte : take 1 (replies_text page) ≡ 101 ∷ []
unfolding reply_text digits_of digits
page-byte = refl

pub in_replies : StopsInReplies 193 (initial_state 8) (commands_of (Show 9 ∷ []) []) (Appends (Some []) (Some (101 ∷ []))) (initial_state 8)
in_replies = record {
  earlier = [];
  on_page = Ok (Show 9) ∷ [];
  later = [];
  commands_are = refl;
  replies = [];
  mid = initial_state 8;
  before = refl;
  page = page;
  takes = (initial_state 8, (refl, refl), refl);
  last = record { first = []; last = Refused NoSlot; replies_are = refl; fits = omega arith };
  fits = omega (arith, page-length);
  count = 1;
  within = omega (arith, page-length);
  written = sym page-byte;
}

rest-length : length (rest_text (rest_of (120 ∷ []))) ≡ 19
unfolding digits
rest-length = refl

rest-byte : take 1 (rest_text (rest_of (120 ∷ []))) ≡ 101 ∷ []
unfolding digits
rest-byte = refl

pub after_lines : (old : State) → StopsAfterLines old [] (120 ∷ []) (Appends (Some []) (Some (101 ∷ []))) old
after_lines old = record {
  replies = [];
  takes = refl;
  count = 1;
  within = omega (arith, rest-length);
  written = sym rest-byte;
}

-- ---- what breaks the claims

-- no script has no output, no error and no step
record IsNothing (old : State) (output : List ℕ) (any_error : Bool) (new : State) : Type 0 where
  output_none : output ≡ []
  error_none : any_error ≡ false
  stays : new ≡ old

nothing : (old new : State) (output : List ℕ) (any_error : Bool) → ScriptOutput old [] [] output any_error new
    → IsNothing old output any_error new
nothing old new output any_error said = by_replies said.replies said.takes said.output_is said.error_is
  where
    by_replies : (replies : List Reply) → TakesAll old [] replies new → output ≡ replies_text replies ++ []
        → any_error ≡ (list_any is_error replies || false) → IsNothing old output any_error new
    by_replies [] takes output_is error_is = record { output_none = output_is; error_none = error_is; stays = takes }
    by_replies (reply ∷ replies) takes output_is error_is = absurd takes

pub bytes-break : (old new : State) → ¬ OutputInParts old [] [] [] (10 ∷ []) false new
bytes-break old new parts =
    let one = nothing old parts.mid parts.first parts.first_error parts.of_text in
    let two = nothing parts.mid new parts.second parts.second_error parts.of_more in
    let same : 10 ∷ [] ≡ [] = parts.output_is ∙ (λ i. one.output_none i ++ two.output_none i) in
    let count : 1 ≡ 0 = ap (λ (l : List ℕ). length l) same in
    absurd (omega (arith, count))

pub error-breaks : (old new : State) → ¬ OutputInParts old [] [] [] [] true new
error-breaks old new parts =
    let one = nothing old parts.mid parts.first parts.first_error parts.of_text in
    let two = nothing parts.mid new parts.second parts.second_error parts.of_more in
    let same : true ≡ false = parts.error_is ∙ (λ i. one.error_none i || two.error_none i) in
    cc

pub state-breaks : (old : State) → ¬ OutputInParts old [] [] [] [] false (record old { limit = old.limit + 1 })
state-breaks old parts =
    let one = nothing old parts.mid parts.first parts.first_error parts.of_text in
    let two = nothing parts.mid (record old { limit = old.limit + 1 }) parts.second parts.second_error parts.of_more in
    let same : old.limit + 1 ≡ old.limit = ap (λ (s : State). s.limit) (two.stays ∙ one.stays) in
    absurd (omega (arith, same))

pub begins-break : (old : State) → ¬ BeginsScriptOutput old [] [] (Appends (Some []) (Some (10 ∷ [])))
begins-break old begins =
    let prefix = begins [] false old (record { replies = []; takes = refl; output_is = refl; error_is = refl }) in
    let same : 10 ∷ [] ≡ [] = prefix.1 ∙ none-taken prefix.0 in
    let count : 1 ≡ 0 = ap (λ (l : List ℕ). length l) same in
    absurd (omega (arith, count))

pub line-breaks : ¬ EndsLine (10 ∷ 120 ∷ [])
line-breaks ends = let count : 1 ≡ 0 = ap (λ (l : List ℕ). length l) ends in absurd (omega (arith, count))
