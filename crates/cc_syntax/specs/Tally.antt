-- The counts of the replies to a script.
use Rattle.std.specs.Prelude.{ℕ, zero, suc, Bool, true, false, ◌≡◌, ◌==◌, ◌&&◌, ◌+◌, ◌-◌, ◌^◌, List, [], ◌∷◌, count_by, get_or, if◌then◌else◌, length, min}
use Rattle.std.specs.List.{list_any}
use Rattle.cc_word.specs.Refusal.{code_of}
use Rattle.cc_word.specs.declared.refusal.Refusal.{Refusal}
use Rattle.cc_word.specs.declared.refusal.Refusal.TheVariants.{Full}
use Rattle.cc_values.specs.declared.reply.Reply.{Reply}
use Rattle.cc_values.specs.declared.reply.Reply.TheVariants.{Refused}
use Rattle.cc_syntax.specs.Replies.{is_error}
use Rattle.cc_syntax.specs.LineHints.{ends_in_return, has_marked_word}
use Rattle.cc_syntax.specs.declared.tally.Count.{Count}
use Rattle.cc_syntax.specs.declared.tally.Tally.{Tally}

-- A line of a script and the reply to it. `line` is [] for trailing bytes without a line feed.
pub record Exchange : Type 0 where
  pub line : List ℕ
  pub reply : Reply

-- The value of a saturating 64-bit counter after `number` events.
abbrev pub counted : ℕ → ℕ
counted number = min number (2 ^ 64 - 1)

-- `is_refusal` holds if the reply is this refusal.
abbrev pub is_refusal : Refusal → Reply → Bool
is_refusal refusal (Refused other) = code_of refusal == code_of other
is_refusal refusal reply = false

-- The number of the first exchange that passes, or 0 if none does. The first exchange of the list
-- has the number `number`.
abbrev pub first_from : (passes : Exchange → Bool) (number : ℕ) → List Exchange → ℕ
first_from passes number [] = 0
first_from passes number (exchange ∷ exchanges) = if passes exchange then number else first_from passes (suc number) exchanges

-- The number of replies that are this refusal, and the number of the line that got the first of
-- them. The second number is 0 if no reply is, or if a reply to the setup operations is.
abbrev pub count_in : (opening : List Reply) (exchanges : List Exchange) → Refusal → Count
count_in opening exchanges refusal = record {
  refusal = refusal;
  times = counted (count_by (is_refusal refusal) opening + count_by (λ exchange. is_refusal refusal exchange.reply) exchanges);
  first = if list_any (is_refusal refusal) opening then 0 else counted (first_from (λ exchange. is_refusal refusal exchange.reply) 1 exchanges);
}

-- `IsTally` holds if the tally has:
--
-- - the number of the exchanges
-- - for each refusal its count, at the index of its code less 1
-- - the numbers of the first line that is refused as `Full`, and of the first refused lines for
--   which `ends_in_return` and `has_marked_word` hold
pub record IsTally (opening : List Reply) (exchanges : List Exchange) (tally : Tally) : Type 0 where
  pub lines : tally.lines ≡ counted (length exchanges)
  pub counts : (refusal : Refusal) (none : Count) → get_or tally.counts (code_of refusal - 1) none ≡ count_in opening exchanges refusal
  pub full : tally.full ≡ counted (first_from (λ exchange. is_refusal Full exchange.reply) 1 exchanges)
  pub carriage_return : tally.carriage_return ≡ counted (first_from (λ exchange. is_error exchange.reply && ends_in_return exchange.line) 1 exchanges)
  pub marked_word : tally.marked_word ≡ counted (first_from (λ exchange. is_error exchange.reply && has_marked_word exchange.line) 1 exchanges)

-- ---- steps of the proof, which no public clause cites

-- The number of the first line that passes, after one more line: `first`, or if that is 0 the
-- number of the new line, if it passes.
abbrev pub first_after : (first : ℕ) (passes : Bool) (number : ℕ) → ℕ
first_after zero true number = number
first_after zero false number = 0
first_after (suc before) passes number = suc before

-- The count with one more reply, to the line with this number.
abbrev pub count_more : (number : ℕ) → Count → Count
count_more number count = record {
  refusal = count.refusal;
  times = counted (count.times + 1);
  first = if count.times == 0 then number else count.first;
}

-- `HasOneMore` holds if the count of this refusal has one more reply, to the line with this number,
-- and each other count is unchanged.
pub record HasOneMore (refusal : Refusal) (number : ℕ) (old new : List Count) : Type 0 where
  pub more : (other : Refusal) (none : Count) → code_of other ≡ code_of refusal → get_or new (code_of other - 1) none ≡ count_more number (get_or old (code_of other - 1) none)
  pub kept : (other : Refusal) (none : Count) → (code_of other ≡ code_of refusal → ⊥) → get_or new (code_of other - 1) none ≡ get_or old (code_of other - 1) none
