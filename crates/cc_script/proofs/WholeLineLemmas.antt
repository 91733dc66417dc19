-- A page of one reply, 193 bytes, has one reply.
use Rattle.std.proofs.Common.{◌≡◌, ℕ, ◌≤◌, ◌+◌, List, [], ◌∷◌, ◌++◌, length, take, refl, sym, ◌∙◌, ap, subst, append-nil, arith, length-append, IfErr, Result, Ok, Err, inl, inr}
use Rattle.cc_word.specs.declared.refusal.Refusal.{Refusal}
use Rattle.cc_values.specs.declared.op.Op.{Op}
use Rattle.cc_values.specs.declared.reply.Reply.{Reply}
use Rattle.cc_machine.specs.State.{State}
use Rattle.cc_io.specs.declared.summary.IoError.{IoError}
use Rattle.cc_io.specs.declared.summary.IoError.TheVariants.{Read, Write}
use Rattle.cc_io.specs.declared.summary.Summary.{Summary}
use Rattle.cc_syntax.specs.Replies.{reply_text}
use Rattle.cc_script.specs.Output.{Takes, TakesAll, with_line_feed, replies_text}
use Rattle.cc_script.specs.Main.{IoState}
use Rattle.cc_script.specs.Running.{RunsSession}
use Rattle.cc_syntax.specs.declared.tally.Tally.{Tally}
use Rattle.cc_script.specs.Failures.{Fails, RunsScript, StopsInReplies, StopsInReply, WritesPart}

-- There are no replies if they have no bytes.
no_replies : (replies : List Reply) → length (replies_text replies) + 193 ≤ 193 → replies ≡ []
no_replies [] fits = refl
no_replies (reply ∷ replies) fits =
    absurd (omega (
      arith,
      fits,
      length-append (with_line_feed (reply_text reply)) (replies_text replies),
      length-append (reply_text reply) (10 ∷ []),
    ))

-- IsOne holds if there is one command, and it gets the reply.
record IsOne (old : State) (commands : List (Result Op Refusal)) (reply : Reply) (new : State) : Type 0 where
  pub command : Result Op Refusal
  pub commands_are : commands ≡ command ∷ []
  pub takes : Takes old command reply new

is_one : (old new : State) (commands : List (Result Op Refusal)) (reply : Reply) → TakesAll old commands (reply ∷ []) new → IsOne old commands reply new
is_one old new [] reply t = absurd t
is_one old new (command ∷ []) reply t =
    record { command = command; commands_are = refl; takes = subst (λ (s : State). Takes old command reply s) (sym t.2) t.1 }
is_one old new (command ∷ other ∷ commands) reply t = absurd t.2

pub one_reply : (old : State) (commands : List (Result Op Refusal)) (Wrote : List ℕ → Type 0) (new : State)
    → StopsInReplies 193 old commands Wrote new → StopsInReply old commands Wrote new
one_reply old commands Wrote new s =
    let page_is : s.page ≡ s.last.last ∷ [] = s.last.replies_are ∙ ap (λ (l : List Reply). l ++ s.last.last ∷ []) (no_replies s.last.first s.last.fits) in
    let one = is_one s.mid new s.on_page s.last.last (subst (λ (l : List Reply). TakesAll s.mid s.on_page l new) page_is s.takes) in
    let text_is : replies_text s.page ≡ with_line_feed (reply_text s.last.last) = ap replies_text page_is ∙ append-nil (with_line_feed (reply_text s.last.last)) in
    record {
      earlier = s.earlier;
      command = one.command;
      later = s.later;
      commands_are = s.commands_are ∙ ap (λ (l : List (Result Op Refusal)). s.earlier ++ (l ++ s.later)) one.commands_are;
      replies = s.replies;
      mid = s.mid;
      before = s.before;
      reply = s.last.last;
      last = one.takes;
      count = s.count;
      within = subst (λ (l : List ℕ). s.count ≤ length l) text_is s.within;
      written = subst (λ (l : List ℕ). Wrote (replies_text s.replies ++ take s.count l)) text_is s.written;
    }

part_of_one : (old : State) (opening : List Op) (text rest : List ℕ) (Wrote : List ℕ → Type 0) (result : Result Summary IoError) (new : State)
    → IfErr result (λ error. WritesPart (StopsInReplies 193) old opening text rest Wrote error new)
    → IfErr result (λ error. WritesPart StopsInReply old opening text rest Wrote error new)
part_of_one old opening text rest Wrote (Ok summary) new w = tt
part_of_one old opening text rest Wrote (Err Read) new w = w
part_of_one old opening text rest Wrote (Err Write) new (inl s, begins) = (inl (one_reply old _ Wrote new s), begins)
part_of_one old opening text rest Wrote (Err Write) new (inr s, begins) = (inr s, begins)

fails_in_one : (opening : List Op) (text : List ℕ) (before : IoState) (result : Result Summary IoError) (after : IoState)
    → Fails (StopsInReplies 193) opening text before result after → Fails StopsInReply opening text before result after
fails_in_one opening text before result after f = record {
  rest = f.rest;
  stays = f.stays;
  part = part_of_one before.machine opening text f.rest _ result after.machine f.part;
}

-- A run on a page of one reply.
pub runs_one : (opening : List Op) (before : IoState) (result : Result Summary IoError) (tally : Tally) (after : IoState)
    → RunsSession 193 opening before result tally after → RunsScript StopsInReply opening before result after
runs_one opening before result tally after r = record { main = r.main; fails = fails_in_one opening r.main.text before result after r.fails }
