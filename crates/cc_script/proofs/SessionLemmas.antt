-- The output and the counts of a session, from the output of the engine of cc_io.
use Rattle.std.proofs.Common.{◌≡◌, ℕ, ◌<◌, ◌≤◌, ◌+◌, List, [], ◌∷◌, ◌++◌, length, take, drop, map, refl, sym, ◌∙◌, ap, subst, append_assoc, append-nil, arith, Bool, false, ◌||◌, Option}
use Rattle.std.proofs.Common.{OnOk, Result, Ok, Err, slice_index_or, inl, inr}
use Rattle.std.proofs.Math.Bool.{or-false}
use Rattle.std.proofs.lemmas.List.{map-append, take_all, take_more, take-append-drop}
use Rattle.std.proofs.lemmas.List.Folds.{list_any-append}
use Rattle.std.specs.Io.KnownBytes.{Appends}
use Rattle.std.specs.List.{list_any}
use Rattle.cc_word.specs.declared.refusal.Refusal.{Refusal}
use Rattle.cc_values.specs.declared.op.Op.{Op}
use Rattle.cc_values.specs.declared.reply.Reply.{Reply}
use Rattle.cc_machine.specs.State.{State}
use Rattle.cc_machine.specs.Step.{Step}
use Rattle.cc_io.proofs.ServingLemmas.{runs_through}
use Rattle.cc_io.specs.Answers.{Answer, AnswersAll, EndsWith, seen}
use Rattle.cc_io.specs.Correct.{Pumps, PumpsText}
use Rattle.cc_io.specs.Frames.{lines}
use Rattle.cc_io.specs.Lines.{lines_of, rest_of}
use Rattle.cc_io.specs.declared.summary.IoError.{IoError}
use Rattle.cc_io.specs.declared.summary.IoError.TheVariants.{Read, Write}
use Rattle.cc_io.specs.declared.summary.Summary.{Summary}
use Rattle.cc_io.proofs.DeviceLemmas.{appends_none, appends_twice}
use Rattle.cc_syntax.specs.Commands.{operation_of}
use Rattle.cc_script.specs.Output.{Takes, TakesAll, with_line_feed, replies_text}
use Rattle.cc_syntax.specs.Replies.{reply_text, is_error}
use Rattle.cc_script.proofs.ReplyLemmas.{takes_further, replies_text-append}
use Rattle.cc_script.proofs.RunningLemmas.{all_opened, io, joined, pumps_script, runs_script, start_enough, stops_waiting}
use Rattle.cc_script.specs.Failures.{StopsInReplies}
use Rattle.cc_script.specs.Running.{CountsRun, Opens, RunsSession, exchanges_of, rest_exchange}
use Rattle.cc_machine.specs.Run.{IsReached}
use Rattle.cc_script.specs.Session.{AnswersLine, RefusesScriptRest, HasSameMachine}
use Rattle.cc_script.specs.declared.session.Session.{Session}
use Rattle.cc_syntax.specs.declared.tally.Tally.{Tally}
use Rattle.cc_io.specs.Devices.{TakesPrefix}
use Rattle.cc_io.specs.Engine.{PassesPage}
use Rattle.cc_syntax.specs.Tally.{Exchange, IsTally}

-- ---- the setup operations

no_bytes : {A : Type 0} (l : List ℕ) → l ≡ [] → 0 < length l → A
no_bytes {A} l none some = absurd (omega (arith, some, ap (λ (x : List ℕ). length x) none))

pub opens_none : (room : ℕ) (old : State) (tally : Tally) (page : List ℕ) (t : Option (List ℕ)) → page ≡ [] → Opens room old tally [] page t t false old tally
opens_none room old tally page t none = record {
  earlier = [];
  on_page = [];
  ops_are = refl;
  replies = [];
  mid = old;
  before = refl;
  written = appends_none t;
  waiting = [];
  takes = refl;
  page_is = none;
  fits = omega (arith, ap (λ (x : List ℕ). length x) none);
  last = λ some. no_bytes page none some;
  error_is = refl;
  counted = λ is. is;
}

-- The page is written, if it was, before the next operation.
pub opens_passed : (room : ℕ) (old a : State) (tally counts : Tally) (ops : List Op) (page page_now : List ℕ) (t u v : Option (List ℕ)) (e : Bool)
    → Opens room old tally ops page t u e a counts → PassesPage u v page page_now → Opens room old tally ops page_now t v e a counts
unfolding all_opened
opens_passed room old a tally counts ops page page_now t u v e o (inl same) =
    subst (λ (b : Option (List ℕ)). Opens room old tally ops page_now t b e a counts) (sym same.0)
    (subst (λ (l : List ℕ). Opens room old tally ops l t u e a counts) (sym same.1) o)
opens_passed room old a tally counts ops page page_now t u v e o (inr passed) =
    let all : List Reply = o.replies ++ o.waiting in
    let opened = all_opened room old tally ops page t u e a counts o in
    record {
      earlier = ops;
      on_page = [];
      ops_are = sym (append-nil ops);
      replies = all;
      mid = a;
      before = opened.takes;
      written = subst (λ (l : List ℕ). Appends t v l) (sym opened.text_is) (appends_twice t u v (replies_text o.replies) page o.written passed.0);
      waiting = [];
      takes = refl;
      page_is = passed.1;
      fits = omega (arith, ap (λ (x : List ℕ). length x) passed.1);
      last = λ some. no_bytes page_now passed.1 some;
      error_is = o.error_is ∙ ap (list_any is_error) (sym (append-nil all));
      counted = λ fresh. subst (λ (l : List Reply). IsTally l [] counts) (sym (append-nil all)) (o.counted fresh);
    }

next_taken : (ops : List Op) (i : ℕ) (op : Op) → i < length ops → op ≡ slice_index_or ops i op → take (i + 1) ops ≡ take i ops ++ op ∷ []
next_taken ops i op within is = take_more ops i op within ∙ ap (λ (o : Op). take i ops ++ o ∷ []) (sym is)

pub opens_more : (room : ℕ) (old a b : State) (tally counts counts_now : Tally) (ops : List Op) (i : ℕ) (op : Op) (page page_now : List ℕ) (t u : Option (List ℕ)) (e f : Bool)
    → Opens room old tally (take i ops) page t u e a counts → i < length ops → op ≡ slice_index_or ops i op → length page + 193 ≤ room
    → (reply : Reply) → Step a op reply b → page_now ≡ page ++ with_line_feed (reply_text reply) → length page_now ≤ length page + 193 → f ≡ (e || is_error reply)
    → ((opening : List Reply) → IsTally opening [] counts → IsTally (opening ++ reply ∷ []) [] counts_now)
    → Opens room old tally (take (i + 1) ops) page_now t u f b counts_now
opens_more room old a b tally counts counts_now ops i op page page_now t u e f o within is space reply step page_is fits error_is counted = record {
  earlier = o.earlier;
  on_page = o.on_page ++ op ∷ [];
  ops_are = next_taken ops i op within is ∙ ap (λ (l : List Op). l ++ op ∷ []) o.ops_are ∙ append_assoc o.earlier o.on_page (op ∷ []);
  replies = o.replies;
  mid = o.mid;
  before = o.before;
  written = o.written;
  waiting = o.waiting ++ reply ∷ [];
  takes = rw (map-append {B = Result Op Refusal} Ok o.on_page (op ∷ []))
      (takes_further o.mid a b (map Ok o.on_page) (Ok op ∷ []) o.waiting (reply ∷ []) o.takes (b, step, refl));
  page_is =
      page_is ∙ ap (λ (l : List ℕ). l ++ with_line_feed (reply_text reply)) o.page_is
      ∙ ap (λ (l : List ℕ). replies_text o.waiting ++ l) (sym (append-nil (with_line_feed (reply_text reply))))
      ∙ sym (replies_text-append o.waiting (reply ∷ []));
  fits = omega (arith, space, fits);
  last = λ some. record {
    first = o.waiting;
    last = reply;
    replies_are = refl;
    fits = subst (λ (l : List ℕ). length l + 193 ≤ room) o.page_is space;
  };
  error_is =
      error_is
      ∙ rw (← append_assoc o.replies o.waiting (reply ∷ []), list_any-append is_error (o.replies ++ o.waiting) (reply ∷ []), ← o.error_is, or-false (is_error reply)) refl;
  counted = λ fresh. subst (λ (l : List Reply). IsTally l [] counts_now) (append_assoc o.replies o.waiting (reply ∷ [])) (counted (o.replies ++ o.waiting) (o.counted fresh));
}

-- The sink failed in the replies on the page.
pub opens_stops : (room : ℕ) (old a : State) (tally counts : Tally) (ops : List Op) (i : ℕ) (page : List ℕ) (t u v : Option (List ℕ)) (e : Bool)
    → Opens room old tally (take i ops) page t u e a counts → 0 < length page → TakesPrefix u v page
    → StopsInReplies room old (map Ok ops) (Appends t v) a
opens_stops room old a tally counts ops i page t u v e o some q =
    subst (λ (l : List (Result Op Refusal)). StopsInReplies room old l (Appends t v) a)
    (sym (map-append {B = Result Op Refusal} Ok (take i ops) (drop i ops)) ∙ ap (λ (l : List Op). map {B = Result Op Refusal} Ok l) (take-append-drop i ops))
    (stops_waiting room old tally (take i ops) page t u v e a counts (map Ok (drop i ops)) o some q)

pub opens_whole : (room : ℕ) (old a : State) (tally counts : Tally) (ops : List Op) (i : ℕ) (page : List ℕ) (t u : Option (List ℕ)) (e : Bool)
    → Opens room old tally (take i ops) page t u e a counts → length ops ≤ i → Opens room old tally ops page t u e a counts
opens_whole room old a tally counts ops i page t u e o past = subst (λ (l : List Op). Opens room old tally l page t u e a counts) (take_all i ops past) o

-- ---- the lines and the trailing bytes

record Counted (a b : Session) (opening : List Reply) (before : List Exchange) (entries : List (List ℕ)) : Type 0 where
  pub replies : List Reply
  pub takes : TakesAll a.machine.now (map operation_of entries) replies b.machine.now
  pub is_tally : IsTally opening (before ++ exchanges_of entries replies) b.tally

counted_all : (a b : Session) (opening : List Reply) (before : List Exchange) (entries : List (List ℕ)) (answers : List Answer)
    → AnswersAll AnswersLine a (seen entries) answers b → IsTally opening before a.tally → Counted a b opening before entries
counted_all a b opening before [] [] t is = record {
  replies = [];
  takes = ap (λ (session : Session). session.machine.now) t;
  is_tally = subst (λ (l : List Exchange). IsTally opening l b.tally) (sym (append-nil before))
      (subst (λ (session : Session). IsTally opening before session.tally) (sym t) is);
}
counted_all a b opening before [] (answer ∷ answers) t is = absurd t
counted_all a b opening before (line ∷ entries) [] t is = absurd t
counted_all a b opening before (line ∷ entries) (answer ∷ answers) t is =
    let one = t.1 in
    let exchange : Exchange = record { line = line; reply = one.reply } in
    let p = counted_all t.0 b opening (before ++ exchange ∷ []) entries answers t.2 (t.1.counted opening before line refl is) in
    record {
      replies = one.reply ∷ p.replies;
      takes = (t.0.machine.now, subst (λ (command : Result Op Refusal). Takes a.machine.now command one.reply t.0.machine.now) (start_enough line) one.takes, p.takes);
      is_tally = subst (λ (l : List Exchange). IsTally opening l b.tally) (append_assoc before (exchange ∷ []) (exchanges_of entries p.replies)) p.is_tally;
    }

counted_rest : (mid b : Session) (opening : List Reply) (before : List Exchange) (rest : List ℕ) (ending : Answer)
    → EndsWith RefusesScriptRest mid (take 129 rest) ending b → IsTally opening before mid.tally
    → (b.machine.now ≡ mid.machine.now) × IsTally opening (before ++ rest_exchange rest) b.tally
counted_rest mid b opening before [] ending e is = (
  ap (λ (session : Session). session.machine.now) e.2,
  subst (λ (l : List Exchange). IsTally opening l b.tally) (sym (append-nil before))
      (subst (λ (session : Session). IsTally opening before session.tally) (sym e.2) is),
)
counted_rest mid b opening before (byte ∷ rest) ending e is = (e.stays, e.counted opening before is)

-- ---- the same machine is borrowed at the end

same_all : (a b : Session) (entries : List (List ℕ)) (all : List Answer) → AnswersAll AnswersLine a entries all b → HasSameMachine a b
same_all a b [] [] t = ap (λ (session : Session). session.machine.ghost_name) t
same_all a b (entry ∷ entries) (answer ∷ all) t = same_all t.0 b entries all t.2 ∙ t.1.same
same_all a b [] (answer ∷ all) t = absurd t
same_all a b (entry ∷ entries) [] t = absurd t

same_end : (a b : Session) (rest : List ℕ) (ending : Answer) → EndsWith RefusesScriptRest a rest ending b → HasSameMachine a b
same_end a b [] ending e = ap (λ (session : Session). session.machine.ghost_name) e.2
same_end a b (byte ∷ rest) ending e = e.same

same_text : (room : ℕ) (a b : Session) (pending text : List ℕ) (left t u : Option (List ℕ)) (result : Result Summary IoError)
    → PumpsText AnswersLine RefusesScriptRest lines room 193 a pending text left t u result b → HasSameMachine a b
same_text room a b pending text left t u (Ok summary) p =
    let out = p.1.of_text in same_end out.mid b (take 129 (rest_of text)) out.ending out.ends ∙ same_all a out.mid (seen (lines_of text)) out.answers out.takes
same_text room a b pending text left t u (Err Read) p = same_all a b (seen (lines_of text)) p.answers p.takes
same_text room a b pending text left t u (Err Write) (inl p) = ap (λ (session : Session). session.machine.ghost_name) p.1.stays
same_text room a b pending text left t u (Err Write) (inr (inl p)) = same_all p.mid b p.on_page p.page p.takes ∙ same_all a p.mid p.earlier p.before p.first
same_text room a b pending text left t u (Err Write) (inr (inr p)) =
    same_end p.1.mid b (take 129 (rest_of text)) p.1.ending p.1.ends ∙ same_all a p.1.mid (seen (lines_of text)) p.1.answers p.1.takes

pub same_machine : (room : ℕ) (a b : Session) (pending : List ℕ) (unread left t u : Option (List ℕ)) (result : Result Summary IoError)
    → Pumps (λ (state : Session). false) AnswersLine RefusesScriptRest lines room 193 a pending unread left t u result b → HasSameMachine a b
same_machine room a b pending unread left t u result p =
    same_text room a b pending p.text left t u result (runs_through (λ (state : Session). false) _ _ _ _ _ _ _ _ _ _ _ _ _ refl p)

-- ---- the run

counts_run : (room : ℕ) (old : State) (tally : Tally) (a b : Session) (opening : List Op) (pending text : List ℕ) (left s t u : Option (List ℕ)) (e : Bool) (result : Result Summary IoError)
    → IsTally [] [] tally → Opens room old tally opening pending s t e a.machine.now a.tally
    → PumpsText AnswersLine RefusesScriptRest lines room 193 a pending text left t u result b → OnOk (joined e result) (CountsRun old opening text b.tally b.machine.now)
unfolding all_opened
counts_run room old tally a b opening pending text left s t u e (Ok summary) fresh o p =
    let out = p.1.of_text in
    let opened = all_opened room old tally opening pending s t e a.machine.now a.tally o in
    let all = counted_all a out.mid opened.replies [] (lines_of text) out.answers out.takes (o.counted fresh) in
    let rest = counted_rest out.mid b opened.replies (exchanges_of (lines_of text) all.replies) (rest_of text) out.ending out.ends all.is_tally in
    record {
      first = opened.replies;
      mid = a.machine.now;
      opens = opened.takes;
      replies = all.replies;
      takes = subst (λ (m : State). TakesAll a.machine.now (map operation_of (lines_of text)) all.replies m) (sym rest.0) all.takes;
      exchanges = exchanges_of (lines_of text) all.replies ++ rest_exchange (rest_of text);
      exchanges_are = refl;
      is_tally = rest.1;
    }
counts_run room old tally a b opening pending text left s t u e (Err error) fresh o p = tt

pub runs_session : (room : ℕ) (old : State) (tally : Tally) (a b : Session) (opening : List Op) (pending : List ℕ) (c left s t u : Option (List ℕ)) (e : Bool) (result : Result Summary IoError)
    → IsReached old → IsTally [] [] tally → Opens room old tally opening pending s t e a.machine.now a.tally
    → Pumps (λ (state : Session). false) AnswersLine RefusesScriptRest lines room 193 a pending c left t u result b
    → RunsSession room opening (io old c s) (joined e result) b.tally (io b.machine.now left u)
unfolding pumps_script runs_script
runs_session room old tally a b opening pending c left s t u e result reached fresh o p =
    let runs = pumps_script room old tally a.tally opening a b pending c left s t u e result reached o p in
    record {
      main = runs.main;
      fails = runs.fails;
      counts = counts_run room old tally a b opening pending p.text left s t u e result fresh o (runs_through (λ (state : Session). false) _ _ _ _ _ _ _ _ _ _ _ _ _ refl p);
    }
