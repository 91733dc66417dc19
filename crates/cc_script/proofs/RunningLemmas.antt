-- The output of a script's run, from the output of the engine of cc_io.
use Rattle.std.proofs.Common.{◌≡◌, ℕ, ◌<◌, ◌≤◌, ◌+◌, List, [], ◌∷◌, ◌++◌, length, take, map, refl, sym, ◌∙◌, ap, subst, append_assoc, append-nil, arith, length-append, length-take, ◌==◌, Bool}
use Rattle.std.proofs.Common.{true, ◌||◌, not, nat_lt, Option, Some, None, IfSome, IfOk, IfErr, Result, Ok, Err, inl, inr, false}
use Rattle.std.proofs.lemmas.Bool.{cases_lt, lt-ltb}
use Rattle.std.proofs.lemmas.List.{take_all, map-append}
use Rattle.std.proofs.lemmas.List.Folds.{list_any-append}
use Rattle.std.proofs.Math.Dec.{eqb-suc-zero}
use Rattle.std.specs.List.{list_any}
use Rattle.std.specs.Io.KnownBytes.{Appends, Consumes, IsAtEnd}
use Rattle.cc_word.specs.declared.refusal.Refusal.{Refusal}
use Rattle.cc_values.specs.declared.op.Op.{Op}
use Rattle.cc_values.specs.declared.reply.Reply.{Reply}
use Rattle.cc_machine.specs.State.{State}
use Rattle.cc_io.proofs.ServingLemmas.{runs_through}
use Rattle.cc_io.specs.Lines.{lines_of, rest_of, lines_from, rest_from}
use Rattle.cc_io.specs.FrameLaws.{lines_further}
use Rattle.cc_io.specs.Frames.{lines}
use Rattle.cc_io.specs.Answers.{Answer, AnswersAll, answers_text, EndsWith, seen}
use Rattle.cc_io.specs.Correct.{WritesOutput as PumpsOutput, WritesAnswers, StopsOnPage, StopsAfterAnswers, PumpsText, Pumps}
use Rattle.cc_io.specs.declared.summary.IoError.{IoError}
use Rattle.cc_io.specs.declared.summary.IoError.TheVariants.{Read, Write}
use Rattle.cc_io.specs.declared.summary.Summary.{Summary}
use Rattle.cc_io.proofs.DeviceLemmas.{appends_twice, consumes_none}
use Rattle.cc_syntax.specs.Commands.{operation_of}
use Rattle.cc_syntax.specs.Replies.{reply_text, is_error}
use Rattle.cc_script.specs.Output.{commands_of, TakesAll, with_line_feed, replies_text, rest_text}
use Rattle.cc_script.specs.Main.{IoState, IsBetween, WritesScriptOutput}
use Rattle.cc_script.specs.Failures.{WritesAllReplies, StopsInReplies, StopsAfterLines, BeginsScriptOutput, WritesPart, RunsScript}
use Rattle.cc_script.proofs.RunLemmas.{between_safe}
use Rattle.cc_machine.specs.Run.{IsReached}
use Rattle.cc_script.specs.Session.{AnswersLine, RefusesScriptRest}
use Rattle.cc_script.specs.declared.session.Session.{Session}
use Rattle.cc_script.specs.Running.{Opens}
use Rattle.cc_syntax.specs.declared.tally.Tally.{Tally}
use Rattle.cc_io.specs.Devices.{TakesPrefix}
use Rattle.cc_script.proofs.OutputLemmas.{stopped_begins}
use Rattle.cc_script.proofs.ReplyLemmas.{takes_further, replies_text-append, or_assoc}

-- The result of the setup operations and of the script after them.
abbrev pub joined : (error : Bool) → Result Summary IoError → Result Summary IoError
joined error (Ok summary) = Ok (record { any_error = error || summary.any_error })
joined error (Err fault) = Err fault

-- ---- the first 129 bytes of a line are enough

pub start_enough : (line : List ℕ) → operation_of (take 129 line) ≡ operation_of line
unfolding operation_of
start_enough line = elim (cases_lt (length line) 129) [
  | inl short ↦ ap operation_of (take_all 129 line (omega arith))
  | inr long ↦
      let cut : length (take 129 line) ≡ 129 = omega (arith, length-take 129 line) in
      let here : nat_lt 128 (length (take 129 line)) ≡ true = lt-ltb 128 (length (take 129 line)) (omega arith) in
      let there : nat_lt 128 (length line) ≡ true = lt-ltb 128 (length line) (omega arith) in
      rw (here, there) refl
]

commands_seen : (entries : List (List ℕ)) → map operation_of (seen entries) ≡ map operation_of entries
commands_seen [] = refl
commands_seen (line ∷ entries) =
    ap (λ (c : Result Op Refusal). c ∷ map operation_of (seen entries)) (start_enough line)
    ∙ ap (λ (l : List (Result Op Refusal)). operation_of line ∷ l) (commands_seen entries)

-- ---- the replies of the borrowed machine

abbrev pub machine : Session → State
machine session = session.machine.now

-- Opened holds if the setup operations got their replies, of which a part is written, and the
-- others are pending.
pub record Opened (start : State) (opening : List Op) (pending : List ℕ) (taken taken_now : Option (List ℕ)) (error : Bool) (new : State) : Type 0 where
  pub replies : List Reply
  pub takes : TakesAll start (map Ok opening) replies new
  pub done : List ℕ
  pub written : Appends taken taken_now done
  pub text_is : replies_text replies ≡ done ++ pending
  pub error_is : error ≡ list_any is_error replies

unfoldable pub all_opened : (room : ℕ) (start : State) (tally : Tally) (opening : List Op) (pending : List ℕ) (t u : Option (List ℕ)) (error : Bool) (new : State) (tally_now : Tally)
    → Opens room start tally opening pending t u error new tally_now → Opened start opening pending t u error new
all_opened room start tally opening pending t u error new tally_now o = record {
  replies = o.replies ++ o.waiting;
  takes = subst (λ (l : List (Result Op Refusal)). TakesAll start l (o.replies ++ o.waiting) new)
      (sym (ap (λ (l : List Op). map {B = Result Op Refusal} Ok l) o.ops_are ∙ map-append {B = Result Op Refusal} Ok o.earlier o.on_page))
      (takes_further start o.mid new (map Ok o.earlier) (map Ok o.on_page) o.replies o.waiting o.before o.takes);
  done = replies_text o.replies;
  written = o.written;
  text_is = replies_text-append o.replies o.waiting ∙ ap (λ (l : List ℕ). replies_text o.replies ++ l) (sym o.page_is);
  error_is = o.error_is;
}

-- The sink failed in the replies on the page, before commands that follow the setup operations.
pub stops_waiting : (room : ℕ) (start : State) (tally : Tally) (opening : List Op) (pending : List ℕ) (t u v : Option (List ℕ)) (error : Bool) (new : State) (tally_now : Tally)
    (later : List (Result Op Refusal)) → Opens room start tally opening pending t u error new tally_now → 0 < length pending → TakesPrefix u v pending
    → StopsInReplies room start (map Ok opening ++ later) (Appends t v) new
stops_waiting room start tally opening pending t u v error new tally_now later o some q = record {
  earlier = map Ok o.earlier;
  on_page = map Ok o.on_page;
  later = later;
  commands_are =
      ap (λ (l : List (Result Op Refusal)). l ++ later)
      (ap (λ (l : List Op). map {B = Result Op Refusal} Ok l) o.ops_are ∙ map-append {B = Result Op Refusal} Ok o.earlier o.on_page)
      ∙ append_assoc (map Ok o.earlier) (map Ok o.on_page) later;
  replies = o.replies;
  mid = o.mid;
  before = o.before;
  page = o.waiting;
  takes = o.takes;
  last = o.last some;
  fits = subst (λ (l : List ℕ). length l ≤ room) o.page_is o.fits;
  count = q.count;
  within = subst (λ (l : List ℕ). q.count ≤ length l) o.page_is q.within;
  written = appends_twice t u v (replies_text o.replies) (take q.count (replies_text o.waiting)) o.written
      (subst (λ (l : List ℕ). Appends u v (take q.count l)) o.page_is q.taken);
}

abbrev pub io : State → (unread taken : Option (List ℕ)) → IoState
io machine unread taken = record { machine = machine; unread = unread; taken = taken }

-- RepliesAll holds if the machine gives the replies of an answerer.
pub record RepliesAll (old : State) (entries : List (List ℕ)) (answers : List Answer) (new : State) : Type 0 where
  pub replies : List Reply
  pub takes : TakesAll old (map operation_of entries) replies new
  pub text_is : answers_text answers ≡ replies_text replies
  pub error_is : list_any (λ (answer : Answer). answer.is_error) answers ≡ list_any is_error replies

-- The replies on a page fit it if there was space for the last.
last_fits : (room : ℕ) (first : List Reply) (last : Reply) → length (replies_text first) + 193 ≤ room → length (with_line_feed (reply_text last)) ≤ 193
    → length (replies_text (first ++ last ∷ [])) ≤ room
last_fits room first last space fits =
    omega (
      arith,
      space,
      fits,
      ap (λ (l : List ℕ). length l) (replies_text-append first (last ∷ []) ∙ ap (λ (l : List ℕ). replies_text first ++ l) (append-nil (with_line_feed (reply_text last)))),
      length-append (replies_text first) (with_line_feed (reply_text last)),
    )

record RestIs (mid : State) (rest : List ℕ) (ending : Answer) (new : State) : Type 0 where
  pub text_is : ending.text ≡ rest_text rest
  pub error_is : ending.is_error ≡ not (length rest == 0)
  pub stays : new ≡ mid

pub replies_all : (a b : Session) (entries : List (List ℕ)) (answers : List Answer) → AnswersAll AnswersLine a entries answers b → RepliesAll (machine a) entries answers (machine b)
replies_all a b [] [] t = record { replies = []; takes = ap machine t; text_is = refl; error_is = refl }
replies_all a b (entry ∷ entries) (answer ∷ answers) t =
    let l = t.1 in
    let p = replies_all t.0 b entries answers t.2 in
    record {
      replies = l.reply ∷ p.replies;
      takes = (machine t.0, l.takes, p.takes);
      text_is = ap (λ (x : List ℕ). x ++ answers_text answers) l.text_is ∙ ap (λ (x : List ℕ). with_line_feed (reply_text l.reply) ++ x) p.text_is;
      error_is =
          ap (λ (x : Bool). x || list_any (λ (answer : Answer). answer.is_error) answers) l.error_is
          ∙ ap (λ (x : Bool). is_error l.reply || x) p.error_is;
    }
replies_all a b [] (answer ∷ answers) t = absurd t
replies_all a b (entry ∷ entries) [] t = absurd t

-- The replies to the lines of a text.
lines_all : (a b : Session) (text : List ℕ) (answers : List Answer) → AnswersAll AnswersLine a (seen (lines_of text)) answers b → RepliesAll (machine a) (lines_of text) answers (machine b)
lines_all a b text answers t =
    let p = replies_all a b (seen (lines_of text)) answers t in
    record {
      replies = p.replies;
      takes = subst (λ (l : List (Result Op Refusal)). TakesAll (machine a) l p.replies (machine b)) (commands_seen (lines_of text)) p.takes;
      text_is = p.text_is;
      error_is = p.error_is;
    }

rest_is : (mid : Session) (rest : List ℕ) (ending : Answer) (new : Session) → EndsWith RefusesScriptRest mid (take 129 rest) ending new → RestIs (machine mid) rest ending (machine new)
rest_is mid [] ending new e = record { text_is = e.0; error_is = e.1; stays = ap machine e.2 }
rest_is mid (byte ∷ rest) ending new e =
    record { text_is = e.text_is; error_is = e.error_is ∙ sym (ap not (eqb-suc-zero (length rest))); stays = e.stays }

-- ---- the bytes written

ok_part : (start : State) (opening : List Op) (a b : Session) (pending text : List ℕ) (c left s t u : Option (List ℕ)) (e error : Bool)
    → Opened start opening pending s t e (machine a) → IsAtEnd left → PumpsOutput AnswersLine RefusesScriptRest lines a pending text t u error b
    → WritesScriptOutput opening text (io start c s) (e || error) (io (machine b) left u)
ok_part start opening a b pending text c left s t u e error o at_end w =
    let out = w.of_text in
    let p = lines_all a out.mid text out.answers out.takes in
    let r = rest_is out.mid (rest_of text) out.ending b out.ends in
    let rest : List ℕ = rest_text (rest_of text) in
    record {
      output = o.done ++ (pending ++ w.output);
      at_end = at_end;
      output_is = record {
        replies = o.replies ++ p.replies;
        takes = takes_further start (machine a) (machine b) (map Ok opening) (map operation_of (lines_of text)) o.replies p.replies o.takes
            (subst (λ (m : State). TakesAll (machine a) (map operation_of (lines_of text)) p.replies m) (sym r.stays) p.takes);
        output_is =
            sym (append_assoc o.done pending w.output) ∙ ap (λ (l : List ℕ). l ++ w.output) (sym o.text_is)
            ∙ ap (λ (l : List ℕ). replies_text o.replies ++ l) (out.output_is ∙ ap (λ (l : List ℕ). l ++ out.ending.text) p.text_is ∙ ap (λ (l : List ℕ). replies_text p.replies ++ l) r.text_is)
            ∙ sym (append_assoc (replies_text o.replies) (replies_text p.replies) rest)
            ∙ ap (λ (l : List ℕ). l ++ rest) (sym (replies_text-append o.replies p.replies));
        error_is =
            ap (λ (x : Bool). x || error) o.error_is
            ∙ ap (λ (x : Bool). list_any is_error o.replies || x) (out.error_is ∙ ap (λ (x : Bool). x || out.ending.is_error) p.error_is ∙ ap (λ (x : Bool). list_any is_error p.replies || x)
            r.error_is)
            ∙ or_assoc (list_any is_error o.replies) (list_any is_error p.replies) (not (length (rest_of text) == 0))
            ∙ ap (λ (x : Bool). x || not (length (rest_of text) == 0)) (sym (list_any-append is_error o.replies p.replies));
      };
      written = appends_twice s t u o.done (pending ++ w.output) o.written w.written;
    }

-- The bytes of the setup operations and of all that comes after them.
written_after : (start : State) (opening : List Op) (a : Session) (pending : List ℕ) (s t u : Option (List ℕ)) (e : Bool) (o : Opened start opening pending s t e (machine a))
    (replies : List Reply) (answers more more_text : List ℕ) → answers ≡ replies_text replies → more ≡ more_text
    → Appends t u (pending ++ answers ++ more) → Appends s u (replies_text (o.replies ++ replies) ++ more_text)
written_after start opening a pending s t u e o replies answers more more_text is more_is w =
    let whole : o.done ++ (pending ++ answers ++ more) ≡ replies_text (o.replies ++ replies) ++ more_text =
    ap (λ (l : List ℕ). o.done ++ l) (append_assoc pending answers more) ∙ sym (append_assoc o.done pending (answers ++ more)) ∙ ap (λ (l : List ℕ). l ++ (answers ++ more)) (sym o.text_is)
    ∙ ap (λ (l : List ℕ). replies_text o.replies ++ (l ++ more)) is ∙ ap (λ (l : List ℕ). replies_text o.replies ++ (replies_text replies ++ l)) more_is
    ∙ sym (append_assoc (replies_text o.replies) (replies_text replies) more_text)
    ∙ ap (λ (l : List ℕ). l ++ more_text) (sym (replies_text-append o.replies replies)) in
    subst (λ (l : List ℕ). Appends s u l) whole (appends_twice s t u o.done (pending ++ answers ++ more) o.written w)

read_part : (start : State) (opening : List Op) (a b : Session) (pending text : List ℕ) (s t u : Option (List ℕ)) (e : Bool)
    → Opened start opening pending s t e (machine a) → WritesAnswers AnswersLine a pending (seen (lines_of text)) t u b
    → WritesAllReplies start opening text (Appends s u) (machine b)
read_part start opening a b pending text s t u e o w =
    let p = lines_all a b text w.answers w.takes in
    let whole : pending ++ answers_text w.answers ≡ pending ++ answers_text w.answers ++ [] = sym (append-nil (pending ++ answers_text w.answers)) in
    record {
      replies = o.replies ++ p.replies;
      takes = takes_further start (machine a) (machine b) (map Ok opening) (map operation_of (lines_of text)) o.replies p.replies o.takes p.takes;
      written = subst (λ (l : List ℕ). Appends s u l) (append-nil (replies_text (o.replies ++ p.replies)))
          (written_after start opening a pending s t u e o p.replies (answers_text w.answers) [] [] p.text_is refl (subst (λ (l : List ℕ). Appends t u l) whole w.written));
    }

after_part : (start : State) (opening : List Op) (a b : Session) (pending text : List ℕ) (s t u : Option (List ℕ)) (e : Bool)
    → Opened start opening pending s t e (machine a) → StopsAfterAnswers AnswersLine RefusesScriptRest lines a pending text t u b
    → StopsAfterLines start opening text (Appends s u) (machine b)
after_part start opening a b pending text s t u e o q =
    let p = lines_all a q.mid text q.answers q.takes in
    let r = rest_is q.mid (rest_of text) q.ending b q.ends in
    record {
      replies = o.replies ++ p.replies;
      takes = takes_further start (machine a) (machine b) (map Ok opening) (map operation_of (lines_of text)) o.replies p.replies o.takes
          (subst (λ (m : State). TakesAll (machine a) (map operation_of (lines_of text)) p.replies m) (sym r.stays) p.takes);
      count = q.count;
      within = subst (λ (l : List ℕ). q.count ≤ length l) r.text_is q.within;
      written = written_after start opening a pending s t u e o p.replies (answers_text q.answers) (take q.count q.ending.text) (take q.count (rest_text (rest_of text)))
          p.text_is (ap (take q.count) r.text_is) q.written;
    }

-- The commands of the setup operations, of lines before some, of these, and of the lines after
-- them.
commands_are : (opening : List Op) (text : List ℕ) (earlier later : List (List ℕ)) → seen (lines_of text) ≡ earlier ++ later
    → commands_of opening text ≡ (map Ok opening ++ map operation_of earlier) ++ map operation_of later
commands_are opening text earlier later is =
    ap (λ (l : List (Result Op Refusal)). map Ok opening ++ l) (sym (commands_seen (lines_of text)) ∙ ap (map operation_of) is ∙ map-append operation_of earlier later)
    ∙ sym (append_assoc (map Ok opening) (map operation_of earlier) (map operation_of later))

-- ---- the replies on a page

record OnPage (old : State) (entries : List (List ℕ)) (front answers : List Answer) (new : State) : Type 0 where
  pub first : List Reply
  pub last : Reply
  pub takes : TakesAll old (map operation_of entries) (first ++ last ∷ []) new
  pub front_is : answers_text front ≡ replies_text first
  pub text_is : answers_text answers ≡ replies_text (first ++ last ∷ [])
  pub fits : length (with_line_feed (reply_text last)) ≤ 193

on_page : (a b : Session) (entries : List (List ℕ)) (first : List Answer) (last : Answer) → AnswersAll AnswersLine a entries (first ++ last ∷ []) b
    → OnPage (machine a) entries first (first ++ last ∷ []) (machine b)
on_page a b [] [] last t = absurd t
on_page a b [] (x ∷ first) last t = absurd t
on_page a b (entry ∷ []) [] last t =
    let l = t.1 in
    record {
      first = [];
      last = l.reply;
      takes = (machine t.0, l.takes, ap machine t.2);
      front_is = refl;
      text_is = ap (λ (x : List ℕ). x ++ []) l.text_is;
      fits = subst (λ (x : List ℕ). length x ≤ 193) l.text_is l.fits;
    }
on_page a b (entry ∷ other ∷ entries) [] last t = absurd t.2
on_page a b (entry ∷ entries) (x ∷ first) last t =
    let l = t.1 in
    let p = on_page t.0 b entries first last t.2 in
    record {
      first = l.reply ∷ p.first;
      last = p.last;
      takes = (machine t.0, l.takes, p.takes);
      front_is = ap (λ (y : List ℕ). y ++ answers_text first) l.text_is ∙ ap (λ (y : List ℕ). with_line_feed (reply_text l.reply) ++ y) p.front_is;
      text_is =
          ap (λ (y : List ℕ). y ++ answers_text (first ++ last ∷ [])) l.text_is
          ∙ ap (λ (y : List ℕ). with_line_feed (reply_text l.reply) ++ y) p.text_is;
      fits = p.fits;
    }

page_part : (room : ℕ) (start : State) (opening : List Op) (a b : Session) (pending text : List ℕ) (s t u : Option (List ℕ)) (e : Bool)
    → Opened start opening pending s t e (machine a) → StopsOnPage AnswersLine room 193 a pending (seen (lines_of text)) t u b
    → StopsInReplies room start (commands_of opening text) (Appends s u) (machine b)
page_part room start opening a b pending text s t u e o q =
    let p = replies_all a q.mid q.earlier q.before q.first in
    let r = on_page q.mid b q.on_page q.fits.first q.fits.last (subst (λ (x : List Answer). AnswersAll AnswersLine q.mid q.on_page x b) q.fits.answers_are q.takes) in
    let page : List Reply = r.first ++ r.last ∷ [] in
    let text_is : answers_text q.page ≡ replies_text page = ap answers_text q.fits.answers_are ∙ r.text_is in
    let space : length (replies_text r.first) + 193 ≤ room = subst (λ (l : List ℕ). length l + 193 ≤ room) r.front_is q.fits.fits in
    record {
      earlier = map Ok opening ++ map operation_of q.earlier;
      on_page = map operation_of q.on_page;
      later = map operation_of q.later;
      commands_are =
          commands_are opening text q.earlier (q.on_page ++ q.later) (q.entries_are ∙ append_assoc q.earlier q.on_page q.later)
          ∙ ap (λ (l : List (Result Op Refusal)). (map Ok opening ++ map operation_of q.earlier) ++ l) (map-append operation_of q.on_page q.later);
      replies = o.replies ++ p.replies;
      mid = machine q.mid;
      before = takes_further start (machine a) (machine q.mid) (map Ok opening) (map operation_of q.earlier) o.replies p.replies o.takes p.takes;
      page = page;
      takes = r.takes;
      last = record { first = r.first; last = r.last; replies_are = refl; fits = space };
      fits = last_fits room r.first r.last space r.fits;
      count = q.count;
      within = subst (λ (l : List ℕ). q.count ≤ length l) text_is q.within;
      written = written_after start opening a pending s t u e o p.replies (answers_text q.before) (take q.count (answers_text q.page)) (take q.count (replies_text page))
          p.text_is (ap (take q.count) text_is) q.written;
    }

-- ---- the unread bytes

abbrev pub rest_left : Option (List ℕ) → List ℕ
rest_left None = []
rest_left (Some bytes) = bytes

pub rest_left-is : (left : Option (List ℕ)) → IfSome left (λ bytes. bytes ≡ rest_left left)
rest_left-is None = tt
rest_left-is (Some bytes) = refl

rest_left-none : (left : Option (List ℕ)) → IsAtEnd left → rest_left left ≡ []
rest_left-none None at_end = refl
rest_left-none (Some bytes) at_end = at_end

-- ---- if the sink failed, a prefix of the output was written

commands_further : (opening : List Op) (xs ys : List ℕ)
    → commands_of opening (xs ++ ys) ≡ commands_of opening xs ++ map operation_of (lines_from (rest_from [] xs) ys)
commands_further opening xs ys =
    ap (λ (l : List (Result Op Refusal)). map Ok opening ++ l)
    (ap (map operation_of) (lines_further [] xs ys) ∙ map-append operation_of (lines_from [] xs) (lines_from (rest_from [] xs) ys))
    ∙ sym (append_assoc (map Ok opening) (map operation_of (lines_from [] xs)) (map operation_of (lines_from (rest_from [] xs) ys)))

begins_on_page : (room : ℕ) (a b : State) (t u : Option (List ℕ)) (opening : List Op) (given rest : List ℕ)
    → StopsInReplies room a (commands_of opening given) (Appends t u) b → BeginsScriptOutput a opening (given ++ rest) (Appends t u)
begins_on_page room a b t u opening given rest s =
    let more : List (Result Op Refusal) = map operation_of (lines_from (rest_from [] given) rest) in
    let longer : StopsInReplies room a (commands_of opening (given ++ rest)) (Appends t u) b = record {
      earlier = s.earlier;
      on_page = s.on_page;
      later = s.later ++ more;
      commands_are =
          commands_further opening given rest ∙ ap (λ (l : List (Result Op Refusal)). l ++ more) s.commands_are ∙ append_assoc s.earlier (s.on_page ++ s.later) more
          ∙ ap (λ (l : List (Result Op Refusal)). s.earlier ++ l) (append_assoc s.on_page s.later more);
      replies = s.replies;
      mid = s.mid;
      before = s.before;
      page = s.page;
      takes = s.takes;
      last = s.last;
      fits = s.fits;
      count = s.count;
      within = s.within;
      written = s.written;
    } in
    stopped_begins room a b opening (given ++ rest) t u (inl longer)

begins_after : (a b : State) (t u : Option (List ℕ)) (opening : List Op) (given rest : List ℕ) → rest ≡ []
    → StopsAfterLines a opening given (Appends t u) b → BeginsScriptOutput a opening (given ++ rest) (Appends t u)
begins_after a b t u opening given rest none s =
    let whole : given ++ rest ≡ given = ap (λ (l : List ℕ). given ++ l) none ∙ append-nil given in
    subst (λ (x : List ℕ). BeginsScriptOutput a opening x (Appends t u)) (sym whole) (stopped_begins 193 a b opening given t u (inr s))

-- ---- the state at the end

between_all : (old : State) (commands : List (Result Op Refusal)) (replies : List Reply) (new : State) → TakesAll old commands replies new → IsBetween old commands new
between_all old commands replies new t =
    record { taken = commands; left = []; commands_are = sym (append-nil commands); replies = replies; takes = t }

between_some : (room : ℕ) (old : State) (commands : List (Result Op Refusal)) (Wrote : List ℕ → Type 0) (new : State)
    → StopsInReplies room old commands Wrote new → IsBetween old commands new
between_some room old commands Wrote new s = record {
  taken = s.earlier ++ s.on_page;
  left = s.later;
  commands_are = s.commands_are ∙ sym (append_assoc s.earlier s.on_page s.later);
  replies = s.replies ++ s.page;
  takes = takes_further old s.mid new s.earlier s.on_page s.replies s.page s.before s.takes;
}

-- Whatever was written, the machine is between two commands.
pub ends_between : (room : ℕ) (opening : List Op) (text rest : List ℕ) (before : IoState) (result : Result Summary IoError) (after : IoState)
    → IfOk result (λ summary. WritesScriptOutput opening text before summary.any_error after)
    → IfErr result (λ error. WritesPart (StopsInReplies room) before.machine opening text rest (Appends before.taken after.taken) error after.machine)
    → IsBetween before.machine (commands_of opening text) after.machine
ends_between room opening text rest before (Ok summary) after whole part =
    between_all before.machine (commands_of opening text) whole.output_is.replies after.machine whole.output_is.takes
ends_between room opening text rest before (Err Read) after whole part =
    between_all before.machine (commands_of opening text) part.replies after.machine part.takes
ends_between room opening text rest before (Err Write) after whole (inl s, begins) = between_some room before.machine (commands_of opening text) _ after.machine s
ends_between room opening text rest before (Err Write) after whole (inr s, begins) =
    between_all before.machine (commands_of opening text) s.1.replies after.machine s.1.takes

-- The run of a script, from what was written.
unfoldable pub runs_script : (room : ℕ) (opening : List Op) (text : List ℕ) (before : IoState) (result : Result Summary IoError) (after : IoState)
    → IsReached before.machine → Consumes before.unread after.unread text
    → IfOk result (λ summary. WritesScriptOutput opening text before summary.any_error after)
    → IfErr result (λ error. WritesPart (StopsInReplies room) before.machine opening text (rest_left after.unread) (Appends before.taken after.taken) error after.machine)
    → RunsScript (StopsInReplies room) opening before result after
runs_script room opening text before result after reached given whole part = record {
  main = record {
    text = text;
    given = given;
    writes = whole;
    ends = ends_between room opening text (rest_left after.unread) before result after whole part;
    safe = λ state between. between_safe before.machine (commands_of opening text) state reached between;
  };
  fails = record { rest = rest_left after.unread; stays = rest_left-is after.unread; part = part };
}

-- The sink failed in the replies to the setup operations, and the source was not read.
pub stops_in_opening : (room : ℕ) (before after : IoState) (opening : List Op) → IsReached before.machine → after.unread ≡ before.unread
    → StopsInReplies room before.machine (map Ok opening) (Appends before.taken after.taken) after.machine
    → RunsScript (StopsInReplies room) opening before (Err Write) after
stops_in_opening room before after opening reached same p =
    let stopped : StopsInReplies room before.machine (commands_of opening []) (Appends before.taken after.taken) after.machine =
    subst (λ (l : List (Result Op Refusal)). StopsInReplies room before.machine l (Appends before.taken after.taken) after.machine) (sym (append-nil (map {B = Result Op Refusal} Ok opening))) p in
    runs_script room opening [] before (Err Write) after reached
    (subst (λ (b : Option (List ℕ)). Consumes before.unread b []) (sym same) (consumes_none before.unread)) tt
    (inl stopped, begins_on_page room before.machine after.machine before.taken after.taken opening [] (rest_left after.unread) stopped)

-- ---- the theorem of a script's run

pub whole_part : (room : ℕ) (start : State) (tally counts : Tally) (opening : List Op) (a b : Session) (pending given : List ℕ) (c left s t u : Option (List ℕ)) (e : Bool)
    (result : Result Summary IoError)
    → Opens room start tally opening pending s t e (machine a) counts → PumpsText AnswersLine RefusesScriptRest lines room 193 a pending given left t u result b
    → IfOk (joined e result) (λ (summary : Summary). WritesScriptOutput opening given (io start c s) summary.any_error (io (machine b) left u))
whole_part room start tally counts opening a b pending given c left s t u e (Ok summary) o p =
    ok_part start opening a b pending given c left s t u e summary.any_error (all_opened room start tally opening pending s t e (machine a) counts o) p.0 p.1
whole_part room start tally counts opening a b pending given c left s t u e (Err error) o p = tt

pub some_part : (room : ℕ) (start : State) (tally counts : Tally) (opening : List Op) (a b : Session) (pending given : List ℕ) (left s t u : Option (List ℕ)) (e : Bool)
    (result : Result Summary IoError)
    → Opens room start tally opening pending s t e (machine a) counts → PumpsText AnswersLine RefusesScriptRest lines room 193 a pending given left t u result b
    → IfErr (joined e result) (λ (error : IoError). WritesPart (StopsInReplies room) start opening given (rest_left left) (Appends s u) error (machine b))
some_part room start tally counts opening a b pending given left s t u e (Ok summary) o p = tt
some_part room start tally counts opening a b pending given left s t u e (Err Read) o p =
    read_part start opening a b pending given s t u e (all_opened room start tally opening pending s t e (machine a) counts o) p
some_part room start tally counts opening a b pending given left s t u e (Err Write) o (inl p) =
    let q = stops_waiting room start tally opening pending s t u e (machine a) counts (map operation_of (lines_of given)) o p.1.some p.1.written in
    let here : StopsInReplies room start (commands_of opening given) (Appends s u) (machine b) =
    subst (λ (x : Session). StopsInReplies room start (commands_of opening given) (Appends s u) (machine x)) (sym p.1.stays) q in
    (inl here, begins_on_page room start (machine b) s u opening given (rest_left left) here)
some_part room start tally counts opening a b pending given left s t u e (Err Write) o (inr (inl p)) =
    let q = page_part room start opening a b pending given s t u e (all_opened room start tally opening pending s t e (machine a) counts o) p in
    (inl q, begins_on_page room start (machine b) s u opening given (rest_left left) q)
some_part room start tally counts opening a b pending given left s t u e (Err Write) o (inr (inr p)) =
    let none = rest_left-none left p.0 in
    let q = after_part start opening a b pending given s t u e (all_opened room start tally opening pending s t e (machine a) counts o) p.1 in
    (inr (none, q), begins_after start (machine b) s u opening given (rest_left left) none q)

-- The setup operations got their replies, of which some are on the page, and then the lines.
unfoldable pub pumps_script : (room : ℕ) (start : State) (tally counts : Tally) (opening : List Op) (a b : Session) (pending : List ℕ) (c left s t u : Option (List ℕ)) (e : Bool)
    (result : Result Summary IoError)
    → IsReached start → Opens room start tally opening pending s t e (machine a) counts → Pumps (λ (state : Session). false) AnswersLine RefusesScriptRest lines room 193 a pending c left t u result b
    → RunsScript (StopsInReplies room) opening (io start c s) (joined e result) (io (machine b) left u)
unfolding runs_script
pumps_script room start tally counts opening a b pending c left s t u e result reached o p =
    let through = runs_through (λ (state : Session). false) _ _ _ _ _ _ _ _ _ _ _ _ _ refl p in
    runs_script room opening p.text (io start c s) (joined e result) (io (machine b) left u) reached p.given
    (whole_part room start tally counts opening a b pending p.text c left s t u e result o through)
    (some_part room start tally counts opening a b pending p.text left s t u e result o through)
