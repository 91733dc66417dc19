-- The replies to a text, from the replies to its parts.
use Rattle.std.proofs.Common.{◌≡◌, ℕ, ◌+◌, ◌<◌, ◌≤◌, List, [], ◌∷◌, ◌++◌, length, take, refl, sym, ◌∙◌, ap, subst, append_assoc, append-nil, arith, Bool, true, false, ◌||◌, ◌==◌, Option, Ok, Err}
use Rattle.std.proofs.Common.{inl, inr, ◌⊎◌}
use Rattle.std.proofs.lemmas.Bool.{eqb-true, eqb-false}
use Rattle.std.proofs.lemmas.List.{map-append}
use Rattle.std.proofs.lemmas.List.Folds.{list_any-append}
use Rattle.std.specs.List.{list_any}
use Rattle.std.specs.Io.KnownBytes.{Appends, Consumes, IsAtEnd, Keeps}
use Rattle.cc_io.specs.Devices.{TakesPrefix}
use Rattle.cc_io.specs.Frames.{Frame, IsFrame, EndsEntry, EndsNone}
use Rattle.cc_io.specs.Answers.{Answer, Relation, AnswersAll, answers_text, EndsWith, seen, entries_of, AnswersInto, LastFits}
use Rattle.cc_io.specs.Correct.{StopsOnPage, StopsEarly, Pumps}
use Rattle.cc_io.specs.Engine.{Answers, AnswersPiece, AnswersSome, PassesPage, EndsPage}
use Rattle.cc_io.specs.declared.summary.IoError.TheVariants.{Read, Write}
use Rattle.cc_io.proofs.DeviceLemmas.{appends_none, appends_twice, consumes_none, consumes_twice, then_kept}
use Rattle.cc_io.proofs.LineLemmas.{start_longer}

-- ---- what the loops keep

-- no reply is on the page, or there was space for the last
abbrev pub FitsPage : (room most : ℕ) → List Answer → Type 0
FitsPage room most answers = (answers ≡ []) ⊎ LastFits room most answers

-- The first entries of the chunk got replies, and `rest` is still unread. The next entry has begun
-- with `begun_now`. The replies to `earlier` were written, and those to `on_page` are pending.
pub record AnswersFirst {S : Type 0} (Answered : Relation S) (frame : Frame) (room most : ℕ) (old : S) (begun piece rest start : List ℕ) (taken taken_now : Option (List ℕ)) (waiting : List ℕ)
    (any_error : Bool) (new : S) : Type 0 where
  pub earlier : List (List ℕ)
  pub on_page : List (List ℕ)
  pub begun_now : List ℕ
  pub entries_are : frame.entries begun piece ≡ (earlier ++ on_page) ++ frame.entries begun_now rest
  pub left_is : frame.left begun piece ≡ frame.left begun_now rest
  pub start_is : start ≡ take 129 begun_now
  pub before : List Answer
  pub mid : S
  pub first : AnswersAll Answered old (seen earlier) before mid
  pub page : List Answer
  pub takes : AnswersAll Answered mid (seen on_page) page new
  pub fits : FitsPage room most page
  pub written : Appends taken taken_now (answers_text before)
  pub waits : waiting ≡ answers_text page
  pub error_is : any_error ≡ list_any (λ answer. answer.is_error) (before ++ page)

-- the effects up to a read: `pending` was written, and then the replies to the text that was given
-- so far
pub record Reads {S : Type 0} (Answered : Relation S) (frame : Frame) (old : S) (pending : List ℕ) (unread left : Option (List ℕ)) (start : List ℕ) (taken taken_now : Option (List ℕ))
    (any_error : Bool) (new : S) : Type 0 where
  pub text : List ℕ
  pub given : Consumes unread left text
  pub opened : Option (List ℕ)
  pub opening : Appends taken opened pending
  pub answers : Answers Answered frame old [] text start opened taken_now any_error new

-- ---- beginnings

-- ---- replies in a row

pub all_further : {S : Type 0} (A : Relation S) (a b c : S) (xs ys : List (List ℕ)) (rs ss : List Answer)
    → AnswersAll A a xs rs b → AnswersAll A b ys ss c → AnswersAll A a (xs ++ ys) (rs ++ ss) c
all_further {S} A a b c [] ys [] ss p q = subst (λ (s : S). AnswersAll A s ys ss c) p q
all_further {S} A a b c (x ∷ xs) ys (r ∷ rs) ss p q = (p.0, p.1, all_further A p.0 b c xs ys rs ss p.2 q)
all_further {S} A a b c [] ys (r ∷ rs) ss p q = absurd p
all_further {S} A a b c (x ∷ xs) ys [] ss p q = absurd p

pub answers_text-append : (rs ss : List Answer) → answers_text (rs ++ ss) ≡ answers_text rs ++ answers_text ss
answers_text-append [] ss = refl
answers_text-append (r ∷ rs) ss =
    ap (λ (l : List ℕ). r.text ++ l) (answers_text-append rs ss) ∙ sym (append_assoc r.text (answers_text rs) (answers_text ss))

pub seen_further : (xs ys : List (List ℕ)) → seen (xs ++ ys) ≡ seen xs ++ seen ys
seen_further xs ys = map-append (take 129) xs ys

-- the replies to the parts of a row of entries, as the frame gives them
pub all_parts : {S : Type 0} (A : Relation S) (a b c : S) (whole xs ys : List (List ℕ)) (rs ss : List Answer) → whole ≡ xs ++ ys
    → AnswersAll A a (seen xs) rs b → AnswersAll A b (seen ys) ss c → AnswersAll A a (seen whole) (rs ++ ss) c
all_parts {S} A a b c whole xs ys rs ss is p q =
    subst (λ (l : List (List ℕ)). AnswersAll A a l (rs ++ ss) c) (sym (ap seen is ∙ seen_further xs ys))
    (all_further A a b c (seen xs) (seen ys) rs ss p q)

or_false : (b : Bool) → b ≡ (b || false)
or_false true = refl
or_false false = refl

errors_further : (rs ss : List Answer) (e f : Bool) → e ≡ list_any (λ (answer : Answer). answer.is_error) rs → f ≡ list_any (λ (answer : Answer). answer.is_error) ss
    → (e || f) ≡ list_any (λ (answer : Answer). answer.is_error) (rs ++ ss)
errors_further rs ss e f p q = rw (list_any-append (λ (answer : Answer). answer.is_error) rs ss, ← p, ← q) refl

-- ---- a text, and more of it

answers_further : {S : Type 0} (A : Relation S) (frame : Frame) → IsFrame frame → (a b c : S) (t u v : Option (List ℕ)) (begun xs ys start end : List ℕ) (e f : Bool)
    → Answers A frame a begun xs start t u e b → Answers A frame b (frame.left begun xs) ys end u v f c
    → Answers A frame a begun (xs ++ ys) end t v (e || f) c
answers_further {S} A frame is a b c t u v begun xs ys start end e f p q = record {
  answers = p.answers ++ q.answers;
  takes = all_parts A a b c (frame.entries begun (xs ++ ys)) (frame.entries begun xs) (frame.entries (frame.left begun xs) ys) p.answers q.answers (is.entries_further begun xs ys) p.takes q.takes;
  written = rw (answers_text-append p.answers q.answers) (appends_twice t u v _ _ p.written q.written);
  error_is = errors_further p.answers q.answers e f p.error_is q.error_is;
  start_is = q.start_is ∙ ap (take 129) (sym (is.left_further begun xs ys));
}

-- ---- a sink that failed

-- some replies were written, and the sink failed on a page after them
pub stops_behind : {S : Type 0} (A : Relation S) (room most : ℕ) (a b c : S) (t u v : Option (List ℕ)) (xs ys : List (List ℕ)) (rs : List Answer)
    → AnswersAll A a xs rs b → Appends t u (answers_text rs) → StopsOnPage A room most b [] ys u v c → StopsOnPage A room most a [] (xs ++ ys) t v c
stops_behind {S} A room most a b c t u v xs ys rs takes written q = record {
  earlier = xs ++ q.earlier;
  on_page = q.on_page;
  later = q.later;
  entries_are = ap (λ (l : List (List ℕ)). xs ++ l) q.entries_are ∙ sym (append_assoc xs (q.earlier ++ q.on_page) q.later)
      ∙ ap (λ (l : List (List ℕ)). l ++ q.later) (sym (append_assoc xs q.earlier q.on_page));
  before = rs ++ q.before;
  mid = q.mid;
  first = all_further A a b q.mid xs q.earlier rs q.before takes q.first;
  page = q.page;
  takes = q.takes;
  fits = q.fits;
  all_fit = q.all_fit;
  count = q.count;
  within = q.within;
  written = rw (answers_text-append rs q.before, append_assoc (answers_text rs) (answers_text q.before) (take q.count (answers_text q.page)))
      (appends_twice t u v _ _ written q.written);
}

-- `pending` was written, and the sink failed on a page after it
pub stops_opened : {S : Type 0} (A : Relation S) (room most : ℕ) (a c : S) (t u v : Option (List ℕ)) (pending : List ℕ) (xs : List (List ℕ))
    → Appends t u pending → StopsOnPage A room most a [] xs u v c → StopsOnPage A room most a pending xs t v c
stops_opened {S} A room most a c t u v pending xs written q = record {
  earlier = q.earlier;
  on_page = q.on_page;
  later = q.later;
  entries_are = q.entries_are;
  before = q.before;
  mid = q.mid;
  first = q.first;
  page = q.page;
  takes = q.takes;
  fits = q.fits;
  all_fit = q.all_fit;
  count = q.count;
  within = q.within;
  written = rw (append_assoc pending (answers_text q.before) (take q.count (answers_text q.page)))
      (appends_twice t u v pending (answers_text q.before ++ take q.count (answers_text q.page)) written q.written);
}

stops_further : {S : Type 0} (A : Relation S) (frame : Frame) → IsFrame frame → (room most : ℕ) (a b c : S) (t u v : Option (List ℕ)) (begun xs ys start : List ℕ) (e : Bool)
    → Answers A frame a begun xs start t u e b → StopsOnPage A room most b [] (seen (frame.entries (frame.left begun xs) ys)) u v c
    → StopsOnPage A room most a [] (seen (frame.entries begun (xs ++ ys))) t v c
stops_further {S} A frame is room most a b c t u v begun xs ys start e p q =
    subst (λ (l : List (List ℕ)). StopsOnPage A room most a [] l t v c)
    (sym (ap seen (is.entries_further begun xs ys) ∙ seen_further (frame.entries begun xs) (frame.entries (frame.left begun xs) ys)))
    (stops_behind A room most a b c t u v (seen (frame.entries begun xs)) (seen (frame.entries (frame.left begun xs) ys)) p.answers p.takes p.written q)

-- ---- a chunk, of which the first entries got replies

-- no entry has got a reply yet
pub first_begins : {S : Type 0} (A : Relation S) (frame : Frame) (room most : ℕ) (a : S) (t : Option (List ℕ)) (begun piece start waiting : List ℕ) → start ≡ take 129 begun → waiting ≡ []
    → AnswersFirst A frame room most a begun piece piece start t t waiting false a
first_begins {S} A frame room most a t begun piece start waiting is empty = record {
  earlier = [];
  on_page = [];
  begun_now = begun;
  entries_are = refl;
  left_is = refl;
  start_is = is;
  before = [];
  mid = a;
  first = refl;
  page = [];
  takes = refl;
  fits = inl refl;
  written = appends_none t;
  waits = empty;
  error_is = refl;
}

-- the page was written, or not
pub first_passes : {S : Type 0} (A : Relation S) (frame : Frame) (room most : ℕ) (a b : S) (t u v : Option (List ℕ)) (begun piece rest start waiting waiting_now : List ℕ) (e : Bool)
    → AnswersFirst A frame room most a begun piece rest start t u waiting e b → PassesPage u v waiting waiting_now
    → AnswersFirst A frame room most a begun piece rest start t v waiting_now e b
first_passes {S} A frame room most a b t u v begun piece rest start waiting waiting_now e p (inl same) = record {
  earlier = p.earlier;
  on_page = p.on_page;
  begun_now = p.begun_now;
  entries_are = p.entries_are;
  left_is = p.left_is;
  start_is = p.start_is;
  before = p.before;
  mid = p.mid;
  first = p.first;
  page = p.page;
  takes = p.takes;
  fits = p.fits;
  written = subst (λ (x : Option (List ℕ)). Appends t x (answers_text p.before)) (sym same.0) p.written;
  waits = same.1 ∙ p.waits;
  error_is = p.error_is;
}
first_passes {S} A frame room most a b t u v begun piece rest start waiting waiting_now e p (inr passed) = record {
  earlier = p.earlier ++ p.on_page;
  on_page = [];
  begun_now = p.begun_now;
  entries_are = p.entries_are ∙ ap (λ (l : List (List ℕ)). l ++ frame.entries p.begun_now rest) (sym (append-nil (p.earlier ++ p.on_page)));
  left_is = p.left_is;
  start_is = p.start_is;
  before = p.before ++ p.page;
  mid = b;
  first = all_parts A a p.mid b (p.earlier ++ p.on_page) p.earlier p.on_page p.before p.page refl p.first p.takes;
  page = [];
  takes = refl;
  fits = inl refl;
  written = rw (answers_text-append p.before p.page, ← p.waits) (appends_twice t u v (answers_text p.before) waiting p.written passed.0);
  waits = passed.1;
  error_is = p.error_is ∙ ap (list_any (λ (answer : Answer). answer.is_error)) (sym (append-nil (p.before ++ p.page)));
}

-- one entry more got a reply, for which there was space
pub first_more : {S : Type 0} (A : Relation S) (frame : Frame) (room most : ℕ) (a b c : S) (t u : Option (List ℕ)) (begun piece rest start waiting waiting_now next end after : List ℕ) (e f : Bool)
    → (p : AnswersFirst A frame room most a begun piece rest start t u waiting e b) → EndsEntry frame p.begun_now rest end after
    → AnswersInto A b (take 129 (p.begun_now ++ end)) waiting waiting_now f c → length waiting + most ≤ room → next ≡ []
    → AnswersFirst A frame room most a begun piece after next t u waiting_now (e || f) c
first_more {S} A frame room most a b c t u begun piece rest start waiting waiting_now next end after e f p ends r fits next_is =
    let entry : List ℕ = p.begun_now ++ end in
    let answer : Answer = record { text = r.text; is_error = f } in
    let last : answers_text (answer ∷ []) ≡ r.text = append-nil r.text in
    let taken_all : AnswersAll A b (seen (entry ∷ [])) (answer ∷ []) c = (c, r.answered, refl) in
    record {
      earlier = p.earlier;
      on_page = p.on_page ++ entry ∷ [];
      begun_now = [];
      entries_are =
          p.entries_are ∙ ap (λ (l : List (List ℕ)). (p.earlier ++ p.on_page) ++ l) ends.entries
          ∙ sym (append_assoc (p.earlier ++ p.on_page) (entry ∷ []) (frame.entries [] after))
          ∙ ap (λ (l : List (List ℕ)). l ++ frame.entries [] after) (append_assoc p.earlier p.on_page (entry ∷ []));
      left_is = p.left_is ∙ ends.left;
      start_is = next_is;
      before = p.before;
      mid = p.mid;
      first = p.first;
      page = p.page ++ answer ∷ [];
      takes = all_parts A p.mid b c (p.on_page ++ entry ∷ []) p.on_page (entry ∷ []) p.page (answer ∷ []) refl p.takes taken_all;
      fits = inr (record { first = p.page; last = answer; answers_are = refl; fits = subst (λ (l : List ℕ). length l + most ≤ room) p.waits fits });
      written = p.written;
      waits =
          r.out_is ∙ ap (λ (l : List ℕ). l ++ r.text) p.waits ∙ ap (λ (l : List ℕ). answers_text p.page ++ l) (sym last)
          ∙ sym (answers_text-append p.page (answer ∷ []));
      error_is =
          errors_further (p.before ++ p.page) (answer ∷ []) e f p.error_is (or_false f)
          ∙ ap (list_any (λ (answer : Answer). answer.is_error)) (append_assoc p.before p.page (answer ∷ []));
    }

-- no further entry ends in the piece, and the page was written
pub first_ends : {S : Type 0} (A : Relation S) (frame : Frame) (room most : ℕ) (a b : S) (t u v : Option (List ℕ)) (begun piece rest start end waiting : List ℕ) (e : Bool)
    → (p : AnswersFirst A frame room most a begun piece rest start t u waiting e b) → EndsNone frame p.begun_now rest
    → end ≡ take 129 (start ++ rest) → Appends u v waiting → Answers A frame a begun piece end t v e b
first_ends {S} A frame room most a b t u v begun piece rest start end waiting e p none end_is w = record {
  answers = p.before ++ p.page;
  takes = all_parts A a p.mid b (frame.entries begun piece) p.earlier p.on_page p.before p.page
      (p.entries_are ∙ ap (λ (l : List (List ℕ)). (p.earlier ++ p.on_page) ++ l) none.entries ∙ append-nil (p.earlier ++ p.on_page)) p.first p.takes;
  written = rw (answers_text-append p.before p.page, ← p.waits) (appends_twice t u v (answers_text p.before) waiting p.written w);
  error_is = p.error_is;
  start_is =
      end_is ∙ ap (λ (l : List ℕ). take 129 (l ++ rest)) p.start_is ∙ start_longer p.begun_now rest
      ∙ ap (take 129) (sym (p.left_is ∙ none.left));
}

-- the sink failed as the page was written
pub first_stops : {S : Type 0} (A : Relation S) (frame : Frame) (room most : ℕ) (a b : S) (t u v : Option (List ℕ)) (begun piece rest start waiting : List ℕ) (e : Bool)
    → AnswersFirst A frame room most a begun piece rest start t u waiting e b → TakesPrefix u v waiting → 0 < length waiting → length waiting ≤ room
    → StopsOnPage A room most a [] (seen (frame.entries begun piece)) t v b
first_stops {S} A frame room most a b t u v begun piece rest start waiting e p q some within = record {
  earlier = seen p.earlier;
  on_page = seen p.on_page;
  later = seen (frame.entries p.begun_now rest);
  entries_are =
      ap seen p.entries_are ∙ seen_further (p.earlier ++ p.on_page) (frame.entries p.begun_now rest)
      ∙ ap (λ (l : List (List ℕ)). l ++ seen (frame.entries p.begun_now rest)) (seen_further p.earlier p.on_page);
  before = p.before;
  mid = p.mid;
  first = p.first;
  page = p.page;
  takes = p.takes;
  fits = elim p.fits [
    | inl none ↦ absurd (omega (arith, some, ap length (p.waits ∙ ap answers_text none)))
    | inr last ↦ last
  ];
  all_fit = subst (λ (l : List ℕ). length l ≤ room) p.waits within;
  count = q.count;
  within = subst (λ (l : List ℕ). q.count ≤ length l) p.waits q.within;
  written = appends_twice t u v (answers_text p.before) (take q.count (answers_text p.page)) p.written
      (subst (λ (l : List ℕ). Appends u v (take q.count l)) p.waits q.taken);
}

-- ---- the reads

-- what waited was written
pub reads_begins : {S : Type 0} (A : Relation S) (frame : Frame) → IsFrame frame → (a : S) (pending : List ℕ) (c t u : Option (List ℕ)) (start : List ℕ) → start ≡ [] → Appends t u pending
    → Reads A frame a pending c c start t u false a
reads_begins {S} A frame is a pending c t u start empty written = record {
  text = [];
  given = consumes_none c;
  opened = u;
  opening = written;
  answers = record {
    answers = [];
    takes = rw (is.none []) refl;
    written = appends_none u;
    error_is = refl;
    start_is = rw (is.all []) empty;
  };
}

-- the sink failed in what waited
pub stops_pending : {S : Type 0} (done : S → Bool) (A E : Relation S) (frame : Frame) (room most : ℕ) (a : S) (pending : List ℕ) (c t u : Option (List ℕ)) → TakesPrefix t u pending
    → 0 < length pending
    → Pumps done A E frame room most a pending c c t u (Err Write) a
stops_pending {S} done A E frame room most a pending c t u q some = record {
  text = [];
  given = consumes_none c;
  pumps = inl (inl (refl, record { some = some; stays = refl; written = q }));
}

pub reads_more : {S : Type 0} (A : Relation S) (frame : Frame) → IsFrame frame → (a b d : S) (pending : List ℕ) (c l j t u v : Option (List ℕ)) (start end piece : List ℕ) (e f : Bool)
    → (r : Reads A frame a pending c l start t u e b) → Consumes l j piece
    → Answers A frame b (frame.left [] r.text) piece end u v f d → Reads A frame a pending c j end t v (e || f) d
reads_more {S} A frame is a b d pending c l j t u v start end piece e f r given p = record {
  text = r.text ++ piece;
  given = consumes_twice c l j r.text piece r.given given;
  opened = r.opened;
  opening = r.opening;
  answers = answers_further A frame is a b d r.opened u v [] r.text piece start end e f r.answers p;
}

-- the text that was read, after a call that gave nothing
still : (c l j : Option (List ℕ)) (text : List ℕ) → Consumes c l text → Consumes l j [] → Consumes c j text
still c l j text p q = subst (λ (x : List ℕ). Consumes c j x) (append-nil text) (consumes_twice c l j text [] p q)

-- the source failed
pub fails_reading : {S : Type 0} (done : S → Bool) (A E : Relation S) (frame : Frame) (room most : ℕ) (a b : S) (pending : List ℕ) (c l j t u : Option (List ℕ)) (start : List ℕ) (e : Bool)
    → Reads A frame a pending c l start t u e b → Consumes l j [] → Pumps done A E frame room most a pending c j t u (Err Read) b
fails_reading {S} done A E frame room most a b pending c l j t u start e r nothing = record {
  text = r.text;
  given = still c l j r.text r.given nothing;
  pumps = inl (record {
    answers = r.answers.answers;
    takes = r.answers.takes;
    written = appends_twice t r.opened u pending (answers_text r.answers.answers) r.opening r.answers.written;
  });
}

-- the sink failed in a piece
pub stops_reading : {S : Type 0} (done : S → Bool) (A E : Relation S) (frame : Frame) → IsFrame frame
    → (room most : ℕ) (a b d : S) (pending : List ℕ) (c l j t u v : Option (List ℕ)) (start piece : List ℕ) (e : Bool)
    → (r : Reads A frame a pending c l start t u e b) → Consumes l j piece
    → StopsOnPage A room most b [] (seen (frame.entries (frame.left [] r.text) piece)) u v d → Pumps done A E frame room most a pending c j t v (Err Write) d
stops_reading {S} done A E frame is room most a b d pending c l j t u v start piece e r given s = record {
  text = r.text ++ piece;
  given = consumes_twice c l j r.text piece r.given given;
  pumps = inl (inr (inl (stops_opened A room most a d t r.opened v pending (entries_of frame (r.text ++ piece)) r.opening
      (stops_further A frame is room most a b d r.opened u v [] r.text piece start e r.answers s))));
}

-- the source is at its end, and the output was ended
pub ends : {S : Type 0} (done : S → Bool) (A E : Relation S) (frame : Frame) (room most : ℕ) (a b d : S) (pending : List ℕ) (c l j t u v : Option (List ℕ)) (start : List ℕ) (e : Bool)
    (ending : Answer)
    → Reads A frame a pending c l start t u e b → Consumes l j [] → IsAtEnd j
    → EndsWith E b start ending d → Appends u v ending.text
    → Pumps done A E frame room most a pending c j t v (Ok (record { any_error = e || ending.is_error })) d
ends {S} done A E frame room most a b d pending c l j t u v start e ending r nothing at_end s w = record {
  text = r.text;
  given = still c l j r.text r.given nothing;
  pumps = inl (
    at_end,
    record {
      output = answers_text r.answers.answers ++ ending.text;
      of_text = record {
        answers = r.answers.answers;
        mid = b;
        takes = r.answers.takes;
        ending = ending;
        ends = subst (λ (x : List ℕ). EndsWith E b x ending d) r.answers.start_is s;
        output_is = refl;
        error_is = ap (λ (x : Bool). x || ending.is_error) r.answers.error_is;
      };
      written = appends_twice t r.opened v pending (answers_text r.answers.answers ++ ending.text) r.opening
          (appends_twice r.opened u v (answers_text r.answers.answers) ending.text r.answers.written w);
    },
  );
}

-- the source is at its end, and the sink failed in ending the output
pub stops_ending : {S : Type 0} (done : S → Bool) (A E : Relation S) (frame : Frame) (room most : ℕ) (a b d : S) (pending : List ℕ) (c l j t u v : Option (List ℕ)) (start : List ℕ) (e : Bool)
    (ending : Answer)
    → Reads A frame a pending c l start t u e b → Consumes l j [] → IsAtEnd j
    → EndsWith E b start ending d → TakesPrefix u v ending.text
    → Pumps done A E frame room most a pending c j t v (Err Write) d
stops_ending {S} done A E frame room most a b d pending c l j t u v start e ending r nothing at_end s w = record {
  text = r.text;
  given = still c l j r.text r.given nothing;
  pumps = inl (inr (inr (
    at_end,
    record {
      answers = r.answers.answers;
      mid = b;
      takes = r.answers.takes;
      ending = ending;
      ends = subst (λ (x : List ℕ). EndsWith E b x ending d) r.answers.start_is s;
      count = w.count;
      within = w.within;
      written = appends_twice t u v (pending ++ answers_text r.answers.answers) (take w.count ending.text)
          (appends_twice t r.opened u pending (answers_text r.answers.answers) r.opening r.answers.written) w.taken;
    },
  )));
}

-- ---- an answerer that is done

-- the page was written after the entry with which the answerer was done
pub first_done : {S : Type 0} (A : Relation S) (frame : Frame) (room most : ℕ) (a b : S) (t u v : Option (List ℕ)) (begun piece rest start waiting : List ℕ) (e : Bool)
    → AnswersFirst A frame room most a begun piece rest start t u waiting e b → Appends u v waiting → AnswersSome A frame a begun piece t v e b
first_done {S} A frame room most a b t u v begun piece rest start waiting e p w = record {
  answered = p.earlier ++ p.on_page;
  later = frame.entries p.begun_now rest;
  entries_are = p.entries_are;
  answers = p.before ++ p.page;
  takes = all_parts A a p.mid b (p.earlier ++ p.on_page) p.earlier p.on_page p.before p.page refl p.first p.takes;
  written = rw (answers_text-append p.before p.page, ← p.waits) (appends_twice t u v (answers_text p.before) waiting p.written w);
  error_is = p.error_is;
}

pub piece_goes_on : {S : Type 0} (done : S → Bool) (A : Relation S) (frame : Frame) (a b : S) (begun text start : List ℕ) (t u : Option (List ℕ)) (e : Bool)
    → AnswersPiece done A frame a begun text start t u e b → done b ≡ false → Answers A frame a begun text start t u e b
piece_goes_on {S} done A frame a b begun text start t u e (inl all) going = all.1
piece_goes_on {S} done A frame a b begun text start t u e (inr some) going = absurd (cc (some.0, going))

pub piece_done : {S : Type 0} (done : S → Bool) (A : Relation S) (frame : Frame) (a b : S) (begun text start : List ℕ) (t u : Option (List ℕ)) (e : Bool)
    → AnswersPiece done A frame a begun text start t u e b → done b ≡ true → AnswersSome A frame a begun text t u e b
piece_done {S} done A frame a b begun text start t u e (inl all) over = absurd (cc (all.0, over))
piece_done {S} done A frame a b begun text start t u e (inr some) over = some.1

stops_early : {S : Type 0} (A : Relation S) (frame : Frame) → IsFrame frame → (a b d : S) (pending : List ℕ) (c l t u v : Option (List ℕ)) (start piece : List ℕ) (e f : Bool)
    → (r : Reads A frame a pending c l start t u e b) → AnswersSome A frame b (frame.left [] r.text) piece u v f d
    → StopsEarly A a pending (entries_of frame (r.text ++ piece)) t v (e || f) d
stops_early {S} A frame is a b d pending c l t u v start piece e f r p = record {
  answered = seen (frame.entries [] r.text ++ p.answered);
  later = seen p.later;
  entries_are =
      ap seen (is.entries_further [] r.text piece ∙ ap (λ (x : List (List ℕ)). frame.entries [] r.text ++ x) p.entries_are ∙ sym (append_assoc (frame.entries [] r.text) p.answered p.later))
      ∙ seen_further (frame.entries [] r.text ++ p.answered) p.later;
  answers = r.answers.answers ++ p.answers;
  takes = all_parts A a b d (frame.entries [] r.text ++ p.answered) (frame.entries [] r.text) p.answered r.answers.answers p.answers refl r.answers.takes p.takes;
  written = rw (answers_text-append r.answers.answers p.answers)
      (appends_twice t r.opened v pending (answers_text r.answers.answers ++ answers_text p.answers) r.opening
      (appends_twice r.opened u v (answers_text r.answers.answers) (answers_text p.answers) r.answers.written p.written));
  error_is = errors_further r.answers.answers p.answers e f r.answers.error_is p.error_is;
}

kept_early : {S : Type 0} (A : Relation S) (a d : S) (pending : List ℕ) (entries : List (List ℕ)) (t v w : Option (List ℕ)) (e : Bool)
    → Keeps v w → StopsEarly A a pending entries t v e d → StopsEarly A a pending entries t w e d
kept_early {S} A a d pending entries t v w e kept p = record {
  answered = p.answered;
  later = p.later;
  entries_are = p.entries_are;
  answers = p.answers;
  takes = p.takes;
  written = then_kept t v w (pending ++ answers_text p.answers) p.written kept;
  error_is = p.error_is;
}

-- the answerer is done, and the sink was flushed
pub ends_early : {S : Type 0} (done : S → Bool) (A E : Relation S) (frame : Frame) → IsFrame frame
    → (room most : ℕ) (a b d : S) (pending : List ℕ) (c l j t u v w : Option (List ℕ)) (start piece : List ℕ) (e f : Bool)
    → (r : Reads A frame a pending c l start t u e b) → Consumes l j piece → done d ≡ true
    → AnswersSome A frame b (frame.left [] r.text) piece u v f d → Keeps v w → Pumps done A E frame room most a pending c j t w (Ok (record { any_error = e || f })) d
ends_early {S} done A E frame is room most a b d pending c l j t u v w start piece e f r given over p kept = record {
  text = r.text ++ piece;
  given = consumes_twice c l j r.text piece r.given given;
  pumps = inr (over, kept_early A a d pending (entries_of frame (r.text ++ piece)) t v w (e || f) kept (stops_early A frame is a b d pending c l t u v start piece e f r p));
}

-- the answerer is done, and the flush failed
pub stops_done : {S : Type 0} (done : S → Bool) (A E : Relation S) (frame : Frame) → IsFrame frame
    → (room most : ℕ) (a b d : S) (pending : List ℕ) (c l j t u v w : Option (List ℕ)) (start piece : List ℕ) (e f : Bool)
    → (r : Reads A frame a pending c l start t u e b) → Consumes l j piece → done d ≡ true
    → AnswersSome A frame b (frame.left [] r.text) piece u v f d → Keeps v w → Pumps done A E frame room most a pending c j t w (Err Write) d
stops_done {S} done A E frame is room most a b d pending c l j t u v w start piece e f r given over p kept = record {
  text = r.text ++ piece;
  given = consumes_twice c l j r.text piece r.given given;
  pumps = inr (over, (e || f, kept_early A a d pending (entries_of frame (r.text ++ piece)) t v w (e || f) kept (stops_early A frame is a b d pending c l t u v start piece e f r p)));
}

-- ---- the rest

-- there is none
pub ends_none : {S : Type 0} (E : Relation S) (a : S) (rest page : List ℕ) → (length rest == 0) ≡ true → page ≡ [] → EndsPage E a rest page false a
ends_none {S} E a [] page is empty = record {
  ending = record { text = []; is_error = false };
  ends = (refl, refl, refl);
  text_is = empty;
  error_is = refl;
}
ends_none {S} E a (byte ∷ rest) page is empty = absurd (omega (arith, eqb-true (length (byte ∷ rest)) 0 is))

-- there is one, and it got a reply on an empty page
pub ends_some : {S : Type 0} (E : Relation S) (a b : S) (rest page page_now : List ℕ) (error : Bool) → (length rest == 0) ≡ false → page ≡ []
    → AnswersInto E a rest page page_now error b → EndsPage E a rest page_now error b
ends_some {S} E a b [] page page_now error some empty r = absurd (eqb-false 0 0 some refl)
ends_some {S} E a b (byte ∷ rest) page page_now error some empty r = record {
  ending = record { text = r.text; is_error = error };
  ends = r.answered;
  text_is = r.out_is ∙ ap (λ (l : List ℕ). l ++ r.text) empty;
  error_is = refl;
}
