-- The laws of outputs.
use Rattle.std.proofs.Common.{◌≡◌, ℕ, ◌+◌, ◌≤◌, List, [], ◌∷◌, ◌++◌, length, take, refl, sym, ◌∙◌, ap, subst, append_assoc, append-nil, arith, length-append, Bool, true, false, ◌||◌, Option}
use Rattle.std.proofs.lemmas.List.Folds.{list_any-append}
use Rattle.std.proofs.lemmas.List.{take-append-le}
use Rattle.std.proofs.Math.Seq.{take-append-add}
use Rattle.std.specs.List.{list_any}
use Rattle.std.specs.Io.KnownBytes.{Appends}
use Rattle.cc_io.specs.Frames.{Frame, IsFrame}
use Rattle.cc_io.specs.Answers.{Answer, Relation, AnswersAll, answers_text, EndsWith, seen, entries_of, rest_of, Output}
use Rattle.cc_io.specs.Correct.{StopsOnPage, StopsInAnswer}
use Rattle.cc_io.specs.Laws.{InParts, IsOne, IsSome, BeginsOutput}
use Rattle.cc_io.proofs.EngineLemmas.{all_further, answers_text-append, seen_further}

-- ---- a text in two parts

-- the entries of two parts, if the first ends with its last entry
entries_parts : (frame : Frame) → IsFrame frame → (first second : List ℕ) → frame.left [] first ≡ []
    → entries_of frame (first ++ second) ≡ entries_of frame first ++ entries_of frame second
entries_parts frame is first second whole =
    ap seen (is.entries_further [] first second ∙ ap (λ (l : List ℕ). frame.entries [] first ++ frame.entries l second) whole)
    ∙ seen_further (frame.entries [] first) (frame.entries [] second)

rest_parts : (frame : Frame) → IsFrame frame → (first second : List ℕ) → frame.left [] first ≡ [] → rest_of frame (first ++ second) ≡ rest_of frame second
rest_parts frame is first second whole =
    ap (take 129) (is.left_further [] first second ∙ ap (λ (l : List ℕ). frame.left l second) whole)

-- the replies to entries in two parts
pub record AllParts {S : Type 0} (A : Relation S) (a : S) (xs ys : List (List ℕ)) (answers : List Answer) (c : S) : Type 0 where
  pub mid : S
  pub first : List Answer
  pub second : List Answer
  pub of_first : AnswersAll A a xs first mid
  pub of_second : AnswersAll A mid ys second c
  pub answers_are : answers ≡ first ++ second

pub all_split : {S : Type 0} (A : Relation S) (a c : S) (xs ys : List (List ℕ)) (answers : List Answer) → AnswersAll A a (xs ++ ys) answers c → AllParts A a xs ys answers c
all_split {S} A a c [] ys answers t = record { mid = a; first = []; second = answers; of_first = refl; of_second = t; answers_are = refl }
all_split {S} A a c (x ∷ xs) ys [] t = absurd t
all_split {S} A a c (x ∷ xs) ys (r ∷ rs) t =
    let p = all_split A t.0 c xs ys rs t.2 in
    record {
      mid = p.mid;
      first = r ∷ p.first;
      second = p.second;
      of_first = (t.0, t.1, p.of_first);
      of_second = p.of_second;
      answers_are = ap (λ (l : List Answer). r ∷ l) p.answers_are;
    }

or_assoc : (a b c : Bool) → ((a || b) || c) ≡ (a || (b || c))
or_assoc true b c = refl
or_assoc false b c = refl

or_none : (a : Bool) → (a || false) ≡ a
or_none true = refl
or_none false = refl

abbrev nothing : Answer
nothing = record { text = []; is_error = false }

-- a whole first part has no rest
no_ending : {S : Type 0} (E : Relation S) (frame : Frame) (a : S) (first : List ℕ) → frame.left [] first ≡ [] → EndsWith E a (rest_of frame first) nothing a
no_ending {S} E frame a first whole = rw whole (refl, refl, refl)

pub parts : {S : Type 0} (A E : Relation S) (frame : Frame) → IsFrame frame → (old : S) (first second output : List ℕ) (error : Bool) (new : S)
    → frame.left [] first ≡ [] → Output A E frame old (first ++ second) output error new → InParts A E frame old first second output error new
parts {S} A E frame is old first second output error new whole o =
    let entries = entries_parts frame is first second whole in
    let rest = rest_parts frame is first second whole in
    let p = all_split A old o.mid (entries_of frame first) (entries_of frame second) o.answers (subst (λ (l : List (List ℕ)). AnswersAll A old l o.answers o.mid) entries o.takes) in
    record {
      mid = p.mid;
      output_1 = answers_text p.first;
      error_1 = list_any (λ (answer : Answer). answer.is_error) p.first;
      of_first = record {
        answers = p.first;
        mid = p.mid;
        takes = p.of_first;
        ending = nothing;
        ends = no_ending E frame p.mid first whole;
        output_is = sym (append-nil (answers_text p.first));
        error_is = sym (or_none (list_any (λ (answer : Answer). answer.is_error) p.first));
      };
      output_2 = answers_text p.second ++ o.ending.text;
      error_2 = list_any (λ (answer : Answer). answer.is_error) p.second || o.ending.is_error;
      of_second = record {
        answers = p.second;
        mid = o.mid;
        takes = p.of_second;
        ending = o.ending;
        ends = subst (λ (l : List ℕ). EndsWith E o.mid l o.ending new) rest o.ends;
        output_is = refl;
        error_is = refl;
      };
      output_is =
          o.output_is ∙ ap (λ (l : List Answer). answers_text l ++ o.ending.text) p.answers_are
          ∙ ap (λ (l : List ℕ). l ++ o.ending.text) (answers_text-append p.first p.second)
          ∙ append_assoc (answers_text p.first) (answers_text p.second) o.ending.text;
      error_is =
          o.error_is ∙ ap (λ (l : List Answer). list_any (λ (answer : Answer). answer.is_error) l || o.ending.is_error) p.answers_are
          ∙ ap (λ (b : Bool). b || o.ending.is_error) (list_any-append (λ (answer : Answer). answer.is_error) p.first p.second)
          ∙ or_assoc (list_any (λ (answer : Answer). answer.is_error) p.first) (list_any (λ (answer : Answer). answer.is_error) p.second) o.ending.is_error;
    }

-- ---- a page of one reply

pub record One {S : Type 0} (A : Relation S) (a : S) (entries : List (List ℕ)) (answer : Answer) (b : S) : Type 0 where
  pub entry : List ℕ
  pub entries_are : entries ≡ entry ∷ []
  pub answered : A a entry answer.text answer.is_error b

one_answer : {S : Type 0} (A : Relation S) (a b : S) (entries : List (List ℕ)) (answer : Answer) → AnswersAll A a entries (answer ∷ []) b → One A a entries answer b
one_answer {S} A a b [] answer t = absurd t
one_answer {S} A a b (entry ∷ []) answer t = record { entry = entry; entries_are = refl; answered = subst (λ (s : S). A a entry answer.text answer.is_error s) (sym t.2) t.1 }
one_answer {S} A a b (entry ∷ more ∷ entries) answer t = absurd t.2

pub one_on_page : {S : Type 0} (A : Relation S) → IsSome A → (room : ℕ) (old new : S) (pending : List ℕ) (entries : List (List ℕ)) (t u : Option (List ℕ))
    → StopsOnPage A room room old pending entries t u new → StopsInAnswer A old pending entries t u new
one_on_page {S} A some room old new pending entries t u p =
    let fits = p.fits in
    let split = subst (λ (l : List Answer). AnswersAll A p.mid p.on_page l new) fits.answers_are p.takes in
    let alone = first_alone A some p.mid new p.on_page fits.first fits.last split (omega (arith, fits.fits)) in
    let page_is : p.page ≡ fits.last ∷ [] = fits.answers_are ∙ ap (λ (l : List Answer). l ++ fits.last ∷ []) alone in
    let one = one_answer A p.mid new p.on_page fits.last (subst (λ (l : List Answer). AnswersAll A p.mid p.on_page l new) page_is p.takes) in
    let text : answers_text p.page ≡ fits.last.text = ap answers_text page_is ∙ append-nil fits.last.text in
    record {
      earlier = p.earlier;
      entry = one.entry;
      later = p.later;
      entries_are =
          p.entries_are ∙ ap (λ (l : List (List ℕ)). (p.earlier ++ l) ++ p.later) one.entries_are
          ∙ append_assoc p.earlier (one.entry ∷ []) p.later;
      answers = p.before;
      mid = p.mid;
      first = p.first;
      answer = fits.last;
      last = one.answered;
      count = p.count;
      within = subst (λ (l : List ℕ). p.count ≤ length l) text p.within;
      written = subst (λ (l : List ℕ). Appends t u (pending ++ answers_text p.before ++ take p.count l)) text p.written;
    }
  where
    first_alone : {S : Type 0} (A : Relation S) → IsSome A → (a b : S) (entries : List (List ℕ)) (first : List Answer) (last : Answer)
        → AnswersAll A a entries (first ++ last ∷ []) b → length (answers_text first) ≡ 0 → first ≡ []
    first_alone {S} A some a b entries [] last t none = refl
    first_alone {S} A some a b [] (r ∷ rs) last t none = absurd t
    first_alone {S} A some a b (entry ∷ entries) (r ∷ rs) last t none =
        absurd (omega (arith, none, length-append r.text (answers_text rs), some a entry r.text r.is_error t.0 t.1))

-- ---- one reply each

answer_same : (r s : Answer) → r.text ≡ s.text → r.is_error ≡ s.is_error → r ≡ s
answer_same r s p q =
    ap (λ (text : List ℕ). record { text = text; is_error = r.is_error }) p ∙ ap (λ (error : Bool). record { text = s.text; is_error = error }) q

-- the same entries from the same state get the same replies
one_row : {S : Type 0} (A : Relation S) → IsOne A → (a b c : S) (entries : List (List ℕ)) (rs ss : List Answer)
    → AnswersAll A a entries rs b → AnswersAll A a entries ss c → rs ≡ ss
one_row {S} A one a b c [] [] [] p q = refl
one_row {S} A one a b c [] (r ∷ rs) ss p q = absurd p
one_row {S} A one a b c [] [] (s ∷ ss) p q = absurd q
one_row {S} A one a b c (x ∷ xs) [] ss p q = absurd p
one_row {S} A one a b c (x ∷ xs) (r ∷ rs) [] p q = absurd q
one_row {S} A one a b c (x ∷ xs) (r ∷ rs) (s ∷ ss) p q =
    let same : r ≡ s =
    answer_same r s (one.text a x r.text s.text r.is_error s.is_error p.0 q.0 p.1 q.1) (one.error a x r.text s.text r.is_error s.is_error p.0 q.0 p.1 q.1) in
    let mid : p.0 ≡ q.0 = one.new a x r.text s.text r.is_error s.is_error p.0 q.0 p.1 q.1 in
    let rest : rs ≡ ss = one_row A one q.0 b c xs rs ss (subst (λ (m : S). AnswersAll A m xs rs b) mid p.2) q.2 in
    ap (λ (l : List Answer). r ∷ l) rest ∙ ap (λ (x : Answer). x ∷ ss) same

-- the beginning that was written
taken_part : (pending before page more : List ℕ) (count : ℕ) → count ≤ length page
    → take ((length pending + length before) + count) (pending ++ ((before ++ page) ++ more)) ≡ (pending ++ before) ++ take count page
taken_part pending before page more count within =
    let all : pending ++ ((before ++ page) ++ more) ≡ (pending ++ before) ++ (page ++ more) =
    ap (λ (l : List ℕ). pending ++ l) (append_assoc before page more) ∙ sym (append_assoc pending before (page ++ more)) in
    let sized : (length pending + length before) + count ≡ length (pending ++ before) + count = omega (arith, length-append pending before) in
    ap (λ (n : ℕ). take n (pending ++ ((before ++ page) ++ more))) sized
    ∙ ap (λ (l : List ℕ). take (length (pending ++ before) + count) l) all
    ∙ take-append-add (pending ++ before) (page ++ more) count
    ∙ ap (λ (l : List ℕ). (pending ++ before) ++ l) (take-append-le count page more within)

pub stops_begins : {S : Type 0} (A E : Relation S) (frame : Frame) → IsFrame frame → IsOne A → (room most : ℕ) (old new : S) (pending given rest : List ℕ) (t u : Option (List ℕ))
    → StopsOnPage A room most old pending (entries_of frame given) t u new → BeginsOutput A E frame old pending (given ++ rest) t u
stops_begins {S} A E frame is one room most old new pending given rest t u p output error end o =
    let more : List (List ℕ) = seen (frame.entries (frame.left [] given) rest) in
    let entries : entries_of frame (given ++ rest) ≡ (p.earlier ++ p.on_page) ++ (p.later ++ more) =
    ap seen (is.entries_further [] given rest) ∙ seen_further (frame.entries [] given) (frame.entries (frame.left [] given) rest)
    ∙ ap (λ (l : List (List ℕ)). l ++ more) p.entries_are ∙ append_assoc (p.earlier ++ p.on_page) p.later more in
    let q = all_split A old o.mid (p.earlier ++ p.on_page) (p.later ++ more) o.answers (subst (λ (l : List (List ℕ)). AnswersAll A old l o.answers o.mid) entries o.takes) in
    let same : q.first ≡ p.before ++ p.page =
    one_row A one old q.mid new (p.earlier ++ p.on_page) q.first (p.before ++ p.page) q.of_first (all_further A old p.mid new p.earlier p.on_page p.before p.page p.first p.takes) in
    let tail : List ℕ = answers_text q.second ++ o.ending.text in
    let whole : output ≡ (answers_text p.before ++ answers_text p.page) ++ tail =
    o.output_is ∙ ap (λ (l : List Answer). answers_text l ++ o.ending.text) q.answers_are
    ∙ ap (λ (l : List ℕ). l ++ o.ending.text) (answers_text-append q.first q.second)
    ∙ append_assoc (answers_text q.first) (answers_text q.second) o.ending.text
    ∙ ap (λ (l : List Answer). answers_text l ++ tail) same
    ∙ ap (λ (l : List ℕ). l ++ tail) (answers_text-append p.before p.page) in (
      (length pending + length (answers_text p.before)) + p.count,
      subst (λ (l : List ℕ). Appends t u l)
          (sym (ap (λ (l : List ℕ). take ((length pending + length (answers_text p.before)) + p.count) (pending ++ l)) whole
          ∙ taken_part pending (answers_text p.before) (answers_text p.page) tail p.count p.within)) p.written,
    )
