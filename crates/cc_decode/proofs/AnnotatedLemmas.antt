-- The bytes written for a text, from the contract of the pump.
use Rattle.std.proofs.Common.{
  ◌≡◌,
  ℕ,
  ◌+◌,
  ◌<◌,
  ◌≤◌,
  List,
  [],
  ◌∷◌,
  ◌++◌,
  length,
  take,
  refl,
  sym,
  ◌∙◌,
  ap,
  ap₂,
  subst,
  arith,
  append-nil,
  append_assoc,
  length-append,
  false,
  Bool,
  ◌||◌,
  Option,
  Result,
  Ok,
  Err,
  inl,
  inr,
}
use Rattle.std.proofs.lemmas.List.{take_all}
use Rattle.std.proofs.Math.Seq.{take-append-add}
use Rattle.std.specs.List.{AllByRecursion, list_any}
use Rattle.std.specs.Io.KnownBytes.{Appends}
use Rattle.cc_io.proofs.ServingLemmas.{runs_through}
use Rattle.cc_io.specs.Blocks.{blocks_text}
use Rattle.cc_io.specs.Devices.{InputState, IsOutcome, OutputState}
use Rattle.cc_io.specs.Answers.{Answer, AnswersAll, EndsWith, answers_text, seen}
use Rattle.cc_io.specs.Correct.{Pumps, PumpsText, StopsOnPage, StopsAfterAnswers}
use Rattle.cc_io.specs.declared.summary.IoError.{IoError}
use Rattle.cc_io.specs.declared.summary.IoError.TheVariants.{Read, Write}
use Rattle.cc_io.specs.declared.summary.Summary.{Summary}
use Rattle.cc_decode.specs.Annotate.{IsRun, IsAdded, Annotates, StopsInStart, AnnotatesText, AnnotatesGiven}
use Rattle.cc_decode.specs.Runs.{run_rest_from, runs, runs_from}
use Rattle.cc_decode.specs.Annotator.{Knows, AnswersRun, AnswersRest}
use Rattle.cc_decode.specs.declared.annotator.Annotator.{Annotator}
use Rattle.cc_decode.specs.declared.annotator.Before.{Before}
use Rattle.cc_decode.specs.declared.annotator.Before.TheVariants.{Outside}
use Rattle.cc_decode.proofs.RunLemmas.{IsEntry, cut}
use Rattle.cc_decode.proofs.AnnotateLemmas.{Open, first_knows, inside_knows, next_knows, marked, nothing_marked, open_end, open_join, open_run}

-- ---- entries

-- what is written for an entry, and what is known after it
record Step (old new : Before) (before entry text : List ℕ) : Type 0 where
  opens : Open before entry text
  knows : Knows new (before ++ entry)

step : (old new : Annotator) (before entry text : List ℕ) (error : Bool) → IsEntry entry → Knows old.before before
    → AnswersRun old entry text error new → Step old.before new.before before entry text
step old new before entry text error (inl e) knows a =
    let run : List ℕ = e.0 in
    let byte : ℕ = e.1 in
    let fits : length entry ≤ 64 = omega (arith, ap length e.2, length-append run (byte ∷ []), e.4) in
    let r = a.short run byte e.2 fits e.5 in
    let added : List ℕ = r.0 in
    let last : Open (before ++ run) (byte ∷ []) (added ++ byte ∷ []) =
    (added, [], refl, (λ after. marked old.before before run added (byte ∷ after) knows e.3 r.1 e.5), refl) in
    let all : Open before (run ++ byte ∷ []) (run ++ (added ++ byte ∷ [])) =
    open_join before run (byte ∷ []) run (added ++ byte ∷ []) (open_run before run e.3) last in
    record {
      opens = subst (λ (l : List ℕ). Open before l text) (sym e.2) (subst (λ (l : List ℕ). Open before (run ++ byte ∷ []) l) (sym (append_assoc run added (byte ∷ [])) ∙ sym r.2) all);
      knows = subst (λ (l : List ℕ). Knows new.before (before ++ l)) (sym e.2) (next_knows old.before before run byte knows e.3 e.5 new.before r.3);
    }
step old new before entry text error (inr e) knows a =
    let r = a.long e.1 e.0 in
    record {
      opens = subst (λ (l : List ℕ). Open before entry l) (sym r.0) (open_run before entry e.0);
      knows = subst (λ (s : Before). Knows s (before ++ entry)) (sym r.1) (inside_knows before entry e.0 e.1);
    }

record Steps (new : Before) (before entries output : List ℕ) : Type 0 where
  opens : Open before entries output
  knows : Knows new (before ++ entries)

steps : (old new : Annotator) (before : List ℕ) (entries : List (List ℕ)) (answers : List Answer) → AllByRecursion IsEntry entries → Knows old.before before
    → AnswersAll AnswersRun old entries answers new → Steps new.before before (blocks_text entries) (answers_text answers)
steps old new before [] [] each knows t = record {
  opens = refl;
  knows = subst (λ (l : List ℕ). Knows new.before l) (sym (append-nil before)) (subst (λ (s : Annotator). Knows s.before before) (sym t) knows);
}
steps old new before (entry ∷ entries) (answer ∷ answers) each knows t =
    let one = step old t.0 before entry answer.text answer.is_error each.0 knows t.1 in
    let rest = steps t.0 new (before ++ entry) entries answers each.1 one.knows t.2 in
    record {
      opens = open_join before entry (blocks_text entries) answer.text (answers_text answers) one.opens rest.opens;
      knows = subst (λ (l : List ℕ). Knows new.before l) (append_assoc before entry (blocks_text entries)) rest.knows;
    }
steps old new before [] (answer ∷ answers) each knows t = absurd t
steps old new before (entry ∷ entries) [] each knows t = absurd t

-- no reply is an error
none_wrong : (old new : Annotator) (entries : List (List ℕ)) (answers : List Answer) → AnswersAll AnswersRun old entries answers new
    → list_any (λ (answer : Answer). answer.is_error) answers ≡ false
none_wrong old new [] [] t = refl
none_wrong old new (entry ∷ entries) (answer ∷ answers) t = rw t.1.is_correct (none_wrong t.0 new entries answers t.2)
none_wrong old new [] (answer ∷ answers) t = absurd t
none_wrong old new (entry ∷ entries) [] t = absurd t

-- an annotator sees whole entries
entry_short : (entry : List ℕ) → IsEntry entry → length entry ≤ 129
entry_short entry (inl e) = omega (arith, ap length e.2, length-append e.0 (e.1 ∷ []), e.4)
entry_short entry (inr e) = omega (arith, e.1)

seen_whole : (entries : List (List ℕ)) → AllByRecursion IsEntry entries → seen entries ≡ entries
seen_whole [] each = refl
seen_whole (entry ∷ entries) each =
    ap₂ (λ (x : List ℕ) (xs : List (List ℕ)). x ∷ xs) (take_all 129 entry (entry_short entry each.0)) (seen_whole entries each.1)

blocks_join : (xs ys : List (List ℕ)) → blocks_text (xs ++ ys) ≡ blocks_text xs ++ blocks_text ys
blocks_join [] ys = refl
blocks_join (x ∷ xs) ys = ap (λ (l : List ℕ). x ++ l) (blocks_join xs ys) ∙ sym (append_assoc x (blocks_text xs) (blocks_text ys))

each_left : (xs ys : List (List ℕ)) → AllByRecursion IsEntry (xs ++ ys) → AllByRecursion IsEntry xs
each_left [] ys each = tt
each_left (x ∷ xs) ys each = (each.0, each_left xs ys each.1)

-- ---- the end of a text

-- what is written for the run at the end
record Ending (before rest : List ℕ) (ending : Answer) : Type 0 where
  added : List ℕ
  text_is : ending.text ≡ rest ++ added
  is_added : IsAdded (before ++ rest) [] added
  is_correct : ending.is_error ≡ false
  fits : length ending.text ≤ 600

ending_is : (old new : Annotator) (before rest : List ℕ) (ending : Answer) → IsRun rest → length rest < 64 → Knows old.before before
    → EndsWith AnswersRest old rest ending new → Ending before rest ending
ending_is old new before [] ending run short knows e = record {
  added = [];
  text_is = e.0;
  is_added = subst (λ (l : List ℕ). IsAdded l [] []) (sym (append-nil before)) (nothing_marked old.before before knows);
  is_correct = e.1;
  fits = omega (arith, ap length e.0);
}
ending_is old new before (byte ∷ rest) ending run short knows e =
    let r = e.run short in
    record {
      added = r.0;
      text_is = r.2;
      is_added = marked old.before before (byte ∷ rest) r.0 [] knows run r.1 tt;
      is_correct = e.is_correct;
      fits = e.fits;
    }

-- the annotator at the start of a text
abbrev pub begin : Annotator
begin = record { before = Outside }

abbrev entries_of : List ℕ → List (List ℕ)
entries_of text = runs_from [] text

abbrev rest_of : List ℕ → List ℕ
rest_of text = run_rest_from [] text

whole_entries : (text : List ℕ) → seen (entries_of text) ≡ entries_of text
whole_entries text = seen_whole (entries_of text) (cut text).each

whole_rest : (text : List ℕ) → take 129 (rest_of text) ≡ rest_of text
whole_rest text = let c = cut text in take_all 129 (rest_of text) (omega (arith, c.short))

-- the text up to some entry, annotated
started : (mid : Annotator) (entries : List (List ℕ)) (answers : List Answer) → AllByRecursion IsEntry entries
    → AnswersAll AnswersRun begin entries answers mid → Annotates [] (blocks_text entries) (answers_text answers)
started mid entries answers each t =
    let s = steps begin mid [] entries answers each first_knows t in
    subst (λ (l : List ℕ). Annotates [] (blocks_text entries) l) (append-nil (answers_text answers))
    (open_end [] (blocks_text entries) (answers_text answers) [] s.opens (nothing_marked mid.before (blocks_text entries) s.knows))

-- the whole text, annotated
record Ended (text : List ℕ) (answers : List Answer) (ending : Answer) : Type 0 where
  annotates : Annotates [] text (answers_text answers ++ ending.text)
  is_correct : (list_any (λ (answer : Answer). answer.is_error) answers || ending.is_error) ≡ false
  fits : length ending.text ≤ 600

ended : (text : List ℕ) (mid new : Annotator) (answers : List Answer) (ending : Answer) → AnswersAll AnswersRun begin (seen (entries_of text)) answers mid
    → EndsWith AnswersRest mid (take 129 (rest_of text)) ending new → Ended text answers ending
ended text mid new answers ending t e =
    let c = cut text in
    let entries : List (List ℕ) = entries_of text in
    let rest : List ℕ = rest_of text in
    let all = subst (λ (l : List (List ℕ)). AnswersAll AnswersRun begin l answers mid) (whole_entries text) t in
    let s = steps begin mid [] entries answers c.each first_knows all in
    let last = ending_is mid new (blocks_text entries) rest ending c.last c.short s.knows (subst (λ (l : List ℕ). EndsWith AnswersRest mid l ending new) (whole_rest text) e) in
    let open_all : Open [] (blocks_text entries ++ rest) (answers_text answers ++ rest) =
    open_join [] (blocks_text entries) rest (answers_text answers) rest s.opens (open_run (blocks_text entries) rest c.last) in
    let written : Annotates [] (blocks_text entries ++ rest) ((answers_text answers ++ rest) ++ last.added) =
    open_end [] (blocks_text entries ++ rest) (answers_text answers ++ rest) last.added open_all last.is_added in
    record {
      annotates =
          subst (λ (l : List ℕ). Annotates [] l (answers_text answers ++ ending.text)) (sym c.whole)
          (subst (λ (l : List ℕ). Annotates [] (blocks_text entries ++ rest) l)
          (append_assoc (answers_text answers) rest last.added ∙ ap (λ (l : List ℕ). answers_text answers ++ l) (sym last.text_is)) written);
      is_correct = ap₂ (λ (a b : Bool). a || b) (none_wrong begin mid entries answers all) last.is_correct;
      fits = last.fits;
    }

-- ---- the cases of the pump

-- the first bytes of two lists of replies
page_begins : (xs ys : List ℕ) (count : ℕ) → take (length xs + count) (xs ++ ys) ≡ xs ++ take count ys
page_begins xs ys count = take-append-add xs ys count

fits_all : (old new : Annotator) (entries : List (List ℕ)) (first : List Answer) (last : Answer) → AnswersAll AnswersRun old entries (first ++ last ∷ []) new
    → length last.text ≤ 600
fits_all old new [] [] last t = absurd t
fits_all old new [] (a ∷ first) last t = absurd t
fits_all old new (entry ∷ entries) [] last t = t.1.fits
fits_all old new (entry ∷ entries) (a ∷ first) last t = fits_all t.0 new entries first last t.2

answers_join : (rs ss : List Answer) → answers_text (rs ++ ss) ≡ answers_text rs ++ answers_text ss
answers_join [] ss = refl
answers_join (r ∷ rs) ss = ap (λ (l : List ℕ). r.text ++ l) (answers_join rs ss) ∙ sym (append_assoc r.text (answers_text rs) (answers_text ss))

all_join : (old mid new : Annotator) (xs ys : List (List ℕ)) (rs ss : List Answer) → AnswersAll AnswersRun old xs rs mid → AnswersAll AnswersRun mid ys ss new
    → AnswersAll AnswersRun old (xs ++ ys) (rs ++ ss) new
all_join old mid new [] ys [] ss p q = subst (λ (s : Annotator). AnswersAll AnswersRun s ys ss new) p q
all_join old mid new (x ∷ xs) ys (r ∷ rs) ss p q = (p.0, p.1, all_join p.0 mid new xs ys rs ss p.2 q)
all_join old mid new [] ys (r ∷ rs) ss p q = absurd p
all_join old mid new (x ∷ xs) ys [] ss p q = absurd p

stops_on_page : (text : List ℕ) (new : Annotator) (t u : Option (List ℕ)) → StopsOnPage AnswersRun 32768 600 begin [] (seen (entries_of text)) t u new
    → StopsInStart text t u
stops_on_page text new t u s =
    let c = cut text in
    let entries_are : entries_of text ≡ s.earlier ++ s.on_page ++ s.later = sym (whole_entries text) ∙ s.entries_are in
    let each = each_left (s.earlier ++ s.on_page) s.later (subst (λ (l : List (List ℕ)). AllByRecursion IsEntry l) entries_are c.each) in
    let first : List ℕ = answers_text s.before in
    let page : List ℕ = answers_text s.page in
    let output : List ℕ = first ++ page in
    let all = all_join begin s.mid new s.earlier s.on_page s.before s.page s.first s.takes in
    let last = fits_all s.mid new s.on_page s.fits.first s.fits.last (subst (λ (l : List Answer). AnswersAll AnswersRun s.mid s.on_page l new) s.fits.answers_are s.takes) in
    let page_is : page ≡ answers_text s.fits.first ++ (s.fits.last.text ++ []) = ap answers_text s.fits.answers_are ∙ answers_join s.fits.first (s.fits.last ∷ []) in
    let page_fits : length page ≤ 32768 =
    omega (arith, ap length page_is, length-append (answers_text s.fits.first) (s.fits.last.text ++ []), length-append s.fits.last.text [], last, s.fits.fits) in
    let sized : length output ≡ length first + length page = length-append first page in
    record {
      start = blocks_text (s.earlier ++ s.on_page);
      rest = blocks_text s.later ++ rest_of text;
      text_is =
          c.whole ∙ ap (λ (l : List (List ℕ)). blocks_text l ++ rest_of text) entries_are
          ∙ ap (λ (l : List ℕ). l ++ rest_of text) (blocks_join (s.earlier ++ s.on_page) s.later)
          ∙ append_assoc (blocks_text (s.earlier ++ s.on_page)) (blocks_text s.later) (rest_of text);
      output = output;
      annotates = subst (λ (l : List ℕ). Annotates [] (blocks_text (s.earlier ++ s.on_page)) l) (answers_join s.before s.page)
          (started new (s.earlier ++ s.on_page) (s.before ++ s.page) each all);
      count = length first + s.count;
      within = omega (arith, sized, s.within);
      lost = omega (arith, sized, page_fits);
      written = subst (λ (l : List ℕ). Appends t u l) (sym (page_begins first page s.count)) s.written;
    }

stops_after : (text : List ℕ) (new : Annotator) (t u : Option (List ℕ)) → StopsAfterAnswers AnswersRun AnswersRest runs begin [] text t u new
    → StopsInStart text t u
stops_after text new t u s =
    let e = ended text s.mid new s.answers s.ending s.takes s.ends in
    let first : List ℕ = answers_text s.answers in
    let sized : length (first ++ s.ending.text) ≡ length first + length s.ending.text = length-append first s.ending.text in
    record {
      start = text;
      rest = [];
      text_is = sym (append-nil text);
      output = first ++ s.ending.text;
      annotates = e.annotates;
      count = length first + s.count;
      within = omega (arith, sized, s.within);
      lost = omega (arith, sized, e.fits);
      written = subst (λ (l : List ℕ). Appends t u l) (sym (page_begins first s.ending.text s.count)) s.written;
    }

annotates_text : (text : List ℕ) (new : Annotator) (j t u : Option (List ℕ)) (result : Result Summary IoError)
    → PumpsText AnswersRun AnswersRest runs 32768 600 begin [] text j t u result new → AnnotatesText text j t u result
annotates_text text new j t u (Ok summary) p =
    let o = p.1.of_text in
    let e = ended text o.mid new o.answers o.ending o.takes o.ends in (
      p.0,
      record {
        output = answers_text o.answers ++ o.ending.text;
        annotates = e.annotates;
        written = subst (λ (l : List ℕ). Appends t u l) o.output_is p.1.written;
      },
      o.error_is ∙ e.is_correct,
    )
annotates_text text new j t u (Err Read) p =
    let c = cut text in
    record {
      start = blocks_text (entries_of text);
      rest = rest_of text;
      text_is = c.whole;
      run = c.last;
      short = c.short;
      annotated = record {
        output = answers_text p.answers;
        annotates = started new (entries_of text) p.answers c.each (subst (λ (l : List (List ℕ)). AnswersAll AnswersRun begin l p.answers new) (whole_entries text) p.takes);
        written = p.written;
      };
    }
annotates_text text new j t u (Err Write) p = elim p [
  | inl s ↦ absurd (omega (arith, s.1.some))
  | inr s ↦ elim s [
    | inl page ↦ stops_on_page text new t u page
    | inr after ↦ stops_after text new t u after.1
  ]
]

pub annotated_pumped : (new : Annotator) (pending : List ℕ) (c j : InputState) (t u : OutputState) (result : Result Summary IoError) → pending ≡ [] → IsOutcome j u result
    → Pumps (λ (state : Annotator). false) AnswersRun AnswersRest runs 32768 600 begin pending c.unread j.unread t.taken u.taken result new → AnnotatesGiven c j t u result
annotated_pumped new pending c j t u result none outcome p =
    let q = subst (λ (l : List ℕ). Pumps (λ (state : Annotator). false) AnswersRun AnswersRest runs 32768 600 begin l c.unread j.unread t.taken u.taken result new) none p in
    record {
      text = q.text;
      given = q.given;
      annotates = annotates_text q.text new j.unread t.taken u.taken result (runs_through (λ (state : Annotator). false) _ _ _ _ _ _ _ _ _ _ _ _ _ refl q);
      outcome = outcome;
    }
