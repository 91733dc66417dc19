-- The change of a tally by one more reply.
use Rattle.std.proofs.Common.{◌≡◌, ◌∙◌, ◌+◌, ◌-◌, ◌<◌, ◌^◌, ◌==◌, ◌&&◌, ◌||◌, ℕ, zero, suc, Bool, true, false, cond, List, [], ◌∷◌, ◌++◌, ap, arith, count_by, get_or, if◌then◌else◌, inl, inr}
use Rattle.std.proofs.Common.{codes, length, length-append, length-take, min, nat_le, refl, sym, take}
use Rattle.std.specs.List.{list_any, starts_with}
use Rattle.std.proofs.lemmas.Bool.{cases_lt, eqb-false, eqb-true, lt-leb, true≢false}
use Rattle.std.proofs.Math.Bool.{and-false}
use Rattle.std.proofs.Math.Dec.{eqb-suc-zero}
use Rattle.std.proofs.lemmas.List.{take_all}
use Rattle.std.proofs.lemmas.List.Sums.{sum_by-cons, sum_by_push}
use Rattle.cc_word.specs.Refusal.{code_of}
use Rattle.cc_word.specs.declared.refusal.Refusal.{Refusal}
use Rattle.cc_word.specs.declared.refusal.Refusal.TheVariants.{Full}
use Rattle.cc_values.specs.declared.reply.Reply.{Reply}
use Rattle.cc_values.specs.declared.reply.Reply.TheVariants.{Made, Shown, Rounded, PoolSet, Allocated, Freed, Swept, Refused}
use Rattle.cc_syntax.specs.LineHints.{ends_in_return, has_marked_word}
use Rattle.cc_syntax.specs.Replies.{is_error}
use Rattle.cc_syntax.specs.Tally.{Exchange, HasOneMore, IsTally, count_in, count_more, counted, first_after, first_from, is_refusal}
use Rattle.cc_syntax.specs.declared.tally.Count.{Count}
use Rattle.cc_syntax.specs.declared.tally.Tally.{Tally}

-- ---- the refusals

-- A reply that is not a refusal is not this refusal.
no_refusal : (refusal : Refusal) (reply : Reply) → is_error reply ≡ false → is_refusal refusal reply ≡ false
no_refusal refusal (Made slot word span) is = refl
no_refusal refusal (Shown word span perms flag otype parent) is = refl
no_refusal refusal (Rounded rounded granule mask) is = refl
no_refusal refusal (PoolSet slot span align) is = refl
no_refusal refusal (Allocated object slot word span held) is = refl
no_refusal refusal (Freed object revoked held) is = refl
no_refusal refusal (Swept objects revoked held) is = refl
no_refusal refusal (Refused other) is = absurd (true≢false is)

-- ---- lists with one more element

count_by-more : {A : Type 0} (passes : A → Bool) (list : List A) (last : A) (b : Bool) → passes last ≡ b
    → count_by passes (list ++ last ∷ []) ≡ count_by passes list + (if b then 1 else 0)
count_by-more passes list last b is = sum_by_push (λ x. cond (passes x) 1 0) list last ∙ ap (λ (b : Bool). count_by passes list + cond b 1 0) is

-- The number of elements that pass is above 0 if one passes, and 0 if none does.
record HasSome (some : Bool) (number : ℕ) : Type 0 where
  above : some ≡ true → 0 < number
  none : some ≡ false → number ≡ 0

any-counted : {A : Type 0} (passes : A → Bool) (list : List A) → HasSome (list_any passes list) (count_by passes list)
any-counted passes [] = record { above = λ is. absurd (true≢false (sym is)); none = λ is. refl }
any-counted passes (first ∷ list) = by_test (passes first) (list_any passes list) (sum_by-cons (λ x. cond (passes x) 1 0) first list) (any-counted passes list)
  where
    by_test : (b some : Bool) → count_by passes (first ∷ list) ≡ cond b 1 0 + count_by passes list → HasSome some (count_by passes list)
        → HasSome (b || some) (count_by passes (first ∷ list))
    by_test true some is rest = record { above = λ e. omega (arith, is); none = λ e. absurd (true≢false e) }
    by_test false some is rest = record {
      above = λ e. let least = rest.above e in omega (arith, is, least);
      none = λ e. let same = rest.none e in omega (arith, is, same);
    }

-- If no exchange passes, the number of the first that passes is 0.
first-counted : (passes : Exchange → Bool) (number : ℕ) (exchanges : List Exchange) → count_by passes exchanges ≡ 0 → first_from passes (suc number) exchanges ≡ 0
first-counted passes number [] none = refl
first-counted passes number (first ∷ exchanges) none =
    by_test (passes first) (sum_by-cons (λ x. cond (passes x) 1 0) first exchanges) (first-counted passes (suc number) exchanges)
  where
    by_test : (b : Bool) → count_by passes (first ∷ exchanges) ≡ cond b 1 0 + count_by passes exchanges
        → (count_by passes exchanges ≡ 0 → first_from passes (suc (suc number)) exchanges ≡ 0)
        → (if b then suc number else first_from passes (suc (suc number)) exchanges) ≡ 0
    by_test true is rest = absurd (omega (arith, is, none))
    by_test false is rest = rest (omega (arith, is, none))

first-above : (passes : Exchange → Bool) (number : ℕ) (exchanges : List Exchange) → 0 < count_by passes exchanges → 0 < first_from passes (suc number) exchanges
first-above passes number [] some = absurd (omega (arith, some))
first-above passes number (first ∷ exchanges) some =
    by_test (passes first) (sum_by-cons (λ x. cond (passes x) 1 0) first exchanges) (first-above passes (suc number) exchanges)
  where
    by_test : (b : Bool) → count_by passes (first ∷ exchanges) ≡ cond b 1 0 + count_by passes exchanges
        → (0 < count_by passes exchanges → 0 < first_from passes (suc (suc number)) exchanges)
        → 0 < (if b then suc number else first_from passes (suc (suc number)) exchanges)
    by_test true is rest = omega arith
    by_test false is rest = rest (omega (arith, is, some))

-- The number of the first exchange that passes, with one more exchange.
first-more : (passes : Exchange → Bool) (number : ℕ) (exchanges : List Exchange) (last : Exchange)
    → first_from passes (suc number) (exchanges ++ last ∷ []) ≡ first_after (first_from passes (suc number) exchanges) (passes last) (suc number + length exchanges)
first-more passes number [] last = by_test (passes last)
  where
    by_test : (b : Bool) → (if b then suc number else 0) ≡ first_after 0 b (suc number + 0)
    by_test true = omega arith
    by_test false = refl
first-more passes number (first ∷ exchanges) last = by_test (passes first) (first-more passes (suc number) exchanges last)
  where
    further : suc (suc number) + length exchanges ≡ suc number + suc (length exchanges)
    further = omega arith

    by_test : (b : Bool)
        → first_from passes (suc (suc number)) (exchanges ++ last ∷ []) ≡ first_after (first_from passes (suc (suc number)) exchanges) (passes last) (suc (suc number) + length exchanges)
        → (if b then suc number else first_from passes (suc (suc number)) (exchanges ++ last ∷ []))
        ≡ first_after (if b then suc number else first_from passes (suc (suc number)) exchanges) (passes last) (suc number + suc (length exchanges))
    by_test true later = refl
    by_test false later = later ∙ ap (λ (n : ℕ). first_after (first_from passes (suc (suc number)) exchanges) (passes last) n) further

first_after-counted : (first found number : ℕ) (b : Bool) → first ≡ counted found → first_after first b (counted number) ≡ counted (first_after found b number)
first_after-counted zero zero number true is = refl
first_after-counted zero zero number false is = refl
first_after-counted zero (suc found) number b is = absurd (omega (arith, is))
first_after-counted (suc first) zero number b is = absurd (omega (arith, is))
first_after-counted (suc first) (suc found) number b is = is

-- The number of the first exchange that passes, as 64-bit counters show it.
first-grows : (passes : Exchange → Bool) (exchanges : List Exchange) (last : Exchange) (first number : ℕ) (b : Bool) → passes last ≡ b
    → first ≡ counted (first_from passes 1 exchanges) → number ≡ counted (length exchanges + 1)
    → first_after first b number ≡ counted (first_from passes 1 (exchanges ++ last ∷ []))
first-grows passes exchanges last first number b is was number_is =
    let found : ℕ = first_from passes 1 exchanges in
    let same : number ≡ counted (suc 0 + length exchanges) = omega (arith, number_is) in
    ap (λ (n : ℕ). first_after first b n) same
    ∙ first_after-counted first found (suc 0 + length exchanges) b was
    ∙ ap (λ (b : Bool). counted (first_after found b (suc 0 + length exchanges))) (sym is)
    ∙ ap counted (sym (first-more passes 0 exchanges last))

-- One more exchange that does not pass changes nothing.
first_after-other : (first number : ℕ) → first_after first false number ≡ first
first_after-other zero number = refl
first_after-other (suc first) number = refl

first-kept : (passes : Exchange → Bool) (exchanges : List Exchange) (last : Exchange) → passes last ≡ false
    → first_from passes 1 (exchanges ++ last ∷ []) ≡ first_from passes 1 exchanges
first-kept passes exchanges last is =
    first-more passes 0 exchanges last
    ∙ ap (λ (b : Bool). first_after (first_from passes 1 exchanges) b (suc 0 + length exchanges)) is
    ∙ first_after-other (first_from passes 1 exchanges) (suc 0 + length exchanges)

-- ---- one count

same_count : (refusal : Refusal) (times first times' first' : ℕ) → times ≡ times' → first ≡ first'
    → ◌≡◌ {A = Count} (record { refusal = refusal; times = times; first = first }) (record { refusal = refusal; times = times'; first = first' })
same_count refusal times first times' first' p q = λ i. record { refusal = refusal; times = p i; first = q i }

-- The first line that has a refusal, with one more line that has it.
first_new : (some : Bool) (before during times found number : ℕ) → HasSome some before → (during ≡ 0 → found ≡ 0) → (0 < during → 0 < found)
    → times ≡ counted (before + during)
    → (if times == 0 then counted number else (if some then 0 else counted found)) ≡ (if some then 0 else counted (first_after found true number))
first_new true before during zero found number has none above is = absurd (let least = has.above refl in omega (arith, is, least))
first_new true before during (suc times) found number has none above is = ap (λ (b : Bool). if b then counted number else 0) (eqb-suc-zero times)
first_new false before during zero zero number has none above is = refl
first_new false before during zero (suc found) number has none above is =
    absurd (let no = none (omega (arith, is)) in omega (arith, no))
first_new false before during (suc times) zero number has none above is =
    absurd (let no = has.none refl in let least = above (omega (arith, is, no)) in omega (arith, least))
first_new false before during (suc times) (suc found) number has none above is =
    ap (λ (b : Bool). if b then counted number else counted (suc found)) (eqb-suc-zero times)

exchange_is : (opening : List Reply) (exchanges : List Exchange) (last : Exchange) (refusal : Refusal) → is_refusal refusal last.reply ≡ true
    → count_more (counted (1 + length exchanges)) (count_in opening exchanges refusal) ≡ count_in opening (exchanges ++ last ∷ []) refusal
exchange_is opening exchanges last refusal is =
    let passes : Exchange → Bool = λ exchange. is_refusal refusal exchange.reply in
    let some : Bool = list_any (is_refusal refusal) opening in
    let before : ℕ = count_by (is_refusal refusal) opening in
    let during : ℕ = count_by passes exchanges in
    let found : ℕ = first_from passes 1 exchanges in
    let more = count_by-more passes exchanges last true is in
    let first : first_from passes 1 (exchanges ++ last ∷ []) ≡ first_after found true (1 + length exchanges) =
    first-more passes 0 exchanges last ∙ ap (λ (b : Bool). first_after found b (1 + length exchanges)) is in
    same_count refusal _ _ _ _ (omega (arith, more))
    (first_new some before during (counted (before + during)) found (1 + length exchanges) (any-counted (is_refusal refusal) opening)
    (first-counted passes 0 exchanges) (first-above passes 0 exchanges) refl
    ∙ ap (λ (n : ℕ). if some then 0 else counted n) (sym first))

exchange_other : (opening : List Reply) (exchanges : List Exchange) (last : Exchange) (refusal : Refusal) → is_refusal refusal last.reply ≡ false
    → count_in opening exchanges refusal ≡ count_in opening (exchanges ++ last ∷ []) refusal
exchange_other opening exchanges last refusal is =
    let passes : Exchange → Bool = λ exchange. is_refusal refusal exchange.reply in
    let more = count_by-more passes exchanges last false is in
    same_count refusal _ _ _ _ (omega (arith, more))
    (ap (λ (n : ℕ). if list_any (is_refusal refusal) opening then 0 else counted n) (sym (first-kept passes exchanges last is)))

-- ---- all counts

-- The counts at the indices of their refusals.
abbrev AreCounts : (opening : List Reply) (exchanges : List Exchange) (counts : List Count) → Type 0
AreCounts opening exchanges counts = (refusal : Refusal) (none : Count) → get_or counts (code_of refusal - 1) none ≡ count_in opening exchanges refusal

counts_refused : (opening : List Reply) (exchanges : List Exchange) (line : List ℕ) (refusal : Refusal) (number : ℕ) (old new : List Count) → HasOneMore refusal number old new
    → number ≡ counted (length exchanges + 1) → AreCounts opening exchanges old → AreCounts opening (exchanges ++ record { line = line; reply = Refused refusal } ∷ []) new
counts_refused opening exchanges line refusal number old new one number_is was other none = by_test (code_of other == code_of refusal) refl
  where
    last : Exchange
    last = record { line = line; reply = Refused refusal }

    by_test : (b : Bool) → (code_of other == code_of refusal) ≡ b → get_or new (code_of other - 1) none ≡ count_in opening (exchanges ++ last ∷ []) other
    by_test true is =
        one.more other none (eqb-true (code_of other) (code_of refusal) is)
        ∙ ap (count_more number) (was other none)
        ∙ ap (λ (n : ℕ). count_more n (count_in opening exchanges other)) (let same : number ≡ counted (1 + length exchanges) = omega (arith, number_is) in same)
        ∙ exchange_is opening exchanges last other is
    by_test false is = one.kept other none (eqb-false (code_of other) (code_of refusal) is) ∙ was other none ∙ exchange_other opening exchanges last other is

-- ---- the tally

-- The number of the first line is 0 if there is no line, whether a setup operation has the refusal or not.
no_line : (some : Bool) → (if some then 0 else counted 0) ≡ 0
no_line true = refl
no_line false = refl

-- One more reply to a setup operation, which is not a refusal.
pub opening_taken : (opening : List Reply) (reply : Reply) (tally : Tally) → is_error reply ≡ false → IsTally opening [] tally → IsTally (opening ++ reply ∷ []) [] tally
opening_taken opening reply tally is was = record {
  lines = was.lines;
  counts = λ refusal none.
      let more = count_by-more (is_refusal refusal) opening reply false (no_refusal refusal reply is) in
      was.counts refusal none ∙ same_count refusal _ _ _ _ (omega (arith, more)) (no_line _ ∙ sym (no_line _));
  full = was.full;
  carriage_return = was.carriage_return;
  marked_word = was.marked_word;
}

-- One more line, whose reply is not a refusal.
pub line_taken : (opening : List Reply) (exchanges : List Exchange) (line : List ℕ) (reply : Reply) (old : Tally) (lines : ℕ) → lines ≡ min (old.lines + 1) (2 ^ 64 - 1)
    → is_error reply ≡ false → IsTally opening exchanges old
    → IsTally opening (exchanges ++ record { line = line; reply = reply } ∷ [])
    (record { lines = lines; counts = old.counts; full = old.full; carriage_return = old.carriage_return; marked_word = old.marked_word })
line_taken opening exchanges line reply old lines lines_are is was =
    let last : Exchange = record { line = line; reply = reply } in
    let is_return : (is_error reply && ends_in_return line) ≡ false = ap (λ (b : Bool). b && ends_in_return line) is in
    let is_word : (is_error reply && has_marked_word line) ≡ false = ap (λ (b : Bool). b && has_marked_word line) is in
    record {
      lines = omega (arith, lines_are, was.lines, length-append exchanges (last ∷ []));
      counts = λ refusal none. was.counts refusal none ∙ exchange_other opening exchanges last refusal (no_refusal refusal reply is);
      full = was.full ∙ ap counted (sym (first-kept (λ (exchange : Exchange). is_refusal Full exchange.reply) exchanges last (no_refusal Full reply is)));
      carriage_return =
          was.carriage_return
          ∙ ap counted (sym (first-kept (λ (exchange : Exchange). is_error exchange.reply && ends_in_return exchange.line) exchanges last is_return));
      marked_word =
          was.marked_word
          ∙ ap counted (sym (first-kept (λ (exchange : Exchange). is_error exchange.reply && has_marked_word exchange.line) exchanges last is_word));
    }

-- The first 129 bytes of a line show whether it has at most 128.
return-cut : (line : List ℕ) → ends_in_return (take 129 line) ≡ ends_in_return line
return-cut line = elim (cases_lt (length line) 129) [
  | inl short ↦ ap ends_in_return (take_all 129 line (omega (arith, short)))
  | inr long ↦
      let cut : nat_le (length (take 129 line)) 128 ≡ false = lt-leb (length (take 129 line)) 128 (omega (arith, long, length-take 129 line)) in
      let whole : nat_le (length line) 128 ≡ false = lt-leb (length line) 128 (omega (arith, long)) in
      rw (cut, whole) refl
]

word-cut : (line : List ℕ) → has_marked_word (take 129 line) ≡ has_marked_word line
word-cut line = elim (cases_lt (length line) 129) [
  | inl short ↦ ap has_marked_word (take_all 129 line (omega (arith, short)))
  | inr long ↦
      let cut : nat_le (length (take 129 line)) 128 ≡ false = lt-leb (length (take 129 line)) 128 (omega (arith, long, length-take 129 line)) in
      let whole : nat_le (length line) 128 ≡ false = lt-leb (length line) 128 (omega (arith, long)) in
      rw (cut, whole) refl
]

-- A line that does not begin with `rebuild ` has no marked word.
pub unmarked : (line : List ℕ) → starts_with (λ one other. one == other) line (codes "rebuild ") ≡ false → has_marked_word line ≡ false
unmarked line other = rw (other, and-false (nat_le (length line) 128)) refl

-- One more line, which is refused.
pub line_refused : (opening : List Reply) (exchanges : List Exchange) (line : List ℕ) (refusal : Refusal) (old new : Tally) → new.lines ≡ min (old.lines + 1) (2 ^ 64 - 1)
    → HasOneMore refusal new.lines old.counts new.counts
    → new.full ≡ first_after old.full (is_refusal Full (Refused refusal)) new.lines
    → new.carriage_return ≡ first_after old.carriage_return (ends_in_return (take 129 line)) new.lines
    → new.marked_word ≡ first_after old.marked_word (has_marked_word (take 129 line)) new.lines
    → IsTally opening exchanges old → IsTally opening (exchanges ++ record { line = line; reply = Refused refusal } ∷ []) new
line_refused opening exchanges line refusal old new lines_are one full_is return_is word_is was =
    let last : Exchange = record { line = line; reply = Refused refusal } in
    let number : new.lines ≡ counted (length exchanges + 1) = omega (arith, lines_are, was.lines) in
    record {
      lines = omega (arith, number, length-append exchanges (last ∷ []));
      counts = counts_refused opening exchanges line refusal new.lines old.counts new.counts one number was.counts;
      full = full_is
          ∙ first-grows (λ (exchange : Exchange). is_refusal Full exchange.reply) exchanges last old.full new.lines (is_refusal Full (Refused refusal)) refl was.full number;
      carriage_return =
          return_is
          ∙ first-grows (λ (exchange : Exchange). is_error exchange.reply && ends_in_return exchange.line) exchanges last old.carriage_return new.lines
          (ends_in_return (take 129 line)) (sym (return-cut line)) was.carriage_return number;
      marked_word =
          word_is
          ∙ first-grows (λ (exchange : Exchange). is_error exchange.reply && has_marked_word exchange.line) exchanges last old.marked_word new.lines
          (has_marked_word (take 129 line)) (sym (word-cut line)) was.marked_word number;
    }

-- ---- whether a refusal is a reply to a setup operation

-- A reply to a setup operation is the refusal if and only if the refusal was counted, and the
-- number of its first line is 0.
pub record IsInOpening (some : Bool) (times first : ℕ) : Type 0 where
  pub counted_so : some ≡ true → (0 < times) × (first ≡ 0)
  pub not_so : some ≡ false → first ≡ 0 → times ≡ 0

pub in_opening : (opening : List Reply) (exchanges : List Exchange) (refusal : Refusal)
    → IsInOpening (list_any (is_refusal refusal) opening) (count_in opening exchanges refusal).times (count_in opening exchanges refusal).first
in_opening opening exchanges refusal =
    by_some (list_any (is_refusal refusal) opening) (count_by (is_refusal refusal) opening) (count_by passes exchanges) (first_from passes 1 exchanges)
    (any-counted (is_refusal refusal) opening) (first-above passes 0 exchanges)
  where
    passes : Exchange → Bool
    passes exchange = is_refusal refusal exchange.reply

    by_some : (some : Bool) (before during found : ℕ) → HasSome some before → (0 < during → 0 < found) → IsInOpening some (counted (before + during)) (if some then 0 else counted found)
    by_some true before during found has above =
        let least = has.above refl in
        record { counted_so = λ is. (omega (arith, least), refl); not_so = λ is. absurd (true≢false is) }
    by_some false before during found has above =
        let none = has.none refl in
        record {
          counted_so = λ is. absurd (true≢false (sym is));
          not_so = λ is zero_first. elim (cases_lt 0 during) [
            | inl some ↦ let least = above some in absurd (omega (arith, least, zero_first))
            | inr less ↦ omega (arith, none, less)
          ];
        }
