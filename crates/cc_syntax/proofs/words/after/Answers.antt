use Rattle.std.proofs.Common.{◌≡◌, ◌≢◌, ◌<◌, ◌≤◌, ◌++◌, ◌∙◌, ℕ, List, ap, ap₂, arith, drop, get_or, get_or-take, inl, inr, length, length-take-le, sym, take, take-append-drop}
use Rattle.std.proofs.lemmas.Bool.{cases_lt}
use Rattle.std.proofs.lemmas.Grind.{same_number_lists}
use Rattle.std.proofs.lemmas.List.{take-append-le}
use Rattle.cc_syntax.proofs.words.after.Goals as goal

-- A text begins with bytes that agree with its first four and with those of its first `n` that follow.
begins : (text bytes first start rest : List ℕ) (n : ℕ) → first ≡ take 4 text → start ≡ take n text → rest ≡ drop n text → n ≤ length text → length bytes ≡ n → 4 ≤ n
    → ((k : ℕ) → 0 ≤ k → k < 4 → get_or first k 0 ≡ get_or bytes k 0) → ((k : ℕ) → 4 ≤ k → k < n → get_or start k 0 ≡ get_or bytes k 0) → text ≡ bytes ++ rest
begins text bytes first start rest n is_first is_start is_rest long size four early late =
    let start_long : length start ≡ n = ap length is_start ∙ length-take-le n text long in
    let alike : (k : ℕ) → k < length start → get_or start k 0 ≡ get_or bytes k 0 = λ k below.
    let inside : k < n = omega (arith, start_long, below) in
    elim (cases_lt k 4) [
      | inl lt ↦
          ap (λ (l : List ℕ). get_or l k 0) is_start ∙ get_or-take n text k 0 inside ∙ sym (get_or-take 4 text k 0 lt)
          ∙ ap (λ (l : List ℕ). get_or l k 0) (sym is_first) ∙ early k (omega arith) lt
      | inr le ↦ late k le inside
    ] in
    let same : start ≡ bytes = same_number_lists start bytes (start_long ∙ sym size) alike in
    sym (take-append-drop n text) ∙ ap₂ (λ (l m : List ℕ). l ++ m) (sym is_start ∙ same) (sym is_rest)

-- A text does not begin with bytes if one of its first `m` differs from theirs.
misses : (text bytes first rest : List ℕ) (m at : ℕ) → first ≡ take m text → at < m → m ≤ length bytes → get_or first at 0 ≢ get_or bytes at 0 → text ≢ bytes ++ rest
misses text bytes first rest m at is below long differs same =
    differs (ap (λ (l : List ℕ). get_or l at 0) (is ∙ ap (take m) same ∙ take-append-le m bytes rest long) ∙ get_or-take m bytes at 0 below)

pub returns-clause-some : goal.returns-clause-some
returns-clause-some g c =
    let told = c.in_ok-start.ensures.cases in
    begins c.args.text.now c.args.bytes.now c.in_ok-first.first.now c.in_ok-start.start.now c.in_ok-start.rest.now g.row.N c.in_ok-first.ensures.cases.0 told.0 told.1
    (omega (arith, told.2)) c.told-bytes c.requires (c.agree.ensures.yes c.if-not-agree.false) (c.agree-2.ensures.yes c.if-not-agree-2.false)

pub returns-then-not-agree-clause-none : goal.returns-then-not-agree-clause-none
returns-then-not-agree-clause-none g c = λ rest same.
    let differs = c.agree.ensures.no c.if-not-agree.true in
    misses c.args.text.now c.args.bytes.now c.in_ok-first.first.now rest 4 differs.0 c.in_ok-first.ensures.cases.0 differs.1 (omega (arith, c.requires, c.told-bytes)) differs.2 same
