-- The first bytes of a line, on which its report depends.
use Rattle.std.proofs.Common.{suc, ◌≤◌, take, length-take, if◌then◌else◌, not, inl, inr, ◌≡◌, ℕ, ◌==◌, List, [], ◌∷◌, length, Ok, Err, refl, sym, ◌∙◌, ap, arith}
use Rattle.std.proofs.lemmas.Bool.{cases_lt, lt-ltb}
use Rattle.std.proofs.lemmas.List.{take_all}
use Rattle.cc_word.specs.declared.refusal.Refusal.TheVariants as refusal
use Rattle.cc_replay.specs.declared.report.LineReport.TheVariants as report
use Rattle.cc_replay.specs.Heaptrack.{heaptrack_in, is_told}
use Rattle.cc_replay.specs.Ltrace.{ltrace_in}
use Rattle.cc_replay.specs.Mtrace.{mtrace_in}

-- a line of more than 128 bytes is refused, unless it begins with `=`
long_mtrace : (first : ℕ) (rest : List ℕ) → 128 ≤ length rest
    → mtrace_in (first ∷ rest) ≡ (if first == 61 then Ok report.Nothing else Err refusal.Syntax)
unfolding mtrace_in
long_mtrace first rest long = rw (lt-ltb 128 (suc (length rest)) (omega (arith, long))) refl

pub mtrace_start : (line : List ℕ) → mtrace_in (take 129 line) ≡ mtrace_in line
mtrace_start [] = refl
mtrace_start (first ∷ rest) = elim (cases_lt (length rest) 128) [
  | inl short ↦ ap (λ (bytes : List ℕ). mtrace_in (first ∷ bytes)) (take_all 128 rest (omega (arith, short)))
  | inr long ↦
      let cut : length (take 128 rest) ≡ 128 = omega (arith, length-take 128 rest, long) in
      long_mtrace first (take 128 rest) (omega (arith, cut)) ∙ sym (long_mtrace first rest long)
]

-- a line of more than 128 bytes is refused, unless it reports nothing
long_heaptrack : (sign : ℕ) (rest : List ℕ) → 128 ≤ length rest
    → heaptrack_in (sign ∷ rest) ≡ (if not (is_told sign) then Ok report.Nothing else Err refusal.Syntax)
unfolding heaptrack_in
long_heaptrack sign rest long = rw (lt-ltb 128 (suc (length rest)) (omega (arith, long))) refl

pub heaptrack_start : (line : List ℕ) → heaptrack_in (take 129 line) ≡ heaptrack_in line
heaptrack_start [] = refl
heaptrack_start (sign ∷ rest) = elim (cases_lt (length rest) 128) [
  | inl short ↦ ap (λ (bytes : List ℕ). heaptrack_in (sign ∷ bytes)) (take_all 128 rest (omega (arith, short)))
  | inr long ↦
      let cut : length (take 128 rest) ≡ 128 = omega (arith, length-take 128 rest, long) in
      long_heaptrack sign (take 128 rest) (omega (arith, cut)) ∙ sym (long_heaptrack sign rest long)
]

-- a line of more than 128 bytes is refused
long_ltrace : (line : List ℕ) → 129 ≤ length line → ltrace_in line ≡ Err refusal.Syntax
unfolding ltrace_in
long_ltrace line long = rw (lt-ltb 128 (length line) (omega (arith, long))) refl

pub ltrace_start : (line : List ℕ) → ltrace_in (take 129 line) ≡ ltrace_in line
ltrace_start line = elim (cases_lt (length line) 129) [
  | inl short ↦ ap (λ (bytes : List ℕ). ltrace_in bytes) (take_all 129 line (omega (arith, short)))
  | inr long ↦
      let cut : length (take 129 line) ≡ 129 = omega (arith, length-take 129 line, long) in
      long_ltrace (take 129 line) (omega (arith, cut)) ∙ sym (long_ltrace line long)
]
