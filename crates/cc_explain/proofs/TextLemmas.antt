-- A text to which pieces are appended one after another: what it holds, and its length.
use Rattle.std.proofs.Common.{◌≡◌, ℕ, ◌+◌, ◌≤◌, List, ◌++◌, length, length-append, append_assoc, ap, arith}

-- ---- a text to which six, nine or ten pieces are appended

pub six : (old a b c d e f ta tb tc td te tf : List ℕ)
    → ta ≡ old ++ a → tb ≡ ta ++ b → tc ≡ tb ++ c
    → td ≡ tc ++ d → te ≡ td ++ e → tf ≡ te ++ f
    → tf ≡ old ++ (a ++ b ++ c ++ d ++ e ++ f)
six old a b c d e f ta tb tc td te tf ea eb ec ed ee ef = rw (ef, ee, ed, ec, eb, ea) (simp append_assoc)

pub nine : (old a b c d e f g h i ta tb tc td te tf tg th ti : List ℕ)
    → ta ≡ old ++ a → tb ≡ ta ++ b → tc ≡ tb ++ c → td ≡ tc ++ d → te ≡ td ++ e
    → tf ≡ te ++ f → tg ≡ tf ++ g → th ≡ tg ++ h → ti ≡ th ++ i
    → ti ≡ old ++ (a ++ b ++ c ++ d ++ e ++ f ++ g ++ h ++ i)
nine old a b c d e f g h i ta tb tc td te tf tg th ti ea eb ec ed ee ef eg eh ei = rw (ei, eh, eg, ef, ee, ed, ec, eb, ea) (simp append_assoc)

pub ten : (old a b c d e f g h i j ta tb tc td te tf tg th ti tj : List ℕ)
    → ta ≡ old ++ a → tb ≡ ta ++ b → tc ≡ tb ++ c → td ≡ tc ++ d → te ≡ td ++ e
    → tf ≡ te ++ f → tg ≡ tf ++ g → th ≡ tg ++ h → ti ≡ th ++ i → tj ≡ ti ++ j
    → tj ≡ old ++ (a ++ b ++ c ++ d ++ e ++ f ++ g ++ h ++ i ++ j)
ten old a b c d e f g h i j ta tb tc td te tf tg th ti tj ea eb ec ed ee ef eg eh ei ej = rw (ej, ei, eh, eg, ef, ee, ed, ec, eb, ea) (simp append_assoc)

-- ---- its length

-- a piece of at most `more` bytes
pub longer : (old piece new : List ℕ) (more : ℕ) → new ≡ old ++ piece → length piece ≤ more → length new ≤ length old + more
longer old piece new more is few = let long : length new ≡ length (old ++ piece) = ap length is in omega (arith, long, length-append old piece, few)
