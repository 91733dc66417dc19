-- Whether a refusal is a reply to a setup operation, by its count.
use Rattle.std.proofs.Common.{◌≡◌, ◌==◌, ◌&&◌, ℕ, zero, suc, Bool, true, false, List, arith, nat_lt, refl, subst, sym}
use Rattle.std.specs.List.{list_any}
use Rattle.std.proofs.lemmas.Bool.{lt-ltb}
use Rattle.std.proofs.Math.Dec.{eqb-suc-zero}
use Rattle.cc_word.specs.declared.refusal.Refusal.{Refusal}
use Rattle.cc_values.specs.declared.reply.Reply.{Reply}
use Rattle.cc_syntax.specs.Hints.{is_in_opening}
use Rattle.cc_syntax.specs.Tally.{Exchange, count_in, is_refusal}
use Rattle.cc_syntax.specs.declared.tally.Count.{Count}
use Rattle.cc_syntax.proofs.TallyLemmas.{IsInOpening, in_opening}

pub any_in_opening : (opening : List Reply) (exchanges : List Exchange) (refusal : Refusal) (count : Count) → count ≡ count_in opening exchanges refusal
    → is_in_opening count ≡ list_any (is_refusal refusal) opening
any_in_opening opening exchanges refusal count is =
    by_some (list_any (is_refusal refusal) opening) count.times count.first
    (subst (λ (c : Count). IsInOpening (list_any (is_refusal refusal) opening) c.times c.first) (sym is) (in_opening opening exchanges refusal))
  where
    by_some : (b : Bool) (times first : ℕ) → IsInOpening b times first → (nat_lt 0 times && (first == 0)) ≡ b
    by_some true times first so =
        let both = so.counted_so refl in rw (both.1, lt-ltb 0 times both.0) refl
    by_some false zero first so = refl
    by_some false (suc times) zero so = absurd (omega (arith, so.not_so refl refl))
    by_some false (suc times) (suc first) so = rw (eqb-suc-zero first, lt-ltb 0 (suc times) (omega arith)) refl
