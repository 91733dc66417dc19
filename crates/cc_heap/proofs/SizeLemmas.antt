-- One more object in the row of its size.
use Rattle.std.proofs.Common.{◌≡◌, ℕ, zero, suc, true, false, ◌+◌, ◌*◌, ◌^◌, ◌<◌, ◌≤◌, List, [], ◌∷◌, length, get_or, set, arith, refl, sym, if◌then◌else◌}
use Rattle.std.proofs.Math.Pow.{pow_mono}
use Rattle.std.proofs.lemmas.Grind.{pow_more}
use Rattle.cc_heap.specs.declared.sizes.SizeTotals.{SizeTotals}
use Rattle.cc_heap.specs.Sizes.{is_of_power, with_sized_object, with_size}

of_power : (power size : ℕ) → 2 ^ power ≤ size → size < 2 * 2 ^ power → is_of_power power size ≡ true
of_power power size from below = grind (arith)

below_power : (power size : ℕ) → size < 2 ^ power → is_of_power power size ≡ false
below_power power size below = grind (arith)

above_power : (power size : ℕ) → 2 * 2 ^ power ≤ size → is_of_power power size ≡ false
above_power power size from = grind (arith)

-- no row of a higher power has the object
pub sized_above : (power size padded : ℕ) (rows : List SizeTotals) → size < 2 ^ power → with_size power size padded rows ≡ rows
sized_above power size padded [] below = refl
sized_above power size padded (row ∷ rows) below =
    (λ i. (if below_power power size below i then with_sized_object size padded row else row)
    ∷ sized_above (power + 1) size padded rows (omega (arith, pow_more 2 power, below)) i)

pub sized_at : (power place size padded : ℕ) (rows : List SizeTotals) (d : SizeTotals) → 2 ^ (power + place) ≤ size → size < 2 * 2 ^ (power + place)
    → place < length rows → set rows place (with_sized_object size padded (get_or rows place d)) ≡ with_size power size padded rows
sized_at power place size padded [] d from below within = absurd (omega (arith, within))
sized_at power zero size padded (row ∷ rows) d from below within =
    let same : power + zero ≡ power = omega arith in
    let from_here : 2 ^ power ≤ size = rw same at from in
    let below_here : size < 2 * 2 ^ power = rw same at below in
    (λ i. (if sym (of_power power size from_here below_here) i then with_sized_object size padded row else row)
    ∷ sym (sized_above (power + 1) size padded rows (omega (arith, pow_more 2 power, below_here))) i)
sized_at power (suc place) size padded (row ∷ rows) d from below within =
    let next : power + suc place ≡ power + 1 + place = omega arith in
    let grows : 2 ^ (power + 1) ≤ 2 ^ (power + suc place) = pow_mono (omega arith) in
    let from_next : 2 ^ (power + 1 + place) ≤ size = rw next at from in
    let below_next : size < 2 * 2 ^ (power + 1 + place) = rw next at below in
    (λ i. (if sym (above_power power size (omega (arith, grows, pow_more 2 power, from))) i then with_sized_object size padded row else row)
    ∷ sized_at (power + 1) place size padded rows d from_next below_next (omega (arith, within)) i)
