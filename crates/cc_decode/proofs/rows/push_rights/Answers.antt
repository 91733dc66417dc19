use Rattle.std.proofs.Common.{◌≡◌, ◌+◌, ◌*◌, ◌^◌, ◌%◌, ◌∙◌, ap, ℕ, List, [], ◌∷◌, ◌++◌, append_assoc, arith, decimal, rules}
use Rattle.std.specs.Int.Bits.{bit_xor}
use Rattle.std.specs.Simd.Lanes.{zip2}
use Rattle.cc_word.specs.Word.{bit_of}
use Rattle.cc_word.specs.WordText.{digits_of}
use Rattle.cc_decode.proofs.RightsLemmas.{bit_below, separated}
use Rattle.cc_decode.proofs.rows.push_rights.Goals as goal

-- the pieces one after another
pieces : (old s perms flag otype last : List ℕ) → old ++ (s ++ (perms ++ (s ++ (flag ++ (s ++ (otype ++ (s ++ last)))))))
    ≡ old ++ s ++ perms ++ s ++ flag ++ s ++ otype ++ s ++ last
pieces old s perms flag otype last = simp append_assoc

pub returns-clause-value : goal.returns-clause-value
returns-clause-value c =
    let s = c.args.separator in
    let fields = c.args.fields.now in
    let flag : c.from-2.result ≡ bit_of fields.flag = search rules in
    let number : c.from.result * 2 ^ 44 % 2 ^ 64 + c.from-2.result * 2 ^ 36 % 2 ^ 64 + c.from-3.result * 2 ^ 12 % 2 ^ 64 + c.from-4.result
    ≡ fields.perms * 2 ^ 44 + bit_of fields.flag * 2 ^ 36 + fields.otype * 2 ^ 12 + c.args.last =
    omega (arith, flag, bit_below fields.flag, c.from.ensures, c.from-3.ensures, c.from-4.ensures, fields.perms_fit, fields.otype_fits) in
    let mask = bit_xor s 48 ∷ 0 ∷ 0 ∷ 0 ∷ 0 ∷ bit_xor s 48 ∷ 0 ∷ bit_xor s 48 ∷ 0 ∷ 0 ∷ 0 ∷ 0 ∷ 0 ∷ bit_xor s 48 ∷ 0 ∷ 0 ∷ [] in
    c.push.ensures
    ∙ ap (λ (l : List ℕ). c.args.batch.now ++ zip2 bit_xor l mask) c.write_half-digits.ensures
    ∙ ap (λ (l : List ℕ). c.args.batch.now ++ l)
    (separated s fields.perms fields.otype c.args.last _ fields.flag c.ranges.separator.fits fields.perms_fit fields.otype_fits c.ranges.last.fits number)
    ∙ pieces c.args.batch.now (s ∷ []) (digits_of 4 fields.perms) (decimal (bit_of fields.flag)) (digits_of 5 fields.otype) (digits_of 2 c.args.last)
