use mir.Val.{bool_byte}
use Rattle.std.proofs.Common.{◌≡◌, ◌∙◌, ◌-◌, ◌<◌, ap, ℕ, List, [], ◌∷◌, ◌++◌, append_assoc, arith, decimal, length, ltb, slice_index, take}
use Rattle.cc_word.specs.Word.{bit_of}
use Rattle.cc_word.specs.WordText.{digits_of}
use Rattle.cc_decode.specs.declared.rows.TheConstants.{SHORT_DECIMALS}
use Rattle.cc_decode.proofs.RightsLemmas.{exponent_fits, shortened}
use Rattle.cc_decode.proofs.rows.push_values.Goals as goal

pub returns-clause-value : goal.returns-clause-value
returns-clause-value c =
    let decoded = c.args.decoded.now in
    let fields = decoded.fields in
    let s : List ℕ = c.args.separator ∷ [] in
    let before : List ℕ = c.push_bounds.new.batch ++ s ++ digits_of 4 fields.perms ++ s ++ decimal (bit_of fields.flag) ++ s ++ digits_of 5 fields.otype ++ s in
    let fits : decoded.exponent < 53 = omega (arith, decoded.is_exponent, exponent_fits fields) in
    let listed : c.push_rights.new.batch ≡ before ++ digits_of 2 (slice_index SHORT_DECIMALS decoded.exponent) =
    c.push_rights.ensures.value ∙ ap (λ (n : ℕ). before ++ digits_of 2 (slice_index SHORT_DECIMALS n)) c.from.ensures in
    let cut : c.drop_last.new.self ≡ before ++ decimal decoded.exponent =
    c.drop_last.ensures
    ∙ ap (λ (n : ℕ). take (length c.push_rights.new.batch - n) c.push_rights.new.batch) c.from-2.ensures
    ∙ ap (λ (l : List ℕ). take (length l - bool_byte (ltb decoded.exponent 10)) l) listed
    ∙ shortened before decoded.exponent fits in
    rw (c.push_canonical.ensures.value, cut, c.push_bounds.ensures.value, decoded.is_exponent) (simp append_assoc)
