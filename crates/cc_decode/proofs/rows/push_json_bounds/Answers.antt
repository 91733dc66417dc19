use Rattle.std.proofs.Common.{◌≡◌, ◌∙◌, ℕ, List, ◌++◌, ap, append_assoc, codes, decimal, refl}
use Rattle.std.specs.List.{join_with_byte}
use Rattle.cc_word.specs.WordText.{hexadecimal}
use Rattle.cc_word.specs.declared.fields.Fields.{Fields}
use Rattle.cc_bounds.specs.declared.span.Span.{Span}
use Rattle.cc_bounds.specs.Decoding.{stored_exponent}
use Rattle.cc_io.specs.Numbered.{with_hexadecimal}
use Rattle.cc_decode.specs.Row.{json_bounds}
use Rattle.cc_decode.proofs.RowLemmas.{quoted_next}
use Rattle.cc_decode.proofs.rows.push_json_bounds.Goals as goal

-- texts that were appended one after another
joined : (old address key exponent base top close a b c d e new : List ℕ) → a ≡ old ++ address → b ≡ a ++ key → c ≡ b ++ exponent → d ≡ c ++ base → e ≡ d ++ top
    → new ≡ e ++ close → new ≡ old ++ (address ++ (key ++ (exponent ++ (base ++ (top ++ (close))))))
joined old address key exponent base top close a b c d e new p q r s t u = rw (u, t, s, r, q, p) (simp append_assoc)

-- the members in the chunks in which they are written
members : (fields : Fields) (bounds : Span)
    → with_hexadecimal (codes ",\"address\":\"") fields.address ++ (codes "\",\"exponent\":" ++ (decimal (stored_exponent fields)
    ++ (with_hexadecimal (codes ",\"base\":\"") bounds.base ++ (with_hexadecimal (codes "\",\"top\":\"") bounds.top ++ (codes "\"")))))
    ≡ codes "," ++ join_with_byte 44 (json_bounds fields bounds)
unfolding with_hexadecimal
members fields bounds =
    ap (λ (text : List ℕ). codes ",\"address\":\"" ++ text)
    (quoted_next (hexadecimal fields.address) _ _
    (ap (λ (text : List ℕ). codes ",\"exponent\":" ++ (decimal (stored_exponent fields) ++ (codes ",\"base\":\"" ++ text)))
    (quoted_next (hexadecimal bounds.base) _ _ refl)))

pub returns-clause-value : goal.returns-clause-value
returns-clause-value c =
    let decoded = c.args.decoded.now in
    joined c.args.batch.now (with_hexadecimal (codes ",\"address\":\"") decoded.fields.address) (codes "\",\"exponent\":") (decimal (stored_exponent decoded.fields))
    (with_hexadecimal (codes ",\"base\":\"") decoded.bounds.base) (with_hexadecimal (codes "\",\"top\":\"") decoded.bounds.top) (codes "\"")
    c.push_hexadecimal.new.page c.push.new.self c.push_decimal.new.batch c.push_hexadecimal-2.new.page c.push_hexadecimal-3.new.page c.push_byte.new.batch
    (c.push_hexadecimal.ensures.value ∙ ap (λ (n : ℕ). c.args.batch.now ++ with_hexadecimal (codes ",\"address\":\"") n) c.from.ensures) c.push.ensures
    (c.push_decimal.ensures.value ∙ ap (λ (n : ℕ). c.push.new.self ++ decimal n) decoded.is_exponent)
    (c.push_hexadecimal-2.ensures.value ∙ ap (λ (n : ℕ). c.push_decimal.new.batch ++ with_hexadecimal (codes ",\"base\":\"") n) c.from-2.ensures)
    c.push_hexadecimal-3.ensures.value c.push_byte.ensures.value
    ∙ ap (λ (text : List ℕ). c.args.batch.now ++ text) (members decoded.fields decoded.bounds)
