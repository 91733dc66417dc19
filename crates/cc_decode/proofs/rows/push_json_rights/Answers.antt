use Rattle.std.proofs.Common.{◌≡◌, ◌∙◌, ℕ, List, ◌++◌, ap, append_assoc, codes, decimal, refl, rules}
use Rattle.std.specs.List.{join_with_byte}
use Rattle.cc_word.specs.Word.{bit_of}
use Rattle.cc_word.specs.WordText.{digits_of}
use Rattle.cc_word.specs.declared.fields.Fields.{Fields}
use Rattle.cc_io.specs.Numbered.{with_digits}
use Rattle.cc_io.specs.Permissions.{permissions_array}
use Rattle.cc_decode.specs.Row.{json_rights}
use Rattle.cc_decode.proofs.RowLemmas.{quoted_next}
use Rattle.cc_decode.proofs.rows.push_json_rights.Goals as goal

-- texts that were appended one after another
joined : (old word perms key names reserved number flag bit otype close a b c d e f g h i new : List ℕ) → a ≡ old ++ word → b ≡ a ++ perms → c ≡ b ++ key → d ≡ c ++ names
    → e ≡ d ++ reserved → f ≡ e ++ number → g ≡ f ++ flag → h ≡ g ++ bit → i ≡ h ++ otype → new ≡ i ++ close
    → new ≡ old ++ (word ++ (perms ++ (key ++ (names ++ (reserved ++ (number ++ (flag ++ (bit ++ (otype ++ (close))))))))))
joined old word perms key names reserved number flag bit otype close a b c d e f g h i new p q r s t u v w x y = rw (y, x, w, v, u, t, s, r, q, p) (simp append_assoc)

-- the members in the chunks in which they are written
members : (word : ℕ) (fields : Fields)
    → with_digits (codes "\"word\":\"") 32 word ++ (with_digits (codes "\",\"perms\":\"") 4 fields.perms ++ (codes "\",\"names\":" ++ (permissions_array fields.perms
    ++ (codes ",\"reserved\":" ++ (decimal fields.reserved ++ (codes ",\"flag\":" ++ (decimal (bit_of fields.flag)
    ++ (with_digits (codes ",\"type\":\"") 5 fields.otype ++ (codes "\"")))))))))
    ≡ join_with_byte 44 (json_rights word fields)
unfolding with_digits
members word fields =
    ap (λ (text : List ℕ). codes "\"word\":\"" ++ text)
    (quoted_next (digits_of 32 word) _ _ (ap (λ (text : List ℕ). codes ",\"perms\":\"" ++ text) (quoted_next (digits_of 4 fields.perms) _ _ refl)))

pub returns-clause-value : goal.returns-clause-value
returns-clause-value c =
    let fields = c.args.fields.now in
    let flag : c.from-2.result ≡ bit_of fields.flag = search rules in
    joined c.args.batch.now (with_digits (codes "\"word\":\"") 32 c.args.word) (with_digits (codes "\",\"perms\":\"") 4 fields.perms) (codes "\",\"names\":")
    (permissions_array fields.perms) (codes ",\"reserved\":") (decimal fields.reserved) (codes ",\"flag\":") (decimal (bit_of fields.flag))
    (with_digits (codes ",\"type\":\"") 5 fields.otype) (codes "\"") c.push_digits.new.page c.push_digits-2.new.page c.push.new.self c.push_permissions_array.new.page c.push-2.new.self
    c.push_decimal.new.batch c.push-3.new.self c.push_decimal-2.new.batch c.push_digits-3.new.page c.push_byte.new.batch c.push_digits.ensures.value
    (c.push_digits-2.ensures.value ∙ ap (λ (n : ℕ). c.push_digits.new.page ++ with_digits (codes "\",\"perms\":\"") 4 n) c.from.ensures) c.push.ensures
    (c.push_permissions_array.ensures.value ∙ ap (λ (n : ℕ). c.push.new.self ++ permissions_array n) (c.from_bits_retain.ensures tt))
    c.push-2.ensures c.push_decimal.ensures.value c.push-3.ensures
    (c.push_decimal-2.ensures.value ∙ ap (λ (n : ℕ). c.push-3.new.self ++ decimal n) flag)
    (c.push_digits-3.ensures.value ∙ ap (λ (n : ℕ). c.push_decimal-2.new.batch ++ with_digits (codes ",\"type\":\"") 5 n) c.from-3.ensures)
    c.push_byte.ensures.value
    ∙ ap (λ (text : List ℕ). c.args.batch.now ++ text) (members c.args.word fields)
