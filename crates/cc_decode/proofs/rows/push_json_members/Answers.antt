use Rattle.std.proofs.Common.{◌≡◌, ℕ, List, ◌∷◌, [], ◌++◌, append_assoc, codes, ap, sym, Bool, true, false, arith, ◌∙◌}
use Rattle.std.specs.List.{join_with_byte}
use Rattle.cc_word.specs.declared.fields.Fields.{Fields}
use Rattle.cc_bounds.specs.declared.span.Span.{Span}
use Rattle.cc_decode.specs.Row.{json_bounds, json_canonical, json_rights, json_text}
use Rattle.cc_decode.proofs.RowLemmas.{join_append}
use Rattle.cc_decode.proofs.rows.push_json_members.Goals as goal

-- texts that were appended one after another
joined : (old rights bounds key end first second third new : List ℕ) → first ≡ old ++ rights → second ≡ first ++ (codes "," ++ bounds) → third ≡ second ++ key
    → new ≡ third ++ end → new ≡ old ++ (rights ++ (codes "," ++ (bounds ++ (key ++ end))))
joined old rights bounds key end first second third new p q r s = rw (s, r, q, p) (simp append_assoc)

-- three parts with commas between, and the text after them
parts : (rights bounds canonical close : List ℕ) → rights ++ 44 ∷ (bounds ++ 44 ∷ (canonical ++ close)) ≡ (rights ++ 44 ∷ (bounds ++ 44 ∷ canonical)) ++ close
parts rights bounds canonical close =
    ap (λ (text : List ℕ). rights ++ 44 ∷ text) (sym (append_assoc bounds (44 ∷ canonical) close))
    ∙ sym (append_assoc rights (44 ∷ (bounds ++ 44 ∷ canonical)) close)

-- the members in the parts in which they are written
members : (word : ℕ) (fields : Fields) (bounds : Span) (canonical : Bool)
    → join_with_byte 44 (json_rights word fields) ++ 44 ∷ (join_with_byte 44 (json_bounds fields bounds) ++ 44 ∷ (json_canonical canonical ++ codes "}"))
    ≡ json_text word fields bounds canonical
members word fields bounds canonical =
    parts (join_with_byte 44 (json_rights word fields)) (join_with_byte 44 (json_bounds fields bounds)) (json_canonical canonical) (codes "}")
    ∙ ap (λ (text : List ℕ). (join_with_byte 44 (json_rights word fields) ++ 44 ∷ text) ++ codes "}")
    (join_append 44 (json_bounds fields bounds) (json_canonical canonical ∷ []) (omega arith) (omega arith))
    ∙ ap (λ (text : List ℕ). text ++ codes "}")
    (join_append 44 (json_rights word fields) (json_bounds fields bounds ++ json_canonical canonical ∷ []) (omega arith) (omega arith))

pub returns-then-canonical-clause-value : goal.returns-then-canonical-clause-value
returns-then-canonical-clause-value c =
    joined c.args.batch.now (join_with_byte 44 (json_rights c.args.word c.args.decoded.now.fields))
    (join_with_byte 44 (json_bounds c.args.decoded.now.fields c.args.decoded.now.bounds)) (codes ",\"canonical\":") (codes "true}") _ _ _
    c.push-then-canonical.new.self c.push_json_rights.ensures.value c.push_json_bounds.ensures.value c.push.ensures c.push-then-canonical.ensures
    ∙ ap (λ (text : List ℕ). c.args.batch.now ++ text) (members c.args.word c.args.decoded.now.fields c.args.decoded.now.bounds true)
    ∙ ap (λ (canonical : Bool). c.args.batch.now ++ json_text c.args.word c.args.decoded.now.fields c.args.decoded.now.bounds canonical) (sym c.if-canonical.true)

pub returns-else-canonical-clause-value : goal.returns-else-canonical-clause-value
returns-else-canonical-clause-value c =
    joined c.args.batch.now (join_with_byte 44 (json_rights c.args.word c.args.decoded.now.fields))
    (join_with_byte 44 (json_bounds c.args.decoded.now.fields c.args.decoded.now.bounds)) (codes ",\"canonical\":") (codes "false}") _ _ _
    c.push-else-canonical.new.self c.push_json_rights.ensures.value c.push_json_bounds.ensures.value c.push.ensures c.push-else-canonical.ensures
    ∙ ap (λ (text : List ℕ). c.args.batch.now ++ text) (members c.args.word c.args.decoded.now.fields c.args.decoded.now.bounds false)
    ∙ ap (λ (canonical : Bool). c.args.batch.now ++ json_text c.args.word c.args.decoded.now.fields c.args.decoded.now.bounds canonical) (sym c.if-canonical.false)
