use Rattle.std.proofs.Common.{◌≡◌, ℕ, List, [], ◌∷◌, ◌++◌, append_assoc}
use Rattle.cc_word.specs.WordText.{hexadecimal}
use Rattle.cc_io.specs.Permissions.{permissions_text}
use Rattle.cc_decode.specs.Row.{values_text}
use Rattle.cc_decode.proofs.rows.push_csv_values.Goals as goal

-- two texts that were appended to another
joined : (old values comma address names mid new : List ℕ) → mid ≡ old ++ values → new ≡ mid ++ comma ++ address ++ comma ++ names
    → new ≡ old ++ (values ++ comma ++ address ++ comma ++ names)
joined old values comma address names mid new p q = rw (q, p) (simp append_assoc)

pub returns-clause-value : goal.returns-clause-value
returns-clause-value c =
    joined c.args.batch.now (values_text (44 ∷ []) c.args.word c.args.decoded.now.fields c.args.decoded.now.bounds c.args.canonical) (44 ∷ [])
    (hexadecimal c.args.decoded.now.fields.address) (permissions_text c.args.decoded.now.fields.perms) c.push_values.new.batch c.push_address_and_names.new.batch
    c.push_values.ensures.value c.push_address_and_names.ensures.value
