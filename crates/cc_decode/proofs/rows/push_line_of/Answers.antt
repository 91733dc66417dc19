use Rattle.std.proofs.Common.{◌≡◌, ℕ, List, ◌++◌, append_assoc, codes, true}
use Rattle.cc_word.specs.WordText.{hexadecimal}
use Rattle.cc_cap.specs.LineText.{letters_of, marks_of}
use Rattle.cc_decode.proofs.rows.push_line_of.Goals as goal

-- two texts that were appended to another
joined : (old address bracket letters comma base dash top close mark mid new : List ℕ) → mid ≡ old ++ address ++ bracket ++ letters
    → new ≡ mid ++ comma ++ base ++ dash ++ top ++ close ++ mark
    → new ≡ old ++ (address ++ bracket ++ letters ++ comma ++ base ++ dash ++ top ++ close ++ mark)
joined old address bracket letters comma base dash top close mark mid new p q = rw (q, p) (simp append_assoc)

pub returns-clause-value : goal.returns-clause-value
returns-clause-value c =
    joined c.args.batch.now (hexadecimal c.args.fields.now.address) (codes " [") (letters_of c.args.fields.now.perms) (codes ",")
    (hexadecimal c.args.bounds.now.base) (codes "-") (hexadecimal c.args.bounds.now.top) (codes "]") (marks_of c.args.fields.now.otype true)
    c.push_address_and_letters.new.batch c.push_bounds_and_mark.new.batch c.push_address_and_letters.ensures.value c.push_bounds_and_mark.ensures.value
