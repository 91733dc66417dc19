-- Members of an object of JSON, and joined texts.
use Rattle.std.proofs.Common.{◌≡◌, ◌<◌, arith, length, ℕ, List, [], ◌∷◌, ◌++◌, append_assoc, codes, ap, sym, refl, ◌∙◌}
use Rattle.std.specs.List.{join_with_byte}

-- a value, its closing quotation mark and the text after it
pub quoted_next : (value rest other : List ℕ) → rest ≡ other → value ++ (codes "\"" ++ rest) ≡ (value ++ codes "\"") ++ other
quoted_next value rest other same = ap (λ (text : List ℕ). value ++ (codes "\"" ++ text)) same ∙ sym (append_assoc value (codes "\"") other)

-- two joined lists with the byte between
pub join_append : (byte : ℕ) (texts others : List (List ℕ)) → 0 < length texts → 0 < length others
    → join_with_byte byte texts ++ byte ∷ join_with_byte byte others ≡ join_with_byte byte (texts ++ others)
join_append byte [] others some more = elim some [ ]
join_append byte (text ∷ []) [] some more = elim more [ ]
join_append byte (text ∷ []) (next ∷ others) some more = refl
join_append byte (first ∷ text ∷ texts) [] some more = elim more [ ]
join_append byte (first ∷ text ∷ texts) (next ∷ others) some more =
    append_assoc first (byte ∷ join_with_byte byte (text ∷ texts)) (byte ∷ join_with_byte byte (next ∷ others))
    ∙ ap (λ (rest : List ℕ). first ++ byte ∷ rest) (join_append byte (text ∷ texts) (next ∷ others) (omega arith) (omega arith))
