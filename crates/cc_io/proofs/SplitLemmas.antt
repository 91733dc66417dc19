-- The lines of a text are its one split.
use Rattle.std.proofs.Common.{◌≡◌, ◌≢◌, ℕ, List, [], ◌∷◌, ◌++◌, refl, sym, ◌∙◌, ap, append_assoc, ◌==◌, Bool, true, false, if◌then◌else◌, append-nil}
use Rattle.std.proofs.lemmas.Bool.{eqb-true, eqb-false, ne_eqb}
use Rattle.std.specs.List.{AllByRecursion}
use Rattle.cc_io.specs.Lines.{lines_from, rest_from, lines_of, rest_of, IsLine, lines_text, Splits, OneSplit}

pub line_push : (line : List ℕ) (x : ℕ) → IsLine line → x ≢ 10 → IsLine (line ++ x ∷ [])
line_push [] x h k = (k, tt)
line_push (y ∷ line) x h k = (h.0, line_push line x h.1 k)

pub splits_from : (begun text : List ℕ) → IsLine begun → Splits (begun ++ text) (lines_from begun text) (rest_from begun text)
splits_from begun [] h = record { whole = append-nil begun; each = tt; last = h }
splits_from begun (x ∷ xs) h = by_feed (x == 10) refl (splits_from [] xs tt) (λ k. splits_from (begun ++ x ∷ []) xs (line_push begun x h k)) where
  by_feed : (b : Bool) → (x == 10) ≡ b → Splits xs (lines_from [] xs) (rest_from [] xs)
      → (x ≢ 10 → Splits ((begun ++ x ∷ []) ++ xs) (lines_from (begun ++ x ∷ []) xs) (rest_from (begun ++ x ∷ []) xs))
      → Splits (begun ++ x ∷ xs) (if b then begun ∷ lines_from [] xs else lines_from (begun ++ x ∷ []) xs)
      (if b then rest_from [] xs else rest_from (begun ++ x ∷ []) xs)
  by_feed true is p q = record {
    whole =
        let feed : x ≡ 10 = eqb-true x 10 is in
        let tail : xs ≡ lines_text (lines_from [] xs) ++ rest_from [] xs = p.whole in
        ap (λ (l : List ℕ). begun ++ x ∷ l) tail
        ∙ ap (λ (n : ℕ). begun ++ n ∷ (lines_text (lines_from [] xs) ++ rest_from [] xs)) feed
        ∙ sym (append_assoc begun (10 ∷ lines_text (lines_from [] xs)) (rest_from [] xs));
    each = (h, p.each);
    last = p.last;
  }
  by_feed false is p q =
      let r = q (eqb-false x 10 is) in
      record { whole = sym (append_assoc begun (x ∷ []) xs) ∙ r.whole; each = r.each; last = r.last }

pub lines_line : (begun line text : List ℕ) → IsLine line → lines_from begun (line ++ 10 ∷ text) ≡ (begun ++ line) ∷ lines_from [] text
lines_line begun [] text h = ap (λ (l : List ℕ). l ∷ lines_from [] text) (sym (append-nil begun))
lines_line begun (x ∷ line) text h =
    rw (ne_eqb x 10 h.0) (lines_line (begun ++ x ∷ []) line text h.1 ∙ ap (λ (l : List ℕ). l ∷ lines_from [] text) (append_assoc begun (x ∷ []) line))

pub rest_line : (begun line text : List ℕ) → IsLine line → rest_from begun (line ++ 10 ∷ text) ≡ rest_from [] text
rest_line begun [] text h = refl
rest_line begun (x ∷ line) text h = rw (ne_eqb x 10 h.0) (rest_line (begun ++ x ∷ []) line text h.1)

pub lines_rest : (begun line : List ℕ) → IsLine line → lines_from begun line ≡ []
lines_rest begun [] h = refl
lines_rest begun (x ∷ line) h = rw (ne_eqb x 10 h.0) (lines_rest (begun ++ x ∷ []) line h.1)

pub rest_rest : (begun line : List ℕ) → IsLine line → rest_from begun line ≡ begun ++ line
rest_rest begun [] h = sym (append-nil begun)
rest_rest begun (x ∷ line) h = rw (ne_eqb x 10 h.0) (rest_rest (begun ++ x ∷ []) line h.1 ∙ append_assoc begun (x ∷ []) line)

pub lines_of_text : (lines : List (List ℕ)) (rest : List ℕ) → AllByRecursion IsLine lines → IsLine rest → lines_from [] (lines_text lines ++ rest) ≡ lines
lines_of_text [] rest h k = lines_rest [] rest k
lines_of_text (line ∷ lines) rest h k =
    rw (append_assoc line (10 ∷ lines_text lines) rest)
    (lines_line [] line (lines_text lines ++ rest) h.0 ∙ ap (λ (l : List (List ℕ)). line ∷ l) (lines_of_text lines rest h.1 k))

pub rest_of_text : (lines : List (List ℕ)) (rest : List ℕ) → AllByRecursion IsLine lines → IsLine rest → rest_from [] (lines_text lines ++ rest) ≡ rest
rest_of_text [] rest h k = rest_rest [] rest k
rest_of_text (line ∷ lines) rest h k =
    rw (append_assoc line (10 ∷ lines_text lines) rest) (rest_line [] line (lines_text lines ++ rest) h.0 ∙ rest_of_text lines rest h.1 k)

pub one_split : (text : List ℕ) → OneSplit text
one_split text = record {
  splits = splits_from [] text tt;
  only = λ lines rest s. (
    sym (ap lines_of s.whole ∙ lines_of_text lines rest s.each s.last),
    sym (ap rest_of s.whole ∙ rest_of_text lines rest s.each s.last),
  );
}
