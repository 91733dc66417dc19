-- Bytes that were copied to the start of 96 zero bytes.
use Rattle.std.proofs.Common.{◌≡◌, ℕ, ◌+◌, ◌-◌, ◌<◌, List, ◌++◌, Some, drop, get_or, length, replicate, slice_get, sym, ◌∙◌, ap, arith}
use Rattle.std.proofs.lemmas.List.{drop-replicate, get_or-replicate, get_or-drop, length-append, length-drop}
use Rattle.std.proofs.lemmas.Slice.{drop-append-drop}
use Rattle.std.proofs.lemmas.Option.{slice_get-get_or}

pub zeros_behind : (n : ℕ) (copied : List ℕ) → length copied ≡ n → drop n (copied ++ drop n (replicate 96 0)) ≡ replicate (96 - n) 0
zeros_behind n copied h = drop-append-drop n (replicate 96 0) copied n (grind arith) h ∙ drop-replicate n 96 0

pub zero_behind : (n : ℕ) (copied : List ℕ) → length copied ≡ n → n < 96 → slice_get (copied ++ drop n (replicate 96 0)) n ≡ Some 0
zero_behind n copied h few =
    let whole : List ℕ = copied ++ drop n (replicate 96 0) in
    let long : length whole ≡ length copied + (96 - n) = length-append copied (drop n (replicate 96 0)) ∙ ap (λ k. length copied + k) (length-drop n (replicate 96 0)) in
    let back : n ≡ n + 0 = grind arith in
    let is_zero : get_or whole n 0 ≡ 0 = ap (λ k. get_or whole k 0) back ∙ sym (get_or-drop n whole 0 0) ∙ ap (λ zeros. get_or zeros 0 0) (zeros_behind n copied h) ∙ get_or-replicate (96 - n) 0 0
    0 (grind (arith, few)) in
    slice_get-get_or whole n 0 (grind (arith, long, h, few)) ∙ ap Some is_zero
