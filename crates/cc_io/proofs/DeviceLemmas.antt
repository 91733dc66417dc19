-- What devices move in several calls.
use Rattle.std.proofs.Common.{◌≡◌, ℕ, ◌+◌, ◌≤◌, List, [], ◌++◌, length, take, drop, Option, Some, None, refl, sym, ◌∙◌, ap, append_assoc, arith, subst, ◌-◌}
use Rattle.std.proofs.lemmas.Grind.{common_steps}
use Rattle.std.proofs.lemmas.List.{take_all, take-take, drop-take, take-append-drop, length-drop, take_rest, append-nil}
use Rattle.std.specs.Io.KnownBytes.{Appends, Consumes, Keeps}
use Rattle.cc_io.specs.Devices.{TakesPrefix}

pub appends_none : (a : Option (List ℕ)) → Appends a a []
appends_none None = tt
appends_none (Some xs) = grind (arith, common_steps)

pub appends_twice : (a b c : Option (List ℕ)) (xs ys : List ℕ) → Appends a b xs → Appends b c ys → Appends a c (xs ++ ys)
appends_twice None b c xs ys p q = tt
appends_twice (Some zs) (Some bs) (Some cs) xs ys p q = q ∙ ap (λ (l : List ℕ). l ++ ys) p ∙ append_assoc zs xs ys
appends_twice (Some zs) (Some bs) None xs ys p q = q
appends_twice (Some zs) None c xs ys p q = elim p [ ]

pub keeps_appends : (a b : Option (List ℕ)) → Keeps a b → Appends a b []
keeps_appends None b k = tt
keeps_appends (Some xs) (Some ys) k = grind (arith, common_steps)
keeps_appends (Some xs) None k = k

pub consumes_none : (a : Option (List ℕ)) → Consumes a a []
consumes_none None = tt
consumes_none (Some xs) = refl

pub consumes_twice : (a b c : Option (List ℕ)) (xs ys : List ℕ) → Consumes a b xs → Consumes b c ys → Consumes a c (xs ++ ys)
consumes_twice None b c xs ys p q = tt
consumes_twice (Some zs) (Some bs) (Some cs) xs ys p q = p ∙ ap (λ (l : List ℕ). xs ++ l) q ∙ sym (append_assoc xs ys cs)
consumes_twice (Some zs) (Some bs) None xs ys p q = q
consumes_twice (Some zs) None c xs ys p q = elim p [ ]

pub keeps_consumes : (a b : Option (List ℕ)) → Keeps a b → Consumes a b []
keeps_consumes None b k = tt
keeps_consumes (Some xs) (Some ys) k = sym k
keeps_consumes (Some xs) None k = k

pub take_further : (i n : ℕ) (xs : List ℕ) → take (i + n) xs ≡ take i xs ++ take n (drop i xs)
take_further i n xs =
    let front : take i (take (i + n) xs) ≡ take i xs = take-take i (i + n) xs (omega arith) in
    let back : drop i (take (i + n) xs) ≡ take n (drop i xs) = drop-take i n xs in
    let whole : take i (take (i + n) xs) ++ drop i (take (i + n) xs) ≡ take (i + n) xs = take-append-drop i (take (i + n) xs) in
    cc

-- a write more of the rest, as `&bytes[i..]` is read
pub appends_further : (a b c : Option (List ℕ)) (bytes : List ℕ) (i n : ℕ)
    → Appends a b (take i bytes) → Appends b c (take n (take (length bytes - i) (drop i bytes))) → Appends a c (take (i + n) bytes)
appends_further a b c bytes i n p q =
    let r : Appends b c (take n (drop i bytes)) = subst (λ (l : List ℕ). Appends b c (take n l)) (take_rest bytes i) q in
    rw (take_further i n bytes) (appends_twice a b c (take i bytes) (take n (drop i bytes)) p r)

-- the number of bytes that such a write takes
pub count_further : (bytes : List ℕ) (i n : ℕ) → i ≤ length bytes → n ≤ length (take (length bytes - i) (drop i bytes)) → i + n ≤ length bytes
count_further bytes i n h k = omega (arith, ap length (take_rest bytes i), length-drop i bytes)

-- a first write of all the bytes
pub appends_whole : (a b : Option (List ℕ)) (bytes : List ℕ) (n : ℕ) → n ≡ length bytes → Appends a b (take n bytes) → Appends a b bytes
appends_whole a b bytes n all p =
    let same : take n bytes ≡ bytes = take_all n bytes (omega (arith, all)) in
    subst (λ (l : List ℕ). Appends a b l) same p

-- the rest of the bytes, after a first write of some
pub whole_after : (a b c : Option (List ℕ)) (bytes : List ℕ) (n : ℕ)
    → Appends a b (take n bytes) → Appends b c (take (length bytes - n) (drop n bytes)) → Appends a c bytes
whole_after a b c bytes n p q =
    let r : Appends b c (drop n bytes) = subst (λ (l : List ℕ). Appends b c l) (take_rest bytes n) q in
    subst (λ (l : List ℕ). Appends a c l) (take-append-drop n bytes) (appends_twice a b c (take n bytes) (drop n bytes) p r)

-- a prefix of the remaining bytes, after a first write of some
pub begun_after : (a b c : Option (List ℕ)) (bytes : List ℕ) (n : ℕ) → n ≤ length bytes
    → Appends a b (take n bytes) → TakesPrefix b c (take (length bytes - n) (drop n bytes)) → TakesPrefix a c bytes
begun_after a b c bytes n within p t = record {
  count = n + t.count;
  within = count_further bytes n t.count within t.within;
  taken = appends_further a b c bytes n t.count p t.taken;
}

-- a call that moved nothing, after a piece written whole
pub then_kept : (a b c : Option (List ℕ)) (xs : List ℕ) → Appends a b xs → Keeps b c → Appends a c xs
then_kept a b c xs p k = subst (λ (l : List ℕ). Appends a c l) (append-nil xs) (appends_twice a b c xs [] p (keeps_appends b c k))
