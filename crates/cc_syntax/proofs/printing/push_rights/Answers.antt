use Rattle.std.proofs.Common.{◌≡◌, ◌≤◌, ◌+◌, ◌++◌, ℕ, List, [], ◌∷◌, ap, arith, drop, length, length-append, length-drop, length-take, refl, rules, take}
use Rattle.std.proofs.lemmas.List.{take_all}
use Rattle.cc_syntax.proofs.printing.push_rights.Goals as goal

-- After `used` of 60 bytes there is room for a piece of at most `more` bytes.
roomier : (now start used more less left end : ℕ) → now ≤ start + used → start + 60 ≤ end → less ≤ more → used + more + left ≡ 60 → now + less ≤ end
roomier now start used more less left end is fits small whole = omega arith

-- After `used` of 60 bytes there is room for `more` bytes.
room : (now start used more left end : ℕ) → now ≤ start + used → start + 60 ≤ end → used + more + left ≡ 60 → now + more ≤ end
room now start used more left end is fits whole = omega arith

-- The line is longer by a piece of at most `more` bytes.
longer : (new old piece : List ℕ) (start used more : ℕ) → new ≡ old ++ piece → length piece ≤ more → length old ≤ start + used → length new ≤ start + (used + more)
longer new old piece start used more is few was = let long : length new ≡ length (old ++ piece) = ap length is in omega (arith, long, length-append old piece)

-- The line is longer by at most `more` bytes.
further : (new old start used more : ℕ) → new ≤ old + more → old ≤ start + used → new ≤ start + (used + more)
further new old start used more is was = omega arith

at_first : (n : ℕ) → n ≤ n + 0
at_first n = omega arith

one : (byte : ℕ) → length (byte ∷ []) ≤ 1
one byte = omega arith

few : (n : ℕ) (l : List ℕ) → length (take n l) ≤ n
few n l = omega (arith, length-take n l)

-- `used` bytes are at most 60.
within : (now start used left : ℕ) → now ≤ start + used → used + left ≡ 60 → now ≤ start + 60
within now start used left is whole = omega arith

-- ---- each piece fits, and the text. `search` finds these too, and takes most of the time of this proof

pub push_known-requires-2 : goal.push_known-requires-2
push_known-requires-2 g c =
    let b1 : length c.push_known.new.self ≤ length c.args.line.now + 1 = longer _ c.args.line.now (32 ∷ []) (length c.args.line.now) 0 1 c.push_known.ensures (one 32)
    (at_first (length c.args.line.now)) in
    let b2 : length c.push.new.self ≤ length c.args.line.now + 5 = longer _ c.push_known.new.self (take 4 (drop 4 c.digits_of_rights-digits.result)) (length c.args.line.now) 1 4 c.push.ensures
    (few 4 (drop 4 c.digits_of_rights-digits.result)) b1 in
    (search rules, (omega arith, room _ (length c.args.line.now) 5 1 54 _ b2 c.requires refl))

pub push_flag-requires : goal.push_flag-requires
push_flag-requires g c =
    let b1 : length c.push_known.new.self ≤ length c.args.line.now + 1 = longer _ c.args.line.now (32 ∷ []) (length c.args.line.now) 0 1 c.push_known.ensures (one 32)
    (at_first (length c.args.line.now)) in
    let b2 : length c.push.new.self ≤ length c.args.line.now + 5 = longer _ c.push_known.new.self (take 4 (drop 4 c.digits_of_rights-digits.result)) (length c.args.line.now) 1 4 c.push.ensures
    (few 4 (drop 4 c.digits_of_rights-digits.result)) b1 in
    let b3 : length c.push_known-2.new.self ≤ length c.args.line.now + 6 = longer _ c.push.new.self (32 ∷ []) (length c.args.line.now) 5 1 c.push_known-2.ensures (one 32) b2 in
    (search rules, room _ (length c.args.line.now) 6 1 53 _ b3 c.requires refl)

pub push_known-requires-3 : goal.push_known-requires-3
push_known-requires-3 g c =
    let b1 : length c.push_known.new.self ≤ length c.args.line.now + 1 = longer _ c.args.line.now (32 ∷ []) (length c.args.line.now) 0 1 c.push_known.ensures (one 32)
    (at_first (length c.args.line.now)) in
    let b2 : length c.push.new.self ≤ length c.args.line.now + 5 = longer _ c.push_known.new.self (take 4 (drop 4 c.digits_of_rights-digits.result)) (length c.args.line.now) 1 4 c.push.ensures
    (few 4 (drop 4 c.digits_of_rights-digits.result)) b1 in
    let b3 : length c.push_known-2.new.self ≤ length c.args.line.now + 6 = longer _ c.push.new.self (32 ∷ []) (length c.args.line.now) 5 1 c.push_known-2.ensures (one 32) b2 in
    let b4 : length c.push_flag.new.line ≤ length c.args.line.now + 7 = further _ (length c.push_known-2.new.self) (length c.args.line.now) 6 1 c.push_flag.ensures.fits b3 in
    (search rules, (omega arith, room _ (length c.args.line.now) 7 1 52 _ b4 c.requires refl))

pub push-requires-2 : goal.push-requires-2
push-requires-2 g c =
    let b1 : length c.push_known.new.self ≤ length c.args.line.now + 1 = longer _ c.args.line.now (32 ∷ []) (length c.args.line.now) 0 1 c.push_known.ensures (one 32)
    (at_first (length c.args.line.now)) in
    let b2 : length c.push.new.self ≤ length c.args.line.now + 5 = longer _ c.push_known.new.self (take 4 (drop 4 c.digits_of_rights-digits.result)) (length c.args.line.now) 1 4 c.push.ensures
    (few 4 (drop 4 c.digits_of_rights-digits.result)) b1 in
    let b3 : length c.push_known-2.new.self ≤ length c.args.line.now + 6 = longer _ c.push.new.self (32 ∷ []) (length c.args.line.now) 5 1 c.push_known-2.ensures (one 32) b2 in
    let b4 : length c.push_flag.new.line ≤ length c.args.line.now + 7 = further _ (length c.push_known-2.new.self) (length c.args.line.now) 6 1 c.push_flag.ensures.fits b3 in
    let b5 : length c.push_known-3.new.self ≤ length c.args.line.now + 8 = longer _ c.push_flag.new.line (32 ∷ []) (length c.args.line.now) 7 1 c.push_known-3.ensures (one 32) b4 in
    (search rules, roomier _ (length c.args.line.now) 8 5 _ 47 _ b5 c.requires (few 5 (drop 11 c.digits_of_rights-digits.result)) refl)

-- The line after each piece is the line before it with the piece at its end.
pub returns-clause-value : goal.returns-clause-value
returns-clause-value g c =
    let d : List ℕ = c.digits_of_rights-digits.result in
    let rest : take 5 (drop 11 d) ≡ drop 11 d = take_all 5 (drop 11 d) (omega (arith, length-drop 11 d)) in
    rw (
      c.push-2.ensures,
      c.push_known-3.ensures,
      c.push_flag.ensures.value,
      c.push_known-2.ensures,
      c.push.ensures,
      c.push_known.ensures,
      rest,
      c.digits_of_rights-digits.ensures.perms,
      c.digits_of_rights-digits.ensures.otype,
      c.bits.ensures,
      c.bits-2.ensures.value,
    ) refl

pub returns-clause-fits : goal.returns-clause-fits
returns-clause-fits g c =
    let b1 : length c.push_known.new.self ≤ length c.args.line.now + 1 = longer _ c.args.line.now (32 ∷ []) (length c.args.line.now) 0 1 c.push_known.ensures (one 32)
    (at_first (length c.args.line.now)) in
    let b2 : length c.push.new.self ≤ length c.args.line.now + 5 = longer _ c.push_known.new.self (take 4 (drop 4 c.digits_of_rights-digits.result)) (length c.args.line.now) 1 4 c.push.ensures
    (few 4 (drop 4 c.digits_of_rights-digits.result)) b1 in
    let b3 : length c.push_known-2.new.self ≤ length c.args.line.now + 6 = longer _ c.push.new.self (32 ∷ []) (length c.args.line.now) 5 1 c.push_known-2.ensures (one 32) b2 in
    let b4 : length c.push_flag.new.line ≤ length c.args.line.now + 7 = further _ (length c.push_known-2.new.self) (length c.args.line.now) 6 1 c.push_flag.ensures.fits b3 in
    let b5 : length c.push_known-3.new.self ≤ length c.args.line.now + 8 = longer _ c.push_flag.new.line (32 ∷ []) (length c.args.line.now) 7 1 c.push_known-3.ensures (one 32) b4 in
    let b6 : length c.push-2.new.self ≤ length c.args.line.now + 13 = longer _ c.push_known-3.new.self (take 5 (drop 11 c.digits_of_rights-digits.result)) (length c.args.line.now) 8 5
    c.push-2.ensures (few 5 (drop 11 c.digits_of_rights-digits.result)) b5 in
    within _ (length c.args.line.now) 13 47 b6 refl
