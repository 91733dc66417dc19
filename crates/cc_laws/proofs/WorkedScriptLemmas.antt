-- The script of README has README's output.
use Rattle.std.proofs.Common.{ℕ, zero, suc, Bool, true, ◌≡◌, ◌≢◌, ◌⊎◌, ◌<◌, ◌≤◌, ◌^◌, ◌∙◌, List, [], ◌∷◌, ◌++◌, Some, None, Result, Ok, map, refl, sym, ap, subst, inl, inr, arith}
use Rattle.cc_word.specs.declared.refusal.Refusal.{Refusal}
use Rattle.cc_word.specs.declared.refusal.Refusal.TheVariants.{Revoked}
use Rattle.cc_bounds.specs.declared.span.Span.{Span}
use Rattle.cc_bounds.specs.declared.align.Align.TheVariants.{One}
use Rattle.std.proofs.Math.Decide.{dec_lt}
use Rattle.std.specs.List.{Contains}
use Rattle.cc_bounds.specs.Span.{IsSpan, SharesByte, from_zero, span_from}
use Rattle.cc_bounds.specs.Granule.{IsGranted, IsGranule, IsSound, exponent_of, first_exponent, granule_of, granted_span}
use Rattle.cc_bounds.proofs.ComputingLemmas.{from_zero-span, granted_span-is, granule_of-is}
use Rattle.cc_bounds.proofs.SoundDecodingLemmas.{inside-Represents}
use Rattle.cc_cap.specs.Capability.{Capability, IsCapability, at_address, root_capability, with_span}
use Rattle.cc_cap.specs.Canonical.{IsWordOf, word_of_capability}
use Rattle.cc_cap.proofs.BoundsLemmas.{root-IsCapability}
use Rattle.cc_cap.proofs.CanonicalLemmas.{IsWordOf-word_of_capability}
use Rattle.cc_placer.specs.Align.{IsUnit}
use Rattle.cc_placer.specs.Placement.{IsPlace, IsPlacement}
use Rattle.cc_plan.specs.declared.planned_object.ObjectState.TheVariants.{Live, Freed, Swept}
use Rattle.cc_plan.specs.Plan.{capability_over, span_at}
use Rattle.cc_syntax.specs.Commands.{operation_of}
use Rattle.cc_syntax.specs.Planning.{plan_opening}
use Rattle.cc_values.specs.declared.op.Op.{Op}
use Rattle.cc_values.specs.declared.op.Op.TheVariants as op
use Rattle.cc_values.specs.declared.reply.Reply.{Reply}
use Rattle.cc_values.specs.declared.reply.Reply.TheVariants as reply
use Rattle.cc_machine.specs.declared.object.Object.{Object}
use Rattle.cc_machine.specs.State.{State, SlotState, IsAncestor, IsParent, IsSlot, initial_state, tagged_slot, with_slot}
use Rattle.cc_machine.specs.State.IsAncestor.{parent_of, above_parent}
use Rattle.cc_machine.specs.Objects.{BelongsToSome, IsObject, with_object}
use Rattle.cc_machine.specs.Step.{RevokesIf, Step}
use Rattle.cc_machine.proofs.SlotLemmas.{IsSlot-within}
use Rattle.cc_io.specs.Lines.{lines_of}
use Rattle.std.specs.Fmt.{digits}
use Rattle.std.proofs.lemmas.List.{append-nil}
use Rattle.cc_word.specs.WordText.{digits_of}
use Rattle.cc_syntax.specs.Replies.{reply_text}
use Rattle.cc_script.specs.Output.{ScriptOutput, TakesAll, replies_text}
use Rattle.cc_script.proofs.OutputLemmas.{one_output}
use Rattle.cc_laws.proofs.ResultLemmas.{has_word}
use Rattle.cc_laws.specs.WorkedScript.{readme_output, readme_script}

-- ---- the capabilities, and their words

abbrev pub base_capability : Capability
base_capability = at_address root_capability 0x10000

abbrev pub pool_span : Span
pool_span = span_from 0x10000 65536

abbrev pub pool_capability : Capability
pool_capability = with_span base_capability pool_span

abbrev pub first_capability : Capability
first_capability = capability_over (span_at 1 0x10000 100) pool_capability

abbrev pub second_capability : Capability
second_capability = capability_over (span_at 16 0x10070 8191) pool_capability

-- a span that is granted unchanged is sound
sound-of : (span : Span) → IsSpan span → span ≡ granted_span span → IsSound span
sound-of span is same = subst (λ (s : Span). IsGranted span s) (sym same) (granted_span-is span is)

pool-is_span : IsSpan pool_span
pool-is_span = record { in_order = omega arith; base_fits = omega arith; top_fits = omega arith }

first-is_span : IsSpan (span_at 1 0x10000 100)
first-is_span = record { in_order = omega arith; base_fits = omega arith; top_fits = omega arith }

second-is_span : IsSpan (span_at 16 0x10070 8191)
second-is_span = record { in_order = omega arith; base_fits = omega arith; top_fits = omega arith }

pool-granted : pool_span ≡ granted_span pool_span
unfolding granule_of exponent_of first_exponent
pool-granted = refl

first-granted : span_at 1 0x10000 100 ≡ granted_span (span_at 1 0x10000 100)
unfolding granule_of exponent_of first_exponent
first-granted = refl

second-granted : span_at 16 0x10070 8191 ≡ granted_span (span_at 16 0x10070 8191)
unfolding granule_of exponent_of first_exponent
second-granted = refl

-- the root's permissions over a sound span, at an address in it
over : (span : Span) (address : ℕ) → IsSpan span → IsSound span → span.base ≤ address → address ≤ span.top → address < 2 ^ 64
    → IsCapability (record root_capability { span = span; address = address })
over span address is sound from to fits = record {
  is_span = is;
  sound = sound;
  address_fits = fits;
  representable = inside-Represents span address is sound from to;
  permissions_fit = root-IsCapability.permissions_fit;
  is_type = root-IsCapability.is_type;
}

-- the word, if it is the computed one
word_is : (cap : Capability) (word : ℕ) → IsCapability cap → word_of_capability cap ≡ word → IsWordOf cap word
word_is cap word is same =
    let has = has_word cap is in
    subst (λ (w : ℕ). IsWordOf cap w) (IsWordOf-word_of_capability cap has.word has.is_word ∙ same) has.is_word

base-computed : word_of_capability base_capability ≡ 0xffff0000000000000000000000010000
unfolding word_of_capability exponent_of first_exponent
base-computed = refl

pool-computed : word_of_capability pool_capability ≡ 0xffff0000000190000000000000010000
unfolding word_of_capability exponent_of first_exponent
pool-computed = refl

first-computed : word_of_capability first_capability ≡ 0xffff0000041880040000000000010000
unfolding word_of_capability exponent_of first_exponent
first-computed = refl

second-computed : word_of_capability second_capability ≡ 0xffff0000000f803d0000000000010070
unfolding word_of_capability exponent_of first_exponent
second-computed = refl

pub pool-sound : IsSound pool_span
pool-sound = sound-of pool_span pool-is_span pool-granted

pub base-word : IsWordOf base_capability 0xffff0000000000000000000000010000
base-word =
    word_is base_capability 0xffff0000000000000000000000010000
    (over (from_zero (2 ^ 64)) 0x10000 root-IsCapability.is_span root-IsCapability.sound (omega arith) (omega arith) (omega arith)) base-computed

pub pool-word : IsWordOf pool_capability 0xffff0000000190000000000000010000
pool-word =
    word_is pool_capability 0xffff0000000190000000000000010000
    (over pool_span 0x10000 pool-is_span pool-sound (omega arith) (omega arith) (omega arith)) pool-computed

first-word : IsWordOf first_capability 0xffff0000041880040000000000010000
first-word =
    word_is first_capability 0xffff0000041880040000000000010000
    (over (span_at 1 0x10000 100) 0x10000 first-is_span (sound-of (span_at 1 0x10000 100) first-is_span first-granted)
    (omega arith) (omega arith) (omega arith)) first-computed

second-word : IsWordOf second_capability 0xffff0000000f803d0000000000010070
second-word =
    word_is second_capability 0xffff0000000f803d0000000000010070
    (over (span_at 16 0x10070 8191) 0x10070 second-is_span (sound-of (span_at 16 0x10070 8191) second-is_span second-granted)
    (omega arith) (omega arith) (omega arith)) second-computed

-- ---- the states

abbrev pub with_base : State
with_base = with_slot (initial_state 4096) base_capability 0

abbrev pub with_pool_slot : State
with_pool_slot = with_slot with_base pool_capability 1

abbrev pub with_pool : State
with_pool = record with_pool_slot { pool = Some 2; align = One }

abbrev pub with_first : State
with_first = with_object with_pool first_capability 2 100

abbrev pub with_second : State
with_second = with_object with_first second_capability 2 8191

abbrev pub first_object : Object
first_object = record { size = 100; slot = 3; state = Live }

abbrev pub second_object : Object
second_object = record { size = 8191; slot = 4; state = Live }

abbrev pub with_freed : State
with_freed = record with_second { objects = record first_object { state = Freed } ∷ second_object ∷ [] }

abbrev pub with_swept : State
with_swept = record with_second {
  slots =
      tagged_slot root_capability None
      ∷ tagged_slot base_capability (Some 0)
      ∷ tagged_slot pool_capability (Some 1)
      ∷ record (tagged_slot first_capability (Some 2)) { revoked = true }
      ∷ tagged_slot second_capability (Some 2)
      ∷ [];
  objects = record first_object { state = Swept } ∷ second_object ∷ [];
}

-- ---- the steps of the pool

sets_base : Step (initial_state 4096) (op.Addr 0 0x10000)
    (reply.Made 1 0xffff0000000000000000000000010000 (from_zero (2 ^ 64))) with_base
sets_base = record {
  result = Ok base_capability;
  made = inl (
    refl,
    inl (
      inside-Represents (from_zero (2 ^ 64)) 0x10000 root-IsCapability.is_span root-IsCapability.sound (omega arith) (omega arith),
      refl,
    ),
  );
  added = inl (
    omega arith,
    record { word = 0xffff0000000000000000000000010000; is_word = base-word; replied = refl; added = refl },
  );
}

sets_bounds : Step with_base (op.Exact 1 65536) (reply.Made 2 0xffff0000000190000000000000010000 pool_span) with_pool_slot
sets_bounds = record {
  result = Ok pool_capability;
  made = inl (refl, inl (record { from_base = omega arith; to_top = omega arith }, inl (pool-sound, refl)));
  added = inl (
    omega arith,
    record { word = 0xffff0000000190000000000000010000; is_word = pool-word; replied = refl; added = refl },
  );
}

sets_pool : Step with_pool_slot (op.Pool 2 One) (reply.PoolSet 2 pool_span One) with_pool
sets_pool = inl (refl, inl (refl, (refl, refl)))

-- ---- the steps of the script

first-granule : granule_of (from_zero 100) ≡ 1
unfolding granule_of exponent_of first_exponent
first-granule = refl

second-granule : granule_of (from_zero 8191) ≡ 16
unfolding granule_of exponent_of first_exponent
second-granule = refl

pub first-unit : IsUnit One 100 1
first-unit = record {
  granule = 1;
  is_granule = subst (λ (g : ℕ). IsGranule (from_zero 100) g) first-granule (granule_of-is (from_zero 100) (from_zero-span 100 (omega arith)));
  is_larger = refl;
}

pub second-unit : IsUnit One 8191 16
second-unit = record {
  granule = 16;
  is_granule =
      subst (λ (g : ℕ). IsGranule (from_zero 8191) g) second-granule (granule_of-is (from_zero 8191) (from_zero-span 8191 (omega arith)));
  is_larger = refl;
}

first-placement : IsPlacement pool_span [] 100 1 0x10000
first-placement = record {
  place = record {
    aligned = refl;
    in_pool = record { from_base = omega arith; to_top = omega arith };
    apart = λ other among. absurd (omega (arith, among.1));
  };
  least = λ other place. place.in_pool.from_base;
}

-- a span that begins before the first object's end shares a byte with it
overlap : (start : ℕ) → 0x10000 ≤ start → start < 0x10064 → SharesByte (span_from start 8192) (span_from 0x10000 100)
overlap start from below = record {
  byte = start;
  in_one = record { from_base = omega arith; below_top = omega arith };
  in_other = record { from_base = from; below_top = omega (arith, below) };
}

pub second-placement : IsPlacement pool_span (span_from 0x10000 100 ∷ []) 8192 16 0x10070
second-placement = record {
  place = record {
    aligned = refl;
    in_pool = record { from_base = omega arith; to_top = omega arith };
    apart = apart;
  };
  least = λ other place. by_test other place (dec_lt other 0x10064);
}
  where
    apart : (other : Span) → Contains (span_from 0x10000 100 ∷ []) other → ¬ SharesByte (span_from 0x10070 8192) other
    apart other (zero, within, is) shares =
        let top : 0x10064 ≡ other.top = ap (λ (s : Span). s.top) is in
        let from = shares.in_one.from_base in
        let to = shares.in_other.below_top in
        omega (arith, top, from, to)
    apart other (suc k, within, is) shares = omega (arith, within)

    by_test : (other : ℕ) → IsPlace pool_span (span_from 0x10000 100 ∷ []) 8192 16 other → Dec (other < 0x10064) → 0x10070 ≤ other
    by_test other place (yes below) =
        absurd (place.apart (span_from 0x10000 100) (0, omega arith, refl) (overlap other place.in_pool.from_base below))
    by_test other place (no past) = omega (arith, past, place.aligned)

allocates_first : Step with_pool (op.Alloc 100)
    (reply.Allocated 1 3 0xffff0000041880040000000000010000 (span_from 0x10000 100) 100) with_first
allocates_first = inl (
  refl,
  inl (
    omega arith,
    inl (
      omega arith,
      record {
        pool = 2;
        slot = tagged_slot pool_capability (Some 1);
        is_pool = record { is_pool = refl; is_slot = record { found = refl } };
        unit = 1;
        is_unit = first-unit;
        placed = inl (record {
          start = 0x10000;
          placement = first-placement;
          word = 0xffff0000041880040000000000010000;
          is_word = first-word;
          made = refl;
          replied = refl;
        });
      },
    ),
  ),
)

allocates_second : Step with_first (op.Alloc 8191)
    (reply.Allocated 2 4 0xffff0000000f803d0000000000010070 (span_from 0x10070 8192) 8292) with_second
allocates_second = inl (
  refl,
  inl (
    omega arith,
    inl (
      omega arith,
      record {
        pool = 2;
        slot = tagged_slot pool_capability (Some 1);
        is_pool = record { is_pool = refl; is_slot = record { found = refl } };
        unit = 16;
        is_unit = second-unit;
        placed = inl (record {
          start = 0x10070;
          placement = second-placement;
          word = 0xffff0000000f803d0000000000010070;
          is_word = second-word;
          made = refl;
          replied = refl;
        });
      },
    ),
  ),
)

frees_first : Step with_second (op.Free 1) (reply.Freed 1 0 8292) with_freed
frees_first = inl (record {
  object = first_object;
  is_live = record { is_object = record { found = refl }; live = refl };
  is_new = refl;
  replied = refl;
})

-- ---- the sweep

parents-first : (parent number : ℕ) → IsParent with_freed parent number → parent < number
parents-first parent zero is = let at = is.is_slot.found in let up = is.is_parent in absurd (by_link at up)
  where
    by_link : Some (tagged_slot root_capability None) ≡ Some is.slot → is.slot.parent ≡ Some parent → ⊥
    by_link at up = let same : tagged_slot root_capability None ≡ is.slot = (let e = at in cc) in
        let none : None ≡ Some parent = ap (λ (s : SlotState). s.parent) same ∙ up in cc
parents-first parent (suc zero) is =
    let same : tagged_slot base_capability (Some 0) ≡ is.slot = (let e = is.is_slot.found in cc) in
    let link : Some 0 ≡ Some parent = ap (λ (s : SlotState). s.parent) same ∙ is.is_parent in
    let up : 0 ≡ parent = (let e = link in cc) in
    omega (arith, up)
parents-first parent (suc (suc zero)) is =
    let same : tagged_slot pool_capability (Some 1) ≡ is.slot = (let e = is.is_slot.found in cc) in
    let link : Some 1 ≡ Some parent = ap (λ (s : SlotState). s.parent) same ∙ is.is_parent in
    let up : 1 ≡ parent = (let e = link in cc) in
    omega (arith, up)
parents-first parent (suc (suc (suc zero))) is =
    let same : tagged_slot first_capability (Some 2) ≡ is.slot = (let e = is.is_slot.found in cc) in
    let link : Some 2 ≡ Some parent = ap (λ (s : SlotState). s.parent) same ∙ is.is_parent in
    let up : 2 ≡ parent = (let e = link in cc) in
    omega (arith, up)
parents-first parent (suc (suc (suc (suc zero)))) is =
    let same : tagged_slot second_capability (Some 2) ≡ is.slot = (let e = is.is_slot.found in cc) in
    let link : Some 2 ≡ Some parent = ap (λ (s : SlotState). s.parent) same ∙ is.is_parent in
    let up : 2 ≡ parent = (let e = link in cc) in
    omega (arith, up)
parents-first parent (suc (suc (suc (suc (suc more))))) is =
    let within = IsSlot-within is.is_slot in absurd (omega (arith, within))

-- the parent of the second object's slot is the pool's
second-parent : (parent : ℕ) → IsParent with_freed parent 4 → parent ≡ 2
second-parent parent is =
    let same : tagged_slot second_capability (Some 2) ≡ is.slot = (let e = is.is_slot.found in cc) in
    let link : Some 2 ≡ Some parent = ap (λ (s : SlotState). s.parent) same ∙ is.is_parent in
    let up : 2 ≡ parent = (let e = link in cc) in
    sym up

-- an ancestor has a smaller number
above-less : {ancestor number : ℕ} → IsAncestor with_freed ancestor number → ancestor < number
above-less {ancestor} {number} (parent_of is) = parents-first ancestor number is
above-less {ancestor} {number} (above_parent {parent = parent} is up) = omega (arith, above-less up, parents-first parent number is)

not-above-second : ¬ IsAncestor with_freed 3 4
not-above-second (parent_of is) = absurd (omega (arith, second-parent 3 is))
not-above-second (above_parent {parent = parent} is up) = absurd (omega (arith, second-parent parent is, above-less up))

-- the one freed object is the first, in slot 3
freed-slot : (number : ℕ) (object : Object) → IsObject with_freed number object → object.state ≡ Freed → object.slot ≡ 3
freed-slot zero object is freed = let e = is.found in cc
freed-slot (suc zero) object is freed =
    let same : record first_object { state = Freed } ≡ object = (let e = is.found in cc) in
    sym (ap (λ (o : Object). o.slot) same)
freed-slot (suc (suc zero)) object is freed =
    let same : second_object ≡ object = (let e = is.found in cc) in
    let live : Live ≡ Freed = ap (λ (o : Object). o.state) same ∙ freed in
    absurd cc
freed-slot (suc (suc (suc more))) object is freed = let e = is.found in cc

apart-from : (slot : ℕ) → slot ≢ 3 → ¬ IsAncestor with_freed 3 slot → ¬ BelongsToSome with_freed Freed slot
apart-from slot other not_above some =
    let is = freed-slot some.number some.object some.is_object some.has_mark in
    by_belongs is some.belongs
  where
    by_belongs : {own : ℕ} → own ≡ 3 → (slot ≡ own) ⊎ IsAncestor with_freed own slot → ⊥
    by_belongs is (inl same) = other (same ∙ is)
    by_belongs is (inr up) = not_above (subst (λ (n : ℕ). IsAncestor with_freed n slot) is up)

early-apart : (slot : ℕ) → slot < 3 → ¬ BelongsToSome with_freed Freed slot
early-apart slot less = apart-from slot (λ same. absurd (omega (arith, less, same))) (λ up. absurd (omega (arith, less, above-less up)))

-- a slot that stays
stays : (number : ℕ) (slot before after : SlotState) → ¬ BelongsToSome with_freed Freed number → Some slot ≡ Some before → Some slot ≡ Some after
    → RevokesIf (BelongsToSome with_freed Freed number) before after
stays number slot before after not is is_now =
    let was : slot ≡ before = (let e = is in cc) in
    let now : slot ≡ after = (let e = is_now in cc) in
    inr (not, sym now ∙ was)

revokes : (number : ℕ) (before after : SlotState) → IsSlot with_freed number before → IsSlot with_swept number after
    → RevokesIf (BelongsToSome with_freed Freed number) before after
revokes zero before after is is_now = stays 0 _ before after (early-apart 0 (omega arith)) is.found is_now.found
revokes (suc zero) before after is is_now = stays 1 _ before after (early-apart 1 (omega arith)) is.found is_now.found
revokes (suc (suc zero)) before after is is_now = stays 2 _ before after (early-apart 2 (omega arith)) is.found is_now.found
revokes (suc (suc (suc zero))) before after is is_now =
    let was : tagged_slot first_capability (Some 2) ≡ before = (let e = is.found in cc) in
    let now : record (tagged_slot first_capability (Some 2)) { revoked = true } ≡ after = (let e = is_now.found in cc) in
    inl (
      record {
        number = 1;
        object = record first_object { state = Freed };
        is_object = record { found = refl };
        has_mark = refl;
        belongs = inl refl;
      },
      sym now ∙ ap (λ (s : SlotState). record s { revoked = true }) was,
    )
revokes (suc (suc (suc (suc zero)))) before after is is_now =
    stays 4 _ before after (apart-from 4 (λ same. absurd (omega (arith, same))) not-above-second) is.found is_now.found
revokes (suc (suc (suc (suc (suc more))))) before after is is_now =
    let within = IsSlot-within is in absurd (omega (arith, within))

sweeps : Step with_freed op.Sweep (reply.Swept 1 1 8192) with_swept
sweeps = record {
  limit_stays = refl;
  pool_stays = refl;
  align_stays = refl;
  swept_all = refl;
  revoked = record { as_many = refl; each = revokes };
  more = 1;
  counted = refl;
  replied = refl;
}

shows_revoked : Step with_swept (op.Show 3) (reply.Refused Revoked) with_swept
shows_revoked = (refl, refl)

-- ---- the output

abbrev replies : List Reply
replies =
    reply.Made 1 0xffff0000000000000000000000010000 (from_zero (2 ^ 64))
    ∷ reply.Made 2 0xffff0000000190000000000000010000 pool_span
    ∷ reply.PoolSet 2 pool_span One
    ∷ reply.Allocated 1 3 0xffff0000041880040000000000010000 (span_from 0x10000 100) 100
    ∷ reply.Allocated 2 4 0xffff0000000f803d0000000000010070 (span_from 0x10070 8192) 8292
    ∷ reply.Freed 1 0 8292
    ∷ reply.Swept 1 1 8192
    ∷ reply.Refused Revoked
    ∷ []

abbrev script_operations : List Op
script_operations = op.Alloc 100 ∷ op.Alloc 8191 ∷ op.Free 1 ∷ op.Sweep ∷ op.Show 3 ∷ []

-- the lines are read as these operations
reads : map operation_of (lines_of readme_script) ≡ map Ok script_operations
unfolding operation_of
reads = refl

-- and the replies are written as these lines
writes : replies_text replies ≡ readme_output
unfolding reply_text digits_of digits
writes = refl

takes : TakesAll (initial_state 4096) (map Ok (plan_opening 0x10000 65536 One) ++ map Ok script_operations) replies with_swept
takes = (
  with_base,
  sets_base,
  (
    with_pool_slot,
    sets_bounds,
    (
      with_pool,
      sets_pool,
      (
        with_first,
        allocates_first,
        (with_second, allocates_second, (with_freed, frees_first, (with_swept, sweeps, (with_swept, shows_revoked, refl)))),
      ),
    ),
  ),
)

pub readme_has_output : ScriptOutput (initial_state 4096) (plan_opening 0x10000 65536 One) readme_script readme_output true with_swept
readme_has_output = record {
  replies = replies;
  takes =
      subst (λ (commands : List (Result Op Refusal)).
      TakesAll (initial_state 4096) (map Ok (plan_opening 0x10000 65536 One) ++ commands) replies with_swept) (sym reads) takes;
  output_is = sym (append-nil (replies_text replies) ∙ writes);
  error_is = refl;
}

pub readme_only : (output : List ℕ) (any_error : Bool) (new : State)
    → ScriptOutput (initial_state 4096) (plan_opening 0x10000 65536 One) readme_script output any_error new
    → (output ≡ readme_output) × (any_error ≡ true)
readme_only output any_error new other =
    let same =
    one_output (initial_state 4096) new with_swept (plan_opening 0x10000 65536 One) readme_script output readme_output any_error true other
    readme_has_output in
    (same.0, same.1)
