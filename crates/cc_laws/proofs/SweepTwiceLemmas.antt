-- A sweep right after a sweep changes nothing.
use Rattle.std.proofs.Common.{ℕ, Bool, true, false, ◌≡◌, ◌∙◌, List, [], ◌∷◌, map, refl, sym, ap, inr, arith}
use Rattle.std.specs.Prelude.{cond, if◌then◌else◌}
use Rattle.std.proofs.lemmas.List.Sums.{sum_by-cons}
use Rattle.cc_plan.specs.declared.planned_object.ObjectState.{ObjectState}
use Rattle.cc_plan.specs.declared.planned_object.ObjectState.TheVariants.{Live, Freed, Swept}
use Rattle.cc_plan.specs.Plan.{is_freed}
use Rattle.cc_values.specs.declared.op.Op.TheVariants.{Sweep}
use Rattle.cc_machine.specs.declared.object.Object.{Object}
use Rattle.cc_values.specs.declared.reply.Reply.{Reply}
use Rattle.cc_values.specs.declared.reply.Reply.TheVariants.{Swept as ToldSwept}
use Rattle.cc_machine.specs.State.{State}
use Rattle.cc_machine.specs.Objects.{object_at, BelongsToSome, held_bytes_of, freed_count, swept}
use Rattle.cc_machine.specs.Step.{Sweeps, Step}
use Rattle.cc_machine.proofs.SlotLemmas.{IsSlot-same}
use Rattle.cc_machine.proofs.ObjectSweptLemmas.{swept-at}
use Rattle.cc_machine.proofs.OutcomeLemmas.{Step-one}

-- what a sweep leaves of an object is not freed
swept-freed : (object : Object) → is_freed (swept object).state ≡ false
swept-freed object = by_state object.state refl
  where
    by_state : (state : ObjectState) → object.state ≡ state → is_freed (swept object).state ≡ false
    by_state Live is = ap (λ (s : ObjectState). is_freed (if is_freed s then record object { state = Swept } else object).state) is ∙ ap is_freed is
    by_state Freed is = ap (λ (s : ObjectState). is_freed (if is_freed s then record object { state = Swept } else object).state) is
    by_state Swept is = ap (λ (s : ObjectState). is_freed (if is_freed s then record object { state = Swept } else object).state) is ∙ ap is_freed is

-- an object that is not freed stays
swept-stays : (object : Object) → is_freed object.state ≡ false → swept object ≡ object
swept-stays object is = ap (λ (b : Bool). if b then record object { state = Swept } else object) is

swept-twice : (objects : List Object) → map swept (map swept objects) ≡ map swept objects
swept-twice [] = refl
swept-twice (object ∷ objects) =
    ap (λ (o : Object). o ∷ map swept (map swept objects)) (swept-stays (swept object) (swept-freed object))
    ∙ ap (λ (l : List Object). swept object ∷ l) (swept-twice objects)

none-freed : (objects : List Object) → freed_count (map swept objects) ≡ 0
none-freed [] = refl
none-freed (object ∷ objects) =
    let first : ◌≡◌ {A = ℕ} (cond (is_freed (swept object).state) 1 0) 0 = ap {B = ℕ} (λ (b : Bool). cond b 1 0) (swept-freed object) in
    let rest = none-freed objects in
    let split = sum_by-cons (λ (o : Object). cond (is_freed o.state) 1 0) (swept object) (map swept objects) in
    omega (arith, first, rest, split)

-- ---- states

module _ (old mid : State) (reply : Reply) (sweep : Sweeps old reply mid) where
  again : Sweeps mid (ToldSwept 0 0 (held_bytes_of mid)) mid
  again = record {
    limit_stays = refl;
    pool_stays = refl;
    align_stays = refl;
    swept_all = sweep.swept_all ∙ sym (swept-twice old.objects) ∙ ap (λ (l : List Object). map swept l) (sym sweep.swept_all);
    revoked = record {
      as_many = refl;
      each = λ number before after is is'. inr (none number, IsSlot-same is' is);
    };
    more = 0;
    counted = omega arith;
    replied = ap (λ (n : ℕ). ToldSwept n 0 (held_bytes_of mid)) (sym (ap freed_count sweep.swept_all ∙ none-freed old.objects));
  }
    where
      none : (number : ℕ) → BelongsToSome mid Freed number → ⊥
      none number some =
          let before = swept-at old.objects some.number some.object
          (ap (λ (l : List Object). object_at l some.number) (sym sweep.swept_all) ∙ some.is_object.found) in
          let mark = ap (λ (o : Object). is_freed o.state) before.is ∙ swept-freed before.before in
          let freed = ap is_freed some.has_mark in
          let e : true ≡ false = sym freed ∙ mark in
          cc

  pub sweep-twice : (reply' : Reply) (new : State) → Step mid Sweep reply' new → (new ≡ mid) × (reply' ≡ ToldSwept 0 0 (held_bytes_of mid))
  sweep-twice reply' new step =
      let one = Step-one mid new mid Sweep reply' (ToldSwept 0 0 (held_bytes_of mid)) step again in
      (one.state_same, one.reply_same)
