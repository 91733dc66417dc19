use Rattle.std.proofs.Common.{inl, inr, refl}
use Rattle.cc_cap.proofs.ReachLemmas.{GrantsNoMore-IsReachable}
use Rattle.cc_cap.proofs.cap.Cap.rebuild.Goals as goal

pub returns-then-not-is_allowed_by-clause-made : goal.returns-then-not-is_allowed_by-clause-made
returns-then-not-is_allowed_by-clause-made c =
    let unsealed = c.is_sealed.ensures.unsealed.0 c.if-is_sealed.false in
    let cap = c.in-Some.cap in
    inl (
      unsealed,
      inl (
        (cap, c.in-Some.ensures),
        (
          cap,
          c.in-Some.ensures,
          inr
              ((λ allowed. let yes = c.is_allowed_by.ensures.allowed.1 allowed in let no = c.if-not-is_allowed_by.true in cc), refl),
        ),
      ),
    )

pub returns-clause-made : goal.returns-clause-made
returns-clause-made c =
    let unsealed = c.is_sealed.ensures.unsealed.0 c.if-is_sealed.false in
    let cap = c.in-Some.cap in
    let allowed = c.is_allowed_by.ensures.allowed.0 c.if-not-is_allowed_by.false in
    inl (unsealed, inl ((cap, c.in-Some.ensures), (cap, c.in-Some.ensures, inl (allowed, refl))))

pub returns-clause-monotonic : goal.returns-clause-monotonic
returns-clause-monotonic c = (c.is_allowed_by.ensures.allowed.0 c.if-not-is_allowed_by.false).1

pub returns-clause-reached : goal.returns-clause-reached
returns-clause-reached c =
    let unsealed = c.is_sealed.ensures.unsealed.0 c.if-is_sealed.false in
    let cap = c.in-Some.cap in
    let read = c.in-Some.ensures in
    let allowed = c.is_allowed_by.ensures.allowed.0 c.if-not-is_allowed_by.false in
    GrantsNoMore-IsReachable c.args.authority.now cap c.is_allowed_by.ensures.authority read.is_capability unsealed allowed.0
    allowed.1
