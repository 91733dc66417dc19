use Rattle.std.proofs.Common.{◌≡◌, ◌≢◌, ◌∙◌, true, false, arith, rules, sym, subst}
use Rattle.cc_cap.specs.Canonical.{IsCanonical}
use Rattle.cc_ffi.proofs.SearchLemmas.{other_taggable, sentry_kind, sentry_taggable}
use Rattle.cc_ffi.proofs.search.is_taggable.Goals as goal

pub returns-then-query : goal.returns-then-query
returns-then-query c =
    let taggable = sentry_taggable c.args.query.now c.args.word c.args.fields.now c.requires c.in-262142.is in (
      λ yes. taggable.1 (c.if-query.true, subst IsCanonical c.pack.ensures (c.is_canonical.ensures.0 yes)),
      λ can. c.is_canonical.ensures.1 (subst IsCanonical (sym c.pack.ensures) (taggable.0 can).1),
    )

pub returns-else-query : goal.returns-else-query
returns-else-query c = (
  λ yes. let no : true ≡ false = sym yes ∙ c.if-query.false in cc no,
  λ can. (sentry_kind c.args.query.now c.args.word c.args.fields.now c.requires c.in-262142.is can.0 can.1).1,
)

pub returns-in-262143 : goal.returns-in-262143
returns-in-262143 c =
    let plain : c.args.fields.now.otype ≢ 262142 = λ same. absurd (omega (arith, c.in-262143.is, same)) in
    let taggable = other_taggable c.args.query.now c.args.word c.args.fields.now c.requires plain in (
      λ yes. taggable.1 (c.is_canonical-in-262143.ensures.0 yes, λ other. absurd (other c.in-262143.is)),
      λ can. c.is_canonical-in-262143.ensures.1 (taggable.0 can).0,
    )

pub returns-then-query-2 : goal.returns-then-query-2
returns-then-query-2 c =
    let plain : c.args.fields.now.otype ≢ 262142 = search rules in
    let taggable = other_taggable c.args.query.now c.args.word c.args.fields.now c.requires plain in (
      λ yes. taggable.1 (c.is_canonical-then-query-2.ensures.0 yes, λ other. c.if-query-2.true),
      λ can. c.is_canonical-then-query-2.ensures.1 (taggable.0 can).0,
    )

pub returns-else-query-2 : goal.returns-else-query-2
returns-else-query-2 c =
    let plain : c.args.fields.now.otype ≢ 262142 = search rules in
    let other : c.args.fields.now.otype ≢ 262143 = search rules in
    let taggable = other_taggable c.args.query.now c.args.word c.args.fields.now c.requires plain in (
      λ yes. let no : true ≡ false = sym yes ∙ c.if-query-2.false in cc no,
      λ can. (taggable.0 can).1 other,
    )
