use Rattle.std.proofs.Common.{rules, subst, sym}
use Rattle.std.specs.Prelude.{IsTrue}
use Rattle.cc_bounds.specs.declared.span.Span.{Span}
use Rattle.cc_bounds.specs.Span.{HasByte}
use Rattle.cc_ffi.proofs.search.contains_wanted.Goals as goal

pub returns-else-not-query : goal.returns-else-not-query
returns-else-not-query c span decodes =
    let same = c.decode.ensures.only span decodes in
    let needs : IsTrue c.args.query.now.needs_address = search rules in (
      λ yes _. subst (λ (s : Span). HasByte s c.args.query.now.address) (sym same) (c.contains.ensures.0 yes),
      λ holds. c.contains.ensures.1 (subst (λ (s : Span). HasByte s c.args.query.now.address) same (holds needs)),
    )
