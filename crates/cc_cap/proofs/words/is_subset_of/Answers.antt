use Rattle.std.proofs.Common.{rules}
use Rattle.std.proofs.lemmas.Bool.{eq-eqb}
use Rattle.cc_word.specs.Permissions.{HasAll}
use Rattle.cc_cap.proofs.WordRuleLemmas.{IsSubset-spans}
use Rattle.cc_cap.proofs.words.is_subset_of.Goals as goal

pub returns-then-bytes : goal.returns-then-bytes
returns-then-bytes c =
    let spans = IsSubset-spans c.args.inner.now c.args.outer.now c.decode.result c.decode-2.result c.decode.ensures.decodes c.decode-2.ensures.decodes in (
      λ yes.
          let all : HasAll c.args.outer.now.perms c.args.inner.now.perms = search rules in
          record {
            inner_span = c.decode.result;
            outer_span = c.decode-2.result;
            inner_decodes = c.decode.ensures.decodes;
            outer_decodes = c.decode-2.ensures.decodes;
            bytes = c.is_within-bytes.ensures.0 c.if-bytes.true;
            permissions = all;
          },
      λ subset. eq-eqb _ _ (spans subset).1,
    )

pub returns-else-bytes : goal.returns-else-bytes
returns-else-bytes c =
    let spans = IsSubset-spans c.args.inner.now c.args.outer.now c.decode.result c.decode-2.result c.decode.ensures.decodes c.decode-2.ensures.decodes in
    (λ yes. let no = c.if-bytes.false in let never : ⊥ = cc in absurd never, λ subset. c.is_within-bytes.ensures.1 (spans subset).0)
