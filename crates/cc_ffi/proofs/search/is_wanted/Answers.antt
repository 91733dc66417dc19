use Rattle.std.proofs.Common.{ℕ, ◌≡◌, ◌∙◌, subst, sym}
use Rattle.std.specs.Prelude.{IsTrue}
use Rattle.cc_word.specs.Word.{word_of}
use Rattle.cc_cap.specs.Capability.{Capability}
use Rattle.cc_ffi.specs.Numbers.{number_in}
use Rattle.cc_ffi.specs.Search.{IsWordFor}
use Rattle.cc_ffi.proofs.SearchLemmas.{wanted_if, wanted_perms}
use Rattle.cc_ffi.proofs.search.is_wanted.Goals as goal

pub returns-then-not-has_wanted_perms : goal.returns-then-not-has_wanted_perms
returns-then-not-has_wanted_perms c =
    let is : word_of c.unpack-fields.result ≡ number_in c.args.word = c.unpack-fields.ensures.word ∙ c.number-word.ensures in (
      λ yes. absurd (cc yes),
      λ w.
          sym c.if-not-has_wanted_perms.true
          ∙ c.has_wanted_perms.ensures.1 (wanted_perms c.args.query.now (number_in c.args.word) c.unpack-fields.result is w),
    )

pub returns-then-not-is_taggable : goal.returns-then-not-is_taggable
returns-then-not-is_taggable c = (
  λ yes. absurd (cc yes),
  λ w.
      sym c.if-not-is_taggable.true
      ∙ c.is_taggable.ensures.1
      (subst (λ (word : ℕ). (cap : Capability) × IsWordFor c.args.query.now cap word) (sym c.number-word.ensures) (w.cap, w.taggable)),
)

pub returns : goal.returns
returns c =
    wanted_if c.args.query.now (number_in c.args.word) c.unpack-fields.result (c.unpack-fields.ensures.word ∙ c.number-word.ensures)
    (c.has_wanted_perms.ensures.0 c.if-not-has_wanted_perms.false)
    (subst (λ (word : ℕ). (cap : Capability) × IsWordFor c.args.query.now cap word) c.number-word.ensures
    (c.is_taggable.ensures.0 c.if-not-is_taggable.false))
    (IsTrue c.contains_wanted.result) c.contains_wanted.ensures
