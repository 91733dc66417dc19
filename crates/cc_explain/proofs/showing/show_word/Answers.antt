use Rattle.std.proofs.Common.{rules, inl, inr, subst, ℕ, List}
use Rattle.cc_explain.specs.Listing.{IsListing, IsWordListing}
use Rattle.cc_explain.proofs.showing.show_word.Goals as goal

pub returns-clause-shown : goal.returns-clause-shown
returns-clause-shown g c =
    let told = c.write_answer.ensures.shown in
    let is : IsListing c.args.text.now told.answer = elim told.is_answer [
      | inl word ↦ inl (word.0, subst (λ (lines : List ℕ). IsWordListing _ lines) word.1.4 word.1.3)
      | inr none ↦ inr none
    ] in
    search (rules, is)
