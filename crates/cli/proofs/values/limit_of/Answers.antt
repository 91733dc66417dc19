use Rattle.std.proofs.Common.{◌∙◌, ℕ, codes, subst, sym}
use Rattle.std.specs.Str.Parse.{ExplainsUnsignedError, HasUnsignedDigitsIfOk, ParsesUnsigned}
use Rattle.clap.specs.Words.{first_of, found_of, rows_of}
use Rattle.clap.proofs.WalkLemmas.{one_text-rows}
use Rattle.cli.specs.Invocation.{IsLimit}
use Rattle.cli.proofs.InvocationLemmas.{limit_read}
use Rattle.cli.proofs.values.limit_of.Goals as goal

pub returns : goal.returns
returns c =
    let f = found_of c.args.matches.now in
    let given = first_of (codes "slots") (rows_of f) in
    let read = one_text-rows f (codes "slots") ∙ c.requires.read in
    subst (λ (n : ℕ). IsLimit given n) (sym c.unwrap_or.ensures)
    (limit_read (λ bs r. ParsesUnsigned 32 10 bs r × ExplainsUnsignedError 10 bs r × HasUnsignedDigitsIfOk bs r) given c.get_one.result c.requires.limit
    (λ none. c.get_one.ensures.none (read ∙ none)) (λ text some. c.get_one.ensures.value text (read ∙ some)) (λ text r gives. gives.0))
