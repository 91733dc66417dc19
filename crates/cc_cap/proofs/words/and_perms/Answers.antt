use Rattle.std.proofs.Common.{◌∙◌, ℕ, bit_and, ap, rules}
use Rattle.cc_word.specs.Permissions.{bits_of}
use Rattle.cc_cap.specs.Derivation.{MasksPermissions}
use Rattle.cc_cap.proofs.WordRuleLemmas.{perms-replaced, word_made}
use Rattle.cc_cap.proofs.words.and_perms.Goals as goal

pub own_word-requires : goal.own_word-requires
own_word-requires c =
    perms-replaced c.in_ok-cap.cap c.args.word (bits_of c.args.mask) (bits_of c.intersection.result) c.and_perms.result c.with_perms.result
    c.in_ok-cap.ensures.0 (c.intersection.ensures ∙ ap (λ (n : ℕ). bit_and n (bits_of c.args.mask)) c.perms.ensures) (search rules) c.and_perms.ensures.made c.with_perms.ensures

pub returns : goal.returns
returns c = record {
  made = word_made (λ cap. MasksPermissions cap (bits_of c.args.mask)) c.args.word c.in_ok-cap.cap c.and_perms.result c.own_word.result
      c.in_ok-cap.ensures.0 c.and_perms.ensures.made c.own_word.ensures;
}
