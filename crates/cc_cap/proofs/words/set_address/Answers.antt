use Rattle.cc_cap.specs.Derivation.{SetsAddress}
use Rattle.cc_cap.proofs.WordRuleLemmas.{address-replaced, word_made}
use Rattle.cc_cap.proofs.words.set_address.Goals as goal

pub own_word-requires : goal.own_word-requires
own_word-requires c =
    address-replaced c.in_ok-cap.cap c.args.word c.args.address c.set_address.result c.with_address.result c.in_ok-cap.ensures.0 c.ranges.address.fits
    c.set_address.ensures.made c.with_address.ensures

pub returns : goal.returns
returns c = record {
  made = word_made (λ cap. SetsAddress cap c.args.address) c.args.word c.in_ok-cap.cap c.set_address.result c.own_word.result
      c.in_ok-cap.ensures.0 c.set_address.ensures.made c.own_word.ensures;
}
