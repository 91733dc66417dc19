use Rattle.cc_cap.specs.Derivation.{SetsFlag}
use Rattle.cc_cap.proofs.WordRuleLemmas.{flag-replaced, word_made}
use Rattle.cc_cap.proofs.words.set_flag.Goals as goal

pub own_word-requires : goal.own_word-requires
own_word-requires c =
    flag-replaced c.in_ok-cap.cap c.args.word c.args.flag c.set_flag.result c.with_flag.result c.in_ok-cap.ensures.0
    c.set_flag.ensures.made c.with_flag.ensures

pub returns : goal.returns
returns c = record {
  made = word_made (λ cap. SetsFlag cap c.args.flag) c.args.word c.in_ok-cap.cap c.set_flag.result c.own_word.result
      c.in_ok-cap.ensures.0 c.set_flag.ensures.made c.own_word.ensures;
}
