use Rattle.std.proofs.Common.{◌≡◌, ℕ, List, Option, None, Some, ap, refl}
use Rattle.std.specs.Prelude.{◌↔◌, IfSome, IsSome}
use Rattle.std.specs.Result.{result_ok}
use Rattle.std.specs.Str.Parse.{digits_value}
use Rattle.cc_word.specs.WordText.{IsWordText}
use Rattle.cc_values.specs.Values.{word_in}
use Rattle.cc_values.proofs.ValueLemmas.{word_found, word_missed}
use Rattle.cli_words.proofs.word_hint.word_of.Goals as goal

read : (text : List ℕ) (found : Option ℕ) → (IsSome found ↔ IsWordText text) → IfSome found (λ word. word ≡ digits_value 16 text)
    → found ≡ result_ok (word_in text)
read text (Some word) is value = ap result_ok (word_found text word (is.0 refl) value)
read text None is value = ap result_ok (word_missed text (λ has. cc (is.1 has)))

pub returns : goal.returns
returns c = read c.args.text.now c.read_word.result c.read_word.ensures.found c.read_word.ensures.value
