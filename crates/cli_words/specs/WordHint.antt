-- The hint on a word after `0x`, which `show` does not accept.
use Rattle.std.specs.Prelude.{ℕ, Bool, ◌&&◌, List, [], ◌++◌, Option, Some, None, is_some, codes, drop, take, if◌then◌else◌}
use Rattle.std.specs.Result.{result_ok}
use Rattle.std.specs.Str.{bytes_eq}
use Rattle.cc_word.specs.WordText.{digits_of}
use Rattle.cc_values.specs.Values.{word_in}

-- The word after `0x`, if the text is `0x` and a word.
abbrev pub prefixed_word : (text : List ℕ) → Option ℕ
prefixed_word text = if bytes_eq (take 2 text) (codes "0x") then result_ok (word_in (drop 2 text)) else None

-- The hint that names the word.
abbrev pub word_hint_text : (word : ℕ) → List ℕ
word_hint_text word = codes "hint: show takes a word without 0x: cheri-cap show " ++ digits_of 32 word ++ codes "\n"

-- The hint on a word that was found, or nothing if none was.
abbrev pub hint_if_found : Option ℕ → List ℕ
hint_if_found None = []
hint_if_found (Some word) = word_hint_text word

-- Whether there is a hint: hints are given, and the text is `0x` and a word.
abbrev pub is_word_hinted : (hints : Bool) (text : List ℕ) → Bool
is_word_hinted hints text = hints && is_some (prefixed_word text)

-- The hint on this text, or nothing if there is none.
abbrev pub word_hint : (hints : Bool) (text : List ℕ) → List ℕ
word_hint hints text = if hints then hint_if_found (prefixed_word text) else []
