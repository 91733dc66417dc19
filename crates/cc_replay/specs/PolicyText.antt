-- The policy that a string names, or its error.
use Rattle.std.specs.Prelude.{ℕ, Bool, ◌≡◌, ◌⊎◌, ◌-◌, ◌^◌, List, [], ◌++◌, take, drop, length, codes, decimal, nat_le, if◌then◌else◌, Some, Result, Ok, Err}
use Rattle.std.specs.Str.{bytes_eq}
use Rattle.cc_word.specs.declared.refusal.Refusal.{Refusal}
use Rattle.cc_word.specs.declared.refusal.Refusal.TheVariants.{Syntax, OutOfRange}
use Rattle.cc_values.specs.Values.{address_in}
use Rattle.cc_values.specs.Numbers.{number_of, within_limit}
use Rattle.cc_heap.specs.declared.policy.Policy.{Policy}
use Rattle.cc_heap.specs.declared.policy.Policy.TheVariants.{Immediate, Never, Percent, Bytes, Frees, Trace}
use Rattle.cc_heap.specs.declared.policy.Share.{Share}
use Rattle.cc_heap.specs.declared.policy.Share.TheVariants.{Held, Live, High}

-- Whether a string begins with another.
abbrev pub has_prefix : (prefix text : List ℕ) → Bool
has_prefix prefix text = bytes_eq (take (length prefix) text) prefix

-- The string after a prefix.
abbrev pub after : (prefix text : List ℕ) → List ℕ
after prefix text = drop (length prefix) text

-- Whether a string ends with another.
abbrev pub has_suffix : (suffix text : List ℕ) → Bool
has_suffix suffix text = bytes_eq (drop (length text - length suffix) text) suffix

-- The string before a suffix.
abbrev pub before : (suffix text : List ℕ) → List ℕ
before suffix text = take (length text - length suffix) text

-- The policy with a number, or the number's error.
abbrev pub with_number : (make : ℕ → Policy) → Result ℕ Refusal → Result Policy Refusal
with_number make (Ok number) = Ok (make number)
with_number make (Err refusal) = Err refusal

-- The number as a percentage of these bytes: below 2^32, or otherwise `OutOfRange`.
abbrev pub as_percent : Share → Result ℕ Refusal → Result Policy Refusal
as_percent share (Ok number) = if nat_le number (2 ^ 32 - 1) then Ok (Percent number share) else Err OutOfRange
as_percent share (Err refusal) = Err refusal

-- The percentage of these bytes that a string is the number of.
abbrev pub of_percent : Share → (number : List ℕ) → Result Policy Refusal
of_percent share number = as_percent share (address_in number)

-- `PERCENT%`, with `:held`, `:live` or `:high` after it, or nothing, which is `:held`.
abbrev pub percent_in : (text : List ℕ) → Result Policy Refusal
percent_in text =
    if has_suffix (codes "%") text then of_percent Held (before (codes "%") text)
    else if has_suffix (codes "%:held") text then of_percent Held (before (codes "%:held") text)
    else if has_suffix (codes "%:live") text then of_percent Live (before (codes "%:live") text)
    else if has_suffix (codes "%:high") text then of_percent High (before (codes "%:high") text)
    else Err Syntax

-- `bytes:N`, `frees:N`, with N below 2^64, or a percentage.
abbrev pub numbered_in : (text : List ℕ) → Result Policy Refusal
numbered_in text =
    if has_prefix (codes "bytes:") text then with_number Bytes (address_in (after (codes "bytes:") text))
    else if has_prefix (codes "frees:") text then with_number Frees (address_in (after (codes "frees:") text))
    else percent_in text

-- The policy of a string, or its error.
abbrev pub policy_in : (text : List ℕ) → Result Policy Refusal
policy_in text =
    if bytes_eq text (codes "none") then Ok Immediate
    else if bytes_eq text (codes "never") then Ok Never
    else if bytes_eq text (codes "trace") then Ok Trace
    else numbered_in text

-- HasNumber holds if the string is a number between two others.
pub record HasNumber (prefix suffix text : List ℕ) (number : ℕ) : Type 0 where
  pub digits : List ℕ
  pub whole : text ≡ prefix ++ digits ++ suffix
  pub is_number : number_of digits ≡ Some number

-- IsPolicyText holds if the string names the policy.
abbrev pub IsPolicyText : Policy → (text : List ℕ) → Type 0
IsPolicyText Immediate text = text ≡ codes "none"
IsPolicyText Never text = text ≡ codes "never"
IsPolicyText Trace text = text ≡ codes "trace"
IsPolicyText (Bytes bytes) text = HasNumber (codes "bytes:") [] text bytes
IsPolicyText (Frees frees) text = HasNumber (codes "frees:") [] text frees
IsPolicyText (Percent percent Held) text = HasNumber [] (codes "%") text percent ⊎ HasNumber [] (codes "%:held") text percent
IsPolicyText (Percent percent Live) text = HasNumber [] (codes "%:live") text percent
IsPolicyText (Percent percent High) text = HasNumber [] (codes "%:high") text percent

-- The end of a percentage of these bytes.
abbrev pub share_text : Share → List ℕ
share_text Held = codes "%"
share_text Live = codes "%:live"
share_text High = codes "%:high"

-- The string that names the policy, with a decimal number.
abbrev pub policy_text : Policy → List ℕ
policy_text Immediate = codes "none"
policy_text Never = codes "never"
policy_text Trace = codes "trace"
policy_text (Bytes bytes) = codes "bytes:" ++ decimal bytes
policy_text (Frees frees) = codes "frees:" ++ decimal frees
policy_text (Percent percent share) = decimal percent ++ share_text share

-- The policy, or `OutOfRange` if its number is too large: a percentage from 2^32, and others from 2^64.
abbrev pub in_range : Policy → Result Policy Refusal
in_range (Percent percent share) = as_percent share (within_limit (2 ^ 64 - 1) (Some percent))
in_range (Bytes bytes) = with_number Bytes (within_limit (2 ^ 64 - 1) (Some bytes))
in_range (Frees frees) = with_number Frees (within_limit (2 ^ 64 - 1) (Some frees))
in_range policy = Ok policy
