-- Each rule of derivation has one result.
use Rattle.std.proofs.Common.{ℕ, Bool, ◌≡◌, ◌∙◌, ◌+◌, ◌%◌, ◌^◌, Result, Ok, Err, sym, ap, subst, inl, inr, arith}
use Rattle.std.proofs.lemmas.Bool.{cases_lt}
use Rattle.cc_word.specs.Refusal.{RefusedUnless}
use Rattle.cc_word.specs.declared.refusal.Refusal.{Refusal}
use Rattle.cc_word.specs.declared.refusal.Refusal.TheVariants.{ExceedsAuthority}
use Rattle.cc_bounds.specs.declared.span.Span.{Span}
use Rattle.cc_bounds.specs.Span.{length_of}
use Rattle.cc_bounds.specs.Granule.{IsGranule, IsGranted, rounded_to}
use Rattle.cc_cap.specs.Capability.{Capability, IsUnsealed, GrantsNoMore, with_span}
use Rattle.cc_cap.specs.Derivation.{request_of, SetsAddress, Increments, SetsBounds, SetsExactBounds, MasksPermissions, SetsFlag, Seals, Unseals, Rebuilds}
use Rattle.cc_cap.proofs.CanonicalLemmas.{IsWordOf-same}

-- a check has one result if the claim after it has one
one_result : {condition rest rest' : Type 0} {refusal : Refusal} {result result' : Result Capability Refusal}
    → RefusedUnless condition (result ≡ Err refusal) rest → RefusedUnless condition (result' ≡ Err refusal) rest'
    → (rest → rest' → result ≡ result') → result ≡ result'
one_result (inl one) (inl other) same = same one.1 other.1
one_result (inl one) (inr other) same = absurd (other.0 one.0)
one_result (inr one) (inl other) same = absurd (one.0 other.0)
one_result (inr one) (inr other) same = one.1 ∙ sym other.1

pub SetsAddress-one : (cap : Capability) (address : ℕ) (result result' : Result Capability Refusal)
    → SetsAddress cap address result → SetsAddress cap address result' → result ≡ result'
SetsAddress-one cap address result result' one other =
    one_result one other (λ first first'. one_result first first' (λ e e'. e ∙ sym e'))

pub Increments-one : (cap : Capability) (amount : ℕ) (result result' : Result Capability Refusal)
    → Increments cap amount result → Increments cap amount result' → result ≡ result'
Increments-one cap amount result result' one other =
    SetsAddress-one cap ((cap.address + amount) % 2 ^ 64) result result' one other

pub SetsExactBounds-one : (cap : Capability) (size : ℕ) (result result' : Result Capability Refusal)
    → SetsExactBounds cap size result → SetsExactBounds cap size result' → result ≡ result'
SetsExactBounds-one cap size result result' one other =
    one_result one other (λ first first'. one_result first first' (λ second second'. one_result second second' (λ e e'. e ∙ sym e')))

pub MasksPermissions-one : (cap : Capability) (mask : ℕ) (result result' : Result Capability Refusal)
    → MasksPermissions cap mask result → MasksPermissions cap mask result' → result ≡ result'
MasksPermissions-one cap mask result result' one other = one_result one other (λ e e'. e ∙ sym e')

pub SetsFlag-one : (cap : Capability) (flag : Bool) (result result' : Result Capability Refusal)
    → SetsFlag cap flag result → SetsFlag cap flag result' → result ≡ result'
SetsFlag-one cap flag result result' one other = one_result one other (λ e e'. e ∙ sym e')

-- a request has one granule
pub IsGranule-same : (request : Span) (one other : ℕ) → IsGranule request one → IsGranule request other → one ≡ other
IsGranule-same request one other is is' = elim (cases_lt (length_of request) 4096) [
  | inl short ↦ is.small short ∙ sym (is'.small short)
  | inr long ↦ omega (arith, is.least other long (is'.large long), is'.least one long (is.large long))
]

-- a request has one granted span
IsGranted-same : (request one other : Span) → IsGranted request one → IsGranted request other → one ≡ other
IsGranted-same request one other is is' =
    let same = IsGranule-same request is.granule is'.granule is.is_granule is'.is_granule in
    is.is_rounded ∙ ap (λ (g : ℕ). rounded_to g request) same ∙ sym is'.is_rounded

pub SetsBounds-one : (cap : Capability) (size : ℕ) (result result' : Result Capability Refusal)
    → SetsBounds cap size result → SetsBounds cap size result' → result ≡ result'
SetsBounds-one cap size result result' one other =
    one_result one other (λ first first'. one_result first first' (λ given given'.
    let same = IsGranted-same (request_of cap size) given.0 given'.0 given.1 given'.1 in
    given.2 ∙ ap (λ (s : Span). Ok (with_span cap s)) same ∙ sym given'.2))

pub Seals-one : (cap by : Capability) (result result' : Result Capability Refusal) → Seals cap by result → Seals cap by result' → result ≡ result'
Seals-one cap by result result' one other =
    one_result one other (λ first first'. one_result first first' (λ second second'. one_result second second' (λ third third'.
    one_result third third' (λ e e'. e ∙ sym e'))))

pub Unseals-one : (cap by : Capability) (result result' : Result Capability Refusal) → Unseals cap by result → Unseals cap by result' → result ≡ result'
Unseals-one cap by result result' one other =
    one_result one other (λ first first'. one_result first first' (λ second second'. one_result second second' (λ third third'.
    one_result third third' (λ fourth fourth'. one_result fourth fourth' (λ e e'. e ∙ sym e')))))

pub Rebuilds-one : (by : Capability) (word : ℕ) (result result' : Result Capability Refusal) → Rebuilds by word result → Rebuilds by word result' → result ≡ result'
Rebuilds-one by word result result' one other =
    one_result one other (λ first first'. one_result first first' (λ read read'.
    let same : read'.0 ≡ read.0 = IsWordOf-same read'.0 read.0 word read'.1 read.1 in
    let P : Capability → Type 0 =
    λ c. RefusedUnless (IsUnsealed c × GrantsNoMore c by) (result' ≡ Err ExceedsAuthority) (result' ≡ Ok c) in
    one_result read.2 (subst P same read'.2) (λ e e'. e ∙ sym e')))
