use Rattle.std.proofs.Common.{ℕ, Option, None, ◌≡◌, ◌∙◌, refl, sym, ap, subst}
use Rattle.std.specs.Option.{MatchOption}
use Rattle.cc_word.specs.declared.fields.Fields.{Fields}
use Rattle.cc_bounds.specs.Encoding.{Encoding}
use Rattle.cc_cap.specs.Bounds.{encoding_of}
use Rattle.cc_word.specs.ObjType.{IsObjType}
use Rattle.cc_cap.specs.Cap.{value_of}
use Rattle.cc_cap.specs.Capability.{Capability}
use Rattle.cc_cap.specs.Canonical.{IsCanonical, IsWordOf}
use Rattle.cc_cap.proofs.CanonicalLemmas.{IsWordOf-read, IsWordOf-stores}
use Rattle.cc_cap.proofs.cap.Cap.of_word.Goals as goal

-- what is read has the word
read : (c : goal.After-from_bits_retain)
    → IsWordOf (value_of (record {
      set = c.in_ok-set.set;
      address = c.unpack-fields.result.address;
      perms = c.from_bits_retain.result;
      flag = c.unpack-fields.result.flag;
      otype = c.in_ok-otype.otype;
    })) c.args.word
read c =
    let otype = c.in_ok-otype.ensures in
    IsWordOf-read _ c.unpack-fields.result c.args.word c.in_ok-set.ensures.found
    (subst IsObjType (sym otype.value) (otype.found.0 refl)) (sym (c.from_bits_retain.ensures tt)) c.if-fields-ne0.false refl
    (sym otype.value) refl c.unpack-fields.ensures.word

pub invariant_of-result : goal.invariant_of-result
invariant_of-result c =
    let set : Encoding = c.in_ok-set.set in
    let only = c.in_ok-set.ensures.only set.granted c.in_ok-set.ensures.found in
    let same : set ≡ encoding_of set.granted = cc only in
    record {
      exact = ap (λ (e : Encoding). e.exact) same;
      is_capability = (read c).is_capability;
    }

pub returns : goal.returns
returns c = read c

pub returns-then-fields-ne0 : goal.returns-then-fields-ne0
returns-then-fields-ne0 c (cap, own) =
    let same = sym (c.unpack-fields.ensures.only own.fields (sym own.is_word)) in
    c.if-fields-ne0.true (ap (λ (fields : Fields). fields.reserved) same ∙ own.is_fields.reserved)

-- no capability is right for a word that is not canonical
refused : (word : ℕ) (result : Option Capability) → result ≡ None → ¬ IsCanonical word
    → MatchOption result (¬ IsCanonical word) (λ cap. IsWordOf cap word)
refused word result is_none not =
    subst (λ (other : Option Capability). MatchOption other (¬ IsCanonical word) (λ cap. IsWordOf cap word)) (sym is_none) not

pub returns-in_err-otype : goal.returns-in_err-otype
returns-in_err-otype c = refused c.args.word c.from_residual.result c.from_residual.ensures (λ canonical.
    let own = canonical.1 in
    let same = c.unpack-fields.ensures.only own.fields (sym own.is_word) in
    let otype = sym own.is_fields.otype ∙ ap (λ (fields : Fields). fields.otype) same in
    cc (c.in_err-otype.ensures.found.1 (subst IsObjType otype own.is_capability.is_type)))

pub returns-in_err-set : goal.returns-in_err-set
returns-in_err-set c = refused c.args.word c.from_residual-in_err-set.result c.from_residual-in_err-set.ensures (λ canonical.
    let own = canonical.1 in
    let same = c.unpack-fields.ensures.only own.fields (sym own.is_word) in
    cc (c.in_err-set.ensures.only canonical.0.span (IsWordOf-stores canonical.0 c.args.word c.unpack-fields.result own same)))
