use Rattle.std.proofs.Common.{◌≡◌, refl, sym, ap, inl, inr}
use Rattle.cc_word.specs.ObjType.{unsealed_type}
use Rattle.cc_bounds.specs.Encoding.{Encoding}
use Rattle.cc_cap.specs.Bounds.{encoding_of}
use Rattle.cc_cap.specs.Cap.{value_of}
use Rattle.cc_cap.specs.Canonical.{IsWordOf}
use Rattle.cc_cap.proofs.CanonicalLemmas.{IsWordOf-read, IsWordOf-stores}
use Rattle.cc_cap.proofs.cap.Cap.of_unsealed_word.Goals as goal

-- what is read has the word
read : (c : goal.After-from_bits_retain)
    → IsWordOf (value_of (record {
      set = c.in-Some.set;
      address = c.unpack-fields.result.address;
      perms = c.from_bits_retain.result;
      flag = c.unpack-fields.result.flag;
      otype = unsealed_type;
    })) c.args.word
read c =
    let fields = c.unpack-fields.result in
    let plain = (c.is_plain.ensures fields c.unpack-fields.ensures.word).0 c.if-not-is_plain.false in
    IsWordOf-read _ fields c.args.word c.in-Some.ensures.found (inr refl) (sym (c.from_bits_retain.ensures tt)) plain.0 refl plain.1 refl
    c.unpack-fields.ensures.word

pub invariant_of-result-2 : goal.invariant_of-result-2
invariant_of-result-2 c =
    let set : Encoding = c.in-Some.set in
    let same : set ≡ encoding_of set.granted = cc (c.in-Some.ensures.only set.granted c.in-Some.ensures.found) in
    record {
      exact = ap (λ (e : Encoding). e.exact) same;
      is_capability = (read c).is_capability;
    }

pub returns-in_default : goal.returns-in_default
returns-in_default c =
    inl (
      λ canonical.
          let own = canonical.1 in
          let same = c.unpack-fields.ensures.only own.fields (sym own.is_word) in
          cc (c.in_default.ensures.only canonical.0.span (IsWordOf-stores canonical.0 c.args.word c.unpack-fields.result own same)),
      refl,
    )

pub returns : goal.returns
returns c = (read c, refl)
