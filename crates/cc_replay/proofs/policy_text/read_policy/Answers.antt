use Rattle.std.proofs.Common.{◌≡◌, ◌∙◌, false, true, Ok, codes, ap, refl, sym}
use Rattle.std.specs.Str.{bytes_eq}
use Rattle.cc_heap.specs.declared.policy.Policy.TheVariants.{Immediate, Never, Trace}
use Rattle.cc_replay.specs.PolicyText.{policy_in}
use Rattle.cc_replay.proofs.PolicyLemmas.{read_texts, texts_are_read}
use Rattle.cc_replay.proofs.policy_text.read_policy.Goals as goal

-- Each clause from the value, which is one of the names, or of no name.

pub returns-then-eq-clause-texts : goal.returns-then-eq-clause-texts
returns-then-eq-clause-texts c =
    let none : bytes_eq c.args.text.now (codes "none") ≡ true = ap (bytes_eq c.args.text.now) (sym c.as_slice.ensures) ∙ sym c.if-eq.ensures in
    let value : policy_in c.args.text.now ≡ Ok Immediate = rw (none) refl in
    λ policy is. sym value ∙ texts_are_read policy c.args.text.now is

pub returns-then-eq-clause-names : goal.returns-then-eq-clause-names
returns-then-eq-clause-names c =
    let none : bytes_eq c.args.text.now (codes "none") ≡ true = ap (bytes_eq c.args.text.now) (sym c.as_slice.ensures) ∙ sym c.if-eq.ensures in
    let value : policy_in c.args.text.now ≡ Ok Immediate = rw (none) refl in
    λ policy made. read_texts c.args.text.now policy (value ∙ made)

pub returns-then-eq-2-clause-texts : goal.returns-then-eq-2-clause-texts
returns-then-eq-2-clause-texts c =
    let none : bytes_eq c.args.text.now (codes "none") ≡ false = ap (bytes_eq c.args.text.now) (sym c.as_slice.ensures) ∙ sym c.if-eq.ensures in
    let never : bytes_eq c.args.text.now (codes "never") ≡ true = ap (bytes_eq c.args.text.now) (sym c.as_slice-else-eq.ensures) ∙ sym c.if-eq-2.ensures in
    let value : policy_in c.args.text.now ≡ Ok Never = rw (none, never) refl in
    λ policy is. sym value ∙ texts_are_read policy c.args.text.now is

pub returns-then-eq-2-clause-names : goal.returns-then-eq-2-clause-names
returns-then-eq-2-clause-names c =
    let none : bytes_eq c.args.text.now (codes "none") ≡ false = ap (bytes_eq c.args.text.now) (sym c.as_slice.ensures) ∙ sym c.if-eq.ensures in
    let never : bytes_eq c.args.text.now (codes "never") ≡ true = ap (bytes_eq c.args.text.now) (sym c.as_slice-else-eq.ensures) ∙ sym c.if-eq-2.ensures in
    let value : policy_in c.args.text.now ≡ Ok Never = rw (none, never) refl in
    λ policy made. read_texts c.args.text.now policy (value ∙ made)

pub returns-then-eq-3-clause-texts : goal.returns-then-eq-3-clause-texts
returns-then-eq-3-clause-texts c =
    let none : bytes_eq c.args.text.now (codes "none") ≡ false = ap (bytes_eq c.args.text.now) (sym c.as_slice.ensures) ∙ sym c.if-eq.ensures in
    let never : bytes_eq c.args.text.now (codes "never") ≡ false = ap (bytes_eq c.args.text.now) (sym c.as_slice-else-eq.ensures) ∙ sym c.if-eq-2.ensures in
    let trace : bytes_eq c.args.text.now (codes "trace") ≡ true = ap (bytes_eq c.args.text.now) (sym c.as_slice-else-eq-2.ensures) ∙ sym c.if-eq-3.ensures in
    let value : policy_in c.args.text.now ≡ Ok Trace = rw (none, never, trace) refl in
    λ policy is. sym value ∙ texts_are_read policy c.args.text.now is

pub returns-then-eq-3-clause-names : goal.returns-then-eq-3-clause-names
returns-then-eq-3-clause-names c =
    let none : bytes_eq c.args.text.now (codes "none") ≡ false = ap (bytes_eq c.args.text.now) (sym c.as_slice.ensures) ∙ sym c.if-eq.ensures in
    let never : bytes_eq c.args.text.now (codes "never") ≡ false = ap (bytes_eq c.args.text.now) (sym c.as_slice-else-eq.ensures) ∙ sym c.if-eq-2.ensures in
    let trace : bytes_eq c.args.text.now (codes "trace") ≡ true = ap (bytes_eq c.args.text.now) (sym c.as_slice-else-eq-2.ensures) ∙ sym c.if-eq-3.ensures in
    let value : policy_in c.args.text.now ≡ Ok Trace = rw (none, never, trace) refl in
    λ policy made. read_texts c.args.text.now policy (value ∙ made)

pub returns-else-eq-3-clause-texts : goal.returns-else-eq-3-clause-texts
returns-else-eq-3-clause-texts c =
    let none : bytes_eq c.args.text.now (codes "none") ≡ false = ap (bytes_eq c.args.text.now) (sym c.as_slice.ensures) ∙ sym c.if-eq.ensures in
    let never : bytes_eq c.args.text.now (codes "never") ≡ false = ap (bytes_eq c.args.text.now) (sym c.as_slice-else-eq.ensures) ∙ sym c.if-eq-2.ensures in
    let trace : bytes_eq c.args.text.now (codes "trace") ≡ false = ap (bytes_eq c.args.text.now) (sym c.as_slice-else-eq-2.ensures) ∙ sym c.if-eq-3.ensures in
    let value : policy_in c.args.text.now ≡ c.read_numbered.result = rw (none, never, trace) (sym c.read_numbered.ensures) in
    λ policy is. sym value ∙ texts_are_read policy c.args.text.now is

pub returns-else-eq-3-clause-names : goal.returns-else-eq-3-clause-names
returns-else-eq-3-clause-names c =
    let none : bytes_eq c.args.text.now (codes "none") ≡ false = ap (bytes_eq c.args.text.now) (sym c.as_slice.ensures) ∙ sym c.if-eq.ensures in
    let never : bytes_eq c.args.text.now (codes "never") ≡ false = ap (bytes_eq c.args.text.now) (sym c.as_slice-else-eq.ensures) ∙ sym c.if-eq-2.ensures in
    let trace : bytes_eq c.args.text.now (codes "trace") ≡ false = ap (bytes_eq c.args.text.now) (sym c.as_slice-else-eq-2.ensures) ∙ sym c.if-eq-3.ensures in
    let value : policy_in c.args.text.now ≡ c.read_numbered.result = rw (none, never, trace) (sym c.read_numbered.ensures) in
    λ policy made. read_texts c.args.text.now policy (value ∙ made)
