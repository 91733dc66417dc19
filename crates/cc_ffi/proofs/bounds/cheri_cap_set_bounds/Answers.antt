use Rattle.std.proofs.Common.{ℕ, subst}
use Rattle.cc_bounds.specs.Span.{span_from}
use Rattle.cc_ffi.specs.Bounds.{IsRequestGranted}
use Rattle.cc_ffi.proofs.bounds.cheri_cap_set_bounds.Goals as goal

pub returns-clause-granted : goal.returns-clause-granted
returns-clause-granted c fits =
    subst (λ (length : ℕ). IsRequestGranted (span_from c.args.base length) c.granted.result) c.number-length.ensures
    (record {
      set = c.set_bounds.result;
      is_made = c.granted.ensures;
      granted = c.set_bounds.ensures.granted;
      exact = c.set_bounds.ensures.exact;
      decodes = c.set_bounds.ensures.decodes;
      tight = c.set_bounds.ensures.tight;
      tightest = c.set_bounds.ensures.tightest;
    })
