use Rattle.std.proofs.Common.{◌≡◌, subst, ℕ, ◌+◌, ◌≤◌, ◌<◌, ◌^◌, arith}
use Rattle.cc_bounds.specs.declared.span.Span.{Span}
use Rattle.cc_bounds.specs.Span.{IsSpan, span_from}
use Rattle.cc_bounds.specs.Granule.{IsGranted}
use Rattle.cc_bounds.proofs.ComputingLemmas.{bounds_fields-is}
use Rattle.cc_bounds.proofs.SoundLemmas.{granted-sound}
use Rattle.cc_bounds.proofs.SoundDecodingLemmas.{sound-decodes}
use Rattle.cc_bounds.proofs.TightestLemmas.{granted-tight, granted-tightest}
use Rattle.cc_bounds.proofs.encoding.set_bounds.Goals as goal

-- a request that ends at 2 ^ 64 or below is a span of the address space
request-span : (base len : ℕ) → base < 2 ^ 64 → base + len ≤ 2 ^ 64 → IsSpan (span_from base len)
request-span base len base_fits fits = record { in_order = omega arith; base_fits = base_fits; top_fits = fits }

-- what the span of the code was granted
request-granted : (base own len : ℕ) (granted : Span) → own ≡ base
    → IsGranted (record { base = base; top = own + len }) granted → IsGranted (span_from base len) granted
request-granted base own len granted is h = subst (λ (n : ℕ). IsGranted (record { base = base; top = n + len }) granted) is h

pub returns-clause-fields : goal.returns-clause-fields
returns-clause-fields c =
    let span = request-span c.args.base c.args.len (omega arith) c.requires in
    let h = request-granted c.args.base _ c.args.len c.encode.result.granted c.from.ensures c.encode.ensures.granted in
    bounds_fields-is c.encode.result.granted (granted-sound (span_from c.args.base c.args.len) c.encode.result.granted span h).is_span

pub returns-clause-decodes : goal.returns-clause-decodes
returns-clause-decodes c =
    let span = request-span c.args.base c.args.len (omega arith) c.requires in
    let h = request-granted c.args.base _ c.args.len c.encode.result.granted c.from.ensures c.encode.ensures.granted in
    let grant = granted-sound (span_from c.args.base c.args.len) c.encode.result.granted span h in
    sound-decodes c.encode.result.granted grant.is_span grant.sound

pub returns-clause-tight : goal.returns-clause-tight
returns-clause-tight c =
    granted-tight (span_from c.args.base c.args.len) c.encode.result.granted
    (request-span c.args.base c.args.len (omega arith) c.requires)
    (request-granted c.args.base _ c.args.len c.encode.result.granted c.from.ensures c.encode.ensures.granted)

pub returns-clause-tightest : goal.returns-clause-tightest
returns-clause-tightest c =
    granted-tightest (span_from c.args.base c.args.len) c.encode.result.granted
    (request-span c.args.base c.args.len (omega arith) c.requires)
    (request-granted c.args.base _ c.args.len c.encode.result.granted c.from.ensures c.encode.ensures.granted)
