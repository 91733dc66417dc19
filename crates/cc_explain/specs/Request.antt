-- The explanation of a request for bounds.
use Rattle.std.specs.Prelude.{◌≡◌, ℕ, ◌-◌, ◌/◌, ◌==◌, List, ◌++◌, codes, nat_lt, if◌then◌else◌}
use Rattle.cc_bounds.specs.declared.span.Span.{Span}
use Rattle.cc_bounds.specs.Span.{from_zero, length_of}
use Rattle.cc_bounds.specs.Granule.{IsGranted, IsGranule, granule_count, granule_of, padded_size}
use Rattle.cc_cap.specs.Capability.{Capability, at_address, root_capability, with_span}
use Rattle.cc_cap.specs.Canonical.{IsWordOf}
use Rattle.cc_io.specs.Text.{with_line_feed}
use Rattle.cc_explain.specs.Explanation.{word_text}
use Rattle.cc_io.specs.Numbered.{line_with_decimal, line_with_hexadecimal, with_hexadecimal}
use Rattle.cc_explain.specs.declared.request.Grant.{Grant}

-- ---- the grant

-- The root capability with the bounds of a request, at the request's base.
abbrev pub granted_capability : (request granted : Span) → Capability
granted_capability request granted = with_span (at_address root_capability request.base) granted

-- `IsGrant` holds if the grant has the request's granule, the span that it is granted, and the word
-- of the root capability with the granted bounds, at the request's base. A request has one of each.
pub record IsGrant (request : Span) (grant : Grant) : Type 0 where
  pub is_granule : IsGranule request grant.granule
  pub is_granted : IsGranted request grant.granted
  pub of_word : IsWordOf (granted_capability request grant.granted) grant.word

-- ---- the lines

-- A line: the given bytes, and then the length, the base and the top of a span.
abbrev pub span_text : (before : List ℕ) → Span → List ℕ
span_text before span =
    with_hexadecimal before (length_of span) ++ with_hexadecimal (codes " bytes, from ") span.base
    ++ line_with_hexadecimal (codes " to ") span.top (codes "")

-- The line of the granule, and of the number of granules that the request touches.
abbrev pub touched_text : (request : Span) (granule : ℕ) → List ℕ
touched_text request granule =
    with_hexadecimal (codes "granule   ") granule
    ++ line_with_decimal (codes " bytes: the request touches ") (granule_count request granule) (codes " of them, and at most 1023 can be counted")

-- The line that says why half a granule is not enough: it is smaller than a granule can be, or the
-- request touches too many of them.
abbrev pub half_text : (request : Span) (granule : ℕ) → List ℕ
half_text request granule =
    if granule == 8 then with_line_feed (codes "half      none: from 4096 bytes up a granule has 8 bytes or more")
    else with_hexadecimal (codes "half      ") (granule / 2)
    ++ line_with_decimal (codes " bytes: the request touches ") (granule_count request (granule / 2)) (codes " of them, and that is too many")

-- The line of the granule of a request, and for at least 4,096 bytes the line that says why half of
-- it is not enough.
abbrev pub unit_text : (request : Span) (granule : ℕ) → List ℕ
unit_text request granule =
    if nat_lt (length_of request) 4096 then with_line_feed (codes "granule   1 byte: the request has less than 4096")
    else touched_text request granule ++ half_text request granule

-- The line of the number of bytes that are granted before the request, and after it.
abbrev pub lost_text : (request granted : Span) → List ℕ
lost_text request granted =
    with_hexadecimal (codes "lost      ") (request.base - granted.base)
    ++ line_with_hexadecimal (codes " bytes before the request, and ") (granted.top - request.top) (codes " behind it")

-- The line of the padded size of a length, which has exact bounds at every multiple of the granule
-- of that length.
abbrev pub exact_text : (size : ℕ) → List ℕ
exact_text size =
    with_hexadecimal (codes "exact     ") (padded_size size)
    ++ line_with_hexadecimal (codes " bytes, at a base that is a multiple of ") (granule_of (from_zero size)) (codes "")

-- All lines of an explained request.
abbrev pub grant_text : Span → Grant → List ℕ
grant_text request grant =
    span_text (codes "request   ") request ++ unit_text request grant.granule ++ span_text (codes "granted   ") grant.granted
    ++ lost_text request grant.granted ++ exact_text (length_of request) ++ word_text grant.word

-- `IsRequestExplanation` holds if the explanation is the lines of a request and of its grant.
pub record IsRequestExplanation (request : Span) (explanation : List ℕ) : Type 0 where
  pub grant : Grant
  pub is_grant : IsGrant request grant
  pub lines : explanation ≡ grant_text request grant
