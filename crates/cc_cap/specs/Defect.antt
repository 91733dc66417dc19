-- Why a word is not canonical.
use Rattle.std.specs.Prelude.{◌≡◌, ◌≢◌, ◌<◌, ◌≤◌, ◌^◌}
use Rattle.cc_word.specs.declared.fields.Fields.{Fields}
use Rattle.cc_word.specs.ObjType.{IsObjType}
use Rattle.cc_bounds.specs.declared.span.Span.{Span}
use Rattle.cc_bounds.specs.Encoding.{HasBoundsFields}
use Rattle.cc_bounds.specs.Span.{IsSpan}
use Rattle.cc_cap.specs.declared.canonical.Defect.{Defect}
use Rattle.cc_cap.specs.declared.canonical.Defect.TheVariants.{ReservedBits, ReservedType, TopBelowBase, TopPastEnd, OtherFields}

-- `HasType` holds if the reserved bits are zero and a capability may have the type.
abbrev pub HasType : Fields → Type 0
HasType fields = (fields.reserved ≡ 0) × IsObjType fields.otype

-- `HasDefect` holds if this reason applies to the fields and the bounds that they decode to, and
-- none of those above it.
abbrev pub HasDefect : Fields → Span → Defect → Type 0
HasDefect fields bounds ReservedBits = fields.reserved ≢ 0
HasDefect fields bounds ReservedType = (fields.reserved ≡ 0) × (¬ IsObjType fields.otype)
HasDefect fields bounds TopBelowBase = HasType fields × (bounds.top < bounds.base)
HasDefect fields bounds TopPastEnd = HasType fields × (bounds.base ≤ bounds.top) × (2 ^ 64 < bounds.top)
HasDefect fields bounds OtherFields = HasType fields × IsSpan bounds × (¬ HasBoundsFields bounds fields.ie fields.t fields.b)
