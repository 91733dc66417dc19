-- The contents of a heap: live objects under ids, and the spans of objects that were freed and not swept.
-- The order of the live objects has no meaning.
use Rattle.std.specs.Prelude.{ℕ, Bool, ◌≡◌, ◌%◌, ◌^◌, ◌<◌, ◌≤◌, nat_eq, nat_le, nat_lt, max, ◌&&◌, List, ◌++◌, All, length, map, sum_by, count_by}
use Rattle.std.specs.List.{IsDistinct}
use Rattle.std.specs.Map.{keys_of}
use Rattle.cc_bounds.specs.declared.span.Span.{Span}
use Rattle.cc_bounds.specs.declared.align.Align.{Align}
use Rattle.cc_bounds.specs.Span.{IsSpan, length_of, span_from}
use Rattle.cc_placer.specs.Align.{HasExactSpan, padded_size_for, unit_of}
use Rattle.cc_heap.specs.declared.object.Object.{Object}
use Rattle.cc_heap.specs.declared.usage.Usage.{Usage}

-- ---- An object and its span.

-- The number of bytes of which an object's start is a multiple: the larger of the unit of its size
-- and the alignment that its event requests. So a larger alignment moves an object, and does not pad
-- it.
abbrev pub start_unit : Align → (requested size : ℕ) → ℕ
start_unit align requested size = max (unit_of align size) requested

-- The object of `size` bytes, of a requested alignment, that begins at `start`.
abbrev pub memory_object : Align → (requested start size : ℕ) → Object
memory_object align requested start size = record {
  size = size;
  align = requested;
  span = span_from start (padded_size_for align size);
}

-- IsExact holds if an object has exact bounds, as the objects of a plan have them, and begins at a
-- multiple of the requested alignment.
pub record IsExact (align : Align) (object : Object) : Type 0 where
  pub bounds : HasExactSpan align object.size object.span
  pub aligned : object.span.base % object.align ≡ 0
  pub size_fits : object.size < 2 ^ 64

-- ---- A memory.

-- The live objects, each with its id, and the quarantined spans.
pub record Memory : Type 0 where
  pub live : List (ℕ × Object)
  pub quarantined : List Span

-- The span of the object under an id.
abbrev pub object_span : ℕ × Object → Span
object_span entry = entry.1.span

-- The held spans: those of the live objects, and the quarantined ones.
abbrev pub memory_spans : Memory → List Span
memory_spans memory = map object_span memory.live ++ memory.quarantined

-- The number of live objects and of bytes of a memory.
abbrev pub usage_of : Memory → Usage
usage_of memory = record {
  objects = length memory.live;
  asked = sum_by (λ entry. entry.1.size) memory.live;
  live = sum_by (λ entry. length_of (object_span entry)) memory.live;
  quarantine = sum_by length_of memory.quarantined;
}

-- Whether the byte is one of the span's.
abbrev pub span_has_byte : (byte : ℕ) → Span → Bool
span_has_byte byte span = nat_le span.base byte && nat_lt byte span.top

-- ShareNoByte holds if no byte is in two of the spans.
abbrev pub ShareNoByte : List Span → Type 0
ShareNoByte spans = (byte : ℕ) → count_by (span_has_byte byte) spans ≤ 1

-- IsExactEntry holds if the object under an id has exact bounds.
abbrev pub IsExactEntry : Align → ℕ × Object → Type 0
IsExactEntry align entry = IsExact align entry.1

-- IsSoundMemory holds if a memory has the properties that each event keeps. Its objects have exact bounds,
-- and an id each. Its held spans share no byte.
pub record IsSoundMemory (align : Align) (memory : Memory) : Type 0 where
  pub exact : All (IsExactEntry align) memory.live
  pub spans : All IsSpan memory.quarantined
  pub ids : IsDistinct nat_eq (keys_of memory.live)
  pub apart : ShareNoByte (memory_spans memory)
