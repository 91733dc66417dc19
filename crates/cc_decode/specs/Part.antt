-- The part of an input that is decoded: its first entries.
use Rattle.std.specs.Prelude.{ℕ, Bool, ◌-◌, ◌==◌, false, List, [], length, take, Option, None, Some, option_map, if◌then◌else◌}
use Rattle.cc_io.specs.Frames.{Frame}

-- Whether no further entry is decoded, if `left` of them still were.
abbrev pub is_part_over : (left : Option ℕ) → Bool
is_part_over None = false
is_part_over (Some left) = left == 0

-- The number of entries that are still decoded after `count` more.
abbrev pub left_after : (left : Option ℕ) (count : ℕ) → Option ℕ
left_after left count = option_map (λ number. number - count) left

-- The first of the entries, as many as are still decoded.
abbrev pub first_entries : (left : Option ℕ) → List (List ℕ) → List (List ℕ)
first_entries None entries = entries
first_entries (Some left) entries = take left entries

-- The way to cut an input into its first entries alone. Bytes after the last that is decoded are not
-- trailing bytes.
abbrev pub frame_part : (left : Option ℕ) → Frame → Frame
frame_part left frame = record {
  entries = λ begun text. first_entries left (frame.entries begun text);
  left = λ begun text. if is_part_over (left_after left (length (frame.entries begun text))) then [] else frame.left begun text;
}

-- The unread bytes of an input after some entries, if they are decoded.
abbrev pub unread_after : (left : Option ℕ) → List (List ℕ) → (unread : Option (List ℕ)) → Option (List ℕ)
unread_after left entries unread = if is_part_over (left_after left (length entries)) then None else unread
