-- The words of an input that have a tag.
use Rattle.std.specs.Prelude.{◌≡◌, ◌+◌, ◌/◌, ◌%◌, ◌^◌, ⊤, Bool, false, not, nat_lt, Option, None, Some, length}
use Rattle.std.specs.List.{slice_index_or}
use Rattle.cc_decode.specs.declared.options.Tags.{Tags}

-- The tags for the rest of an input after its first entry.
abbrev pub after_tag : Tags → Tags
after_tag tags = record tags { place = (tags.place + 1) % 2 ^ 64 }

-- Whether there are tags, but no bit for the next word.
abbrev pub lacks_bit : Option Tags → Bool
lacks_bit None = false
lacks_bit (Some tags) = not (nat_lt (tags.place / 8) (length tags.bits.now))

-- IsTagged holds if the bit of the next word is set, or its tag is not known. A word without a bit has
-- no tag.
abbrev pub IsTagged : Option Tags → Type 0
IsTagged None = ⊤
IsTagged (Some tags) = slice_index_or tags.bits.now (tags.place / 8) 0 / 2 ^ (tags.place % 8) % 2 ≡ 1
