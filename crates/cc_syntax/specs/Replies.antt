-- The lines of replies, without their line feed.
use Rattle.std.specs.Prelude.{ℕ, Bool, true, false, List, [], ◌++◌, codes, decimal, Option, Some, None}
use Rattle.cc_word.specs.Word.{bit_of}
use Rattle.cc_word.specs.WordText.{digits_of}
pub use Rattle.cc_word.specs.WordText.{hexadecimal}
pub use Rattle.cc_io.specs.Text.{refusal_text}
use Rattle.cc_bounds.specs.declared.span.Span.{Span}
use Rattle.cc_word.specs.Permissions.{bits_of}
use Rattle.cc_bounds.specs.declared.align.Align.{Align}
use Rattle.cc_bounds.specs.declared.align.Align.TheVariants.{One, Sixteen}
use Rattle.cc_values.specs.declared.reply.Reply.{Reply}
use Rattle.cc_values.specs.declared.reply.Reply.TheVariants.{Made, Shown, Rounded, PoolSet, Allocated, Freed, Swept, Refused}

-- The base and the top.
abbrev pub bounds_text : Span → List ℕ
bounds_text span = hexadecimal span.base ++ codes " " ++ hexadecimal span.top

-- A slot that was made: its number, its word, its bounds.
abbrev pub made_text : (slot word : ℕ) → Span → List ℕ
made_text slot word span = decimal slot ++ codes " " ++ digits_of 32 word ++ codes " " ++ bounds_text span

-- The parent's slot, or `-` for the root, which has none.
abbrev pub parent_text : Option ℕ → List ℕ
parent_text None = codes "-"
parent_text (Some slot) = decimal slot

-- The alignment of a pool: nothing for 1, and ` align 16` for 16.
abbrev pub align_text : Align → List ℕ
align_text One = []
align_text Sixteen = codes " align 16"

-- The number of slots that were revoked, and the number of bytes that are held afterward.
abbrev pub revoked_text : (revoked held : ℕ) → List ℕ
revoked_text revoked held = codes " revoked " ++ decimal revoked ++ codes " held " ++ decimal held

-- The line of a reply.
unfoldable pub reply_text : Reply → List ℕ
reply_text (Made slot word span) = codes "slot " ++ made_text slot word span
reply_text (Shown word span perms flag otype parent) =
    codes "cap " ++ digits_of 32 word ++ codes " " ++ bounds_text span ++ codes " " ++ digits_of 4 (bits_of perms)
    ++ codes " " ++ decimal (bit_of flag) ++ codes " " ++ digits_of 5 otype ++ codes " " ++ parent_text parent
reply_text (Rounded rounded granule mask) =
    codes "round " ++ hexadecimal rounded ++ codes " " ++ hexadecimal granule ++ codes " " ++ hexadecimal mask
reply_text (PoolSet slot span align) =
    codes "pool " ++ decimal slot ++ codes " " ++ bounds_text span ++ align_text align
reply_text (Allocated object slot word span held) =
    codes "object " ++ decimal object ++ codes " slot " ++ made_text slot word span ++ codes " held " ++ decimal held
reply_text (Freed object revoked held) = codes "freed " ++ decimal object ++ revoked_text revoked held
reply_text (Swept objects revoked held) = codes "swept " ++ decimal objects ++ revoked_text revoked held
reply_text (Refused refusal) = refusal_text refusal

-- `is_error` holds if the reply is an error: a refusal.
abbrev pub is_error : Reply → Bool
is_error (Refused refusal) = true
is_error reply = false
