-- The window of a word, as C has it.
use Rattle.std.specs.Prelude.{ℕ, ◌≡◌, ◌+◌, ◌-◌, ◌%◌, ◌^◌, ◌≤◌}
use Rattle.cc_ffi.specs.declared.structs.Window.{Window}

-- The number of bytes from one address up to another, through the end of the address space if the
-- other is below.
abbrev pub distance : (from to : ℕ) → ℕ
distance from to = (to + 2 ^ 64 - from) % 2 ^ 64

-- IsFromTo holds if the address is met on the way up from the first address to the last.
abbrev pub IsFromTo : (first last address : ℕ) → Type 0
IsFromTo first last address = distance first address ≤ distance first last

-- IsEveryAddress holds if the window is from address 0 to the last.
abbrev pub IsEveryAddress : Window → Type 0
IsEveryAddress window = (window.first ≡ 0) × (window.last ≡ 2 ^ 64 - 1)
