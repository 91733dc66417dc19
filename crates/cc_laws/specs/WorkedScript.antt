-- The script of README, and the output that README prints for it.
use Rattle.std.specs.Prelude.{ℕ, List, [], ◌∷◌, ◌++◌, codes}
use Rattle.cc_io.specs.Text.{with_line_feed}

-- The lines, each with a line feed after it.
abbrev pub text_of : List (List ℕ) → List ℕ
text_of [] = []
text_of (line ∷ lines) = with_line_feed line ++ text_of lines

-- The script, whose pool is 64 KiB from 0x10000.
abbrev pub readme_script : List ℕ
readme_script = text_of (codes "alloc 100" ∷ codes "alloc 8191" ∷ codes "free 1" ∷ codes "sweep" ∷ codes "show 3" ∷ [])

-- Its output: three lines for the pool, and one for each line of the script.
abbrev pub readme_output : List ℕ
readme_output = text_of (
    codes "slot 1 ffff0000000000000000000000010000 0x0 0x10000000000000000"
    ∷ codes "slot 2 ffff0000000190000000000000010000 0x10000 0x20000"
    ∷ codes "pool 2 0x10000 0x20000"
    ∷ codes "object 1 slot 3 ffff0000041880040000000000010000 0x10000 0x10064 held 100"
    ∷ codes "object 2 slot 4 ffff0000000f803d0000000000010070 0x10070 0x12070 held 8292"
    ∷ codes "freed 1 revoked 0 held 8292"
    ∷ codes "swept 1 revoked 1 held 8192"
    ∷ codes "error 6 revoked"
    ∷ [])
