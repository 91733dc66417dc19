-- Sets of permissions, as 16-bit numbers.
use Rattle.std.specs.Prelude.{ℕ, ◌≡◌, ◌^◌, List, [], ◌∷◌, codes}
use Rattle.std.specs.Int.RustNames.{bit_and}
use Rattle.cc_word.specs.declared.perms.Perms.{Perms}

-- The bits of a set.
abbrev pub bits_of : Perms → ℕ
bits_of perms = perms.0

-- The set of GLOBAL alone, which the rules of derivation name.
abbrev pub global_permission : ℕ
global_permission = 2 ^ 0

-- The set of SEAL alone, which the rules of derivation name.
abbrev pub seal_permission : ℕ
seal_permission = 2 ^ 7

-- The set of UNSEAL alone, which the rules of derivation name.
abbrev pub unseal_permission : ℕ
unseal_permission = 2 ^ 9

-- The name and the bit of each permission.
abbrev pub permission_table : List (List ℕ × ℕ)
permission_table =
    (codes "GLOBAL", global_permission)
    ∷ (codes "EXECUTE", 2 ^ 1)
    ∷ (codes "LOAD", 2 ^ 2)
    ∷ (codes "STORE", 2 ^ 3)
    ∷ (codes "LOAD_CAP", 2 ^ 4)
    ∷ (codes "STORE_CAP", 2 ^ 5)
    ∷ (codes "STORE_LOCAL_CAP", 2 ^ 6)
    ∷ (codes "SEAL", seal_permission)
    ∷ (codes "CINVOKE", 2 ^ 8)
    ∷ (codes "UNSEAL", unseal_permission)
    ∷ (codes "SYSTEM_REGS", 2 ^ 10)
    ∷ (codes "SET_CID", 2 ^ 11)
    ∷ (codes "USER0", 2 ^ 12)
    ∷ (codes "USER1", 2 ^ 13)
    ∷ (codes "USER2", 2 ^ 14)
    ∷ (codes "USER3", 2 ^ 15)
    ∷ []

-- `HasAll` holds if each permission of `others` is in `permissions`.
abbrev pub HasAll : (permissions others : ℕ) → Type 0
HasAll permissions others = bit_and permissions others ≡ others
