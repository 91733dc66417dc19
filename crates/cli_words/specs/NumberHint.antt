-- The hint on a number that may be hexadecimal digits without `0x`.
use Rattle.std.specs.Prelude.{ℕ, Bool, false, List, [], Option, Some, None, codes, if◌then◌else◌}
use Rattle.cli.specs.declared.question.Base.{Base}
use Rattle.cli_words.specs.BareDigits.{is_bare}

-- Whether a base is given, and its text is such a number.
abbrev pub is_bare_base : Option Base → Bool
is_bare_base None = false
is_bare_base (Some base) = is_bare base.text.now

-- The hint, or nothing if there is none.
abbrev pub hint_if : (is_hinted : Bool) → List ℕ
hint_if is_hinted =
    if is_hinted then codes "hint: a number of 8 or 16 digits that begins with 0 is read as decimal: put 0x before hexadecimal digits\n"
    else []
