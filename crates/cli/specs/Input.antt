-- The input that FILE names.
use Rattle.std.specs.Prelude.{◌≡◌, [], ◌∷◌, Bool, List, Option, Some, None, codes, false, if◌then◌else◌, ⊤}
use Rattle.std.specs.Borrow.{Bor}
use Rattle.std.specs.Str.{bytes_eq}
use Rattle.clap.specs.Words.{Text}
use Rattle.cli.specs.declared.input.Content.{Content}
use Rattle.cli.specs.declared.input.Content.TheVariants.{Trace, TraceForScript}
use Rattle.cli.specs.declared.input.InputName.{InputName}
use Rattle.cli.specs.declared.input.InputName.TheVariants.{Standard, File}
use Rattle.cli.specs.declared.invocation.ReplayOutput.{ReplayOutput}
use Rattle.cli.specs.declared.invocation.ReplayOutput.TheVariants.{Script}

-- The input that FILE names: standard input for `-`, and if FILE is not given.
abbrev pub file_input : Option (Bor Text) → InputName
file_input None = Standard
file_input (Some path) = if bytes_eq path.now (codes "-") then Standard else File path

-- IsFile holds if the input is a file.
abbrev pub IsFile : InputName → Type 0
IsFile Standard = ⊥
IsFile (File path) = ⊤

-- OpensFile holds if a file is opened, for the input or for its tags.
abbrev pub OpensFile : (tags : Option (Bor Text)) (input : InputName) → Type 0
OpensFile None input = IsFile input
OpensFile (Some path) input = ⊤

-- AreUnasked holds if the requests were not this input alone. With a file of tags it holds if they were neither that file alone nor
-- that file and then this input. `requested` says which requests there were, the last one first.
abbrev pub AreUnasked : (tags : Option (Bor Text)) (input : InputName) → Content → (requested : List (InputName × Content) → Bool) → Type 0
AreUnasked None input content requested = requested ((input, content) ∷ []) ≡ false
AreUnasked (Some path) input content requested =
    (requested ((File path, content) ∷ []) ≡ false) × (requested ((input, content) ∷ (File path, content) ∷ []) ≡ false)

-- The content of the trace of `replay`, by its output.
abbrev pub trace_content : Option ReplayOutput → Content
trace_content (Some Script) = TraceForScript
trace_content _ = Trace
