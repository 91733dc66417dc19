-- The output of `decode`, and of `round` for a list, with its hint.
use Rattle.std.proofs.Common.{◌≡◌, ℕ, ◌≤◌, ◌-◌, Bool, false, ◌&&◌, ◌||◌, List, drop, Option, Some, None, IfSome, Result, Ok, Err, inr, refl, subst, sym}
use Rattle.std.specs.Borrow.{Bor}
use Rattle.clap.specs.Words.{Text}
use Rattle.std.specs.Prelude.{OnErr, OnOk, is_err, true}
use Rattle.std.proofs.lemmas.Bool.{false≢true}
use Rattle.std.specs.Io.KnownBytes.{Appends}
use Rattle.cc_io.specs.declared.summary.IoError.{IoError}
use Rattle.cc_io.specs.declared.summary.Summary.{Summary}
use Rattle.cc_decode.specs.declared.options.Options.{Options}
use Rattle.cc_decode.specs.declared.options.Part.{Part}
use Rattle.cc_io.specs.Devices.{InputState, OutputState}
use Rattle.cc_decode.specs.Core.{ListsCore}
use Rattle.cc_decode.specs.Correct.{Lists}
use Rattle.cc_decode.specs.declared.options.Search.{Search}
use Rattle.cc_io.specs.declared.format.Format.{Format}
use Rattle.cc_decode.proofs.SkipLemmas.{lists_further}
use Rattle.cli.specs.declared.question.Base.{Base}
use Rattle.cli.specs.Devices.{Console, FromInput, OnDevices, console_of}
use Rattle.cli.proofs.DeviceLemmas.{on_devices-map}
use Rattle.cli_words.specs.NumberHint.{hint_if, is_bare_base}
use Rattle.cli_words.specs.Questions.{address_of}
use Rattle.cli_words.specs.Tasks.{GaveAll, ListsCoreFile, ListsInput, ListsWords, RoundsLengths, SeesLengths}
use Rattle.cli.specs.declared.fault.Fault.{Fault}
use Rattle.cli.specs.declared.fault.Fault.TheVariants as fault
use Rattle.cli.specs.declared.input.InputName.{InputName}
use Rattle.cli.specs.declared.input.InputName.TheVariants.{File}

-- The rows of the words of an equal input, in an equal listing.
pub lists_alike : (part other : Part) (options others : Options) (name input : InputName) (console : Console) (result : Result Summary Fault)
    → part ≡ other → options ≡ others → name ≡ input
    → OnDevices (FromInput name console (ListsWords part options)) result → OnDevices (FromInput input console (ListsWords other others)) result
lists_alike part other options others name input console result is_part is_options is_name f =
    subst (λ (n : InputName). OnDevices (FromInput n console (ListsWords other others)) result) is_name
    (subst (λ (o : Options). OnDevices (FromInput name console (ListsWords other o)) result) is_options
    (subst (λ (p : Part). OnDevices (FromInput name console (ListsWords p options)) result) is_part f))

-- The rows of the words of an input without tags.
pub lists_untagged : (tags : Option (Bor Text)) (input : InputName) (part : Part) (options : Option (Bor (List ℕ)) → Options) (console : Console) (result : Result Summary Fault)
    → tags ≡ None → OnDevices (FromInput input console (ListsWords part (options None))) result → OnDevices (ListsInput tags input part options console) result
lists_untagged tags input part options console result none f =
    subst (λ (t : Option (Bor Text)). OnDevices (ListsInput t input part options console) result) (sym none) f

-- The rows of the tagged words of an input, after the tags were read.
pub lists_tagged : (tags : Option (Bor Text)) (path : Bor Text) (input : InputName) (part : Part) (options : Option (Bor (List ℕ)) → Options) (bits : Bor (List ℕ))
    (items : List ℕ) (known bytes_of : InputName → Option (List ℕ)) (source_now : InputState) (output output_now errors errors_now : OutputState) (result : Result Summary Fault)
    → tags ≡ Some path → bits.now ≡ items → known ≡ bytes_of → IfSome (bytes_of (File path)) (λ bytes. items ≡ bytes)
    → OnDevices (FromInput input (console_of known source_now output output_now errors errors_now) (ListsWords part (options (Some bits)))) result
    → OnDevices (ListsInput tags input part options (console_of bytes_of source_now output output_now errors errors_now)) result
lists_tagged tags path input part options bits items known bytes_of source_now output output_now errors errors_now result given same kept read f =
    let tagged : IfSome (bytes_of (File path)) (λ bytes. bits.now ≡ bytes) = subst (λ (l : List ℕ). IfSome (bytes_of (File path)) (λ bytes. l ≡ bytes)) (sym same) read in
    let console : Console = console_of bytes_of source_now output output_now errors errors_now in
    subst (λ (t : Option (Bor Text)). OnDevices (ListsInput t input part options console) result) (sym given)
    (on_devices-map (FromInput input console (ListsWords part (options (Some bits)))) (ListsInput (Some path) input part options console)
    (λ io lists. inr (bits, tagged, lists)) result
    (subst (λ (k : InputName → Option (List ℕ)). OnDevices (FromInput input (console_of k source_now output output_now errors errors_now) (ListsWords part (options (Some bits)))) result)
    kept f))

-- The listing of the bytes that were read.
pub lists_read : (format : Format) (search wanted : Option Search) (file items : List ℕ) (name input : InputName) (console : Console) (io : Result Summary IoError)
    → search ≡ wanted → name ≡ input → file ≡ items → GaveAll (console.input name) console.source_now items
    → ListsCore format search file console.output console.output_now io → ListsCoreFile input format wanted console io
lists_read format search wanted file items name input console io is_search is_name same read lists =
    inr (
      items,
      subst (λ (n : InputName). GaveAll (console.input n) console.source_now items) is_name read,
      subst (λ (s : Option Search). ListsCore format s items console.output console.output_now io) is_search
          (subst (λ (l : List ℕ). ListsCore format search l console.output console.output_now io) same lists),
    )

own : (bytes : Option (List ℕ)) → IfSome bytes (λ known. bytes ≡ Some known)
own None = tt
own (Some bytes) = refl

-- The rows of the words of a part of an input whose first bytes were passed when it was opened.
pub lists_opened : (passed : ℕ) (part : Part) (options : Options) (input : InputName) (console : Console) (source : InputState) (io : Result Summary IoError)
    → passed ≤ part.skipped → IfSome (console.input input) (λ bytes. source.unread ≡ Some (drop passed bytes))
    → Lists (record { skipped = part.skipped - passed; count = part.count }) options source console.source_now console.output console.output_now io
    → FromInput input console (ListsWords part options) io
lists_opened passed part options input console source io fits known lists = record {
  source = record { unread = console.input input; most_unread = 0; has_failed = false };
  known = own (console.input input);
  does = lists_further passed part options (console.input input) source console.source_now console.output console.output_now io fits known lists;
}

-- The hint on the list, beside its output.
hinted_too : (base : Option Base) (hints bare : Bool) (input : InputName) (console : Console) (result : Result Summary Fault)
    → OnOk result (console.errors_now.has_failed ≡ false → Appends console.errors.taken console.errors_now.taken (hint_if (hints && (is_bare_base base || bare))))
    → OnDevices (FromInput input console (SeesLengths (address_of base) bare)) result → OnDevices (FromInput input console (RoundsLengths base hints)) result
hinted_too base hints bare input console (Ok summary) hinted f = record {
  source = f.source;
  known = f.known;
  does = record { bare = bare; rounds = f.does; hinted = hinted };
}
hinted_too base hints bare input console (Err fault.Read) hinted f = record {
  source = f.source;
  known = f.known;
  does = record { bare = bare; rounds = f.does; hinted = tt };
}
hinted_too base hints bare input console (Err fault.Write) hinted f = record {
  source = f.source;
  known = f.known;
  does = record { bare = bare; rounds = f.does; hinted = tt };
}
hinted_too base hints bare input console (Err fault.Memory) hinted f = tt
hinted_too base hints bare input console (Err fault.Open) hinted f = tt

-- The same for an equal address and an equal input.
pub hinted_at : (base : Option Base) (hints bare : Bool) (place : Option ℕ) (name input : InputName) (console : Console) (result : Result Summary Fault)
    → place ≡ address_of base → name ≡ input
    → OnOk result (console.errors_now.has_failed ≡ false → Appends console.errors.taken console.errors_now.taken (hint_if (hints && (is_bare_base base || bare))))
    → OnDevices (FromInput name console (SeesLengths place bare)) result → OnDevices (FromInput input console (RoundsLengths base hints)) result
hinted_at base hints bare place name input console result is_place is_name hinted f =
    hinted_too base hints bare input console result hinted
    (subst (λ (n : InputName). OnDevices (FromInput n console (SeesLengths (address_of base) bare)) result) is_name
    (subst (λ (p : Option ℕ). OnDevices (FromInput name console (SeesLengths p bare)) result) is_place f))

-- At an error nothing is said of the hint.
pub no_hint : (Hinted : Type 0) (result : Result Summary Fault) → is_err result ≡ true → OnOk result Hinted
no_hint Hinted (Ok summary) failed = absurd (false≢true failed)
no_hint Hinted (Err fault) failed = tt

-- A claim that holds in any case holds at `Ok` and at an error.
pub on_ok : (result : Result Summary IoError) (P : Type 0) → P → OnOk result P
on_ok (Ok summary) P holds = holds
on_ok (Err error) P holds = tt

pub on_err : (result : Result Summary IoError) (P : Type 0) → P → OnErr result P
on_err (Ok summary) P holds = tt
on_err (Err error) P holds = holds
