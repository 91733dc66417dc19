-- The options of a listing that the values of `decode` request.
use Rattle.std.specs.Prelude.{ℕ, Bool, ◌/◌, ◌||◌, not, List, Option, Some, None, is_some, option_map, unwrap_or, if◌then◌else◌}
use Rattle.std.specs.Borrow.{Bor}
use Rattle.cc_io.specs.declared.format.Format.{Format}
use Rattle.cc_io.specs.declared.input_form.InputForm.{InputForm}
use Rattle.cc_decode.specs.declared.options.Options.{Options}
use Rattle.cc_decode.specs.declared.options.Part.{Part}
use Rattle.cc_decode.specs.declared.options.Search.{Search}
use Rattle.cc_decode.specs.declared.options.Tags.{Tags}
use Rattle.cli.specs.declared.invocation.DecodeValues.{DecodeValues}
use Rattle.cli.specs.declared.invocation.SearchValues.{SearchValues}

-- The search of `--holds`, `--perms` and `--unsealed`: none if none of them is given. A tagged word needs no permission.
abbrev pub search_of : (tagged : Bool) → SearchValues → Option Search
search_of tagged values =
    if is_some values.holds || (is_some values.perms || values.unsealed)
    then Some (record { holds = values.holds; perms = unwrap_or values.perms (record { 0 = 0 }); needs_permission = not tagged; unsealed = values.unsealed })
    else None

-- The tags of the words after the first `skipped` bytes, if the file of the tags has these bytes: a bit for each sixteen bytes of the
-- input.
abbrev pub tags_after : (skipped : ℕ) → Bor (List ℕ) → Tags
tags_after skipped bits = record { bits = bits; place = skipped / 16 }

-- The options of the listing, if the file of the tags has these bytes.
abbrev pub options_of : InputForm → Format → DecodeValues → Option (Bor (List ℕ)) → Options
options_of input format values bits = record {
  input = input;
  format = format;
  at = values.at;
  tags = option_map (tags_after (unwrap_or values.skip 0)) bits;
  search = search_of (is_some bits) values.search;
}

-- The part of the input that is listed: nothing is skipped if `--skip` is not given.
abbrev pub part_of : DecodeValues → Part
part_of values = record { skipped = unwrap_or values.skip 0; count = values.count }
