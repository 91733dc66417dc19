-- The heap and the reading that the arguments of `replay` request.
use Rattle.std.specs.Prelude.{ℕ, ◌^◌, ◌==◌, nat_lt, codes, length, List, ◌++◌, ◌∷◌, [], Option, Some, None, Result, Ok, Err, zero, suc, if◌then◌else◌}
use Rattle.std.specs.Borrow.{Bor}
use Rattle.std.specs.Str.{bytes_eq}
use Rattle.std.specs.Option.{ok_or}
use Rattle.std.specs.List.{after_first, before_first, position_or_len, slice_split}
use Rattle.clap.specs.Words.{Text}
use Rattle.cc_word.specs.declared.refusal.Refusal.{Refusal}
use Rattle.cc_word.specs.declared.refusal.Refusal.TheVariants.{OutOfRange, Syntax}
use Rattle.cc_bounds.specs.declared.span.Span.{Span}
use Rattle.cc_values.specs.Values.{address_in, both}
use Rattle.cc_syntax.specs.Request.{request_in}
use Rattle.cc_replay.specs.PolicyText.{policy_in}
use Rattle.cc_replay.specs.declared.formats.TraceFormat.{TraceFormat}
use Rattle.cc_replay.specs.declared.formats.TraceFormat.TheVariants.{Own, Mtrace, Heaptrack, Ltrace}
use Rattle.cc_heap.specs.declared.policy.Policy.{Policy}
use Rattle.cc_heap.specs.declared.policy.Policy.TheVariants.{Percent}
use Rattle.cc_heap.specs.declared.policy.Share.TheVariants.{Held}
use Rattle.cc_replay.specs.declared.reading.Reading.{Reading}
use Rattle.cc_heap.specs.declared.reallocation.Reallocation.{Reallocation}
use Rattle.cc_heap.specs.declared.reallocation.Reallocation.TheVariants.{Move, Keep}
use Rattle.cc_heap.specs.declared.settings.Settings.{Settings}
use Rattle.cli.specs.declared.invocation.ReplayOutput.{ReplayOutput}
use Rattle.cli.specs.declared.invocation.ReplayOutput.TheVariants.{Script, Series, Summary}
use Rattle.cli.specs.declared.invocation.ReplayValues.{ReplayValues}
use Rattle.cli_replay.specs.declared.replay_values.ReplayRequest.{ReplayRequest}
use Rattle.cc_io.specs.CommandOutput.{changed}

-- The names of policies: the parts of a text between its commas.
abbrev pub pieces_of : (text : List ℕ) → List (List ℕ)
pieces_of text = slice_split (λ byte. byte == 44) text

-- The policy of the first name.
abbrev pub first_policy : (names : List (List ℕ)) → Result Policy Refusal
first_policy [] = Err Syntax
first_policy (name ∷ names) = policy_in name

-- The policy that `--sweep` names first: 25 percent of the held bytes if the option is not given.
abbrev pub sweep_given : Option (Bor Text) → Result Policy Refusal
sweep_given None = Ok (Percent 25 Held)
sweep_given (Some text) = first_policy (pieces_of text.now)

-- The policies with one more, of which there are at most seven, or its error.
abbrev pub one_more : List Policy → Result Policy Refusal → Result (List Policy) Refusal
one_more policies (Ok policy) = if nat_lt (length policies) 7 then Ok (policies ++ policy ∷ []) else Err OutOfRange
one_more policies (Err refusal) = Err refusal

-- The policies with those of these names, or the first error.
abbrev pub policies_after : Result (List Policy) Refusal → (names : List (List ℕ)) → Result (List Policy) Refusal
policies_after (Err refusal) names = Err refusal
policies_after (Ok policies) [] = Ok policies
policies_after (Ok policies) (name ∷ names) = policies_after (one_more policies (policy_in name)) names

-- The policies, which only a summary can have.
abbrev pub in_summary : Option ReplayOutput → Result (List Policy) Refusal → Result (List Policy) Refusal
in_summary (Some (Summary format)) found = found
in_summary _ found = Err Syntax

-- The policies of the names after the first.
abbrev pub others_in : (names : List (List ℕ)) → Option ReplayOutput → Result (List Policy) Refusal
others_in [] output = Ok []
others_in (first ∷ []) output = Ok []
others_in (first ∷ name ∷ names) output = in_summary output (policies_after (Ok []) (name ∷ names))

-- The policies that `--sweep` names after the first.
abbrev pub others_given : Option ReplayOutput → Option (Bor Text) → Result (List Policy) Refusal
others_given output None = Ok []
others_given output (Some text) = others_in (pieces_of text.now) output

-- The number of quarantined bytes that `--min` gives, or 0.
abbrev pub least_in : Option (Bor Text) → Result ℕ Refusal
least_in None = Ok 0
least_in (Some text) = address_in text.now

-- The number, or `OutOfRange` if it is 0.
abbrev pub not_zero : Result ℕ Refusal → Result (Option ℕ) Refusal
not_zero (Ok zero) = Err OutOfRange
not_zero (Ok (suc less)) = Ok (Some (suc less))
not_zero (Err refusal) = Err refusal

-- The number of events from one sample of a series to the next, if the output is a series.
abbrev pub each_given : Option ReplayOutput → Result (Option ℕ) Refusal
each_given (Some (Series text)) = not_zero (address_in text.now)
each_given _ = Ok None

-- The span of a base and a length with a colon between.
abbrev pub span_in : (text : List ℕ) → Result Span Refusal
span_in text =
    if nat_lt (position_or_len (λ byte. byte == 58) text) (length text)
    then request_in (before_first (λ byte. byte == 58) text) (after_first (λ byte. byte == 58) text)
    else Err Syntax

-- The pool that `--pool` gives, or all bytes at or above 2^44.
abbrev pub span_given : Option (Bor Text) → Result Span Refusal
span_given None = Ok (record { base = 2 ^ 44; top = 2 ^ 64 })
span_given (Some text) = span_in text.now

-- The format of a trace that a text names.
abbrev pub trace_format_named : (name : List ℕ) → Result TraceFormat Refusal
trace_format_named name =
    if bytes_eq name (codes "own") then Ok Own
    else if bytes_eq name (codes "mtrace") then Ok Mtrace
    else if bytes_eq name (codes "heaptrack") then Ok Heaptrack
    else if bytes_eq name (codes "ltrace") then Ok Ltrace
    else Err Syntax

-- The format of the trace that `--format` names: the crate's own if the option is not given.
abbrev pub format_in : Option (Bor Text) → Result TraceFormat Refusal
format_in None = Ok Own
format_in (Some text) = trace_format_named text.now

-- The effect of a reallocation of this name.
abbrev pub realloc_named : (name : List ℕ) → Result Reallocation Refusal
realloc_named name =
    if bytes_eq name (codes "move") then Ok Move
    else if bytes_eq name (codes "keep") then Ok Keep
    else Err Syntax

-- The effect, which a script has only if it moves the object.
abbrev pub in_output : Option ReplayOutput → Result Reallocation Refusal → Result Reallocation Refusal
in_output (Some Script) (Ok Keep) = Err Syntax
in_output _ found = found

-- The effect of a reallocation that `--realloc` names: it moves the object if the option is not given.
abbrev pub realloc_given : Option ReplayOutput → Option (Bor Text) → Result Reallocation Refusal
realloc_given output None = Ok Move
realloc_given output (Some text) = in_output output (realloc_named text.now)

-- The settings of the heap with the first policy, or the first error.
abbrev pub settings_in : ReplayValues → Result Settings Refusal
settings_in values =
    changed
    (λ found. record {
      limit = 2 ^ 24;
      pool = found.1.0;
      align = values.align;
      policy = found.0.0;
      least_quarantine = found.0.1;
      realloc = found.1.1;
    })
    (both (both (sweep_given values.sweep) (least_in values.least)) (both (span_given values.pool) (realloc_given values.output values.realloc)))

-- How the trace is read, or the first error.
abbrev pub reading_in : ReplayValues → Result Reading Refusal
reading_in values =
    changed (λ found. record { format = found.0; is_strict = values.strict; each = found.1 }) (both (format_in values.format) (each_given values.output))

-- The request of the values, or an error. `Syntax` comes first: a text is not a number, not a policy, not a pool or not one of the
-- names, or two of `--sizes`, `--svg`, `--script` and `--each` are given, or `--script` with `--realloc keep`, or several policies with
-- another output than the summary. Then comes `OutOfRange` of the policies after the first: there are more than seven, or one has a number
-- that is too large. Then `OutOfBounds`: the pool ends past 2^64. Then `OutOfRange` of another number: it is too large, or `--each` is 0.
abbrev pub replay_in : ReplayValues → Result ReplayRequest Refusal
replay_in values =
    changed (λ found. record { output = found.0.0.0; settings = found.0.1; reading = found.0.0.1; others = found.1 })
    (both (both (both (ok_or values.output Syntax) (reading_in values)) (settings_in values)) (others_given values.output values.sweep))
