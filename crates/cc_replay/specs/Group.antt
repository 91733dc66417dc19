-- A group of replays of one trace, each on its own heap: how it takes a line, and the table of its summaries.
use Rattle.std.specs.Prelude.{ℕ, Bool, false, ◌≡◌, ◌||◌, List, [], ◌∷◌, ◌++◌, codes, map}
use Rattle.std.specs.List.{list_all, list_any}
use Rattle.cc_io.specs.Answers.{Relation}
use Rattle.cc_replay.specs.declared.reading.Reading.{Reading}
use Rattle.cc_replay.specs.Reading.{is_over, ran_out}
use Rattle.cc_heap.specs.Lost.{empty_run}
use Rattle.cc_heap.specs.declared.policy.Policy.{Policy}
use Rattle.cc_heap.specs.declared.settings.Settings.{Settings}
use Rattle.cc_replay.specs.declared.table.Format.{Format}
use Rattle.cc_replay.specs.declared.table.Value.TheVariants.{Sweeping}
use Rattle.cc_replay.specs.Replay.{ReplayState, begun, figures_of}
use Rattle.cc_replay.specs.Rows.{Row, between_rows, row_text, table_end, table_heading}
use Rattle.cc_replay.specs.Summary.{summary_rows}
use Rattle.cc_replay.specs.Taking.{TakesUnwritten}

-- ---- The replays.

-- A replay with another policy, before the first line of a trace.
abbrev pub begun_with : Settings → Reading → Policy → ReplayState
begun_with settings reading policy = begun (empty_run (record settings { policy = policy })) reading

-- A replay with these settings, and one for each other policy, before the first line of a trace.
abbrev pub begun_group : Settings → (others : List Policy) → Reading → List ReplayState
begun_group settings others reading = begun (empty_run settings) reading ∷ map (begun_with settings reading) others

-- EachTakes holds if each state takes the entry as `Takes` says, in order. No text is written, and it is an error if it is
-- one for a state.
abbrev pub EachTakes : {S : Type 0} → (Takes : Relation S) → (old : List S) → (entry text : List ℕ) → (is_error : Bool) → (new : List S) → Type 0
EachTakes {S} Takes [] entry text is_error new = (text ≡ []) × (is_error ≡ false) × (new ≡ [])
EachTakes {S} Takes (old ∷ others) entry text is_error new =
    (first : S) × (rest : List S) × (is_first : Bool) × (is_rest : Bool)
    × (new ≡ first ∷ rest) × (is_error ≡ (is_first || is_rest))
    × TakesUnwritten Takes old entry is_first first × EachTakes Takes others entry text is_rest rest

-- Whether no replay takes further lines.
abbrev pub are_over : List ReplayState → Bool
are_over states = list_all (λ state. is_over state.progress) states

-- Whether memory ran out in one of the replays.
abbrev pub any_ran_out : List ReplayState → Bool
any_ran_out states = list_any (λ state. ran_out state.progress) states

-- ---- The table.

-- The row of a replay: its policy, and the rows of its summary.
abbrev pub policy_rows : ReplayState → List Row
policy_rows state =
    record { name = codes "policy"; value = Sweeping state.run.heap.settings.policy } ∷ summary_rows (figures_of state)

-- The rows of replays, each after the bytes before it.
abbrev pub more_policies : Format → (before : List ℕ) → List ReplayState → List ℕ
more_policies format before [] = []
more_policies format before (state ∷ states) =
    before ++ row_text format (policy_rows state) ++ more_policies format (between_rows format) states

-- The names of the columns, which are the same for every row.
abbrev pub columns : List ReplayState → List Row
columns [] = []
columns (state ∷ states) = policy_rows state

-- The table: a line of the names and a line for each replay, with spaces or with commas between; or a list of
-- objects of JSON.
abbrev pub policies_text : Format → List ReplayState → List ℕ
policies_text format states = table_heading format (columns states) ++ more_policies format [] states ++ table_end format
