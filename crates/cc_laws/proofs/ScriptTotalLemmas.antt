-- The operation of a line is in the address space, and from a state that a run leads to every script has an output.
use Rattle.std.proofs.Common.{◌≡◌, ℕ, Bool, true, false, nat_lt, nat_le, ◌≤◌, ◌-◌, ◌^◌, List, [], ◌∷◌, ◌++◌, length, map, codes, refl, sym, ap, subst, arith, Option, Some, None, Result, Ok, Err}
use Rattle.std.proofs.Common.{not, ◌||◌, ◌==◌, if◌then◌else◌}
use Rattle.std.proofs.lemmas.Bool.{leb-true}
use Rattle.std.specs.List.{AllByRecursion, list_any}
use Rattle.std.specs.Str.{bytes_eq}
use Rattle.cc_word.specs.declared.refusal.Refusal.{Refusal}
use Rattle.cc_word.specs.declared.refusal.Refusal.TheVariants.{Syntax, TooLong, OutOfRange}
use Rattle.cc_bounds.specs.declared.align.Align.TheVariants.{One}
use Rattle.cc_values.specs.declared.op.Op.{Op}
use Rattle.cc_values.specs.declared.op.Op.TheVariants as op
use Rattle.cc_values.specs.declared.reply.Reply.{Reply}
use Rattle.cc_values.specs.declared.reply.Reply.TheVariants.{Refused}
use Rattle.cc_machine.specs.State.{State}
use Rattle.cc_machine.specs.Run.{IsReached, IsInAddressSpace}
use Rattle.cc_machine.proofs.RunLemmas.{IsReached-step}
use Rattle.cc_laws.proofs.StepTotalLemmas.{HasOutcome, Step-outcome}
use Rattle.cc_values.specs.Numbers.{number_of, within_limit}
use Rattle.cc_values.specs.Values.{words_of, index_in, address_in, length_in, flag_in, word_in, permissions_in, both, single}
use Rattle.cc_syntax.specs.Commands.{Command, align_in, slot_and_perhaps, one, alone, of_value, of_slot, of_slot_perhaps, commands, operation_in, command_in, operation_of}
use Rattle.cc_io.specs.Lines.{lines_of, rest_of}
use Rattle.cc_syntax.specs.Replies.{is_error}
use Rattle.cc_script.specs.Output.{commands_of, Takes, TakesAll, ScriptOutput, replies_text, rest_text}

-- ---- the operation of a line

-- an address that the command sets is one of the address space
abbrev pub Fits : Result Op Refusal → Type 0
Fits (Ok op) = IsInAddressSpace op
Fits (Err refusal) = Unit {0}

within : (limit : ℕ) (number : Option ℕ) (value : ℕ) → within_limit limit number ≡ Ok value → value ≤ limit
within limit None value e = cc
within limit (Some number) value e = by (nat_le number limit) refl e where
  by : (small : Bool) → nat_le number limit ≡ small → (if small then Ok number else Err OutOfRange) ≡ Ok value → value ≤ limit
  by true is e = let same : number ≡ value = cc in rw (sym same) (leb-true number limit is)
  by false is e = cc

one-Fits : {A : Type 0} (make : A → Op) (value : Result A Refusal) → ((a : A) → value ≡ Ok a → IsInAddressSpace (make a)) → Fits (one make value)
one-Fits make (Ok value) fits = fits value refl
one-Fits make (Err fault) fits = tt

-- the two have both values
both-second : {A B : Type 0} (first : Result A Refusal) (second : Result B Refusal) (values : A × B) → both first second ≡ Ok values → second ≡ Ok values.1
both-second (Ok first) (Ok second) values e = let same : (first, second) ≡ values = cc in ap (λ v. Ok v.1) same
both-second (Ok first) (Err fault) values e = cc
both-second (Err Syntax) second values e = cc
both-second (Err fault) (Ok second) values e = cc
both-second (Err fault) (Err other) values e = cc

-- whatever the values, the operation of the command is in the address space
RowFits : Command → Type 0
RowFits row = (values : List (List ℕ)) → Fits (row.operation values)

alone-Fits : (name : List ℕ) (op : Op) → IsInAddressSpace op → RowFits (alone name op)
unfolding RowFits
alone-Fits name op fits [] = fits
alone-Fits name op fits (value ∷ values) = tt

value-Fits : {A : Type 0} (name : List ℕ) (make : A → Op) (value_in : List ℕ → Result A Refusal) → ((a : A) → IsInAddressSpace (make a))
    → RowFits (of_value name make value_in)
unfolding RowFits
value-Fits name make value_in fits values = one-Fits make (single value_in values) (λ a e. fits a)

slot-Fits : {A : Type 0} (name : List ℕ) (make : ℕ → A → Op) (value_in : List ℕ → Result A Refusal)
    → ((slot : ℕ) (text : List ℕ) (a : A) → value_in text ≡ Ok a → IsInAddressSpace (make slot a)) → RowFits (of_slot name make value_in)
unfolding RowFits
slot-Fits name make value_in fits [] = tt
slot-Fits name make value_in fits (slot ∷ []) = tt
slot-Fits name make value_in fits (slot ∷ value ∷ []) =
    one-Fits (λ parts. make parts.0 parts.1) (both (index_in slot) (value_in value))
    (λ parts e. fits parts.0 value parts.1 (both-second (index_in slot) (value_in value) parts e))
slot-Fits name make value_in fits (slot ∷ value ∷ other ∷ values) = tt

perhaps-Fits : {A : Type 0} (name : List ℕ) (make : ℕ → A → Op) (usual : A) (value_in : List ℕ → Result A Refusal)
    → ((slot : ℕ) (a : A) → IsInAddressSpace (make slot a)) → RowFits (of_slot_perhaps name make usual value_in)
unfolding RowFits
perhaps-Fits name make usual value_in fits values =
    one-Fits (λ parts. make parts.0 parts.1) (slot_and_perhaps usual value_in values) (λ parts e. fits parts.0 parts.1)

rows-Fit : AllByRecursion RowFits commands
rows-Fit = (
  value-Fits (codes "show") op.Show index_in (λ a. tt),
  (
    value-Fits (codes "round") op.Round length_in (λ a. tt),
    (
      value-Fits (codes "alloc") op.Alloc length_in (λ a. tt),
      (
        value-Fits (codes "free") op.Free index_in (λ a. tt),
        (
          slot-Fits (codes "inc") op.Inc address_in (λ slot text a e. tt),
          (
            slot-Fits (codes "addr") op.Addr address_in (λ slot text a e. let small = within (2 ^ 64 - 1) (number_of text) a e in omega (arith, small)),
            (
              slot-Fits (codes "bounds") op.Bounds length_in (λ slot text a e. tt),
              (
                slot-Fits (codes "exact") op.Exact length_in (λ slot text a e. tt),
                (
                  slot-Fits (codes "perms") op.Perms permissions_in (λ slot text a e. tt),
                  (
                    slot-Fits (codes "flag") op.Flag flag_in (λ slot text a e. tt),
                    (
                      slot-Fits (codes "seal") op.Seal index_in (λ slot text a e. tt),
                      (
                        slot-Fits (codes "unseal") op.Unseal index_in (λ slot text a e. tt),
                        (
                          slot-Fits (codes "rebuild") op.Rebuild word_in (λ slot text a e. tt),
                          (
                            perhaps-Fits (codes "pool") op.Pool One align_in (λ slot a. tt),
                            (alone-Fits (codes "sweep") op.Sweep tt, tt),
                          ),
                        ),
                      ),
                    ),
                  ),
                ),
              ),
            ),
          ),
        ),
      ),
    ),
  ),
)

operation_in-Fits : (rows : List Command) (name : List ℕ) (values : List (List ℕ)) → AllByRecursion RowFits rows → Fits (operation_in rows name values)
unfolding RowFits
operation_in-Fits [] name values fit = tt
operation_in-Fits (row ∷ rows) name values fit = by (bytes_eq name row.name) (operation_in-Fits rows name values fit.1) where
  by : (same : Bool) → Fits (operation_in rows name values) → Fits (if same then row.operation values else operation_in rows name values)
  by true later = fit.0 values
  by false later = later

command_in-Fits : (words : List (List ℕ)) → Fits (command_in words)
command_in-Fits [] = tt
command_in-Fits (name ∷ values) = operation_in-Fits commands name values rows-Fit

operation_of-Fits : (line : List ℕ) → Fits (operation_of line)
unfolding operation_of
operation_of-Fits line = by (nat_lt 128 (length line)) where
  by : (long : Bool) → Fits (if long then Err TooLong else command_in (words_of line))
  by true = tt
  by false = command_in-Fits (words_of line)

lines-Fit : (lines : List (List ℕ)) → AllByRecursion Fits (map operation_of lines)
lines-Fit [] = tt
lines-Fit (line ∷ lines) = (operation_of-Fits line, lines-Fit lines)

commands-Fit : (opening : List Op) (lines : List (List ℕ)) → AllByRecursion IsInAddressSpace opening
    → AllByRecursion Fits (map Ok opening ++ map operation_of lines)
commands-Fit [] lines fit = lines-Fit lines
commands-Fit (op ∷ opening) lines fit = (fit.0, commands-Fit opening lines fit.1)

-- ---- the output

takes-outcome : (old : State) (command : Result Op Refusal) → IsReached old → Fits command → HasOutcome (Takes old command)
takes-outcome old (Ok op) reached fits = Step-outcome old op reached fits
takes-outcome old (Err refusal) reached fits = record { reply = Refused refusal; new = old; leads = (refl, refl) }

takes-reach : (old new : State) (command : Result Op Refusal) (reply : Reply) → IsReached old → Takes old command reply new → IsReached new
takes-reach old new (Ok op) reply reached taken = IsReached-step old new op reply reached taken
takes-reach old new (Err refusal) reply reached taken = subst (λ (s : State). IsReached s) (sym taken.1) reached

-- replies to the commands, and the state that they lead to
record HasReplies (old : State) (commands : List (Result Op Refusal)) : Type 0 where
  replies : List Reply
  new : State
  takes : TakesAll old commands replies new

all-outcome : (old : State) (commands : List (Result Op Refusal)) → IsReached old → AllByRecursion Fits commands → HasReplies old commands
all-outcome old [] reached fit = record { replies = []; new = old; takes = refl }
all-outcome old (command ∷ commands) reached fit =
    let first = takes-outcome old command reached fit.0 in
    let rest = all-outcome first.new commands (takes-reach old first.new command first.reply reached first.leads) fit.1 in
    record { replies = first.reply ∷ rest.replies; new = rest.new; takes = (first.new, first.leads, rest.takes) }

pub has_output : (old : State) (opening : List Op) (text : List ℕ) → IsReached old → AllByRecursion IsInAddressSpace opening
    → (output : List ℕ) × (any_error : Bool) × (new : State) × ScriptOutput old opening text output any_error new
has_output old opening text reached fit =
    let all = all-outcome old (commands_of opening text) reached (commands-Fit opening (lines_of text) fit) in (
      replies_text all.replies ++ rest_text (rest_of text),
      list_any is_error all.replies || not (length (rest_of text) == 0),
      all.new,
      record { replies = all.replies; takes = all.takes; output_is = refl; error_is = refl },
    )
