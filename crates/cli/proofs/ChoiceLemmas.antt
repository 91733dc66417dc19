-- The values of `explain` that are accepted together, and the errors of the program's arguments.
use Rattle.std.proofs.Common.{◌≡◌, Bool, true, false, List, [], ◌∷◌, Option, Some, None, inl, inr, is_some, refl, subst, sym, option_map}
use Rattle.std.specs.Prelude.{◌&&◌, codes, Result, Ok, Err, not}
use Rattle.std.specs.Borrow.{Bor}
use Rattle.std.specs.Result.{IfErr}
use Rattle.clap.specs.Kinds.{or_else}
use Rattle.clap.specs.Walk.{Text}
use Rattle.clap.specs.Words.{App, FailsBy, HasKind, Kinds, Row, fault_of, first_of, kind_of, subcommand_of, takes}
use Rattle.clap.specs.declared.error.Error.{Error}
use Rattle.clap.specs.declared.error.kind.ErrorKind.{ErrorKind}
use Rattle.clap.specs.declared.error.kind.ErrorKind.TheVariants.{OutOfMemory}
use Rattle.cc_values.specs.Values.{address_in, permissions_in}
use Rattle.cli.specs.Invocation.{choice_mistake, choice_mistake_in, mistakes_of, is_taken, kinds_in, has_other_input, is_on, is_read, list_mistake, search_mistake, search_mistake_of, value_mistake}

-- ---- the values of `explain`

-- Without WORD, `--length` is required, and excludes `--svg`; the base is an address.
pub length_wanted : (size base : Option Text) (svg is_address : Bool) → choice_mistake false (is_some size) (is_some base) svg is_address ≡ None
    → ((text : Text) × (size ≡ Some text)) × (svg ≡ false) × (is_address ≡ true)
length_wanted None base svg is_address e = cc e
length_wanted (Some text) base true is_address e = cc e
length_wanted (Some text) base false false e = cc e
length_wanted (Some text) base false true e = ((text, refl), refl, refl)

-- `--list` excludes N, and the base is an address.
pub list_alone : (size : Option Text) (is_address : Bool) → list_mistake true (is_some size) is_address ≡ None → (size ≡ None) × (is_address ≡ true)
list_alone None true e = (refl, refl)
list_alone None false e = cc e
list_alone (Some text) is_address e = cc e

-- Without `--list`, N is required, and the base is an address.
pub size_wanted : (size : Option Text) (is_address : Bool) → list_mistake false (is_some size) is_address ≡ None
    → ((text : Text) × (size ≡ Some text)) × (is_address ≡ true)
size_wanted None is_address e = cc e
size_wanted (Some text) false e = cc e
size_wanted (Some text) true e = ((text, refl), refl)

-- ---- the values of `decode`

read_all : (skip count at holds perms : Bool) → value_mistake (skip && (count && (at && (holds && perms)))) ≡ None
    → (skip ≡ true) × (count ≡ true) × (at ≡ true) × (holds ≡ true) × (perms ≡ true)
read_all true true true true true e = (refl, refl, refl, refl, refl)
read_all true true true true false e = cc e
read_all true true true false perms e = cc e
read_all true true false holds perms e = cc e
read_all true false at holds perms e = cc e
read_all false count at holds perms e = cc e

-- Values that have no error are all read.
all_read : (elf raw has_tags has_bytes skip count at holds perms : Bool) → search_mistake elf raw has_tags has_bytes (skip && (count && (at && (holds && perms)))) ≡ None
    → (skip ≡ true) × (count ≡ true) × (at ≡ true) × (holds ≡ true) × (perms ≡ true)
all_read true true has_tags has_bytes skip count at holds perms e = cc e
all_read true false true false skip count at holds perms e = cc e
all_read true false true true skip count at holds perms e = read_all skip count at holds perms e
all_read true false false has_bytes skip count at holds perms e = read_all skip count at holds perms e
all_read false raw true false skip count at holds perms e = cc e
all_read false raw true true skip count at holds perms e = read_all skip count at holds perms e
all_read false raw false has_bytes skip count at holds perms e = read_all skip count at holds perms e

-- Values of `decode` that have no error are all read.
pub reads : (rows : List Row) → search_mistake_of rows ≡ None
    → (is_read address_in (first_of (codes "skip") rows) ≡ true) × (is_read address_in (first_of (codes "count") rows) ≡ true)
    × (is_read address_in (first_of (codes "at") rows) ≡ true) × (is_read address_in (first_of (codes "holds") rows) ≡ true)
    × (is_read permissions_in (first_of (codes "perms") rows) ≡ true)
reads rows e =
    all_read (is_on (first_of (codes "elf") rows)) (has_other_input rows) (is_some (first_of (codes "tags") rows)) (is_some (first_of (codes "bytes") rows))
    (is_read address_in (first_of (codes "skip") rows)) (is_read address_in (first_of (codes "count") rows)) (is_read address_in (first_of (codes "at") rows))
    (is_read address_in (first_of (codes "holds") rows)) (is_read permissions_in (first_of (codes "perms") rows)) e

-- A text is given if and only if it has a value.
pub is_some-now : (found : Option (Bor Text)) → is_some found ≡ is_some (option_map (λ text. text.now) found)
is_some-now None = refl
is_some-now (Some text) = refl

-- ---- the program's arguments

both_true : (a b : Bool) → (a && b) ≡ true → (a ≡ true) × (b ≡ true)
both_true true b e = (refl, e)
both_true false b e = cc e

none_given : (choice : Option ErrorKind) → not (is_some choice) ≡ true → choice ≡ None
none_given None e = refl
none_given (Some kind) e = cc e

-- Arguments that are accepted are accepted by clap, and their values have no error.
pub taken_parts : (app : App) (words : List Text) → is_taken app words ≡ true
    → (takes app words ≡ true) × (choice_mistake_in (subcommand_of app words) ≡ None)
taken_parts app words taken =
    let parts = both_true (takes app words) (not (is_some (choice_mistake_in (subcommand_of app words)))) taken in
    (parts.0, none_given (choice_mistake_in (subcommand_of app words)) parts.1)

first_kind : (first second : Kinds) (e : Error) → HasKind first e → HasKind (or_else first second) e
first_kind [] second e (inl memory) = inl memory
first_kind [] second e (inr among) = absurd among
first_kind (k ∷ ks) second e has = has

-- An error of clap's is one of the program's.
pub clap_fails : (app : App) (words : List Text) (e : Error) → HasKind (fault_of app words) e → HasKind (mistakes_of app words) e
clap_fails app words e has = first_kind (fault_of app words) (kinds_in (choice_mistake_in (subcommand_of app words))) e has

-- If clap has no error, the values of `explain` decide.
pub choice_fails : {T : Type 0} (app : App) (words : List Text) (r : Result T Error) → fault_of app words ≡ []
    → FailsBy (kinds_in (choice_mistake_in (subcommand_of app words))) r → FailsBy (mistakes_of app words) r
choice_fails app words r faultless told =
    subst (λ (kinds : Kinds). FailsBy (or_else kinds (kinds_in (choice_mistake_in (subcommand_of app words)))) r) (sym faultless) told

-- If the values of `explain` have no error, an error means that memory ran out.
pub choice_refuses : {T : Type 0} (choice : Option ErrorKind) (r : Result T Error) (Q : Error → Type 0) → FailsBy (kinds_in choice) r
    → ((e : Error) → (choice ≡ None → kind_of e ≡ OutOfMemory) → Q e) → IfErr r Q
choice_refuses choice (Ok value) Q told make = tt
choice_refuses choice (Err e) Q told make = make e (memory choice told)
  where
    memory : (choice : Option ErrorKind) → HasKind (kinds_in choice) e → choice ≡ None → kind_of e ≡ OutOfMemory
    memory None (inl is) none = is
    memory None (inr among) none = absurd among
    memory (Some kind) has none = cc none
