-- The values that arguments without an error give a command: each argument found in them has values that pass, whatever
-- the command's rules, as long as no rule has a default and no use of a rule leaves it without a value.
use Rattle.std.proofs.Common.{◌≡◌, ◌||◌, ◌∙◌, ℕ, zero, suc, Bool, true, false, List, [], ◌∷◌, ◌++◌, Option, Some, None, ap, codes, is_some, length, option_map, refl, subst, sym, if◌then◌else◌}
use Rattle.std.specs.Prelude.{⊤, ◌&&◌, not, drop, encode_utf8, slice_get, find, fold, option_and_then}
use Rattle.std.specs.List.{list_any}
use Rattle.std.specs.Option.{option_map_or}
use Rattle.std.specs.Str.{bytes_eq, chars}
use Rattle.std.proofs.lemmas.Slice.Eq.{bytes_eq-Decides}
use Rattle.clap.specs.Facts.{explicit_source, parser_of_value, unwrap_or_range}
use Rattle.clap.specs.Faults.{action_fault, bundle_fault, bundle_step_fault, check_fault, defaults_fault, flag_word_fault, flags_fault, level_fault, long_fault, option_fault, other_fault}
use Rattle.clap.specs.Faults.{positional_fault, react_fault, repeat_fault, set_fault, settle_fault, short_fault, step_fault, stray_fault, turn_fault, use_fault, values_fault, walk_fault}
use Rattle.clap.specs.Faults.{word_fault}
use Rattle.clap.specs.Kinds.{Kinds, check_kinds, or_else, range_kinds, value_kinds}
use Rattle.clap.specs.Lexer.{long_of, short_of}
use Rattle.clap.specs.Simple.{Shape}
use Rattle.clap.specs.Takes.{is_given}
use Rattle.clap.specs.Values.{read_as}
use Rattle.clap.specs.ValueTests.{accepts}
use Rattle.clap.specs.Walk.{Held, Names, Outcome, Row, Rule, Step, Text, Waiting, Walk, action_of, after_flag, after_step, arg_by_id, arg_by_index, arg_by_long, arg_by_short, at_row}
use Rattle.clap.specs.Walk.{attached_value, bundle, bundle_met, bundle_step, default_rows, done, finished, first_of, flag_met, has_long, has_row, has_short, idle, is_pending, long_met}
use Rattle.clap.specs.Walk.{long_or_other, more_values, most_values, next, nothing_held, one_of, option, option_met, option_word, plain, plain_word, positional, positional_held, reacted}
use Rattle.clap.specs.Walk.{reading_by, refused, row_text, rows_after, settled, settled_rows, short_met, short_or_plain, subcommand, subcommand_met, subcommand_or_other, takes_several}
use Rattle.clap.specs.Walk.{takes_values, to_positional, trailing, used, used_as, used_by_id, value, waits, walk, walk_from, walked, walked_from, with_default, with_values, without, word_met}
use Rattle.clap.specs.declared.builder.action.ArgAction.{ArgAction}
use Rattle.clap.specs.declared.builder.action.ArgAction.TheVariants.{Set, SetTrue}
use Rattle.clap.specs.declared.builder.value_parser.Reading.{Reading}
use Rattle.clap.specs.declared.error.kind.ErrorKind.{ErrorKind}
use Rattle.clap.specs.declared.error.kind.ErrorKind.TheVariants as kind
use Rattle.clap.specs.declared.parser.matches.ValueSource.{ValueSource}
use Rattle.clap.specs.declared.parser.matches.ValueSource.TheVariants.{CommandLine, DefaultValue}
use Rattle.cli.specs.Invocation.{HasText}

-- If two steps have no error together, neither has one.
pub both_empty : (a b : Kinds) → or_else a b ≡ [] → (a ≡ []) × (b ≡ [])
both_empty [] b e = (refl, e)
both_empty (k ∷ ks) b e = cc e

-- ---- rows that have values

abbrev HasValue : List Text → Type 0
HasValue [] = ⊥
HasValue (v ∷ vs) = ⊤

-- `Passes` holds if these values of an id are read as its rule among the command's says, and pass.
abbrev pub Passes : List Rule → Text → Reading → List Text → Type 0
Passes c id how values = (a : Rule) → arg_by_id c id ≡ Some a → (how ≡ reading_by a) × (values_fault a values ≡ [])

-- `IsGiven` holds if the row has a value, and all its values pass.
abbrev IsGiven : List Rule → Row → Type 0
IsGiven c r = HasValue r.values × Passes c r.id r.reading r.values

-- `AreGiven` holds if each row has a value, and all its values pass.
abbrev pub AreGiven : List Rule → List Row → Type 0
AreGiven c [] = ⊤
AreGiven c (r ∷ rs) = IsGiven c r × AreGiven c rs

more : (xs ys : List Text) → HasValue xs → HasValue (xs ++ ys)
more [] ys h = absurd h
more (x ∷ xs) ys h = h

values_more : (a : Rule) (xs ys : List Text) → values_fault a xs ≡ [] → values_fault a ys ≡ [] → values_fault a (xs ++ ys) ≡ []
values_more a [] ys h rest = rest
values_more a (x ∷ xs) ys h rest =
    let parts = both_empty (value_kinds a.ignore_case (parser_of_value a.parser) x) (values_fault a xs) h in
    rw parts.0 (values_more a xs ys parts.1 rest)

-- `Keeps` holds if the change of a row that is given returns rows that are.
abbrev Keeps : List Rule → Text → (Row → List Row) → Type 0
Keeps c id change = (r : Row) (rs : List Row) → r.id ≡ id → IsGiven c r → AreGiven c rs → AreGiven c (change r ++ rs)

at_row-given : (c : List Rule) (id : Text) (change : Row → List Row) (missing rows : List Row) → Keeps c id change → AreGiven c missing → AreGiven c rows
    → AreGiven c (at_row id change missing rows)
at_row-given c id change missing [] keeps new h = new
at_row-given c id change missing (r ∷ rs) keeps new h = go (bytes_eq r.id id) (λ e. (bytes_eq-Decides r.id id).0 e) (at_row-given c id change missing rs keeps new h.1)
  where
    go : (b : Bool) → (b ≡ true → r.id ≡ id) → AreGiven c (at_row id change missing rs) → AreGiven c (if b then change r ++ rs else r ∷ at_row id change missing rs)
    go true same rest = keeps r rs (same refl) h.0 h.1
    go false same rest = (h.0, rest)

without-given : (c : List Rule) (id : Text) (rows : List Row) → AreGiven c rows → AreGiven c (without id rows)
without-given c id rows h = at_row-given c id (λ _. []) [] rows (λ r rs same first rest. rest) tt h

with_values-given : (c : List Rule) (id : Text) (how : Reading) (source : ValueSource) (values : List Text) (rows : List Row) → HasValue values → Passes c id how values
    → AreGiven c rows → AreGiven c (with_values id how source values rows)
with_values-given c id how source values rows some pass h =
    let new : Row = record { id = id; values = values; count = None; source = Some source; reading = how } in
    at_row-given c id (more_values source values) (new ∷ []) rows
    (λ r rs same first rest. (
      (
        more r.values values first.0,
        λ a is. let old = first.1 a is in (old.0, values_more a r.values values old.1 (pass a (ap (arg_by_id c) (sym same) ∙ is)).1),
      ),
      rest,
    ))
    ((some, pass), tt) h

-- `GivesValue` holds if the default of the rule, if it has one, passes, and a use of it without an error gives it values
-- that pass.
pub record GivesValue (c : List Rule) (a : Rule) : Type 0 where
  pub default : (rows : List Row) → AreGiven c rows → AreGiven c (with_default rows a)
  pub uses : (again : Bool) (values : List Text) (rows : List Row) → use_fault again a values rows ≡ [] → AreGiven c rows → AreGiven c (used a values rows)

-- `GiveValues` holds if `GivesValue` holds for all these rules of a command.
abbrev pub GiveValues : List Rule → List Rule → Type 0
GiveValues c [] = ⊤
GiveValues c (a ∷ rest) = GivesValue c a × GiveValues c rest

abbrev FoundGives : List Rule → Option Rule → Type 0
FoundGives c None = ⊤
FoundGives c (Some a) = GivesValue c a

found_gives : (c : List Rule) (p : Rule → Bool) (rules : List Rule) → GiveValues c rules → FoundGives c (find p rules)
found_gives c p [] all = tt
found_gives c p (a ∷ rest) all = go (p a) (found_gives c p rest all.1)
  where
    go : (b : Bool) → FoundGives c (find p rest) → FoundGives c (if b then Some a else find p rest)
    go true later = all.0
    go false later = later

no_default : (rows : List Row) (a : Rule) → a.defaults ≡ [] → with_default rows a ≡ rows
no_default rows a none = go (has_row a.id rows) a.defaults none
  where
    go : (b : Bool) (defaults : List Text) → defaults ≡ [] → (if b then rows else default_rows a.id (reading_by a) defaults rows) ≡ rows
    go true defaults e = refl
    go false defaults e = rw e refl

-- A rule without a default adds none.
pub no_default-given : (c : List Rule) (a : Rule) → a.defaults ≡ [] → (rows : List Row) → AreGiven c rows → AreGiven c (with_default rows a)
no_default-given c a none rows given = rw (no_default rows a none) given

-- A rule without a default that is the first of its id, and whose uses set at least one value.
pub set_gives : (c : List Rule) (a : Rule) → a.defaults ≡ [] → action_of a ≡ Set → (unwrap_or_range a.range).start_inclusive ≡ 1 → arg_by_id c a.id ≡ Some a → GivesValue c a
set_gives c a none sets least own = record { default = no_default-given c a none; uses = uses }
  where
    uses : (again : Bool) (values : List Text) (rows : List Row) → use_fault again a values rows ≡ [] → AreGiven c rows → AreGiven c (used a values rows)
    uses again [] rows e given =
        let parts = both_empty (range_kinds (unwrap_or_range a.range).start_inclusive (most_values a) 0) (action_fault (action_of a) again a a.missing rows) e in
        let wrong : range_kinds 1 (most_values a) 0 ≡ [] = ap (λ (n : ℕ). range_kinds n (most_values a) 0) (sym least) ∙ parts.0 in
        cc wrong
    uses again (v ∷ vs) rows e given =
        let parts = both_empty (range_kinds (unwrap_or_range a.range).start_inclusive (most_values a) (length (v ∷ vs))) (action_fault (action_of a) again a (v ∷ vs) rows) e in
        let setting : set_fault again a (v ∷ vs) rows ≡ [] = ap (λ (action : ArgAction). action_fault action again a (v ∷ vs) rows) (sym sets) ∙ parts.1 in
        let pass = both_empty (repeat_fault again a.id rows) (values_fault a (v ∷ vs)) setting in
        rw sets
        (with_values-given c a.id (reading_by a) CommandLine (v ∷ vs) (without a.id rows) tt
        (λ b is. let same : a ≡ b = cc (sym own ∙ is) in (ap reading_by same, subst (λ (r : Rule). values_fault r (v ∷ vs) ≡ []) same pass.1))
        (without-given c a.id rows given))

-- A flag whose rule is the first of its id: it is `false`, and a use of it makes it `true`.
pub flag_gives : (c : List Rule) (a : Rule) → a.defaults ≡ codes "false" ∷ [] → a.missing ≡ codes "true" ∷ [] → action_of a ≡ SetTrue → values_fault a (codes "false" ∷ []) ≡ []
    → arg_by_id c a.id ≡ Some a → GivesValue c a
flag_gives c a off on sets passes own = record { default = default; uses = uses }
  where
    own_passes : (values : List Text) → values_fault a values ≡ [] → Passes c a.id (reading_by a) values
    own_passes values pass b is = let same : a ≡ b = cc (sym own ∙ is) in (ap reading_by same, subst (λ (r : Rule). values_fault r values ≡ []) same pass)

    setting : (again : Bool) (values : List Text) (rows : List Row) → HasValue values → action_fault (action_of a) again a values rows ≡ [] → AreGiven c rows
        → AreGiven c (used_as (action_of a) a.id (reading_by a) values rows)
    setting again values rows some e given =
        let faultless : set_fault again a values rows ≡ [] = ap (λ (action : ArgAction). action_fault action again a values rows) (sym sets) ∙ e in
        let pass = both_empty (repeat_fault again a.id rows) (values_fault a values) faultless in
        rw sets (with_values-given c a.id (reading_by a) CommandLine values (without a.id rows) some (own_passes values pass.1) (without-given c a.id rows given))

    uses : (again : Bool) (values : List Text) (rows : List Row) → use_fault again a values rows ≡ [] → AreGiven c rows → AreGiven c (used a values rows)
    uses again [] rows e given =
        let parts = both_empty (range_kinds (unwrap_or_range a.range).start_inclusive (most_values a) 0) (action_fault (action_of a) again a a.missing rows) e in
        setting again a.missing rows (subst HasValue (sym on) tt) parts.1 given
    uses again (v ∷ vs) rows e given =
        let parts = both_empty (range_kinds (unwrap_or_range a.range).start_inclusive (most_values a) (length (v ∷ vs))) (action_fault (action_of a) again a (v ∷ vs) rows) e in
        setting again (v ∷ vs) rows tt parts.1 given

    default : (rows : List Row) → AreGiven c rows → AreGiven c (with_default rows a)
    default rows given = go (has_row a.id rows) a.defaults off
      where
        go : (b : Bool) (defaults : List Text) → defaults ≡ codes "false" ∷ [] → AreGiven c (if b then rows else default_rows a.id (reading_by a) defaults rows)
        go true defaults e = given
        go false defaults e = rw e (with_values-given c a.id (reading_by a) DefaultValue (codes "false" ∷ []) rows tt (own_passes (codes "false" ∷ []) passes) given)

-- ---- the walk over the arguments of a command

module _ (c : List Rule) (again : Bool) (all : GiveValues c c) where
  by_id : (o : Option Rule) (values : List Text) (rows : List Row) → FoundGives c o → option_map_or (λ a. use_fault again a values rows) o [] ≡ [] → AreGiven c rows
      → AreGiven c (used_by_id o values rows)
  by_id None values rows gives e h = h
  by_id (Some a) values rows gives e h = gives.uses again values rows e h

  settled-given : (h : Held) → settle_fault c again h ≡ [] → AreGiven c h.rows → AreGiven c (settled c h).rows
  settled-given h e given = go h.pending e
    where
      go : (pending : Option (Text × List Text)) → option_map_or (λ p. option_map_or (λ a. use_fault again a p.1 h.rows) (arg_by_id c p.0) []) pending [] ≡ []
          → AreGiven c (settled_rows c pending h.rows)
      go None e = given
      go (Some p) e = by_id (arg_by_id c p.0) p.1 h.rows (found_gives c (λ a. bytes_eq a.id p.0) c all) e given

  reacted-given : (a : Rule) (values : List Text) (h : Held) → GivesValue c a → react_fault c again a values h ≡ [] → AreGiven c h.rows → AreGiven c (reacted c a values h).rows
  reacted-given a values h gives e given =
      let parts = both_empty (settle_fault c again h) (use_fault again a values (settled c h).rows) e in
      gives.uses again values (settled c h).rows parts.1 (settled-given h parts.0 given)

  option-given : (a : Rule) (v : Option Text) (h : Held) → GivesValue c a → option_fault c again a v h ≡ [] → AreGiven c h.rows → AreGiven c (option_met c a v h).0.rows
  option-given a None h gives e given = settled-given h e given
  option-given a (Some v) h gives e given = reacted-given a (v ∷ []) h gives e given

  long-given : (o : Option Rule) (v : Option Text) (h : Held) → FoundGives c o → long_fault c again o v h ≡ [] → AreGiven c h.rows → AreGiven c (long_met c o v h).0.rows
  long-given None v h gives e given = given
  long-given (Some a) v h gives e given = go (takes_values a) v e
    where
      go : (b : Bool) (v : Option Text) → (if b then option_fault c again a v h else (if is_some v then kind.TooManyValues ∷ [] else react_fault c again a [] h)) ≡ []
          → AreGiven c (if b then option_met c a v h else flag_met c a v h).0.rows
      go true v e = option-given a v h gives e given
      go false None e = reacted-given a [] h gives e given
      go false (Some x) e = given

  -- `NextGives` holds if the remaining short flags of a bundle keep the rows given.
  abbrev NextGives : (Held → Kinds) → (Held → Held × Outcome) → Type 0
  NextGives fault met = (h : Held) → fault h ≡ [] → AreGiven c h.rows → AreGiven c (met h).0.rows

  short-given : (o : Option Rule) (rest : Text) (h : Held) (fault : Held → Kinds) (met : Held → Held × Outcome) → NextGives fault met → FoundGives c o
      → short_fault c again o rest h fault ≡ [] → AreGiven c h.rows → AreGiven c (short_met c o rest h met).0.rows
  short-given None rest h fault met later gives e given = given
  short-given (Some a) rest h fault met later gives e given = go (takes_values a) e
    where
      go : (b : Bool) → (if b then option_fault c again a (attached_value rest) h else or_else (react_fault c again a [] h) (fault (reacted c a [] h))) ≡ []
          → AreGiven c (if b then option_met c a (attached_value rest) h else met (reacted c a [] h)).0.rows
      go true e = option-given a (attached_value rest) h gives e given
      go false e =
          let parts = both_empty (react_fault c again a [] h) (fault (reacted c a [] h)) e in
          later (reacted c a [] h) parts.1 (reacted-given a [] h gives parts.0 given)

  bundle-given : (k : ℕ) (flags : Text) (skip : ℕ) (so_far : Outcome) (h : Held) → flags_fault c again k flags skip h ≡ [] → AreGiven c h.rows
      → AreGiven c (bundle_met c k flags skip so_far h).0.rows
  unfolding bundle_met flags_fault
  bundle-given zero flags skip so_far h e given = given
  bundle-given (suc k) flags skip so_far h e given =
      by_first (slice_get (chars flags) 0) skip (λ rest skip so_far h e given. bundle-given k rest skip so_far h e given) e
    where
      by_first : (x : Option ℕ) (skip : ℕ)
          → ((rest : Text) (skip : ℕ) (so_far : Outcome) (h : Held) → flags_fault c again k rest skip h ≡ [] → AreGiven c h.rows → AreGiven c (bundle_met c k rest skip so_far h).0.rows)
          → bundle_step_fault c again x flags skip h (flags_fault c again k) ≡ [] → AreGiven c (bundle_step c x flags skip so_far h (bundle_met c k)).0.rows
      by_first None skip later e = given
      by_first (Some x) zero later e =
          let rest = drop (length (encode_utf8 x)) flags in
          short-given (arg_by_short c x) rest h (flags_fault c again k rest 0) (bundle_met c k rest 0 done) (λ h e given. later rest 0 done h e given)
          (found_gives c (λ a. not (is_some a.index) && has_short a x) c all) e given
      by_first (Some x) (suc skip) later e = later (drop (length (encode_utf8 x)) flags) skip so_far h e given

  -- An argument that is not a flag uses nothing yet.
  plain_rows : (waiting : Waiting) (word : Text) (h : Held) → (plain_word c waiting word h).0.rows ≡ h.rows
  plain_rows idle word h = refl
  plain_rows positional word h = refl
  plain_rows (option id) word h = go (arg_by_id c id)
    where
      go : (o : Option Rule) → (option_word o id word h).0.rows ≡ h.rows
      go None = refl
      go (Some a) = refl

  after_flag_rows : (waiting : Waiting) (word : Text) (h : Held) (outcome : Outcome) → (after_flag c waiting word h outcome).0.rows ≡ h.rows
  after_flag_rows waiting word h done = refl
  after_flag_rows waiting word h (waits id) = refl
  after_flag_rows waiting word h plain = plain_rows waiting word h
  after_flag_rows waiting word h refused = plain_rows waiting word h

  flag-given : (waiting : Waiting) (word : Text) (long : Option (Text × Option Text)) (h : Held) → flag_word_fault c again long word h ≡ [] → AreGiven c h.rows
      → AreGiven c (long_or_other c waiting word long h).0.rows
  flag-given waiting word (Some p) h e given =
      let met = long_met c (arg_by_long c p.0) p.1 h in
      rw (after_flag_rows waiting word met.0 met.1)
      (long-given (arg_by_long c p.0) p.1 h (found_gives c (λ a. not (is_some a.index) && has_long a p.0) c all) e given)
  flag-given waiting word None h e given = by_short (short_of word) e
    where
      by_short : (flags : Option Text) → option_map_or (λ flags. bundle_fault c again flags h) flags [] ≡ [] → AreGiven c (short_or_plain c waiting word flags h).0.rows
      by_short None e = rw (plain_rows waiting word h) given
      by_short (Some flags) e =
          let met = bundle c flags h in
          rw (after_flag_rows waiting word met.0 met.1) (bundle-given (length flags) flags h.skip plain (record h { skip = 0 }) e given)

  positional-given : (a : Rule) (word : Text) (h : Held) → positional_fault c again a h ≡ [] → AreGiven c h.rows → AreGiven c (positional_held c a word h).rows
  positional-given a word h e given = go (is_pending a h.pending && takes_several a) e
    where
      go : (b : Bool) → (if b then [] else settle_fault c again h) ≡ [] → AreGiven c (if b then h else settled c h).rows
      go true e = given
      go false e = settled-given h e given

-- ---- one level

module _ (s : Shape) (names : Names) (all : GiveValues s.rules s.rules) where
  other-given : (name : Option Text) (waiting : Waiting) (position : ℕ) (word : Text) (h : Held) → other_fault s name word h ≡ [] → AreGiven s.rules h.rows
      → AreGiven s.rules (subcommand_or_other s.rules name waiting position word h).0.rows
  other-given (Some name) waiting position word h e given = given
  other-given None waiting position word h e given = go (bytes_eq word (45 ∷ 45 ∷ [])) e
    where
      go : (b : Bool) → (if b then [] else flag_word_fault s.rules s.args_override_self (long_of word) word h) ≡ []
          → AreGiven s.rules (if b then (h, trailing position) else long_or_other s.rules waiting word (long_of word) h).0.rows
      go true e = given
      go false e = flag-given s.rules s.args_override_self all waiting word (long_of word) h e given

  met-given : (is_trailing : Bool) (waiting : Waiting) (position : ℕ) (word : Text) (h : Held) → word_fault s names is_trailing waiting word h ≡ [] → AreGiven s.rules h.rows
      → AreGiven s.rules (word_met s.rules names is_trailing waiting position word h).0.rows
  met-given true waiting position word h e given = given
  met-given false waiting position word h e given = other-given (subcommand_met names waiting word) waiting position word h e given

  step-given : (word : Text) (w : Walk) (h : Held) (step : Step) → step_fault s w.position h step ≡ [] → AreGiven s.rules h.rows → AreGiven s.rules (after_step s.rules word w h step).held.rows
  step-given word w h (next waiting) e given = given
  step-given word w h (trailing position) e given = given
  step-given word w h (subcommand name) e given = given
  step-given word w h value e given = go (arg_by_index s.rules w.position) e
    where
      go : (o : Option Rule) → option_map_or (λ a. positional_fault s.rules s.args_override_self a h) o (stray_fault s) ≡ []
          → AreGiven s.rules (to_positional s.rules o word w h).held.rows
      go None e = given
      go (Some a) e = positional-given s.rules s.args_override_self all a word h e given

  turn-given : (w : Walk) (word : Text) → turn_fault s names w word ≡ [] → AreGiven s.rules w.held.rows → AreGiven s.rules (walked s.rules names w word).held.rows
  unfolding walked
  turn-given w word e given = go w.stopped e
    where
      go : (stopped : Option (Text × List Text))
          → (if is_some stopped then [] else or_else (word_fault s names w.is_trailing w.waiting word w.held)
          (step_fault s w.position (word_met s.rules names w.is_trailing w.waiting w.position word w.held).0 (word_met s.rules names w.is_trailing w.waiting w.position word w.held).1)) ≡ []
          → AreGiven s.rules (walked_from s.rules names stopped w word).held.rows
      go (Some p) e = given
      go None e =
          let met = word_met s.rules names w.is_trailing w.waiting w.position word w.held in
          let parts = both_empty (word_fault s names w.is_trailing w.waiting word w.held) (step_fault s w.position met.0 met.1) e in
          step-given word w met.0 met.1 parts.1 (met-given w.is_trailing w.waiting w.position word w.held parts.0 given)

  walk-given : (w : Walk) (words : List Text) → walk_fault s names w words ≡ [] → AreGiven s.rules w.held.rows → AreGiven s.rules (fold (walked s.rules names) w words).held.rows
  unfolding walk_fault
  walk-given w [] e given = given
  walk-given w (word ∷ words) e given =
      let parts = both_empty (turn_fault s names w word) (walk_fault s names (walked s.rules names w word) words) e in
      walk-given (walked s.rules names w word) words parts.1 (turn-given w word parts.0 given)

defaults-given : (c : List Rule) (rows : List Row) (rules : List Rule) → GiveValues c rules → AreGiven c rows → AreGiven c (fold with_default rows rules)
defaults-given c rows [] all given = given
defaults-given c rows (a ∷ rest) all given = defaults-given c (with_default rows a) rest all.1 (all.0.default rows given)

-- No step of a level without an error has one.
pub level_parts : (s : Shape) (names : Names) (words : List Text) (has : Bool) (below : Kinds) → level_fault s names nothing_held words has below ≡ []
    → (walk_fault s names (walk_from nothing_held) words ≡ []) × (below ≡ [])
    × (settle_fault s.rules s.args_override_self (walk s.rules names nothing_held words).held ≡ []) × (check_fault s (rows_after s.rules names words) has ≡ [])
level_parts s names words has below e =
    let end = (walk s.rules names nothing_held words).held in
    let check = check_fault s (finished s.rules end) has in
    let defaults = or_else (defaults_fault (settled s.rules end).rows s.rules) check in
    let settle = or_else (settle_fault s.rules s.args_override_self end) defaults in
    let walked = both_empty (walk_fault s names (walk_from nothing_held) words) (or_else below settle) e in
    let passed = both_empty below settle walked.1 in
    let given = both_empty (settle_fault s.rules s.args_override_self end) defaults passed.1 in
    (walked.0, passed.0, given.0, (both_empty (defaults_fault (settled s.rules end).rows s.rules) check given.1).1)

-- Each argument found has values that pass.
pub level-given : (s : Shape) (names : Names) (words : List Text) (has : Bool) (below : Kinds) → GiveValues s.rules s.rules → level_fault s names nothing_held words has below ≡ []
    → AreGiven s.rules (rows_after s.rules names words)
level-given s names words has below all e =
    let parts = level_parts s names words has below e in
    let end = (walk s.rules names nothing_held words).held in
    defaults-given s.rules (settled s.rules end).rows s.rules all
    (settled-given s.rules s.args_override_self all end parts.2 (walk-given s names all (walk_from nothing_held) words parts.0 tt))

-- ---- arguments that are found

-- `FoundPasses` holds if a row that is found has a value, and its values pass.
abbrev FoundPasses : List Rule → Text → Option Row → Type 0
FoundPasses c id None = ⊤
FoundPasses c id (Some r) = HasValue r.values × Passes c id r.reading r.values

found_passes : (c : List Rule) (id : Text) (rows : List Row) → AreGiven c rows → FoundPasses c id (find (λ r. bytes_eq r.id id) rows)
found_passes c id [] given = tt
found_passes c id (r ∷ rs) given = go (bytes_eq r.id id) (λ e. (bytes_eq-Decides r.id id).0 e) (found_passes c id rs given.1)
  where
    go : (b : Bool) → (b ≡ true → r.id ≡ id) → FoundPasses c id (find (λ r. bytes_eq r.id id) rs)
        → FoundPasses c id (if b then Some r else find (λ r. bytes_eq r.id id) rs)
    go true same later = (given.0.0, λ a is. given.0.1 a (ap (arg_by_id c) (same refl) ∙ is))
    go false same later = later

-- `IsTaken` holds if the value of a rule, if it has one, is read as the rule says, and passes.
abbrev pub IsTaken : Rule → (given read : Option Text) → Type 0
IsTaken a None read = read ≡ None
IsTaken a (Some text) read = (read ≡ Some (read_as (reading_by a) text)) × (accepts a.ignore_case (parser_of_value a.parser) text ≡ true)

no_kind : (passes : Bool) (k : ErrorKind) → (if passes then [] else k ∷ []) ≡ [] → passes ≡ true
no_kind true k e = refl
no_kind false k e = cc e

pub taken : (c : List Rule) (id : Text) (a : Rule) (rows : List Row) → AreGiven c rows → arg_by_id c id ≡ Some a → IsTaken a (first_of id rows) (one_of id rows)
taken c id a rows given own = go (find (λ r. bytes_eq r.id id) rows) (found_passes c id rows given)
  where
    first : (how : Reading) (values : List Text) → HasValue values → how ≡ reading_by a → values_fault a values ≡ []
        → IsTaken a (slice_get values 0) (option_map (read_as how) (slice_get values 0))
    first how [] h same e = absurd h
    first how (v ∷ vs) h same e =
        let parts = both_empty (value_kinds a.ignore_case (parser_of_value a.parser) v) (values_fault a vs) e in
        (ap (λ (x : Reading). Some (read_as x v)) same, no_kind _ _ parts.0)

    go : (o : Option Row) → FoundPasses c id o → IsTaken a (option_and_then (λ r. slice_get r.values 0) o) (option_and_then row_text o)
    go None h = refl
    go (Some r) h = let pass = h.1 a own in first r.reading r.values h.0 pass.0 pass.1

-- ---- arguments that are required

text_given : (c : List Rule) (id : Text) (rows : List Row) → AreGiven c rows → is_given id rows ≡ true → HasText id rows
text_given c id rows given e = go (find (λ r. bytes_eq r.id id) rows) (found_passes c id rows given) e
  where
    first : (values : List Text) → HasValue values → (text : Text) × (slice_get values 0 ≡ Some text)
    first [] h = absurd h
    first (v ∷ vs) h = (v, refl)

    go : (o : Option Row) → FoundPasses c id o → option_map_or (λ r. explicit_source r.source) o false ≡ true
        → (text : Text) × (option_and_then (λ r. slice_get r.values 0) o ≡ Some text)
    go None h e = cc e
    go (Some r) h e = first r.values h.0

-- `RequiredHaveText` holds if each required argument has a value.
abbrev pub RequiredHaveText : List Rule → List Row → Type 0
RequiredHaveText [] rows = ⊤
RequiredHaveText (a ∷ rest) rows = (a.required ≡ true → HasText a.id rows) × RequiredHaveText rest rows

none_wanted : (all c : List Rule) (rows : List Row) → AreGiven all rows → list_any (λ a. a.required && not (is_given a.id rows)) c ≡ false → RequiredHaveText c rows
none_wanted all [] rows given e = tt
none_wanted all (a ∷ rest) rows given e =
    go a.required (is_given a.id rows) (λ is. text_given all a.id rows given is) e (λ e. none_wanted all rest rows given e)
  where
    go : (required here : Bool) → (here ≡ true → HasText a.id rows) → (required && not here || list_any (λ a. a.required && not (is_given a.id rows)) rest) ≡ false
        → (list_any (λ a. a.required && not (is_given a.id rows)) rest ≡ false → RequiredHaveText rest rows)
        → (required ≡ true → HasText a.id rows) × RequiredHaveText rest rows
    go true true text e later = (λ _. text refl, later e)
    go true false text e later = cc e
    go false here text e later = (λ is. cc is, later e)

checked : (help command any : Bool) → check_kinds help command any ≡ [] → any ≡ false
checked help command false e = refl
checked true command true e = cc e
checked false true true e = cc e
checked false false true e = cc e

-- A command without an error has its required arguments' values.
pub required_given : (s : Shape) (words : List Text) → GiveValues s.rules s.rules → level_fault s [] nothing_held words false [] ≡ []
    → RequiredHaveText s.rules (rows_after s.rules [] words)
required_given s words all e =
    let parts = level_parts s [] words false [] e in
    let rows = rows_after s.rules [] words in
    none_wanted s.rules s.rules rows (level-given s [] words false [] all e) (by_negates s.subcommand_negates_reqs parts.3)
  where
    by_negates : (b : Bool)
        → check_kinds (not false && (s.arg_required_else_help && not (list_any (λ r. explicit_source r.source) (rows_after s.rules [] words)))) (not false && s.subcommand_required)
        (not (b && false) && list_any (λ a. a.required && not (is_given a.id (rows_after s.rules [] words))) s.rules) ≡ []
        → list_any (λ a. a.required && not (is_given a.id (rows_after s.rules [] words))) s.rules ≡ false
    by_negates true e = checked _ _ _ e
    by_negates false e = checked _ _ _ e
