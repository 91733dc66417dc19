-- Arguments that clap accepts name one of the program's commands, and give it the values that it needs.
use Rattle.std.proofs.Common.{◌≡◌, ◌==◌, ◌∙◌, ℕ, Bool, true, false, List, [], ◌∷◌, Option, Some, None, arith, is_some, refl, subst, sym, ap, codes, get_or, if◌then◌else◌, option_map}
use Rattle.std.specs.Prelude.{⊤, ◌&&◌, ◌||◌, IfSome, IsSome, Result, Ok, Err, find, not, pos, unwrap_or}
use Rattle.std.specs.Borrow.{Bor}
use Rattle.std.specs.List.{list_any}
use Rattle.std.specs.Option.{option_map_or}
use Rattle.std.specs.Str.{bytes_eq}
use Rattle.std.specs.Str.Parse.{ParsesUnsigned, starts_with_minus}
use Rattle.std.proofs.lemmas.Int.{ints}
use Rattle.std.proofs.lemmas.Slice.Eq.{bytes_eq-Decides}
use Rattle.clap.specs.Kinds.{check_kinds}
use Rattle.clap.specs.Lexer.{without_minus}
use Rattle.clap.specs.Walk.{Row, Rule, Text, answers_to, arg_by_id, first_of, nothing_held, one_of, rows_after, texts, walk}
use Rattle.clap.specs.Simple.{Shape, argument_words, built, entered, filled, help_rule, help_shape, label_of, names_of, rows_at, subcommand_of}
use Rattle.clap.specs.Faults.{check_fault, entered_fault, fault_of, level_fault}
use Rattle.clap.specs.Facts.{explicit_source}
use Rattle.clap.specs.Matches.{ReadsOne}
use Rattle.clap.specs.Takes.{is_given}
use Rattle.clap.specs.Values.{IsSignedIn, same_text}
use Rattle.clap.specs.declared.builder.value_parser.ValueParser.TheVariants.{Signed}
use Rattle.clap.proofs.ValueTestLemmas.{accepts-Accepts}
use Rattle.cli.specs.Invocation.{HasChoice, HasItsTexts, HasLimit, IsLimit, IsLimitText, choice_mistake_in, align_named, decimal_value, format_named, format_names, program}
use Rattle.cli.specs.Invocation.{slots_option, choice_option, input_named, order_names, summary_named, summary_names}
use Rattle.cli.proofs.GivenLemmas.{GiveValues, GivesValue, IsTaken, flag_gives, level-given, level_parts, no_default-given, required_given, set_gives, taken}

-- ---- numbers

without_minus-plain : (text : Text) → starts_with_minus text ≡ false → without_minus text ≡ text
without_minus-plain [] e = refl
without_minus-plain (x ∷ xs) e = go (x == 45) e
  where
    go : (b : Bool) → b ≡ false → unwrap_or (if b then Some xs else None) (x ∷ xs) ≡ x ∷ xs
    go true e = cc e
    go false e = refl

-- A number from 1 to 65,536 has no minus.
signed_limit : (text : Text) → IsSignedIn (pos 1) (pos 65536) text → (without_minus text ≡ text) × IsLimitText text
signed_limit text passed = go (starts_with_minus text) refl
  where
    go : (b : Bool) → starts_with_minus text ≡ b → (without_minus text ≡ text) × IsLimitText text
    go true minus =
        let low = rw minus at passed.2 in
        absurd (omega (arith, ints))
    go false minus =
        let numeral = rw minus at passed.0 in
        let low = rw minus at passed.2 in
        let high = rw minus at passed.3 in
        (without_minus-plain text minus, record { numeral = numeral; from_one = omega (arith, ints); at_most = omega (arith, ints) })

has_limit : (rows : List Row) → IsTaken (filled slots_option) (first_of (codes "slots") rows) (one_of (codes "slots") rows) → HasLimit rows
has_limit rows taken =
    let limit = go (first_of (codes "slots") rows) (one_of (codes "slots") rows) taken in
    record { read = limit.0; limit = limit.1 }
  where
    go : (given read : Option Text) → IsTaken (filled slots_option) given read → (read ≡ given) × IfSome given IsLimitText
    go None read is = (is, tt)
    go (Some text) read is =
        let limit = signed_limit text (accepts-Accepts false (Signed (pos 1) (pos 65536)) text is.1) in
        (is.0 ∙ ap Some limit.0, limit.1)

-- The limit that `get_one` reads.
pub limit_read : {E : Type 0} (gives : Text → Result ℕ E → Type 0) (given : Option Text) (read : Option ℕ) → IfSome given IsLimitText → (given ≡ None → read ≡ None)
    → ((text : Text) → given ≡ Some text → ReadsOne gives text read) → ((text : Text) (r : Result ℕ E) → gives text r → ParsesUnsigned 32 10 text r) → IsLimit given (unwrap_or read 4096)
limit_read gives None read limit none some parses = rw (none refl) (record { value = refl; from_one = omega arith; at_most = omega arith })
limit_read gives (Some text) read limit none some parses = go read (some text refl)
  where
    go : (o : Option ℕ) → ReadsOne gives text o → IsLimit (Some text) (unwrap_or o 4096)
    go (Some n) h =
        let same : n ≡ decimal_value text = (parses text (Ok n) h).1 in
        record { value = same; from_one = rw same limit.from_one; at_most = rw same limit.at_most }
    go None h = absurd (parses text (Err h.0) h.1 (limit.numeral, omega (arith, limit.at_most)))

-- ---- choices

-- A text is among the names if and only if it is among their texts.
among_texts : (names : List (Bor Text)) (text : Text)
    → list_any (λ name. same_text false name.now text) names ≡ list_any (λ name. bytes_eq name text) (texts names)
among_texts [] text = refl
among_texts (name ∷ names) text = ap (λ (rest : Bool). bytes_eq name.now text || rest) (among_texts names text)

-- A text that clap accepts for a choice names one, if all the choice's names do.
has_choice : {A : Type 0} (named : Text → Option A) (name : Text) (names : List Text) → ((text : Text) → list_any (λ n. bytes_eq n text) names ≡ true → IsSome (named text))
    → (choices : Bor (List (Bor Text))) → texts choices.now ≡ names → (rows : List Row)
    → IsTaken (filled (choice_option name choices)) (first_of name rows) (one_of name rows) → HasChoice named name rows
has_choice named name names each choices are rows taken = go (first_of name rows) (one_of name rows) taken
  where
    go : (given read : Option Text) → IsTaken (filled (choice_option name choices)) given read → IfSome given (λ text. IsSome (named text))
    go None read is = tt
    go (Some text) read is =
        let among = sym (among_texts choices.now text) ∙ is.1 in
        each text (subst (λ (ns : List Text). list_any (λ n. bytes_eq n text) ns ≡ true) are among)

-- 1 and 16 are alignments.
align_read : (text : Text) → list_any (λ name. bytes_eq name text) (codes "1" ∷ codes "16" ∷ []) ≡ true → IsSome (align_named text)
align_read text among = go (bytes_eq (codes "1") text) (bytes_eq (codes "16") text) refl refl among
  where
    go : (one sixteen : Bool) → bytes_eq (codes "1") text ≡ one → bytes_eq (codes "16") text ≡ sixteen
        → (one || (sixteen || false)) ≡ true → IsSome (align_named text)
    go true sixteen is other e = subst (λ (t : Text). IsSome (align_named t)) ((bytes_eq-Decides (codes "1") text).0 is) refl
    go false true other is e = subst (λ (t : Text). IsSome (align_named t)) ((bytes_eq-Decides (codes "16") text).0 is) refl
    go false false one sixteen e = cc e

-- ---- formats

-- Each name of a format names one.
format_read : (text : Text) → list_any (λ name. bytes_eq name text) format_names ≡ true → IsSome (format_named text)
format_read text among =
    go (bytes_eq (codes "columns") text) (bytes_eq (codes "text") text) (bytes_eq (codes "fixed") text) (bytes_eq (codes "csv") text) (bytes_eq (codes "json") text)
    refl refl refl refl refl among
  where
    go : (columns line fixed csv json : Bool) → bytes_eq (codes "columns") text ≡ columns → bytes_eq (codes "text") text ≡ line
        → bytes_eq (codes "fixed") text ≡ fixed → bytes_eq (codes "csv") text ≡ csv → bytes_eq (codes "json") text ≡ json
        → (columns || (line || (fixed || (csv || (json || false))))) ≡ true → IsSome (format_named text)
    go true line fixed csv json is one two three four e = subst (λ (t : Text). IsSome (format_named t)) ((bytes_eq-Decides (codes "columns") text).0 is) refl
    go false true fixed csv json one is two three four e = subst (λ (t : Text). IsSome (format_named t)) ((bytes_eq-Decides (codes "text") text).0 is) refl
    go false false true csv json one two is three four e = subst (λ (t : Text). IsSome (format_named t)) ((bytes_eq-Decides (codes "fixed") text).0 is) refl
    go false false false true json one two three is four e = subst (λ (t : Text). IsSome (format_named t)) ((bytes_eq-Decides (codes "csv") text).0 is) refl
    go false false false false true one two three four is e = subst (λ (t : Text). IsSome (format_named t)) ((bytes_eq-Decides (codes "json") text).0 is) refl
    go false false false false false one two three four five e = cc e

-- Each name of a format of a summary names one.
summary_read : (text : Text) → list_any (λ name. bytes_eq name text) summary_names ≡ true → IsSome (summary_named text)
summary_read text among =
    go (bytes_eq (codes "text") text) (bytes_eq (codes "csv") text) (bytes_eq (codes "json") text) refl refl refl among
  where
    go : (line csv json : Bool) → bytes_eq (codes "text") text ≡ line → bytes_eq (codes "csv") text ≡ csv → bytes_eq (codes "json") text ≡ json
        → (line || (csv || (json || false))) ≡ true → IsSome (summary_named text)
    go true csv json is one two e = subst (λ (t : Text). IsSome (summary_named t)) ((bytes_eq-Decides (codes "text") text).0 is) refl
    go false true json one is two e = subst (λ (t : Text). IsSome (summary_named t)) ((bytes_eq-Decides (codes "csv") text).0 is) refl
    go false false true one two is e = subst (λ (t : Text). IsSome (summary_named t)) ((bytes_eq-Decides (codes "json") text).0 is) refl
    go false false false one two three e = cc e

-- ---- orders of bytes

-- Each name of an order names one.
order_read : (text : Text) → list_any (λ name. bytes_eq name text) order_names ≡ true → IsSome (input_named text)
order_read text among = go (bytes_eq (codes "little") text) (bytes_eq (codes "big") text) refl refl among
  where
    go : (little big : Bool) → bytes_eq (codes "little") text ≡ little → bytes_eq (codes "big") text ≡ big
        → (little || (big || false)) ≡ true → IsSome (input_named text)
    go true big is other e = subst (λ (t : Text). IsSome (input_named t)) ((bytes_eq-Decides (codes "little") text).0 is) refl
    go false true other is e = subst (λ (t : Text). IsSome (input_named t)) ((bytes_eq-Decides (codes "big") text).0 is) refl
    go false false one two e = cc e

-- Two texts that the test distinguishes are not equal.
other : (a b : Text) → bytes_eq a b ≡ false → a ≡ b → ⊥
other a b differ same =
    let equal : bytes_eq a b ≡ true = (bytes_eq-Decides a b).1 same in
    let bad : false ≡ true = sym differ ∙ equal in
    cc bad

-- ---- the commands, as building leaves them

module _ (aligns : Bor (List (Bor Text))) (are : texts aligns.now ≡ codes "1" ∷ codes "16" ∷ []) (formats : Bor (List (Bor Text))) (are_formats : texts formats.now ≡ format_names)
    (orders : Bor (List (Bor Text))) (are_orders : texts orders.now ≡ order_names) (summaries : Bor (List (Bor Text)))
    (are_summaries : texts summaries.now ≡ summary_names) where
  abbrev show : Shape
  show = get_or (built (program aligns formats orders summaries)).subs 0 help_shape

  abbrev round : Shape
  round = get_or (built (program aligns formats orders summaries)).subs 1 help_shape

  abbrev run : Shape
  run = get_or (built (program aligns formats orders summaries)).subs 2 help_shape

  abbrev plan : Shape
  plan = get_or (built (program aligns formats orders summaries)).subs 3 help_shape

  abbrev map : Shape
  map = get_or (built (program aligns formats orders summaries)).subs 4 help_shape

  abbrev replay : Shape
  replay = get_or (built (program aligns formats orders summaries)).subs 5 help_shape

  abbrev decode : Shape
  decode = get_or (built (program aligns formats orders summaries)).subs 6 help_shape

  abbrev annotate : Shape
  annotate = get_or (built (program aligns formats orders summaries)).subs 7 help_shape

  abbrev explain : Shape
  explain = get_or (built (program aligns formats orders summaries)).subs 8 help_shape

  -- A call for help is an error, and changes no row.
  help_gives : (c : List Rule) → GivesValue c (filled help_rule)
  help_gives c = record { default = no_default-given c (filled help_rule) refl; uses = λ again values rows e given. given }

  show_gives : GiveValues show.rules show.rules
  show_gives = (
    flag_gives show.rules _ refl refl refl refl refl,
    (set_gives show.rules _ refl refl refl refl, (set_gives show.rules _ refl refl refl refl, (help_gives show.rules, tt))),
  )

  explain_gives : GiveValues explain.rules explain.rules
  explain_gives = (
    flag_gives explain.rules _ refl refl refl refl refl,
    (
      set_gives explain.rules _ refl refl refl refl,
      (
        set_gives explain.rules _ refl refl refl refl,
        (set_gives explain.rules _ refl refl refl refl, (help_gives explain.rules, tt)),
      ),
    ),
  )

  run_gives : GiveValues run.rules run.rules
  run_gives = (
    set_gives run.rules _ refl refl refl refl,
    (flag_gives run.rules _ refl refl refl refl refl, (set_gives run.rules _ refl refl refl refl, (help_gives run.rules, tt))),
  )

  plan_gives : GiveValues plan.rules plan.rules
  plan_gives = (
    set_gives plan.rules _ refl refl refl refl,
    (
      set_gives plan.rules _ refl refl refl refl,
      (
        flag_gives plan.rules _ refl refl refl refl refl,
        (
          set_gives plan.rules _ refl refl refl refl,
          (
            set_gives plan.rules _ refl refl refl refl,
            (set_gives plan.rules _ refl refl refl refl, (help_gives plan.rules, tt)),
          ),
        ),
      ),
    ),
  )

  map_gives : GiveValues map.rules map.rules
  map_gives = (
    set_gives map.rules _ refl refl refl refl,
    (
      set_gives map.rules _ refl refl refl refl,
      (
        flag_gives map.rules _ refl refl refl refl refl,
        (
          set_gives map.rules _ refl refl refl refl,
          (
            set_gives map.rules _ refl refl refl refl,
            (set_gives map.rules _ refl refl refl refl, (help_gives map.rules, tt)),
          ),
        ),
      ),
    ),
  )

  replay_gives : GiveValues replay.rules replay.rules
  replay_gives = (
    set_gives replay.rules _ refl refl refl refl,
    (
      set_gives replay.rules _ refl refl refl refl,
      (
        set_gives replay.rules _ refl refl refl refl,
        (
          set_gives replay.rules _ refl refl refl refl,
          (
            set_gives replay.rules _ refl refl refl refl,
            (
              set_gives replay.rules _ refl refl refl refl,
              (
                flag_gives replay.rules _ refl refl refl refl refl,
                (
                  set_gives replay.rules _ refl refl refl refl,
                  (
                    set_gives replay.rules _ refl refl refl refl,
                    (
                      flag_gives replay.rules _ refl refl refl refl refl,
                      (
                        flag_gives replay.rules _ refl refl refl refl refl,
                        (
                          flag_gives replay.rules _ refl refl refl refl refl,
                          (set_gives replay.rules _ refl refl refl refl, (help_gives replay.rules, tt)),
                        ),
                      ),
                    ),
                  ),
                ),
              ),
            ),
          ),
        ),
      ),
    ),
  )

  decode_gives : GiveValues decode.rules decode.rules
  decode_gives = (
    set_gives decode.rules _ refl refl refl refl,
    (
      set_gives decode.rules _ refl refl refl refl,
      (
        flag_gives decode.rules _ refl refl refl refl refl,
        (
          set_gives decode.rules _ refl refl refl refl,
          (
            set_gives decode.rules _ refl refl refl refl,
            (
              set_gives decode.rules _ refl refl refl refl,
              (
                set_gives decode.rules _ refl refl refl refl,
                (
                  set_gives decode.rules _ refl refl refl refl,
                  (
                    flag_gives decode.rules _ refl refl refl refl refl,
                    (
                      set_gives decode.rules _ refl refl refl refl,
                      (set_gives decode.rules _ refl refl refl refl, (help_gives decode.rules, tt)),
                    ),
                  ),
                ),
              ),
            ),
          ),
        ),
      ),
    ),
  )

  -- `Serves` holds if the command has the values that it needs whenever its arguments have no error.
  abbrev Serves : Shape → Type 0
  Serves s = (words : List Text) → level_fault s [] nothing_held words false [] ≡ [] → choice_mistake_in (Some (rows_at s words)) ≡ None
      → HasItsTexts (Some (rows_at s words))

  show_serves : Serves show
  show_serves words e choice =
      let rows = rows_after show.rules [] words in
      let format = has_choice format_named (codes "format") format_names format_read formats are_formats rows
      (taken show.rules (codes "format") (filled (choice_option (codes "format") formats)) rows (level-given show [] words false [] show_gives e) refl) in
      (codes "show", rows, refl, ((required_given show words show_gives e).1.1.0 refl, format))

  round_serves : Serves round
  round_serves words e choice = (codes "round", rows_after round.rules [] words, refl, choice)

  annotate_serves : Serves annotate
  annotate_serves words e choice = (codes "annotate", rows_after annotate.rules [] words, refl, tt)

  explain_serves : Serves explain
  explain_serves words e choice =
      let rows = rows_after explain.rules [] words in
      (codes "explain", rows, refl, choice)

  -- The value of `--slots`.
  limit_served : (s : Shape) (words : List Text) → GiveValues s.rules s.rules → arg_by_id s.rules (codes "slots") ≡ Some (filled slots_option)
      → level_fault s [] nothing_held words false [] ≡ [] → HasLimit (rows_after s.rules [] words)
  limit_served s words gives own e =
      let rows = rows_after s.rules [] words in
      has_limit rows (taken s.rules (codes "slots") (filled slots_option) rows (level-given s [] words false [] gives e) own)

  run_serves : Serves run
  run_serves words e choice =
      let rows = rows_after run.rules [] words in
      (codes "run", rows, refl, limit_served run words run_gives refl e)

  plan_serves : Serves plan
  plan_serves words e choice =
      let rows = rows_after plan.rules [] words in
      let wanted = required_given plan words plan_gives e in
      let limit = limit_served plan words plan_gives refl e in
      let align = has_choice align_named (codes "align") (codes "1" ∷ codes "16" ∷ []) align_read aligns are rows
      (taken plan.rules (codes "align") (filled (choice_option (codes "align") aligns)) rows (level-given plan [] words false [] plan_gives e) refl) in
      (codes "plan", rows, refl, ((wanted.1.1.1.0 refl, wanted.1.1.1.1.0 refl), limit, align))

  map_serves : Serves map
  map_serves words e choice =
      let rows = rows_after map.rules [] words in
      let wanted = required_given map words map_gives e in
      let limit = limit_served map words map_gives refl e in
      let align = has_choice align_named (codes "align") (codes "1" ∷ codes "16" ∷ []) align_read aligns are rows
      (taken map.rules (codes "align") (filled (choice_option (codes "align") aligns)) rows (level-given map [] words false [] map_gives e) refl) in
      (codes "map", rows, refl, ((wanted.1.1.1.0 refl, wanted.1.1.1.1.0 refl), limit, align))

  replay_serves : Serves replay
  replay_serves words e choice =
      let rows = rows_after replay.rules [] words in
      let align = has_choice align_named (codes "align") (codes "1" ∷ codes "16" ∷ []) align_read aligns are rows
      (taken replay.rules (codes "align") (filled (choice_option (codes "align") aligns)) rows (level-given replay [] words false [] replay_gives e) refl) in
      let told = has_choice summary_named (codes "summary") summary_names summary_read summaries are_summaries rows
      (taken replay.rules (codes "summary") (filled (choice_option (codes "summary") summaries)) rows (level-given replay [] words false [] replay_gives e) refl) in
      (codes "replay", rows, refl, (align, told))

  decode_serves : Serves decode
  decode_serves words e choice =
      let rows = rows_after decode.rules [] words in
      let format = has_choice format_named (codes "format") format_names format_read formats are_formats rows
      (taken decode.rules (codes "format") (filled (choice_option (codes "format") formats)) rows (level-given decode [] words false [] decode_gives e) refl) in
      let order = has_choice input_named (codes "bytes") order_names order_read orders are_orders rows
      (taken decode.rules (codes "bytes") (filled (choice_option (codes "bytes") orders)) rows (level-given decode [] words false [] decode_gives e) refl) in
      (codes "decode", rows, refl, (format, order, choice))

  abbrev AllServe : List Shape → Type 0
  AllServe [] = ⊤
  AllServe (s ∷ rest) = Serves s × AllServe rest

  all_serve : AllServe (built (program aligns formats orders summaries)).subs
  all_serve = (show_serves, (round_serves, (run_serves, (plan_serves, (map_serves, (replay_serves, (decode_serves, (annotate_serves, (explain_serves, tt)))))))))

  -- ---- the program

  wanted_by : (help_wanted argument_wanted : Bool) → check_kinds help_wanted true argument_wanted ≡ [] → ⊥
  wanted_by true b e = cc e
  wanted_by false b e = cc e

  -- A command is required.
  wanted : (rows : List Row) → check_fault (built (program aligns formats orders summaries)).top rows false ≡ [] → ⊥
  wanted rows e =
      wanted_by (not (list_any (λ (r : Row). explicit_source r.source) rows))
      (list_any (λ (a : Rule). a.required && not (is_given a.id rows)) (built (program aligns formats orders summaries)).top.rules) e

  by_name : (is_named : Shape → Bool) (commands : List Shape) (words : List Text) (rows : List Row) → AllServe commands
      → option_map_or (λ s. level_fault s [] nothing_held words false []) (find is_named commands) [] ≡ []
      → check_fault (built (program aligns formats orders summaries)).top rows (is_some (option_map (λ s. rows_at s words) (find is_named commands))) ≡ []
      → choice_mistake_in (option_map (λ s. rows_at s words) (find is_named commands)) ≡ None
      → HasItsTexts (option_map (λ s. rows_at s words) (find is_named commands))
  by_name is_named [] words rows all below e choice = absurd (wanted rows e)
  by_name is_named (s ∷ rest) words rows all below e choice = go (is_named s) below e choice (by_name is_named rest words rows all.1)
    where
      go : (b : Bool) → option_map_or (λ s. level_fault s [] nothing_held words false []) (if b then Some s else find is_named rest) [] ≡ []
          → check_fault (built (program aligns formats orders summaries)).top rows (is_some (option_map (λ s. rows_at s words) (if b then Some s else find is_named rest))) ≡ []
          → choice_mistake_in (option_map (λ s. rows_at s words) (if b then Some s else find is_named rest)) ≡ None
          → (option_map_or (λ s. level_fault s [] nothing_held words false []) (find is_named rest) [] ≡ []
          → check_fault (built (program aligns formats orders summaries)).top rows (is_some (option_map (λ s. rows_at s words) (find is_named rest))) ≡ []
          → choice_mistake_in (option_map (λ s. rows_at s words) (find is_named rest)) ≡ None
          → HasItsTexts (option_map (λ s. rows_at s words) (find is_named rest)))
          → HasItsTexts (option_map (λ s. rows_at s words) (if b then Some s else find is_named rest))
      go true below e choice later = all.0 words below choice
      go false below e choice later = later below e choice

  by_stop : (stop : Option (Text × List Text)) (rows : List Row) → entered_fault (built (program aligns formats orders summaries)) stop ≡ []
      → check_fault (built (program aligns formats orders summaries)).top rows (is_some (entered (built (program aligns formats orders summaries)) stop)) ≡ []
      → choice_mistake_in (entered (built (program aligns formats orders summaries)) stop) ≡ None → HasItsTexts (entered (built (program aligns formats orders summaries)) stop)
  by_stop None rows below e choice = absurd (wanted rows e)
  by_stop (Some p) rows below e choice = by_name (λ s. answers_to p.0 (label_of s)) (built (program aligns formats orders summaries)).subs p.1 rows all_serve below e choice

  -- Arguments without an error name a command and give it its texts, if they are a choice.
  pub found : (words : List Text) → fault_of (program aligns formats orders summaries) words ≡ [] → choice_mistake_in (subcommand_of (program aligns formats orders summaries) words) ≡ None
      → HasItsTexts (subcommand_of (program aligns formats orders summaries) words)
  found words e choice =
      let app = built (program aligns formats orders summaries) in
      let rest = argument_words (program aligns formats orders summaries) words in
      let end = walk app.top.rules (names_of app) nothing_held rest in
      let parts = level_parts app.top (names_of app) rest (is_some (entered app end.stopped)) (entered_fault app end.stopped) e in
      by_stop end.stopped (rows_after app.top.rules (names_of app) rest) parts.1 parts.3 choice
