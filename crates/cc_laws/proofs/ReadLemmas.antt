-- The lines of a script are read back as its operations.
use Rattle.std.proofs.Common.{ℕ, Bool, true, false, not, ◌==◌, ◌&&◌, ◌≡◌, ◌≢◌, ◌+◌, ◌-◌, ◌<◌, ◌≤◌, ◌^◌, nat_eq, if◌then◌else◌, List, [], ◌∷◌, ◌++◌, append_assoc, codes, length, map, Ok, arith}
use Rattle.std.proofs.Common.{refl, sym, ap, ◌∙◌}
use Rattle.std.specs.Prelude.{decimal, ⊤}
use Rattle.std.specs.List.{AllByRecursion, join_with_byte, list_all}
use Rattle.std.specs.Str.Parse.{AllDigits}
use Rattle.std.proofs.lemmas.Bool.{eqb-false, false≢true, le-leb, le-ltb}
use Rattle.std.proofs.lemmas.Fmt.{decimal_is_IsNumeral_wide, length-decimal-le_wide}
use Rattle.std.proofs.lemmas.List.{length-append}
use Rattle.std.proofs.lemmas.Str.Parse.{digit_from_value}
use Rattle.cc_placer.proofs.AlignLemmas.{padded_for-enough}
use Rattle.cc_io.specs.Lines.{IsLine, lines_of, rest_of}
use Rattle.cc_io.proofs.SplitLemmas.{lines_line, rest_line}
use Rattle.cc_values.specs.declared.op.Op.{Op}
use Rattle.cc_values.specs.declared.op.Op.TheVariants as op
use Rattle.cc_values.specs.Values.{IsWord, index_in, length_in, words_of}
use Rattle.cc_values.proofs.PieceLemmas.{one_join}
use Rattle.cc_values.proofs.ReadBackLemmas.{decimal-read}
use Rattle.cc_machine.specs.Run.{IsInAddressSpace}
use Rattle.cc_syntax.specs.Commands.{command_in, one, operation_of}
use Rattle.cc_heap.specs.declared.object.Object.{Object}
use Rattle.cc_heap.specs.declared.policy.Policy.{Policy}
use Rattle.cc_heap.specs.declared.settings.Settings.{Settings}
use Rattle.cc_heap.specs.Heap.{Heap}
use Rattle.cc_heap.specs.Policy.{is_immediate}
use Rattle.cc_replay.specs.Changes.{Change, Changes, MakesThis, objects_made}
use Rattle.cc_replay.specs.Changes.Change.{Make as MakeOne, Free as FreeOne, Replace as ReplaceOne, Sweep as SweepAll}
use Rattle.cc_replay.specs.Operations.{Numbers, freeing, operation_line, operation_lines, operations_of, with_number}
use Rattle.cc_laws.proofs.ScriptedLemmas.{change_settings}
use Rattle.cc_laws.specs.Translation.{IsReadAs}

-- an operation of a change, whose value is in the range of its type
abbrev pub CanBeRead : Op → Type 0
CanBeRead (op.Alloc size) = size ≤ 2 ^ 64
CanBeRead (op.Free number) = number < 2 ^ 32
CanBeRead op.Sweep = ⊤
CanBeRead _ = ⊥

-- the line of an operation, which is read back as it
record HasLine (op : Op) : Type 0 where
  line : List ℕ
  whole : operation_line op ≡ line ++ 10 ∷ []
  own : IsLine line
  read : operation_of line ≡ Ok op

-- no such operation sets an address
in_space : (op : Op) → CanBeRead op → IsInAddressSpace op
in_space (op.Alloc size) can = tt
in_space (op.Free number) can = tt
in_space op.Sweep can = tt
in_space _ never = absurd never

pub all_in_space : (ops : List Op) → AllByRecursion CanBeRead ops → AllByRecursion IsInAddressSpace ops
all_in_space [] can = tt
all_in_space (first ∷ ops) (can, all) = (in_space first can, all_in_space ops all)

-- ---- bytes that a text lacks

abbrev Lacks : ℕ → List ℕ → Type 0
Lacks byte text = AllByRecursion (λ other. other ≢ byte) text

name_lacks : (byte : ℕ) (text : List ℕ) → list_all (λ other. not (other == byte)) text ≡ true → Lacks byte text
name_lacks byte [] is = tt
name_lacks byte (x ∷ text) is = by (x == byte) refl is (name_lacks byte text)
  where
    by : (same : Bool) → (x == byte) ≡ same → (not same && list_all (λ other. not (other == byte)) text) ≡ true
        → (list_all (λ other. not (other == byte)) text ≡ true → Lacks byte text) → Lacks byte (x ∷ text)
    by true at is later = absurd (false≢true is)
    by false at is later = (eqb-false x byte at, later is)

digits_lack : (byte : ℕ) (text : List ℕ) → byte < 48 → AllDigits 10 text → Lacks byte text
digits_lack byte [] low all = tt
digits_lack byte (digit ∷ text) low (is_digit, all) =
    let range = digit_from_value digit is_digit in
    ((λ same. absurd (omega (arith, range, low, same))), digits_lack byte text low all)

both_lack : (byte : ℕ) (name text : List ℕ) → Lacks byte name → Lacks byte text → Lacks byte (name ++ text)
both_lack byte [] text first second = second
both_lack byte (x ∷ name) text first second = (first.0, both_lack byte name text first.1 second)

decimal_lacks : (byte number : ℕ) → byte < 48 → number ≤ 2 ^ 64 → Lacks byte (decimal number)
decimal_lacks byte number low fits =
    digits_lack byte (decimal number) low (decimal_is_IsNumeral_wide number (omega (arith, fits))).0.1

-- ---- a line

short : (name : List ℕ) (number : ℕ) → length name ≤ 8 → number ≤ 2 ^ 64 → length (name ++ decimal number) ≤ 128
short name number few fits =
    let digits : length (decimal number) ≤ 20 =
    length-decimal-le_wide 20 number (omega arith) (omega (arith, fits)) (omega (arith, fits)) in
    omega (arith, length-append name (decimal number), few, digits)

two_words : (name text : List ℕ) → IsWord name → IsWord text → words_of (name ++ 32 ∷ text) ≡ name ∷ text ∷ []
two_words name text first second =
    sym ((one_join (join_with_byte 32 (name ∷ text ∷ []))).only (name ∷ text ∷ [])
    (record { whole = refl; some = omega arith; each = (first, (second, tt)) }))

length_read : (size : ℕ) → size ≤ 2 ^ 64 → length_in (decimal size) ≡ Ok size
length_read size fits = rw (decimal-read size (omega (arith, fits)), le-leb size (2 ^ 64) fits) refl

index_read : (number : ℕ) → number < 2 ^ 32 → index_in (decimal number) ≡ Ok number
index_read number fits =
    let most : number ≤ 2 ^ 32 - 1 = omega (arith, fits) in
    rw (decimal-read number (omega (arith, fits)), le-leb number (2 ^ 32 - 1) most) refl

alloc_read : (size : ℕ) → size ≤ 2 ^ 64 → operation_of (codes "alloc " ++ decimal size) ≡ Ok (op.Alloc size)
unfolding operation_of
alloc_read size fits =
    rw (le-ltb 128 (length (codes "alloc " ++ decimal size)) (short (codes "alloc ") size (omega arith) fits))
    (ap command_in (two_words (codes "alloc") (decimal size) (name_lacks 32 (codes "alloc") refl)
    (decimal_lacks 32 size (omega arith) fits))
    ∙ ap (one op.Alloc) (length_read size fits))

free_read : (number : ℕ) → number < 2 ^ 32 → operation_of (codes "free " ++ decimal number) ≡ Ok (op.Free number)
unfolding operation_of
free_read number fits =
    let small : number ≤ 2 ^ 64 = omega (arith, fits) in
    rw (le-ltb 128 (length (codes "free " ++ decimal number)) (short (codes "free ") number (omega arith) small))
    (ap command_in (two_words (codes "free") (decimal number) (name_lacks 32 (codes "free") refl)
    (decimal_lacks 32 number (omega arith) small))
    ∙ ap (one op.Free) (index_read number fits))

sweep_read : operation_of (codes "sweep") ≡ Ok op.Sweep
unfolding operation_of
sweep_read = refl

line_of : (op : Op) → CanBeRead op → HasLine op
line_of (op.Alloc size) fits = record {
  line = codes "alloc " ++ decimal size;
  whole = refl;
  own = both_lack 10 (codes "alloc ") (decimal size) (name_lacks 10 (codes "alloc ") refl) (decimal_lacks 10 size (omega arith) fits);
  read = alloc_read size fits;
}
line_of (op.Free number) fits = record {
  line = codes "free " ++ decimal number;
  whole = refl;
  own = both_lack 10 (codes "free ") (decimal number) (name_lacks 10 (codes "free ") refl)
      (decimal_lacks 10 number (omega arith) (omega (arith, fits)));
  read = free_read number fits;
}
line_of op.Sweep fits = record {
  line = codes "sweep";
  whole = refl;
  own = name_lacks 10 (codes "sweep") refl;
  read = sweep_read;
}
line_of _ never = absurd never

-- ---- lines

pub read_back : (ops : List Op) → AllByRecursion CanBeRead ops → IsReadAs (operation_lines ops) ops
read_back [] can = (refl, refl)
read_back (first ∷ ops) (can, all) =
    let is = line_of first can in
    let rest = read_back ops all in
    let text : operation_lines (first ∷ ops) ≡ is.line ++ 10 ∷ operation_lines ops =
    ap (λ (l : List ℕ). l ++ operation_lines ops) is.whole ∙ append_assoc is.line (10 ∷ []) (operation_lines ops) in (
      ap (λ (l : List ℕ). map operation_of (lines_of l)) text
          ∙ ap (λ (l : List (List ℕ)). map operation_of l) (lines_line [] is.line (operation_lines ops) is.own)
          ∙ (λ i. is.read i ∷ rest.0 i),
      ap rest_of text ∙ rest_line [] is.line (operation_lines ops) is.own ∙ rest.1,
    )

-- ---- the operations of changes

size_fits : (old : Heap) (id : ℕ) (object : Object) (new : Heap) → old.settings.pool.top ≤ 2 ^ 64 → MakesThis old id object new
    → object.size ≤ 2 ^ 64
size_fits old id object new top makes =
    let inside = makes.makes.placement.place.in_pool.to_top in
    let enough = padded_for-enough old.settings.align object.size in
    omega (arith, top, inside, enough)

free_can : (policy : Policy) (number : ℕ) (ops : List Op) → number < 2 ^ 32 → AllByRecursion CanBeRead ops
    → AllByRecursion CanBeRead (freeing policy number ++ ops)
free_can policy number ops few all = (few, by (is_immediate policy))
  where
    by : (immediate : Bool) → AllByRecursion CanBeRead ((if immediate then op.Sweep ∷ [] else []) ++ ops)
    by true = (tt, all)
    by false = all

-- no number is above the number of objects
abbrev AreFew : Numbers → Type 0
AreFew numbers = (id : ℕ) → numbers.number_of id ≤ numbers.made

few_with : (numbers : Numbers) (id : ℕ) → AreFew numbers → AreFew (with_number numbers id)
few_with numbers id few other = by (nat_eq id other)
  where
    by : (same : Bool) → (if same then numbers.made + 1 else numbers.number_of other) ≤ numbers.made + 1
    by true = omega arith
    by false = omega (arith, few other)

pub all_can : (settings : Settings) (changes : List Change) (old new : Heap) (numbers : Numbers) → old.settings ≡ settings
    → settings.pool.top ≤ 2 ^ 64 → Changes old changes new → numbers.made + length (objects_made changes) < 2 ^ 32
    → AreFew numbers → AllByRecursion CanBeRead (operations_of settings.policy numbers changes)
all_can settings [] old new numbers same top are fits few = tt
all_can settings (MakeOne id object ∷ changes) old new numbers same top (next, (none, makes), are) fits few =
    let then_same : next.settings ≡ settings = change_settings old (MakeOne id object) next (none, makes) ∙ same in
    let own_top : old.settings.pool.top ≡ settings.pool.top = ap (λ (s : Settings). s.pool.top) same in (
      size_fits old id object next (omega (arith, own_top, top)) makes,
      all_can settings changes next new (with_number numbers id) then_same top are (omega (arith, fits)) (few_with numbers id few),
    )
all_can settings (FreeOne id object ∷ changes) old new numbers same top (next, is, are) fits few =
    free_can settings.policy (numbers.number_of id) (operations_of settings.policy numbers changes)
    (omega (arith, few id, fits))
    (all_can settings changes next new numbers (change_settings old (FreeOne id object) next is ∙ same) top are fits few)
all_can settings (ReplaceOne id before object ∷ changes) old new numbers same top (next, is, are) fits few =
    let then_same : next.settings ≡ settings = change_settings old (ReplaceOne id before object) next is ∙ same in
    let own_top : old.settings.pool.top ≡ settings.pool.top = ap (λ (s : Settings). s.pool.top) same in (
      size_fits old id object is.made (omega (arith, own_top, top)) is.makes,
      free_can settings.policy (numbers.number_of id) (operations_of settings.policy (with_number numbers id) changes)
          (omega (arith, few id, fits))
          (all_can settings changes next new (with_number numbers id) then_same top are (omega (arith, fits))
          (few_with numbers id few)),
    )
all_can settings (SweepAll ∷ changes) old new numbers same top (next, is, are) fits few =
    (tt, all_can settings changes next new numbers (change_settings old SweepAll next is ∙ same) top are fits few)
