-- The listing of the segments of a core file, by the entries of their table.
use Rattle.std.proofs.Common.{◌≡◌, ℕ, zero, suc, ◌<◌, ◌≤◌, ◌-◌, ◌*◌, Bool, true, false, ◌||◌, List, [], ◌∷◌, drop, length, take, refl, sym, subst, inl, inr, Option, Result, Ok, Err, arith, nat_lt}
use Rattle.std.specs.Prelude.{◌==◌, if◌then◌else◌}
use Rattle.cc_word.specs.declared.refusal.Refusal.TheVariants.{Unfinished}
use Rattle.cc_io.specs.Devices.{OutputState}
use Rattle.cc_io.specs.declared.format.Format.{Format}
use Rattle.cc_io.specs.declared.input_form.ByteOrder.{ByteOrder}
use Rattle.cc_io.specs.declared.summary.IoError.{IoError}
use Rattle.cc_io.specs.declared.summary.IoError.TheVariants.{Write}
use Rattle.cc_io.specs.declared.summary.Summary.{Summary}
use Rattle.cc_decode.specs.Core.{EndsCore, ListsSegment, ListsSegments, segment_options}
use Rattle.cc_decode.specs.Elf.{LoadedSegment, half_at, is_table_cut, segment_of, segments_in, segments_of, table_of, word_at}
use Rattle.cc_decode.specs.Output.{refusal_line}
use Rattle.cc_decode.specs.declared.options.Options.{Options}
use Rattle.cc_decode.specs.declared.options.Search.{Search}

-- an entry of the table, and the table after it
pub record Splits (table entry after : List ℕ) : Type 0 where
  pub whole : 56 ≤ length table
  pub first : entry ≡ take 56 table
  pub rest : after ≡ drop 56 table

-- no entry is left
pub none_over : (order : ByteOrder) (file : List ℕ) (left : ℕ) (table : List ℕ) → left ≤ 0 → segments_in order file left table ≡ []
none_over order file zero table over = refl
none_over order file (suc left) table over = absurd (omega (arith, over))

pub none_left : (order : ByteOrder) (file : List ℕ) (left : ℕ) (table : List ℕ) → length table < 56 → segments_in order file left table ≡ []
none_left order file zero table short = refl
none_left order file (suc left) table short = let is : nat_lt (length table) 56 ≡ true = grind (arith, short) in rw is refl

-- the segments from an entry on
pub loaded_next : (order : ByteOrder) (file : List ℕ) (left : ℕ) (table entry after : List ℕ) → 0 < left → Splits table entry after → (word_at order entry 0 == 1) ≡ true
    → segments_in order file left table ≡ segment_of order file entry ∷ segments_in order file (left - 1) after
loaded_next order file zero table entry after some splits loaded = absurd (omega (arith, some))
loaded_next order file (suc left) table entry after some splits loaded =
    let is : nat_lt (length table) 56 ≡ false = grind (arith, splits.whole) in
    let loads : (word_at order (take 56 table) 0 == 1) ≡ true = subst (λ (l : List ℕ). (word_at order l 0 == 1) ≡ true) splits.first loaded in
    let less : suc left - 1 ≡ left = omega arith in
    rw (less, is, splits.first, splits.rest, loads) refl

pub other_next : (order : ByteOrder) (file : List ℕ) (left : ℕ) (table entry after : List ℕ) → 0 < left → Splits table entry after → (word_at order entry 0 == 1) ≡ false
    → segments_in order file left table ≡ segments_in order file (left - 1) after
other_next order file zero table entry after some splits other = absurd (omega (arith, some))
other_next order file (suc left) table entry after some splits other =
    let is : nat_lt (length table) 56 ≡ false = grind (arith, splits.whole) in
    let loads : (word_at order (take 56 table) 0 == 1) ≡ false = subst (λ (l : List ℕ). (word_at order l 0 == 1) ≡ false) splits.first other in
    let less : suc left - 1 ≡ left = omega arith in
    rw (less, is, splits.rest, loads) refl

-- the listing of the file is that of the segments of its table
pub from_start : (order : ByteOrder) (format : Format) (search : Option Search) (file : List ℕ) (left size : ℕ) (table : List ℕ) (output now : OutputState) (result : Result Summary IoError)
    → table ≡ table_of order file → left ≡ half_at order file 56 → size ≡ left
    → ListsSegments order format search (segments_in order file left table) (nat_lt (length table) (56 * size)) false output now result
    → ListsSegments order format search (segments_of order file) (is_table_cut order file) false output now result
from_start order format search file left size table output now result is_table is_left is_size lists =
    subst (λ (n : ℕ). ListsSegments order format search (segments_in order file n (table_of order file)) (nat_lt (length (table_of order file)) (56 * n)) false output now result) is_left
    (subst (λ (n : ℕ). ListsSegments order format search (segments_in order file left (table_of order file)) (nat_lt (length (table_of order file)) (56 * n)) false output now result) is_size
    (subst (λ (l : List ℕ). ListsSegments order format search (segments_in order file left l) (nat_lt (length l) (56 * size)) false output now result) is_table lists))

-- the listing ends after the last entry
pub ends_after : (order : ByteOrder) (format : Format) (search : Option Search) (segments : List LoadedSegment) (is_cut any_error : Bool) (line : List ℕ)
    (output now : OutputState) (result : Result Summary IoError)
    → segments ≡ [] → line ≡ (if is_cut then refusal_line format Unfinished else []) → EndsCore line (any_error || is_cut) output now result
    → ListsSegments order format search segments is_cut any_error output now result
ends_after order format search segments is_cut any_error line output now result none is ends =
    subst (λ (s : List LoadedSegment). ListsSegments order format search s is_cut any_error output now result) (sym none)
    (subst (λ (l : List ℕ). EndsCore l (any_error || is_cut) output now result) is ends)

-- an entry of the table that is loaded, with its segment
pub record Loads (order : ByteOrder) (file table entry after : List ℕ) (left address : ℕ) (words : List ℕ) : Type 0 where
  pub some : 0 < left
  pub splits : Splits table entry after
  pub loaded : (word_at order entry 0 == 1) ≡ true
  pub address_is : address ≡ (segment_of order file entry).address
  pub words_is : words ≡ (segment_of order file entry).words

-- what was listed is the segment of the entry
placed : (order : ByteOrder) (format : Format) (search : Option Search) (file table entry after : List ℕ) (left address : ℕ) (words : List ℕ) (options : Options)
    (output now : OutputState) (result : Result Summary IoError) → Loads order file table entry after left address words → options ≡ segment_options order format search address
    → ListsSegment options words output now result
    → ListsSegment (segment_options order format search (segment_of order file entry).address) (segment_of order file entry).words output now result
placed order format search file table entry after left address words options output now result loads is_options lists =
    subst (λ (n : ℕ). ListsSegment (segment_options order format search n) (segment_of order file entry).words output now result) loads.address_is
    (subst (λ (l : List ℕ). ListsSegment (segment_options order format search address) l output now result) loads.words_is
    (subst (λ (o : Options). ListsSegment o words output now result) is_options lists))

-- the sink failed in a segment
pub stops_in : (order : ByteOrder) (format : Format) (search : Option Search) (file table entry after : List ℕ) (left address : ℕ) (words : List ℕ) (options : Options)
    (is_cut any_error : Bool) (output now : OutputState) (result : Result Summary IoError)
    → Loads order file table entry after left address words → options ≡ segment_options order format search address → result ≡ Err Write
    → ListsSegment options words output now result → ListsSegments order format search (segments_in order file left table) is_cut any_error output now result
stops_in order format search file table entry after left address words options is_cut any_error output now result loads is_options write lists =
    subst (λ (s : List LoadedSegment). ListsSegments order format search s is_cut any_error output now result)
    (sym (loaded_next order file left table entry after loads.some loads.splits loads.loaded))
    (inl (
      write,
      placed order format search file table entry after left address words options output now (Err Write) loads is_options
          (subst (λ (r : Result Summary IoError). ListsSegment options words output now r) write lists),
    ))

-- the next segment is listed after this one
pub goes_on : (order : ByteOrder) (format : Format) (search : Option Search) (file table entry after : List ℕ) (left address : ℕ) (words : List ℕ) (options : Options)
    (is_cut ends any_error : Bool) (one : Summary) (output mid now : OutputState) (result : Result Summary IoError)
    → Loads order file table entry after left address words → options ≡ segment_options order format search address → ends ≡ (segment_of order file entry).is_cut
    → ListsSegment options words output mid (Ok one)
    → ListsSegments order format search (segments_in order file (left - 1) after) (is_cut || ends) (any_error || one.any_error) mid now result
    → ListsSegments order format search (segments_in order file left table) is_cut any_error output now result
goes_on order format search file table entry after left address words options is_cut ends any_error one output mid now result loads is_options is_ends lists further =
    subst (λ (s : List LoadedSegment). ListsSegments order format search s is_cut any_error output now result)
    (sym (loaded_next order file left table entry after loads.some loads.splits loads.loaded))
    (inr (
      mid,
      one,
      placed order format search file table entry after left address words options output mid (Ok one) loads is_options lists,
      subst (λ (b : Bool). ListsSegments order format search (segments_in order file (left - 1) after) (is_cut || b) (any_error || one.any_error) mid now result) is_ends further,
    ))
