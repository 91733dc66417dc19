use Rattle.std.proofs.Common.{◌≡◌, ◌+◌, ◌-◌, ◌*◌, ◌++◌, ◌∙◌, ℕ, List, [], ap, append-nil, append_assoc, arith, min, refl, subst, sym, take}
use Rattle.cc_draw.specs.Map.{AreMapRows, map_row_text}
use Rattle.cc_draw.proofs.MapLemmas.{few_rows, no_rows, one_more_row}
use Rattle.cc_draw.proofs.map.push_rows.Goals as goal

pub rows-init : goal.rows-init
rows-init c =
    let few = few_rows c.args.cells c.requires.cells in
    record {
      more = λ rest are. (rest, subst (λ (n : ℕ). AreMapRows c.args.objects.now c.args.size n c.args.start c.args.cells rest) c.div_ceil-rows_left.ensures are, refl);
      room = omega (arith, few, c.requires.room, c.div_ceil-rows_left.ensures);
      ends = omega (arith, few, c.requires.start, c.div_ceil-rows_left.ensures);
    }

pub rows-preserved : goal.rows-preserved
rows-preserved c =
    let kept = c.rows.invariant in
    let piece : List ℕ = map_row_text c.rows.first (take (min c.rows.left 64) c.map_row-row.result) in
    let pushed : c.push_row.new.text ≡ c.rows.text ++ piece =
    c.push_row.ensures.value ∙ ap (λ (n : ℕ). c.rows.text ++ map_row_text c.rows.first (take n c.map_row-row.result)) c.min.ensures in
    record {
      more = λ rest are.
          let left = subst (λ (n : ℕ). AreMapRows c.args.objects.now c.args.size (c.rows.rows_left - 1) (c.rows.first + 64 * c.args.size) n rest) c.saturating_sub-left.ensures are in
          let told = kept.more (piece ++ rest) (one_more_row c.args.objects.now c.args.size c.rows.rows_left c.rows.first c.rows.left c.map_row-row.result rest (omega arith) c.map_row-row.ensures
          left) in
          (told.0, told.1, ap (λ (text : List ℕ). text ++ rest) pushed ∙ append_assoc c.rows.text piece rest ∙ told.2);
      room = omega (arith, kept.room, c.push_row.ensures.fits);
      ends = omega (arith, kept.ends, c.requires.size);
    }

pub returns : goal.returns
returns c =
    let told = c.rows.invariant.more [] (no_rows c.args.objects.now c.args.size c.rows.rows_left c.rows.first c.rows.left (omega arith)) in
    (told.0, told.1, sym (append-nil c.rows.text) ∙ told.2)
