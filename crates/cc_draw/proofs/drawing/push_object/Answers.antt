use Rattle.std.proofs.Common.{rules, ◌≡◌, ◌<◌, ◌+◌, ◌-◌, ◌*◌, ◌++◌, ◌∙◌, ℕ, List, ap, ap₂, append-nil, append_assoc, arith, max, min, sym}
use Rattle.cc_draw.specs.Drawing.{parts_text, rectangle_text, row_count}
use Rattle.cc_draw.proofs.DrawingLemmas.{parts_drawn, parts_left_out, parts_none}
use Rattle.cc_draw.proofs.drawing.push_object.Goals as goal
use Rattle.cc_draw.proofs.drawing.push_object.Goals.{then-from-to, else-from-to}

pub rows-preserved : goal.rows-preserved
rows-preserved c =
    let kept = c.rows.invariant in
    let first : ℕ = c.cells_of-first.result.0 in
    let end : ℕ = c.cells_of-first.result.1 in
    let width : ℕ = c.args.layout.now.width in
    let row : ℕ = c.rows.row in
    let from_is : c.max-from.result ≡ max first (1024 * row) = c.max-from.ensures ∙ ap (λ (n : ℕ). max first n) c.from-left.ensures in
    let to_is : c.min-to.result ≡ min end (1024 * row + 1024) = c.min-to.ensures ∙ ap (λ (n : ℕ). min end (n + 1024)) c.from-left.ensures in
    let some : 0 < c.rows.rows_left = search rules in
    elim c.if-from-to.branch [
      | then-from-to w ↦
          let less : c.max-from.result < c.min-to.result = search rules in
          let has : max first (1024 * row) < min end (1024 * row + 1024) = omega (arith, from_is, to_is, less) in
          let next = parts_drawn width first end c.args.number c.args.span.now c.rows.rows_left row some has in
          let same = ap₂ (λ (from to : ℕ). rectangle_text width row from to c.args.number c.args.span.now) from_is to_is in
          let later : List ℕ = parts_text width first end c.args.number c.args.span.now (c.rows.rows_left - 1) (row + 1) in
          rw w.page-is
          (record {
            text =
                ap (λ (l : List ℕ). l ++ later) (w.push_rectangle.ensures.value ∙ ap (λ (l : List ℕ). c.rows.page ++ l) same)
                ∙ append_assoc c.rows.page (rectangle_text width row (max first (1024 * row)) (min end (1024 * row + 1024)) c.args.number c.args.span.now) later
                ∙ ap (λ (l : List ℕ). c.rows.page ++ l) (sym next) ∙ kept.text;
            room = omega (arith, kept.room, w.push_rectangle.ensures.fits);
            few = omega (arith, kept.few, some);
          })
      | else-from-to w ↦
          let none : c.max-from.result < c.min-to.result → ⊥ = search rules in
          let has : max first (1024 * row) < min end (1024 * row + 1024) → ⊥ = λ less. none (omega (arith, from_is, to_is, less)) in
          let next = parts_left_out width first end c.args.number c.args.span.now c.rows.rows_left row some has in
          rw w.page-is
          (record {
            text = ap (λ (l : List ℕ). c.rows.page ++ l) (sym next) ∙ kept.text;
            room = omega (arith, kept.room);
            few = omega (arith, kept.few, some);
          })
    ]

pub returns-clause-value : goal.returns-clause-value
returns-clause-value c =
    let none = parts_none c.args.layout.now.width c.cells_of-first.result.0 c.cells_of-first.result.1 c.args.number c.args.span.now c.rows.rows_left c.rows.row (search rules) in
    sym (append-nil c.rows.page) ∙ ap (λ (l : List ℕ). c.rows.page ++ l) (sym none) ∙ c.rows.invariant.text
    ∙ ap₂ (λ (from to : ℕ). c.args.page.now ++ parts_text c.args.layout.now.width from to c.args.number c.args.span.now (row_count c.args.layout.now) 0)
    c.cells_of-first.ensures.first c.cells_of-first.ensures.end

pub returns-clause-fits : goal.returns-clause-fits
returns-clause-fits c = omega (arith, c.rows.invariant.room, c.rows.invariant.few)
