use Rattle.std.proofs.Common.{◌≡◌, ℕ, ◌+◌, ◌-◌, List, ◌++◌, ap, arith, length, length-take, take, ◌∙◌}
use Rattle.std.proofs.lemmas.Slice.{take-put_mid}
use Rattle.cc_io.proofs.LineLemmas.{extend_room}
use Rattle.cc_io.proofs.line_start.LineStart.extend.Goals as goal

pub returns : goal.returns
returns c =
    let line = c.args.self.now in
    let bytes = c.args.bytes.now in
    let inside = c.self.inside in
    let count = c.min-count.result in
    let written = c.copy_from_slice.new.self in
    let after : written ≡ take count bytes = c.copy_from_slice.ensures.after in
    let len : length line ≡ inside.len = omega (arith, ap length c.self.view_is, length-take inside.len inside.bytes, c.self.invariant) in
    let sized : inside.len + count ≡ inside.len + length written = omega (arith, ap length after, length-take count bytes) in
    take-put_mid inside.len (inside.len + count - inside.len) inside.bytes written (inside.len + count) sized (omega arith)
    ∙ ap (λ (l : List ℕ). l ++ written) c.self.view_is
    ∙ ap (λ (l : List ℕ). line ++ l) after
    ∙ extend_room line bytes count (omega arith) (omega arith)
