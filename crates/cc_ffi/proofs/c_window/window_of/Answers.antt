use Rattle.std.proofs.Common.{rules, refl, ◌<◌, ◌≤◌, ◌^◌, arith}
use Rattle.cc_ffi.proofs.WindowLemmas.{large_window, small_window, some_sections}
use Rattle.cc_ffi.proofs.c_window.window_of.Goals as goal

pub returns-then-exponent-ge-FIRST_WITHOUT_END-clause-window : goal.returns-then-exponent-ge-FIRST_WITHOUT_END-clause-window
returns-then-exponent-ge-FIRST_WITHOUT_END-clause-window c address fits =
    let large : 50 ≤ c.args.exponent = search rules in
    let base_fits : c.args.base < 2 ^ 64 = omega arith in
    large_window c.args.base c.args.exponent address large c.requires base_fits fits

pub overflow_sub-result : goal.overflow_sub-result
overflow_sub-result c = let small : c.args.exponent < 50 = search rules in some_sections c.args.exponent small

pub returns-clause-window : goal.returns-clause-window
returns-clause-window c address fits =
    let small : c.args.exponent < 50 = search rules in
    let base_fits : c.args.base < 2 ^ 64 = omega arith in
    small_window c.args.base c.args.exponent address _ _ small base_fits fits refl refl
