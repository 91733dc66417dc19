use Rattle.std.proofs.Common.{sym, ◌∙◌, ◌≡◌, drop, take-append-drop}
use Rattle.std.proofs.lemmas.List.{take_rest}
use Rattle.cc_machine.proofs.gap_block.GapBlock.split.Goals as goal

pub returns-clause-both : goal.returns-clause-both
returns-clause-both c =
    let seen = c.deref.ensures.0 ∙ c.self.view_is in
    let high : c.try_extend_from_slice.new.self.items ≡ drop 32 c.args.self.now
    = rw (rw c.unwrap.ensures at c.try_extend_from_slice.ensures.ok, c.new-gaps.ensures, seen) (take_rest c.args.self.now 32) in
    rw (c.truncate.ensures.items, high, c.self.view_is) (sym (take-append-drop 32 c.args.self.now))
