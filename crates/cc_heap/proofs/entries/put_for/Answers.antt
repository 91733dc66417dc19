use Rattle.std.proofs.Common.{◌≡◌, ◌∙◌, ◌∷◌, ℕ, false, nat_eq, Some, rules, subst, sym, IsPermutation}
use Rattle.std.specs.Map.{lookup}
use Rattle.cc_heap.proofs.HeapLemmas.{apart_too, puts_beside, puts_over}
use Rattle.cc_heap.proofs.entries.put_for.Goals as goal

pub returns-then-from-to-clause-swaps : goal.returns-then-from-to-clause-swaps
returns-then-from-to-clause-swaps c = λ before is.
    let same : c.args.from ≡ c.args.to = search rules in
    let here : lookup (nat_eq c.args.to) c.args.objects.now.entries ≡ Some before =
    subst (λ (n : ℕ). lookup (nat_eq n) c.args.objects.now.entries ≡ Some before) same is in
    subst (λ (n : ℕ). IsPermutation ((c.args.to, c.args.object) ∷ c.args.objects.now.entries) ((n, before) ∷ c.insert.new.self.entries)) (sym same)
    (puts_over c.args.to before c.args.object c.args.objects.now.entries c.insert.new.self.entries c.in_ok-insert.field-0
    c.in_ok-insert.ensures.old (c.in_ok-insert.ensures.old ∙ here) c.in_ok-insert.ensures.entries)

pub returns-clause-swaps : goal.returns-clause-swaps
returns-clause-swaps c = λ before is.
    let apart : nat_eq c.args.from c.args.to ≡ false = search rules in
    let stays = c.in_ok-insert.ensures.updates.2 c.args.from (apart_too c.args.from c.args.to apart) in
    puts_beside c.args.from c.args.to before c.args.object c.args.objects.now.entries c.insert.new.self.entries c.remove.new.self.entries
    c.in_ok-insert.field-0 c.remove.result c.in_ok-insert.ensures.old (c.requires.fresh apart) c.in_ok-insert.ensures.entries
    c.remove.ensures.value (c.remove.ensures.value ∙ stays ∙ is) c.remove.ensures.entries
