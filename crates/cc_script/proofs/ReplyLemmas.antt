-- Commands that are taken one after another, and the lines of their replies.
use Rattle.std.proofs.Common.{◌≡◌, ℕ, List, [], ◌∷◌, ◌++◌, sym, refl, ◌∙◌, ap, subst, append_assoc, Bool, true, false, ◌||◌, Result}
use Rattle.cc_word.specs.declared.refusal.Refusal.{Refusal}
use Rattle.cc_values.specs.declared.op.Op.{Op}
use Rattle.cc_values.specs.declared.reply.Reply.{Reply}
use Rattle.cc_machine.specs.State.{State}
use Rattle.cc_syntax.specs.Replies.{reply_text}
use Rattle.cc_script.specs.Output.{TakesAll, with_line_feed, replies_text}

pub takes_further : (a b c : State) (xs ys : List (Result Op Refusal)) (rs ss : List Reply)
    → TakesAll a xs rs b → TakesAll b ys ss c → TakesAll a (xs ++ ys) (rs ++ ss) c
takes_further a b c [] ys [] ss p q = subst (λ (s : State). TakesAll s ys ss c) p q
takes_further a b c (x ∷ xs) ys (r ∷ rs) ss p q = (p.0, p.1, takes_further p.0 b c xs ys rs ss p.2 q)
takes_further a b c [] ys (r ∷ rs) ss p q = absurd p
takes_further a b c (x ∷ xs) ys [] ss p q = absurd p

pub replies_text-append : (rs ss : List Reply) → replies_text (rs ++ ss) ≡ replies_text rs ++ replies_text ss
replies_text-append [] ss = refl
replies_text-append (r ∷ rs) ss =
    ap (λ (l : List ℕ). with_line_feed (reply_text r) ++ l) (replies_text-append rs ss)
    ∙ sym (append_assoc (with_line_feed (reply_text r)) (replies_text rs) (replies_text ss))

pub or_assoc : (a b c : Bool) → (a || (b || c)) ≡ ((a || b) || c)
or_assoc true b c = refl
or_assoc false b c = refl
