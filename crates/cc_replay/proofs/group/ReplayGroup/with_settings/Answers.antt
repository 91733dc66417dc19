use Rattle.std.proofs.Common.{◌≡◌, ◌∙◌, List, [], ◌∷◌, ◌++◌, ap, append_assoc, arith, length, length-append, map, sym}
use Rattle.cc_heap.specs.declared.policy.Policy.{Policy}
use Rattle.cc_replay.specs.Group.{begun_with}
use Rattle.cc_replay.specs.Replay.{ReplayState}
use Rattle.cc_replay.proofs.group.ReplayGroup.with_settings.Goals as goal

pub policies-preserved : goal.policies-preserved
policies-preserved g c =
    let before : List ReplayState = c.policies.replays.items in
    let policy = c.in-Some.policy.now in
    let after = c.in-Some.after.now in
    let rest : c.policies.rest.now ≡ policy ∷ after = c.in-Some.ensures.cases.0 in
    let begin : Policy → ReplayState = begun_with c.args.settings c.args.reading in
    let pushed : c.push-in-Some.new.self.items ≡ before ++ begin policy ∷ [] =
    c.in_ok-push-2.ensures.items ∙ ap (λ (s : ReplayState). before ++ s ∷ []) c.in_ok-with_settings-2.ensures in
    record {
      made = ap (λ (l : List ReplayState). l ++ map begin after) pushed ∙ append_assoc before (begin policy ∷ []) (map begin after)
          ∙ ap (λ (l : List Policy). before ++ map begin l) (sym rest) ∙ c.policies.invariant.made;
      few = omega (arith, ap length rest, ap length pushed, length-append before (begin policy ∷ []), c.policies.invariant.few);
    }
