use Rattle.std.proofs.Common.{◌≡◌, ◌≤◌, ◌+◌, ◌++◌, ◌∙◌, ℕ, List, [], ◌∷◌, Option, Some, None, Ok, Err, ap, append_assoc, arith, codes, false, length, length-append, refl, rules, sym, true}
use Rattle.std.proofs.lemmas.Bool.{false≢true}
use Rattle.std.specs.Prelude.{◌↔◌, IsTrue}
use Rattle.cc_word.specs.declared.refusal.Refusal.{Refusal}
use Rattle.cc_io.specs.Text.{refusal_text}
use Rattle.cc_bounds.specs.declared.span.Span.{Span}
use Rattle.cc_bounds.specs.Granule.{IsGranted}
use Rattle.cc_values.specs.declared.reply.Reply.{Reply}
use Rattle.cc_values.specs.RoundedLength.{RoundsLength}
use Rattle.cc_io.specs.Text.{with_line_feed}
use Rattle.cc_syntax.specs.Replies.{bounds_text, reply_text}
use Rattle.cc_syntax.specs.Request.{request_from}
use Rattle.cli_words.specs.Rounding.{IsRoundingFrom, IsUnroundable}
use Rattle.cli_words.proofs.rounding.push_rounding.Goals as goal

-- The reply without a base.
rounded_alone : (base : Option ℕ) (size : ℕ) (reply : Reply) (out new : List ℕ) → base ≡ None → RoundsLength size reply → new ≡ out ++ with_line_feed (reply_text reply)
    → (text : List ℕ) × (new ≡ out ++ text) × IsRoundingFrom base size text × (IsTrue false ↔ IsUnroundable base (Ok size))
rounded_alone base size reply out new none rounds is =
    (with_line_feed (reply_text reply), is, rw none (reply, rounds, refl), (rw none (λ x. absurd (false≢true x)), rw none (λ x. absurd x)))

-- The reply for a request from a base.
rounded_at : (base : Option ℕ) (from size : ℕ) (request : Span) (reply : Reply) (granted : Span) (out new : List ℕ) → base ≡ Some from
    → request_from (Ok (from, size)) ≡ Ok request → RoundsLength size reply → IsGranted request granted
    → new ≡ out ++ with_line_feed (reply_text reply ++ codes " " ++ bounds_text granted)
    → (text : List ℕ) × (new ≡ out ++ text) × IsRoundingFrom base size text × (IsTrue false ↔ IsUnroundable base (Ok size))
rounded_at base from size request reply granted out new some told rounds is_granted is = (
  with_line_feed (reply_text reply ++ codes " " ++ bounds_text granted),
  is,
  rw (some, told) (reply, rounds, granted, is_granted, refl),
  (rw (some, told) (λ x. x), rw (some, told) (λ x. x)),
)

-- The line of the refusal of a request.
not_rounded : (base : Option ℕ) (from size : ℕ) (refusal : Refusal) (out new : List ℕ) → base ≡ Some from
    → request_from (Ok (from, size)) ≡ Err refusal → new ≡ out ++ with_line_feed (refusal_text refusal)
    → (text : List ℕ) × (new ≡ out ++ text) × IsRoundingFrom base size text × (IsTrue true ↔ IsUnroundable base (Ok size))
not_rounded base from size refusal out new some told is =
    (with_line_feed (refusal_text refusal), is, rw (some, told) refl, (rw (some, told) (λ x. refl), rw (some, told) (λ x. refl)))

joined : (out a b c d : List ℕ) → out ++ a ++ b ++ c ++ d ≡ out ++ (a ++ b ++ c ++ d)
joined out a b c d = simp append_assoc

pub returns-in-None : goal.returns-in-None
returns-in-None g c =
    rounded_alone c.args.base c.args.size c.rounded.result c.args.out.now c.push-in-None.new.self c.in-None.is c.rounded.ensures
    (rw (c.push-in-None.ensures, c.push.ensures, c.bytes.ensures.value, c.reply_line.ensures) (append_assoc c.args.out.now (reply_text c.rounded.result) (10 ∷ [])))

pub returns-in-Ok : goal.returns-in-Ok
returns-in-Ok g c =
    let given = c.push_granted.ensures.value in
    rounded_at c.args.base c.in-Some.base c.args.size c.in-Ok.request c.rounded-in-Ok.result given.0 c.args.out.now c.push-in-Ok-2.new.self c.in-Some.is
    (ap (λ (n : ℕ). request_from (Ok (c.in-Some.base, n))) (sym c.get.ensures.value) ∙ sym c.request_from.ensures.request ∙ c.in-Ok.is)
    c.rounded-in-Ok.ensures given.1
    (rw (c.push-in-Ok-2.ensures, given.2, c.push-in-Ok.ensures, c.bytes-in-Ok.ensures.value, c.reply_line-in-Ok.ensures)
    (joined c.args.out.now (reply_text c.rounded-in-Ok.result) (codes " ") (bounds_text given.0) (10 ∷ [])))

pub returns-in-Err : goal.returns-in-Err
returns-in-Err g c =
    not_rounded c.args.base c.in-Some.base c.args.size c.in-Err.refusal c.args.out.now c.push_refusal.new.page c.in-Some.is
    (ap (λ (n : ℕ). request_from (Ok (c.in-Some.base, n))) (sym c.get.ensures.value) ∙ sym c.request_from.ensures.request ∙ c.in-Err.is)
    c.push_refusal.ensures.value

-- ---- the room
pub push-requires : goal.push-requires
push-requires g c =
    let few : length c.bytes.result.now ≤ 192 = c.bytes.ensures.fits in
    let fits : length c.args.out.now + length c.bytes.result.now ≤ g.row.N = omega (arith, few, c.requires) in
    (search rules, fits)

pub push-requires-in-None : goal.push-requires-in-None
push-requires-in-None g c =
    let few : length c.bytes.result.now ≤ 192 = c.bytes.ensures.fits in
    let fits : length c.push.new.self + 1 ≤ g.row.N = omega (arith, few, ap length c.push.ensures, length-append c.args.out.now c.bytes.result.now, c.requires) in
    (search rules, fits)

pub push-requires-in-Ok : goal.push-requires-in-Ok
push-requires-in-Ok g c =
    let few : length c.bytes-in-Ok.result.now ≤ 192 = c.bytes-in-Ok.ensures.fits in
    let fits : length c.args.out.now + length c.bytes-in-Ok.result.now ≤ g.row.N = omega (arith, few, c.requires) in
    (search rules, fits)

pub push_granted-requires : goal.push_granted-requires
push_granted-requires g c =
    let few : length c.bytes-in-Ok.result.now ≤ 192 = c.bytes-in-Ok.ensures.fits in
    (search rules, (search rules, omega (arith, few, ap length c.push-in-Ok.ensures, length-append c.args.out.now c.bytes-in-Ok.result.now, c.requires)))

pub push-requires-in-Ok-2 : goal.push-requires-in-Ok-2
push-requires-in-Ok-2 g c =
    let few : length c.bytes-in-Ok.result.now ≤ 192 = c.bytes-in-Ok.ensures.fits in
    let fits : length c.push_granted.new.out + 1 ≤ g.row.N = omega (
      arith,
      few,
      ap length c.push-in-Ok.ensures,
      length-append c.args.out.now c.bytes-in-Ok.result.now,
      c.push_granted.ensures.fits,
      c.requires,
    ) in
    (search rules, fits)
