-- A plan with an object, a usage of each plan, and the listing of a line that is not a word.
use Rattle.std.proofs.Common.{ℕ, zero, suc, true, ◌≡◌, [], ◌∷◌, ◌++◌, Option, Some, count_by, length, refl, inr, arith}
use Rattle.cc_io.specs.declared.format.Format.{Format}
use Rattle.cc_io.specs.declared.input_form.InputForm.TheVariants.{Lines}
use Rattle.cc_values.specs.declared.usage.Usage.{Usage}
use Rattle.cc_machine.specs.Planned.{plan_of}
use Rattle.std.specs.List.Sorted.{IsNonDecreasingBy}
use Rattle.std.proofs.lemmas.List.Sorted.{IsPermutation-refl}
use Rattle.cc_bounds.specs.declared.span.Span.{Span}
use Rattle.cc_bounds.specs.Span.{length_of}
use Rattle.cc_plan.specs.Plan.{Plan, plan_bytes, plan_spans, is_freed}
use Rattle.cc_draw.specs.Usage.{IsUsage, asked_bytes_of, largest_of, highest_top, holes, is_swept, pool_span}
use Rattle.cc_plan.specs.PlannerState.{is_live}
use Rattle.cc_decode.specs.declared.options.Search.{Search}
use Rattle.cc_decode.specs.declared.options.Tags.{Tags}
use Rattle.cc_decode.specs.Correct.{WritesListing}
use Rattle.cc_decode.specs.Input.{IsWordEntry}
use Rattle.cc_decode.specs.Output.{refused_text}
use Rattle.cc_decode.specs.Place.{header_of}
use Rattle.cc_laws.specs.DrawnObjects.{ArePlaced}
use Rattle.cc_laws.specs.Witnesses.{with_first_object}
use Rattle.cc_laws.proofs.PlacedLemmas.{are_placed}
use Rattle.cc_laws.proofs.WitnessLemmas.{reached}

pub placed : ArePlaced (pool_span (plan_of with_first_object)) (plan_of with_first_object).objects
placed = are_placed with_first_object reached

abbrev plan : Plan
plan = plan_of with_first_object

abbrev own : Usage
own = record {
  slots = 2;
  limit = plan.limit;
  made = length plan.objects;
  live = count_by (λ object. is_live object.state) plan.objects;
  quarantined = count_by (λ object. is_freed object.state) plan.objects;
  swept = count_by (λ object. is_swept object.state) plan.objects;
  asked = asked_bytes_of plan.objects;
  held = plan_bytes plan.objects;
  pool = length_of (pool_span plan);
  holes = length (holes (pool_span plan).base (pool_span plan).top (plan_spans plan.objects));
  largest = largest_of (holes (pool_span plan).base (pool_span plan).top (plan_spans plan.objects));
  end = highest_top plan.objects;
}

-- one span is in order
one-in-order : IsNonDecreasingBy (λ (span : Span). span.base) (plan_spans plan.objects)
one-in-order zero zero d le within = omega arith
one-in-order (suc i) zero d le within = absurd (omega (arith, le))
one-in-order i (suc j) d le within = absurd (omega (arith, within))

pub usage : (usage : Usage) × IsUsage 2 (plan_of with_first_object) usage
usage = (
  own,
  record {
    slots_is = refl;
    uses = record {
      limit = refl;
      made = refl;
      live = refl;
      quarantined = refl;
      swept = refl;
      asked = refl;
      held = refl;
      pool = refl;
      holes = record {
        order = plan_spans plan.objects;
        same = IsPermutation-refl (plan_spans plan.objects);
        in_order = one-in-order;
        count = refl;
        largest = refl;
      };
      end = refl;
    };
  },
)

not_word : ¬ IsWordEntry Lines (120 ∷ [])
not_word is = let count : 1 ≡ 32 = is.0 in absurd (omega (arith, count))

pub listing : (format : Format) (at : Option ℕ) (tags : Option Tags) (kind : Option Search) → WritesListing
    (record { input = Lines; format = format; at = at; tags = tags; search = kind }) (120 ∷ 10 ∷ []) (Some [])
    (Some (header_of (record { input = Lines; format = format; at = at; tags = tags; search = kind }) ++ (refused_text format kind ++ []) ++ [])) true
listing format at tags kind = record {
  answers = record { text = refused_text format kind; is_error = true } ∷ [];
  are_answers = (inr (not_word, refl, refl), _);
  ending = [];
  is_ending = refl;
  written = refl;
  error_is = refl;
}
