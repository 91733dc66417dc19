use Rattle.std.proofs.Common.{sym}
use Rattle.std.proofs.lemmas.List.Sorted.{sum_by-IsPermutation}
use Rattle.cc_placer.proofs.SameSpansLemmas.{no_place_along, permutation_from_sums, placement_along}
use Rattle.cc_laws.proofs.planner_laws.order_of_held_spans_says_nothing.Goals as goal

pub returns : goal.returns
returns c = record {
  sums = λ spans others. (
    λ same weight. sym (sum_by-IsPermutation weight spans others same),
    λ same.
        permutation_from_sums spans others same,
  );
  placement = placement_along;
  no_place = no_place_along;
}
