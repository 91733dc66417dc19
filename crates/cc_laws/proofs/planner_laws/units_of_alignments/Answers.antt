use Rattle.cc_placer.proofs.UnitLemmas.{IsUnit-unit_of, one-granule, one-padded, one_unit, sixteen-multiple}
use Rattle.cc_laws.proofs.planner_laws.units_of_alignments.Goals as goal

pub returns : goal.returns
returns c = record {
  exactly_one = one_unit;
  computed = IsUnit-unit_of;
  unit_of_one = one-granule;
  padded_for_one = one-padded;
  multiple_of_sixteen = sixteen-multiple;
}
