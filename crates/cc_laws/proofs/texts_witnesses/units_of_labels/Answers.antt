use Rattle.std.proofs.Common.{refl}
use Rattle.cc_heap.specs.ChartDrawing.{byte_unit}
use Rattle.cc_laws.proofs.texts_witnesses.units_of_labels.Goals as goal

pub returns-clause-bytes : goal.returns-clause-bytes
unfolding byte_unit
returns-clause-bytes c = refl

pub returns-clause-fewer_bytes : goal.returns-clause-fewer_bytes
unfolding byte_unit
returns-clause-fewer_bytes c = refl
