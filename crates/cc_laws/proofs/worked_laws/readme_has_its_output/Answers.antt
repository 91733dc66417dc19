use Rattle.cc_laws.proofs.WorkedScriptLemmas.{with_swept, readme_has_output, readme_only}
use Rattle.cc_laws.proofs.worked_laws.readme_has_its_output.Goals as goal

pub returns-clause-output : goal.returns-clause-output
returns-clause-output c = (with_swept, readme_has_output)

pub returns-clause-only : goal.returns-clause-only
returns-clause-only c = readme_only
