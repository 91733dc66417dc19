use Rattle.cc_bounds.proofs.LawLemmas.{granule_law, exponent_law, granted_law, fields_law}
use Rattle.cc_laws.proofs.bounds_laws.every_request_is_encoded_once.Goals as goal

pub returns-clause-granule : goal.returns-clause-granule
returns-clause-granule c = granule_law

pub returns-clause-exponent : goal.returns-clause-exponent
returns-clause-exponent c = exponent_law

pub returns-clause-granted : goal.returns-clause-granted
returns-clause-granted c = granted_law

pub returns-clause-fields : goal.returns-clause-fields
returns-clause-fields c = fields_law
