use Rattle.cc_bounds.proofs.KeptBoundsLemmas.{kept_in_window, kept_large, shared_everywhere}
use Rattle.cc_laws.proofs.bounds_laws.representable_addresses_keep_bounds.Goals as goal

pub returns-clause-window : goal.returns-clause-window
returns-clause-window c = kept_in_window

pub returns-clause-large : goal.returns-clause-large
returns-clause-large c = kept_large

pub returns-clause-every_address : goal.returns-clause-every_address
returns-clause-every_address c = shared_everywhere
