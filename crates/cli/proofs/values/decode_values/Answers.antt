use Rattle.clap.specs.Words.{found_of, rows_of}
use Rattle.cli.proofs.ChoiceLemmas.{reads}
use Rattle.cli.proofs.values.decode_values.Goals as goal

pub address_of-requires : goal.address_of-requires
address_of-requires c = (reads (rows_of (found_of c.args.matches.now)) c.requires).0

pub address_of-requires-2 : goal.address_of-requires-2
address_of-requires-2 c = (reads (rows_of (found_of c.args.matches.now)) c.requires).1

pub address_of-requires-3 : goal.address_of-requires-3
address_of-requires-3 c = (reads (rows_of (found_of c.args.matches.now)) c.requires).2
