use Rattle.clap.specs.Words.{found_of, rows_of}
use Rattle.cli.proofs.ChoiceLemmas.{reads}
use Rattle.cli.proofs.values.search_values.Goals as goal

pub address_of-requires : goal.address_of-requires
address_of-requires c = (reads (rows_of (found_of c.args.matches.now)) c.requires).3

pub permissions_of-requires : goal.permissions_of-requires
permissions_of-requires c = (reads (rows_of (found_of c.args.matches.now)) c.requires).4
