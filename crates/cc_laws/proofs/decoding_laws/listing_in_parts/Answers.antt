use Rattle.cc_laws.proofs.ListingPartLemmas.{rows_in_parts, listing_rows, line_feed_ends, blocks_end}
use Rattle.cc_laws.proofs.decoding_laws.listing_in_parts.Goals as goal

pub returns-clause-rows : goal.returns-clause-rows
returns-clause-rows c = listing_rows

pub returns-clause-parts : goal.returns-clause-parts
returns-clause-parts c = rows_in_parts

pub returns-clause-line_feed : goal.returns-clause-line_feed
returns-clause-line_feed c = line_feed_ends

pub returns-clause-blocks : goal.returns-clause-blocks
returns-clause-blocks c = blocks_end
