use Rattle.std.proofs.Common.{arith}
use Rattle.cc_io.proofs.DeviceLemmas.{appends_whole, whole_after, begun_after, keeps_appends}
use Rattle.cc_io.proofs.devices.write_all.Goals as goal

-- The first write takes all the bytes, or the other writes take the rest.
pub returns-then-count-bytes-clause-writes : goal.returns-then-count-bytes-clause-writes
returns-then-count-bytes-clause-writes g c =
    record { ok = appends_whole _ _ c.args.bytes.now c.in-Ok.count c.if-count-bytes.true c.in-Ok.ensures.takes; err = tt; fails = c.in-Ok.ensures.fails }

pub returns-in-Ok-write_rest-clause-writes : goal.returns-in-Ok-write_rest-clause-writes
returns-in-Ok-write_rest-clause-writes g c = record {
  ok = whole_after _ _ _ c.args.bytes.now c.in-Ok.count c.in-Ok.ensures.takes c.in-Ok-write_rest.ensures.ok;
  err = tt;
  fails = c.in-Ok-write_rest.ensures.fails;
}

pub returns-in-Err-write_rest-clause-writes : goal.returns-in-Err-write_rest-clause-writes
returns-in-Err-write_rest-clause-writes g c = record {
  ok = tt;
  err = begun_after _ _ _ c.args.bytes.now c.in-Ok.count c.in-Ok.ensures.count c.in-Ok.ensures.takes c.in-Err-write_rest.ensures.err;
  fails = c.in-Err-write_rest.ensures.fails;
}

pub returns-in-Err-clause-writes : goal.returns-in-Err-clause-writes
returns-in-Err-clause-writes g c =
    record { ok = tt; err = record { count = 0; within = omega arith; taken = keeps_appends _ _ c.in-Err.ensures.takes }; fails = c.in-Err.ensures.fails }
