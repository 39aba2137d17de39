use Rattle.std.proofs.Common.{arith, rules}
use Rattle.cmd_buffer.proofs.AliasReads.{is_read, newest_used}
use Rattle.cmd_buffer.proofs.aliases.record_at.Goals as goal

pub zone_bytes-bytes-requires : goal.zone_bytes-bytes-requires
zone_bytes-bytes-requires g c = newest_used _ c.args.place c.requires.holds

pub u32_at-requires : goal.u32_at-requires
u32_at-requires g c = let read = is_read _ c.args.place _ c.requires.holds c.zone_bytes-bytes.ensures.shows in omega (arith, read.long)

pub slice_bounds-before_zero-end : goal.slice_bounds-before_zero-end
slice_bounds-before_zero-end g c = let read = is_read _ c.args.place _ c.requires.holds c.zone_bytes-bytes.ensures.shows in let long = read.long in search rules

pub u32_at-requires-2 : goal.u32_at-requires-2
u32_at-requires-2 g c = let read = is_read _ c.args.place _ c.requires.holds c.zone_bytes-bytes.ensures.shows in omega (arith, read.long)

pub returns-clause-first : goal.returns-clause-first
returns-clause-first g c = let read = is_read _ c.args.place _ c.requires.holds c.zone_bytes-bytes.ensures.shows in rw (c.place_in.ensures, c.u32_at.ensures, c.before_zero.ensures.value, c.u32_at-2.ensures) read.first

pub returns-clause-holds : goal.returns-clause-holds
returns-clause-holds g c = let read = is_read _ c.args.place _ c.requires.holds c.zone_bytes-bytes.ensures.shows in rw (c.place_in.ensures, c.u32_at.ensures) read.holds

pub returns-clause-value : goal.returns-clause-value
returns-clause-value g c = let read = is_read _ c.args.place _ c.requires.holds c.zone_bytes-bytes.ensures.shows in rw c.u32_at-2.ensures read.value
