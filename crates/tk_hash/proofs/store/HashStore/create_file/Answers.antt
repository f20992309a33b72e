use Rattle.std.proofs.Common.{[]}
use Rattle.tk_hash.proofs.HashOpens.{fresh_log}
use Rattle.tk_hash.proofs.store.HashStore.create_file.Goals as goal

pub of_log-requires : goal.of_log-requires
of_log-requires g c = record {
  buffer = c.in-Ok.ensures.buffer;
  whole = ([], fresh_log g.D.Disk.image g.D.Disk.may_leave g.D.Disk.past c.write_empty.new.disk (g.D.Disk.image c.args.disk) c.of-log.result c.args.p c.in-Ok.heads.items c.in-Ok.ensures.heads c.requires.p c.of-log.ensures.disk c.of-log.ensures.head c.of-log.ensures.end c.write_empty.ensures.told c.in-Ok-write_empty.ensures.written);
}

pub returns-in-Ok-write_empty-clause-opened : goal.returns-in-Ok-write_empty-clause-opened
returns-in-Ok-write_empty-clause-opened g c =
    c.of_log.ensures.stands []
    (fresh_log g.D.Disk.image g.D.Disk.may_leave g.D.Disk.past c.write_empty.new.disk (g.D.Disk.image c.args.disk) c.of-log.result c.args.p c.in-Ok.heads.items c.in-Ok.ensures.heads c.requires.p c.of-log.ensures.disk c.of-log.ensures.head c.of-log.ensures.end c.write_empty.ensures.told c.in-Ok-write_empty.ensures.written)
