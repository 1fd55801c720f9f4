use Rattle.std.specs.FinMap as fin
use Rattle.master_writes.proofs.WriteLemmas.{has, lacks, noted_same, unnoted}
use Rattle.master_writes.proofs.writes.unnote.Goals as goal

pub returns-then-added : goal.returns-then-added
returns-then-added c was own at is now_is =
    unnoted was c.args.sessions.now c.take_written_back.new.self c.args.session own c.args.row.now at (lacks c.args.added (fin.contains_key own.written c.args.row.now) is c.if-added.true) now_is c.take_written_back.ensures

pub returns-else-added : goal.returns-else-added
returns-else-added c was own at is now_is =
    noted_same was c.args.sessions.now c.args.session own c.args.row.now at (has c.args.added (fin.contains_key own.written c.args.row.now) is c.if-added.false) now_is
