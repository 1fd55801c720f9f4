use Rattle.std.specs.declared.option.Option.TheVariants.{None}
use Rattle.std.proofs.Common.{sym}
use Rattle.lock_table.proofs.Hashed.{page_has, page_puts}
use Rattle.lock_table.proofs.heads.PageHeads.put.Goals as goal

pub returns-clause-ok : goal.returns-clause-ok
returns-clause-ok c = page_puts c.self.inside.heads.entries c.insert.new.self.entries c.args.self.now c.args.page c.args.head c.in-Ok.ensures.updates.0 c.self.view_is

pub returns-in-Err-clause-absent : goal.returns-in-Err-clause-absent
returns-in-Err-clause-absent c = sym (page_has c.self.inside.heads.entries c.args.self.now c.args.page None (sym c.in-Err.ensures.absent) c.self.view_is)
