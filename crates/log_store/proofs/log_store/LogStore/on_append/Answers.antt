use Rattle.log_store.proofs.AppendLemmas.{next_kept}
use Rattle.log_store.proofs.log_store.LogStore.on_append.Goals as goal

pub returns-clause-ok : goal.returns-clause-ok
returns-clause-ok c =
    next_kept c.self.inside.number c.self.inside.scalar c.self.inside.logs c.keep.new.self c.args.self.now c.args.from c.args.group.now c.in_ok-copy.field-0 c.in_ok-outputs-4.outputs c.is_sealed.result c.len_of-length.result
    c.self.view_is c.is_sealed.ensures c.if-is_sealed.false c.in_default.ensures c.if-seq-eq0.false c.len_of-length.ensures c.if-length-seq.false c.in_ok-outputs-4.ensures c.in_ok-copy.ensures c.in_ok-keep.ensures.ok
