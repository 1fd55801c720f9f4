use Rattle.std.proofs.Common.{◌∙◌, ap}
use Rattle.tm_data.specs.Orders.{row_cmp, txn_cmp}
use Rattle.key_model.specs.State.{dying_cmp}
use Rattle.key_model.specs.Inside.{valued, there}
use Rattle.key_model.proofs.PlaceLemmas.{valued-empty, there-empty}
use Rattle.key_model.proofs.machine.Machine.new.Goals as goal

pub returns : goal.returns
returns c = λ i. record {
  map = (ap valued c.new.ensures ∙ valued-empty row_cmp) i;
  opened = c.new-2.ensures i;
  dying = (ap there c.new-3.ensures ∙ there-empty _ dying_cmp) i;
  settled = (ap valued c.new-4.ensures ∙ valued-empty txn_cmp) i;
  sessions = c.new-5.ensures i;
  closed = c.new-6.ensures i;
  recovered = c.new-7.ensures i;
}
