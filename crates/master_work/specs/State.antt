-- A writer's state as contracts see it.
use Rattle.std.specs.Prelude.{ℕ, Bool, List, refl}
use Rattle.std.specs.Ordering.{nat_cmp}
use Rattle.std.specs.Coded.{Coded, code_by, coded×, coded_ℕ, coded_bool, coded_list}
use Rattle.std.specs.FinMap.{FinMap}
use Rattle.std.specs.FinMap as fin
use Rattle.std.specs.FinSet.{FinSet}
use Rattle.std.specs.FinSet as sets
use Rattle.tm_data.specs.Orders.{coded_txn, txn_cmp}
use Rattle.tm_data.specs.declared.transaction.Page.{Page}
use Rattle.tm_data.specs.contracts.transaction.Page as page_type
use Rattle.page_model.specs.Pool.{Pool}
use Rattle.buffer_pool.specs.contracts.pool.Pool as pool_type
use Rattle.vs_clock.specs.State as clock
use Rattle.vs_clock.specs.contracts.clock.Clock as clock_type
use Rattle.log_writer.specs.Log.{Log}
use Rattle.log_writer.specs.contracts.log_writer.LogWriter as log_type
use Rattle.lease_desk.specs.Desk.{Leases, coded_leases}
use Rattle.lock_table.specs.Tags.{Tags, coded_tags}
use Rattle.master_model.specs.declared.left.Left.{Left}
use Rattle.master_model.specs.contracts.left.Left as left_type
use Rattle.master_model.specs.declared.session.Own.{Own}
use Rattle.master_model.specs.State.{Work}
use Rattle.master_work.specs.Parts.{coded_owns}

abbrev Told : Type 0
Told = FinSet txn_cmp

-- By its fields, in order.
abbrev Fields : Type 0
Fields = ℕ × (ℕ × (clock.State × (Log × (Leases × (FinMap nat_cmp Left × (Pool × (Tags × (ℕ × (FinMap nat_cmp Own × (Told × (Told × (List Page × (ℕ × Bool)))))))))))))

abbrev pub coded_work : Coded Work
coded_work =
    code_by Fields
    (coded× coded_ℕ (coded× coded_ℕ (coded× clock_type.the_row.coded (coded× log_type.the_row.coded (coded× coded_leases (coded× (fin.code coded_ℕ left_type.the_row.coded) (coded× pool_type.the_row.coded (coded× coded_tags
    (coded× coded_ℕ (coded× coded_owns (coded× (sets.code coded_txn) (coded× (sets.code coded_txn) (coded× (coded_list page_type.the_row.coded) (coded× coded_ℕ coded_bool))))))))))))))
    (λ w. (w.number, (w.stores, (w.clock, (w.log, (w.leases, (w.left, (w.pool, (w.tags, (w.begun, (w.sessions, (w.ended, (w.told_open, (w.stock, (w.fresh, w.spent)))))))))))))))
    (λ p. record {
      number = p.0;
      stores = p.1.0;
      clock = p.1.1.0;
      log = p.1.1.1.0;
      leases = p.1.1.1.1.0;
      left = p.1.1.1.1.1.0;
      pool = p.1.1.1.1.1.1.0;
      tags = p.1.1.1.1.1.1.1.0;
      begun = p.1.1.1.1.1.1.1.1.0;
      sessions = p.1.1.1.1.1.1.1.1.1.0;
      ended = p.1.1.1.1.1.1.1.1.1.1.0;
      told_open = p.1.1.1.1.1.1.1.1.1.1.1.0;
      stock = p.1.1.1.1.1.1.1.1.1.1.1.1.0;
      fresh = p.1.1.1.1.1.1.1.1.1.1.1.1.1.0;
      spent = p.1.1.1.1.1.1.1.1.1.1.1.1.1.1;
    })
    (λ _. refl)
