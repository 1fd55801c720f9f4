-- An acknowledgement.
use Rattle.std.proofs.Common.{◌≡◌, ◌<◌, ◌≤◌, ℕ, Bool, true, false, List, [], ◌∷◌, ◌++◌, refl, ap, sym, ◌∙◌, map, arith}
use Rattle.std.specs.Prelude.{nat_lt}
use Rattle.std.specs.Ordering.{nat_cmp}
use Rattle.std.specs.FinMap.{FinMap}
use Rattle.std.proofs.lemmas.Bool.Decides.{nat_tests}
use Rattle.tm_data.specs.declared.transaction.Page.{Page}
use Rattle.tm_data.specs.declared.transaction.Txn.{Txn}
use Rattle.tm_base.specs.declared.message.Message.{Message}
use Rattle.tm_base.specs.declared.message.Node.TheVariants.{LogStore}
use Rattle.page_model.specs.Pool.{Pool}
use Rattle.lease_desk.specs.Desk.{Leases, is_recalled}
use Rattle.lock_table.specs.Tags.{Tags}
use Rattle.log_writer.specs.Log.{Log, acked, durable_seq, is_marked, let_go}
use Rattle.log_writer.specs.TakenBack.{taken_back}
use Rattle.master_model.specs.declared.left.Left.{Left}
use Rattle.master_model.specs.State.{Effect, Work, durable}
use Rattle.master_model.specs.Acks.{ends_between, lets_go, on_ack, on_more, stable, to_stores, without_all}
use Rattle.master_model.specs.Leases.{recalled_pages, releases_all}
use Rattle.master_work.specs.Parts.{Timed}
use Rattle.master_acks.specs.declared.leaving.Leaving.{Leaving}
use Rattle.master_acks.specs.Inside.{cleared_each, cut_each, drawn_each, ended_off, gone_with, goes_with, left_each, planned, released_each, txns, without_each}
use Rattle.master_acks.proofs.EndLemmas.{each_without}
use Rattle.master_acks.proofs.ReleaseLemmas.{all_gone, leases_rise}

-- ---- more is durable

abbrev pub ended_by : Work → ℕ → List Txn
ended_by w old = txns (ends_between w.log old (durable w))

abbrev pub leaving_by : Work → List Txn → List Leaving
leaving_by w ts = planned (ended_off w ts) (recalled_pages w)

-- The effect, by the transactions that end and the pages that go.
abbrev pub more_by : Work → List Txn → List Leaving → Effect
more_by w ts ls = (gone_with (ended_off w ts) ls, to_stores (stable w) ++ map (goes_with w) ls)

pub more_is : (w : Work) (old : ℕ) → on_more w old true ≡ more_by w (ended_by w old) (leaving_by w (ended_by w old))
more_is w old =
    ap (λ (tags : Tags). closes (releases_all (recalled_pages w) (record w { tags = tags }))) (each_without (ends_between w.log old (durable w)) w.tags)
    ∙ ap closes (all_gone (ended_off w (ended_by w old)) (recalled_pages w) (leases_rise is_recalled w.leases))
  where
    closes : Effect → Effect
    closes x = (lets_go x.0, to_stores (stable w) ++ x.1)

pub more_made : (w : Work) (ts : List Txn) (ls : List Leaving) (said : List Message) (t : Timed) (a : Leases) (b : FinMap nat_cmp Left) (c : Pool) (d : Tags) (e : List Page) (ms : List Message)
    → t ≡ record { clock = w.clock; log = let_go w.log } → a ≡ released_each w.leases ls → b ≡ left_each w.left ls → c ≡ cleared_each w.pool ls → d ≡ cut_each (without_each w.tags ts) ls → e ≡ drawn_each w.stock ls → ms ≡ said
    → ◌≡◌ {A = Effect} (record w { clock = t.clock; log = t.log; leases = a; left = b; pool = c; tags = d; stock = e }, ms) (gone_with (ended_off w ts) ls, said)
more_made w ts ls said t a b c d e ms f g h j k l m = λ i. (record w { clock = (f i).clock; log = (f i).log; leases = g i; left = h i; pool = j i; tags = k i; stock = l i }, m i)

-- ---- an acknowledgement

abbrev pub noted : Work → ℕ → ℕ → Work
noted w store seq = record w { log = acked w.log store seq }

pub nothing_more : (w : Work) (store seq : ℕ) → durable (noted w store seq) ≤ durable w → on_ack w (LogStore store) seq ≡ (noted w store seq, [])
nothing_more w store seq same =
    let is : nat_lt (durable w) (durable (noted w store seq)) ≡ false = grind (arith, nat_tests) in
    ap (on_more (noted w store seq) (durable w)) is

pub something_more : (w : Work) (store seq : ℕ) → durable w < durable (noted w store seq) → on_ack w (LogStore store) seq ≡ on_more (noted w store seq) (durable w) true
something_more w store seq more =
    let is : nat_lt (durable w) (durable (noted w store seq)) ≡ true = grind (arith, nat_tests) in
    ap (on_more (noted w store seq) (durable w)) is

-- One that made more durable wasn't noted before, and is taken back whole.
pub taken_whole : (log : Log) (store seq : ℕ) → (is_marked log seq store ≡ false → taken_back (acked log store seq) store seq ≡ log) → (is_marked log seq store ≡ true → acked log store seq ≡ log)
    → durable_seq log < durable_seq (acked log store seq) → taken_back (acked log store seq) store seq ≡ log
taken_whole log store seq back again more = by (is_marked log seq store) refl
  where
    by : (b : Bool) → is_marked log seq store ≡ b → taken_back (acked log store seq) store seq ≡ log
    by true is = absurd (let same : durable_seq (acked log store seq) ≡ durable_seq log = ap (λ (l : Log). durable_seq l) (again is) in omega (arith, same, more))
    by false is = back is
