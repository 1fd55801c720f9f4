use Rattle.std.proofs.Common.{◌≡◌, ◌-◌, ℕ, length, replicate, refl, ap, subst, arith, length-append}
use Rattle.std.proofs.lemmas.List.{length-replicate}
use Rattle.tm_disks.specs.MemoryDisk.{Content, Past, Padded}
use Rattle.tm_disks.proofs.PaddedLemmas.{padded_of, whole_more}
use Rattle.tm_disks.proofs.stored.Stored.reserve.Goals as goal

pub invariant_of-self-in_err-reserve : goal.invariant_of-self-in_err-reserve
invariant_of-self-in_err-reserve c =
    let h = c.self.inside in
    let more = replicate {A = ℕ} (c.args.size - length h.store.items) 0 in
    let store = c.in_ok-grow.ensures.ok in
    let long = ap length store in
    let room : c.reserve.new.self.room.size ≡ h.history.room.size = ap (λ (p : Past). p.room.size) c.in_err-reserve.ensures.err in
    whole_more (record { store = h.store.items; size = h.size }) (record { store = c.grow.new.store.items; size = h.size }) h.history c.reserve.new.self more
    c.self.invariant store refl (ap (λ (p : Past). p.changes) c.in_err-reserve.ensures.err)
    (omega (arith, room, c.self.invariant.room, long, length-append h.store.items more, length-replicate {A = ℕ} (c.args.size - length h.store.items) 0))

pub invariant_of-self-2 : goal.invariant_of-self-2
invariant_of-self-2 c =
    let h = c.self.inside in
    let more = replicate {A = ℕ} (c.args.size - length h.store.items) 0 in
    let store = c.in_ok-grow.ensures.ok in
    let long = ap length store in
    let room : c.reserve.new.self.room.size ≡ c.args.size = ap (λ (p : Past). p.room.size) c.in_ok-reserve.ensures.ok in
    whole_more (record { store = h.store.items; size = h.size }) (record { store = c.grow.new.store.items; size = h.size }) h.history c.reserve.new.self more
    c.self.invariant store refl (ap (λ (p : Past). p.changes) c.in_ok-reserve.ensures.ok)
    (omega (arith, room, c.self.invariant.room, long, length-append h.store.items more, length-replicate {A = ℕ} (c.args.size - length h.store.items) 0))

pub returns-in_err-reserve-clause-same : goal.returns-in_err-reserve-clause-same
returns-in_err-reserve-clause-same c =
    let h = c.self.inside in
    let d : Content = record { file = record { store = c.grow.new.store.items; size = h.size }; past = c.reserve.new.self } in
    subst (λ (x : Content). Padded x d) c.self.view_is
    (padded_of (record { file = record { store = h.store.items; size = h.size }; past = h.history }) d (replicate {A = ℕ} (c.args.size - length h.store.items) 0)
    c.in_ok-grow.ensures.ok refl (ap (λ (p : Past). p.changes) c.in_err-reserve.ensures.err))

pub returns-clause-same : goal.returns-clause-same
returns-clause-same c =
    let h = c.self.inside in
    let d : Content = record { file = record { store = c.grow.new.store.items; size = h.size }; past = c.reserve.new.self } in
    subst (λ (x : Content). Padded x d) c.self.view_is
    (padded_of (record { file = record { store = h.store.items; size = h.size }; past = h.history }) d (replicate {A = ℕ} (c.args.size - length h.store.items) 0)
    c.in_ok-grow.ensures.ok refl (ap (λ (p : Past). p.changes) c.in_ok-reserve.ensures.ok))
