-- What a delivery settles, the machine settles.
use Rattle.std.proofs.Common.{◌≡◌, ◌∙◌, ℕ, ◌+◌, ◌-◌, ◌≤◌, ◌<◌, List, [], ◌∷◌, ◌++◌, Bool, true, false, Some, None, refl, sym, ap, subst, arith, length, nat_le, nat_lt, nat_eq, cond, ◌&&◌, set}
use Rattle.std.specs.Prelude.{slice_get}
use Rattle.std.proofs.lemmas.Bool.Decides.{nat_tests}
use Rattle.std.specs.FinMap as fin
use Rattle.std.specs.FinMap.{get-empty}
use Rattle.std.specs.declared.option.Option.{Option}
use Rattle.tm_data.specs.declared.transaction.Txn.{Txn}
use Rattle.tm_data.specs.Orders.{txn_cmp, txn_cmp-total, txn_cmp-exact}
use Rattle.key_model.specs.State as machine
use Rattle.key_index.specs.declared.opened.Open.{Open}
use Rattle.key_model.specs.Steps.{with_settled, or_mapped, Run, Steps}
use Rattle.key_model.specs.After.{with_all, told}
use Rattle.key_model.specs.declared.step.MachineStep.{MachineStep}
use Rattle.net_world.specs.declared.message.PlainGroup.{PlainGroup}
use Rattle.net_world.specs.declared.message.PlainMessage.{PlainMessage}
use Rattle.net_world.specs.declared.message.PlainMessage.TheVariants.{Append, Ack}
use Rattle.net_world.specs.declared.session.PlainSession.{PlainSession}
use Rattle.net_world.specs.Log.{seq_of}
use Rattle.net_world.specs.Runs.{settlement}
use Rattle.net_world.specs.World.{State, txn_of, durable, front, settled, settles, takes, ended, ended_by, deliver, append_by, acknowledge}
use Rattle.net_world.proofs.AgreeLemmas.{one, Link, Alive, Rows, AtWork, Ended, Work, Busy, Phase, Agree, Follows, has_ended, takes_by}
use Rattle.net_world.proofs.FrontLemmas.{front_set}
use Rattle.net_world.proofs.MachineLemmas as lemmas
use Rattle.net_world.proofs.MapLemmas.{at_same, at_other, set_again, taken_away}

never : (d q : ℕ) → (nat_lt d q && nat_le q d) ≡ false
never d q = grind (arith, nat_tests)

-- Where nothing became durable, nothing is settled.
ended_same : (d : ℕ) (o : Option PlainSession) → ended d d o ≡ None
ended_same d None = refl
ended_same d (Some s) = by_ending s.ending
  where
    by_ending : (q : Option ℕ) → ended_by d d s q ≡ None
    by_ending None = refl
    by_ending (Some q) = ap (λ (b : Bool). cond b (Some s.txn) None) (never d q)

-- The machine stays, and so does what is durable.
keeps : (w : State) (sent : List PlainMessage) (stored : List PlainGroup) → Agree w
    → Follows w.machine (record w { sent = sent; stored = stored }) (settlement (ended (durable w) (durable w) w.session))
keeps w sent stored so = record {
  moves = subst (λ (o : Option Txn). Run w.machine (settlement o) w.machine) (sym (ended_same (durable w) w.session)) refl;
  agree = record { alive = so.alive; later = so.later; phase = so.phase };
  kept = λ t is. is;
}

module _ (link : Link) (w : State) (so : Agree w) (acks : List Bool) (more : durable w ≤ front acks) where
  Settles : Option PlainSession → Type 0
  Settles o = Follows w.machine (record w { acks = acks; machine = settles w.machine (ended (durable w) (front acks) o) }) (settlement (ended (durable w) (front acks) o))

  -- nothing is settled, and the session's transaction is as far as it was
  nothing : (o : Option PlainSession) → ended (durable w) (front acks) o ≡ None → Phase w.begun (front acks) w.rows w.machine w.session
      → Follows w.machine (record w { acks = acks; machine = settles w.machine (ended (durable w) (front acks) o) }) (settlement (ended (durable w) (front acks) o))
  nothing o none phase =
      subst (λ (t : Option Txn). Follows w.machine (record w { acks = acks; machine = settles w.machine t }) (settlement t)) (sym none)
      (record { moves = refl; agree = record { alive = so.alive; later = so.later; phase = phase }; kept = λ t is. is })

  busy : (s : PlainSession) → w.session ≡ Some s → Busy w.begun (durable w) w.rows w.machine s
  busy s e = subst (λ (o : Option PlainSession). Phase w.begun (durable w) w.rows w.machine o) e so.phase

  -- the session's transaction, with this much of its work done
  still : (s : PlainSession) → w.session ≡ Some s → (b : Bool) → has_ended (front acks) s.ending ≡ b → Work w.rows w.machine s.txn b → Phase w.begun (front acks) w.rows w.machine w.session
  still s e b is work =
      subst (λ (o : Option PlainSession). Phase w.begun (front acks) w.rows w.machine o) (sym e) (record {
        sessions = (busy s e).sessions;
        number = (busy s e).number;
        work = subst (λ (b : Bool). Work w.rows w.machine s.txn b) (sym is) work;
      })

  worked : (s : PlainSession) → w.session ≡ Some s → (b : Bool) → has_ended (durable w) s.ending ≡ b → Work w.rows w.machine s.txn b
  worked s e b is = subst (λ (b : Bool). Work w.rows w.machine s.txn b) is (busy s e).work

  -- the session's transaction is settled
  settles_one : (s : PlainSession) → w.session ≡ Some s → has_ended (durable w) s.ending ≡ false → has_ended (front acks) s.ending ≡ true
      → Follows w.machine (record w { acks = acks; machine = takes w.machine (settled s.txn) }) (settled s.txn ∷ [])
  settles_one s e before after =
      let at : AtWork w.rows w.machine s.txn = worked s e false before in
      let x = at.touched in
      let n : machine.State = record (with_settled w.machine s.txn true) { map = with_all w.machine.map (fin.entries at.touched.writes) } in
      let is = lemmas.settling w.machine so.alive s.txn at.touched (busy s e).sessions at.opened in
      let step : Steps w.machine (settled s.txn) n = (link w.machine (settled s.txn) n).1 is in
      let same : takes w.machine (settled s.txn) ≡ n = takes_by link w.machine (settled s.txn) n step in
      let enters = lemmas.entered w.machine so.alive s.txn at.touched (busy s e).sessions at.opened link in
      let opened : n.opened ≡ fin.empty = ap (λ (f : fin.FinMap txn_cmp Open). fin.remove f s.txn) at.opened ∙ taken_away txn_cmp-total txn_cmp-exact fin.empty s.txn at.touched (get-empty txn_cmp s.txn) in
      let done : Ended w.rows n s.txn = record {
        opened = opened;
        rows_are = λ k. at.rows_are k ∙ sym (enters.entered k);
        settled = at_same txn_cmp-total txn_cmp-exact w.machine.settled s.txn true;
      } in
      let new : State = record w { acks = acks; machine = n } in
      let agree : Agree new = record {
        alive = record { closed = so.alive.closed; dying = so.alive.dying };
        later = λ k above. at_other txn_cmp-total txn_cmp-exact w.machine.settled s.txn (txn_of k) true (λ clash. absurd (omega (arith, ap (λ (t : Txn). t.number) (clash ∙ (busy s e).number)))) ∙ so.later k above;
        phase = subst (λ (o : Option PlainSession). Phase w.begun (front acks) w.rows n o) (sym e) (record {
          sessions = (busy s e).sessions;
          number = (busy s e).number;
          work = subst (λ (b : Bool). Work w.rows n s.txn b) (sym after) done;
        });
      } in
      record {
        moves = (n, step, same);
        agree = subst (λ (m : machine.State). Agree (record w { acks = acks; machine = m })) (sym same) agree;
        kept = λ t is. ap (λ (m : machine.State). fin.get m.settled t) same ∙ set_again txn_cmp-total txn_cmp-exact w.machine.settled s.txn t true is;
      }

  by_tests : (s : PlainSession) (q : ℕ) → w.session ≡ Some s → s.ending ≡ Some q → (a b : Bool) → nat_lt (durable w) q ≡ a → nat_le q (front acks) ≡ b
      → Follows w.machine (record w { acks = acks; machine = settles w.machine (cond (a && b) (Some s.txn) None) }) (settlement (cond (a && b) (Some s.txn) None))
  by_tests s q e is true true above below =
      settles_one s e (ap (has_ended (durable w)) is ∙ grind (arith, nat_tests)) (ap (has_ended (front acks)) is ∙ below)
  by_tests s q e is true false above below =
      record {
        moves = refl;
        agree = record {
          alive = so.alive;
          later = so.later;
          phase =
              still s e false (ap (has_ended (front acks)) is ∙ below) (worked s e false (ap (has_ended (durable w)) is ∙ grind (arith, nat_tests)));
        };
        kept = λ t is. is;
      }
  by_tests s q e is false b above below =
      record {
        moves = refl;
        agree = record {
          alive = so.alive;
          later = so.later;
          phase =
              still s e true (ap (has_ended (front acks)) is ∙ grind (arith, nat_tests)) (worked s e true (ap (has_ended (durable w)) is ∙ grind (arith, nat_tests)));
        };
        kept = λ t is. is;
      }

  pub settles_all : (o : Option PlainSession) → w.session ≡ o
      → Follows w.machine (record w { acks = acks; machine = settles w.machine (ended (durable w) (front acks) o) }) (settlement (ended (durable w) (front acks) o))
  settles_all None e =
      record {
        moves = refl;
        agree = record {
          alive = so.alive;
          later = so.later;
          phase =
              subst (λ (o : Option PlainSession). Phase w.begun (front acks) w.rows w.machine o) (sym e)
              (subst (λ (o : Option PlainSession). Phase w.begun (durable w) w.rows w.machine o) e so.phase);
        };
        kept = λ t is. is;
      }
  settles_all (Some s) e = by_ending s.ending refl
    where
      by_ending : (q : Option ℕ) → s.ending ≡ q
          → Follows w.machine (record w { acks = acks; machine = settles w.machine (ended_by (durable w) (front acks) s q) }) (settlement (ended_by (durable w) (front acks) s q))
      by_ending None is =
          record {
            moves = refl;
            agree = record {
              alive = so.alive;
              later = so.later;
              phase =
                  still s e false (ap (has_ended (front acks)) is) (worked s e false (ap (has_ended (durable w)) is));
            };
            kept = λ t is. is;
          }
      by_ending (Some q) is = by_tests s q e is (nat_lt (durable w) q) (nat_le q (front acks)) refl refl

appends : (w : State) (g : PlainGroup) (a b : Bool) → Agree w → Follows w.machine (append_by w g a b) (settlement (ended (durable w) (durable (append_by w g a b)) w.session))
appends w g true b so = keeps w (w.sent ++ Ack (seq_of g) ∷ []) (w.stored ++ g ∷ []) so
appends w g false true so = keeps w (w.sent ++ Ack (seq_of g) ∷ []) w.stored so
appends w g false false so = keeps w w.sent w.stored so

pub delivers : Link → (w : State) (message : Option PlainMessage) → Agree w → Follows w.machine (deliver w message) (settlement (ended (durable w) (durable (deliver w message)) w.session))
delivers link w None so = keeps w w.sent w.stored so
delivers link w (Some (Append g)) so = appends w g _ _ so
delivers link w (Some (Ack q)) so = settles_all link w so (set w.acks (q - 1) true) (front_set w.acks (q - 1)) w.session refl
