-- Each reply comes exactly where its cause holds.
use Rattle.std.proofs.Common.{◌≡◌, ◌∙◌, ◌↔◌, ℕ, ◌-◌, ◌≤◌, List, Bool, Some, None, refl, sym, ap, subst}
use Rattle.std.specs.FinMap as fin
use Rattle.std.specs.declared.option.Option.{Option}
use Rattle.tm_data.specs.declared.transaction.Txn.{Txn}
use Rattle.tm_base.specs.declared.reply.Reply.{Reply}
use Rattle.key_model.specs.State as machine
use Rattle.key_index.specs.declared.opened.Open.{Open}
use Rattle.key_model.specs.Steps.{seen, row_of}
use Rattle.net_world.specs.declared.session.PlainSession.{PlainSession}
use Rattle.net_world.specs.declared.step.PlainOutcome.TheVariants.{Fine, Answer}
use Rattle.net_world.specs.declared.step.PlainStep.{PlainStep}
use Rattle.net_world.specs.declared.step.PlainStep.TheVariants.{Begin, Get, Put, Commit, Deliver}
use Rattle.net_world.specs.Causes.{IsOpen, IsEnding, Sees, Cause, CauseOfBegin, CauseOfGet, CauseOfPut, CauseOfCommit}
use Rattle.net_world.specs.Claims.{RepliesHaveTheirCauses}
use Rattle.net_world.specs.Runs.{run}
use Rattle.net_world.specs.World.{State, first, stepped, begin, read, put, commit}
use Rattle.net_world.proofs.AgreeLemmas.{Link, Agree, AtWork}
use Rattle.net_world.proofs.CausesHold.{begin_cause, get_cause, put_cause, commit_cause}
use Rattle.net_world.proofs.CausesTell.{begin_tells, get_tells, put_tells, commit_tells}
use Rattle.net_world.proofs.LogRuns.{SessionLogged, EndLogged, Logged, run_logged, first_logged}
use Rattle.net_world.proofs.MachineLemmas.{is_open}
use Rattle.net_world.proofs.MachineRuns.{run_follows, first_agrees}
use Rattle.net_world.proofs.ReplyLemmas.{working, open_sessions}

module _ (link : Link) (w : State) (so : Agree w) (log : Logged w) where
  -- what the session's transaction has open in the machine
  opened : (s : PlainSession) (e : w.session ≡ Some s) (is : s.ending ≡ None) → fin.get w.machine.opened s.txn ≡ Some (working link w so s e is).touched
  opened s e is = is_open w.machine so.alive s.txn (working link w so s e is).touched (open_sessions link w so s e) (working link w so s e is).opened

  sees : (s : PlainSession) → w.session ≡ Some s → s.ending ≡ None → (table : ℕ) (key : List ℕ) → Sees w.machine s.txn (row_of table key) (fin.get w.rows (row_of table key))
  sees s e is table key = ((working link w so s e is).touched, opened s e is, (working link w so s e is).rows_are (row_of table key))

  seen_alone : (t : Txn) → IsOpen w t → (table : ℕ) (key : List ℕ) (x : Option (List ℕ)) → Sees w.machine t (row_of table key) x → fin.get w.rows (row_of table key) ≡ x
  seen_alone t e table key x h =
      let s : PlainSession = record { txn = t; ending = None } in
      let mine = opened (record { txn = t; ending = None }) e refl in
      let theirs = h.1 in
      let same : (working link w so (record { txn = t; ending = None }) e refl).touched ≡ h.0 = cc in
      (working link w so (record { txn = t; ending = None }) e refl).rows_are (row_of table key)
      ∙ ap (λ (o : Open). seen w.machine o (row_of table key)) same ∙ sym h.2

  one_at_least : (s : PlainSession) (q : ℕ) → w.session ≡ Some s → s.ending ≡ Some q → 1 ≤ q
  one_at_least s q e is =
      (subst (λ (q : Option ℕ). EndLogged w.sent s.txn q) is (subst (λ (o : Option PlainSession). SessionLogged w.sent o) e log.session)).least

  same_reply : (r q : Reply) → Answer r ≡ Answer q → r ≡ q
  same_reply r q e = cc

  pub both : (step : PlainStep) (r : Reply) → ((stepped w step).1 ≡ Answer r) ↔ Cause w step r
  both Begin r = (
    (λ e. subst (λ (r : Reply). CauseOfBegin w r) (same_reply _ r e) (begin_cause w w.session refl)),
    (λ h. ap (λ (r : Reply). Answer r) (begin_tells w r h)),
  )
  both (Get table key) r = (
    (λ e. subst (λ (r : Reply). CauseOfGet w table key r) (same_reply _ r e) (get_cause w sees table key w.session refl)),
    (λ h. ap (λ (r : Reply). Answer r) (get_tells w seen_alone table key r h)),
  )
  both (Put table key value) r = (
    (λ e. subst (λ (r : Reply). CauseOfPut w table key value r) (same_reply _ r e) (put_cause w table key value w.session refl)),
    (λ h. ap (λ (r : Reply). Answer r) (put_tells w table key value r h)),
  )
  both Commit r = (
    (λ e. subst (λ (r : Reply). CauseOfCommit w r) (same_reply _ r e) (commit_cause w one_at_least w.session refl)),
    (λ h. ap (λ (r : Reply). Answer r) (commit_tells w (λ t q e. one_at_least (record { txn = t; ending = Some q }) q e refl) r h)),
  )
  both (Deliver n) r = ((λ e. absurd (cc)), (λ h. absurd h))

pub causes : Link → (steps : List PlainStep) → RepliesHaveTheirCauses steps
causes link steps = both link (run first steps) (run_follows link first steps first_agrees).agree (run_logged first steps first_logged)
