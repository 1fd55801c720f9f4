-- The machine follows every run of the world.
use Rattle.std.proofs.Common.{◌≡◌, ◌-◌, ℕ, List, [], ◌∷◌, ◌++◌, refl, subst}
use Rattle.std.specs.Prelude.{slice_get}
use Rattle.std.specs.FinMap as fin
use Rattle.std.specs.FinMap.{get-empty}
use Rattle.tm_data.specs.Orders.{txn_cmp}
use Rattle.key_model.specs.State as machine
use Rattle.key_model.specs.Steps.{Run}
use Rattle.key_model.specs.declared.step.MachineStep.{MachineStep}
use Rattle.net_world.specs.declared.step.PlainStep.{PlainStep}
use Rattle.net_world.specs.declared.step.PlainStep.TheVariants.{Begin, Get, Put, Commit, Deliver}
use Rattle.net_world.specs.Claims.{RepliesAreTheMachines}
use Rattle.net_world.specs.Runs.{run, past, past_of}
use Rattle.net_world.specs.World.{State, first, stepped, txn_of}
use Rattle.net_world.proofs.AgreeLemmas.{Link, Agree, Follows}
use Rattle.net_world.proofs.ReplyLemmas.{begin_gives, get_gives, put_gives, commit_gives}
use Rattle.net_world.proofs.SettleLemmas.{delivers}

pub step_follows : Link → (w : State) (s : PlainStep) → Agree w → Follows w.machine (stepped w s).0 (past_of w s)
step_follows link w Begin so = begin_gives link w so w.session refl
step_follows link w (Get table key) so = get_gives link w so table key w.session refl
step_follows link w (Put table key value) so = put_gives link w so table key value w.session refl
step_follows link w Commit so = commit_gives link w so w.session refl
step_follows link w (Deliver n) so = delivers link w (slice_get w.sent (n - 1)) so

Run-append : (a b c : machine.State) (xs ys : List MachineStep) → Run a xs b → Run b ys c → Run a (xs ++ ys) c
Run-append a b c [] ys p q = subst (λ (x : machine.State). Run x ys c) p q
Run-append a b c (x ∷ xs) ys p q = (p.0, p.1, Run-append p.0 b c xs ys p.2 q)

pub run_follows : Link → (w : State) (steps : List PlainStep) → Agree w → Follows w.machine (run w steps) (past w steps)
run_follows link w [] so = record { moves = refl; agree = so; kept = λ t is. is }
run_follows link w (s ∷ steps) so =
    let here = step_follows link w s so in
    let rest = run_follows link (stepped w s).0 steps here.agree in
    record {
      moves = Run-append w.machine (stepped w s).0.machine (run (stepped w s).0 steps).machine (past_of w s) (past (stepped w s).0 steps) here.moves rest.moves;
      agree = rest.agree;
      kept = λ t is. rest.kept t (here.kept t is);
    }

pub first_agrees : Agree first
first_agrees = record {
  alive = record { closed = refl; dying = refl };
  later = λ n above. get-empty txn_cmp (txn_of n);
  phase = record { sessions = refl; opened = refl; rows_are = λ k. refl };
}

pub machine_runs : Link → (steps : List PlainStep) → RepliesAreTheMachines steps
machine_runs link steps = (run_follows link first steps first_agrees).moves
