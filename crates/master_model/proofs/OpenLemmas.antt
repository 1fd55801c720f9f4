-- Which own transactions are open, by the sessions, and what has ended.
use Rattle.std.proofs.Common.{◌≡◌, ◌≤◌, ℕ, Bool, true, false, List, [], ◌∷◌, Some, refl, ap, sym, ◌∙◌, cond, arith}
use Rattle.std.specs.Prelude.{T, nat_eq, nat_le, not, ◌&&◌, ◌||◌}
use Rattle.std.specs.List.{list_any}
use Rattle.std.specs.Ordering.{nat_cmp, eq_by_cmp, is_lt}
use Rattle.std.specs.FinMap as fin
use Rattle.std.specs.FinMap.Entries.{below_all, find, is_sorted}
use Rattle.std.proofs.lemmas.Bool.Decides.{nat_tests}
use Rattle.master_model.specs.declared.session.Own.{Own}
use Rattle.master_model.specs.State.{Work, durable}
use Rattle.master_model.specs.Fates.{has_ended, is_open, is_open_in, is_over}
use Rattle.master_model.specs.Facts.{Sessions}

-- ---- entries

in_entries : (test : Own → Bool) (session : ℕ) (own : Own) (es : List (ℕ × Own)) → find nat_cmp session es ≡ Some own → test own ≡ true → list_any (λ (e : ℕ × Own). test e.1) es ≡ true
in_entries test session own [] is passes = absurd (cc is)
in_entries test session own (e ∷ es) is passes = by (eq_by_cmp nat_cmp session e.0) is (λ k. in_entries test session own es k passes)
  where
    or_right : (a b : Bool) → b ≡ true → (a || b) ≡ true
    or_right true b k = refl
    or_right false b k = k

    or_left : (a b : Bool) → a ≡ true → (a || b) ≡ true
    or_left true b k = refl
    or_left false b k = absurd (cc k)

    by : (b : Bool) → cond b (Some e.1) (find nat_cmp session es) ≡ Some own → (find nat_cmp session es ≡ Some own → list_any (λ (e : ℕ × Own). test e.1) es ≡ true) → list_any (λ (e : ℕ × Own). test e.1) (e ∷ es) ≡ true
    by true k rest = let one : e.1 ≡ own = cc k in or_left (test e.1) _ (ap test one ∙ passes)
    by false k rest = or_right (test e.1) (list_any (λ (e : ℕ × Own). test e.1) es) (rest k)

both_true : (a b : Bool) → T (a && b) → (a ≡ true) × T b
both_true true b h = (refl, h)
both_true false b h = absurd h

above : (x y : ℕ) → is_lt (nat_cmp x y) ≡ true → eq_by_cmp nat_cmp y x ≡ false
above x y is = grind (arith, nat_tests)

same_key : (x y : ℕ) → eq_by_cmp nat_cmp x y ≡ true → x ≡ y
same_key x y is = grind (arith, nat_tests)

itself : (x : ℕ) → eq_by_cmp nat_cmp x x ≡ true
itself x = grind (arith, nat_tests)

-- What is found among entries above a key has another key.
apart : (x k : ℕ) (own : Own) (es : List (ℕ × Own)) → T (below_all nat_cmp x es) → find nat_cmp k es ≡ Some own → eq_by_cmp nat_cmp k x ≡ false
apart x k own [] h is = absurd (cc is)
apart x k own (e ∷ es) h is = let two = both_true (is_lt (nat_cmp x e.0)) (below_all nat_cmp x es) h in by (eq_by_cmp nat_cmp k e.0) refl is (apart x k own es two.1) two.0
  where
    by : (b : Bool) → eq_by_cmp nat_cmp k e.0 ≡ b → cond b (Some e.1) (find nat_cmp k es) ≡ Some own → (find nat_cmp k es ≡ Some own → eq_by_cmp nat_cmp k x ≡ false) → is_lt (nat_cmp x e.0) ≡ true → eq_by_cmp nat_cmp k x ≡ false
    by true same f rest less = ap (λ (n : ℕ). eq_by_cmp nat_cmp n x) (same_key k e.0 same) ∙ above x e.0 less
    by false same f rest less = rest f

-- One of the entries that passes a test.
record Passes (test : Own → Bool) (es : List (ℕ × Own)) : Type 0 where
  session : ℕ
  own : Own
  there : find nat_cmp session es ≡ Some own
  passes : test own ≡ true

one_passes : (test : Own → Bool) (es : List (ℕ × Own)) → T (is_sorted nat_cmp es) → list_any (λ (e : ℕ × Own). test e.1) es ≡ true → Passes test es
one_passes test [] h is = absurd (cc is)
one_passes test (e ∷ es) h is = let two = both_true (below_all nat_cmp e.0 es) (is_sorted nat_cmp es) h in by (test e.1) refl is (one_passes test es two.1) (ap_t (below_all nat_cmp e.0 es) two.0)
  where
    ap_t : (b : Bool) → b ≡ true → T b
    ap_t true k = tt
    ap_t false k = absurd (cc k)

    by : (b : Bool) → test e.1 ≡ b → (b || list_any (λ (e : ℕ × Own). test e.1) es) ≡ true → (list_any (λ (e : ℕ × Own). test e.1) es ≡ true → Passes test es) → T (below_all nat_cmp e.0 es) → Passes test (e ∷ es)
    by true at k rest below = record { session = e.0; own = e.1; there = ap (λ (b : Bool). cond b (Some e.1) (find nat_cmp e.0 es)) (itself e.0); passes = at }
    by false at k rest below =
        let found = rest k in
        record {
          session = found.session;
          own = found.own;
          there = ap (λ (b : Bool). cond b (Some e.1) (find nat_cmp found.session es)) (apart e.0 found.session found.own es below found.there) ∙ found.there;
          passes = found.passes;
        }

-- ---- sessions

-- A session has the transaction of a number, which isn't over.
pub record OpenIn (sessions : Sessions) (most number : ℕ) : Type 0 where
  pub session : ℕ
  pub own : Own
  pub there : fin.get sessions session ≡ Some own
  pub same : own.number ≡ number
  pub goes_on : is_over most own.progress ≡ false

both_is : (a b : Bool) → a ≡ true → b ≡ false → (a && not b) ≡ true
both_is true false k l = refl
both_is true true k l = absurd (cc l)
both_is false b k l = absurd (cc k)

same_number : (n : ℕ) → nat_eq n n ≡ true
same_number n = grind (arith, nat_tests)

-- A session's transaction that isn't over is open.
pub session_open : (w : Work) (session : ℕ) (own : Own) → fin.get w.sessions session ≡ Some own → is_over (durable w) own.progress ≡ false → is_open w own.number ≡ true
session_open w session own is not_over =
    in_entries (is_open_in (durable w) own.number) session own (fin.entries w.sessions) (sym (fin.get-entries w.sessions session) ∙ is) (both_is (nat_eq own.number own.number) (is_over (durable w) own.progress) (same_number own.number) not_over)

pub open_in_is : (w : Work) (number : ℕ) → OpenIn w.sessions (durable w) number → is_open w number ≡ true
open_in_is w number o = ap (λ (n : ℕ). is_open w n) (sym o.same) ∙ session_open w o.session o.own o.there o.goes_on

-- What is open is of a session.
pub open_is_in : (w : Work) (number : ℕ) → is_open w number ≡ true → OpenIn w.sessions (durable w) number
open_is_in w number is = of (one_passes (is_open_in (durable w) number) (fin.entries w.sessions) (fin.entries_sorted w.sessions) is)
  where
    parts : (n : ℕ) (b : Bool) → (nat_eq n number && not b) ≡ true → (n ≡ number) × (b ≡ false)
    parts n b h = by (nat_eq n number) b refl h
      where
        by : (a b : Bool) → nat_eq n number ≡ a → (a && not b) ≡ true → (n ≡ number) × (b ≡ false)
        by true false at k = (grind (arith, nat_tests), refl)
        by true true at k = absurd (cc k)
        by false b at k = absurd (cc k)

    of : Passes (is_open_in (durable w) number) (fin.entries w.sessions) → OpenIn w.sessions (durable w) number
    of p = let two = parts p.own.number (is_over (durable w) p.own.progress) p.passes in record { session = p.session; own = p.own; there = fin.get-entries w.sessions p.session ∙ p.there; same = two.0; goes_on = two.1 }

-- ---- what has ended

-- One that hasn't ended is open, where it was begun.
pub unended_open : (w : Work) (number : ℕ) → has_ended w number ≡ false → 1 ≤ number → number ≤ w.begun → is_open w number ≡ true
unended_open w number is from most = by (nat_le 1 number) (nat_le number w.begun) (is_open w number) refl refl refl is
  where
    by : (a b c : Bool) → nat_le 1 number ≡ a → nat_le number w.begun ≡ b → is_open w number ≡ c → (a && b && not c) ≡ false → is_open w number ≡ true
    by true true true x y z k = z
    by true true false x y z k = absurd (cc k)
    by true false c x y z k = absurd (let h : nat_le number w.begun ≡ true = grind (arith, nat_tests) in cc (h, y))
    by false b c x y z k = absurd (let h : nat_le 1 number ≡ true = grind (arith, nat_tests) in cc (h, x))

-- What is open where it was begun hasn't ended.
pub open_unended : (w : Work) (number : ℕ) → (1 ≤ number → number ≤ w.begun → is_open w number ≡ true) → has_ended w number ≡ false
open_unended w number h = by (nat_le 1 number) (nat_le number w.begun) (is_open w number) refl refl refl
  where
    by : (a b c : Bool) → nat_le 1 number ≡ a → nat_le number w.begun ≡ b → is_open w number ≡ c → (a && b && not c) ≡ false
    by true true true x y z = refl
    by true true false x y z = absurd (let k : is_open w number ≡ true = h (grind (arith, nat_tests)) (grind (arith, nat_tests)) in cc (k, z))
    by true false c x y z = refl
    by false b c x y z = refl
