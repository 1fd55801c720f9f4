-- To note a row as written and to log groups goes in any order.
use Rattle.std.proofs.Common.{◌≡◌, ◌∙◌, ℕ, Bool, true, false, cond, List, [], ◌∷◌, Option, Some, None, refl, sym, ap, arith}
use Rattle.std.specs.Prelude.{IsSome, is_some, not}
use Rattle.std.proofs.lemmas.Bool.Decides.{nat_tests}
use Rattle.std.specs.Ordering.{nat_cmp, eq_by_cmp}
use Rattle.std.specs.Cmp.{Equal-is}
use Rattle.std.specs.FinMap.{FinMap, contains_key, get, gets, get-insert, get-remove, insert, remove, same_map}
use Rattle.tm_data.specs.Orders.{row_cmp, row_cmp-total, row_cmp-exact}
use Rattle.tm_data.specs.declared.log.Group.{Group}
use Rattle.tm_data.specs.declared.log.Record.{Record}
use Rattle.tm_data.specs.declared.row_map.RowKey.{RowKey}
use Rattle.page_model.specs.Effects.{page_of}
use Rattle.vs_clock.specs.State.{ticked, told}
use Rattle.log_writer.specs.Log.{appended}
use Rattle.master_model.specs.declared.session.Own.{Own}
use Rattle.master_model.specs.State.{Work}
use Rattle.master_model.specs.Reads.{with_session}
use Rattle.tm_data.specs.declared.transaction.Page.{Page}
use Rattle.tm_base.specs.declared.reply.Reply.TheVariants as reply
use Rattle.master_model.specs.Paths.{uses}
use Rattle.master_model.specs.Logging.{Logged, has_numbers, has_stamps, if_room, in_front, logs, next_group, with_change, with_changes, with_group}
use Rattle.master_ends.specs.Ended.{with_logged}
use Rattle.master_aborts.proofs.UsedLemmas.{logs_used, used_logged}
use Rattle.master_work.specs.Parts.{Begun}
use Rattle.master_work.proofs.SessionLemmas.{put_there, set_over, set_same}
use Rattle.master_writes.specs.Written.{done, noted, writes}

-- ---- sessions beside a log

abbrev pub Owns : Type 0
Owns = FinMap nat_cmp Own

abbrev beside : Owns → Logged → Logged
beside s l = record { work = record l.work { sessions = s }; groups = l.groups }

change_beside : (w : Work) (s : Owns) (r : Record) (stamp : ℕ) (o : Option ℕ) → with_change (record w { sessions = s }) r stamp o ≡ record (with_change w r stamp o) { sessions = s }
change_beside w s r stamp None = refl
change_beside w s r stamp (Some p) = refl

changes_beside : (w : Work) (s : Owns) (rs : List Record) (stamp : ℕ) → with_changes (record w { sessions = s }) rs stamp ≡ record (with_changes w rs stamp) { sessions = s }
changes_beside w s [] stamp = refl
changes_beside w s (r ∷ rs) stamp = ap (λ (v : Work). with_changes v rs stamp) (change_beside w s r stamp (page_of r)) ∙ changes_beside (with_change w r stamp (page_of r)) s rs stamp

group_beside : (w : Work) (s : Owns) (g : Group) → with_group (record w { sessions = s }) g ≡ record (with_group w g) { sessions = s }
group_beside w s g = changes_beside (record w { clock = told (ticked w.clock); log = appended w.log g }) s g.records g.stamp.0

logs_beside : (w : Work) (s : Owns) (rss : List (List Record)) → logs (record w { sessions = s }) rss ≡ beside s (logs w rss)
logs_beside w s [] = refl
logs_beside w s (rs ∷ rss) =
    ap (λ (v : Work). in_front (next_group w rs) (logs v rss)) (group_beside w s (next_group w rs))
    ∙ ap (in_front (next_group w rs)) (logs_beside (with_group w (next_group w rs)) s rss)

pub sessions_stay : (w : Work) (rss : List (List Record)) → (logs w rss).work.sessions ≡ w.sessions
sessions_stay w rss = ap (λ (l : Logged). l.work.sessions) (logs_beside w w.sessions rss)

pub logged_noted : (w : Work) (session : ℕ) (own : Own) (row : RowKey) (rss : List (List Record))
    → logs (record w { sessions = insert w.sessions session (record own { written = insert own.written row tt }) }) rss ≡ noted session own row (logs w rss)
logged_noted w session own row rss =
    logs_beside w (insert w.sessions session (record own { written = insert own.written row tt })) rss
    ∙ ap (λ (s : Owns). beside (insert s session (record own { written = insert own.written row tt })) (logs w rss)) (sym (sessions_stay w rss))

-- A row that is written, and the path used.
pub writes_are : (w : Work) (path : List Page) (session : ℕ) (own : Own) (row : RowKey) (change : Record) (work : Work) (groups : List Group) → has_numbers w 1 ≡ true → has_stamps w 1 ≡ true
    → with_logged work groups ≡ noted session own row (logs w ((change ∷ []) ∷ [])) → record { work = uses work path; reply = reply.Done; groups = groups; messages = [] } ≡ writes session own row change (uses w path)
writes_are w path session own row change work groups numbers stamps logged =
    ap (λ (l : Logged). done (used_logged path l)) logged
    ∙ (ap (λ (l : Logged). done (noted session own row l)) (sym (logs_used w path ((change ∷ []) ∷ [])))
    ∙ sym (λ i. if_room (uses w path) (numbers i) (stamps i) (done (noted session own row (logs (uses w path) ((change ∷ []) ∷ []))))))

-- ---- a row that is noted, and taken back

get_here : (m : Owns) (k : ℕ) (x : Own) → get (insert m k x) k ≡ Some x
get_here m k x = grind (arith, nat_tests, gets)

Rows : Type 0
Rows = FinMap row_cmp (Unit {0})

is_same : (a b : RowKey) → eq_by_cmp row_cmp a b ≡ true → a ≡ b
is_same a b h = row_cmp-exact a b ((Equal-is (row_cmp a b)).0 h)

insert_again : (m : FinMap row_cmp (Unit {0})) (row : RowKey) → contains_key m row ≡ true → insert m row tt ≡ m
insert_again m row has = same_map row_cmp-total row_cmp-exact _ _ (λ q. get-insert row_cmp-total m row tt q ∙ by q (eq_by_cmp row_cmp q row) refl)
  where
    some : (o : Option (Unit {0})) → is_some o ≡ true → Some tt ≡ o
    some (Some tt) h = refl
    some None h = absurd (cc h)

    by : (q : RowKey) (b : Bool) → eq_by_cmp row_cmp q row ≡ b → cond b (Some tt) (get m q) ≡ get m q
    by q true is = some (get m row) has ∙ ap (get m) (sym (is_same q row is))
    by q false is = refl

remove_new : (m : FinMap row_cmp (Unit {0})) (row : RowKey) → contains_key m row ≡ false → remove (insert m row tt) row ≡ m
remove_new m row lacks = same_map row_cmp-total row_cmp-exact _ _ (λ q. get-remove row_cmp-total (insert m row tt) row q ∙ (ap (cond (eq_by_cmp row_cmp q row) None) (get-insert row_cmp-total m row tt q) ∙ by q (eq_by_cmp row_cmp q row) refl))
  where
    none : (o : Option (Unit {0})) → is_some o ≡ false → None ≡ o
    none (Some tt) h = absurd (cc h)
    none None h = refl

    by : (q : RowKey) (b : Bool) → eq_by_cmp row_cmp q row ≡ b → cond b None (cond b (Some tt) (get m q)) ≡ get m q
    by q true is = none (get m row) lacks ∙ ap (get m) (sym (is_same q row is))
    by q false is = refl

-- What noting a row left, where the transaction had it already.
pub noted_again : (s : Owns) (session : ℕ) (own : Own) (row : RowKey) → get s session ≡ Some own → contains_key own.written row ≡ true → insert s session (record own { written = insert own.written row tt }) ≡ s
noted_again s session own row at has = ap (λ (m : FinMap row_cmp (Unit {0})). insert s session (record own { written = m })) (insert_again own.written row has) ∙ set_same s session own at

-- And where it hadn't, once that is taken back.
pub taken_back : (s : Owns) (session : ℕ) (own : Own) (row : RowKey) → get s session ≡ Some own → contains_key own.written row ≡ false
    → insert (insert s session (record own { written = insert own.written row tt })) session (record own { written = remove (insert own.written row tt) row }) ≡ s
taken_back s session own row at lacks =
    set_over s session (record own { written = insert own.written row tt }) (record own { written = remove (insert own.written row tt) row })
    ∙ (ap (λ (m : FinMap row_cmp (Unit {0})). insert s session (record own { written = m })) (remove_new own.written row lacks) ∙ set_same s session own at)

-- A session that notes a row has its transaction still.
pub noted_there : (s new : Owns) (session : ℕ) (row : RowKey) → IsSome (get s session) → ((own : Own) → get s session ≡ Some own → new ≡ insert s session (record own { written = insert own.written row tt })) → IsSome (get new session)
noted_there s new session row there is = by (get s session) refl there
  where
    by : (o : Option Own) → get s session ≡ o → IsSome o → IsSome (get new session)
    by None at has = absurd (cc has)
    by (Some own) at has = put_there s new session (record own { written = insert own.written row tt }) (is own at)

abbrev pub with_row : Begun → ℕ → Own → RowKey → Begun
with_row b session own row = record b { owns = insert b.owns session (record own { written = insert own.written row tt }) }

-- It is as before.
pub unnoted : (b old new : Begun) (session : ℕ) (own : Own) (row : RowKey) → get b.owns session ≡ Some own → contains_key own.written row ≡ false → old ≡ with_row b session own row
    → ((o : Own) → get old.owns session ≡ Some o → new ≡ record old { owns = insert old.owns session (record o { written = remove o.written row }) }) → new ≡ b
unnoted b old new session own row at lacks is back =
    let own1 : Own = record own { written = insert own.written row tt } in
    let there : get old.owns session ≡ Some own1 = ap (λ (o : Begun). get o.owns session) is ∙ get_here b.owns session own1 in
    back own1 there
    ∙ (ap (λ (o : Begun). record o { owns = insert o.owns session (record own1 { written = remove own1.written row }) }) is
    ∙ ap (λ (s : Owns). record b { owns = s }) (taken_back b.owns session own row at lacks))

pub noted_same : (b old : Begun) (session : ℕ) (own : Own) (row : RowKey) → get b.owns session ≡ Some own → contains_key own.written row ≡ true → old ≡ with_row b session own row → old ≡ b
noted_same b old session own row at has is = is ∙ ap (λ (s : Owns). record b { owns = s }) (noted_again b.owns session own row at has)

pub lacks : (a b : Bool) → a ≡ not b → a ≡ true → b ≡ false
lacks a true is at = absurd (let k : false ≡ true = sym is ∙ at in cc k)
lacks a false is at = refl

pub has : (a b : Bool) → a ≡ not b → a ≡ false → b ≡ true
has a true is at = refl
has a false is at = absurd (let k : true ≡ false = sym is ∙ at in cc k)

-- The sessions are as they were, once what was noted is taken back.
pub all_back : (s noted old u : Begun) (session : ℕ) (row copy : RowKey) (added : Bool) → IsSome (get s.owns session) → copy ≡ row
    → ((own : Own) → get s.owns session ≡ Some own → added ≡ not (contains_key own.written copy)) → ((own : Own) → get s.owns session ≡ Some own → noted ≡ with_row s session own copy) → old ≡ noted
    → ((was : Begun) (own : Own) → get was.owns session ≡ Some own → added ≡ not (contains_key own.written row) → old ≡ with_row was session own row → u ≡ was) → u ≡ s
all_back s noted old u session row copy added there same is_new is_noted is back = by (get s.owns session) refl there
  where
    by : (o : Option Own) → get s.owns session ≡ o → IsSome o → u ≡ s
    by None at h = absurd (cc h)
    by (Some own) at h = back s own at (is_new own at ∙ ap (λ (r : RowKey). not (contains_key own.written r)) same) (is ∙ (is_noted own at ∙ ap (with_row s session own) same))
