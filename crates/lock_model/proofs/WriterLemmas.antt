-- How a step moves the writers.
use Rattle.std.proofs.Common.{◌≡◌, ◌<◌, ◌≤◌, ◌+◌, ◌-◌, ◌^◌, ℕ, zero, suc, Bool, true, false, List, [], Option, Some, None, refl, ap, sym, subst, ◌∙◌, cond, arith, inl, inr}
use Rattle.std.specs.Prelude.{◌⊎◌, nat_eq, nat_lt, not, ◌&&◌, length}
use Rattle.std.specs.List.{AllByRecursion}
use Rattle.std.proofs.lemmas.Bool.Decides.{nat_tests}
use Rattle.tm_data.specs.declared.transaction.Page.{Page}
use Rattle.tm_data.specs.declared.transaction.Txn.{Txn}
use Rattle.tm_data.specs.declared.transaction.Writer.{Writer}
use Rattle.tm_data.specs.declared.vector.VectorEntry.{VectorEntry}
use Rattle.tm_base.specs.declared.message.Node.{Node}
use Rattle.tm_base.specs.declared.message.Node.TheVariants.{Master}
use Rattle.tm_base.specs.declared.message.Note.{Note}
use Rattle.tm_base.specs.declared.message.Note.TheVariants as note
use Rattle.tm_base.specs.declared.message.PageStamp.{PageStamp}
use Rattle.lock_model.specs.declared.writer.Fresh.{Fresh}
use Rattle.lock_model.specs.declared.writer.Life.{Life}
use Rattle.lock_model.specs.declared.writer.WriterEntry.{WriterEntry}
use Rattle.lock_model.specs.declared.writer.WriterStatus.{WriterStatus}
use Rattle.lock_model.specs.declared.writer.WriterStatus.TheVariants.{Live, Closed, Recovered}
use Rattle.lock_model.specs.State.{State, at, put, page_in, holder_of, is_live}
use Rattle.lock_model.specs.Step as does
use Rattle.lock_model.specs.Step.{Effect}
use Rattle.lock_model.specs.Runs.{LogEnd, end_of, ended_at, IsSameWriter}
use Rattle.lock_model.proofs.TableLemmas.{put_at, length_known, length_new}

-- ---- what holds of the writers in each state

-- Writers have the numbers 1 to their count, and the boot numbers of a master rise with them.
pub record Numbered (writers : List (ℕ × WriterEntry)) : Type 0 where
  pub bounds : (w : ℕ) (e : WriterEntry) → at writers w ≡ Some e → (1 ≤ w) × (w ≤ length writers)
  pub rising : (w v : ℕ) (e f : WriterEntry) → at writers w ≡ Some e → at writers v ≡ Some f → e.master ≡ f.master → w < v → e.boot < f.boot

-- ---- how a writer moves

-- The last fresh page stays, or there is none, or it is the next one and goes to the one writer that asked.
pub record GotNext (asker w next next' : ℕ) (new : Fresh) : Type 0 where
  pub own : w ≡ asker
  pub page : new.page ≡ Some (does.page_of next)
  pub more : next < next'

abbrev pub FreshGoes : ℕ → ℕ → ℕ → ℕ → Fresh → Fresh → Type 0
FreshGoes asker w next next' old new = (new ≡ old) ⊎ ((new.page ≡ None) ⊎ GotNext asker w next next' new)

pub record Keeps (asker w next next' : ℕ) (old new : WriterEntry) : Type 0 where
  pub same : IsSameWriter old new
  pub fresh : FreshGoes asker w next next' old.fresh new.fresh

pub record IsNew (writers : List (ℕ × WriterEntry)) (scalar w count : ℕ) (new : WriterEntry) : Type 0 where
  pub number : w ≡ length writers + 1
  pub counted : count ≡ length writers + 1
  pub begins : new.start.0 ≡ scalar
  pub none : new.fresh.page ≡ None
  pub newest : (v : ℕ) (e : WriterEntry) → at writers v ≡ Some e → e.master ≡ new.master → e.boot < new.boot

abbrev pub WriterMove : State → State → ℕ → ℕ → Option WriterEntry → Option WriterEntry → Type 0
WriterMove s t asker w None None = Unit {0}
WriterMove s t asker w None (Some f) = IsNew s.writers s.scalar w (length t.writers) f
WriterMove s t asker w (Some e) None = ⊥
WriterMove s t asker w (Some e) (Some f) = Keeps asker w s.next_fresh t.next_fresh e f

-- What a message tells of the writers, as they are after the step.
abbrev pub TellsWriters : State → ℕ → Note → Type 0
TellsWriters s stamp (note.Closed w length store) = ended_at (at s.writers w.0) ≡ Some (record { length = length; store = store })
TellsWriters s stamp (note.Roster entries) = (entries ≡ does.roster s.writers) × (stamp ≡ s.scalar)
TellsWriters s stamp (note.FreshIs w nth page) = (e : WriterEntry) × (at s.writers w.0 ≡ Some e) × (e.fresh ≡ record { nth = nth; page = page })
TellsWriters s stamp other = Unit {0}

pub record WriterStep (s : State) (r : Effect) : Type 0 where
  pub asker : ℕ
  pub moves : (w : ℕ) → WriterMove s r.0 asker w (at s.writers w) (at r.0.writers w)
  pub tells : AllByRecursion (λ m. TellsWriters r.0 m.stamp.0 m.note) r.2
  pub scalar : r.0.scalar ≡ s.scalar
  pub next : s.next_fresh ≤ r.0.next_fresh
  pub count : length s.writers ≤ length r.0.writers

keeps_same : (asker w next next' : ℕ) (e : WriterEntry) → Keeps asker w next next' e e
keeps_same asker w next next' e = record { same = record { master = refl; boot = refl; start = refl; ended = λ end h. h }; fresh = inl refl }

stays_move : (s t : State) (asker w : ℕ) (o : Option WriterEntry) → WriterMove s t asker w o o
stays_move s t asker w None = tt
stays_move s t asker w (Some e) = keeps_same asker w s.next_fresh t.next_fresh e

-- ---- steps that leave the writers alone

pub still : (s : State) (r : Effect) → r.0.writers ≡ s.writers → r.0.scalar ≡ s.scalar → s.next_fresh ≤ r.0.next_fresh → AllByRecursion (λ m. TellsWriters r.0 m.stamp.0 m.note) r.2 → WriterStep s r
still s r writers scalar next tells = record {
  asker = 0;
  moves = λ w. subst (λ (t : List (ℕ × WriterEntry)). WriterMove s r.0 0 w (at s.writers w) (at t w)) (sym writers) (stays_move s r.0 0 w (at s.writers w));
  tells = tells;
  scalar = scalar;
  next = next;
  count = omega (arith, ap (λ (t : List (ℕ × WriterEntry)). length t) writers);
}

-- ---- steps that put one known writer

cond_move : (s t : State) (asker w writer : ℕ) (e f : WriterEntry) (b : Bool) → nat_eq w writer ≡ b → at s.writers writer ≡ Some e → Keeps asker writer s.next_fresh t.next_fresh e f
    → WriterMove s t asker w (at s.writers w) (cond b (Some f) (at s.writers w))
cond_move s t asker w writer e f true is found keeps =
    let same : writer ≡ w = grind (arith, nat_tests) in
    let P : ℕ → Type 0 = λ n. WriterMove s t asker n (at s.writers n) (Some f) in
    subst P same (subst (λ (o : Option WriterEntry). WriterMove s t asker writer o (Some f)) (sym found) keeps)
cond_move s t asker w writer e f false is found keeps = stays_move s t asker w (at s.writers w)

pub set_writer : (s : State) (r : Effect) (asker writer : ℕ) (e f : WriterEntry) → at s.writers writer ≡ Some e → Keeps asker writer s.next_fresh r.0.next_fresh e f
    → r.0.writers ≡ put s.writers writer f → r.0.scalar ≡ s.scalar → s.next_fresh ≤ r.0.next_fresh → AllByRecursion (λ m. TellsWriters r.0 m.stamp.0 m.note) r.2 → WriterStep s r
set_writer s r asker writer e f found keeps writers scalar next tells = record {
  asker = asker;
  moves = λ w. subst (WriterMove s r.0 asker w (at s.writers w)) (sym (ap (λ (t : List (ℕ × WriterEntry)). at t w) writers ∙ put_at s.writers writer f w))
      (cond_move s r.0 asker w writer e f (nat_eq w writer) refl found keeps);
  tells = tells;
  scalar = scalar;
  next = next;
  count = omega (arith, ap (λ (t : List (ℕ × WriterEntry)). length t) writers, length_known s.writers writer f e found);
}

-- what is under a number right after it is put
pub put_found : (ws : List (ℕ × WriterEntry)) (w : ℕ) (f : WriterEntry) → at (put ws w f) w ≡ Some f
put_found ws w f = put_at ws w f w ∙ by (nat_eq w w) refl
  where
    by : (b : Bool) → nat_eq w w ≡ b → cond b (Some f) (at ws w) ≡ Some f
    by true is = refl
    by false is = absurd (grind (arith, nat_tests))

-- ---- new writers

pub absent_next : (ws : List (ℕ × WriterEntry)) → Numbered ws → (o : Option WriterEntry) → at ws (length ws + 1) ≡ o → at ws (length ws + 1) ≡ None
absent_next ws n None is = is
absent_next ws n (Some e) is = absurd (let b = n.bounds (length ws + 1) e is in omega (arith, b.1))

new_move : (s t : State) (w writer : ℕ) (f : WriterEntry) (b : Bool) → nat_eq w writer ≡ b → at s.writers writer ≡ None → IsNew s.writers s.scalar writer (length t.writers) f
    → WriterMove s t 0 w (at s.writers w) (cond b (Some f) (at s.writers w))
new_move s t w writer f true is none new =
    let same : writer ≡ w = grind (arith, nat_tests) in
    let P : ℕ → Type 0 = λ n. WriterMove s t 0 n (at s.writers n) (Some f) in
    subst P same (subst (λ (o : Option WriterEntry). WriterMove s t 0 writer o (Some f)) (sym none) new)
new_move s t w writer f false is none new = stays_move s t 0 w (at s.writers w)

joins_writer : (s : State) (from : Node) (master boot : ℕ) (b : Bool) → Numbered s.writers → ((v : ℕ) (e : WriterEntry) → at s.writers v ≡ Some e → e.master ≡ master → e.boot < boot) → WriterStep s (does.joins s from master boot b)
joins_writer s from master boot false n newest = still s (does.joins s from master boot false) refl refl (omega arith) tt
joins_writer s from master boot true n newest =
    let writer : ℕ = length s.writers + 1 in
    let f : WriterEntry = does.new_writer s master boot in
    let t : State = (does.joins s from master boot true).0 in
    let none : at s.writers (length s.writers + 1) ≡ None = absent_next s.writers n (at s.writers (length s.writers + 1)) refl in
    let counted : length (put s.writers (length s.writers + 1) (does.new_writer s master boot)) ≡ length s.writers + 1 = length_new s.writers (length s.writers + 1) (does.new_writer s master boot) none in
    record {
      asker = 0;
      moves = λ w. subst (WriterMove s t 0 w (at s.writers w)) (sym (put_at s.writers writer f w))
          (new_move s t w writer f (nat_eq w writer) refl none (record { number = refl; counted = counted; begins = refl; none = refl; newest = newest }));
      tells = (tt, tt);
      scalar = refl;
      next = omega arith;
      count = omega (arith, counted);
    }

-- the latest life of a master, among the writers up to a number
pub record IsLatest (ws : List (ℕ × WriterEntry)) (master n : ℕ) (life : Life) : Type 0 where
  pub entry : WriterEntry
  pub found : at ws life.writer.0 ≡ Some entry
  pub own : entry.master ≡ master
  pub boot : entry.boot ≡ life.boot
  pub last : (v : ℕ) (e : WriterEntry) → 1 ≤ v → v ≤ n → at ws v ≡ Some e → e.master ≡ master → v ≤ life.writer.0

abbrev pub LatestIs : List (ℕ × WriterEntry) → ℕ → ℕ → Option Life → Type 0
LatestIs ws master n None = (v : ℕ) (e : WriterEntry) → 1 ≤ v → v ≤ n → at ws v ≡ Some e → e.master ≡ master → ⊥
LatestIs ws master n (Some life) = IsLatest ws master n life

-- one number more, which is none of the master's
past_one : (ws : List (ℕ × WriterEntry)) (master n : ℕ) (o : Option Life) → ((e : WriterEntry) → at ws (suc n) ≡ Some e → e.master ≡ master → ⊥) → LatestIs ws master n o → LatestIs ws master (suc n) o
past_one ws master n None other h = λ v e least most found own. by v e least most found own (nat_eq v (suc n)) refl
  where
    by : (v : ℕ) (e : WriterEntry) → 1 ≤ v → v ≤ suc n → at ws v ≡ Some e → e.master ≡ master → (b : Bool) → nat_eq v (suc n) ≡ b → ⊥
    by v e least most found own true is = let same : v ≡ suc n = grind (arith, nat_tests) in other e (subst (λ (k : ℕ). at ws k ≡ Some e) same found) own
    by v e least most found own false is = let less : v ≤ n = grind (arith, nat_tests) in h v e least less found own
past_one ws master n (Some life) other h = record {
  entry = h.entry;
  found = h.found;
  own = h.own;
  boot = h.boot;
  last = λ v e least most found own. by v e least most found own (nat_eq v (suc n)) refl;
}
  where
    by : (v : ℕ) (e : WriterEntry) → 1 ≤ v → v ≤ suc n → at ws v ≡ Some e → e.master ≡ master → (b : Bool) → nat_eq v (suc n) ≡ b → v ≤ life.writer.0
    by v e least most found own true is = absurd (let same : v ≡ suc n = grind (arith, nat_tests) in other e (subst (λ (k : ℕ). at ws k ≡ Some e) same found) own)
    by v e least most found own false is = let less : v ≤ n = grind (arith, nat_tests) in h.last v e least less found own

here_one : (ws : List (ℕ × WriterEntry)) (master n : ℕ) (e : WriterEntry) (b : Bool) (earlier : Option Life) → at ws (suc n) ≡ Some e → nat_eq e.master master ≡ b → LatestIs ws master n earlier
    → LatestIs ws master (suc n) (cond b (Some (record { writer = record { 0 = suc n }; boot = e.boot })) earlier)
here_one ws master n e true earlier found is h =
    record { entry = e; found = found; own = grind (arith, nat_tests); boot = refl; last = λ v f least most there own. most }
here_one ws master n e false earlier found is h =
    past_one ws master n earlier (λ f there own. let same : e ≡ f = cc (found, there) in absurd (let own' : e.master ≡ master = ap (λ (x : WriterEntry). x.master) same ∙ own in grind (arith, nat_tests))) h

or_one : (ws : List (ℕ × WriterEntry)) (master n : ℕ) (o : Option WriterEntry) (earlier : Option Life) → at ws (suc n) ≡ o → LatestIs ws master n earlier → LatestIs ws master (suc n) (does.or_earlier (suc n) master o earlier)
or_one ws master n None earlier found h = past_one ws master n earlier (λ e there own. absurd (cc (found, there))) h
or_one ws master n (Some e) earlier found h = here_one ws master n e (nat_eq e.master master) earlier found refl h

pub latest_is : (ws : List (ℕ × WriterEntry)) (master n : ℕ) → LatestIs ws master n (does.latest ws master n)
latest_is ws master zero = λ v e least most found own. absurd (omega arith)
latest_is ws master (suc n) = or_one ws master n (at ws (suc n)) (does.latest ws master n) refl (latest_is ws master n)

-- a boot number above the latest is above all
pub newest_by : (ws : List (ℕ × WriterEntry)) (master boot : ℕ) (life : Life) → Numbered ws → IsLatest ws master (length ws) life → life.boot < boot → (v : ℕ) (e : WriterEntry) → at ws v ≡ Some e → e.master ≡ master → e.boot < boot
newest_by ws master boot life n l above v e found own = by (nat_lt v life.writer.0) refl
  where
    bounds : (1 ≤ v) × (v ≤ length ws)
    bounds = n.bounds v e found

    by : (b : Bool) → nat_lt v life.writer.0 ≡ b → e.boot < boot
    by true is =
        let less : v < life.writer.0 = grind (arith, nat_tests) in
        omega (arith, n.rising v life.writer.0 e l.entry found l.found (own ∙ sym l.own) less, l.boot)
    by false is =
        let high : life.writer.0 ≤ v = grind (arith, nat_tests) in
        let same : v ≡ life.writer.0 = omega (arith, l.last v e bounds.0 bounds.1 found own) in
        let one : e ≡ l.entry = cc (found, l.found, same) in
        omega (arith, ap (λ (x : WriterEntry). x.boot) one, l.boot)

life_writer : (s : State) (from : Node) (master boot : ℕ) (life : Life) (b c : Bool) → nat_lt boot life.boot ≡ b → nat_eq boot life.boot ≡ c → Numbered s.writers → IsLatest s.writers master (length s.writers) life
    → WriterStep s (does.joins_after s from master boot life b c)
life_writer s from master boot life true c is_b is_c n l = still s (does.joins_after s from master boot life true c) refl refl (omega arith) tt
life_writer s from master boot life false true is_b is_c n l = still s (does.joins_after s from master boot life false true) refl refl (omega arith) (tt, tt)
life_writer s from master boot life false false is_b is_c n l =
    let above : life.boot < boot = grind (arith, nat_tests) in
    joins_writer s from master boot (nat_lt (length s.writers) 1024) n (newest_by s.writers master boot life n l above)

register_writer : (s : State) (from : Node) (master boot : ℕ) (o : Option Life) → Numbered s.writers → LatestIs s.writers master (length s.writers) o → WriterStep s (does.on_life s from master boot o)
register_writer s from master boot None n l =
    joins_writer s from master boot (nat_lt (length s.writers) 1024) n (λ v e found own. let b = n.bounds v e found in absurd (l v e b.0 b.1 found own))
register_writer s from master boot (Some life) n l = life_writer s from master boot life (nat_lt boot life.boot) (nat_eq boot life.boot) refl refl n l

register_from_writer : (s : State) (from : Node) (boot : ℕ) → Numbered s.writers → WriterStep s (does.on_register_from s from boot)
register_from_writer s (Master number) boot n =
    register_writer s (Master number) number boot (does.latest s.writers number (length s.writers)) n (latest_is s.writers number (length s.writers))
register_from_writer s from boot n = still s (does.on_register_from s from boot) refl refl (omega arith) tt

-- ---- questions

ask_writer : (s : State) (from : Node) (txn : Txn) (asking : ℕ) (o : Option WriterEntry) → WriterStep s (does.on_ask s from txn asking o)
ask_writer s from txn asking None = still s (does.on_ask s from txn asking None) refl refl (omega arith) tt
ask_writer s from txn asking (Some e) = by e.status
  where
    by : (status : WriterStatus) → WriterStep s (does.on_ask_of s from txn asking e.master status)
    by Live = still s (does.on_ask_of s from txn asking e.master Live) refl refl (omega arith) (tt, tt)
    by (Closed l st t) = still s (does.on_ask_of s from txn asking e.master (Closed l st t)) refl refl (omega arith) (tt, tt)
    by (Recovered l st v) = still s (does.on_ask_of s from txn asking e.master (Recovered l st v)) refl refl (omega arith) (tt, tt)

ask_from_writer : (s : State) (from : Node) (txn : Txn) (asking : ℕ) → WriterStep s (does.on_ask_from s from txn asking)
ask_from_writer s (Master number) txn asking = ask_writer s (Master number) txn asking (at s.writers txn.writer.0)
ask_from_writer s from txn asking = still s (does.on_ask_from s from txn asking) refl refl (omega arith) tt

want_writer : (s : State) (from : Node) (o : Option Writer) → WriterStep s (does.on_want s from o)
want_writer s from None = still s (does.on_want s from None) refl refl (omega arith) ((refl, refl), tt)
want_writer s from (Some w) = still s (does.on_want s from (Some w)) refl refl (omega arith) tt

-- ---- ends

entry_ended : (o : Option WriterEntry) (e : WriterEntry) (status : WriterStatus) (end : LogEnd) → o ≡ Some e → e.status ≡ status → end_of status ≡ Some end → ended_at o ≡ Some end
entry_ended o e status end found is ended = ap ended_at found ∙ ap end_of is ∙ ended

close_writer : (s : State) (from : Node) (writer length store : ℕ) (o : Option WriterEntry) → at s.writers writer ≡ o → WriterStep s (does.on_close s from writer length store o)
close_writer s from writer length store None found = still s (does.on_close s from writer length store None) refl refl (omega arith) tt
close_writer s from writer length store (Some e) found = by e.status refl
  where
    by : (status : WriterStatus) → e.status ≡ status → WriterStep s (does.on_close_of s from writer length store e status)
    by Live is =
        let f : WriterEntry = record e { status = Closed length store false } in
        let told = ap ended_at (put_found s.writers writer (record e { status = Closed length store false })) in
        set_writer s (does.on_close_of s from writer length store e Live) 0 writer e f found
        (record { same = record { master = refl; boot = refl; start = refl; ended = λ end h. absurd (let none = ap end_of is in cc (none, h)) }; fresh = inl refl })
        refl refl (omega arith) (told, (told, (told, (told, tt))))
    by (Closed l st t) is =
        let told = entry_ended (at s.writers writer) e (Closed l st t) (record { length = l; store = st }) found is refl in
        still s (does.on_close_of s from writer length store e (Closed l st t)) refl refl (omega arith) (told, (told, (told, (told, tt))))
    by (Recovered l st v) is =
        let told = entry_ended (at s.writers writer) e (Recovered l st v) (record { length = l; store = st }) found is refl in
        still s (does.on_close_of s from writer length store e (Recovered l st v)) refl refl (omega arith) (told, (told, (told, (told, tt))))

-- a closed writer's status with another one of the same end
same_end : (e : WriterEntry) (length store : ℕ) (t : Bool) (status : WriterStatus) → e.status ≡ Closed length store t → end_of status ≡ Some (record { length = length; store = store })
    → IsSameWriter e (record e { status = status })
same_end e length store t status is ended = record { master = refl; boot = refl; start = refl; ended = λ end h. ended ∙ sym (ap end_of is) ∙ h }

taking_writer : (s : State) (from : Node) (writer part : ℕ) (rest : Bool) (listed : List (ℕ × ℕ)) (vector : List VectorEntry) (e : WriterEntry) (length store : ℕ) (t done : Bool)
    → at s.writers writer ≡ Some e → e.status ≡ Closed length store t → WriterStep s (does.on_taking s from writer part rest listed vector e length store done)
taking_writer s from writer part rest listed vector e length store t false found is = still s (does.on_taking s from writer part rest listed vector e length store false) refl refl (omega arith) (tt, tt)
taking_writer s from writer part rest listed vector e length store t true found is =
    set_writer s (does.on_taking s from writer part rest listed vector e length store true) 0 writer e (record e { status = Closed length store true }) found
    (record { same = same_end e length store t (Closed length store true) is refl; fresh = inl refl })
    refl refl (omega arith) (tt, tt)

takeover_writer : (s : State) (from : Node) (writer part : ℕ) (rest : Bool) (listed : List PageStamp) (vector : List VectorEntry) (o : Option WriterEntry) → at s.writers writer ≡ o
    → WriterStep s (does.on_takeover s from writer part rest listed vector o)
takeover_writer s from writer part rest listed vector None found = still s (does.on_takeover s from writer part rest listed vector None) refl refl (omega arith) tt
takeover_writer s from writer part rest listed vector (Some e) found = by e.status refl
  where
    by : (status : WriterStatus) → e.status ≡ status → WriterStep s (does.on_takeover_of s from writer part rest listed vector e status)
    by Live is = still s (does.on_takeover_of s from writer part rest listed vector e Live) refl refl (omega arith) tt
    by (Closed l st t) is = taking_writer s from writer part rest (does.stamps [] listed) vector e l st t (rest && not t) found is
    by (Recovered l st v) is = still s (does.on_takeover_of s from writer part rest listed vector e (Recovered l st v)) refl refl (omega arith) (tt, tt)

undone_writer : (s : State) (from : Node) (writer : ℕ) (vector : List VectorEntry) (o : Option WriterEntry) → at s.writers writer ≡ o → WriterStep s (does.on_undone s from writer vector o)
undone_writer s from writer vector None found = still s (does.on_undone s from writer vector None) refl refl (omega arith) tt
undone_writer s from writer vector (Some e) found = by e.status refl
  where
    by : (status : WriterStatus) → e.status ≡ status → WriterStep s (does.on_undone_of s from writer vector e status)
    by Live is = still s (does.on_undone_of s from writer vector e Live) refl refl (omega arith) tt
    by (Closed l st false) is = still s (does.on_undone_of s from writer vector e (Closed l st false)) refl refl (omega arith) tt
    by (Closed l st true) is =
        set_writer s (does.on_undone_of s from writer vector e (Closed l st true)) 0 writer e (record e { status = Recovered l st vector }) found
        (record { same = same_end e l st true (Recovered l st vector) is refl; fresh = inl refl })
        refl refl (omega arith) (tt, tt)
    by (Recovered l st v) is = still s (does.on_undone_of s from writer vector e (Recovered l st v)) refl refl (omega arith) (tt, tt)

undone_by_writer : (s : State) (from : Node) (writer : ℕ) (vector : List VectorEntry) (b : Bool) → WriterStep s (does.on_undone_by s from writer vector b)
undone_by_writer s from writer vector true = undone_writer s from writer vector (at s.writers writer) refl
undone_by_writer s from writer vector false = still s (does.on_undone_by s from writer vector false) refl refl (omega arith) tt

-- ---- leases

free_writer : (s : State) (master writer page : ℕ) (b : Bool) → WriterStep s (does.on_free s master writer page b)
free_writer s master writer page true = still s (does.on_free s master writer page true) refl refl (omega arith) (tt, tt)
free_writer s master writer page false = still s (does.on_free s master writer page false) refl refl (omega arith) tt

held_writer : (s : State) (holder page : ℕ) (o : Option WriterEntry) → WriterStep s (does.on_held s holder page o)
held_writer s holder page None = still s (does.on_held s holder page None) refl refl (omega arith) tt
held_writer s holder page (Some e) = still s (does.on_held s holder page (Some e)) refl refl (omega arith) (tt, tt)

leased_writer : (s : State) (master writer page holder : ℕ) (b : Bool) → WriterStep s (does.on_leased s master writer page holder b)
leased_writer s master writer page holder true = still s (does.on_leased s master writer page holder true) refl refl (omega arith) (tt, tt)
leased_writer s master writer page holder false = held_writer s holder page (at s.writers holder)

holder_writer : (s : State) (master writer page : ℕ) (o : Option Writer) → WriterStep s (does.on_holder s master writer page o)
holder_writer s master writer page None = free_writer s master writer page (nat_lt (page_in s page).epoch (2 ^ 32 - 1))
holder_writer s master writer page (Some h) = leased_writer s master writer page h.0 (nat_eq h.0 writer)

request_of_writer : (s : State) (master writer page : ℕ) (b c : Bool) → WriterStep s (does.on_request_of s master writer page b c)
request_of_writer s master writer page true true = holder_writer s master writer page (holder_of (page_in s page))
request_of_writer s master writer page true false = still s (does.on_request_of s master writer page true false) refl refl (omega arith) tt
request_of_writer s master writer page false c = still s (does.on_request_of s master writer page false c) refl refl (omega arith) tt

request_writer : (s : State) (writer page : ℕ) (o : Option WriterEntry) → WriterStep s (does.on_request s writer page o)
request_writer s writer page None = still s (does.on_request s writer page None) refl refl (omega arith) tt
request_writer s writer page (Some e) = request_of_writer s e.master writer page (is_live e.status) (does.is_there s page)

release_of_writer : (s : State) (from : Node) (l : does.Leaving) (b c : Bool) → WriterStep s (does.on_leaving s from l c) → WriterStep s (does.on_release_of s from l b)
release_of_writer s from l true c h = by (does.is_present s l)
  where
    by : (d : Bool) → WriterStep s (does.on_leaving s from l d)
    by true = still s (does.on_leaving s from l true) refl refl (omega arith) (tt, tt)
    by false = still s (does.on_leaving s from l false) refl refl (omega arith) (tt, tt)
release_of_writer s from l false c h = still s (does.on_release_of s from l false) refl refl (omega arith) tt

release_writer : (s : State) (from : Node) (l : does.Leaving) (o : Option WriterEntry) → WriterStep s (does.on_release s from l o)
release_writer s from l None = still s (does.on_release s from l None) refl refl (omega arith) tt
release_writer s from l (Some e) = release_of_writer s from l (is_live e.status) false (still s (does.on_leaving s from l false) refl refl (omega arith) (tt, tt))

-- ---- fresh pages

next_writer : (s : State) (writer : ℕ) (e : WriterEntry) (nth : ℕ) (b : Bool) → at s.writers writer ≡ Some e → WriterStep s (does.on_next s writer e nth (does.next_if s b))
next_writer s writer e nth false found =
    let f : WriterEntry = record e { fresh = record { nth = nth; page = None } } in
    set_writer s (does.on_next s writer e nth None) writer writer e f found
    (record { same = record { master = refl; boot = refl; start = refl; ended = λ end h. h }; fresh = inr (inl refl) })
    refl refl (omega arith) ((f, put_found s.writers writer f, refl), tt)
next_writer s writer e nth true found =
    let page : Option Page = Some (does.page_of s.next_fresh) in
    let f : WriterEntry = record e { fresh = record { nth = nth; page = page } } in
    set_writer s (does.on_next s writer e nth page) writer writer e f found
    (record { same = record { master = refl; boot = refl; start = refl; ended = λ end h. h }; fresh = inr (inr (record { own = refl; page = refl; more = omega arith })) })
    refl refl (omega arith) ((f, put_found s.writers writer f, refl), tt)

nth_writer : (s : State) (writer : ℕ) (e : WriterEntry) (nth : ℕ) (b c : Bool) → (c ≡ true → nth ≡ e.fresh.nth) → at s.writers writer ≡ Some e → WriterStep s (does.on_nth s writer e nth b c)
nth_writer s writer e nth true c same found = next_writer s writer e nth (nat_lt s.next_fresh (2 ^ 32 - 1)) found
nth_writer s writer e nth false true same found =
    still s (does.on_nth s writer e nth false true) refl refl (omega arith) ((e, found, ap (λ (n : ℕ). record { nth = n; page = e.fresh.page }) (sym (same refl))), tt)
nth_writer s writer e nth false false same found = still s (does.on_nth s writer e nth false false) refl refl (omega arith) tt

pub again_same : (nth last : ℕ) → (nat_eq nth last && not (nat_eq nth 0)) ≡ true → nth ≡ last
again_same nth last h = grind (arith, nat_tests)

fresh_of_writer : (s : State) (writer : ℕ) (e : WriterEntry) (nth : ℕ) (b : Bool) → at s.writers writer ≡ Some e → WriterStep s (does.on_fresh_of s writer e nth b)
fresh_of_writer s writer e nth true found =
    nth_writer s writer e nth (nat_eq nth (e.fresh.nth + 1)) (nat_eq nth e.fresh.nth && not (nat_eq nth 0)) (again_same nth e.fresh.nth) found
fresh_of_writer s writer e nth false found = still s (does.on_fresh_of s writer e nth false) refl refl (omega arith) tt

request_fresh_writer : (s : State) (writer nth : ℕ) (o : Option WriterEntry) → at s.writers writer ≡ o → WriterStep s (does.on_request_fresh s writer nth o)
request_fresh_writer s writer nth None found = still s (does.on_request_fresh s writer nth None) refl refl (omega arith) tt
request_fresh_writer s writer nth (Some e) found = fresh_of_writer s writer e nth (is_live e.status) found

-- ---- every step

pub note_writer : (s : State) (from : Node) (n : Note) → Numbered s.writers → WriterStep s (does.on_note s from n)
note_writer s from (note.Register boot) n = register_from_writer s from boot n
note_writer s from (note.Request writer page) n = request_writer s writer.0 page.0 (at s.writers writer.0)
note_writer s from (note.RequestFresh writer nth) n = request_fresh_writer s writer.0 nth (at s.writers writer.0) refl
note_writer s from (note.Release writer page epoch stamp tags vector) n =
    release_writer s from (record { writer = writer.0; page = page.0; epoch = epoch; stamp = stamp.0; tags = tags; vector = vector }) (at s.writers writer.0)
note_writer s from (note.Ask txn asking) n = ask_from_writer s from txn asking
note_writer s from (note.Close writer length store) n = close_writer s from writer.0 length store (at s.writers writer.0) refl
note_writer s from (note.Takeover writer part rest pages vector) n = takeover_writer s from writer.0 part rest pages vector (at s.writers writer.0) refl
note_writer s from (note.Undone writer recoverer vector) n = undone_by_writer s from writer.0 vector (does.is_live_entry (at s.writers recoverer.0))
note_writer s from (note.Want writer) n = want_writer s from writer
note_writer s from other n = still s (does.on_note s from other) refl refl (omega arith) tt
