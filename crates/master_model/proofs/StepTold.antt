-- What is sent after a message and on a tick says what is so.
use Rattle.std.proofs.Common.{◌≡◌, ℕ, zero, suc, Bool, true, false, List, [], ◌∷◌, ◌++◌, Option, Some, None, refl, ap, sym, subst, ◌∙◌, cond, arith, inl, inr}
use Rattle.std.specs.Prelude.{nat_eq, nat_lt, nat_le, ◌&&◌, map, take}
use Rattle.std.specs.List.{AllByRecursion, Contains, filter}
use Rattle.std.specs.FinMap.{gets}
use Rattle.std.specs.FinMap as fin
use Rattle.std.proofs.lemmas.Bool.Decides.{nat_tests}
use Rattle.std.proofs.lemmas.List.Elements.{Contains-append_left, Contains-append_right, Contains-push}
use Rattle.tm_data.specs.declared.log.Group.{Group}
use Rattle.tm_base.specs.declared.message.Message.{Message}
use Rattle.tm_base.specs.declared.message.Node.TheVariants.{Master, LogStore, LockManager}
use Rattle.tm_base.specs.declared.message.Note.TheVariants as note
use Rattle.vs_clock.specs.State as clock
use Rattle.log_writer.specs.declared.logged.Logged.{Logged}
use Rattle.log_writer.specs.Log.{Log, durable_seq, resent, unacked}
use Rattle.log_writer.proofs.LetGoLemmas.{same_durable}
use Rattle.lease_desk.specs.declared.lease.Lease.{Lease}
use Rattle.lease_desk.specs.declared.lease.Lease.TheVariants as lease
use Rattle.lease_desk.specs.declared.lease.PageLease.{PageLease}
use Rattle.lease_desk.specs.Desk as desk
use Rattle.lease_desk.specs.Desk.{Leases, is_ready, is_recalled, is_releasing, lease_of, set_if}
use Rattle.master_model.specs.declared.left.Left.{Left}
use Rattle.master_model.specs.State.{Work, Effect, durable, settled, to_locks}
use Rattle.master_model.specs.Leases as leases
use Rattle.master_model.specs.Leases.{gives_back, left_of, release}
use Rattle.master_model.specs.Acks as acks
use Rattle.master_model.specs.Facts.{groups_in, groups_of}
use Rattle.master_model.specs.Told.{IsLogStore, MessageIs, MessagesAre}
use Rattle.master_model.proofs.PageLemmas.{all_on}
use Rattle.master_model.proofs.ToldLemmas.{both_told}

-- ---- several pages are given back

-- What stays when more pages are given back.
pub record Keeps (old new : Work) : Type 0 where
  pub number : new.number ≡ old.number
  pub of_clock : new.clock ≡ old.clock
  pub of_log : new.log ≡ old.log
  pub of_left : (p : ℕ) → is_releasing (lease_of old.leases p).state ≡ true → (fin.get new.left p ≡ fin.get old.left p) × (is_releasing (lease_of new.leases p).state ≡ true)

keeps_all : (w : Work) → Keeps w w
keeps_all w = record { number = refl; of_clock = refl; of_log = refl; of_left = λ p h. (refl, h) }

keeps_both : (a b c : Work) → Keeps a b → Keeps b c → Keeps a c
keeps_both a b c h k = record {
  number = k.number ∙ h.number;
  of_clock = k.of_clock ∙ h.of_clock;
  of_log = k.of_log ∙ h.of_log;
  of_left = λ p x. let one = h.of_left p x in let two = k.of_left p one.1 in (two.0 ∙ one.0, two.1);
}

-- The release of a page that is kept as it was told.
pub record Kept (w : Work) (m : Message) : Type 0 where
  pub page : ℕ
  pub body : Left
  pub is : m ≡ release w page body
  pub kept : fin.get w.left page ≡ Some body
  pub releasing : is_releasing (lease_of w.leases page).state ≡ true

-- a release, by what it takes of the writer
abbrev release_by : ℕ → clock.State → Log → ℕ → Left → Message
release_by number s log page l = record {
  from = Master number;
  to = LockManager;
  stamp = record { 0 = s.scalar };
  note = note.Release log.writer (record { 0 = page }) l.epoch l.stamp l.tags l.vector;
}

kept_on : (a b : Work) (m : Message) → Keeps a b → Kept a m → Kept b m
kept_on a b m k h =
    let on = k.of_left h.page h.releasing in
    record {
      page = h.page;
      body = h.body;
      is = h.is ∙ (λ i. release_by (sym k.number i) (sym k.of_clock i) (sym k.of_log i) h.page h.body);
      kept = on.0 ∙ h.kept;
      releasing = on.1;
    }

kept_told : (w : Work) (m : Message) → Kept w m → MessageIs w m
kept_told w m h = subst (MessageIs w) (sym h.is) (record { sender = refl; stamp = refl; says = (refl, refl, h.kept) })

all_kept_on : (a b : Work) (ms : List Message) → Keeps a b → AllByRecursion (Kept a) ms → AllByRecursion (Kept b) ms
all_kept_on a b ms k h = all_on (Kept a) (Kept b) ms (λ m. kept_on a b m k) h

recalled_not : (s : Lease) → is_recalled s ≡ true → is_releasing s ≡ true → ⊥
recalled_not lease.Held h k = cc h
recalled_not lease.None h k = cc h
recalled_not lease.Recalled h k = cc k
recalled_not lease.Releasing h k = cc h

ready_recalled : (a b : Bool) → a && b ≡ true → a ≡ true
ready_recalled true b h = refl
ready_recalled false b h = absurd (cc h)

pub record Released (old new : Work) (ms : List Message) : Type 0 where
  pub keeps : Keeps old new
  pub all : AllByRecursion (Kept new) ms

-- leases where one page is given back
releasing_here : (m : Leases) (page : ℕ) → is_recalled (lease_of m page).state ≡ true → is_releasing (lease_of (desk.releasing m page) page).state ≡ true
releasing_here m page h = by (fin.get m page) h
  where
    by : (o : Option PageLease) → is_recalled (desk.or_unseen o).state ≡ true → is_releasing (lease_of (desk.releasing_from m page o) page).state ≡ true
    by None k = absurd (cc k)
    by (Some l) k = ap (λ (b : Bool). is_releasing (lease_of (set_if m page (record l { state = lease.Releasing }) b) page).state) k ∙ at (record l { state = lease.Releasing })
      where
        at : (new : PageLease) → is_releasing (lease_of (fin.insert m page new) page).state ≡ is_releasing new.state
        at new = grind (arith, nat_tests, gets)

releasing_other : (m : Leases) (page q : ℕ) → nat_eq q page ≡ false → is_releasing (lease_of (desk.releasing m page) q).state ≡ is_releasing (lease_of m q).state
releasing_other m page q other = by (fin.get m page)
  where
    set : (l : PageLease) (b : Bool) → is_releasing (lease_of (set_if m page l b) q).state ≡ is_releasing (lease_of m q).state
    set l false = refl
    set l true = grind (arith, nat_tests, gets)

    by : (o : Option PageLease) → is_releasing (lease_of (desk.releasing_from m page o) q).state ≡ is_releasing (lease_of m q).state
    by None = refl
    by (Some l) = set (record l { state = lease.Releasing }) (is_recalled l.state)

back_keeps : (w : Work) (page : ℕ) → is_recalled (lease_of w.leases page).state ≡ true → Keeps w (gives_back w page)
back_keeps w page ready = record { number = refl; of_clock = refl; of_log = refl; of_left = λ p h. by p h (nat_eq p page) refl }
  where
    by : (p : ℕ) → is_releasing (lease_of w.leases p).state ≡ true → (b : Bool) → nat_eq p page ≡ b
        → (fin.get (gives_back w page).left p ≡ fin.get w.left p) × (is_releasing (lease_of (gives_back w page).leases p).state ≡ true)
    by p h true is =
        let one : p ≡ page = grind (arith, nat_tests) in
        absurd (recalled_not (lease_of w.leases page).state ready (ap (λ (n : ℕ). is_releasing (lease_of w.leases n).state) (sym one) ∙ h))
    by p h false is = (other_left (left_of w page), releasing_other w.leases page p is ∙ h)
      where
        other_left : (l : Left) → fin.get (fin.insert w.left page l) p ≡ fin.get w.left p
        other_left l = grind (arith, nat_tests, gets)

left_here : (w : Work) (page : ℕ) (l : Left) → fin.get (fin.insert w.left page l) page ≡ Some l
left_here w page l = grind (arith, nat_tests, gets)

pub ready_released : (w : Work) (page : ℕ) → Released w (leases.releases_ready w page).0 (leases.releases_ready w page).1
ready_released w page = by (is_ready (lease_of w.leases page) (settled w)) refl
  where
    by : (b : Bool) → is_ready (lease_of w.leases page) (settled w) ≡ b → Released w (leases.releases_if w page b).0 (leases.releases_if w page b).1
    by false is = record { keeps = keeps_all w; all = tt }
    by true is =
        let recalled : is_recalled (lease_of w.leases page).state ≡ true = ready_recalled (is_recalled (lease_of w.leases page).state) (nat_le (lease_of w.leases page).stamp.0 (settled w)) is in
        record {
          keeps = back_keeps w page recalled;
          all = (record { page = page; body = left_of w page; is = refl; kept = left_here w page (left_of w page); releasing = releasing_here w.leases page recalled }, tt);
        }

append_all : (w : Work) (xs ys : List Message) → AllByRecursion (Kept w) xs → AllByRecursion (Kept w) ys → AllByRecursion (Kept w) (xs ++ ys)
append_all w [] ys h k = k
append_all w (x ∷ xs) ys h k = (h.0, append_all w xs ys h.1 k)

pub all_released : (ps : List ℕ) (w : Work) → Released w (leases.releases_all ps w).0 (leases.releases_all ps w).1
all_released [] w = record { keeps = keeps_all w; all = tt }
all_released (p ∷ ps) w =
    let one : Effect = leases.releases_ready w p in
    let rest : Effect = leases.releases_all ps one.0 in
    let a = ready_released w p in
    let b = all_released ps one.0 in
    record { keeps = keeps_both w one.0 rest.0 a.keeps b.keeps; all = append_all rest.0 one.1 rest.1 (all_kept_on one.0 rest.0 one.1 b.keeps a.all) b.all }

kept_all_told : (w : Work) (ms : List Message) → AllByRecursion (Kept w) ms → MessagesAre w ms
kept_all_told w ms h = all_on (Kept w) (MessageIs w) ms (kept_told w) h

-- ---- acknowledgements

abbrev stable_by : ℕ → clock.State → Log → ℕ → Message
stable_by number s log store =
    record { from = Master number; to = LogStore store; stamp = record { 0 = s.scalar }; note = note.Stable log.writer (durable_seq log) }

stable_told : (a b : Work) (store : ℕ) → Keeps a b → IsLogStore (LogStore store) → MessageIs b (acks.stable a store)
stable_told a b store k to =
    subst (MessageIs b) (λ i. stable_by (k.number i) (k.of_clock i) (k.of_log i) store) (record { sender = refl; stamp = refl; says = (to, refl, refl) })

-- The log's durable groups go: what is told of it is so still.
stable_gone : (a b : Work) (store : ℕ) → Keeps a b → IsLogStore (LogStore store) → MessageIs (acks.lets_go b) (acks.stable a store)
stable_gone a b store k to =
    let h = stable_told a b store k to in
    record { sender = h.sender; stamp = h.stamp; says = (h.says.0, h.says.1, h.says.2 ∙ sym (same_durable b.log)) }

kept_gone : (w : Work) (ms : List Message) → AllByRecursion (Kept w) ms → AllByRecursion (Kept (acks.lets_go w)) ms
kept_gone w ms h = all_on (Kept w) (Kept (acks.lets_go w)) ms (λ m k. record { page = k.page; body = k.body; is = k.is; kept = k.kept; releasing = k.releasing }) h

first_store : IsLogStore (LogStore 1)
first_store = inl refl

second_store : IsLogStore (LogStore 2)
second_store = inr (inl refl)

third_store : IsLogStore (LogStore 3)
third_store = inr (inr refl)

pub more_told : (w : Work) (old : ℕ) (b : Bool) → MessagesAre (acks.on_more w old b).0 (acks.on_more w old b).1
more_told w old false = tt
more_told w old true =
    let cut : Work = record w { tags = acks.without_all w.tags (acks.ends_between w.log old (durable w)) } in
    let gone : Effect = leases.releases_all (leases.recalled_pages w) cut in
    let h = all_released (leases.recalled_pages w) cut in
    (stable_gone cut gone.0 1 h.keeps first_store, (stable_gone cut gone.0 2 h.keeps second_store, (stable_gone cut gone.0 3 h.keeps third_store, kept_all_told (acks.lets_go gone.0) gone.1 (kept_gone gone.0 gone.1 h.all))))

pub ready_told : (w : Work) (page : ℕ) → MessagesAre (leases.releases_ready w page).0 (leases.releases_ready w page).1
ready_told w page = kept_all_told (leases.releases_ready w page).0 (leases.releases_ready w page).1 (ready_released w page).all

pub again_told : (w : Work) (page : ℕ) (o : Option Left) → fin.get w.left page ≡ o → MessagesAre w (leases.again w page o)
again_told w page None is = tt
again_told w page (Some l) is = (record { sender = refl; stamp = refl; says = (refl, refl, is) }, tt)

-- ---- a tick

self_in : (gs : List Group) → AllByRecursion (Contains gs) gs
self_in [] = tt
self_in (g ∷ gs) = (Contains-append_left (g ∷ []) gs g (Contains-push [] g), all_on (Contains gs) (Contains (g ∷ gs)) gs (λ x. Contains-append_right (g ∷ []) gs x) (self_in gs))

some_logged : (P : Group → Type 0) (test : Logged → Bool) (ls : List Logged) → AllByRecursion P (groups_in ls) → AllByRecursion P (map (λ l. l.group) (filter test ls))
some_logged P test [] h = tt
some_logged P test (l ∷ ls) h = by (test l) (some_logged P test ls h.1)
  where
    by : (b : Bool) → AllByRecursion P (map (λ x. x.group) (filter test ls)) → AllByRecursion P (map (λ x. x.group) (cond b (l ∷ filter test ls) (filter test ls)))
    by true rest = (h.0, rest)
    by false rest = rest

some_taken : (P : Group → Type 0) (n : ℕ) (gs : List Group) → AllByRecursion P gs → AllByRecursion P (take n gs)
some_taken P zero gs h = tt
some_taken P (suc n) [] h = tt
some_taken P (suc n) (g ∷ gs) h = (h.0, some_taken P n gs h.1)

resends_told : (w : Work) (store : ℕ) → IsLogStore (LogStore store) → MessagesAre w (acks.resends w store)
resends_told w store to = both_told w (map (λ g. acks.append w g store) (resent w.log.groups store)) (acks.stable_if w store (nat_lt 0 (durable w))) (all_appends (resent w.log.groups store) there) (if_stable (nat_lt 0 (durable w)))
  where
    there : AllByRecursion (Contains (groups_of w.log)) (resent w.log.groups store)
    there = some_taken (Contains (groups_of w.log)) 16 (unacked w.log.groups store) (some_logged (Contains (groups_of w.log)) _ w.log.groups (self_in (groups_of w.log)))

    all_appends : (gs : List Group) → AllByRecursion (Contains (groups_of w.log)) gs → MessagesAre w (map (λ g. acks.append w g store) gs)
    all_appends [] h = tt
    all_appends (g ∷ gs) h = (record { sender = refl; stamp = refl; says = (to, h.0) }, all_appends gs h.1)

    if_stable : (b : Bool) → MessagesAre w (acks.stable_if w store b)
    if_stable false = tt
    if_stable true = (record { sender = refl; stamp = refl; says = (to, refl, refl) }, tt)

releases_told : (w : Work) (ps : List ℕ) → MessagesAre w (acks.releases_again w ps)
releases_told w [] = tt
releases_told w (p ∷ ps) = both_told w (leases.again w p (fin.get w.left p)) (acks.releases_again w ps) (again_told w p (fin.get w.left p) refl) (releases_told w ps)

pub ticked_told : (w : Work) → MessagesAre w (acks.ticked w)
ticked_told w =
    let again : List Message = acks.releases_again w (leases.releasing_pages w) in
    let want : List Message = to_locks w (note.Want None) ∷ [] in
    both_told w (((acks.resends w 1 ++ acks.resends w 2) ++ acks.resends w 3) ++ again) want
    (both_told w ((acks.resends w 1 ++ acks.resends w 2) ++ acks.resends w 3) again
    (both_told w (acks.resends w 1 ++ acks.resends w 2) (acks.resends w 3) (both_told w (acks.resends w 1) (acks.resends w 2) (resends_told w 1 first_store) (resends_told w 2 second_store)) (resends_told w 3 third_store))
    (releases_told w (leases.releasing_pages w)))
    (record { sender = refl; stamp = refl; says = (refl, refl) }, tt)
