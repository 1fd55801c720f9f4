-- A recalled page goes once its last change is durable.
use Rattle.std.proofs.Common.{◌≡◌, ◌≤◌, ◌<◌, ◌+◌, ◌-◌, ℕ, zero, suc, Bool, true, false, List, [], ◌∷◌, ◌++◌, Option, Some, None, refl, ap, sym, subst, ◌∙◌, cond, arith}
use Rattle.std.specs.Prelude.{nat_eq, nat_lt, nat_le, ◌&&◌, ◌||◌, slice_get}
use Rattle.std.specs.List.{list_any}
use Rattle.std.specs.Ordering.{nat_cmp, eq_by_cmp}
use Rattle.std.specs.FinMap as fin
use Rattle.std.specs.FinMap.Entries.{find}
use Rattle.std.proofs.lemmas.Bool.Decides.{nat_tests}
use Rattle.tm_data.specs.declared.image.Image.{Image}
use Rattle.tm_data.specs.declared.log.Group.{Group}
use Rattle.tm_data.specs.declared.transaction.Page.{Page}
use Rattle.tm_data.specs.declared.transaction.Stamp.{Stamp}
use Rattle.tm_data.specs.declared.transaction.Writer.{Writer}
use Rattle.tm_base.specs.declared.command.Command.{Command}
use Rattle.tm_base.specs.declared.message.Message.{Message}
use Rattle.tm_base.specs.declared.message.Node.{Node}
use Rattle.tm_base.specs.declared.message.Node.TheVariants.{LogStore}
use Rattle.tm_base.specs.declared.message.Note.{Note}
use Rattle.tm_base.specs.declared.message.Note.TheVariants as note
use Rattle.vs_clock.specs.State as clock
use Rattle.log_writer.specs.declared.logged.Logged.{Logged}
use Rattle.log_writer.specs.Acks.{has_all}
use Rattle.log_writer.specs.Log.{acked_at, appended, durable_count, settled_before, unacknowledged}
use Rattle.log_writer.proofs.LetGoLemmas.{same_settled}
use Rattle.lease_desk.specs.declared.lease.Lease.{Lease}
use Rattle.lease_desk.specs.declared.lease.Lease.TheVariants as lease
use Rattle.lease_desk.specs.declared.lease.PageLease.{PageLease}
use Rattle.lease_desk.specs.Desk as desk
use Rattle.lease_desk.specs.Desk.{Leases, is_held, is_ready, is_recalled, lease_of, or_unseen, recalled, set_if}
use Rattle.master_model.specs.State.{Work, Life, State, Effect, durable, joined, settled, writer_of}
use Rattle.master_model.specs.Logging.{next_group}
use Rattle.master_model.specs.Ends.{end_of}
use Rattle.master_model.specs.Reads.{txn_numbered}
use Rattle.master_model.specs.Leases as leases
use Rattle.master_model.specs.Leases.{pages_in, recalled_pages, with_images}
use Rattle.master_model.specs.Acks as acks
use Rattle.master_model.specs.Step as does
use Rattle.master_model.specs.Step.{step, on_command}
use Rattle.master_model.specs.Facts.{Brings, BringsNote, LifeRests, PagesRest, Rests, groups_in}
use Rattle.master_model.proofs.Moves.{Cause, Acked, GivenBack, ClosedFor, with_ack_of, without_ended}
use Rattle.master_model.proofs.StepMoves.{AllowsFresh, command_moves, note_moves_for}
use Rattle.master_model.proofs.GoesLemmas.{acked_is}
use Rattle.master_model.proofs.LeaseLemmas.{lease_here, lease_other}
use Rattle.master_model.proofs.CauseLemmas.{joins_or_not}

-- ---- one page

-- As the scalar rises.
rests_later : (o : Option Logged) (l : PageLease) (s t : ℕ) → s ≤ t → Rests l (settled_before o s) s → Rests l (settled_before o t) t
rests_later (Some g) l s t less h = record { waits = h.waits; heard = omega (arith, less, h.heard) }
rests_later None l s t less h = record { waits = by (is_recalled l.state) (nat_le l.stamp.0 s) refl h.waits; heard = omega (arith, less, h.heard) }
  where
    by : (a b : Bool) → nat_le l.stamp.0 s ≡ b → a && b ≡ false → a && nat_le l.stamp.0 t ≡ false
    by false b is k = refl
    by true true is k = absurd (cc k)
    by true false is k = let above : s < l.stamp.0 = grind (arith, nat_tests) in absurd (omega (arith, above, h.heard))

-- One page's lease is another one, where the test passes.
rests_set : (m : Leases) (page : ℕ) (new : PageLease) (b : Bool) (k s : ℕ) → ((q : ℕ) → nat_eq q page ≡ false → Rests (lease_of m q) k s) → (b ≡ false → Rests (lease_of m page) k s) → (b ≡ true → Rests new k s) → (q : ℕ) → Rests (lease_of (set_if m page new b) q) k s
rests_set m page new b k s others old h q = by (nat_eq q page) refl b old h
  where
    here : (b : Bool) → (b ≡ false → Rests (lease_of m page) k s) → (b ≡ true → Rests new k s) → Rests (lease_of (set_if m page new b) page) k s
    here true old h = subst (λ (l : PageLease). Rests l k s) (sym (lease_here m page new)) (h refl)
    here false old h = old refl

    there : nat_eq q page ≡ false → (b : Bool) → Rests (lease_of (set_if m page new b) q) k s
    there apart true = subst (λ (l : PageLease). Rests l k s) (sym (lease_other m page q new apart)) (others q apart)
    there apart false = others q apart

    by : (c : Bool) → nat_eq q page ≡ c → (b : Bool) → (b ≡ false → Rests (lease_of m page) k s) → (b ≡ true → Rests new k s) → Rests (lease_of (set_if m page new b) q) k s
    by true is b old h = let one : page ≡ q = grind (arith, nat_tests) in subst (λ (n : ℕ). Rests (lease_of (set_if m page new b) n) k s) one (here b old h)
    by false is b old h = there is b

held_not_recalled : (s : Lease) → is_held s ≡ true → is_recalled s ≡ false
held_not_recalled lease.Held h = refl
held_not_recalled lease.None h = refl
held_not_recalled lease.Recalled h = absurd (cc h)
held_not_recalled lease.Releasing h = refl

abbrev AllRest : Leases → ℕ → ℕ → Type 0
AllRest m k s = (q : ℕ) → Rests (lease_of m q) k s

rests_changed : (m : Leases) (page : ℕ) (stamp : Stamp) (k s : ℕ) → stamp.0 ≤ s → AllRest m k s → AllRest (desk.changed m page stamp) k s
rests_changed m page stamp k s fits f = by (fin.get m page)
  where
    by : (o : Option PageLease) → AllRest (desk.changed_from m page stamp o) k s
    by None = f
    by (Some l) = rests_set m page (record l { stamp = stamp }) (is_held l.state) k s (λ q apart. f q) (λ not. f page) (λ held. record { waits = ap (λ (b : Bool). b && nat_le stamp.0 k) (held_not_recalled l.state held); heard = fits })

-- A lease in a state that isn't recalled, with the stamp that the page had.
rests_in : (m : Leases) (page : ℕ) (l new : PageLease) (b : Bool) (k s : ℕ) → fin.get m page ≡ Some l → is_recalled new.state ≡ false → new.stamp.0 ≡ l.stamp.0 → AllRest m k s → AllRest (set_if m page new b) k s
rests_in m page l new b k s is none same f =
    rests_set m page new b k s (λ q apart. f q) (λ not. f page) (λ may. record {
      waits = ap (λ (c : Bool). c && nat_le new.stamp.0 k) none;
      heard = omega (arith, same, ap (λ (o : Option PageLease). (or_unseen o).stamp.0) is, (f page).heard);
    })

rests_released : (m : Leases) (page epoch k s : ℕ) → AllRest m k s → AllRest (desk.released m page epoch) k s
rests_released m page epoch k s f = by (fin.get m page) refl
  where
    by : (o : Option PageLease) → fin.get m page ≡ o → AllRest (desk.released_from m page epoch o) k s
    by None is = f
    by (Some l) is = rests_in m page l (record l { state = lease.None }) _ k s is refl refl f

rests_back : (m : Leases) (page k s : ℕ) → AllRest m k s → AllRest (desk.releasing m page) k s
rests_back m page k s f = by (fin.get m page) refl
  where
    by : (o : Option PageLease) → fin.get m page ≡ o → AllRest (desk.releasing_from m page o) k s
    by None is = f
    by (Some l) is = rests_in m page l (record l { state = lease.Releasing }) _ k s is refl refl f

rests_granted : (m : Leases) (page epoch : ℕ) (stamp : Stamp) (k s : ℕ) → stamp.0 ≤ s → AllRest m k s → AllRest (desk.granted m page epoch stamp) k s
rests_granted m page epoch stamp k s fits f =
    rests_set m page (record { epoch = epoch; state = lease.Held; stamp = stamp }) _ k s (λ q apart. f q) (λ not. f page) (λ may. record { waits = refl; heard = fits })

-- ---- the log

-- One more group leaves the stamp up to which all is durable.
settled_pushed : (ls : List Logged) (x : Logged) (s t : ℕ) → has_all x.acks ≡ false → x.group.stamp.0 - 1 ≡ s
    → settled_before (slice_get (ls ++ x ∷ []) (durable_count (ls ++ x ∷ []))) t ≡ settled_before (slice_get ls (durable_count ls)) s
settled_pushed [] x s t none same = ap (λ (b : Bool). settled_before (slice_get (x ∷ []) (cond b (1 + 0) 0)) t) none ∙ same
settled_pushed (l ∷ ls) x s t none same = by (has_all l.acks) (settled_pushed ls x s t none same)
  where
    by : (b : Bool) → settled_before (slice_get (ls ++ x ∷ []) (durable_count (ls ++ x ∷ []))) t ≡ settled_before (slice_get ls (durable_count ls)) s
        → settled_before (slice_get (l ∷ ls ++ x ∷ []) (cond b (1 + durable_count (ls ++ x ∷ [])) 0)) t ≡ settled_before (slice_get (l ∷ ls) (cond b (1 + durable_count ls) 0)) s
    by true rest =
        let left : 1 + durable_count (ls ++ x ∷ []) ≡ suc (durable_count (ls ++ x ∷ [])) = omega arith in
        let right : suc (durable_count ls) ≡ 1 + durable_count ls = omega arith in
        ap (λ (n : ℕ). settled_before (slice_get (l ∷ ls ++ x ∷ []) n) t) left ∙ (rest ∙ ap (λ (n : ℕ). settled_before (slice_get (l ∷ ls) n) s) right)
    by false rest = refl

group_rests : (w : Work) (g : Group) (c : clock.State) → g.stamp.0 - 1 ≡ w.clock.scalar → w.clock.scalar ≤ c.scalar → PagesRest w → PagesRest (record w { clock = c; log = appended w.log g })
group_rests w g c next less f q = record {
  waits = ap (λ (n : ℕ). is_ready (lease_of w.leases q) n) (settled_pushed w.log.groups (unacknowledged g) w.clock.scalar c.scalar refl next) ∙ (f q).waits;
  heard = omega (arith, less, (f q).heard);
}

-- ---- small moves

clock_rests : (w : Work) (c : clock.State) → w.clock.scalar ≤ c.scalar → PagesRest w → PagesRest (record w { clock = c })
clock_rests w c less f q = rests_later (slice_get w.log.groups (durable_count w.log.groups)) (lease_of w.leases q) w.clock.scalar c.scalar less (f q)

abbrev pub Apart : Work → Cause → Type 0
Apart w (Acked store seq) = ⊥
Apart w (GivenBack page) = ⊥
Apart w other = Unit {0}

abbrev RestMoves : Work → Work → Type 0
RestMoves a b = PagesRest a → PagesRest b

image_rests : (w : Work) (o : Option (List Image)) → RestMoves w (with_images w o)
image_rests w None f = f
image_rests w (Some images) f = f

ticked_next : (n : ℕ) → n + 1 - 1 ≡ n
ticked_next n = omega arith

rest_moves : ClosedFor Apart RestMoves
rest_moves = record {
  none = λ w f. f;
  both = λ a b c h k f. k (h f);
  hears_stamp = λ w stamp fits f. clock_rests w (clock.heard_scalar w.clock stamp) (omega arith) f;
  hears_vector = λ w vector brought f. clock_rests w (clock.heard_vector w.clock vector) (omega arith) f;
  acks = λ w store seq is came f. absurd came;
  acks_more = λ w store seq is came f. absurd came;
  let_go = λ w may f. absurd (may 0);
  group = λ w records none room f. group_rests w (next_group w records) (clock.told (clock.ticked w.clock)) (ticked_next w.clock.scalar) (omega arith) f;
  change = λ w r stamp page is f. rests_changed w.leases page (record { 0 = stamp }) (settled w) w.clock.scalar (omega (arith, is)) f;
  grant = λ w page epoch stamp tags vector new brought fits granted f.
      let c : clock.State = clock.heard_vector (clock.heard_scalar w.clock stamp.0) vector in
      rests_granted w.leases page.0 epoch stamp (settled (record w { clock = c })) c.scalar (omega arith) (clock_rests w c (omega arith) f);
  image = λ w image held same. image_rests w _;
  fresh_page = λ w page is came f. rests_granted w.leases page.0 1 (record { 0 = 0 }) (settled w) w.clock.scalar (omega arith) f;
  fresh_none = λ w f. f;
  recall = λ w page epoch came f. absurd came;
  give_back = λ w page is came f. absurd came;
  release = λ w page epoch is f. rests_released w.leases page epoch (settled w) w.clock.scalar f;
  path = λ w path f. f;
  end = λ w t is f. f;
  mark = λ w t is known f. f;
  name = λ w t f. f;
  begin = λ w session is f. f;
  tag = λ w session page key own is active held f. f;
  put = λ w p leaf path fresh count is some f. f;
  session = λ w session own left is going f. f;
  ends = λ w session own committed is going room f. group_rests w (next_group w (end_of (txn_numbered w own.number) committed)) (clock.told (clock.ticked w.clock)) (ticked_next w.clock.scalar) (omega arith) f;
  free = λ w session own committed seq is at durable f. f;
}

-- ---- pages are given back

-- What may be recalled and ready is among these pages.
abbrev Among : ℕ → List ℕ → Bool
Among q ps = list_any (λ (p : ℕ). nat_eq q p) ps

record Covered (w : Work) (ps : List ℕ) : Type 0 where
  pub ready : (q : ℕ) → is_ready (lease_of w.leases q) (settled w) ≡ true → Among q ps ≡ true
  pub heard : (q : ℕ) → (lease_of w.leases q).stamp.0 ≤ w.clock.scalar

or_second : (a b : Bool) → a ≡ false → (a || b) ≡ true → b ≡ true
or_second false b h k = k
or_second true b h k = absurd (cc h)

or_right : (a b : Bool) → b ≡ true → (a || b) ≡ true
or_right true b h = refl
or_right false b h = h

or_left : (a b : Bool) → a ≡ true → (a || b) ≡ true
or_left true b h = refl
or_left false b h = absurd (cc h)

first_true : (a b : Bool) → a && b ≡ true → a ≡ true
first_true true b h = refl
first_true false b h = absurd (cc h)

apart_from : (m : Leases) (k : ℕ) (p q : ℕ) → is_ready (lease_of m p) k ≡ false → is_ready (lease_of m q) k ≡ true → nat_eq q p ≡ false
apart_from m k p q not may = by (nat_eq q p) refl
  where
    by : (b : Bool) → nat_eq q p ≡ b → b ≡ false
    by false is = refl
    by true is = let one : q ≡ p = grind (arith, nat_tests) in let no : is_ready (lease_of m q) k ≡ false = ap (λ (n : ℕ). is_ready (lease_of m n) k) one ∙ not in absurd (cc (no, may))

-- After one of them may have gone.
one_less : (w : Work) (p : ℕ) (ps : List ℕ) → Covered w (p ∷ ps) → Covered (leases.releases_ready w p).0 ps
one_less w p ps c = by (is_ready (lease_of w.leases p) (settled w)) refl
  where
    rest : (q : ℕ) → is_ready (lease_of w.leases q) (settled w) ≡ true → nat_eq q p ≡ false → Among q ps ≡ true
    rest q may apart = or_second (nat_eq q p) (Among q ps) apart (c.ready q may)

    back : (l : PageLease) → fin.get w.leases p ≡ Some l → (q : ℕ) → (b : Bool) → nat_eq q p ≡ b
        → (is_ready (lease_of (fin.insert w.leases p (record l { state = lease.Releasing })) q) (settled w) ≡ true → Among q ps ≡ true) × ((lease_of (fin.insert w.leases p (record l { state = lease.Releasing })) q).stamp.0 ≤ w.clock.scalar)
    back l is q true same =
        let new : PageLease = record l { state = lease.Releasing } in
        let one : q ≡ p = grind (arith, nat_tests) in
        let at : lease_of (fin.insert w.leases p new) q ≡ new = ap (λ (n : ℕ). lease_of (fin.insert w.leases p new) n) one ∙ lease_here w.leases p new in
        let stamp : new.stamp.0 ≤ w.clock.scalar = omega (arith, ap (λ (o : Option PageLease). (or_unseen o).stamp.0) is, c.heard p) in (
          λ may. let no : is_ready (lease_of (fin.insert w.leases p new) q) (settled w) ≡ false = ap (λ (x : PageLease). is_ready x (settled w)) at in absurd (cc (no, may)),
          omega (arith, ap (λ (x : PageLease). x.stamp.0) at, stamp),
        )
    back l is q false apart =
        let new : PageLease = record l { state = lease.Releasing } in
        let at : lease_of (fin.insert w.leases p new) q ≡ lease_of w.leases q = lease_other w.leases p q new apart in
        (λ may. rest q (sym (ap (λ (x : PageLease). is_ready x (settled w)) at) ∙ may) apart, omega (arith, ap (λ (x : PageLease). x.stamp.0) at, c.heard q))

    gone : (o : Option PageLease) → fin.get w.leases p ≡ o → is_ready (or_unseen o) (settled w) ≡ true → (m : Leases) → m ≡ desk.releasing_from w.leases p o
        → (q : ℕ) → (is_ready (lease_of m q) (settled w) ≡ true → Among q ps ≡ true) × ((lease_of m q).stamp.0 ≤ w.clock.scalar)
    gone None is may m same q = absurd (cc may)
    gone (Some l) is may m same q =
        let recalled : is_recalled l.state ≡ true = first_true (is_recalled l.state) (nat_le l.stamp.0 (settled w)) may in
        let new : PageLease = record l { state = lease.Releasing } in
        let all : m ≡ fin.insert w.leases p new = same ∙ ap (λ (b : Bool). set_if w.leases p new b) recalled in
        subst (λ (x : Leases). (is_ready (lease_of x q) (settled w) ≡ true → Among q ps ≡ true) × ((lease_of x q).stamp.0 ≤ w.clock.scalar)) (sym all) (back l is q (nat_eq q p) refl)

    by : (b : Bool) → is_ready (lease_of w.leases p) (settled w) ≡ b → Covered (leases.releases_if w p b).0 ps
    by false not = record { ready = λ q may. rest q may (apart_from w.leases (settled w) p q not may); heard = c.heard }
    by true may = record {
      ready = λ q. (gone (fin.get w.leases p) refl may (desk.releasing w.leases p) refl q).0;
      heard = λ q. (gone (fin.get w.leases p) refl may (desk.releasing w.leases p) refl q).1;
    }

none_left : (w : Work) → Covered w [] → PagesRest w
none_left w c q = record { waits = by (is_ready (lease_of w.leases q) (settled w)) refl; heard = c.heard q }
  where
    by : (b : Bool) → is_ready (lease_of w.leases q) (settled w) ≡ b → b ≡ false
    by false is = refl
    by true is = let no : false ≡ true = c.ready q is in absurd (cc no)

all_rest : (ps : List ℕ) (w : Work) → Covered w ps → PagesRest (leases.releases_all ps w).0
all_rest [] w c = none_left w c
all_rest (p ∷ ps) w c = all_rest ps (leases.releases_ready w p).0 (one_less w p ps c)

-- The recalled pages are all of them.
in_pages : (es : List (ℕ × PageLease)) (q : ℕ) → is_recalled (or_unseen (find nat_cmp q es)).state ≡ true → Among q (pages_in is_recalled es) ≡ true
in_pages [] q h = absurd (cc h)
in_pages (e ∷ es) q h = by (eq_by_cmp nat_cmp q e.0) (is_recalled e.1.state) refl refl h (in_pages es q)
  where
    same : (x y : ℕ) → eq_by_cmp nat_cmp x y ≡ true → nat_eq x y ≡ true
    same x y is = grind (arith, nat_tests)

    by : (a b : Bool) → eq_by_cmp nat_cmp q e.0 ≡ a → is_recalled e.1.state ≡ b → is_recalled (or_unseen (cond a (Some e.1) (find nat_cmp q es))).state ≡ true
        → (is_recalled (or_unseen (find nat_cmp q es)).state ≡ true → Among q (pages_in is_recalled es) ≡ true) → Among q (cond b (e.0 ∷ pages_in is_recalled es) (pages_in is_recalled es)) ≡ true
    by true true is_a is_b k rest = or_left (nat_eq q e.0) (Among q (pages_in is_recalled es)) (same q e.0 is_a)
    by true false is_a is_b k rest = absurd (cc (is_b, k))
    by false true is_a is_b k rest = or_right (nat_eq q e.0) (Among q (pages_in is_recalled es)) (rest k)
    by false false is_a is_b k rest = rest k

recalled_among : (w : Work) (q k : ℕ) → is_ready (lease_of w.leases q) k ≡ true → Among q (recalled_pages w) ≡ true
recalled_among w q k may =
    in_pages (fin.entries w.leases) q (ap (λ (o : Option PageLease). is_recalled (or_unseen o).state) (sym (fin.get-entries w.leases q)) ∙ first_true (is_recalled (lease_of w.leases q).state) (nat_le (lease_of w.leases q).stamp.0 k) may)

-- ---- acknowledgements and recalls

settled_groups : (a b : List Logged) (n s : ℕ) → groups_in a ≡ groups_in b → settled_before (slice_get a n) s ≡ settled_before (slice_get b n) s
settled_groups [] [] n s same = refl
settled_groups [] (y ∷ b) n s same = absurd (cc same)
settled_groups (x ∷ a) [] n s same = absurd (cc same)
settled_groups (x ∷ a) (y ∷ b) zero s same = let one : x.group ≡ y.group = cc same in ap (λ (g : Group). g.stamp.0 - 1) one
settled_groups (x ∷ a) (y ∷ b) (suc n) s same = let rest : groups_in a ≡ groups_in b = cc same in settled_groups a b n s rest

same_durable : (a b : ℕ) → nat_lt a b ≡ false → a ≤ b → b ≡ a
same_durable a b not less = let most : b ≤ a = grind (arith, nat_tests) in omega (arith, most, less)

acked_settled : (w : Work) (store seq : ℕ) → nat_lt (durable w) (durable (with_ack_of w store seq)) ≡ false → settled (with_ack_of w store seq) ≡ settled w
acked_settled w store seq not =
    let a = acked_is w.log store seq in
    let new : List Logged = acked_at w.log.groups store (seq - w.log.gone) in
    let same : durable_count new ≡ durable_count w.log.groups = omega (arith, same_durable (durable w) (durable (with_ack_of w store seq)) not a.durable) in
    ap (λ (n : ℕ). settled_before (slice_get new n) w.clock.scalar) same ∙ settled_groups new w.log.groups (durable_count w.log.groups) w.clock.scalar a.same

-- The durable groups go.
gone_rests : (w : Work) → PagesRest w → PagesRest (acks.lets_go w)
gone_rests w f q = record { waits = ap (λ (n : ℕ). is_ready (lease_of w.leases q) n) (same_settled w.log w.clock.scalar) ∙ (f q).waits; heard = (f q).heard }

ack_rests : (w : Work) (from : Node) (seq : ℕ) → PagesRest w → PagesRest (acks.on_ack w from seq).0
ack_rests w (LogStore store) seq f = by (nat_lt (durable w) (durable (with_ack_of w store seq))) refl
  where
    by : (b : Bool) → nat_lt (durable w) (durable (with_ack_of w store seq)) ≡ b → PagesRest (acks.on_more (with_ack_of w store seq) (durable w) b).0
    by false not = λ q. record { waits = ap (λ (n : ℕ). is_ready (lease_of w.leases q) n) (acked_settled w store seq not) ∙ (f q).waits; heard = (f q).heard }
    by true more =
        let told : Work = without_ended (with_ack_of w store seq) (durable w) in
        gone_rests (leases.releases_all (recalled_pages (with_ack_of w store seq)) told).0
        (all_rest (recalled_pages (with_ack_of w store seq)) told (record { ready = λ q. recalled_among told q (settled told); heard = λ q. (f q).heard }))
ack_rests w other seq f = f

recall_rests : (w : Work) (page epoch : ℕ) → PagesRest w → PagesRest (leases.on_recall w page epoch).0
recall_rests w page epoch f = by (nat_eq (lease_of w.leases page).epoch epoch)
  where
    told : Work
    told = record w { leases = recalled w.leases page epoch }

    other_ready : (o : Option PageLease) (q : ℕ) → nat_eq q page ≡ false → lease_of (desk.recalled_from w.leases page epoch o) q ≡ lease_of w.leases q
    other_ready None q apart = refl
    other_ready (Some l) q apart = set (is_held l.state && nat_eq l.epoch epoch)
      where
        set : (b : Bool) → lease_of (set_if w.leases page (record l { state = lease.Recalled }) b) q ≡ lease_of w.leases q
        set true = lease_other w.leases page q (record l { state = lease.Recalled }) apart
        set false = refl

    stamp_same : (o : Option PageLease) → fin.get w.leases page ≡ o → (lease_of (desk.recalled_from w.leases page epoch o) page).stamp.0 ≡ (lease_of w.leases page).stamp.0
    stamp_same None is = refl
    stamp_same (Some l) is = set (is_held l.state && nat_eq l.epoch epoch)
      where
        set : (b : Bool) → (lease_of (set_if w.leases page (record l { state = lease.Recalled }) b) page).stamp.0 ≡ (lease_of w.leases page).stamp.0
        set true = ap (λ (x : PageLease). x.stamp.0) (lease_here w.leases page (record l { state = lease.Recalled })) ∙ ap (λ (o : Option PageLease). (or_unseen o).stamp.0) (sym is)
        set false = refl

    covered : Covered told (page ∷ [])
    covered = record { ready = λ q may. ready_at q may (nat_eq q page) refl; heard = λ q. heard_at q (nat_eq q page) refl }
      where
        ready_at : (q : ℕ) → is_ready (lease_of told.leases q) (settled told) ≡ true → (b : Bool) → nat_eq q page ≡ b → Among q (page ∷ []) ≡ true
        ready_at q may true is = or_left (nat_eq q page) false is
        ready_at q may false is =
            let no : is_ready (lease_of told.leases q) (settled told) ≡ false = ap (λ (x : PageLease). is_ready x (settled w)) (other_ready (fin.get w.leases page) q is) ∙ (f q).waits in
            absurd (cc (no, may))

        heard_at : (q : ℕ) (b : Bool) → nat_eq q page ≡ b → (lease_of told.leases q).stamp.0 ≤ w.clock.scalar
        heard_at q true is =
            let one : q ≡ page = grind (arith, nat_tests) in
            subst (λ (n : ℕ). (lease_of told.leases n).stamp.0 ≤ w.clock.scalar) (sym one) (omega (arith, stamp_same (fin.get w.leases page) refl, (f page).heard))
        heard_at q false is = omega (arith, ap (λ (x : PageLease). x.stamp.0) (other_ready (fin.get w.leases page) q is), (f q).heard)

    in_state : (s : Lease) → PagesRest (leases.on_recall_in w page epoch s).0
    in_state lease.Held = none_left (leases.releases_ready told page).0 (one_less told page [] covered)
    in_state lease.Releasing = f
    in_state other = f

    by : (b : Bool) → PagesRest (leases.on_recall_if w page epoch b).0
    by true = in_state (lease_of w.leases page).state
    by false = f

-- ---- a message

own_rests : (l : Life) (writer : Writer) (e : Effect) → PagesRest l.work → PagesRest e.0 → PagesRest (does.own l writer e).0.work
own_rests l writer e f h = by (nat_eq writer.0 (writer_of l.work))
  where
    by : (b : Bool) → PagesRest (does.if_own l b e).0.work
    by true = h
    by false = f

pub fresh_apart : (w : Work) (writer : Writer) (page : Option Page) → AllowsFresh Apart w writer page
fresh_apart w writer None = tt
fresh_apart w writer (Some page) = λ is. tt

note_rests : (l : Life) (from : Node) (stamp : ℕ) (n : Note) → BringsNote n → PagesRest l.work → PagesRest (does.on_note l from stamp n).0.work
note_rests l from stamp (note.Ack writer seq) h f = own_rests l writer _ f (ack_rests l.work from seq f)
note_rests l from stamp (note.Recall writer page epoch) h f = own_rests l writer _ f (recall_rests l.work page.0 epoch f)
note_rests l from stamp (note.Grant writer page epoch of tags vector) h f = note_moves_for rest_moves l from stamp (note.Grant writer page epoch of tags vector) h (λ is. tt) tt f
note_rests l from stamp (note.FreshIs writer nth page) h f = note_moves_for rest_moves l from stamp (note.FreshIs writer nth page) h (fresh_apart l.work writer page) tt f
note_rests l from stamp other h f = note_moves_for rest_moves l from stamp other h tt tt f

no_leases_yet : Leases
no_leases_yet = fin.empty

joined_rests : (number stores : ℕ) (writer : Writer) (start : ℕ) → PagesRest (joined number stores writer start)
joined_rests number stores writer start q = subst (λ (o : Option PageLease). Rests (or_unseen o) (settled (joined number stores writer start)) start) (sym (fin.get-empty nat_cmp q)) (record { waits = refl; heard = omega arith })

pub message_rests : (s : State) (m : Message) → Brings m → LifeRests s.life → LifeRests (step s m).0.life
message_rests s m brings f = by s.life refl f
  where
    in_life : (l : Life) (b : Bool) → s.life ≡ Some l → PagesRest l.work → LifeRests (does.step_in s l m b).0.life
    in_life l true is h = f
    in_life l false is h = note_rests (does.heard l m.stamp.0) m.from m.stamp.0 m.note brings.0 (rest_moves.hears_stamp l.work m.stamp.0 brings.1 h)

    by : (o : Option Life) → s.life ≡ o → LifeRests o → LifeRests (does.step_by s m o).0.life
    by None is h = subst (λ (o : Option Life). LifeRests (does.step_by s m o).0.life) is (joins_or_not LifeRests s m is tt (λ l joins. subst (λ (x : Life). PagesRest x.work) (sym joins.life) (joined_rests s.number s.stores l.work.log.writer m.stamp.0)))
    by (Some l) is h = in_life l l.fenced is h

pub command_rests : (s : State) (session : ℕ) (asked : Command) → LifeRests s.life → LifeRests (on_command s session asked).0.life
command_rests s session asked f = by s.life f
  where
    in_life : (l : Life) (b : Bool) → PagesRest l.work → LifeRests (does.command_in s l session asked b).0.life
    in_life l true h = f
    in_life l false h = command_moves rest_moves l session asked h

    by : (o : Option Life) → LifeRests o → LifeRests (does.command_by s session asked o).0.life
    by None h = f
    by (Some l) h = in_life l l.fenced h
