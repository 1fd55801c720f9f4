-- What holds of a master's leases holds after each move.
use Rattle.std.proofs.Common.{◌≡◌, ◌≤◌, ℕ, Bool, true, false, List, Option, Some, None, refl, ap, sym, subst, ◌∙◌, arith}
use Rattle.std.specs.Prelude.{nat_eq, nat_lt, ◌&&◌}
use Rattle.std.specs.Ordering.{nat_cmp}
use Rattle.std.specs.FinMap.{FinMap, gets}
use Rattle.std.specs.FinMap as fin
use Rattle.std.proofs.lemmas.Bool.Decides.{nat_tests}
use Rattle.tm_data.specs.declared.image.Image.{Image}
use Rattle.tm_data.specs.declared.transaction.Stamp.{Stamp}
use Rattle.lease_desk.specs.declared.lease.Lease.{Lease}
use Rattle.lease_desk.specs.declared.lease.Lease.TheVariants as lease
use Rattle.lease_desk.specs.declared.lease.PageLease.{PageLease}
use Rattle.lease_desk.specs.Desk as desk
use Rattle.lease_desk.specs.Desk.{Leases, is_held, is_recalled, is_releasing, lease_of, set_if}
use Rattle.master_model.specs.declared.left.Left.{Left}
use Rattle.master_model.specs.State.{Work}
use Rattle.master_model.specs.Leases.{left_of, with_images}
use Rattle.master_model.specs.Facts.{IsToldOf, LeaseFact, LeaseFacts, is_out}
use Rattle.master_model.proofs.Moves.{Closed}

abbrev Lefts : Type 0
Lefts = FinMap nat_cmp Left

-- A page that isn't being given back, of which nothing is kept.
fact_none : (at : PageLease) → (is_out at.state ≡ true → 1 ≤ at.epoch) → is_releasing at.state ≡ false → LeaseFact at None
fact_none at epoch not = record { epoch = epoch; told = λ l is. absurd (cc is); kept_so = λ is. absurd (cc (not, is)) }

-- Nothing is kept of a page that isn't being given back.
none_kept : (at : PageLease) (o : Option Left) → LeaseFact at o → is_releasing at.state ≡ false → o ≡ None
none_kept at None f not = refl
none_kept at (Some l) f not = absurd (let h : is_releasing at.state ≡ true = (f.told l refl).releasing in cc (h, not))

-- One page's lease and what is kept of it change.
facts_at : (m n : Leases) (old new : Lefts) (page : ℕ) → ((q : ℕ) → nat_eq q page ≡ false → (lease_of n q ≡ lease_of m q) × (fin.get new q ≡ fin.get old q)) → LeaseFact (lease_of n page) (fin.get new page)
    → LeaseFacts m old → LeaseFacts n new
facts_at m n old new page others here f q = by (nat_eq q page) refl
  where
    by : (b : Bool) → nat_eq q page ≡ b → LeaseFact (lease_of n q) (fin.get new q)
    by true is = let one : q ≡ page = grind (arith, nat_tests) in subst (λ (k : ℕ). LeaseFact (lease_of n k) (fin.get new k)) (sym one) here
    by false is =
        let same = others q is in
        subst (λ (o : Option Left). LeaseFact (lease_of n q) o) (sym same.1) (subst (λ (a : PageLease). LeaseFact a (fin.get old q)) (sym same.0) (f q))

pub lease_other : (m : Leases) (page q : ℕ) (l : PageLease) → nat_eq q page ≡ false → lease_of (fin.insert m page l) q ≡ lease_of m q
lease_other m page q l other = grind (arith, nat_tests, gets)

pub lease_here : (m : Leases) (page : ℕ) (l : PageLease) → lease_of (fin.insert m page l) page ≡ l
lease_here m page l = grind (arith, nat_tests, gets)

pub removed_here : (left : Lefts) (page : ℕ) → fin.get (fin.remove left page) page ≡ None
removed_here left page = grind (arith, nat_tests, gets)

pub removed_other : (left : Lefts) (page q : ℕ) → nat_eq q page ≡ false → fin.get (fin.remove left page) q ≡ fin.get left q
removed_other left page q other = grind (arith, nat_tests, gets)

pub kept_here : (left : Lefts) (page : ℕ) (l : Left) → fin.get (fin.insert left page l) page ≡ Some l
kept_here left page l = grind (arith, nat_tests, gets)

pub kept_other : (left : Lefts) (page q : ℕ) (l : Left) → nat_eq q page ≡ false → fin.get (fin.insert left page l) q ≡ fin.get left q
kept_other left page q l other = grind (arith, nat_tests, gets)

-- A lease that changes where the test passes, with nothing kept of the page.
facts_set : (m : Leases) (left : Lefts) (page : ℕ) (new : PageLease) (b : Bool) → (b ≡ true → LeaseFact new (fin.get left page)) → LeaseFacts m left → LeaseFacts (set_if m page new b) left
facts_set m left page new false h f = f
facts_set m left page new true h f =
    facts_at m (fin.insert m page new) left left page (λ q other. (lease_other m page q new other, refl)) (subst (λ (a : PageLease). LeaseFact a (fin.get left page)) (sym (lease_here m page new)) (h refl)) f

pub held_not : (s : Lease) → is_held s ≡ true → is_releasing s ≡ false
held_not lease.Held h = refl
held_not lease.None h = absurd (cc h)
held_not lease.Recalled h = refl
held_not lease.Releasing h = absurd (cc h)

held_out : (s : Lease) → is_held s ≡ true → is_out s ≡ true
held_out lease.Held h = refl
held_out lease.None h = absurd (cc h)
held_out lease.Recalled h = refl
held_out lease.Releasing h = refl

pub first_of_two : (a b : Bool) → a && b ≡ true → a ≡ true
first_of_two true b h = refl
first_of_two false b h = absurd (cc h)

-- A held page keeps its epoch and isn't being given back.
facts_held : (m : Leases) (left : Lefts) (page : ℕ) (l new : PageLease) (b : Bool) → fin.get m page ≡ Some l → (b ≡ true → is_held l.state ≡ true) → new.epoch ≡ l.epoch → is_releasing new.state ≡ false
    → LeaseFacts m left → LeaseFacts (set_if m page new b) left
facts_held m left page l new b found held same not f = facts_set m left page new b (λ is.
    let at : lease_of m page ≡ l = ap desk.or_unseen found in
    let old : LeaseFact l (fin.get left page) = subst (λ (a : PageLease). LeaseFact a (fin.get left page)) at (f page) in
    let none : fin.get left page ≡ None = none_kept l (fin.get left page) old (held_not l.state (held is)) in
    subst (λ (o : Option Left). LeaseFact new o) (sym none) (fact_none new (λ out. omega (arith, same, old.epoch (held_out l.state (held is)))) not)) f

facts_changed : (m : Leases) (left : Lefts) (page : ℕ) (stamp : Stamp) → LeaseFacts m left → LeaseFacts (desk.changed m page stamp) left
facts_changed m left page stamp f = by (fin.get m page) refl
  where
    by : (o : Option PageLease) → fin.get m page ≡ o → LeaseFacts (desk.changed_from m page stamp o) left
    by None is = f
    by (Some l) is = at (is_held l.state) refl
      where
        at : (b : Bool) → is_held l.state ≡ b → LeaseFacts (set_if m page (record l { stamp = stamp }) b) left
        at false not = f
        at true held = facts_held m left page l (record l { stamp = stamp }) true is (λ h. held) refl (held_not l.state held) f

facts_recalled : (m : Leases) (left : Lefts) (page epoch : ℕ) → LeaseFacts m left → LeaseFacts (desk.recalled m page epoch) left
facts_recalled m left page epoch f = by (fin.get m page) refl
  where
    by : (o : Option PageLease) → fin.get m page ≡ o → LeaseFacts (desk.recalled_from m page epoch o) left
    by None is = f
    by (Some l) is = facts_held m left page l (record l { state = lease.Recalled }) (is_held l.state && nat_eq l.epoch epoch) is (first_of_two (is_held l.state) (nat_eq l.epoch epoch)) refl refl f

-- A grant, of which nothing is kept.
facts_granted : (m : Leases) (left : Lefts) (page epoch : ℕ) (stamp : Stamp) → nat_lt (lease_of m page).epoch epoch ≡ true → LeaseFacts m left → LeaseFacts (desk.granted m page epoch stamp) (fin.remove left page)
facts_granted m left page epoch stamp is f = subst (λ (b : Bool). LeaseFacts (set_if m page l b) (fin.remove left page)) (sym is)
    (facts_at m (fin.insert m page l) left (fin.remove left page) page (λ q other. (lease_other m page q l other, removed_other left page q other))
    (subst (λ (a : PageLease). LeaseFact a (fin.get (fin.remove left page) page)) (sym (lease_here m page l)) (subst (λ (o : Option Left). LeaseFact l o) (sym (removed_here left page)) (fact_none l (λ out. above) refl))) f)
  where
    l : PageLease
    l = record { epoch = epoch; state = lease.Held; stamp = stamp }

    above : 1 ≤ epoch
    above = grind (arith, nat_tests)

pub second_of_two : (a b : Bool) → a && b ≡ true → b ≡ true
second_of_two true b h = h
second_of_two false b h = absurd (cc h)

-- A fresh page was never here.
facts_fresh : (m : Leases) (left : Lefts) (page : ℕ) → nat_eq (lease_of m page).epoch 0 ≡ true → LeaseFacts m left → LeaseFacts (desk.granted m page 1 (record { 0 = 0 })) left
facts_fresh m left page is f = facts_set m left page new (nat_lt (lease_of m page).epoch 1) (λ b. subst (λ (o : Option Left). LeaseFact new o) (sym (unused (lease_of m page) (fin.get left page) (f page) is)) (fact_none new (λ out. omega arith) refl)) f
  where
    new : PageLease
    new = record { epoch = 1; state = lease.Held; stamp = record { 0 = 0 } }

    out_of : (s : Lease) → is_releasing s ≡ true → is_out s ≡ true
    out_of lease.Held h = refl
    out_of lease.None h = absurd (cc h)
    out_of lease.Recalled h = refl
    out_of lease.Releasing h = refl

    unused : (at : PageLease) (o : Option Left) → LeaseFact at o → nat_eq at.epoch 0 ≡ true → o ≡ None
    unused at None h zero_is = refl
    unused at (Some l) h zero_is =
        let most : 1 ≤ at.epoch = h.epoch (out_of at.state (h.told l refl).releasing) in
        let none : at.epoch ≡ 0 = grind (arith, nat_tests) in absurd (omega (arith, most, none))

-- A page that is given back.
facts_back : (w : Work) (page : ℕ) → is_recalled (lease_of w.leases page).state ≡ true → LeaseFacts w.leases w.left → LeaseFacts (desk.releasing w.leases page) (fin.insert w.left page (left_of w page))
facts_back w page recalled f = by (fin.get w.leases page) refl
  where
    out_of : (s : Lease) → is_recalled s ≡ true → is_out s ≡ true
    out_of lease.Held h = refl
    out_of lease.None h = absurd (cc h)
    out_of lease.Recalled h = refl
    out_of lease.Releasing h = refl

    by : (o : Option PageLease) → fin.get w.leases page ≡ o → LeaseFacts (desk.releasing_from w.leases page o) (fin.insert w.left page (left_of w page))
    by None is = absurd (let h : is_recalled (desk.or_unseen None).state ≡ true = ap (λ (o : Option PageLease). is_recalled (desk.or_unseen o).state) (sym is) ∙ recalled in cc h)
    by (Some l) is =
        let at : lease_of w.leases page ≡ l = ap desk.or_unseen is in
        let yes : is_recalled l.state ≡ true = ap (λ (a : PageLease). is_recalled a.state) (sym at) ∙ recalled in
        let new : PageLease = record l { state = lease.Releasing } in
        let told : Left = left_of w page in
        let fact : LeaseFact new (Some told) = record {
          epoch = λ out. omega (arith, (f page).epoch (out_of (lease_of w.leases page).state recalled), ap (λ (a : PageLease). a.epoch) at);
          told = λ t k. subst (IsToldOf new) (some_is told t k) (record { releasing = refl; epoch = ap (λ (a : PageLease). a.epoch) at; stamp = ap (λ (a : PageLease). a.stamp) at });
          kept_so = λ k. refl;
        } in
        subst (λ (b : Bool). LeaseFacts (set_if w.leases page new b) (fin.insert w.left page told)) (sym yes)
        (facts_at w.leases (fin.insert w.leases page new) w.left (fin.insert w.left page told) page (λ q other. (lease_other w.leases page q new other, kept_other w.left page q told other))
        (subst (λ (a : PageLease). LeaseFact a (fin.get (fin.insert w.left page told) page)) (sym (lease_here w.leases page new)) (subst (λ (o : Option Left). LeaseFact new o) (sym (kept_here w.left page told)) fact)) f)
      where
        some_is : (a b : Left) → Some a ≡ Some b → a ≡ b
        some_is a b k = cc k

-- A lease that is over.
facts_over : (w : Work) (page epoch : ℕ) → is_releasing (lease_of w.leases page).state && nat_eq (lease_of w.leases page).epoch epoch ≡ true → LeaseFacts w.leases w.left
    → LeaseFacts (desk.released w.leases page epoch) (fin.remove w.left page)
facts_over w page epoch is f = by (fin.get w.leases page) refl
  where
    by : (o : Option PageLease) → fin.get w.leases page ≡ o → LeaseFacts (desk.released_from w.leases page epoch o) (fin.remove w.left page)
    by None found = absurd (let h = ap (λ (o : Option PageLease). is_releasing (desk.or_unseen o).state && nat_eq (desk.or_unseen o).epoch epoch) (sym found) ∙ is in cc h)
    by (Some l) found =
        let at : lease_of w.leases page ≡ l = ap desk.or_unseen found in
        let yes : is_releasing l.state && nat_eq l.epoch epoch ≡ true = ap (λ (a : PageLease). is_releasing a.state && nat_eq a.epoch epoch) (sym at) ∙ is in
        let new : PageLease = record l { state = lease.None } in
        subst (λ (b : Bool). LeaseFacts (set_if w.leases page new b) (fin.remove w.left page)) (sym yes)
        (facts_at w.leases (fin.insert w.leases page new) w.left (fin.remove w.left page) page (λ q other. (lease_other w.leases page q new other, removed_other w.left page q other))
        (subst (λ (a : PageLease). LeaseFact a (fin.get (fin.remove w.left page) page)) (sym (lease_here w.leases page new)) (subst (λ (o : Option Left). LeaseFact new o) (sym (removed_here w.left page)) (fact_none new (λ out. absurd (cc out)) refl))) f)

-- ---- all of it

abbrev pub LeaseMoves : Work → Work → Type 0
LeaseMoves a b = LeaseFacts a.leases a.left → LeaseFacts b.leases b.left

image_leases : (w : Work) (o : Option (List Image)) → LeaseMoves w (with_images w o)
image_leases w None f = f
image_leases w (Some images) f = f

pub lease_moves : Closed LeaseMoves
lease_moves = record {
  none = λ w f. f;
  both = λ a b c h k f. k (h f);
  hears_stamp = λ w stamp h f. f;
  hears_vector = λ w vector h f. f;
  acks = λ w store seq h came f. f;
  acks_more = λ w store seq h came f. f;
  let_go = λ w may f. f;
  group = λ w records none room f. f;
  change = λ w r stamp page is f. facts_changed w.leases w.left page (record { 0 = stamp }) f;
  grant = λ w page epoch stamp tags vector new brought fits granted f. facts_granted w.leases w.left page.0 epoch stamp new f;
  image = λ w image held same. image_leases w _;
  fresh_page = λ w page is came f. facts_fresh w.leases w.left page.0 (second_of_two (nat_lt 1024 page.0) (nat_eq (lease_of w.leases page.0).epoch 0) is) f;
  fresh_none = λ w f. f;
  recall = λ w page epoch came f. facts_recalled w.leases w.left page epoch f;
  give_back = λ w page is came f. facts_back w page (first_of_two (is_recalled (lease_of w.leases page).state) _ is) f;
  release = λ w page epoch is f. facts_over w page epoch is f;
  path = λ w path f. f;
  end = λ w t is f. f;
  mark = λ w t is known f. f;
  name = λ w t f. f;
  begin = λ w session is f. f;
  tag = λ w session page key own is active held f. f;
  put = λ w p leaf path fresh count is some f. f;
  session = λ w session own left is going f. f;
  ends = λ w session own committed is going room f. f;
  free = λ w session own committed seq is at durable f. f;
}

abbrev no_lease : Leases
no_lease = fin.empty

abbrev no_left : Lefts
no_left = fin.empty

-- A writer that has just joined.
pub no_leases : LeaseFacts fin.empty fin.empty
no_leases page = by (fin.get-empty nat_cmp page) (fin.get-empty nat_cmp page)
  where
    by : fin.get no_lease page ≡ None → fin.get no_left page ≡ None → LeaseFact (lease_of no_lease page) (fin.get no_left page)
    by a b =
        subst (λ (o : Option Left). LeaseFact (lease_of no_lease page) o) (sym b)
        (subst (λ (o : Option PageLease). LeaseFact (desk.or_unseen o) None) (sym a) (fact_none desk.unseen (λ out. absurd (cc out)) refl))
