-- How a page's lease goes on in its epoch, with what is kept of it.
use Rattle.std.proofs.Common.{◌≡◌, ◌≤◌, ◌+◌, ℕ, Bool, true, false, List, Option, Some, None, refl, ap, sym, subst, ◌∙◌, arith}
use Rattle.std.specs.Prelude.{nat_eq, nat_lt, ◌&&◌}
use Rattle.std.specs.Ordering.{nat_cmp}
use Rattle.std.specs.FinMap.{FinMap}
use Rattle.std.specs.FinMap as fin
use Rattle.std.proofs.lemmas.Bool.Decides.{nat_tests}
use Rattle.tm_data.specs.declared.image.Image.{Image}
use Rattle.tm_data.specs.declared.transaction.Stamp.{Stamp}
use Rattle.lease_desk.specs.declared.lease.Lease.{Lease}
use Rattle.lease_desk.specs.declared.lease.Lease.TheVariants as lease
use Rattle.lease_desk.specs.declared.lease.PageLease.{PageLease}
use Rattle.lease_desk.specs.Desk as desk
use Rattle.lease_desk.specs.Desk.{Leases, is_held, is_recalled, is_releasing, lease_of, set_if}
use Rattle.master_model.specs.declared.left.Left.{Left}
use Rattle.master_model.specs.State.{Work}
use Rattle.master_model.specs.Leases.{left_of, with_images}
use Rattle.master_model.specs.Goes.{PlaceGoes, PlacesGo, rank}
use Rattle.master_model.proofs.Moves.{Closed}
use Rattle.master_model.proofs.LeaseLemmas.{first_of_two, kept_other, lease_here, lease_other, removed_other, second_of_two}

abbrev Kept : Type 0
Kept = FinMap nat_cmp Left

place_stays : (l : PageLease) (k : Option Left) → PlaceGoes l l k k
place_stays l k = record { epoch = omega arith; rank = λ same. omega arith; kept = λ same old new. refl }

-- while it is at a rank between two, it is at theirs
rank_between : (a b c : Lease) → is_releasing a ≡ true → is_releasing c ≡ true → rank a ≤ rank b → rank b ≤ rank c → is_releasing b ≡ true
rank_between lease.Releasing lease.Releasing lease.Releasing h k x y = refl
rank_between lease.Releasing lease.Held lease.Releasing h k x y = absurd (omega (arith, x))
rank_between lease.Releasing lease.Recalled lease.Releasing h k x y = absurd (omega (arith, x))
rank_between lease.Releasing lease.None lease.Releasing h k x y = absurd (omega (arith, y))
rank_between lease.Held b c h k x y = absurd (cc h)
rank_between lease.Recalled b c h k x y = absurd (cc h)
rank_between lease.None b c h k x y = absurd (cc h)
rank_between lease.Releasing b lease.Held h k x y = absurd (cc k)
rank_between lease.Releasing b lease.Recalled h k x y = absurd (cc k)
rank_between lease.Releasing b lease.None h k x y = absurd (cc k)

place_both : (a b c : PageLease) (x y z : Option Left) → PlaceGoes a b x y → PlaceGoes b c y z → PlaceGoes a c x z
place_both a b c x y z h k = record {
  epoch = omega (arith, h.epoch, k.epoch);
  rank = λ same. omega (arith, h.rank (first same), k.rank (second same));
  kept = λ same old new.
      let between : is_releasing b.state ≡ true = rank_between a.state b.state c.state old new (h.rank (first same)) (k.rank (second same)) in
      k.kept (second same) between new ∙ h.kept (first same) old between;
}
  where
    first : c.epoch ≡ a.epoch → b.epoch ≡ a.epoch
    first same = omega (arith, same, h.epoch, k.epoch)

    second : c.epoch ≡ a.epoch → c.epoch ≡ b.epoch
    second same = omega (arith, same, h.epoch, k.epoch)

pub places_stay : (m : Leases) (x : Kept) → PlacesGo m x m x
places_stay m x page = place_stays (lease_of m page) (fin.get x page)

pub places_both : (a b c : Leases) (x y z : Kept) → PlacesGo a x b y → PlacesGo b y c z → PlacesGo a x c z
places_both a b c x y z h k page = place_both (lease_of a page) (lease_of b page) (lease_of c page) (fin.get x page) (fin.get y page) (fin.get z page) (h page) (k page)

-- One page's place changes.
places_at : (m n : Leases) (x y : Kept) (page : ℕ) → ((q : ℕ) → nat_eq q page ≡ false → (lease_of n q ≡ lease_of m q) × (fin.get y q ≡ fin.get x q)) → PlaceGoes (lease_of m page) (lease_of n page) (fin.get x page) (fin.get y page)
    → PlacesGo m x n y
places_at m n x y page others here q = by (nat_eq q page) refl
  where
    by : (b : Bool) → nat_eq q page ≡ b → PlaceGoes (lease_of m q) (lease_of n q) (fin.get x q) (fin.get y q)
    by true is = let one : q ≡ page = grind (arith, nat_tests) in subst (λ (k : ℕ). PlaceGoes (lease_of m k) (lease_of n k) (fin.get x k) (fin.get y k)) (sym one) here
    by false is =
        let same = others q is in
        subst (λ (o : Option Left). PlaceGoes (lease_of m q) (lease_of n q) (fin.get x q) o) (sym same.1) (subst (λ (a : PageLease). PlaceGoes (lease_of m q) a (fin.get x q) (fin.get x q)) (sym same.0) (place_stays (lease_of m q) (fin.get x q)))

-- Its lease does, where the test passes.
places_set : (m : Leases) (x : Kept) (page : ℕ) (l new : PageLease) (b : Bool) → fin.get m page ≡ Some l → (b ≡ true → PlaceGoes l new (fin.get x page) (fin.get x page)) → PlacesGo m x (set_if m page new b) x
places_set m x page l new false found h = places_stay m x
places_set m x page l new true found h =
    let at : lease_of m page ≡ l = ap desk.or_unseen found in
    places_at m (fin.insert m page new) x x page (λ q other. (lease_other m page q new other, refl))
    (subst (λ (a : PageLease). PlaceGoes (lease_of m page) a (fin.get x page) (fin.get x page)) (sym (lease_here m page new)) (subst (λ (a : PageLease). PlaceGoes a new (fin.get x page) (fin.get x page)) (sym at) (h refl)))

places_changed : (m : Leases) (x : Kept) (page : ℕ) (stamp : Stamp) → PlacesGo m x (desk.changed m page stamp) x
places_changed m x page stamp = by (fin.get m page) refl
  where
    by : (o : Option PageLease) → fin.get m page ≡ o → PlacesGo m x (desk.changed_from m page stamp o) x
    by None is = places_stay m x
    by (Some l) is = places_set m x page l (record l { stamp = stamp }) (is_held l.state) is (λ held. record { epoch = omega arith; rank = λ same. omega arith; kept = λ same old new. refl })

held_rank : (s : Lease) → is_held s ≡ true → rank s ≤ 1
held_rank lease.Held h = omega arith
held_rank lease.Recalled h = absurd (cc h)
held_rank lease.Releasing h = absurd (cc h)
held_rank lease.None h = absurd (cc h)

places_recalled : (m : Leases) (x : Kept) (page epoch : ℕ) → PlacesGo m x (desk.recalled m page epoch) x
places_recalled m x page epoch = by (fin.get m page) refl
  where
    by : (o : Option PageLease) → fin.get m page ≡ o → PlacesGo m x (desk.recalled_from m page epoch o) x
    by None is = places_stay m x
    by (Some l) is = places_set m x page l (record l { state = lease.Recalled }) (is_held l.state && nat_eq l.epoch epoch) is
        (λ b. record { epoch = omega arith; rank = λ same. held_rank l.state (first_of_two (is_held l.state) (nat_eq l.epoch epoch) b); kept = λ same old new. refl })

-- A lease at a later epoch.
later_place : (l new : PageLease) (k j : Option Left) → nat_lt l.epoch new.epoch ≡ true → PlaceGoes l new k j
later_place l new k j is =
    let above : l.epoch + 1 ≤ new.epoch = grind (arith, nat_tests) in
    record { epoch = omega (arith, above); rank = λ same. absurd (omega (arith, above, same)); kept = λ same old now. absurd (omega (arith, above, same)) }

places_granted : (m : Leases) (x y : Kept) (page epoch : ℕ) (stamp : Stamp) → nat_lt (lease_of m page).epoch epoch ≡ true → ((q : ℕ) → nat_eq q page ≡ false → fin.get y q ≡ fin.get x q) → PlacesGo m x (desk.granted m page epoch stamp) y
places_granted m x y page epoch stamp is others = subst (λ (b : Bool). PlacesGo m x (set_if m page l b) y) (sym is)
    (places_at m (fin.insert m page l) x y page (λ q other. (lease_other m page q l other, others q other))
    (subst (λ (a : PageLease). PlaceGoes (lease_of m page) a (fin.get x page) (fin.get y page)) (sym (lease_here m page l)) (later_place (lease_of m page) l (fin.get x page) (fin.get y page) is)))
  where
    l : PageLease
    l = record { epoch = epoch; state = lease.Held; stamp = stamp }

fresh_later : (m : Leases) (page : ℕ) → nat_eq (lease_of m page).epoch 0 ≡ true → nat_lt (lease_of m page).epoch 1 ≡ true
fresh_later m page is = grind (arith, nat_tests)

recalled_rank : (s : Lease) → is_recalled s ≡ true → (rank s ≤ 2) × (is_releasing s ≡ true → ⊥)
recalled_rank lease.Recalled h = (omega arith, λ k. cc k)
recalled_rank lease.Held h = absurd (cc h)
recalled_rank lease.Releasing h = absurd (cc h)
recalled_rank lease.None h = absurd (cc h)

places_back : (w : Work) (page : ℕ) → is_recalled (lease_of w.leases page).state ≡ true → PlacesGo w.leases w.left (desk.releasing w.leases page) (fin.insert w.left page (left_of w page))
places_back w page recalled = by (fin.get w.leases page) refl
  where
    told : Left
    told = left_of w page

    by : (o : Option PageLease) → fin.get w.leases page ≡ o → PlacesGo w.leases w.left (desk.releasing_from w.leases page o) (fin.insert w.left page told)
    by None is = absurd (let h : is_recalled (desk.or_unseen None).state ≡ true = ap (λ (o : Option PageLease). is_recalled (desk.or_unseen o).state) (sym is) ∙ recalled in cc h)
    by (Some l) is =
        let at : lease_of w.leases page ≡ l = ap desk.or_unseen is in
        let yes : is_recalled l.state ≡ true = ap (λ (a : PageLease). is_recalled a.state) (sym at) ∙ recalled in
        let new : PageLease = record l { state = lease.Releasing } in
        let before = recalled_rank l.state yes in
        let goes : PlaceGoes l new (fin.get w.left page) (fin.get (fin.insert w.left page told) page) = record { epoch = omega arith; rank = λ same. before.0; kept = λ same old now. absurd (before.1 old) } in
        subst (λ (b : Bool). PlacesGo w.leases w.left (set_if w.leases page new b) (fin.insert w.left page told)) (sym yes)
        (places_at w.leases (fin.insert w.leases page new) w.left (fin.insert w.left page told) page (λ q other. (lease_other w.leases page q new other, kept_other w.left page q told other))
        (subst (λ (a : PageLease). PlaceGoes (lease_of w.leases page) a (fin.get w.left page) (fin.get (fin.insert w.left page told) page)) (sym (lease_here w.leases page new))
        (subst (λ (a : PageLease). PlaceGoes a new (fin.get w.left page) (fin.get (fin.insert w.left page told) page)) (sym at) goes)))

rank_most : (s : Lease) → rank s ≤ 3
rank_most lease.Recalled = omega arith
rank_most lease.Held = omega arith
rank_most lease.Releasing = omega arith
rank_most lease.None = omega arith

places_over : (w : Work) (page epoch : ℕ) → is_releasing (lease_of w.leases page).state && nat_eq (lease_of w.leases page).epoch epoch ≡ true → PlacesGo w.leases w.left (desk.released w.leases page epoch) (fin.remove w.left page)
places_over w page epoch is = by (fin.get w.leases page) refl
  where
    by : (o : Option PageLease) → fin.get w.leases page ≡ o → PlacesGo w.leases w.left (desk.released_from w.leases page epoch o) (fin.remove w.left page)
    by None found = absurd (let h = ap (λ (o : Option PageLease). is_releasing (desk.or_unseen o).state && nat_eq (desk.or_unseen o).epoch epoch) (sym found) ∙ is in cc h)
    by (Some l) found =
        let at : lease_of w.leases page ≡ l = ap desk.or_unseen found in
        let yes : is_releasing l.state && nat_eq l.epoch epoch ≡ true = ap (λ (a : PageLease). is_releasing a.state && nat_eq a.epoch epoch) (sym at) ∙ is in
        let new : PageLease = record l { state = lease.None } in
        let goes : PlaceGoes l new (fin.get w.left page) (fin.get (fin.remove w.left page) page) = record { epoch = omega arith; rank = λ same. rank_most l.state; kept = λ same old now. absurd (cc now) } in
        subst (λ (b : Bool). PlacesGo w.leases w.left (set_if w.leases page new b) (fin.remove w.left page)) (sym yes)
        (places_at w.leases (fin.insert w.leases page new) w.left (fin.remove w.left page) page (λ q other. (lease_other w.leases page q new other, removed_other w.left page q other))
        (subst (λ (a : PageLease). PlaceGoes (lease_of w.leases page) a (fin.get w.left page) (fin.get (fin.remove w.left page) page)) (sym (lease_here w.leases page new))
        (subst (λ (a : PageLease). PlaceGoes a new (fin.get w.left page) (fin.get (fin.remove w.left page) page)) (sym at) goes)))

-- ---- all of it

abbrev pub Places : Work → Work → Type 0
Places a b = PlacesGo a.leases a.left b.leases b.left

image_places : (w : Work) (o : Option (List Image)) → Places w (with_images w o)
image_places w None = places_stay w.leases w.left
image_places w (Some images) = places_stay w.leases w.left

pub place_moves : Closed Places
place_moves = record {
  none = λ w. places_stay w.leases w.left;
  both = λ a b c. places_both a.leases b.leases c.leases a.left b.left c.left;
  hears_stamp = λ w stamp fits. places_stay w.leases w.left;
  hears_vector = λ w vector brought. places_stay w.leases w.left;
  acks = λ w store seq is came. places_stay w.leases w.left;
  acks_more = λ w store seq is came. places_stay w.leases w.left;
  let_go = λ w may. places_stay w.leases w.left;
  group = λ w records none room. places_stay w.leases w.left;
  change = λ w r stamp page is. places_changed w.leases w.left page (record { 0 = stamp });
  grant = λ w page epoch stamp tags vector new brought fits granted. places_granted w.leases w.left (fin.remove w.left page.0) page.0 epoch stamp new (λ q other. removed_other w.left page.0 q other);
  image = λ w image held same. image_places w _;
  fresh_page = λ w page is came. places_granted w.leases w.left w.left page.0 1 (record { 0 = 0 }) (fresh_later w.leases page.0 (second_of_two (nat_lt 1024 page.0) (nat_eq (lease_of w.leases page.0).epoch 0) is)) (λ q other. refl);
  fresh_none = λ w. places_stay w.leases w.left;
  recall = λ w page epoch came. places_recalled w.leases w.left page epoch;
  give_back = λ w page is came. places_back w page (first_of_two (is_recalled (lease_of w.leases page).state) _ is);
  release = λ w page epoch is. places_over w page epoch is;
  path = λ w path. places_stay w.leases w.left;
  end = λ w t is. places_stay w.leases w.left;
  mark = λ w t is known. places_stay w.leases w.left;
  name = λ w t. places_stay w.leases w.left;
  begin = λ w session is. places_stay w.leases w.left;
  tag = λ w session page key own is active held. places_stay w.leases w.left;
  put = λ w p leaf path fresh count is some. places_stay w.leases w.left;
  session = λ w session own left is going. places_stay w.leases w.left;
  ends = λ w session own committed is going room. places_stay w.leases w.left;
  free = λ w session own committed seq is at durable. places_stay w.leases w.left;
}
