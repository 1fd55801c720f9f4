-- What a master keeps of pages can be spelled after each move.
use Rattle.std.proofs.Common.{◌≡◌, ◌≤◌, ℕ, Bool, true, false, List, [], ◌∷◌, Option, Some, None, refl, ap, sym, subst, ◌∙◌, cond, arith}
use Rattle.std.specs.Prelude.{nat_eq, nat_lt, ◌&&◌}
use Rattle.std.specs.Ordering.{nat_cmp}
use Rattle.std.specs.FinMap.{FinMap}
use Rattle.std.specs.FinMap as fin
use Rattle.std.proofs.lemmas.Bool.Decides.{nat_tests}
use Rattle.tm_data.specs.declared.image.Image.{Image}
use Rattle.tm_data.specs.declared.log.Group.{Group}
use Rattle.tm_data.specs.declared.transaction.Stamp.{Stamp}
use Rattle.tm_data.specs.declared.vector.VectorEntry.{VectorEntry}
use Rattle.tm_data.specs.Vectors.{IsVector, greatest, single}
use Rattle.tm_data.proofs.VectorLemmas.{joined_ascends, single_is_vector}
use Rattle.lease_desk.specs.declared.lease.Lease.TheVariants as lease
use Rattle.lease_desk.specs.declared.lease.PageLease.{PageLease}
use Rattle.lease_desk.specs.Desk as desk
use Rattle.lease_desk.specs.Desk.{Leases, is_held, is_recalled, is_releasing, lease_of, or_unseen, set_if}
use Rattle.log_writer.specs.Log.{durable_stamp}
use Rattle.master_model.specs.declared.left.Left.{Left}
use Rattle.master_model.specs.State.{Work, vector_of}
use Rattle.master_model.specs.Leases.{gives_back, left_of, with_images}
use Rattle.master_model.specs.Facts.{Brought}
use Rattle.master_model.proofs.FactLemmas.{Front, front_moves}
use Rattle.master_model.proofs.LeaseLemmas.{kept_here, kept_other, lease_here, lease_other, removed_here, removed_other}
use Rattle.master_model.proofs.GrowMoves.{GrowsFor}
use Rattle.master_model.proofs.Moves.{AnyCause}
use Rattle.format_laws.specs.Kept.{LeftIsSpelled, WorkIsSpelled}
use Rattle.format_laws.specs.Spelled.{IsStamp}
use Rattle.format_laws.proofs.GroupLemmas.{durable_below}
use Rattle.format_laws.proofs.VectorLemmas.{joined_greatest}

-- ---- the vector for sending

single_within : (writer stamp : ℕ) → greatest (single writer stamp) ≤ stamp
single_within writer stamp = by (nat_eq stamp 0)
  where
    by : (b : Bool) → greatest (cond b [] (record { writer = record { 0 = writer }; stamp = record { 0 = stamp } } ∷ [])) ≤ stamp
    by true = omega arith
    by false = omega arith

pub vector_within : (start : ℕ) (gs : List Group) (w : Work) → Front start gs w.log w.clock → IsVector (vector_of w) × (greatest (vector_of w) ≤ w.clock.scalar)
vector_within start gs w h =
    let s = h.of_clock.sound in
    let own : List VectorEntry = single w.clock.writer (durable_stamp w.log) in
    let one : IsVector own = single_is_vector w.clock.writer (durable_stamp w.log) s.from_one in
    let below : durable_stamp w.log ≤ w.clock.scalar = durable_below w.log.writer.0 start w.clock.scalar gs w.log h.of_rest h.of_log.groups in (
      joined_ascends 0 w.clock.heard own s.heard_ascends one,
      omega (arith, joined_greatest w.clock.heard own s.heard_ascends one, s.heard_below, single_within w.clock.writer (durable_stamp w.log), below),
    )

pub vector_brought : (start : ℕ) (gs : List Group) (w : Work) → Front start gs w.log w.clock → Brought (vector_of w)
vector_brought start gs w h = let v = vector_within start gs w h in (v.0, omega (arith, v.1, h.of_clock.sound.scalar_fits))

-- ---- leases

abbrev Fit : Leases → Type 0
Fit m = (page : ℕ) → IsStamp (lease_of m page).stamp.0

set_fits : (m : Leases) (page : ℕ) (new : PageLease) (b : Bool) → Fit m → IsStamp new.stamp.0 → Fit (set_if m page new b)
set_fits m page new false h k = h
set_fits m page new true h k = λ q. by q (nat_eq q page) refl
  where
    by : (q : ℕ) (b : Bool) → nat_eq q page ≡ b → IsStamp (lease_of (fin.insert m page new) q).stamp.0
    by q true is =
        let one : page ≡ q = grind (arith, nat_tests) in
        subst (λ (n : ℕ). IsStamp (lease_of (fin.insert m page new) n).stamp.0) one (subst (λ (l : PageLease). IsStamp l.stamp.0) (sym (lease_here m page new)) k)
    by q false is = subst (λ (l : PageLease). IsStamp l.stamp.0) (sym (lease_other m page q new is)) (h q)

-- What is kept of a page has a stamp that fits.
here_fits : (m : Leases) (page : ℕ) (l : PageLease) → Fit m → fin.get m page ≡ Some l → IsStamp l.stamp.0
here_fits m page l h is = subst (λ (o : Option PageLease). IsStamp (or_unseen o).stamp.0) is (h page)

changed_fits : (m : Leases) (page : ℕ) (stamp : Stamp) → Fit m → IsStamp stamp.0 → Fit (desk.changed m page stamp)
changed_fits m page stamp h k = by (fin.get m page)
  where
    by : (o : Option PageLease) → Fit (desk.changed_from m page stamp o)
    by None = h
    by (Some l) = set_fits m page (record l { stamp = stamp }) (is_held l.state) h k

recalled_fits : (m : Leases) (page epoch : ℕ) → Fit m → Fit (desk.recalled m page epoch)
recalled_fits m page epoch h = by (fin.get m page) refl
  where
    by : (o : Option PageLease) → fin.get m page ≡ o → Fit (desk.recalled_from m page epoch o)
    by None is = h
    by (Some l) is = set_fits m page (record l { state = lease.Recalled }) (is_held l.state && nat_eq l.epoch epoch) h (here_fits m page l h is)

releasing_fits : (m : Leases) (page : ℕ) → Fit m → Fit (desk.releasing m page)
releasing_fits m page h = by (fin.get m page) refl
  where
    by : (o : Option PageLease) → fin.get m page ≡ o → Fit (desk.releasing_from m page o)
    by None is = h
    by (Some l) is = set_fits m page (record l { state = lease.Releasing }) (is_recalled l.state) h (here_fits m page l h is)

released_fits : (m : Leases) (page epoch : ℕ) → Fit m → Fit (desk.released m page epoch)
released_fits m page epoch h = by (fin.get m page) refl
  where
    by : (o : Option PageLease) → fin.get m page ≡ o → Fit (desk.released_from m page epoch o)
    by None is = h
    by (Some l) is = set_fits m page (record l { state = lease.None }) (is_releasing l.state && nat_eq l.epoch epoch) h (here_fits m page l h is)

-- ---- what was told

abbrev Lefts : Type 0
Lefts = FinMap nat_cmp Left

abbrev Told : Lefts → Type 0
Told left = (page : ℕ) (l : Left) → fin.get left page ≡ Some l → LeftIsSpelled l

told_less : (left : Lefts) (page : ℕ) → Told left → Told (fin.remove left page)
told_less left page h q l is = by (nat_eq q page) refl
  where
    by : (b : Bool) → nat_eq q page ≡ b → LeftIsSpelled l
    by true here =
        let one : q ≡ page = grind (arith, nat_tests) in
        let none : fin.get (fin.remove left page) q ≡ None = ap (λ (n : ℕ). fin.get (fin.remove left page) n) one ∙ removed_here left page in
        absurd (cc (is, none))
    by false other = h q l (sym (removed_other left page q other) ∙ is)

told_more : (left : Lefts) (page : ℕ) (new : Left) → Told left → LeftIsSpelled new → Told (fin.insert left page new)
told_more left page new h k q l is = by (nat_eq q page) refl
  where
    same : (x y : Left) → Some x ≡ Some y → x ≡ y
    same x y one = cc one

    by : (b : Bool) → nat_eq q page ≡ b → LeftIsSpelled l
    by true here =
        let one : page ≡ q = grind (arith, nat_tests) in
        subst LeftIsSpelled (same new l (sym (kept_here left page new) ∙ (ap (λ (n : ℕ). fin.get (fin.insert left page new) n) one ∙ is))) k
    by false other = h q l (sym (kept_other left page q new other) ∙ is)

-- ---- the moves

abbrev pub Spelled : ℕ → List Group → Work → Type 0
Spelled start gs w = Front start gs w.log w.clock × WorkIsSpelled w

image_spelled : (w : Work) (o : Option (List Image)) → WorkIsSpelled w → WorkIsSpelled (with_images w o)
image_spelled w None h = h
image_spelled w (Some images) h = record { leases = h.leases; left = h.left }

given_back : (start : ℕ) (gs : List Group) (w : Work) (page : ℕ) → Spelled start gs w → WorkIsSpelled (gives_back w page)
given_back start gs w page h = record {
  leases = releasing_fits w.leases page h.1.leases;
  left = told_more w.left page (left_of w page) h.1.left (record { vector = vector_brought start gs w h.0; stamp = h.1.leases page });
}

same_spelled : (w v : Work) → v.leases ≡ w.leases → v.left ≡ w.left → WorkIsSpelled w → WorkIsSpelled v
same_spelled w v a b h = record { leases = subst Fit (sym a) h.leases; left = subst Told (sym b) h.left }

pub spelled_moves : (start : ℕ) → GrowsFor AnyCause (Spelled start)
spelled_moves start = record {
  hears_stamp = λ w stamp fits gs h. (front.hears_stamp w stamp fits gs h.0, same_spelled w _ refl refl h.1);
  hears_vector = λ w vector brought gs h. (front.hears_vector w vector brought gs h.0, same_spelled w _ refl refl h.1);
  acks = λ w store seq is came gs h. (front.acks w store seq is came gs h.0, same_spelled w _ refl refl h.1);
  acks_more = λ w store seq is came gs h. (front.acks_more w store seq is came gs h.0, same_spelled w _ refl refl h.1);
  let_go = λ w may gs h. (front.let_go w may gs h.0, same_spelled w _ refl refl h.1);
  group = λ w records none room gs h. (front.group w records none room gs h.0, same_spelled w _ refl refl h.1);
  change = λ w r stamp page is gs h. (
    front.change w r stamp page is gs h.0,
    record { leases = changed_fits w.leases page (record { 0 = stamp }) h.1.leases (omega (arith, is, h.0.of_clock.sound.scalar_fits)); left = h.1.left },
  );
  grant = λ w page epoch stamp tags vector new brought fits granted gs h. (
    front.grant w page epoch stamp tags vector new brought fits granted gs h.0,
    record {
      leases = set_fits w.leases page.0 (record { epoch = epoch; state = lease.Held; stamp = stamp }) (nat_lt (lease_of w.leases page.0).epoch epoch) h.1.leases fits;
      left = told_less w.left page.0 h.1.left;
    },
  );
  image = λ w image held same gs h. (front.image w image held same gs h.0, image_spelled w _ h.1);
  fresh_page = λ w page is came gs h. (
    front.fresh_page w page is came gs h.0,
    record { leases = set_fits w.leases page.0 (record { epoch = 1; state = lease.Held; stamp = record { 0 = 0 } }) (nat_lt (lease_of w.leases page.0).epoch 1) h.1.leases (omega arith); left = h.1.left },
  );
  fresh_none = λ w gs h. (front.fresh_none w gs h.0, same_spelled w _ refl refl h.1);
  recall = λ w page epoch came gs h. (front.recall w page epoch came gs h.0, record { leases = recalled_fits w.leases page epoch h.1.leases; left = h.1.left });
  give_back = λ w page is came gs h. (front.give_back w page is came gs h.0, given_back start gs w page h);
  release = λ w page epoch is gs h. (front.release w page epoch is gs h.0, record { leases = released_fits w.leases page epoch h.1.leases; left = told_less w.left page h.1.left });
  path = λ w path gs h. (front.path w path gs h.0, same_spelled w _ refl refl h.1);
  end = λ w t is gs h. (front.end w t is gs h.0, same_spelled w _ refl refl h.1);
  mark = λ w t is known gs h. (front.mark w t is known gs h.0, same_spelled w _ refl refl h.1);
  name = λ w t gs h. (front.name w t gs h.0, same_spelled w _ refl refl h.1);
  begin = λ w session is gs h. (front.begin w session is gs h.0, same_spelled w _ refl refl h.1);
  tag = λ w session page key own is active held gs h. (front.tag w session page key own is active held gs h.0, same_spelled w _ refl refl h.1);
  put = λ w p leaf path fresh count is some gs h. (front.put w p leaf path fresh count is some gs h.0, same_spelled w _ refl refl h.1);
  session = λ w session own left is going gs h. (front.session w session own left is going gs h.0, same_spelled w _ refl refl h.1);
  ends = λ w session own committed is going room gs h. (front.ends w session own committed is going room gs h.0, same_spelled w _ refl refl h.1);
  free = λ w session own committed seq is at durable gs h. (front.free w session own committed seq is at durable gs h.0, same_spelled w _ refl refl h.1);
}
  where
    front : GrowsFor AnyCause (λ (gs : List Group) (w : Work). Front start gs w.log w.clock)
    front = front_moves start
