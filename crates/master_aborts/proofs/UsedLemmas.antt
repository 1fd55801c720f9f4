-- To use a path and to log groups goes in any order.
use Rattle.std.proofs.Common.{◌≡◌, ◌∙◌, ℕ, Bool, true, false, cond, nat_eq, List, [], ◌∷◌, Option, Some, None, refl, sym, ap}
use Rattle.std.specs.Cmp.{unsigned_Decides, nat_eq_equiv}
use Rattle.tm_data.specs.declared.image.Image.{Image}
use Rattle.tm_data.specs.declared.log.Group.{Group}
use Rattle.tm_data.specs.declared.log.Record.{Record}
use Rattle.tm_data.specs.declared.transaction.Page.{Page}
use Rattle.page_model.specs.Effects.{page_of, redone_at}
use Rattle.page_model.specs.Pool.{image_of, replaced, used, used_if, without}
use Rattle.lease_desk.specs.Desk.{changed}
use Rattle.vs_clock.specs.State.{ticked, told}
use Rattle.log_writer.specs.Log.{appended}
use Rattle.master_model.specs.State.{Work}
use Rattle.master_model.specs.Paths.{used_all, uses}
use Rattle.master_model.specs.Logging.{Logged, in_front, logs, next_group, put_back, redone_if, with_change, with_changes, with_group}

same : (a b : ℕ) → nat_eq a b ≡ true → a ≡ b
same a b = (unsigned_Decides a b).0

itself : (a : ℕ) → nat_eq a a ≡ true
itself a = (unsigned_Decides a a).1 refl

-- ---- images of pages

pub image_at : (p : ℕ) (is : List Image) (i : Image) → image_of p is ≡ Some i → p ≡ i.page.0
image_at p [] i h = absurd (cc h)
image_at p (x ∷ xs) i h = by (nat_eq p x.page.0) refl (image_at p xs i) h
  where
    by : (b : Bool) → nat_eq p x.page.0 ≡ b → (image_of p xs ≡ Some i → p ≡ i.page.0) → cond b (Some x) (image_of p xs) ≡ Some i → p ≡ i.page.0
    by true at rest e = let one : x ≡ i = cc e in same p x.page.0 at ∙ ap (λ (y : Image). y.page.0) one
    by false at rest e = rest e

without_other : (p k : ℕ) (is : List Image) → nat_eq p k ≡ false → image_of p (without k is) ≡ image_of p is
without_other p k [] apart = refl
without_other p k (x ∷ xs) apart = by (nat_eq k x.page.0) refl (without_other p k xs apart)
  where
    by : (b : Bool) → nat_eq k x.page.0 ≡ b → image_of p (without k xs) ≡ image_of p xs → image_of p (cond b xs (x ∷ without k xs)) ≡ cond (nat_eq p x.page.0) (Some x) (image_of p xs)
    by true at rest = sym (ap (λ (b : Bool). cond b (Some x) (image_of p xs)) (ap (nat_eq p) (sym (same k x.page.0 at)) ∙ apart))
    by false at rest = ap (cond (nat_eq p x.page.0) (Some x)) rest

image_used : (p q : ℕ) (is : List Image) → image_of p (used q is) ≡ image_of p is
image_used p q is = by (image_of q is) refl
  where
    own : (i : Image) → image_of q is ≡ Some i → (b : Bool) → nat_eq p i.page.0 ≡ b → cond b (Some i) (image_of p (without i.page.0 is)) ≡ image_of p is
    own i at true e = sym (ap (λ (n : ℕ). image_of n is) (same p i.page.0 e ∙ sym (image_at q is i at)) ∙ at)
    own i at false e = without_other p i.page.0 is e

    by : (o : Option Image) → image_of q is ≡ o → image_of p (used_if o is) ≡ image_of p is
    by None at = refl
    by (Some i) at = own i at (nat_eq p i.page.0) refl

-- ---- an image takes the place of another

absent : (new : Image) (is : List Image) → image_of new.page.0 is ≡ None → replaced new is ≡ is
absent new [] h = refl
absent new (x ∷ xs) h = by (nat_eq new.page.0 x.page.0) (absent new xs) h
  where
    by : (b : Bool) → (image_of new.page.0 xs ≡ None → replaced new xs ≡ xs) → cond b (Some x) (image_of new.page.0 xs) ≡ None → cond b (new ∷ xs) (x ∷ replaced new xs) ≡ x ∷ xs
    by true rest e = absurd (cc e)
    by false rest e = ap (λ (l : List Image). x ∷ l) (rest e)

replaced_other : (q : ℕ) (new : Image) (is : List Image) → nat_eq q new.page.0 ≡ false → image_of q (replaced new is) ≡ image_of q is
replaced_other q new [] apart = refl
replaced_other q new (x ∷ xs) apart = by (nat_eq new.page.0 x.page.0) refl (replaced_other q new xs apart)
  where
    by : (b : Bool) → nat_eq new.page.0 x.page.0 ≡ b → image_of q (replaced new xs) ≡ image_of q xs → image_of q (cond b (new ∷ xs) (x ∷ replaced new xs)) ≡ cond (nat_eq q x.page.0) (Some x) (image_of q xs)
    by true at rest =
        ap (λ (b : Bool). cond b (Some new) (image_of q xs)) apart
        ∙ sym (ap (λ (b : Bool). cond b (Some x) (image_of q xs)) (ap (nat_eq q) (sym (same new.page.0 x.page.0 at)) ∙ apart))
    by false at rest = ap (cond (nat_eq q x.page.0) (Some x)) rest

replaced_own : (new : Image) (is : List Image) (i : Image) → image_of new.page.0 is ≡ Some i → image_of new.page.0 (replaced new is) ≡ Some new
replaced_own new [] i h = absurd (cc h)
replaced_own new (x ∷ xs) i h = by (nat_eq new.page.0 x.page.0) refl (replaced_own new xs i) h
  where
    by : (b : Bool) → nat_eq new.page.0 x.page.0 ≡ b → (image_of new.page.0 xs ≡ Some i → image_of new.page.0 (replaced new xs) ≡ Some new) → cond b (Some x) (image_of new.page.0 xs) ≡ Some i
        → image_of new.page.0 (cond b (new ∷ xs) (x ∷ replaced new xs)) ≡ Some new
    by true at rest e = ap (λ (b : Bool). cond b (Some new) (image_of new.page.0 xs)) (itself new.page.0)
    by false at rest e = ap (λ (b : Bool). cond b (Some x) (image_of new.page.0 (replaced new xs))) at ∙ rest e

without_own : (new : Image) (is : List Image) → without new.page.0 (replaced new is) ≡ without new.page.0 is
without_own new [] = refl
without_own new (x ∷ xs) = by (nat_eq new.page.0 x.page.0) refl (without_own new xs)
  where
    by : (b : Bool) → nat_eq new.page.0 x.page.0 ≡ b → without new.page.0 (replaced new xs) ≡ without new.page.0 xs
        → without new.page.0 (cond b (new ∷ xs) (x ∷ replaced new xs)) ≡ cond b xs (x ∷ without new.page.0 xs)
    by true at rest = ap (λ (b : Bool). cond b xs (new ∷ without new.page.0 xs)) (itself new.page.0)
    by false at rest = ap (λ (b : Bool). cond b (replaced new xs) (x ∷ without new.page.0 (replaced new xs))) at ∙ ap (λ (l : List Image). x ∷ l) rest

without_apart : (q : ℕ) (new : Image) (is : List Image) → nat_eq q new.page.0 ≡ false → without q (replaced new is) ≡ replaced new (without q is)
without_apart q new [] apart = refl
without_apart q new (x ∷ xs) apart = by (nat_eq new.page.0 x.page.0) (nat_eq q x.page.0) refl refl (without_apart q new xs apart)
  where
    by : (b c : Bool) → nat_eq new.page.0 x.page.0 ≡ b → nat_eq q x.page.0 ≡ c → without q (replaced new xs) ≡ replaced new (without q xs)
        → without q (cond b (new ∷ xs) (x ∷ replaced new xs)) ≡ replaced new (cond c xs (x ∷ without q xs))
    by true true at on rest =
        let one : q ≡ new.page.0 = same q x.page.0 on ∙ sym (same new.page.0 x.page.0 at) in
        absurd (let k : true ≡ false = sym (ap (λ (n : ℕ). nat_eq n new.page.0) one ∙ itself new.page.0) ∙ apart in cc k)
    by true false at on rest =
        ap (λ (b : Bool). cond b xs (new ∷ without q xs)) apart ∙ sym (ap (λ (b : Bool). cond b (new ∷ without q xs) (x ∷ replaced new (without q xs))) at)
    by false true at on rest = ap (λ (b : Bool). cond b (replaced new xs) (x ∷ without q (replaced new xs))) on
    by false false at on rest =
        ap (λ (b : Bool). cond b (replaced new xs) (x ∷ without q (replaced new xs))) on ∙ ap (λ (l : List Image). x ∷ l) rest
        ∙ sym (ap (λ (b : Bool). cond b (new ∷ without q xs) (x ∷ replaced new (without q xs))) at)

replaced_used : (q : ℕ) (new : Image) (is : List Image) → replaced new (used q is) ≡ used q (replaced new is)
replaced_used q new is = by (image_of q is) refl
  where
    none_stays : image_of q is ≡ None → (b : Bool) → nat_eq q new.page.0 ≡ b → image_of q (replaced new is) ≡ None
    none_stays at true e = ap (image_of q) (absent new is (ap (λ (n : ℕ). image_of n is) (sym (same q new.page.0 e)) ∙ at)) ∙ at
    none_stays at false e = replaced_other q new is e ∙ at

    some : (i : Image) → image_of q is ≡ Some i → (b : Bool) → nat_eq new.page.0 i.page.0 ≡ b
        → cond b (new ∷ without i.page.0 is) (i ∷ replaced new (without i.page.0 is)) ≡ used_if (image_of q (replaced new is)) (replaced new is)
    some i at true e =
        let k : q ≡ i.page.0 = image_at q is i at in
        let one : new.page.0 ≡ i.page.0 = same new.page.0 i.page.0 e in
        let there : image_of q (replaced new is) ≡ Some new = ap (λ (n : ℕ). image_of n (replaced new is)) (k ∙ sym one) ∙ replaced_own new is i (ap (λ (n : ℕ). image_of n is) (one ∙ sym k) ∙ at) in
        sym (ap (λ (o : Option Image). used_if o (replaced new is)) there ∙ ap (λ (l : List Image). new ∷ l) (without_own new is ∙ ap (λ (n : ℕ). without n is) one))
    some i at false e =
        let k : q ≡ i.page.0 = image_at q is i at in
        let apart : nat_eq i.page.0 new.page.0 ≡ false = nat_eq_equiv.symm i.page.0 new.page.0 ∙ e in
        let there : image_of q (replaced new is) ≡ Some i = replaced_other q new is (ap (λ (n : ℕ). nat_eq n new.page.0) k ∙ apart) ∙ at in
        sym (ap (λ (o : Option Image). used_if o (replaced new is)) there ∙ ap (λ (l : List Image). i ∷ l) (without_apart i.page.0 new is apart))

    by : (o : Option Image) → image_of q is ≡ o → replaced new (used_if o is) ≡ used_if (image_of q (replaced new is)) (replaced new is)
    by None at = sym (ap (λ (o : Option Image). used_if o (replaced new is)) (none_stays at (nat_eq q new.page.0) refl))
    by (Some i) at = some i at (nat_eq new.page.0 i.page.0) refl

-- ---- changes

redone_used : (q p : ℕ) (r : Record) (s : ℕ) (is : List Image) → redone_if (used q is) r s (image_of p (used q is)) ≡ used q (redone_if is r s (image_of p is))
redone_used q p r s is = ap (redone_if (used q is) r s) (image_used p q is) ∙ by (image_of p is)
  where
    back : (o : Option Image) → put_back (used q is) o ≡ used q (put_back is o)
    back None = refl
    back (Some new) = replaced_used q new is

    by : (o : Option Image) → redone_if (used q is) r s o ≡ used q (redone_if is r s o)
    by None = refl
    by (Some image) = back (redone_at image r s)

redone_along : (path : List Page) (p : ℕ) (r : Record) (s : ℕ) (is : List Image) → redone_if (used_all path is) r s (image_of p (used_all path is)) ≡ used_all path (redone_if is r s (image_of p is))
redone_along [] p r s is = refl
redone_along (q ∷ qs) p r s is = redone_along qs p r s (used q.0 is) ∙ ap (used_all qs) (redone_used q.0 p r s is)

change_used : (w : Work) (path : List Page) (r : Record) (s : ℕ) (o : Option ℕ) → with_change (uses w path) r s o ≡ uses (with_change w r s o) path
change_used w path r s None = refl
change_used w path r s (Some p) =
    ap (λ (is : List Image). record w { pool = record w.pool { images = is }; leases = changed w.leases p (record { 0 = s }) }) (redone_along path p r s w.pool.images)

changes_used : (w : Work) (path : List Page) (rs : List Record) (s : ℕ) → with_changes (uses w path) rs s ≡ uses (with_changes w rs s) path
changes_used w path [] s = refl
changes_used w path (r ∷ rs) s = ap (λ (v : Work). with_changes v rs s) (change_used w path r s (page_of r)) ∙ changes_used (with_change w r s (page_of r)) path rs s

-- Groups are logged, and then a path is used.
abbrev pub used_logged : List Page → Logged → Logged
used_logged path l = record { work = uses l.work path; groups = l.groups }

group_used : (w : Work) (path : List Page) (g : Group) → with_group (uses w path) g ≡ uses (with_group w g) path
group_used w path g = changes_used (record w { clock = told (ticked w.clock); log = appended w.log g }) path g.records g.stamp.0

pub logs_used : (w : Work) (path : List Page) (rss : List (List Record)) → logs (uses w path) rss ≡ used_logged path (logs w rss)
logs_used w path [] = refl
logs_used w path (rs ∷ rss) =
    ap (λ (v : Work). in_front (next_group w rs) (logs v rss)) (group_used w path (next_group w rs))
    ∙ ap (in_front (next_group w rs)) (logs_used (with_group w (next_group w rs)) path rss)
