-- Each page that a writer holds stays among those that it may hold.
use Rattle.std.proofs.Common.{◌≡◌, ℕ, Bool, true, false, List, Option, Some, None, refl, ap, sym, subst, ◌∙◌, cond, arith}
use Rattle.std.specs.Prelude.{nat_eq, is_some, ◌&&◌}
use Rattle.std.specs.Option.{option_map}
use Rattle.std.proofs.lemmas.Bool.Decides.{nat_tests}
use Rattle.lock_model.proofs.TableLemmas.{put_at, map_at}
use Rattle.lock_model.specs.State.{at, put, is_holder, or_unused, leased, left}
use Rattle.lock_model.specs.declared.page.PageEntry.{PageEntry}
use Rattle.lock_model.specs.Step.{freed_entry, freed_with, taken, or_kept}
use Rattle.tm_base.specs.declared.message.Tag.{Tag}
use Rattle.tm_data.specs.declared.vector.VectorEntry.{VectorEntry}
use Rattle.global_locks.specs.Inside.{may_hold, pages_of, IsIndexed}
use Rattle.global_locks.proofs.TableLemmas.{same_numbers}

own_number : (n : ℕ) → nat_eq n n ≡ true
own_number n = grind (arith, nat_tests)

and_no : (a : Bool) → (a && false) ≡ false
and_no true = refl
and_no false = refl

abbrev Held : Type 0 → Type 0
Held A = List (ℕ × List (ℕ × A))

-- ---- what a takeover leaves of leases

module _ (writer : ℕ) (rest : Bool) (listed : List (ℕ × ℕ)) (vector : List VectorEntry) where
  abbrev kept_by : ℕ → PageEntry → PageEntry
  kept_by n e = or_kept e (freed_entry writer rest listed vector n e)

  -- Nobody holds a page who didn't hold it before.
  shrinks : (v q : ℕ) (o : Option PageEntry) → is_holder (or_unused (option_map (kept_by q) o)) v ≡ true → is_holder (or_unused o) v ≡ true
  shrinks v q None h = h
  shrinks v q (Some e) h = by (is_holder e writer) (at listed q) rest h
    where
      by : (b : Bool) (o : Option ℕ) (r : Bool) → is_holder (or_kept e (freed_with e vector b o r)) v ≡ true → is_holder e v ≡ true
      by false o r h = h
      by true (Some stamp) r h = absurd (cc h)
      by true None true h = absurd (cc h)
      by true None false h = h

module _ (writer : ℕ) (listed : List (ℕ × ℕ)) (vector : List VectorEntry) where
  -- After the rest the writer holds no page.
  holds_none : (q : ℕ) (o : Option PageEntry) → is_holder (or_unused (option_map (kept_by writer true listed vector q) o)) writer ≡ true → ⊥
  holds_none q None h = cc h
  holds_none q (Some e) h = by (is_holder e writer) (at listed q) refl h
    where
      by : (b : Bool) (o : Option ℕ) → is_holder e writer ≡ b → is_holder (or_kept e (freed_with e vector b o true)) writer ≡ true → ⊥
      by false o not h = cc (not, h)
      by true (Some stamp) is h = cc h
      by true None is h = cc h

module _ {A : Type 0} where
  -- ---- marks

  -- The pages that a writer may hold, with one more.
  abbrev pub with_mark : Held A → ℕ → ℕ → A → Held A
  with_mark held w p x = put held w (put (pages_of (at held w)) p x)

  kept_mark : (held : Held A) (w p : ℕ) (x : A) (v q : ℕ) → may_hold held v q ≡ true → may_hold (with_mark held w p x) v q ≡ true
  kept_mark held w p x v q h = ap (λ (o : Option (List (ℕ × A))). is_some (at (pages_of o) q)) (put_at held w (put (pages_of (at held w)) p x) v) ∙ by (nat_eq v w) refl
    where
      page : (b : Bool) → is_some (at (pages_of (at held w)) q) ≡ true → is_some (cond b (Some x) (at (pages_of (at held w)) q)) ≡ true
      page true there = refl
      page false there = there

      by : (b : Bool) → nat_eq v w ≡ b → is_some (at (pages_of (cond b (Some (put (pages_of (at held w)) p x)) (at held v))) q) ≡ true
      by true is =
          ap is_some (put_at (pages_of (at held w)) p x q)
          ∙ page (nat_eq q p) (ap (λ (n : ℕ). is_some (at (pages_of (at held n)) q)) (same_numbers w v is) ∙ h)
      by false not = h

  is_marked : (held : Held A) (w p : ℕ) (x : A) → may_hold (with_mark held w p x) w p ≡ true
  is_marked held w p x =
      ap (λ (o : Option (List (ℕ × A))). is_some (at (pages_of o) p)) (put_at held w (put (pages_of (at held w)) p x) w)
      ∙ ap (λ (b : Bool). is_some (at (pages_of (cond b (Some (put (pages_of (at held w)) p x)) (at held w))) p)) (own_number w)
      ∙ ap is_some (put_at (pages_of (at held w)) p x p)
      ∙ ap (λ (b : Bool). is_some (cond b (Some x) (at (pages_of (at held w)) p))) (own_number p)

  -- One mark is taken away.
  pub unmarked : (held : Held A) (w p : ℕ) (old new : List (ℕ × A)) → at held w ≡ Some old → ((q : ℕ) → at new q ≡ cond (nat_eq p q) None (at old q))
      → (v q : ℕ) → may_hold (put held w new) v q ≡ cond (nat_eq w v && nat_eq p q) false (may_hold held v q)
  unmarked held w p old new found gone v q = ap (λ (o : Option (List (ℕ × A))). is_some (at (pages_of o) q)) (put_at held w new v) ∙ by (nat_eq v w) (nat_eq w v) refl refl
    where
      last : at held v ≡ Some old → (d : Bool) → is_some (cond d None (at old q)) ≡ cond d false (may_hold held v q)
      last there true = refl
      last there false = sym (ap (λ (o : Option (List (ℕ × A))). is_some (at (pages_of o) q)) there)

      by : (a b : Bool) → nat_eq v w ≡ a → nat_eq w v ≡ b → is_some (at (pages_of (cond a (Some new) (at held v))) q) ≡ cond (b && nat_eq p q) false (may_hold held v q)
      by true true is same = ap is_some (gone q) ∙ last (ap (at held) (sym (same_numbers w v is)) ∙ found) (nat_eq p q)
      by true false is other = absurd (grind (arith, nat_tests))
      by false true not same = absurd (grind (arith, nat_tests))
      by false false not other = refl

  pub indexed_marked : (es : List (ℕ × PageEntry)) (held : Held A) (w p : ℕ) (x : A) → IsIndexed es held → IsIndexed es (with_mark held w p x)
  indexed_marked es held w p x indexed v q h = kept_mark held w p x v q (indexed v q h)

  -- ---- leases

  pub indexed_leased : (es : List (ℕ × PageEntry)) (held : Held A) (w p : ℕ) (x : A) (e : PageEntry) → IsIndexed es held → IsIndexed (put es p (leased e w)) (with_mark held w p x)
  indexed_leased es held w p x e indexed v q h = by (nat_eq q p) refl (ap (λ (o : Option PageEntry). is_holder (or_unused o) v) (sym (put_at es p (leased e w) q)) ∙ h)
    where
      by : (b : Bool) → nat_eq q p ≡ b → is_holder (or_unused (cond b (Some (leased e w)) (at es q))) v ≡ true → may_hold (with_mark held w p x) v q ≡ true
      by true is holds =
          subst (λ (n : ℕ). may_hold (with_mark held w p x) n q ≡ true) (sym (same_numbers v w holds))
          (subst (λ (n : ℕ). may_hold (with_mark held w p x) w n ≡ true) (same_numbers p q is) (is_marked held w p x))
      by false not holds = kept_mark held w p x v q (indexed v q holds)

  pub indexed_left : (es : List (ℕ × PageEntry)) (held : Held A) (p : ℕ) (e : PageEntry) (stamp : ℕ) (tags : List Tag) (vector : List VectorEntry)
      → IsIndexed es held → IsIndexed (put es p (left e stamp tags vector)) held
  indexed_left es held p e stamp tags vector indexed v q h =
      by (nat_eq q p) (ap (λ (o : Option PageEntry). is_holder (or_unused o) v) (sym (put_at es p (left e stamp tags vector) q)) ∙ h)
    where
      by : (b : Bool) → is_holder (or_unused (cond b (Some (left e stamp tags vector)) (at es q))) v ≡ true → may_hold held v q ≡ true
      by true holds = absurd (cc holds)
      by false holds = indexed v q holds

  -- A page that was left isn't among those any more.
  pub indexed_unmarked : (es : List (ℕ × PageEntry)) (held new : Held A) (w p : ℕ) (e : PageEntry) (stamp : ℕ) (tags : List Tag) (vector : List VectorEntry)
      → ((v q : ℕ) → may_hold new v q ≡ cond (nat_eq w v && nat_eq p q) false (may_hold held v q))
      → IsIndexed es held → IsIndexed (put es p (left e stamp tags vector)) new
  indexed_unmarked es held new w p e stamp tags vector marks indexed v q h =
      marks v q ∙ by (nat_eq p q) (nat_eq q p) refl refl (ap (λ (o : Option PageEntry). is_holder (or_unused o) v) (sym (put_at es p (left e stamp tags vector) q)) ∙ h)
    where
      by : (a b : Bool) → nat_eq p q ≡ a → nat_eq q p ≡ b → is_holder (or_unused (cond b (Some (left e stamp tags vector)) (at es q))) v ≡ true
          → cond (nat_eq w v && a) false (may_hold held v q) ≡ true
      by true true is same holds = absurd (cc holds)
      by true false is other holds = absurd (grind (arith, nat_tests))
      by false true not same holds = absurd (grind (arith, nat_tests))
      by false false not other holds = ap (λ (c : Bool). cond c false (may_hold held v q)) (and_no (nat_eq w v)) ∙ indexed v q holds

  -- ---- takeovers

  module _ (writer : ℕ) (rest : Bool) (listed : List (ℕ × ℕ)) (vector : List VectorEntry) where
    pub indexed_taken : (es : List (ℕ × PageEntry)) (held : Held A) → IsIndexed es held → IsIndexed (taken es writer rest listed vector) held
    indexed_taken es held indexed v q h = indexed v q (shrinks writer rest listed vector v q (at es q) (ap (λ (o : Option PageEntry). is_holder (or_unused o) v) (sym (map_at (kept_by writer rest listed vector) es q)) ∙ h))

  module _ (writer : ℕ) (listed : List (ℕ × ℕ)) (vector : List VectorEntry) where
    pub indexed_over : (es : List (ℕ × PageEntry)) (held new : Held A) → ((v : ℕ) → at new v ≡ cond (nat_eq writer v) None (at held v)) → IsIndexed es held → IsIndexed (taken es writer true listed vector) new
    indexed_over es held new others indexed v q h = ap (λ (o : Option (List (ℕ × A))). is_some (at (pages_of o) q)) (others v) ∙ by (nat_eq writer v) refl
      where
        by : (b : Bool) → nat_eq writer v ≡ b → is_some (at (pages_of (cond b None (at held v))) q) ≡ true
        by true is =
            let holds : is_holder (or_unused (at (taken es writer true listed vector) q)) writer ≡ true = subst (λ (n : ℕ). is_holder (or_unused (at (taken es writer true listed vector) q)) n ≡ true) (same_numbers v writer is) h in
            absurd (holds_none writer listed vector q (at es q) (ap (λ (o : Option PageEntry). is_holder (or_unused o) writer) (sym (map_at (kept_by writer true listed vector) es q)) ∙ holds))
        by false not = indexed_taken writer true listed vector es held indexed v q h
