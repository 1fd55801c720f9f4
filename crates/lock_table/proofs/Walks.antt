-- A walk along a list to the place of a tag.
use Rattle.std.proofs.Common.{◌≡◌, ◌≤◌, ◌+◌, ℕ, Bool, true, false, cond, List, [], ◌∷◌, length, refl, ap, sym, subst, ◌∙◌, arith}
use Rattle.std.specs.Ordering.{is_lt}
use Rattle.std.specs.declared.option.Option.{Option}
use Rattle.std.specs.declared.option.Option.TheVariants.{None, Some}
use Rattle.lock_table.specs.declared.node.Link.{Link}
use Rattle.lock_table.specs.declared.heads.Head.{Head}
use Rattle.lock_table.specs.Tags.{PageTag, tag_cmp}
use Rattle.lock_table.specs.Inside.{Entry, head_of, last_of, IsLinked, IsList, gap_of, upto, from}
use Rattle.lock_table.proofs.Filters.{Here}

abbrev gap_from : Option ℕ → PageTag → List Entry → Link
gap_from prev t es = record { prev = last_of prev (upto t es); next = head_of (from t es) None }

-- where the walk stands, with what is left of the list
pub record Walk (f : ℕ → Option Link) (at : ℕ → Option PageTag) (t : PageTag) (es : List Entry) (prev next : Option ℕ) (left : ℕ) : Type 0 where
  pub rest : List Entry
  pub linked : IsLinked f prev rest None
  pub goes_on : next ≡ head_of rest None
  pub here : Here at rest
  pub gap : gap_from None t es ≡ gap_from prev t rest
  pub enough : length rest ≤ left

pub begins : (f : ℕ → Option Link) (at : ℕ → Option PageTag) (t : PageTag) (es : List Entry) (h : Head) → IsList f h es → Here at es → Walk f at t es None h.first h.count
begins f at t es h l here = record { rest = es; linked = l.linked; goes_on = l.first; here = here; gap = refl; enough = omega (arith, l.count) }

module _ (f : ℕ → Option Link) (at : ℕ → Option PageTag) (t : PageTag) (es : List Entry) (prev next : Option ℕ) where
  ends_by : (rest : List Entry) → next ≡ head_of rest None → gap_from None t es ≡ gap_from prev t rest → upto t rest ≡ [] → from t rest ≡ rest → record { prev = prev; next = next } ≡ gap_of (upto t es) (from t es)
  ends_by rest n g u r = sym (g ∙ (ap (λ (z : List Entry). record { prev = last_of prev z; next = head_of (from t rest) None }) u ∙ (ap (λ (z : List Entry). record { prev = prev; next = head_of z None }) r ∙ ap (λ (o : Option ℕ). record { prev = prev; next = o }) (sym n))))

  -- at the end of the list
  ended : (rest : List Entry) → IsLinked f prev rest None → next ≡ head_of rest None → gap_from None t es ≡ gap_from prev t rest → next ≡ None → record { prev = prev; next = next } ≡ gap_of (upto t es) (from t es)
  ended [] l n g none = ends_by [] n g refl refl
  ended (e ∷ rest) l n g none = absurd (cc (n, none))

  pub ends : (left : ℕ) → Walk f at t es prev next left → next ≡ None → record { prev = prev; next = next } ≡ gap_of (upto t es) (from t es)
  ends left w none = ended w.rest w.linked w.goes_on w.gap none

  spent : (rest : List Entry) → next ≡ head_of rest None → gap_from None t es ≡ gap_from prev t rest → length rest ≤ 0 → record { prev = prev; next = next } ≡ gap_of (upto t es) (from t es)
  spent [] n g z = ends_by [] n g refl refl
  spent (e ∷ rest) n g z = absurd (omega arith)

  pub ends_spent : (left : ℕ) → Walk f at t es prev next left → left ≡ 0 → record { prev = prev; next = next } ≡ gap_of (upto t es) (from t es)
  ends_spent left w zero = spent w.rest w.goes_on w.gap (omega (arith, w.enough, zero))

  -- a place that the walk comes to has a tag
  stops : (rest : List Entry) (k : ℕ) → Here at rest → next ≡ head_of rest None → next ≡ Some k → at k ≡ None → ⊥
  stops [] k h n is none = absurd (cc (n, is))
  stops (e ∷ rest) k h n is none =
      let same : Some e.0 ≡ Some k = sym n ∙ is in
      let k_is : e.0 ≡ k = cc (same) in
      let there : at k ≡ Some e.1 = ap at (sym k_is) ∙ h.0 in
      absurd (cc (there, none))

  pub has_tag : (left k : ℕ) → Walk f at t es prev next left → next ≡ Some k → at k ≡ None → ⊥
  has_tag left k w is none = stops w.rest k w.here w.goes_on is none

  found : (rest : List Entry) (k : ℕ) (x : PageTag) → Here at rest → next ≡ head_of rest None → gap_from None t es ≡ gap_from prev t rest → next ≡ Some k → at k ≡ Some x → is_lt (tag_cmp x t) ≡ false
      → record { prev = prev; next = next } ≡ gap_of (upto t es) (from t es)
  found [] k x h n g is there not_below = absurd (cc (n, is))
  found (e ∷ rest) k x h n g is there not_below =
      let same : Some e.0 ≡ Some k = sym n ∙ is in
      let k_is : e.0 ≡ k = cc (same) in
      let both : Some e.1 ≡ Some x = sym h.0 ∙ (ap at k_is ∙ there) in
      let tag : e.1 ≡ x = cc (both) in
      let test : is_lt (tag_cmp e.1 t) ≡ false = ap (λ (z : PageTag). is_lt (tag_cmp z t)) tag ∙ not_below in
      ends_by (e ∷ rest) n g (ap (λ (b : Bool). cond b (e ∷ upto t rest) []) test) (ap (λ (b : Bool). cond b (from t rest) (e ∷ rest)) test)

  pub ends_found : (left k : ℕ) (x : PageTag) → Walk f at t es prev next left → next ≡ Some k → at k ≡ Some x → is_lt (tag_cmp x t) ≡ false → record { prev = prev; next = next } ≡ gap_of (upto t es) (from t es)
  ends_found left k x w is there not_below = found w.rest k x w.here w.goes_on w.gap is there not_below

  on : (left left' : ℕ) (rest : List Entry) (k : ℕ) (x : PageTag) (l : Link) → IsLinked f prev rest None → Here at rest → next ≡ head_of rest None → gap_from None t es ≡ gap_from prev t rest → length rest ≤ left → left ≡ left' + 1
      → next ≡ Some k → at k ≡ Some x → f k ≡ Some l → is_lt (tag_cmp x t) ≡ true → Walk f at t es next l.next left'
  on left left' [] k x l linked h n g enough less is there link below = absurd (cc (n, is))
  on left left' (e ∷ rest) k x l linked h n g enough less is there link below =
      let same : Some e.0 ≡ Some k = sym n ∙ is in
      let k_is : e.0 ≡ k = cc (same) in
      let both : Some e.1 ≡ Some x = sym h.0 ∙ (ap at k_is ∙ there) in
      let tag : e.1 ≡ x = cc (both) in
      let links : Some l ≡ Some (record { prev = prev; next = head_of rest None }) = sym link ∙ (ap f (sym k_is) ∙ linked.0) in
      let l_is : l ≡ record { prev = prev; next = head_of rest None } = cc (links) in
      let test : is_lt (tag_cmp e.1 t) ≡ true = ap (λ (z : PageTag). is_lt (tag_cmp z t)) tag ∙ below in
      record {
        rest = rest;
        linked = subst (λ (o : Option ℕ). IsLinked f o rest None) (sym n) linked.1;
        goes_on = ap (λ (z : Link). z.next) l_is;
        here = h.1;
        gap =
            g ∙ (ap (λ (b : Bool). record { prev = last_of prev (cond b (e ∷ upto t rest) []); next = head_of (cond b (from t rest) (e ∷ rest)) None }) test
            ∙ ap (λ (o : Option ℕ). gap_from o t rest) (sym n));
        enough = omega arith;
      }

  pub goes : (left left' k : ℕ) (x : PageTag) (l : Link) → Walk f at t es prev next left → left ≡ left' + 1 → next ≡ Some k → at k ≡ Some x → f k ≡ Some l → is_lt (tag_cmp x t) ≡ true → Walk f at t es next l.next left'
  goes left left' k x l w less is there link below = on left left' w.rest k x l w.linked w.here w.goes_on w.gap w.enough less is there link below
