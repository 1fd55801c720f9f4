-- A walk along a list to the first tag that is sought.
use Rattle.std.proofs.Common.{◌≡◌, ◌≤◌, ◌+◌, ℕ, List, [], ◌∷◌, length, refl, ap, sym, ◌∙◌, arith}
use Rattle.std.specs.declared.option.Option.{Option}
use Rattle.std.specs.declared.option.Option.TheVariants.{None, Some}
use Rattle.lock_table.specs.declared.node.Link.{Link}
use Rattle.lock_table.specs.Tags.{PageTag}
use Rattle.lock_table.specs.Inside.{Entry, head_of, IsLinked}
use Rattle.lock_table.proofs.Filters.{Here}

module _ {X : Type 0} (f : ℕ → Option Link) (at : ℕ → Option PageTag) (answer : List Entry → Option X) (es : List Entry) where
  -- where the walk stands: what is left of the list gives the answer
  pub record Seek (next : Option ℕ) (left : ℕ) : Type 0 where
    pub prev : Option ℕ
    pub rest : List Entry
    pub linked : IsLinked f prev rest None
    pub goes_on : next ≡ head_of rest None
    pub here : Here at rest
    pub same : answer es ≡ answer rest
    pub enough : length rest ≤ left

  pub seek_begins : (prev next : Option ℕ) (left : ℕ) → IsLinked f prev es None → next ≡ head_of es None → Here at es → length es ≤ left → Seek next left
  seek_begins prev next left l n h e = record { prev = prev; rest = es; linked = l; goes_on = n; here = h; same = refl; enough = e }

  no_more : (rest : List Entry) → head_of rest None ≡ None → rest ≡ []
  no_more [] h = refl
  no_more (e ∷ rest) h = absurd (cc (h))

  pub seek_ended : (next : Option ℕ) (left : ℕ) → Seek next left → next ≡ None → answer es ≡ answer []
  seek_ended next left s none = s.same ∙ ap answer (no_more s.rest (sym s.goes_on ∙ none))

  none_left : (rest : List Entry) → length rest ≤ 0 → rest ≡ []
  none_left [] h = refl
  none_left (e ∷ rest) h = absurd (omega arith)

  pub seek_spent : (next : Option ℕ) (left : ℕ) → Seek next left → left ≡ 0 → answer es ≡ answer []
  seek_spent next left s zero = s.same ∙ ap answer (none_left s.rest (omega (arith, s.enough, zero)))

  -- the node that the walk has come to
  pub record Met (k : ℕ) (x : PageTag) (left : ℕ) : Type 0 where
    pub rest : List Entry
    pub is : answer es ≡ answer ((k, x) ∷ rest)
    pub goes : (l : Link) (less : ℕ) → f k ≡ Some l → answer ((k, x) ∷ rest) ≡ answer rest → left ≡ less + 1 → Seek l.next less

  met : (prev next : Option ℕ) (left : ℕ) (rest : List Entry) (k : ℕ) (x : PageTag) → IsLinked f prev rest None → next ≡ head_of rest None → Here at rest → answer es ≡ answer rest → length rest ≤ left → next ≡ Some k → at k ≡ Some x → Met k x left
  met prev next left [] k x l n h s enough is there = absurd (cc (n, is))
  met prev next left (e ∷ rest) k x l n h s enough is there =
      let same : Some e.0 ≡ Some k = sym n ∙ is in
      let k_is : e.0 ≡ k = cc (same) in
      let both : Some e.1 ≡ Some x = sym h.0 ∙ (ap at k_is ∙ there) in
      let tag : e.1 ≡ x = cc (both) in
      let entry : e ≡ (k, x) = ap (λ (z : ℕ). (z, e.1)) k_is ∙ ap (λ (z : PageTag). (k, z)) tag in
      record {
        rest = rest;
        is = s ∙ ap (λ (z : Entry). answer (z ∷ rest)) entry;
        goes = λ lk less link skip left_is.
            let links : Some lk ≡ Some (record { prev = prev; next = head_of rest None }) = sym link ∙ (ap f (sym k_is) ∙ l.0) in
            let lk_is : lk ≡ record { prev = prev; next = head_of rest None } = cc (links) in
            record { prev = Some e.0; rest = rest; linked = l.1; goes_on = ap (λ (z : Link). z.next) lk_is; here = h.1; same = s ∙ (ap (λ (z : Entry). answer (z ∷ rest)) entry ∙ skip); enough = omega arith };
      }

  pub seek_met : (next : Option ℕ) (left k : ℕ) (x : PageTag) → Seek next left → next ≡ Some k → at k ≡ Some x → Met k x left
  seek_met next left k x s is there = met s.prev next left s.rest k x s.linked s.goes_on s.here s.same s.enough is there

  pub seek_has : (next : Option ℕ) (left k : ℕ) → Seek next left → next ≡ Some k → at k ≡ None → ⊥
  seek_has next left k s is none = has s.rest s.goes_on s.here
    where
      has : (rest : List Entry) → next ≡ head_of rest None → Here at rest → ⊥
      has [] n h = absurd (cc (n, is))
      has (e ∷ rest) n h =
          let same : Some e.0 ≡ Some k = sym n ∙ is in
          let k_is : e.0 ≡ k = cc (same) in
          let there : at k ≡ Some e.1 = ap at (sym k_is) ∙ h.0 in
          absurd (cc (there, none))
