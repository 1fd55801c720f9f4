-- A walk along a list that takes each tag.
use Rattle.std.proofs.Common.{◌≡◌, ◌≤◌, ◌+◌, ℕ, List, [], ◌∷◌, ◌++◌, length, refl, ap, sym, ◌∙◌, arith}
use Rattle.std.specs.declared.option.Option.{Option}
use Rattle.std.specs.declared.option.Option.TheVariants.{None, Some}
use Rattle.tm_base.specs.declared.message.Tag.{Tag}
use Rattle.lock_table.specs.declared.node.Link.{Link}
use Rattle.lock_table.specs.Tags.{PageTag, tag_of}
use Rattle.lock_table.specs.Inside.{Entry, head_of, IsLinked, copies}
use Rattle.lock_table.proofs.Filters.{Here}

module _ (f : ℕ → Option Link) (at : ℕ → Option PageTag) (es : List Entry) where
  -- where the walk stands: what was taken, and what is left of the list
  pub record Gather (done : List Tag) (next : Option ℕ) (left : ℕ) : Type 0 where
    pub prev : Option ℕ
    pub rest : List Entry
    pub linked : IsLinked f prev rest None
    pub goes_on : next ≡ head_of rest None
    pub here : Here at rest
    pub whole : done ++ copies rest ≡ copies es
    pub enough : length rest ≤ left

  pub gather_begins : (next : Option ℕ) (left : ℕ) → IsLinked f None es None → next ≡ head_of es None → Here at es → length es ≤ left → Gather [] next left
  gather_begins next left l n h e = record { prev = None; rest = es; linked = l; goes_on = n; here = h; whole = refl; enough = e }

  nothing_more : (done : List Tag) → done ≡ done ++ []
  nothing_more [] = refl
  nothing_more (t ∷ ts) = ap (λ (z : List Tag). t ∷ z) (nothing_more ts)

  no_more : (rest : List Entry) → head_of rest None ≡ None → rest ≡ []
  no_more [] h = refl
  no_more (e ∷ rest) h = absurd (cc (h))

  pub gather_ended : (done : List Tag) (next : Option ℕ) (left : ℕ) → Gather done next left → next ≡ None → done ≡ copies es
  gather_ended done next left g none = nothing_more done ∙ ap (λ (z : List Entry). done ++ copies z) (sym (no_more g.rest (sym g.goes_on ∙ none))) ∙ g.whole

  none_left : (rest : List Entry) → length rest ≤ 0 → rest ≡ []
  none_left [] h = refl
  none_left (e ∷ rest) h = absurd (omega arith)

  pub gather_spent : (done : List Tag) (next : Option ℕ) (left : ℕ) → Gather done next left → left ≡ 0 → done ≡ copies es
  gather_spent done next left g zero = nothing_more done ∙ ap (λ (z : List Entry). done ++ copies z) (sym (none_left g.rest (omega (arith, g.enough, zero)))) ∙ g.whole

  one_more : (done : List Tag) (t : Tag) (rest : List Tag) → (done ++ t ∷ []) ++ rest ≡ done ++ t ∷ rest
  one_more [] t rest = refl
  one_more (d ∷ ds) t rest = ap (λ (z : List Tag). d ∷ z) (one_more ds t rest)

  met : (done : List Tag) (prev next : Option ℕ) (left less : ℕ) (rest : List Entry) (k : ℕ) (x : PageTag) (t : Tag) (l : Link) → IsLinked f prev rest None → next ≡ head_of rest None → Here at rest → done ++ copies rest ≡ copies es
      → length rest ≤ left → next ≡ Some k → at k ≡ Some x → f k ≡ Some l → t ≡ tag_of x → left ≡ less + 1 → Gather (done ++ t ∷ []) l.next less
  met done prev next left less [] k x t l linked n h w enough is there link same_tag left_is = absurd (cc (n, is))
  met done prev next left less (e ∷ rest) k x t l linked n h w enough is there link same_tag left_is =
      let same : Some e.0 ≡ Some k = sym n ∙ is in
      let k_is : e.0 ≡ k = cc (same) in
      let both : Some e.1 ≡ Some x = sym h.0 ∙ (ap at k_is ∙ there) in
      let tag : e.1 ≡ x = cc (both) in
      let links : Some l ≡ Some (record { prev = prev; next = head_of rest None }) = sym link ∙ (ap f (sym k_is) ∙ linked.0) in
      let l_is : l ≡ record { prev = prev; next = head_of rest None } = cc (links) in
      record {
        prev = Some e.0;
        rest = rest;
        linked = linked.1;
        goes_on = ap (λ (z : Link). z.next) l_is;
        here = h.1;
        whole = one_more done t (copies rest) ∙ (ap (λ (z : Tag). done ++ z ∷ copies rest) (same_tag ∙ ap (λ (z : PageTag). tag_of z) (sym tag)) ∙ w);
        enough = omega arith;
      }

  pub gather_met : (done : List Tag) (next : Option ℕ) (left less k : ℕ) (x : PageTag) (t : Tag) (l : Link) → Gather done next left → next ≡ Some k → at k ≡ Some x → f k ≡ Some l → t ≡ tag_of x → left ≡ less + 1 → Gather (done ++ t ∷ []) l.next less
  gather_met done next left less k x t l g is there link same left_is = met done g.prev next left less g.rest k x t l g.linked g.goes_on g.here g.whole g.enough is there link same left_is

  pub gather_has : (done : List Tag) (next : Option ℕ) (left k : ℕ) → Gather done next left → next ≡ Some k → at k ≡ None → ⊥
  gather_has done next left k g is none = has g.rest g.goes_on g.here
    where
      has : (rest : List Entry) → next ≡ head_of rest None → Here at rest → ⊥
      has [] n h = absurd (cc (n, is))
      has (e ∷ rest) n h =
          let same : Some e.0 ≡ Some k = sym n ∙ is in
          let k_is : e.0 ≡ k = cc (same) in
          let there : at k ≡ Some e.1 = ap at (sym k_is) ∙ h.0 in
          absurd (cc (there, none))
