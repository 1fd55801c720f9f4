-- What the steps of a page store make of its state.
use Rattle.std.proofs.Common.{◌≡◌, ℕ, true, false, List, [], Option, None, Some, Bor, refl, sym, subst, ap, ◌∙◌}
use Rattle.std.specs.Prelude.{is_none, is_some}
use Rattle.std.specs.Option.{option_copied}
use Rattle.std.specs.FinMap.{get}
use Rattle.tm_data.specs.declared.log.Group.{Group}
use Rattle.tm_data.specs.declared.transaction.Writer.{Writer}
use Rattle.tm_base.specs.declared.message.Message.{Message}
use Rattle.tm_base.specs.declared.message.Node.{Node}
use Rattle.tm_base.specs.declared.message.RosterEntry.{RosterEntry}
use Rattle.page_model.specs.Versions.{Held}
use Rattle.store_model.specs.declared.front.Front.{Front}
use Rattle.store_model.specs.PageState.{Fronts, PageStoreState, next_of}
use Rattle.store_model.specs.PageStep.{Effect, brought, front_after, in_turn, on_front, on_groups, on_listed, with_links}
use Rattle.page_store.specs.Answers.{HasPart, TakesPart, brings_of, if_listed}
use Rattle.page_store.proofs.IntakeLemmas.{none_next, part_all}

pub copied_some : {X : Type 0} (o : Option (Bor X)) → is_none o ≡ false → is_some (option_copied o) ≡ true
copied_some None h = absurd (cc h)
copied_some (Some x) h = refl

some_there : (o : Option RosterEntry) → is_some o ≡ true → (e : RosterEntry) × (Some e ≡ o)
some_there None h = absurd (cc h)
some_there (Some e) h = (e, refl)

-- Records were taken and the front stays.
taken_part : (t : PageStoreState) (w : Writer) (groups : List Group) (pages : Held) → is_some (get t.roster w.0) ≡ true
    → pages ≡ with_links t.pages (brought t.number t.stores (in_turn w.0 (next_of t w.0) groups)) → HasPart t (record t { pages = pages }) (brings_of t w groups)
taken_part t w groups pages listed taken =
    let there = some_there (get t.roster w.0) listed in record {
      rest = refl;
      part = subst (λ o. TakesPart (if_listed t w groups o) t.pages pages) there.1 (part_all (brought t.number t.stores (in_turn w.0 (next_of t w.0) groups)) t.pages pages taken);
    }

pub groups_part : (t s : PageStoreState) (w : Writer) (groups : List Group) (pages : Held) (fronts : Fronts) (next : ℕ) → t ≡ s → is_some (get t.roster w.0) ≡ true
    → next ≡ next_of s w.0 → pages ≡ with_links t.pages (brought t.number t.stores (in_turn w.0 next groups)) → fronts ≡ t.fronts
    → HasPart s (record t { fronts = fronts; pages = pages }) (brings_of s w groups)
groups_part t s w groups pages fronts next view listed next-is taken same =
    subst (λ f. HasPart s (record t { fronts = f; pages = pages }) (brings_of s w groups)) (sym same)
    (subst (λ x. HasPart x (record t { pages = pages }) (brings_of x w groups)) view
    (taken_part t w groups pages listed (taken ∙ ap (λ n. with_links t.pages (brought t.number t.stores (in_turn w.0 n groups))) (next-is ∙ ap (λ (x : PageStoreState). next_of x w.0) (sym view)))))

-- No group was next.
left_as_is : (t : PageStoreState) (from : Node) (w : Writer) (groups : List Group) (pages : Held) (outputs : List Message) → is_some (get t.roster w.0) ≡ true
    → None ≡ front_after None (in_turn w.0 (next_of t w.0) groups) → pages ≡ with_links t.pages (brought t.number t.stores (in_turn w.0 (next_of t w.0) groups)) → outputs ≡ []
    → (let r : Effect = (record t { pages = pages }, outputs) in r) ≡ on_groups t from w groups
left_as_is t from w groups pages outputs listed none taken sent =
    let there = some_there (get t.roster w.0) listed in
    let same : pages ≡ t.pages = taken ∙ ap (λ xs. with_links t.pages (brought t.number t.stores xs)) (none_next (in_turn w.0 (next_of t w.0) groups) (sym none)) in
    (λ i. (record t { pages = same i }, sent i))
    ∙ (ap (on_front t from w (brought t.number t.stores (in_turn w.0 (next_of t w.0) groups))) none ∙ ap (on_listed t from w groups) there.1)

pub groups_left : (t s : PageStoreState) (from : Node) (w : Writer) (groups : List Group) (pages : Held) (outputs : List Message) (next : ℕ) (front : Option Front)
    → t ≡ s → is_some (get t.roster w.0) ≡ true → next ≡ next_of s w.0 → front ≡ front_after None (in_turn w.0 next groups) → front ≡ None
    → pages ≡ with_links t.pages (brought t.number t.stores (in_turn w.0 next groups)) → outputs ≡ []
    → (let r : Effect = (record t { pages = pages }, outputs) in r) ≡ on_groups s from w groups
groups_left t s from w groups pages outputs next front view listed next-is front-is none taken sent =
    let n : next ≡ next_of t w.0 = next-is ∙ ap (λ (x : PageStoreState). next_of x w.0) (sym view) in
    left_as_is t from w groups pages outputs listed (sym none ∙ (front-is ∙ ap (λ m. front_after None (in_turn w.0 m groups)) n))
    (taken ∙ ap (λ m. with_links t.pages (brought t.number t.stores (in_turn w.0 m groups))) n) sent
    ∙ ap (λ (x : PageStoreState). on_groups x from w groups) view
