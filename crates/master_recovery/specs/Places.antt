-- Places that were made before they are needed: an empty one counts as nothing.
use Rattle.std.specs.Prelude.{ℕ, List, [], ◌∷◌, IsSome}
use Rattle.std.specs.declared.cmp.Ordering.{Ordering}
use Rattle.std.specs.declared.option.Option.{Option}
use Rattle.std.specs.declared.option.Option.TheVariants.{None, Some}
use Rattle.std.specs.FinMap as fin
use Rattle.tm_base.specs.declared.message.PageStamp.{PageStamp}

-- The entries that have a value.
abbrev pub keep : {K X : Type 0} → K → Option X → List (K × X) → List (K × X)
keep k None es = es
keep k (Some v) es = (k, v) ∷ es

abbrev pub kept : {K X : Type 0} → List (K × Option X) → List (K × X)
kept [] = []
kept (e ∷ es) = keep e.0 e.1 (kept es)

-- The map of the places that aren't empty.
abbrev pub valued : {K X : Type 0} {R : K → K → Ordering} → fin.FinMap R (Option X) → fin.FinMap R X
valued m = fin.from_entries (kept (fin.entries m))

-- Each of the items has a place under its key.
abbrev pub HasAll : {A K X : Type 0} {R : K → K → Ordering} → (A → K) → fin.FinMap R (Option X) → List A → Type 0
HasAll key m [] = Unit {0}
HasAll key m (a ∷ items) = IsSome (fin.get m (key a)) × HasAll key m items

-- The map with the items, one after another, each under its key.
abbrev pub with_items : {A K X : Type 0} {R : K → K → Ordering} → (A → K) → (A → X) → fin.FinMap R X → List A → fin.FinMap R X
with_items key value m [] = m
with_items key value m (a ∷ items) = with_items key value (fin.insert m (key a) (value a)) items

-- ---- pages, rows and transactions

abbrev pub page_key : PageStamp → ℕ
page_key p = p.page.0

abbrev pub stamp_value : PageStamp → ℕ
stamp_value p = p.stamp.0

abbrev pub itself : {K : Type 0} → K → K
itself k = k

abbrev pub nothing : {K : Type 0} → K → Unit {0}
nothing k = tt
