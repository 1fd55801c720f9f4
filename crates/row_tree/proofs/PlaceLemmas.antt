-- Where a key leads, by the number of entries with keys up to it.
use Rattle.std.proofs.Common.{◌≡◌, ℕ, suc, zero, ◌<◌, ◌≤◌, Bool, true, false, not, List, [], ◌∷◌, length, get_or, drop, Option, Some, refl, sym, ap, ◌∙◌, arith, ◌-◌, inl, inr}
use Rattle.std.specs.Prelude.{slice_get}
use Rattle.std.proofs.lemmas.Bool.{cases_lt}
use Rattle.std.specs.List.{AllWithin}
use Rattle.std.specs.List.Sorted.{IsPartitionedBy}
use Rattle.tm_data.specs.declared.image.Child.{Child}
use Rattle.tm_data.specs.declared.transaction.Page.{Page}
use Rattle.key_fences.specs.Fences.{key_less}
use Rattle.tm_lists.specs.Kept.{Ascend}
use Rattle.tm_lists.proofs.KeptLemmas.{ascend_at}
use Rattle.page_model.specs.Tree.{Place, next_fence, first_place, entry_places, last_from, child_for}
use Rattle.row_tree.specs.Inside.{ArePartedAt}
use Rattle.page_model.proofs.KeyLemmas.{not_both, up_to_trans}

abbrev up_to : List ℕ → Child → Bool
up_to key c = not (key_less key c.key)

from_not : (b : Bool) → not b ≡ true → b ≡ false
from_not true h = cc
from_not false h = refl

-- entries whose keys ascend are parted by every key
pub are_parted : (key : List ℕ) (entries : List Child) → Ascend (λ (c : Child). c.key) entries → IsPartitionedBy (up_to key) entries
are_parted key entries up i j d le lt h =
    elim (cases_lt i j) [ inl l ↦ (let k = not_both (get_or entries i d).key (get_or entries j d).key (ascend_at (λ (c : Child). c.key) entries i j d up l lt) in let e = up_to_trans (get_or entries i d).key (get_or entries j d).key key k (from_not _ h) in ap not e) | inr g ↦ (let e : i ≡ j = omega arith in rw e h) ]

led_none : (key : List ℕ) (high : Option (List ℕ)) (place : Place) (entries : List Child) → AllWithin (λ c. up_to key c ≡ false) entries 0 (length entries) → last_from key place (entry_places high entries) ≡ place
led_none key high place [] all = refl
led_none key high place (c ∷ cs) all =
    let e : up_to key c ≡ false = all 0 c (omega arith) (omega arith) in
    rw (e, last_from) (led_none key high place cs (λ k d lo hi. all (suc k) d (omega arith) (omega arith)))

-- of the children, the key leads to the one whose number is that of the entries up to it
led : (key : List ℕ) (high : Option (List ℕ)) (place : Place) (entries : List Child) (n : ℕ) (p : Place) → n ≤ length entries → ArePartedAt key entries n
    → slice_get (place ∷ entry_places high entries) n ≡ Some p → p ≡ last_from key place (entry_places high entries)
led key high place entries zero p le parted is =
    let e : place ≡ p = cc in
    sym e ∙ sym (led_none key high place entries (λ k d lo hi. parted.1 k d lo hi))
led key high place [] (suc n) p le parted is = absurd (omega arith)
led key high place (c ∷ cs) (suc n) p le parted is =
    let e : up_to key c ≡ true = parted.0 0 c (omega arith) (omega arith) in
    rw (e, last_from) (led key high _ cs n p (omega arith) ((λ k x lo hi. parted.0 (suc k) x (omega arith) (omega arith)), (λ k x lo hi. parted.1 (suc k) x (omega arith) (omega arith))) is)

pub leads : (key : List ℕ) (low high : Option (List ℕ)) (first : Page) (entries : List Child) (n : ℕ) (p : Place) → n ≤ length entries → ArePartedAt key entries n
    → slice_get (first_place low high first entries ∷ entry_places high entries) n ≡ Some p → p ≡ child_for key low high first entries
leads key low high first entries n p le parted is = led key high (first_place low high first entries) entries n p le parted is

-- ---- a child by its number

pub first_child : (low high : Option (List ℕ)) (first : Page) (entries : List Child) (n : ℕ) → n ≡ 0
    → slice_get (first_place low high first entries ∷ entry_places high entries) n ≡ Some (record { page = first; low = low; high = next_fence (drop n entries) high })
first_child low high first entries n is = rw is refl

entry_child : (high : Option (List ℕ)) (entries : List Child) (n : ℕ) (d : Child) → n < length entries
    → slice_get (entry_places high entries) n ≡ Some (record { page = (get_or entries n d).page; low = Some (get_or entries n d).key; high = next_fence (drop (suc n) entries) high })
entry_child high [] n d lt = absurd (omega arith)
entry_child high (c ∷ cs) zero d lt = refl
entry_child high (c ∷ cs) (suc n) d lt = entry_child high cs n d (omega arith)

pub later_child : (place : Place) (high : Option (List ℕ)) (entries : List Child) (n : ℕ) (d : Child) → (0 < n) × (n ≤ length entries)
    → slice_get (place ∷ entry_places high entries) n ≡ Some (record { page = (get_or entries (n - 1) d).page; low = Some (get_or entries (n - 1) d).key; high = next_fence (drop n entries) high })
later_child place high entries zero d h = absurd (omega arith)
later_child place high entries (suc n) d h = let e : suc n - 1 ≡ n = omega arith in rw e (entry_child high entries n d (omega arith))
