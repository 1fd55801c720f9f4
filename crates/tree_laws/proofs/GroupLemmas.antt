-- What a group of records makes of the images.
use Rattle.std.proofs.Common.{◌≡◌, ◌≢◌, ℕ, ◌≤◌, ◌<◌, Bool, true, false, ◌&&◌, cond, nat_eq, nat_lt, nat_le, List, [], ◌∷◌, length, Option, Some, None, refl, sym, ap, ◌∙◌, subst, arith}
use Rattle.std.proofs.lemmas.Bool.Decides.{nat_tests}
use Rattle.std.specs.List.{AllByRecursion}
use Rattle.tm_data.specs.declared.transaction.Page.{Page}
use Rattle.tm_data.specs.declared.row.Row.{Row}
use Rattle.tm_data.specs.declared.image.Child.{Child}
use Rattle.tm_data.specs.declared.image.Body.{Body}
use Rattle.tm_data.specs.declared.image.Body.TheVariants.{Blank, Leaf, Inner}
use Rattle.tm_data.specs.declared.log.Record.{Record}
use Rattle.tm_base.specs.Sizes.{size_with, fence_size}
use Rattle.key_fences.specs.Fences.{is_within}
use Rattle.page_model.specs.Effects.{row_set, row_set_in, suiting, fitting, formatted, child_added, with_entries, entry_added, page_of}
use Rattle.page_model.specs.Tree.{Images, is_of, low_of}
use Rattle.page_model.specs.Splits.{changed_page, placed}
use Rattle.page_model.specs.Sound.{IsSound}
use Rattle.page_model.specs.Tiling.{is_named, record_on, changed, after, IsOnNoPage}

eq_itself : (n : ℕ) → nat_eq n n ≡ true
eq_itself n = grind (arith, nat_tests)

eq_not : (m n : ℕ) → m ≢ n → nat_eq m n ≡ false
eq_not m n h = grind (arith, nat_tests)

swap : (a b x : ℕ) (p q : Bool) (A B R : Option Record) → nat_eq a x ≡ p → nat_eq b x ≡ q → a < b → cond p A (cond q B R) ≡ cond q B (cond p A R)
swap a b x true true A B R e f lt = absurd (grind (arith, nat_tests))
swap a b x true false A B R e f lt = refl
swap a b x false q A B R e f lt = refl

less_is : (a b : ℕ) → nat_lt a b ≡ true → a < b
less_is a b h = grind (arith, nat_tests)

-- the record names the page that it is placed by
abbrev pub Names : Record → Type 0
Names r = page_of r ≡ Some (changed_page r)

named_is : (r : Record) (x : ℕ) → Names r → is_named (page_of r) x ≡ nat_eq (changed_page r) x
named_is r x n = ap (λ o. is_named o x) n

pub named_here : (r : Record) (x : ℕ) → Names r → changed_page r ≡ x → is_named (page_of r) x ≡ true
named_here r x n e = named_is r x n ∙ ap (nat_eq (changed_page r)) (sym e) ∙ eq_itself (changed_page r)

named_away : (r : Record) (x : ℕ) → Names r → changed_page r ≢ x → is_named (page_of r) x ≡ false
named_away r x n away = named_is r x n ∙ eq_not (changed_page r) x away

-- the record, if it names the page, before another's
abbrev pub if_named : ℕ → Record → Option Record → Option Record
if_named x r o = cond (is_named (page_of r) x) (Some r) o

on_by : (x : ℕ) (r s : Record) (rs : List Record) (b : Bool) → Names r → Names s → nat_lt (changed_page s) (changed_page r) ≡ b → record_on x (placed r rs) ≡ if_named x r (record_on x rs)
    → record_on x (cond b (s ∷ placed r rs) (r ∷ s ∷ rs)) ≡ if_named x r (record_on x (s ∷ rs))
on_by x r s rs true nr ns e rest =
    ap (if_named x s) rest
    ∙ swap (changed_page s) (changed_page r) x (is_named (page_of s) x) (is_named (page_of r) x) (Some s) (Some r) (record_on x rs) (sym (named_is s x ns)) (sym (named_is r x nr)) (less_is (changed_page s) (changed_page r) e)
on_by x r s rs false nr ns e rest = refl

pub on_placed : (x : ℕ) (r : Record) (rs : List Record) → Names r → AllByRecursion Names rs → record_on x (placed r rs) ≡ if_named x r (record_on x rs)
on_placed x r [] nr all = refl
on_placed x r (s ∷ rs) nr all = on_by x r s rs (nat_lt (changed_page s) (changed_page r)) nr all.0 refl (on_placed x r rs nr all.1)

all_placed : (r : Record) (rs : List Record) (b : Bool) (s : Record) → Names r → Names s → AllByRecursion Names rs → AllByRecursion Names (placed r rs) → AllByRecursion Names (cond b (s ∷ placed r rs) (r ∷ s ∷ rs))
all_placed r rs true s nr ns all p = (ns, p)
all_placed r rs false s nr ns all p = (nr, (ns, all))

pub placed_names : (r : Record) (rs : List Record) → Names r → AllByRecursion Names rs → AllByRecursion Names (placed r rs)
placed_names r [] nr all = (nr, tt)
placed_names r (s ∷ rs) nr all = all_placed r rs (nat_lt (changed_page s) (changed_page r)) s nr all.0 all.1 (placed_names r rs nr all.1)

module _ (images : Images) (stamp : ℕ) (r s t : Record) (nr : Names r) (ns : Names s) (nt : Names t) where
  abbrev group : List Record
  group = placed r (placed s (t ∷ []))

  pub on_three : (x : ℕ) → record_on x group ≡ if_named x r (if_named x s (if_named x t None))
  on_three x = on_placed x r (placed s (t ∷ [])) nr (placed_names s (t ∷ []) ns (nt, tt)) ∙ ap (if_named x r) (on_placed x s (t ∷ []) ns (nt, tt))

  by : (x : ℕ) (o : Option Record) → record_on x group ≡ o → after images group stamp x ≡ changed (images x) o stamp
  by x o e = ap (λ o. changed (images x) o stamp) e

  pub first_changed : (x : ℕ) → changed_page r ≡ x → after images group stamp x ≡ changed (images x) (Some r) stamp
  first_changed x e = by x (Some r) (on_three x ∙ ap (λ b. cond b (Some r) (if_named x s (if_named x t None))) (named_here r x nr e))

  pub second_changed : (x : ℕ) → changed_page s ≡ x → changed_page r ≢ x → after images group stamp x ≡ changed (images x) (Some s) stamp
  second_changed x e away_r =
      by x (Some s) (on_three x ∙ ap (λ b. cond b (Some r) (if_named x s (if_named x t None))) (named_away r x nr away_r)
      ∙ ap (λ b. cond b (Some s) (if_named x t None)) (named_here s x ns e))

  pub third_changed : (x : ℕ) → changed_page t ≡ x → changed_page r ≢ x → changed_page s ≢ x → after images group stamp x ≡ changed (images x) (Some t) stamp
  third_changed x e away_r away_s =
      by x (Some t) (on_three x ∙ ap (λ b. cond b (Some r) (if_named x s (if_named x t None))) (named_away r x nr away_r)
      ∙ ap (λ b. cond b (Some s) (if_named x t None)) (named_away s x ns away_s) ∙ ap (λ b. cond b (Some t) None) (named_here t x nt e))

  pub none_changed : (x : ℕ) → changed_page r ≢ x → changed_page s ≢ x → changed_page t ≢ x → after images group stamp x ≡ images x
  none_changed x away_r away_s away_t =
      by x None (on_three x ∙ ap (λ b. cond b (Some r) (if_named x s (if_named x t None))) (named_away r x nr away_r)
      ∙ ap (λ b. cond b (Some s) (if_named x t None)) (named_away s x ns away_s) ∙ ap (λ b. cond b (Some t) None) (named_away t x nt away_t))

pub one_changed : (images : Images) (stamp x : ℕ) (r : Record) → Names r → changed_page r ≡ x → after images (r ∷ []) stamp x ≡ changed (images x) (Some r) stamp
one_changed images stamp x r n e = ap (λ b. changed (images x) (cond b (Some r) None) stamp) (named_here r x n e)

pub one_unchanged : (images : Images) (stamp x : ℕ) (r : Record) → Names r → changed_page r ≢ x → after images (r ∷ []) stamp x ≡ images x
one_unchanged images stamp x r n away = ap (λ b. changed (images x) (cond b (Some r) None) stamp) (named_away r x n away)

-- a group on no page changes none
pub nothing_changed : (images : Images) (stamp x : ℕ) (group : List Record) → IsOnNoPage group → after images group stamp x ≡ images x
nothing_changed images stamp x g s = ap (λ g. changed (images x) (record_on x g) stamp) s.is ∙ ap (λ o. changed (images x) (cond (is_named o x) (Some s.change) None) stamp) s.names

-- ---- what the records do

pub formatted_is : (table : ℕ) (body : Body) → is_of table body ≡ true → formatted body ≡ Some body
formatted_is table Blank h = cc
formatted_is table (Leaf of low high rows) h = refl
formatted_is table (Inner of level low high first entries) h = refl

pub fits_is : (b : Body) → size_with b ≤ 8192 → fitting b ≡ Some b
fits_is b le = let e : nat_le (size_with b) 8192 ≡ true = grind (arith, nat_tests) in ap (λ t. cond t (Some b) None) e

pub set_is : (table : ℕ) (low high : Option (List ℕ)) (rows : List Row) (row : Row) → is_within low high row.key ≡ true → size_with (Leaf table low high (row_set rows row)) ≤ 8192
    → row_set_in (Leaf table low high rows) table row ≡ Some (Leaf table low high (row_set rows row))
set_is table low high rows row within le =
    let body = Leaf table low high (row_set rows row) in
    ap (λ b. suiting (b && is_within low high row.key) body) (eq_itself table) ∙ ap (λ b. suiting b body) within ∙ fits_is body le

-- what an added entry makes of an inner page
pub record Added (table level : ℕ) (low high : Option (List ℕ)) (first : Page) (entries : List Child) (child : Child) (new : Body) : Type 0 where
  pub es : List Child
  pub made : entry_added entries child ≡ Some es
  pub is : new ≡ Inner table level low high first es
  pub within : is_within low high child.key ≡ true
  pub size : size_with (Inner table level low high first es) ≤ 8192

fitted : (b new : Body) (t : Bool) → nat_le (size_with b) 8192 ≡ t → cond t (Some b) None ≡ Some new → (new ≡ b) × (size_with b ≤ 8192)
fitted b new true e h = (cc, grind (arith, nat_tests))
fitted b new false e h = cc

entries_by : (table level : ℕ) (low high : Option (List ℕ)) (first : Page) (entries : List Child) (child : Child) (new : Body) (o : Option (List Child)) → entry_added entries child ≡ o → is_within low high child.key ≡ true → with_entries table level low high first o ≡ Some new → Added table level low high first entries child new
entries_by table level low high first entries child new None e within h = cc
entries_by table level low high first entries child new (Some es) e within h =
    let b = Inner table level low high first es in
    let f = fitted b new (nat_le (size_with b) 8192) refl h in
    record { es = es; made = e; is = f.0; within = within; size = f.1 }

added_by : (table level : ℕ) (low high : Option (List ℕ)) (first : Page) (entries : List Child) (child : Child) (new : Body) (t : Bool) → is_within low high child.key ≡ t → cond t (with_entries table level low high first (entry_added entries child)) None ≡ Some new → Added table level low high first entries child new
added_by table level low high first entries child new true e h = entries_by table level low high first entries child new (entry_added entries child) refl e h
added_by table level low high first entries child new false e h = cc

pub added_is : (table level : ℕ) (low high : Option (List ℕ)) (first : Page) (entries : List Child) (child : Child) (new : Body) → child_added (Inner table level low high first entries) child ≡ Some new → Added table level low high first entries child new
added_is table level low high first entries child new h = added_by table level low high first entries child new (is_within low high child.key) refl h

pub low_limited : (b : Body) → IsSound b → fence_size (low_of b) ≤ 65
low_limited Blank ok = omega arith
low_limited (Leaf table low high rows) ok = ok.parts.0.low_size
low_limited (Inner table level low high first entries) ok = ok.parts.0.low_size

-- a separator is no longer than a key
pub separator_limited : (b : Body) (at : List ℕ) → IsSound b → low_of b ≡ Some at → length at ≤ 64
separator_limited b at ok e = let le : fence_size (Some at) ≤ 65 = subst (λ o. fence_size o ≤ 65) e (low_limited b ok) in omega (arith, le)
