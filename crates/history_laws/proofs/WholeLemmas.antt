-- The cuts of scalars and of closed vectors are whole for pages.
use Rattle.std.proofs.Common.{◌≡◌, ◌≢◌, ◌≤◌, ◌<◌, ℕ, true, not, nat_eq, nat_le, List, [], ◌∷◌, refl, sym, subst, ap, ◌∙◌, arith}
use Rattle.std.proofs.lemmas.Bool.{and_parts}
use Rattle.std.proofs.lemmas.Bool.Decides.{nat_tests}
use Rattle.std.specs.Prelude.{is_some}
use Rattle.std.specs.List.{AllByRecursion, cons_option}
use Rattle.std.specs.declared.option.Option.{Option}
use Rattle.std.specs.declared.option.Option.TheVariants.{None, Some}
use Rattle.tm_data.specs.declared.log.Group.{Group}
use Rattle.tm_data.specs.declared.log.Record.{Record}
use Rattle.page_model.specs.Effects.{page_of, prev_of}
use Rattle.page_model.specs.Tiling.{record_on}
use Rattle.key_model.specs.Cuts.{upto, under}
use Rattle.history_model.specs.History.{Bound, Deed, Reads, Logs, Entry, group_of, groups, has}
use Rattle.history_model.specs.Bounds.{AtMost, has_under, IsOwnCover}
use Rattle.history_model.specs.Images.{makes, changes_made, stands_on, IsWhole, StampsRise, HasOwn, stands, BoundsOrderPages}
use Rattle.history_laws.proofs.ListLemmas.{all_map, any_all}

le_of : (a b : ℕ) → nat_le a b ≡ true → a ≤ b
le_of a b h = grind (arith, nat_tests)

le_is : (a b : ℕ) → a ≤ b → nat_le a b ≡ true
le_is a b h = grind (arith, nat_tests)

-- ---- scalars

made_at : (h : Group) (prev : ℕ) (page : Option ℕ) → makes h prev page ≡ true → h.stamp.0 ≡ prev
made_at h prev None is = absurd (cc is)
made_at h prev (Some p) is = let both = and_parts (is_some (record_on p h.records)) (nat_eq h.stamp.0 prev) is in grind (arith, nat_tests)

-- a group stands on versions with lesser stamps
pub below : (g h : Group) → AllByRecursion (λ (r : Record). prev_of r ≢ 0 → prev_of r < g.stamp.0) g.records → stands_on g h ≡ true → h.stamp.0 < g.stamp.0
below g h rise is =
    let w = any_all (changes_made h) (λ (r : Record). prev_of r ≢ 0 → prev_of r < g.stamp.0) g.records is rise in
    let both = and_parts (not (nat_eq (prev_of w.0) 0)) (makes h (prev_of w.0) (page_of w.0)) w.1 in
    let ne : prev_of w.0 ≢ 0 = λ e. grind (arith, nat_tests) in
    let at : h.stamp.0 ≡ prev_of w.0 = made_at h (prev_of w.0) (page_of w.0) both.1 in
    omega (arith, at, w.2 ne)

pub scalar_whole : (gs : List Group) → StampsRise gs → (s : ℕ) → IsWhole gs (upto s)
scalar_whole gs rise s =
    all_map (λ (g : Group). AllByRecursion (λ (r : Record). prev_of r ≢ 0 → prev_of r < g.stamp.0) g.records)
    (λ (g : Group). has (upto s) g ≡ true → AllByRecursion (λ (h : Group). stands_on g h ≡ true → has (upto s) h ≡ true) gs)
    (λ g r inside. every (λ (h : Group). stands_on g h ≡ true → has (upto s) h ≡ true)
    (λ h is. le_is h.stamp.0 s (omega (arith, below g h r is, le_of g.stamp.0 s inside))) gs) gs rise
  where
    every : (P : Group → Type 0) → ((h : Group) → P h) → (hs : List Group) → AllByRecursion P hs
    every P f [] = tt
    every P f (h ∷ hs) = (f h, every P f hs)

-- ---- vectors

-- Of entries to groups.
of_groups : (P : Group → Type 0) (Q : Entry → Type 0) → ((g : Group) (e : Entry) → e.deed ≡ Logs g → Q e → P g) → (es : List Entry) → AllByRecursion Q es → AllByRecursion P (groups es)
of_groups P Q f [] h = tt
of_groups P Q f (e ∷ es) h = by e.deed refl (of_groups P Q f es h.1)
  where
    by : (d : Deed) → e.deed ≡ d → AllByRecursion P (groups es) → AllByRecursion P (cons_option (group_of e.deed) (groups es))
    by (Reads w t key) is rest = subst (λ d. AllByRecursion P (cons_option (group_of d) (groups es))) (sym is) rest
    by (Logs g) is rest = subst (λ d. AllByRecursion P (cons_option (group_of d) (groups es))) (sym is) (f g e is h.0, rest)

pub both_of : {A : Type 0} (P Q : A → Type 0) (xs : List A) → AllByRecursion P xs → AllByRecursion Q xs → AllByRecursion (λ x. P x × Q x) xs
both_of P Q [] h k = tt
both_of P Q (x ∷ xs) h k = ((h.0, k.0), both_of P Q xs h.1 k.1)

pub vector_whole : (entries : List Entry) → BoundsOrderPages entries → (v : Bound) → IsOwnCover entries v → IsWhole (groups entries) (under v)
vector_whole entries h v own =
    of_groups (λ (g : Group). has (under v) g ≡ true → AllByRecursion (λ (k : Group). stands_on g k ≡ true → has (under v) k ≡ true) (groups entries))
    (λ (e : Entry). AllByRecursion (λ (i : Entry). stands e.deed i.deed ≡ true → AtMost i.bound e.bound) entries × (has_under v e.deed ≡ true → AtMost e.bound v))
    (λ g e is known inside. of_groups (λ (k : Group). stands_on g k ≡ true → has (under v) k ≡ true)
    (λ (i : Entry). (stands e.deed i.deed ≡ true → AtMost i.bound e.bound) × HasOwn i.bound i.deed)
    (λ k i was one st.
    let most = known.1 (ap (has_under v) is ∙ inside) in
    let less = one.0 ((λ n. stands (is n) (was n)) ∙ st) in
    let mine : k.stamp.0 ≤ i.bound k.writer.0 = subst (HasOwn i.bound) was one.1 in
    le_is k.stamp.0 (v k.writer.0) (omega (arith, mine, less k.writer.0, most k.writer.0)))
    entries (both_of (λ (i : Entry). stands e.deed i.deed ≡ true → AtMost i.bound e.bound) (λ (i : Entry). HasOwn i.bound i.deed) entries known.0 h.own))
    entries
    (both_of (λ (e : Entry). AllByRecursion (λ (i : Entry). stands e.deed i.deed ≡ true → AtMost i.bound e.bound) entries)
    (λ (e : Entry). has_under v e.deed ≡ true → AtMost e.bound v) entries h.rise own)
