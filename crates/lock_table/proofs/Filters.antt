-- Parts of a list of nodes by a test of their tags.
use Rattle.std.proofs.Common.{◌≡◌, ◌≢◌, ℕ, Bool, true, false, cond, List, [], ◌∷◌, ◌++◌, refl, ap, sym, ◌∙◌}
use Rattle.std.specs.Prelude.{filter}
use Rattle.std.specs.List.{AllByRecursion}
use Rattle.std.specs.declared.option.Option.{Option}
use Rattle.std.specs.declared.option.Option.TheVariants.{Some}
use Rattle.std.proofs.lemmas.List.Elements.{filter-append}
use Rattle.lock_table.specs.Tags.{PageTag}
use Rattle.lock_table.specs.Inside.{Entry, Differ, AreApart}
pub use Rattle.lock_table.specs.Inside.{by}
use Rattle.lock_table.proofs.Segments.{Across}

pub mid_yes : (u : PageTag → Bool) (e : Entry) (xs ys : List Entry) → u e.1 ≡ true → filter (by u) (xs ++ e ∷ ys) ≡ filter (by u) xs ++ e ∷ filter (by u) ys
mid_yes u e xs ys is = filter-append (by u) xs (e ∷ ys) ∙ ap (λ (b : Bool). filter (by u) xs ++ cond b (e ∷ filter (by u) ys) (filter (by u) ys)) is

pub mid_no : (u : PageTag → Bool) (e : Entry) (xs ys : List Entry) → u e.1 ≡ false → filter (by u) (xs ++ e ∷ ys) ≡ filter (by u) (xs ++ ys)
mid_no u e xs ys is =
    filter-append (by u) xs (e ∷ ys) ∙ (ap (λ (b : Bool). filter (by u) xs ++ cond b (e ∷ filter (by u) ys) (filter (by u) ys)) is ∙ sym (filter-append (by u) xs ys))

all_cond : (P : Entry → Type 0) (b : Bool) (e : Entry) (zs : List Entry) → P e → AllByRecursion P zs → AllByRecursion P (cond b (e ∷ zs) zs)
all_cond P true e zs p a = (p, a)
all_cond P false e zs p a = a

pub all_filter : (P : Entry → Type 0) (u : PageTag → Bool) (es : List Entry) → AllByRecursion P es → AllByRecursion P (filter (by u) es)
all_filter P u [] a = tt
all_filter P u (e ∷ es) a = all_cond P (u e.1) e (filter (by u) es) a.0 (all_filter P u es a.1)

apart_cond : (b : Bool) (e : Entry) (zs : List Entry) → Differ e.0 zs → AreApart zs → AreApart (cond b (e ∷ zs) zs)
apart_cond true e zs d a = (d, a)
apart_cond false e zs d a = a

pub apart_filter : (u : PageTag → Bool) (es : List Entry) → AreApart es → AreApart (filter (by u) es)
apart_filter u [] a = tt
apart_filter u (e ∷ es) a = apart_cond (u e.1) e (filter (by u) es) (all_filter (λ x. x.0 ≢ e.0) u es a.0) (apart_filter u es a.1)

pass_cond : (u : PageTag → Bool) (b : Bool) (e : Entry) (zs : List Entry) → u e.1 ≡ b → AllByRecursion (λ x. u x.1 ≡ true) zs → AllByRecursion (λ x. u x.1 ≡ true) (cond b (e ∷ zs) zs)
pass_cond u true e zs p a = (p, a)
pass_cond u false e zs p a = a

pub passes : (u : PageTag → Bool) (es : List Entry) → AllByRecursion (λ x. u x.1 ≡ true) (filter (by u) es)
passes u [] = tt
passes u (e ∷ es) = pass_cond u (u e.1) e (filter (by u) es) refl (passes u es)

-- ---- lists that have no tag in common

abbrev pub Exclude : (PageTag → Bool) → (PageTag → Bool) → Type 0
Exclude u v = (x : PageTag) → u x ≡ true → v x ≡ true → ⊥

module _ (at : ℕ → Option PageTag) where
  abbrev pub Here : List Entry → Type 0
  Here es = AllByRecursion (λ e. at e.0 ≡ Some e.1) es

  differ_from : (u v : PageTag → Bool) → Exclude u v → (z : Entry) → at z.0 ≡ Some z.1 → v z.1 ≡ true → (ws : List Entry) → Here ws → AllByRecursion (λ x. u x.1 ≡ true) ws → Differ z.0 ws
  differ_from u v x z here is [] h p = tt
  differ_from u v x z here is (w ∷ ws) h p =
      (λ (same : w.0 ≡ z.0). let tags : Some w.1 ≡ Some z.1 = sym h.0 ∙ (ap at same ∙ here) in let tag : w.1 ≡ z.1 = cc (tags) in x z.1 (ap u (sym tag) ∙ p.0) is, differ_from u v x z here is ws h.1 p.1)

  pub lists_differ : (u v : PageTag → Bool) → Exclude u v → (zs ws : List Entry) → Here zs → AllByRecursion (λ x. v x.1 ≡ true) zs → Here ws → AllByRecursion (λ x. u x.1 ≡ true) ws → Across zs ws
  lists_differ u v x [] ws hz pz hw pw = tt
  lists_differ u v x (z ∷ zs) ws hz pz hw pw = (differ_from u v x z hz.0 pz.0 ws hw pw, lists_differ u v x zs ws hz.1 pz.1 hw pw)
