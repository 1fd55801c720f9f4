-- A table as a finite map.
use Rattle.std.proofs.Common.{◌≡◌, ◌≢◌, ℕ, true, false, cond, List, Some, refl, sym, ap, ◌∙◌, subst, inl, inr, ◌⊎◌}
use Rattle.std.specs.Ordering.{nat_cmp, is_eq}
use Rattle.std.specs.Cmp.{tied_itself}
use Rattle.std.specs.Cmp.Lexicographic.{slice_cmp, nat_list_cmp_total}
use Rattle.std.specs.declared.cmp.Ordering.{Ordering}
use Rattle.std.specs.declared.cmp.Ordering.TheVariants.{Less, Equal, Greater}
use Rattle.std.specs.FinMap.{FinMap, get, insert, get-insert}
use Rattle.std.proofs.lemmas.Map.Lookups.{exact_bytes}
use Rattle.tm_data.specs.declared.row.Row.{Row}
use Rattle.key_fences.specs.Fences.{key_less}
use Rattle.page_model.specs.Tree.{Images}
use Rattle.page_model.specs.Tiling.{HasRow, IsMap}
use Rattle.page_model.proofs.KeyLemmas.{Below, Same, Above, compared, not_less_itself}
use Rattle.tree_laws.specs.Claims.{SetsRow}

pub one_key_or : (a b : List ℕ) → (a ≡ b) ⊎ (a ≢ b)
one_key_or a b =
    elim (compared a b) [
      | Below x y ↦ inr (λ e. let n = not_less_itself a in let t : key_less a a ≡ true = ap (key_less a) e ∙ x in cc)
      | Same e ↦ inl e
      | Above x y ↦ inr (λ e. let n = not_less_itself b in let t : key_less b b ≡ true = ap (key_less b) (sym e) ∙ y in cc)
    ]

pub get_same : (m : FinMap (slice_cmp nat_cmp) Row) (key : List ℕ) (row : Row) → get (insert m key row) key ≡ Some row
get_same m key row =
    get-insert nat_list_cmp_total m key row key ∙ ap (λ o. cond (is_eq o) (Some row) (get m key)) (tied_itself nat_list_cmp_total key)

apart_by : (a b : List ℕ) (o : Ordering) → slice_cmp nat_cmp a b ≡ o → a ≢ b → is_eq o ≡ false
apart_by a b Less e d = refl
apart_by a b Equal e d = absurd (d (exact_bytes a b e))
apart_by a b Greater e d = refl

pub get_other : (m : FinMap (slice_cmp nat_cmp) Row) (key q : List ℕ) (row : Row) → q ≢ key → get (insert m key row) q ≡ get m q
get_other m key q row d =
    get-insert nat_list_cmp_total m key row q ∙ ap (λ b. cond b (Some row) (get m q)) (apart_by q key (slice_cmp nat_cmp q key) refl d)

pub map_set : (old new : Images) (table : ℕ) (row : Row) (m : FinMap (slice_cmp nat_cmp) Row) → SetsRow old new table row → IsMap old table m → IsMap new table (insert m row.key row)
map_set old new table row m s is = record {
  each = λ key r g. elim (one_key_or key row.key) [
    | inl e ↦ (let h : Some row ≡ Some r = sym (get_same m row.key row) ∙ ap (get (insert m row.key row)) (sym e) ∙ g in let q : row ≡ r = cc in
        (subst (λ (x : Row). HasRow new table x) q s.there, ap (λ (x : Row). x.key) (sym q) ∙ sym e))
    | inr d ↦ (let was = is.each key r (sym (get_other m row.key key row d) ∙ g) in
        ((s.others r (λ e. d (sym was.1 ∙ e))).0 was.0, was.1))
  ];
  all = λ r h. elim (one_key_or r.key row.key) [
    | inl e ↦ (let q = s.alone r e h in ap (get (insert m row.key row)) e ∙ get_same m row.key row ∙ ap (λ (x : Row). Some x) (sym q))
    | inr d ↦ get_other m row.key r.key row d ∙ is.all r ((s.others r d).1 h)
  ];
}
