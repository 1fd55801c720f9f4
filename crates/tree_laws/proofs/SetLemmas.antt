-- Setting a row among rows that ascend.
use Rattle.std.proofs.Common.{◌≡◌, ◌≢◌, ℕ, Bool, true, false, cond, List, [], ◌∷◌, refl, sym, ap, ◌∙◌, subst, inl, inr}
use Rattle.std.specs.List.{AllByRecursion}
use Rattle.tm_data.specs.declared.row.Row.{Row}
use Rattle.tm_data.specs.declared.image.Child.{Child}
use Rattle.std.specs.Prelude.{Option, Some, None}
use Rattle.key_fences.specs.Fences.{key_less}
use Rattle.page_model.specs.Effects.{row_set, in_front, entry_added}
use Rattle.page_model.specs.Sound.{Ascend, key_of, child_key}
use Rattle.page_model.proofs.KeyLemmas.{less_trans, one_key, not_less_itself}
use Rattle.tree_laws.proofs.ListLemmas.{IsIn, all_map}

set_by : (P : Row → Type 0) (r : Row) (rs set : List Row) (row : Row) (a b : Bool) → P r → AllByRecursion P rs → P row → AllByRecursion P set → AllByRecursion P (cond a (r ∷ set) (cond b (row ∷ r ∷ rs) (row ∷ rs)))
set_by P r rs set row true b h hs k ks = (h, ks)
set_by P r rs set row false true h hs k ks = (k, (h, hs))
set_by P r rs set row false false h hs k ks = (k, hs)

pub all_set : (P : Row → Type 0) (rows : List Row) (row : Row) → AllByRecursion P rows → P row → AllByRecursion P (row_set rows row)
all_set P [] row all k = (k, tt)
all_set P (r ∷ rs) row all k = set_by P r rs (row_set rs row) row (key_less r.key row.key) (key_less row.key r.key) all.0 all.1 k (all_set P rs row all.1 k)

abbrev Above : List ℕ → Row → Type 0
Above key r = key_less key (key_of r) ≡ true

ascend_by : (r : Row) (rs : List Row) (row : Row) (a b : Bool) → key_less r.key row.key ≡ a → key_less row.key r.key ≡ b → Ascend key_of (r ∷ rs) → Ascend key_of (row_set rs row) → Ascend key_of (cond a (r ∷ row_set rs row) (cond b (row ∷ r ∷ rs) (row ∷ rs)))
ascend_by r rs row true b e f up rest = (all_set (Above r.key) rs row up.0 e, rest)
ascend_by r rs row false true e f up rest = ((f, all_map (Above r.key) (Above row.key) rs (λ y k. less_trans row.key r.key y.key f k) up.0), up)
ascend_by r rs row false false e f up rest =
    let same : r.key ≡ row.key = one_key r.key row.key e f in
    (all_map (Above r.key) (Above row.key) rs (λ y k. subst (λ (key : List ℕ). Above key y) same k) up.0, up.1)

pub ascend_set : (rows : List Row) (row : Row) → Ascend key_of rows → Ascend key_of (row_set rows row)
ascend_set [] row up = (tt, tt)
ascend_set (r ∷ rs) row up = ascend_by r rs row (key_less r.key row.key) (key_less row.key r.key) refl refl up (ascend_set rs row up.1)

-- ---- which rows are there then

there_by : (r : Row) (rs set : List Row) (row : Row) (a b : Bool) → IsIn row set → IsIn row (cond a (r ∷ set) (cond b (row ∷ r ∷ rs) (row ∷ rs)))
there_by r rs set row true b h = inr h
there_by r rs set row false true h = inl refl
there_by r rs set row false false h = inl refl

pub set_is_in : (rows : List Row) (row : Row) → IsIn row (row_set rows row)
set_is_in [] row = inl refl
set_is_in (r ∷ rs) row = there_by r rs (row_set rs row) row (key_less r.key row.key) (key_less row.key r.key) (set_is_in rs row)

kept_by : (r : Row) (rs set : List Row) (row x : Row) (a b : Bool) → key_less r.key row.key ≡ a → key_less row.key r.key ≡ b → x.key ≢ row.key → IsIn x (r ∷ rs) → (IsIn x rs → IsIn x set) → IsIn x (cond a (r ∷ set) (cond b (row ∷ r ∷ rs) (row ∷ rs)))
kept_by r rs set row x true b e f differ h rest = elim h [ inl q ↦ inl q | inr q ↦ inr (rest q) ]
kept_by r rs set row x false true e f differ h rest = inr h
kept_by r rs set row x false false e f differ h rest =
    let same : r.key ≡ row.key = one_key r.key row.key e f in
    elim h [ inl q ↦ absurd (differ (ap (λ (y : Row). y.key) q ∙ same)) | inr q ↦ inr q ]

pub set_keeps : (rows : List Row) (row x : Row) → x.key ≢ row.key → IsIn x rows → IsIn x (row_set rows row)
set_keeps [] row x differ h = absurd h
set_keeps (r ∷ rs) row x differ h = kept_by r rs (row_set rs row) row x (key_less r.key row.key) (key_less row.key r.key) refl refl differ h (set_keeps rs row x differ)

new_by : (r : Row) (rs set : List Row) (row x : Row) (a b : Bool) → x.key ≢ row.key → (IsIn x set → IsIn x rs) → IsIn x (cond a (r ∷ set) (cond b (row ∷ r ∷ rs) (row ∷ rs))) → IsIn x (r ∷ rs)
new_by r rs set row x true b differ rest h = elim h [ inl q ↦ inl q | inr q ↦ inr (rest q) ]
new_by r rs set row x false true differ rest h = elim h [ inl q ↦ absurd (differ (ap (λ (y : Row). y.key) q)) | inr q ↦ q ]
new_by r rs set row x false false differ rest h = elim h [ inl q ↦ absurd (differ (ap (λ (y : Row). y.key) q)) | inr q ↦ inr q ]

pub set_adds_none : (rows : List Row) (row x : Row) → x.key ≢ row.key → IsIn x (row_set rows row) → IsIn x rows
set_adds_none [] row x differ h = elim h [ inl q ↦ absurd (differ (ap (λ (y : Row). y.key) q)) | inr q ↦ absurd q ]
set_adds_none (r ∷ rs) row x differ h = new_by r rs (row_set rs row) row x (key_less r.key row.key) (key_less row.key r.key) differ (set_adds_none rs row x differ) h

below_in : (P : Row → Type 0) (rs : List Row) (x : Row) → AllByRecursion P rs → IsIn x rs → P x
below_in P [] x all h = absurd h
below_in P (r ∷ rs) x all h = elim h [ inl q ↦ subst P (sym q) all.0 | inr q ↦ below_in P rs x all.1 q ]

pub in_all : (P : Row → Type 0) (rs : List Row) (x : Row) → AllByRecursion P rs → IsIn x rs → P x
in_all = below_in

-- among rows that ascend, one key has one row
pub one_row : (rows : List Row) (x y : Row) → Ascend key_of rows → IsIn x rows → IsIn y rows → x.key ≡ y.key → x ≡ y
one_row [] x y up h k e = absurd h
one_row (r ∷ rs) x y up h k e =
    elim h [
      | inl q ↦ elim k [
        | inl w ↦ q ∙ sym w
        | inr w ↦ (let l = below_in (Above r.key) rs y up.0 w in let n = not_less_itself r.key in let s : y.key ≡ r.key = sym e ∙ ap (λ (z : Row). z.key) q in let t : key_less r.key r.key ≡ true = ap (key_less r.key) (sym s) ∙ l in cc)
      ]
      | inr q ↦ elim k [
        | inl w ↦ (let l = below_in (Above r.key) rs x up.0 q in let n = not_less_itself r.key in let s : x.key ≡ r.key = e ∙ ap (λ (z : Row). z.key) w in let t : key_less r.key r.key ≡ true = ap (key_less r.key) (sym s) ∙ l in cc)
        | inr w ↦ one_row rs x y up.1 q w e
      ]
    ]

-- ---- one more entry

front_is : (c : Child) (o : Option (List Child)) (es : List Child) → in_front c o ≡ Some es → (fs : List Child) × (o ≡ Some fs) × (es ≡ c ∷ fs)
front_is c None es h = cc
front_is c (Some fs) es h = (fs, refl, cc)

added_by : (P : Child → Type 0) (c : Child) (cs es : List Child) (child : Child) (a b : Bool) → P c → AllByRecursion P cs → P child → ((fs : List Child) → entry_added cs child ≡ Some fs → AllByRecursion P fs)
    → cond a (in_front c (entry_added cs child)) (cond b (Some (child ∷ c ∷ cs)) None) ≡ Some es → AllByRecursion P es
added_by P c cs es child true b h hs k rest made = let f = front_is c (entry_added cs child) es made in subst (AllByRecursion P) (sym f.2) (h, rest f.0 f.1)
added_by P c cs es child false true h hs k rest made = let e : child ∷ c ∷ cs ≡ es = cc in subst (AllByRecursion P) e (k, (h, hs))
added_by P c cs es child false false h hs k rest made = cc

pub all_added : (P : Child → Type 0) (cs es : List Child) (child : Child) → AllByRecursion P cs → P child → entry_added cs child ≡ Some es → AllByRecursion P es
all_added P [] es child all k made = let e : child ∷ [] ≡ es = cc in subst (AllByRecursion P) e (k, tt)
all_added P (c ∷ cs) es child all k made = added_by P c cs es child (key_less c.key child.key) (key_less child.key c.key) all.0 all.1 k (λ fs is. all_added P cs fs child all.1 k is) made

abbrev Behind : List ℕ → Child → Type 0
Behind key c = key_less key (child_key c) ≡ true

rising_by : (c : Child) (cs es : List Child) (child : Child) (a b : Bool) → key_less c.key child.key ≡ a → key_less child.key c.key ≡ b → Ascend child_key (c ∷ cs) → ((fs : List Child) → entry_added cs child ≡ Some fs → Ascend child_key fs)
    → cond a (in_front c (entry_added cs child)) (cond b (Some (child ∷ c ∷ cs)) None) ≡ Some es → Ascend child_key es
rising_by c cs es child true b e f up rest made =
    let t = front_is c (entry_added cs child) es made in
    subst (Ascend child_key) (sym t.2) (all_added (Behind c.key) cs t.0 child up.0 e t.1, rest t.0 t.1)
rising_by c cs es child false true e f up rest made =
    let g : child ∷ c ∷ cs ≡ es = cc in
    subst (Ascend child_key) g ((f, all_map (Behind c.key) (Behind child.key) cs (λ y k. less_trans child.key c.key y.key f k) up.0), up)
rising_by c cs es child false false e f up rest made = cc

pub ascend_added : (cs es : List Child) (child : Child) → Ascend child_key cs → entry_added cs child ≡ Some es → Ascend child_key es
ascend_added [] es child up made = let e : child ∷ [] ≡ es = cc in subst (Ascend child_key) e (tt, tt)
ascend_added (c ∷ cs) es child up made = rising_by c cs es child (key_less c.key child.key) (key_less child.key c.key) refl refl up (λ fs is. ascend_added cs fs child up.1 is) made
