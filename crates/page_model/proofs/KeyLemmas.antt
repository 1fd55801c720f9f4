-- Keys in order, and items whose keys ascend.
use Rattle.std.proofs.Common.{◌≡◌, ℕ, suc, zero, ◌<◌, true, false, List, [], ◌∷◌, length, get_or, refl, sym, ap, arith}
use Rattle.std.specs.List.{AllByRecursion}
use Rattle.std.specs.Ordering.{nat_cmp, is_lt}
use Rattle.std.specs.Cmp.{tied_itself}
use Rattle.std.specs.Cmp.Lexicographic.{slice_cmp, nat_list_cmp_total}
use Rattle.std.specs.declared.cmp.Ordering.{Ordering}
use Rattle.std.specs.declared.cmp.Ordering.TheVariants.{Less, Equal, Greater}
use Rattle.std.proofs.lemmas.Map.Lookups.{exact_bytes}
use Rattle.key_fences.specs.Fences.{key_less}
use Rattle.page_model.specs.Sound.{Ascend}

less_is : (o : Ordering) → is_lt o ≡ true → o ≡ Less
less_is Less h = refl
less_is Equal h = cc
less_is Greater h = cc

pub less_trans : (a b c : List ℕ) → key_less a b ≡ true → key_less b c ≡ true → key_less a c ≡ true
less_trans a b c h k = ap is_lt (nat_list_cmp_total.trans a b c (less_is _ h) (less_is _ k))

pub not_less_itself : (a : List ℕ) → key_less a a ≡ false
not_less_itself a = ap is_lt (tied_itself nat_list_cmp_total a)

-- what two keys may be to each other
pub data Compared (a b : List ℕ) : Type 0 where
  Below : key_less a b ≡ true → key_less b a ≡ false → Compared a b
  Same : a ≡ b → Compared a b
  Above : key_less a b ≡ false → key_less b a ≡ true → Compared a b

compared_by : (a b : List ℕ) (o p : Ordering) → slice_cmp nat_cmp a b ≡ o → slice_cmp nat_cmp b a ≡ p → Compared a b
compared_by a b Less Less is back = absurd (let t = ap is_lt (nat_list_cmp_total.trans a b a is back) in let n = not_less_itself a in cc)
compared_by a b Less Equal is back = Below (ap is_lt is) (ap is_lt back)
compared_by a b Less Greater is back = Below (ap is_lt is) (ap is_lt back)
compared_by a b Equal p is back = Same (exact_bytes a b is)
compared_by a b Greater Less is back = Above (ap is_lt is) (ap is_lt back)
compared_by a b Greater Equal is back = Same (sym (exact_bytes b a back))
compared_by a b Greater Greater is back = absurd (let t = nat_list_cmp_total.antisymm a b in cc)

pub compared : (a b : List ℕ) → Compared a b
compared a b = compared_by a b _ _ refl refl

pub not_both : (a b : List ℕ) → key_less a b ≡ true → key_less b a ≡ false
not_both a b h = elim (compared a b) [ Below x y ↦ y | Same e ↦ let n = not_less_itself a in cc | Above x y ↦ cc ]

-- a is at most b, which is below c
pub up_to_less : (a b c : List ℕ) → key_less b a ≡ false → key_less b c ≡ true → key_less a c ≡ true
up_to_less a b c h k = elim (compared a b) [ Below x y ↦ less_trans a b c x k | Same e ↦ cc | Above x y ↦ cc ]

-- a is below b, which is at most c
pub less_up_to : (a b c : List ℕ) → key_less a b ≡ true → key_less c b ≡ false → key_less a c ≡ true
less_up_to a b c h k = elim (compared b c) [ Below x y ↦ less_trans a b c h x | Same e ↦ cc | Above x y ↦ cc ]

-- a is at most b, which is at most c
pub up_to_trans : (a b c : List ℕ) → key_less b a ≡ false → key_less c b ≡ false → key_less c a ≡ false
up_to_trans a b c h k = elim (compared a b) [ Below x y ↦ not_both a c (less_up_to a b c x k) | Same e ↦ cc | Above x y ↦ cc ]

pub one_key : (a b : List ℕ) → key_less a b ≡ false → key_less b a ≡ false → a ≡ b
one_key a b h k = elim (compared a b) [ Below x y ↦ cc | Same e ↦ e | Above x y ↦ cc ]

-- ---- by index

pub all_at : {A : Type 0} (P : A → Type 0) (xs : List A) (i : ℕ) (d : A) → AllByRecursion P xs → i < length xs → P (get_or xs i d)
all_at P [] i d all lt = absurd (omega arith)
all_at P (x ∷ xs) zero d all lt = all.0
all_at P (x ∷ xs) (suc i) d all lt = all_at P xs i d all.1 (omega arith)

pub ascend_at : {A : Type 0} (key : A → List ℕ) (xs : List A) (i j : ℕ) (d : A) → Ascend key xs → i < j → j < length xs → key_less (key (get_or xs i d)) (key (get_or xs j d)) ≡ true
ascend_at key [] i j d up lt within = absurd (omega arith)
ascend_at key (x ∷ xs) i zero d up lt within = absurd (omega arith)
ascend_at key (x ∷ xs) zero (suc j) d up lt within = all_at (λ y. key_less (key x) (key y) ≡ true) xs j d up.0 (omega arith)
ascend_at key (x ∷ xs) (suc i) (suc j) d up lt within = ascend_at key xs i j d up.1 (omega arith) (omega arith)
