-- Facts on vectors: what the stamps of a join are, and that a vector is what it says of each writer.
use Rattle.std.proofs.Common.{◌≡◌, ◌<◌, ◌≤◌, List, [], ◌∷◌, ◌++◌, ℕ, Bool, true, false, cond, ◌&&◌, nat_eq, nat_lt, nat_le, max, refl, sym, ◌∙◌, ap, subst, arith, IsTrue, ◌↔◌, append_assoc, length, get_or}
use Rattle.std.proofs.lemmas.List.{append-nil}
use Rattle.std.proofs.lemmas.Bool.Decides.{nat_tests}
use Rattle.tm_data.specs.declared.vector.VectorEntry.{VectorEntry}
use Rattle.tm_data.specs.Vectors.{AscendsAbove, IsVector, entry, stamp_of, Covers, covers, greatest, raised, joined, single}

-- An ascending list may begin lower.
pub above_less : (after least : ℕ) (es : List VectorEntry) → least ≤ after → AscendsAbove after es → AscendsAbove least es
above_less after least [] h v = tt
above_less after least (e ∷ es) h v = (omega (arith, v.0), v.1, v.2)

-- What the first entry does to the stamp of a writer.
pub stamp_here : (e : VectorEntry) (es : List VectorEntry) (w : ℕ) → w ≡ e.writer.0 → stamp_of (e ∷ es) w ≡ e.stamp.0
stamp_here e es w h = grind (arith, nat_tests)

pub stamp_past : (e : VectorEntry) (es : List VectorEntry) (w : ℕ) → (w ≡ e.writer.0 → ⊥) → stamp_of (e ∷ es) w ≡ stamp_of es w
stamp_past e es w h = grind (arith, nat_tests)

-- Writers up to the bound have no entry.
pub stamp_below : (after : ℕ) (es : List VectorEntry) (w : ℕ) → AscendsAbove after es → w ≤ after → stamp_of es w ≡ 0
stamp_below after [] w v h = refl
stamp_below after (e ∷ es) w v h = stamp_past e es w (λ same. omega (arith, v.0)) ∙ stamp_below e.writer.0 es w v.2 (omega (arith, v.0))

-- Raising an entry keeps the order.
raised_next : (after : ℕ) (x : VectorEntry) (xs : List VectorEntry) (e : VectorEntry) (b c : Bool)
    → nat_lt x.writer.0 e.writer.0 ≡ b → nat_eq x.writer.0 e.writer.0 ≡ c → AscendsAbove after (x ∷ xs) → after < e.writer.0 → 1 ≤ e.stamp.0
    → (x.writer.0 < e.writer.0 → AscendsAbove x.writer.0 (raised xs e))
    → AscendsAbove after (cond b (x ∷ raised xs e) (cond c (entry x.writer.0 (max x.stamp.0 e.stamp.0) ∷ xs) (e ∷ x ∷ xs)))
raised_next after x xs e true c is_b is_c v low some rest = (v.0, v.1, rest (grind (arith, nat_tests)))
raised_next after x xs e false true is_b is_c v low some rest = (v.0, omega (arith, v.1), v.2)
raised_next after x xs e false false is_b is_c v low some rest = (low, some, (grind (arith, nat_tests), v.1, v.2))

pub raised_ascends : (after : ℕ) (a : List VectorEntry) (e : VectorEntry) → AscendsAbove after a → after < e.writer.0 → 1 ≤ e.stamp.0 → AscendsAbove after (raised a e)
raised_ascends after [] e v low some = (low, some, tt)
raised_ascends after (x ∷ xs) e v low some =
    raised_next after x xs e (nat_lt x.writer.0 e.writer.0) (nat_eq x.writer.0 e.writer.0) refl refl v low some
    (λ less. raised_ascends x.writer.0 xs e v.2 less some)

-- What raising an entry does to the stamp of each writer.
raised_stamp_next : (after : ℕ) (x : VectorEntry) (xs : List VectorEntry) (e : VectorEntry) (w : ℕ) (b c : Bool)
    → nat_lt x.writer.0 e.writer.0 ≡ b → nat_eq x.writer.0 e.writer.0 ≡ c → AscendsAbove after (x ∷ xs)
    → stamp_of (raised xs e) w ≡ cond (nat_eq w e.writer.0) (max (stamp_of xs w) e.stamp.0) (stamp_of xs w)
    → stamp_of (cond b (x ∷ raised xs e) (cond c (entry x.writer.0 (max x.stamp.0 e.stamp.0) ∷ xs) (e ∷ x ∷ xs))) w
    ≡ cond (nat_eq w e.writer.0) (max (stamp_of (x ∷ xs) w) e.stamp.0) (stamp_of (x ∷ xs) w)
raised_stamp_next after x xs e w true c is_b is_c v rest = grind (arith, nat_tests)
raised_stamp_next after x xs e w false true is_b is_c v rest = grind (arith, nat_tests)
raised_stamp_next after x xs e w false false is_b is_c v rest =
    let none : w ≤ x.writer.0 → stamp_of xs w ≡ 0 = λ l. stamp_below x.writer.0 xs w v.2 l in grind (arith, nat_tests)

pub raised_stamp : (after : ℕ) (a : List VectorEntry) (e : VectorEntry) (w : ℕ) → AscendsAbove after a
    → stamp_of (raised a e) w ≡ cond (nat_eq w e.writer.0) (max (stamp_of a w) e.stamp.0) (stamp_of a w)
raised_stamp after [] e w v = grind (arith, nat_tests)
raised_stamp after (x ∷ xs) e w v =
    raised_stamp_next after x xs e w (nat_lt x.writer.0 e.writer.0) (nat_eq x.writer.0 e.writer.0) refl refl v (raised_stamp x.writer.0 xs e w v.2)

-- The join of two vectors is a vector.
pub joined_ascends : (after : ℕ) (a b : List VectorEntry) → AscendsAbove after a → AscendsAbove after b → AscendsAbove after (joined a b)
joined_ascends after a [] v u = v
joined_ascends after a (e ∷ es) v u = joined_ascends after (raised a e) es (raised_ascends after a e v u.0 u.1) (above_less e.writer.0 after es (omega (arith, u.0)) u.2)

-- The join has for each writer the greater of its two stamps.
joined_stamp_next : (a : ℕ) (e : VectorEntry) (es : List VectorEntry) (w : ℕ) → (w ≤ e.writer.0 → stamp_of es w ≡ 0)
    → max (cond (nat_eq w e.writer.0) (max a e.stamp.0) a) (stamp_of es w) ≡ max a (stamp_of (e ∷ es) w)
joined_stamp_next a e es w none = grind (arith, nat_tests)

pub joined_stamp : (a b : List VectorEntry) (w : ℕ) → IsVector a → IsVector b → stamp_of (joined a b) w ≡ max (stamp_of a w) (stamp_of b w)
joined_stamp a [] w v u = omega arith
joined_stamp a (e ∷ es) w v u =
    joined_stamp (raised a e) es w (raised_ascends 0 a e v u.0 u.1) (above_less e.writer.0 0 es (omega arith) u.2)
    ∙ ap (λ n. max n (stamp_of es w)) (raised_stamp 0 a e w v)
    ∙ joined_stamp_next (stamp_of a w) e es w (λ l. stamp_below e.writer.0 es w u.2 l)

-- Two vectors that say the same of each writer are the same vector.
same_entry : (x y : VectorEntry) → x.writer.0 ≡ y.writer.0 → x.stamp.0 ≡ y.stamp.0 → x ≡ y
same_entry x y p q = λ i. entry (p i) (q i)

not_less : (m n s : ℕ) → (m < n → s ≡ 0) → 1 ≤ s → n ≤ m
not_less m n s none some = grind arith

head_first : (after : ℕ) (x : VectorEntry) (xs : List VectorEntry) (y : VectorEntry) (ys : List VectorEntry)
    → AscendsAbove after (x ∷ xs) → AscendsAbove after (y ∷ ys) → stamp_of (x ∷ xs) x.writer.0 ≡ stamp_of (y ∷ ys) x.writer.0 → y.writer.0 ≤ x.writer.0
head_first after x xs y ys v u same =
    not_less x.writer.0 y.writer.0 (stamp_of (y ∷ ys) x.writer.0) (λ l. stamp_below x.writer.0 (y ∷ ys) x.writer.0 (l, u.1, u.2) (omega arith))
    (let P : ℕ → Type 0 = λ n. 1 ≤ n in subst P (sym (stamp_here x xs x.writer.0 refl) ∙ same) v.1)

tails_same : (x : VectorEntry) (xs : List VectorEntry) (y : VectorEntry) (ys : List VectorEntry) (w : ℕ)
    → (w ≤ x.writer.0 → stamp_of xs w ≡ 0) → (w ≤ y.writer.0 → stamp_of ys w ≡ 0) → x.writer.0 ≡ y.writer.0
    → stamp_of (x ∷ xs) w ≡ stamp_of (y ∷ ys) w → stamp_of xs w ≡ stamp_of ys w
tails_same x xs y ys w none_x none_y one same = grind (arith, nat_tests)

pub same_above : (after : ℕ) (a b : List VectorEntry) → AscendsAbove after a → AscendsAbove after b → ((w : ℕ) → stamp_of a w ≡ stamp_of b w) → a ≡ b
same_above after [] [] v u same = refl
same_above after [] (e ∷ es) v u same = absurd (omega (arith, u.1, same e.writer.0, stamp_here e es e.writer.0 refl))
same_above after (e ∷ es) [] v u same = absurd (omega (arith, v.1, same e.writer.0, stamp_here e es e.writer.0 refl))
same_above after (x ∷ xs) (y ∷ ys) v u same =
    let above : y.writer.0 ≤ x.writer.0 = head_first after x xs y ys v u (same x.writer.0) in
    let below : x.writer.0 ≤ y.writer.0 = head_first after y ys x xs u v (sym (same y.writer.0)) in
    let one : x.writer.0 ≡ y.writer.0 = omega arith in
    let stamps : x.stamp.0 ≡ y.stamp.0 = sym (stamp_here x xs x.writer.0 refl) ∙ same x.writer.0 ∙ stamp_here y ys x.writer.0 one in
    let heads : x ≡ y = same_entry x y one stamps in
    let tails : xs ≡ ys = same_above x.writer.0 xs ys v.2 (above_less y.writer.0 x.writer.0 ys below u.2)
    (λ w. tails_same x xs y ys w (λ l. stamp_below x.writer.0 xs w v.2 l) (λ l. stamp_below y.writer.0 ys w u.2 l) one (same w)) in
    cc

pub same_vector : (a b : List VectorEntry) → IsVector a → IsVector b → ((w : ℕ) → stamp_of a w ≡ stamp_of b w) → a ≡ b
same_vector = same_above 0

-- The part of an ascending list that has a writer's entry.
pub append_ascends : (after : ℕ) (xs ys : List VectorEntry) → AscendsAbove after (xs ++ ys) → AscendsAbove after xs × AscendsAbove after ys
append_ascends after [] ys v = (tt, v)
append_ascends after (x ∷ xs) ys v =
    let rest = append_ascends x.writer.0 xs ys v.2 in
    ((v.0, v.1, rest.0), above_less x.writer.0 after ys (omega (arith, v.0)) rest.1)

-- A writer below the back's first is in the front.
pub stamp_in_front : (after : ℕ) (xs : List VectorEntry) (y : VectorEntry) (ys : List VectorEntry) (w : ℕ) → AscendsAbove after (xs ++ y ∷ ys) → w < y.writer.0 → stamp_of (xs ++ y ∷ ys) w ≡ stamp_of xs w
stamp_in_front after [] y ys w v l = stamp_below w (y ∷ ys) w (l, v.1, v.2) (omega arith)
stamp_in_front after (x ∷ xs) y ys w v l = ap (cond (nat_eq w x.writer.0) x.stamp.0) (stamp_in_front x.writer.0 xs y ys w v.2 l)

-- One from the back's first on is in the back.
back_above : (after : ℕ) (xs : List VectorEntry) (y : VectorEntry) (ys : List VectorEntry) → AscendsAbove after (xs ++ y ∷ ys) → after < y.writer.0
back_above after [] y ys v = v.0
back_above after (x ∷ xs) y ys v = omega (arith, v.0, back_above x.writer.0 xs y ys v.2)

pub stamp_in_back : (after : ℕ) (xs : List VectorEntry) (y : VectorEntry) (ys : List VectorEntry) (w : ℕ) → AscendsAbove after (xs ++ y ∷ ys) → y.writer.0 ≤ w → stamp_of (xs ++ y ∷ ys) w ≡ stamp_of (y ∷ ys) w
stamp_in_back after [] y ys w v l = refl
stamp_in_back after (x ∷ xs) y ys w v l =
    stamp_past x (xs ++ y ∷ ys) w (λ same. omega (arith, back_above x.writer.0 xs y ys v.2)) ∙ stamp_in_back x.writer.0 xs y ys w v.2 l

-- The test of covering at the entries of `b` is the fact at each writer.
and_left : (p q : Bool) → (p && q) ≡ true → p ≡ true
and_left true q h = refl
and_left false q h = h

and_right : (p q : Bool) → (p && q) ≡ true → q ≡ true
and_right true q h = h
and_right false q h = cc

and_both : (p q : Bool) → p ≡ true → q ≡ true → (p && q) ≡ true
and_both true q h k = k
and_both false q h k = h

le_from_test : (m n : ℕ) → nat_le m n ≡ true → m ≤ n
le_from_test m n h = grind (arith, nat_tests)

test_from_le : (m n : ℕ) → m ≤ n → nat_le m n ≡ true
test_from_le m n h = grind (arith, nat_tests)

below_at : (e : VectorEntry) (es : List VectorEntry) (w most : ℕ) → (w ≡ e.writer.0 → e.stamp.0 ≤ most) → stamp_of es w ≤ most → stamp_of (e ∷ es) w ≤ most
below_at e es w most here past = grind (arith, nat_tests)

pub covers_means : (a b : List VectorEntry) → covers a b ≡ true → Covers a b
covers_means a [] h w = omega arith
covers_means a (e ∷ es) h w =
    let first : e.stamp.0 ≤ stamp_of a e.writer.0 = le_from_test e.stamp.0 (stamp_of a e.writer.0) (and_left (nat_le e.stamp.0 (stamp_of a e.writer.0)) (covers a es) h) in
    below_at e es w (stamp_of a w) (λ same. let P : ℕ → Type 0 = λ v. e.stamp.0 ≤ stamp_of a v in subst P (sym same) first)
    (covers_means a es (and_right (nat_le e.stamp.0 (stamp_of a e.writer.0)) (covers a es) h) w)

tail_below : (e : VectorEntry) (es : List VectorEntry) (w most : ℕ) → (w ≤ e.writer.0 → stamp_of es w ≡ 0) → stamp_of (e ∷ es) w ≤ most → stamp_of es w ≤ most
tail_below e es w most none all = grind (arith, nat_tests)

pub covers_holds : (after : ℕ) (a b : List VectorEntry) → AscendsAbove after b → Covers a b → covers a b ≡ true
covers_holds after a [] v all = refl
covers_holds after a (e ∷ es) v all =
    and_both (nat_le e.stamp.0 (stamp_of a e.writer.0)) (covers a es)
    (test_from_le e.stamp.0 (stamp_of a e.writer.0) (let P : ℕ → Type 0 = λ n. n ≤ stamp_of a e.writer.0 in subst P (stamp_here e es e.writer.0 refl) (all e.writer.0)))
    (covers_holds e.writer.0 a es v.2 (λ w. tail_below e es w (stamp_of a w) (λ l. stamp_below e.writer.0 es w v.2 l) (all w)))

-- Where an entry goes in.
pub raised_past : (x : VectorEntry) (xs : List VectorEntry) (e : VectorEntry) → x.writer.0 < e.writer.0 → raised (x ∷ xs) e ≡ x ∷ raised xs e
raised_past x xs e l = grind (arith, nat_tests)

pub raised_here : (x : VectorEntry) (xs : List VectorEntry) (e : VectorEntry) → x.writer.0 ≡ e.writer.0 → raised (x ∷ xs) e ≡ entry x.writer.0 (max x.stamp.0 e.stamp.0) ∷ xs
raised_here x xs e l = grind (arith, nat_tests)

pub raised_before : (x : VectorEntry) (xs : List VectorEntry) (e : VectorEntry) → e.writer.0 < x.writer.0 → raised (x ∷ xs) e ≡ e ∷ x ∷ xs
raised_before x xs e l = grind (arith, nat_tests)

-- The steps of a merge: an entry that is below the rest of both lists stands first in their join.
pub joined_front : (x : VectorEntry) (xs ys : List VectorEntry) → AscendsAbove x.writer.0 ys → joined (x ∷ xs) ys ≡ x ∷ joined xs ys
joined_front x xs [] v = refl
joined_front x xs (y ∷ ys) v =
    ap (λ l. joined l ys) (raised_past x xs y v.0) ∙ joined_front x (raised xs y) ys (above_less y.writer.0 x.writer.0 ys (omega (arith, v.0)) v.2)

pub joined_left : (after : ℕ) (x : VectorEntry) (xs : List VectorEntry) (y : VectorEntry) (ys : List VectorEntry) → AscendsAbove after (y ∷ ys) → x.writer.0 < y.writer.0
    → joined (x ∷ xs) (y ∷ ys) ≡ x ∷ joined xs (y ∷ ys)
joined_left after x xs y ys u l = joined_front x xs (y ∷ ys) (l, u.1, u.2)

pub joined_right : (after : ℕ) (x : VectorEntry) (xs : List VectorEntry) (y : VectorEntry) (ys : List VectorEntry) → AscendsAbove after (y ∷ ys) → y.writer.0 < x.writer.0
    → joined (x ∷ xs) (y ∷ ys) ≡ y ∷ joined (x ∷ xs) ys
joined_right after x xs y ys u l = ap (λ z. joined z ys) (raised_before x xs y l) ∙ joined_front y (x ∷ xs) ys u.2

pub joined_both : (after : ℕ) (x : VectorEntry) (xs : List VectorEntry) (y : VectorEntry) (ys : List VectorEntry) → AscendsAbove after (y ∷ ys) → x.writer.0 ≡ y.writer.0
    → joined (x ∷ xs) (y ∷ ys) ≡ entry x.writer.0 (max x.stamp.0 y.stamp.0) ∷ joined xs ys
joined_both after x xs y ys u same =
    ap (λ z. joined z ys) (raised_here x xs y same)
    ∙ joined_front (entry x.writer.0 (max x.stamp.0 y.stamp.0)) xs ys (above_less y.writer.0 x.writer.0 ys (omega arith) u.2)

pub joined_nil : (after : ℕ) (ys : List VectorEntry) → AscendsAbove after ys → joined [] ys ≡ ys
joined_nil after [] v = refl
joined_nil after (y ∷ ys) v = joined_front y [] ys v.2 ∙ ap (λ l. y ∷ l) (joined_nil y.writer.0 ys v.2)

-- A loop that merges: what is written, and the join of what is left.
pub merge_left : (left right entries all : List VectorEntry) (x y : VectorEntry) (xs ys : List VectorEntry) → left ≡ x ∷ xs → right ≡ y ∷ ys
    → entries ++ joined left right ≡ all → IsVector left → IsVector right → x.writer.0 < y.writer.0
    → ((entries ++ x ∷ []) ++ joined xs right ≡ all) × IsVector xs
merge_left left right entries all x y xs ys is_left is_right so_far v u less =
    let left_vector : IsVector (x ∷ xs) = subst IsVector is_left v in
    let right_vector : IsVector (y ∷ ys) = subst IsVector is_right u in (
      append_assoc entries (x ∷ []) (joined xs right)
          ∙ ap (λ z. entries ++ x ∷ joined xs z) is_right
          ∙ ap (λ z. entries ++ z) (sym (joined_left 0 x xs y ys right_vector less))
          ∙ ap (λ z. entries ++ joined (x ∷ xs) z) (sym is_right)
          ∙ ap (λ z. entries ++ joined z right) (sym is_left)
          ∙ so_far,
      above_less x.writer.0 0 xs (omega arith) left_vector.2,
    )

pub merge_right : (left right entries all : List VectorEntry) (x y : VectorEntry) (xs ys : List VectorEntry) → left ≡ x ∷ xs → right ≡ y ∷ ys
    → entries ++ joined left right ≡ all → IsVector left → IsVector right → y.writer.0 < x.writer.0
    → ((entries ++ y ∷ []) ++ joined left ys ≡ all) × IsVector ys
merge_right left right entries all x y xs ys is_left is_right so_far v u less =
    let right_vector : IsVector (y ∷ ys) = subst IsVector is_right u in (
      append_assoc entries (y ∷ []) (joined left ys)
          ∙ ap (λ z. entries ++ y ∷ joined z ys) is_left
          ∙ ap (λ z. entries ++ z) (sym (joined_right 0 x xs y ys right_vector less))
          ∙ ap (λ z. entries ++ joined (x ∷ xs) z) (sym is_right)
          ∙ ap (λ z. entries ++ joined z right) (sym is_left)
          ∙ so_far,
      above_less y.writer.0 0 ys (omega arith) right_vector.2,
    )

pub merge_both : (left right entries all : List VectorEntry) (x y : VectorEntry) (xs ys : List VectorEntry) → left ≡ x ∷ xs → right ≡ y ∷ ys
    → entries ++ joined left right ≡ all → IsVector left → IsVector right → x.writer.0 ≡ y.writer.0
    → ((entries ++ entry x.writer.0 (max x.stamp.0 y.stamp.0) ∷ []) ++ joined xs ys ≡ all) × IsVector xs × IsVector ys
merge_both left right entries all x y xs ys is_left is_right so_far v u same =
    let left_vector : IsVector (x ∷ xs) = subst IsVector is_left v in
    let right_vector : IsVector (y ∷ ys) = subst IsVector is_right u in (
      append_assoc entries (entry x.writer.0 (max x.stamp.0 y.stamp.0) ∷ []) (joined xs ys)
          ∙ ap (λ z. entries ++ z) (sym (joined_both 0 x xs y ys right_vector same))
          ∙ ap (λ z. entries ++ joined (x ∷ xs) z) (sym is_right)
          ∙ ap (λ z. entries ++ joined z right) (sym is_left)
          ∙ so_far,
      above_less x.writer.0 0 xs (omega arith) left_vector.2,
      above_less y.writer.0 0 ys (omega arith) right_vector.2,
    )

-- Where one list is used up, the join is the rest of the other.
pub merge_rest_left : (left right : List VectorEntry) → right ≡ [] → joined left right ≡ left ++ right
merge_rest_left left right none = ap (joined left) none ∙ sym (append-nil left) ∙ ap (λ z. left ++ z) (sym none)

pub merge_rest_right : (left right : List VectorEntry) → left ≡ [] → IsVector right → joined left right ≡ left ++ right
merge_rest_right left right none u = ap (λ z. joined z right) none ∙ joined_nil 0 right u ∙ ap (λ z. z ++ right) (sym none)

-- The test of covering says that each writer is covered.
pub covers_meaning : (a b : List VectorEntry) (test : Bool) → test ≡ covers a b → IsVector b → IsTrue test ↔ Covers a b
covers_meaning a b test is v = (λ t. covers_means a b (sym is ∙ t), λ all. is ∙ covers_holds 0 a b v all)

-- The half of an ascending list that has a writer's entry.
pub half_back : (all front back : List VectorEntry) (w : ℕ) → all ≡ front ++ back → 0 < length back → IsVector all → (get_or back 0 (entry 0 0)).writer.0 ≤ w
    → (stamp_of back w ≡ stamp_of all w) × IsVector back
half_back all front [] w is some v l = absurd (omega arith)
half_back all front (y ∷ ys) w is some v l =
    let whole : IsVector (front ++ y ∷ ys) = subst IsVector is v in
    (sym (ap (λ z. stamp_of z w) is ∙ stamp_in_back 0 front y ys w whole l), (append_ascends 0 front (y ∷ ys) whole).1)

pub half_front : (all front back : List VectorEntry) (w : ℕ) → all ≡ front ++ back → 0 < length back → IsVector all → w < (get_or back 0 (entry 0 0)).writer.0
    → (stamp_of front w ≡ stamp_of all w) × IsVector front
half_front all front [] w is some v l = absurd (omega arith)
half_front all front (y ∷ ys) w is some v l =
    let whole : IsVector (front ++ y ∷ ys) = subst IsVector is v in
    (sym (ap (λ z. stamp_of z w) is ∙ stamp_in_front 0 front y ys w whole l), (append_ascends 0 front (y ∷ ys) whole).0)

-- A vector of one entry.
pub single_is_vector : (writer stamp : ℕ) → 1 ≤ writer → IsVector (single writer stamp)
single_is_vector writer stamp l = by_test (nat_eq stamp 0) refl
  where
    by_test : (b : Bool) → nat_eq stamp 0 ≡ b → IsVector (cond b [] (entry writer stamp ∷ []))
    by_test true h = tt
    by_test false h = (l, grind (arith, nat_tests), tt)

-- The greatest stamp is at least each stamp, and at most what they all are at most.
greatest_next : (e : VectorEntry) (es : List VectorEntry) (w most : ℕ) → stamp_of es w ≤ most → stamp_of (e ∷ es) w ≤ max e.stamp.0 most
greatest_next e es w most h = grind (arith, nat_tests)

pub stamp_greatest : (es : List VectorEntry) (w : ℕ) → stamp_of es w ≤ greatest es
stamp_greatest [] w = omega arith
stamp_greatest (e ∷ es) w = greatest_next e es w (greatest es) (stamp_greatest es w)

pub greatest_least : (after : ℕ) (es : List VectorEntry) (most : ℕ) → AscendsAbove after es → ((w : ℕ) → stamp_of es w ≤ most) → greatest es ≤ most
greatest_least after [] most v all = omega arith
greatest_least after (e ∷ es) most v all =
    let first : stamp_of (e ∷ es) e.writer.0 ≡ e.stamp.0 = stamp_here e es e.writer.0 refl in
    let rest : greatest es ≤ most = greatest_least e.writer.0 es most v.2 (λ w. tail_below e es w most (λ l. stamp_below e.writer.0 es w v.2 l) (all w)) in
    let here : e.stamp.0 ≤ most = subst (λ n. n ≤ most) first (all e.writer.0) in
    omega arith
