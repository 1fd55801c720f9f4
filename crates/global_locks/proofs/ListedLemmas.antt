-- The pages that a takeover frees, put one by one: only pages among which each of them is need to be looked at.
use Rattle.std.proofs.Common.{◌≡◌, ℕ, Bool, true, false, List, [], ◌∷◌, Option, Some, None, refl, ap, sym, subst, ◌∙◌, cond, arith}
use Rattle.std.specs.Prelude.{nat_eq, is_some, ◌&&◌, ◌||◌}
use Rattle.std.specs.List.{AllByRecursion, IsDistinct, cons_option}
use Rattle.std.specs.Map.{keys_of}
use Rattle.std.specs.Option.{option_map}
use Rattle.std.proofs.lemmas.Bool.Decides.{nat_tests}
use Rattle.std.proofs.lemmas.Map.Keys.{IsDistinct-head, IsDistinct-tail}
use Rattle.lock_model.specs.State.{at, put, put_all, is_holder, or_unused}
use Rattle.lock_model.specs.declared.page.PageEntry.{PageEntry}
use Rattle.lock_model.specs.Step.{freed, freed_entry, freed_with, taken, or_kept, is_any}
use Rattle.tm_data.specs.declared.vector.VectorEntry.{VectorEntry}
use Rattle.global_locks.specs.Inside.{freed_among, freed_page, pages_of, IsIndexed}
use Rattle.global_locks.proofs.TableLemmas.{turned, put_past, here_put, same_numbers}

-- ---- the value under a number, once it was put as often as the number is listed

abbrev last_put : {A : Type 0} → ℕ → Option PageEntry → PageEntry → List (ℕ × A) → PageEntry
last_put n o x [] = x
last_put n o x (l ∷ ls) = last_put n o (cond (nat_eq l.0 n) (or_kept x o) x) ls

last_put_none : {A : Type 0} (n : ℕ) (x : PageEntry) (ls : List (ℕ × A)) → last_put n None x ls ≡ x
last_put_none n x [] = refl
last_put_none n x (l ∷ ls) = by (nat_eq l.0 n) (last_put_none n x ls)
  where
    by : (b : Bool) → last_put n None x ls ≡ x → last_put n None (cond b x x) ls ≡ x
    by true same = same
    by false same = same

last_put_same : {A : Type 0} (n : ℕ) (y : PageEntry) (ls : List (ℕ × A)) → last_put n (Some y) y ls ≡ y
last_put_same n y [] = refl
last_put_same n y (l ∷ ls) = by (nat_eq l.0 n) (last_put_same n y ls)
  where
    by : (b : Bool) → last_put n (Some y) y ls ≡ y → last_put n (Some y) (cond b y y) ls ≡ y
    by true same = same
    by false same = same

last_put_listed : {A : Type 0} (n : ℕ) (y x : PageEntry) (ls : List (ℕ × A)) → is_some (at ls n) ≡ true → last_put n (Some y) x ls ≡ y
last_put_listed n y x [] h = absurd (cc h)
last_put_listed n y x (l ∷ ls) h = by (nat_eq n l.0) (nat_eq l.0 n) refl refl (λ z t. last_put_listed n y z ls t) h
  where
    by : (b d : Bool) → nat_eq n l.0 ≡ b → nat_eq l.0 n ≡ d
        → ((z : PageEntry) → is_some (at ls n) ≡ true → last_put n (Some y) z ls ≡ y)
        → is_some (cond b (Some l.1) (at ls n)) ≡ true → last_put n (Some y) (cond d y x) ls ≡ y
    by true true is same again there = last_put_same n y ls
    by true false is other again there = absurd (cc (is, turned l.0 n other))
    by false d other same again there = again (cond d y x) there

-- ---- tests

and_false : (a c : Bool) → ((a && false) || c) ≡ c
and_false true c = refl
and_false false c = refl

or_true : (a : Bool) → (a || true) ≡ true
or_true true = refl
or_true false = refl

-- ---- a takeover's part

module _ (writer : ℕ) (rest : Bool) (listed : List (ℕ × ℕ)) (vector : List VectorEntry) where
  abbrev among : {A : Type 0} → List (ℕ × PageEntry) → List (ℕ × A) → List (ℕ × PageEntry)
  among es ls = freed_among es writer rest listed vector ls

  abbrev becomes : (ℕ × PageEntry) → Option PageEntry
  becomes e = freed_entry writer rest listed vector e.0 e.1

  -- Where a listed page is the first.
  abbrev SaysPut : {A : Type 0} → (ℕ × PageEntry) → List (ℕ × PageEntry) → PageEntry → List (ℕ × PageEntry) → List (ℕ × A) → ℕ → Type 0
  SaysPut e es x cs ls n =
      put_all ((e.0, x) ∷ cs) (cons_option (option_map (λ (y : PageEntry). (n, y)) (freed_entry writer rest listed vector n e.1)) (among (e ∷ es) ls))
      ≡ (e.0, last_put e.0 (becomes e) (or_kept x (becomes e)) ls) ∷ put_all cs (cons_option (option_map (λ (y : PageEntry). (n, y)) (freed_page writer rest listed vector n (at es n))) (among es ls))

  abbrev FirstApart : {A : Type 0} → (ℕ × PageEntry) → List (ℕ × PageEntry) → List (ℕ × A) → Type 0
  FirstApart e es ls =
      (x : PageEntry) (cs : List (ℕ × PageEntry)) → put_all ((e.0, x) ∷ cs) (among (e ∷ es) ls) ≡ (e.0, last_put e.0 (becomes e) x ls) ∷ put_all cs (among es ls)

  -- The first page has its last value, and the others are put among themselves.
  among_first : {A : Type 0} (e : ℕ × PageEntry) (es : List (ℕ × PageEntry)) → at es e.0 ≡ None → (ls : List (ℕ × A)) → FirstApart e es ls
  among_first e es none [] x cs = refl
  among_first e es none (l ∷ ls) x cs = by (nat_eq l.0 e.0) refl (λ z ds. among_first e es none ls z ds)
    where
      here : FirstApart e es ls → (o : Option PageEntry)
          → put_all ((e.0, x) ∷ cs) (cons_option (option_map (λ (y : PageEntry). (e.0, y)) o) (among (e ∷ es) ls)) ≡ (e.0, last_put e.0 (becomes e) (or_kept x o) ls) ∷ put_all cs (among es ls)
      here again None = again x cs
      here again (Some y) = ap (λ (t : List (ℕ × PageEntry)). put_all t (among (e ∷ es) ls)) (here_put (e.0, x) cs y (nat_eq e.0 e.0) refl) ∙ again y cs

      past : FirstApart e es ls → nat_eq l.0 e.0 ≡ false → (o : Option PageEntry)
          → put_all ((e.0, x) ∷ cs) (cons_option (option_map (λ (y : PageEntry). (l.0, y)) o) (among (e ∷ es) ls))
          ≡ (e.0, last_put e.0 (becomes e) x ls) ∷ put_all cs (cons_option (option_map (λ (y : PageEntry). (l.0, y)) o) (among es ls))
      past again not None = again x cs
      past again not (Some y) =
          ap (λ (t : List (ℕ × PageEntry)). put_all t (among (e ∷ es) ls)) (put_past (e.0, x) cs l.0 y (nat_eq l.0 e.0) refl not) ∙ again x (put cs l.0 y)

      first : FirstApart e es ls → SaysPut e es x cs ls e.0
      first again = subst (λ (o : Option PageEntry). put_all ((e.0, x) ∷ cs) (cons_option (option_map (λ (y : PageEntry). (e.0, y)) (becomes e)) (among (e ∷ es) ls))
          ≡ (e.0, last_put e.0 (becomes e) (or_kept x (becomes e)) ls) ∷ put_all cs (cons_option (option_map (λ (y : PageEntry). (e.0, y)) (freed_page writer rest listed vector e.0 o)) (among es ls))) (sym none) (here again (becomes e))

      by : (b : Bool) → nat_eq l.0 e.0 ≡ b → FirstApart e es ls
          → put_all ((e.0, x) ∷ cs) (cons_option (option_map (λ (y : PageEntry). (l.0, y)) (freed_page writer rest listed vector l.0 (cond b (Some e.1) (at es l.0)))) (among (e ∷ es) ls))
          ≡ (e.0, last_put e.0 (becomes e) (cond b (or_kept x (becomes e)) x) ls) ∷ put_all cs (cons_option (option_map (λ (y : PageEntry). (l.0, y)) (freed_page writer rest listed vector l.0 (at es l.0))) (among es ls))
      by true is again = subst (SaysPut e es x cs ls) (same_numbers e.0 l.0 is) (first again)
      by false not again = past again not (freed_page writer rest listed vector l.0 (at es l.0))

  abbrev SaysAny : {A : Type 0} → (ℕ × PageEntry) → List (ℕ × PageEntry) → List (ℕ × A) → ℕ → Type 0
  SaysAny e es ls n =
      is_any (cons_option (option_map (λ (y : PageEntry). (n, y)) (freed_entry writer rest listed vector n e.1)) (among (e ∷ es) ls))
      ≡ (is_some (becomes e) || is_any (cons_option (option_map (λ (y : PageEntry). (n, y)) (freed_page writer rest listed vector n (at es n))) (among es ls)))

  abbrev AnyFirst : {A : Type 0} → (ℕ × PageEntry) → List (ℕ × PageEntry) → List (ℕ × A) → Type 0
  AnyFirst e es ls = is_any (among (e ∷ es) ls) ≡ ((is_some (at ls e.0) && is_some (becomes e)) || is_any (among es ls))

  -- Some are freed where the first is, or some of the others.
  any_first : {A : Type 0} (e : ℕ × PageEntry) (es : List (ℕ × PageEntry)) → at es e.0 ≡ None → (ls : List (ℕ × A)) → AnyFirst e es ls
  any_first e es none [] = refl
  any_first e es none (l ∷ ls) = by (nat_eq l.0 e.0) (nat_eq e.0 l.0) refl refl (any_first e es none ls)
    where
      here : AnyFirst e es ls → (o : Option PageEntry) → becomes e ≡ o
          → is_any (cons_option (option_map (λ (y : PageEntry). (e.0, y)) o) (among (e ∷ es) ls)) ≡ (is_some o || is_any (among es ls))
      here same None is =
          same
          ∙ ap (λ (o : Option PageEntry). (is_some (at ls e.0) && is_some o) || is_any (among es ls)) is
          ∙ and_false (is_some (at ls e.0)) (is_any (among es ls))
      here same (Some y) is = refl

      first : AnyFirst e es ls → SaysAny e es ls e.0
      first same = subst (λ (o : Option PageEntry). is_any (cons_option (option_map (λ (y : PageEntry). (e.0, y)) (becomes e)) (among (e ∷ es) ls))
          ≡ (is_some (becomes e) || is_any (cons_option (option_map (λ (y : PageEntry). (e.0, y)) (freed_page writer rest listed vector e.0 o)) (among es ls)))) (sym none) (here same (becomes e) refl)

      past : AnyFirst e es ls → (o : Option PageEntry) → is_any (cons_option (option_map (λ (y : PageEntry). (l.0, y)) o) (among (e ∷ es) ls))
          ≡ ((is_some (at ls e.0) && is_some (becomes e)) || is_any (cons_option (option_map (λ (y : PageEntry). (l.0, y)) o) (among es ls)))
      past same None = same
      past same (Some y) = sym (or_true (is_some (at ls e.0) && is_some (becomes e)))

      by : (b d : Bool) → nat_eq l.0 e.0 ≡ b → nat_eq e.0 l.0 ≡ d → AnyFirst e es ls
          → is_any (cons_option (option_map (λ (y : PageEntry). (l.0, y)) (freed_page writer rest listed vector l.0 (cond b (Some e.1) (at es l.0)))) (among (e ∷ es) ls))
          ≡ ((is_some (cond d (Some l.1) (at ls e.0)) && is_some (becomes e)) || is_any (cons_option (option_map (λ (y : PageEntry). (l.0, y)) (freed_page writer rest listed vector l.0 (at es l.0))) (among es ls)))
      by true true is turn same = subst (SaysAny e es ls) (same_numbers e.0 l.0 is) (first same)
      by true false is other same = absurd (cc (is, turned e.0 l.0 other))
      by false true not turn same = absurd (cc (turn, turned l.0 e.0 not))
      by false false not other same = past same (freed_page writer rest listed vector l.0 (at es l.0))

  among_nothing : {A : Type 0} (ls : List (ℕ × A)) → among [] ls ≡ []
  among_nothing [] = refl
  among_nothing (l ∷ ls) = among_nothing ls

  absent : (n : ℕ) (es : List (ℕ × PageEntry)) → AllByRecursion (λ k. nat_eq n k ≡ false) (keys_of es) → at es n ≡ None
  absent n [] h = refl
  absent n (e ∷ es) h = by (nat_eq n e.0) h.0 (absent n es h.1)
    where
      by : (b : Bool) → b ≡ false → at es n ≡ None → cond b (Some e.1) (at es n) ≡ None
      by true is none = absurd (cc is)
      by false is none = none

  -- Each page that is freed is among these.
  abbrev pub Covers : {A : Type 0} → List (ℕ × PageEntry) → List (ℕ × A) → Type 0
  Covers es ls = AllByRecursion (λ e. is_some (becomes e) ≡ true → is_some (at ls e.0) ≡ true) es

  last_of : {A : Type 0} (e : ℕ × PageEntry) (ls : List (ℕ × A)) → (is_some (becomes e) ≡ true → is_some (at ls e.0) ≡ true)
      → last_put e.0 (becomes e) e.1 ls ≡ or_kept e.1 (becomes e)
  last_of e ls covered = by (becomes e) refl
    where
      by : (o : Option PageEntry) → becomes e ≡ o → last_put e.0 o e.1 ls ≡ or_kept e.1 o
      by None is = last_put_none e.0 e.1 ls
      by (Some y) is = last_put_listed e.0 y e.1 ls (covered (ap is_some is))

  pub put_among : {A : Type 0} (es : List (ℕ × PageEntry)) (ls : List (ℕ × A)) → IsDistinct nat_eq (keys_of es) → Covers es ls
      → put_all es (among es ls) ≡ taken es writer rest listed vector
  put_among [] ls d covered = ap (put_all []) (among_nothing ls)
  put_among (e ∷ es) ls d covered =
      among_first e es (absent e.0 es (IsDistinct-head nat_eq e.0 (keys_of es) d)) ls e.1 es
      ∙ ap (λ (x : PageEntry). (e.0, x) ∷ put_all es (among es ls)) (last_of e ls covered.0)
      ∙ ap (λ (t : List (ℕ × PageEntry)). (e.0, or_kept e.1 (becomes e)) ∷ t) (put_among es ls (IsDistinct-tail nat_eq e.0 (keys_of es) d) covered.1)

  pub any_among : {A : Type 0} (es : List (ℕ × PageEntry)) (ls : List (ℕ × A)) → IsDistinct nat_eq (keys_of es) → Covers es ls
      → is_any (among es ls) ≡ is_any (freed es writer rest listed vector)
  any_among [] ls d covered = ap is_any (among_nothing ls)
  any_among (e ∷ es) ls d covered =
      any_first e es (absent e.0 es (IsDistinct-head nat_eq e.0 (keys_of es) d)) ls
      ∙ by (becomes e) refl (any_among es ls (IsDistinct-tail nat_eq e.0 (keys_of es) d) covered.1)
    where
      by : (o : Option PageEntry) → becomes e ≡ o → is_any (among es ls) ≡ is_any (freed es writer rest listed vector)
          → ((is_some (at ls e.0) && is_some o) || is_any (among es ls)) ≡ is_any (cons_option (option_map (λ (x : PageEntry). (e.0, x)) o) (freed es writer rest listed vector))
      by None is same = and_false (is_some (at ls e.0)) (is_any (among es ls)) ∙ same
      by (Some y) is same = ap (λ (b : Bool). (b && true) || is_any (among es ls)) (covered.0 (ap is_some is))

  -- ---- which pages are enough

  here_at : (e : ℕ × PageEntry) (es : List (ℕ × PageEntry)) → at (e ∷ es) e.0 ≡ Some e.1
  here_at e es = by (nat_eq e.0 e.0) refl
    where
      by : (b : Bool) → nat_eq e.0 e.0 ≡ b → cond b (Some e.1) (at es e.0) ≡ Some e.1
      by true is = refl
      by false not = absurd (grind (arith, nat_tests))

  further_at : (e : ℕ × PageEntry) (es : List (ℕ × PageEntry)) → at es e.0 ≡ None → (n : ℕ) (x : PageEntry) → at es n ≡ Some x → at (e ∷ es) n ≡ Some x
  further_at e es none n x found = by (nat_eq n e.0) refl
    where
      by : (b : Bool) → nat_eq n e.0 ≡ b → cond b (Some e.1) (at es n) ≡ Some x
      by true is = let same : at es e.0 ≡ at es n = ap (at es) (same_numbers e.0 n is) in absurd (cc (none, found, same))
      by false not = found

  abbrev pub CoversAt : {A : Type 0} → List (ℕ × PageEntry) → List (ℕ × A) → Type 0
  CoversAt es ls = (n : ℕ) (x : PageEntry) → at es n ≡ Some x → is_some (freed_entry writer rest listed vector n x) ≡ true → is_some (at ls n) ≡ true

  pub covers : {A : Type 0} (es : List (ℕ × PageEntry)) (ls : List (ℕ × A)) → IsDistinct nat_eq (keys_of es) → CoversAt es ls → Covers es ls
  covers [] ls d f = tt
  covers (e ∷ es) ls d f = (
    f e.0 e.1 (here_at e es),
    covers es ls (IsDistinct-tail nat_eq e.0 (keys_of es) d) (λ n x found. f n x (further_at e es (absent e.0 es (IsDistinct-head nat_eq e.0 (keys_of es) d)) n x found)),
  )

module _ (writer : ℕ) (listed : List (ℕ × ℕ)) (vector : List VectorEntry) where
  -- A part without the rest frees no page but those that it lists.
  pub listed_cover : (es : List (ℕ × PageEntry)) → CoversAt writer false listed vector es listed
  listed_cover es n x found freed = by (is_holder x writer) (at listed n) freed
    where
      by : (held : Bool) (o : Option ℕ) → is_some (freed_with x vector held o false) ≡ true → is_some o ≡ true
      by false o h = absurd (cc h)
      by true None h = h
      by true (Some stamp) h = refl

  -- And the rest none but those that the writer may hold.
  pub held_cover : {A : Type 0} (es : List (ℕ × PageEntry)) (held : List (ℕ × List (ℕ × A))) → IsIndexed es held → CoversAt writer true listed vector es (pages_of (at held writer))
  held_cover es held indexed n x found freed = indexed writer n (ap (λ (o : Option PageEntry). is_holder (or_unused o) writer) found ∙ by (is_holder x writer) (at listed n) freed)
    where
      by : (held : Bool) (o : Option ℕ) → is_some (freed_with x vector held o true) ≡ true → held ≡ true
      by false o h = h
      by true o h = refl

  pub put_listed : (es : List (ℕ × PageEntry)) → IsDistinct nat_eq (keys_of es) → (rest : Bool) → rest ≡ false
      → put_all es (freed_among es writer false listed vector listed) ≡ taken es writer rest listed vector
  put_listed es d true is = absurd (cc is)
  put_listed es d false is = put_among writer false listed vector es listed d (covers writer false listed vector es listed d (listed_cover es))

  pub any_listed : (es : List (ℕ × PageEntry)) → IsDistinct nat_eq (keys_of es) → (rest : Bool) → rest ≡ false
      → is_any (freed_among es writer false listed vector listed) ≡ is_any (freed es writer rest listed vector)
  any_listed es d true is = absurd (cc is)
  any_listed es d false is = any_among writer false listed vector es listed d (covers writer false listed vector es listed d (listed_cover es))

  pub put_held : {A : Type 0} (es : List (ℕ × PageEntry)) (held : List (ℕ × List (ℕ × A))) → IsDistinct nat_eq (keys_of es) → IsIndexed es held
      → (ls : List (ℕ × A)) → ls ≡ pages_of (at held writer) → (rest : Bool) → rest ≡ true
      → put_all es (freed_among es writer true listed vector ls) ≡ taken es writer rest listed vector
  put_held es held d indexed ls same false is = absurd (cc is)
  put_held es held d indexed ls same true is =
      put_among writer true listed vector es ls d (covers writer true listed vector es ls d (subst (CoversAt writer true listed vector es) (sym same) (held_cover es held indexed)))

  pub any_held : {A : Type 0} (es : List (ℕ × PageEntry)) (held : List (ℕ × List (ℕ × A))) → IsDistinct nat_eq (keys_of es) → IsIndexed es held
      → (ls : List (ℕ × A)) → ls ≡ pages_of (at held writer) → (rest : Bool) → rest ≡ true
      → is_any (freed_among es writer true listed vector ls) ≡ is_any (freed es writer rest listed vector)
  any_held es held d indexed ls same false is = absurd (cc is)
  any_held es held d indexed ls same true is =
      any_among writer true listed vector es ls d (covers writer true listed vector es ls d (subst (CoversAt writer true listed vector es) (sym same) (held_cover es held indexed)))
