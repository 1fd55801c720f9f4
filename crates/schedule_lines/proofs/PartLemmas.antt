-- A text and its words.
use Rattle.std.proofs.Common.{◌≡◌, ◌≢◌, ◌∙◌, ℕ, zero, suc, ◌==◌, Bool, true, false, List, [], ◌∷◌, ◌++◌, cond, not, ◌&&◌, refl, sym, ap, arith}
use Rattle.std.proofs.lemmas.Bool.Decides.{nat_tests}
use Rattle.text_fields.specs.Fields.{HasNoBlank}
use Rattle.schedule_lines.specs.Lines.{behind, joined}
use Rattle.schedule_lines.specs.Parts.{in_front, parted}

-- ---- words without a blank

first_free : (b : ℕ) (bs : List ℕ) → HasNoBlank (b ∷ bs) → b ≢ 32
first_free b bs free = free 0 (omega arith)

rest_free : (b : ℕ) (bs : List ℕ) → HasNoBlank (b ∷ bs) → HasNoBlank bs
rest_free b bs free = λ k small. free (suc k) (omega arith)

pub none_free : HasNoBlank []
none_free = λ k small is. omega arith

pub more_free : (b : ℕ) (bs : List ℕ) → b ≢ 32 → HasNoBlank bs → HasNoBlank (b ∷ bs)
more_free b bs first rest zero small is = first is
more_free b bs first rest (suc k) small is = rest k (omega arith) is

pub both_free : (a b : List ℕ) → HasNoBlank a → HasNoBlank b → HasNoBlank (a ++ b)
both_free [] b p q = q
both_free (x ∷ a) b p q = more_free x (a ++ b) (first_free x a p) (both_free a b (rest_free x a p) q)

-- a word that is known
abbrev pub is_free : List ℕ → Bool
is_free [] = true
is_free (b ∷ bs) = not (b == 32) && is_free bs

pub known_free : (bs : List ℕ) → is_free bs ≡ true → HasNoBlank bs
known_free [] is = none_free
known_free (b ∷ bs) is = by_test (b == 32) refl is (known_free bs)
  where
    by_test : (t : Bool) → (b == 32) ≡ t → not t && is_free bs ≡ true → (is_free bs ≡ true → HasNoBlank bs) → HasNoBlank (b ∷ bs)
    by_test true e h more = cc
    by_test false e h more = more_free b bs (grind (arith, nat_tests)) (more h)

abbrev pub AllFree : List (List ℕ) → Type 0
AllFree [] = Unit {0}
AllFree (w ∷ ws) = HasNoBlank w × AllFree ws

-- ---- parting

parted_more : (b : ℕ) (bs : List ℕ) → b ≢ 32 → parted (b ∷ bs) ≡ in_front b (parted bs)
parted_more b bs other = grind (arith, nat_tests)

pub parted_first : (w t : List ℕ) → HasNoBlank w → parted (w ++ 32 ∷ t) ≡ w ∷ parted t
parted_first [] t free = refl
parted_first (b ∷ bs) t free = parted_more b (bs ++ 32 ∷ t) (first_free b bs free) ∙ ap (in_front b) (parted_first bs t (rest_free b bs free))

pub parted_last : (w : List ℕ) → HasNoBlank w → parted w ≡ w ∷ []
parted_last [] free = refl
parted_last (b ∷ bs) free = parted_more b bs (first_free b bs free) ∙ ap (in_front b) (parted_last bs (rest_free b bs free))

pub parted_some : (t : List ℕ) → parted t ≡ [] → ⊥
parted_some [] none = cc
parted_some (b ∷ bs) none = by_test (b == 32) none
  where
    by_words : (ws : List (List ℕ)) → in_front b ws ≡ [] → ⊥
    by_words [] e = cc
    by_words (w ∷ ws) e = cc

    by_test : (t : Bool) → cond t ([] ∷ parted bs) (in_front b (parted bs)) ≡ [] → ⊥
    by_test true e = cc
    by_test false e = by_words (parted bs) e

-- ---- joining

behind_joined : (ws : List (List ℕ)) → (ws ≡ [] → ⊥) → behind ws ≡ 32 ∷ joined ws
behind_joined [] some = absurd (some refl)
behind_joined (w ∷ ws) some = refl

front_joined : (b : ℕ) (ws : List (List ℕ)) → (ws ≡ [] → ⊥) → joined (in_front b ws) ≡ b ∷ joined ws
front_joined b [] some = absurd (some refl)
front_joined b (w ∷ ws) some = refl

pub joined_parted : (t : List ℕ) → joined (parted t) ≡ t
joined_parted [] = refl
joined_parted (b ∷ bs) = by_test (b == 32) refl (joined_parted bs)
  where
    by_test : (t : Bool) → (b == 32) ≡ t → joined (parted bs) ≡ bs → joined (cond t ([] ∷ parted bs) (in_front b (parted bs))) ≡ b ∷ bs
    by_test true e more =
        let blank : b ≡ 32 = grind (arith, nat_tests) in
        behind_joined (parted bs) (parted_some bs) ∙ ap (λ (l : List ℕ). 32 ∷ l) more ∙ ap (λ (x : ℕ). x ∷ bs) (sym blank)
    by_test false e more = front_joined b (parted bs) (parted_some bs) ∙ ap (λ (l : List ℕ). b ∷ l) more

no_more : (w : List ℕ) → w ++ [] ≡ w
no_more [] = refl
no_more (b ∷ bs) = ap (λ (l : List ℕ). b ∷ l) (no_more bs)

pub parted_joined : (w : List ℕ) (ws : List (List ℕ)) → HasNoBlank w → AllFree ws → parted (joined (w ∷ ws)) ≡ w ∷ ws
parted_joined w [] free all = ap parted (no_more w) ∙ parted_last w free
parted_joined w (v ∷ ws) free all = parted_first w (v ++ behind ws) free ∙ ap (λ (l : List (List ℕ)). w ∷ l) (parted_joined v ws all.0 all.1)
