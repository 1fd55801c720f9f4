-- The finite map that the entries of a map by hash stand for.
use Rattle.std.proofs.Common.{◌≡◌, ℕ, Bool, true, false, List, [], ◌∷◌, refl, ap, sym, ◌∙◌, cond}
use Rattle.std.proofs.lemmas.Map.Steps.{set_value_same}
use Rattle.std.specs.declared.cmp.Ordering.{Ordering}
use Rattle.std.specs.declared.cmp.Ordering.TheVariants.{Less, Equal, Greater}
use Rattle.std.specs.declared.option.Option.{Option}
use Rattle.std.specs.declared.option.Option.TheVariants.{None, Some}
use Rattle.std.specs.Ordering.{nat_cmp, eq_by_cmp, is_eq}
use Rattle.std.specs.Prelude.{nat_eq}
use Rattle.std.specs.Cmp.{IsTotalOrder, eq_by_cmp_equiv, nat_cmp_total, unsigned_tied}
use Rattle.std.specs.FinMap.{FinMap, IsAntisymmetric, find, get, insert, remove, from_entries, same_map, get-from_entries, get-insert, get-remove, nat_cmp-IsAntisymmetric}
use Rattle.std.specs.Map.{lookup, set_value}
use Rattle.tm_data.specs.declared.transaction.Txn.{Txn}
use Rattle.tm_data.specs.Orders.{txn_cmp, txn_cmp-total, txn_cmp-exact}
use Rattle.lock_table.specs.Tags.{same_txn}
use Rattle.lock_table.proofs.Tables.{txn_tied}

is_equal : (o : Ordering) → is_eq o ≡ true → o ≡ Equal
is_equal Less h = absurd (cc h)
is_equal Equal h = refl
is_equal Greater h = absurd (cc h)

turned : {K : Type 0} (R : K → K → Ordering) → IsTotalOrder R → (eq : K → K → Bool) → ((a b : K) → eq_by_cmp R a b ≡ eq a b) → (k q : K) → eq k q ≡ eq_by_cmp R q k
turned R total eq tied k q = sym (tied k q) ∙ (eq_by_cmp_equiv total).symm k q

module _ {K X : Type 0} (R : K → K → Ordering) (total : IsTotalOrder R) (exact : IsAntisymmetric R) (eq : K → K → Bool) (tied : (a b : K) → eq_by_cmp R a b ≡ eq a b) where
  found : (es : List (K × X)) (q : K) → find R q es ≡ lookup (eq q) es
  found [] q = refl
  found (e ∷ es) q = ap (λ (b : Bool). cond b (Some e.1) (find R q es)) (tied q e.0) ∙ ap (cond (eq q e.0) (Some e.1)) (found es q)

  -- What the map has at a key.
  got : (es : List (K × X)) (q : K) → get (from_entries {R = R} es) q ≡ lookup (eq q) es
  got es q = get-from_entries total es q ∙ found es q

  -- Entries that differ at one key make maps that differ there.
  put : (es fs : List (K × X)) (k : K) (v : X) → ((q : K) → lookup (eq q) fs ≡ cond (eq k q) (Some v) (lookup (eq q) es)) → from_entries {R = R} fs ≡ insert (from_entries es) k v
  put es fs k v updates = same_map total exact _ _ (λ q.
      got fs q ∙ (updates q ∙ (ap (λ (b : Bool). cond b (Some v) (lookup (eq q) es)) (turned R total eq tied k q)
      ∙ sym (get-insert total (from_entries es) k v q ∙ ap (cond (eq_by_cmp R q k) (Some v)) (got es q)))))

  gone : (es fs : List (K × X)) (k : K) → ((q : K) → lookup (eq q) fs ≡ cond (eq k q) None (lookup (eq q) es)) → from_entries {R = R} fs ≡ remove (from_entries es) k
  gone es fs k updates = same_map total exact _ _ (λ q.
      got fs q ∙ (updates q ∙ (ap (λ (b : Bool). cond b None (lookup (eq q) es)) (turned R total eq tied k q)
      ∙ sym (get-remove total (from_entries es) k q ∙ ap (cond (eq_by_cmp R q k) None) (got es q)))))

  -- The same in terms of what the map is seen as.
  pub has : (es : List (K × X)) (now : FinMap R X) (k : K) (o : Option X) → o ≡ lookup (eq k) es → from_entries {R = R} es ≡ now → o ≡ get now k
  has es now k o is view = is ∙ (sym (got es k) ∙ ap (λ (n : FinMap R X). get n k) view)

  pub puts : (es fs : List (K × X)) (now : FinMap R X) (k : K) (v : X) → ((q : K) → lookup (eq q) fs ≡ cond (eq k q) (Some v) (lookup (eq q) es)) → from_entries {R = R} es ≡ now → from_entries {R = R} fs ≡ insert now k v
  puts es fs now k v updates view = put es fs k v updates ∙ ap (λ (n : FinMap R X). insert n k v) view

  pub drops : (es fs : List (K × X)) (now : FinMap R X) (k : K) → ((q : K) → lookup (eq q) fs ≡ cond (eq k q) None (lookup (eq q) es)) → from_entries {R = R} es ≡ now → from_entries {R = R} fs ≡ remove now k
  drops es fs now k updates view = gone es fs k updates ∙ ap (λ (n : FinMap R X). remove n k) view

  -- The same entries are the same map.
  pub keeps : (es fs : List (K × X)) (now : FinMap R X) → fs ≡ es → from_entries {R = R} es ≡ now → from_entries {R = R} fs ≡ now
  keeps es fs now same view = ap (from_entries {R = R}) same ∙ view

  -- Nothing was written through what was lent.
  pub unwritten : (es fs : List (K × X)) (now : FinMap R X) (k : K) (had w : X) → lookup (eq k) es ≡ Some had → fs ≡ set_value (eq k) es w → w ≡ had → from_entries {R = R} es ≡ now → from_entries {R = R} fs ≡ now
  unwritten es fs now k had w is wrote same view = ap (from_entries {R = R}) (wrote ∙ (ap (set_value (eq k) es) same ∙ set_value_same (eq k) es had is)) ∙ view

  -- What isn't there can't be taken out.
  pub absent : (now : FinMap R X) (k : K) → get now k ≡ None → now ≡ remove now k
  absent now k none = same_map total exact now (remove now k) (λ q. sym (get-remove total now k q ∙ by q (eq_by_cmp R q k) refl))
    where
      by : (q : K) (b : Bool) → eq_by_cmp R q k ≡ b → cond b None (get now q) ≡ get now q
      by q true is = sym (ap (get now) (exact q k (is_equal (R q k) is)) ∙ none)
      by q false is = refl

-- ---- under pages

module _ {X : Type 0} where
  pub page_has : (es : List (ℕ × X)) (now : FinMap nat_cmp X) (k : ℕ) (o : Option X) → o ≡ lookup (nat_eq k) es → from_entries {R = nat_cmp} es ≡ now → o ≡ get now k
  page_has = has nat_cmp nat_cmp_total nat_cmp-IsAntisymmetric nat_eq unsigned_tied

  pub page_puts : (es fs : List (ℕ × X)) (now : FinMap nat_cmp X) (k : ℕ) (v : X) → ((q : ℕ) → lookup (nat_eq q) fs ≡ cond (nat_eq k q) (Some v) (lookup (nat_eq q) es)) → from_entries {R = nat_cmp} es ≡ now
      → from_entries {R = nat_cmp} fs ≡ insert now k v
  page_puts = puts nat_cmp nat_cmp_total nat_cmp-IsAntisymmetric nat_eq unsigned_tied

  pub page_drops : (es fs : List (ℕ × X)) (now : FinMap nat_cmp X) (k : ℕ) → ((q : ℕ) → lookup (nat_eq q) fs ≡ cond (nat_eq k q) None (lookup (nat_eq q) es)) → from_entries {R = nat_cmp} es ≡ now
      → from_entries {R = nat_cmp} fs ≡ remove now k
  page_drops = drops nat_cmp nat_cmp_total nat_cmp-IsAntisymmetric nat_eq unsigned_tied

  pub page_keeps : (es fs : List (ℕ × X)) (now : FinMap nat_cmp X) → fs ≡ es → from_entries {R = nat_cmp} es ≡ now → from_entries {R = nat_cmp} fs ≡ now
  page_keeps = keeps nat_cmp nat_cmp_total nat_cmp-IsAntisymmetric nat_eq unsigned_tied

  pub page_unwritten : (es fs : List (ℕ × X)) (now : FinMap nat_cmp X) (k : ℕ) (had w : X) → lookup (nat_eq k) es ≡ Some had → fs ≡ set_value (nat_eq k) es w → w ≡ had → from_entries {R = nat_cmp} es ≡ now
      → from_entries {R = nat_cmp} fs ≡ now
  page_unwritten = unwritten nat_cmp nat_cmp_total nat_cmp-IsAntisymmetric nat_eq unsigned_tied

  pub page_absent : (now : FinMap nat_cmp X) (k : ℕ) → get now k ≡ None → now ≡ remove now k
  page_absent = absent nat_cmp nat_cmp_total nat_cmp-IsAntisymmetric nat_eq unsigned_tied

  -- ---- under transactions

  pub txn_has : (es : List (Txn × X)) (now : FinMap txn_cmp X) (k : Txn) (o : Option X) → o ≡ lookup (same_txn k) es → from_entries {R = txn_cmp} es ≡ now → o ≡ get now k
  txn_has = has txn_cmp txn_cmp-total txn_cmp-exact same_txn txn_tied

  pub txn_puts : (es fs : List (Txn × X)) (now : FinMap txn_cmp X) (k : Txn) (v : X) → ((q : Txn) → lookup (same_txn q) fs ≡ cond (same_txn k q) (Some v) (lookup (same_txn q) es)) → from_entries {R = txn_cmp} es ≡ now
      → from_entries {R = txn_cmp} fs ≡ insert now k v
  txn_puts = puts txn_cmp txn_cmp-total txn_cmp-exact same_txn txn_tied

  pub txn_drops : (es fs : List (Txn × X)) (now : FinMap txn_cmp X) (k : Txn) → ((q : Txn) → lookup (same_txn q) fs ≡ cond (same_txn k q) None (lookup (same_txn q) es)) → from_entries {R = txn_cmp} es ≡ now
      → from_entries {R = txn_cmp} fs ≡ remove now k
  txn_drops = drops txn_cmp txn_cmp-total txn_cmp-exact same_txn txn_tied

  pub txn_keeps : (es fs : List (Txn × X)) (now : FinMap txn_cmp X) → fs ≡ es → from_entries {R = txn_cmp} es ≡ now → from_entries {R = txn_cmp} fs ≡ now
  txn_keeps = keeps txn_cmp txn_cmp-total txn_cmp-exact same_txn txn_tied

  pub txn_unwritten : (es fs : List (Txn × X)) (now : FinMap txn_cmp X) (k : Txn) (had w : X) → lookup (same_txn k) es ≡ Some had → fs ≡ set_value (same_txn k) es w → w ≡ had → from_entries {R = txn_cmp} es ≡ now
      → from_entries {R = txn_cmp} fs ≡ now
  txn_unwritten = unwritten txn_cmp txn_cmp-total txn_cmp-exact same_txn txn_tied

  pub txn_absent : (now : FinMap txn_cmp X) (k : Txn) → get now k ≡ None → now ≡ remove now k
  txn_absent = absent txn_cmp txn_cmp-total txn_cmp-exact same_txn txn_tied
