-- What a file in memory may have left of its past.
use Rattle.std.proofs.Common.{◌≡◌, ◌∙◌, inl, inr, ⊎_elim, ℕ, suc, ◌+◌, ◌-◌, ◌≤◌, max, Bool, true, false, cond, List, [], ◌∷◌, length, take, drop, replicate, refl, sym, ap, subst, arith, length-take, length-drop}
use Rattle.std.proofs.lemmas.List.{length-replicate, take-take}
use Rattle.tm_disks.specs.Disk.{Holds, Torn, Cut, Follows, Only, Elapses}
use Rattle.tm_disks.specs.MemoryDisk.{Change, Content, File, put, undone, filled_by, seen_in, synced, filled, Leaves, HadLeft, written, write_of, wrote, shortened, cut_to, sync_of, was_synced, Padded, IsWhole}
use Rattle.tm_disks.proofs.StoreLemmas.{agree_same, agree_put, agree_both, Wider, torn_of, torn_same, cut_same, cut_of, put_back, seen_put}
use Rattle.tm_disks.proofs.PaddedLemmas.{seen_padded, leaves_less, elapses_padded}

-- ---- time

-- what a crash since t might have left
abbrev Since : List Change → File → ℕ → List ℕ → Type 0
Since chs f t c = HadLeft (length chs - t) chs f c

-- a call that changes nothing
pub elapses_same : (chs : List Change) (f : File) → Elapses (length chs) (length chs) (Since chs f) (Since chs f) (Leaves chs f)
elapses_same chs f = record { later = omega arith; nothing_else = λ t c le left. inl left; keeps = λ t c le left. left }

-- one more change
pub elapses_more : (ch : Change) (chs : List Change) (f g : File) → undone ch g ≡ f
    → Elapses (length chs) (length (ch ∷ chs)) (Since chs f) (Since (ch ∷ chs) g) (Leaves (ch ∷ chs) g)
elapses_more ch chs f g back = record {
  later = omega arith;
  nothing_else = λ t c le left. ⊎_elim (λ now. inr now) (λ had. inl (subst (λ (h : File). HadLeft (length chs - t) chs h c) back had))
      (subst (λ (n : ℕ). HadLeft n (ch ∷ chs) g c) (count t le) left);
  keeps = λ t c le left.
      subst (λ (n : ℕ). HadLeft n (ch ∷ chs) g c) (sym (count t le)) (inr (subst (λ (h : File). HadLeft (length chs - t) chs h c) (sym back) left));
}
  where
    count : (t : ℕ) → t ≤ length chs → length (ch ∷ chs) - t ≡ suc (length chs - t)
    count t le = omega arith

-- ---- what a change may leave

leaves_more : (step : List ℕ → List ℕ → Type 0) → ((c : List ℕ) → step c c) → (ch : Change) (chs : List Change) (f g : File) → undone ch g ≡ f
    → ch.is_sync ≡ false → step (seen_in f) (seen_in g) → step (filled chs f) (filled chs (filled_by ch g)) → Follows step (Leaves chs f) (Leaves (ch ∷ chs) g)
leaves_more step same ch chs f g back plain seen fills c (inl is) = (seen_in f, inl refl, subst (step (seen_in f)) (sym is) seen)
leaves_more step same ch chs f g back plain seen fills c (inr (inl is)) =
    let before : c ≡ synced chs f =
    is ∙ ap (λ (b : Bool). cond b (seen_in g) (synced chs (undone ch g))) plain ∙ ap (λ (h : File). synced chs h) back in
    (synced chs f, inr (inl refl), subst (step (synced chs f)) (sym before) (same (synced chs f)))
leaves_more step same ch chs f g back plain seen fills c (inr (inr is)) =
    let now : c ≡ filled chs (filled_by ch g) = is ∙ ap (λ (b : Bool). cond b (seen_in g) (filled chs (filled_by ch g))) plain in
    (filled chs f, inr (inr refl), subst (step (filled chs f)) (sym now) fills)

wider_fill : (at n : ℕ) (ch : Change) (f g : File) → Wider at n f g → Wider at n (filled_by ch f) (filled_by ch g)
wider_fill at n ch f g w = record {
  agree = agree_both at n f.store g.store ch.at (replicate (length ch.kept) 255) w.agree;
  inside = omega (arith, w.inside);
  wider = omega (arith, w.wider);
  no_wider = omega (arith, w.no_wider);
}

torn_cond : (at n : ℕ) (b : Bool) (x y u v : List ℕ) → Torn at n x y → Torn at n u v → Torn at n (cond b x u) (cond b y v)
torn_cond at n true x y u v here there = here
torn_cond at n false x y u v here there = there

torn_filled : (at n : ℕ) (chs : List Change) (f g : File) → Wider at n f g → Torn at n (filled chs f) (filled chs g)
torn_filled at n [] f g w = torn_of at n f g w
torn_filled at n (ch ∷ chs) f g w =
    torn_cond at n ch.is_sync (seen_in f) (seen_in g) (filled chs (filled_by ch f)) (filled chs (filled_by ch g)) (torn_of at n f g w)
    (torn_filled at n chs (filled_by ch f) (filled_by ch g) (wider_fill at n ch f g w))

-- ---- writes, cuts and syncs

wider_write : (at : ℕ) (bytes : List ℕ) (f : File) → at ≤ f.size → Wider at (length bytes) f (written at bytes f)
wider_write at bytes f inside = record {
  agree = agree_put at (length bytes) f.store f.store bytes (agree_same at (length bytes) f.store) (omega arith);
  inside = inside;
  wider = omega arith;
  no_wider = omega arith;
}

wider_filled : (at : ℕ) (bytes kept : List ℕ) (f : File) → at ≤ f.size → length kept ≡ length bytes
    → Wider at (length bytes) f (filled_by (write_of at kept f) (written at bytes f))
wider_filled at bytes kept f inside long = record {
  agree = agree_put at (length bytes) f.store (put f.store at bytes) (replicate (length kept) 255)
      (agree_put at (length bytes) f.store f.store bytes (agree_same at (length bytes) f.store) (omega arith))
      (omega (arith, length-replicate {A = ℕ} (length kept) 255, long));
  inside = inside;
  wider = omega arith;
  no_wider = omega arith;
}

pub write_leaves : (at : ℕ) (bytes kept : List ℕ) (chs : List Change) (f : File) → at ≤ f.size → length kept ≡ length bytes
    → undone (write_of at kept f) (written at bytes f) ≡ f
    → Follows (Torn at (length bytes)) (Leaves chs f) (Leaves (write_of at kept f ∷ chs) (written at bytes f))
write_leaves at bytes kept chs f inside long back =
    leaves_more (Torn at (length bytes)) (torn_same at (length bytes)) (write_of at kept f) chs f (written at bytes f) back refl
    (torn_of at (length bytes) f (written at bytes f) (wider_write at bytes f inside))
    (torn_filled at (length bytes) chs f (filled_by (write_of at kept f) (written at bytes f)) (wider_filled at bytes kept f inside long))

pub cut_leaves : (n : ℕ) (chs : List Change) (f : File) → n ≤ f.size
    → Follows (Cut n) (Leaves chs f) (Leaves (write_of 0 [] f ∷ chs) (shortened n f))
cut_leaves n chs f le =
    let whole : filled_by (write_of 0 [] f) (shortened n f) ≡ f =
    let size : max n f.size ≡ f.size = omega arith in λ i. record { store = f.store; size = size i } in
    leaves_more (Cut n) (cut_same n) (write_of 0 [] f) chs f (shortened n f) refl refl (cut_of n f le)
    (subst (λ (g : File). Cut n (filled chs f) (filled chs g)) (sym whole) (cut_same n (filled chs f)))

pub sync_leaves : (chs : List Change) (f : File) → Only (seen_in f) (Leaves (sync_of f ∷ chs) f)
sync_leaves chs f c (inl is) = is
sync_leaves chs f c (inr (inl is)) = is
sync_leaves chs f c (inr (inr is)) = is

-- ---- the calls of a file with its past

-- what a write kept has as many bytes as were written
kept_long : (at : ℕ) (bytes : List ℕ) (c : Content) → at + length bytes ≤ length c.file.store → length (take (length bytes) (drop at c.file.store)) ≡ length bytes
kept_long at bytes c fits = omega (arith, fits, length-take (length bytes) (drop at c.file.store), length-drop at c.file.store)

back_of : (at : ℕ) (bytes : List ℕ) (c : Content) → undone (write_of at (take (length bytes) (drop at c.file.store)) c.file) (written at bytes c.file) ≡ c.file
back_of at bytes c = λ i. record { store = put_back c.file.store at bytes i; size = c.file.size }

module _ (c d : Content) where
  abbrev Moves : Type 0
  Moves = Elapses (length c.past.changes) (length d.past.changes) (λ t x. HadLeft (length c.past.changes - t) c.past.changes c.file x) (λ t x. HadLeft (length d.past.changes - t) d.past.changes d.file x) (Leaves d.past.changes d.file)

pub wrote_time : (at : ℕ) (bytes : List ℕ) (c d : Content) → d ≡ wrote at bytes c → Moves c d
wrote_time at bytes c d is = subst (λ (x : Content). Moves c x) (sym is)
    (elapses_more (write_of at (take (length bytes) (drop at c.file.store)) c.file) c.past.changes c.file (written at bytes c.file) (back_of at bytes c))

pub wrote_leaves : (at : ℕ) (bytes : List ℕ) (c d : Content) → d ≡ wrote at bytes c → at ≤ c.file.size → at + length bytes ≤ length c.file.store
    → Follows (Torn at (length bytes)) (Leaves c.past.changes c.file) (Leaves d.past.changes d.file)
wrote_leaves at bytes c d is inside fits = subst (λ (x : Content). Follows (Torn at (length bytes)) (Leaves c.past.changes c.file) (Leaves x.past.changes x.file)) (sym is)
    (write_leaves at bytes (take (length bytes) (drop at c.file.store)) c.past.changes c.file inside (kept_long at bytes c fits) (back_of at bytes c))

pub wrote_holds : (at : ℕ) (bytes : List ℕ) (c d : Content) → d ≡ wrote at bytes c → at ≤ c.file.size → c.file.size ≤ length c.file.store
    → at + length bytes ≤ length c.file.store → Holds (seen_in c.file) at bytes (seen_in d.file)
wrote_holds at bytes c d is inside whole fits =
    subst (λ (x : Content). Holds (seen_in c.file) at bytes (seen_in x.file)) (sym is) (seen_put c.file at bytes inside whole fits)

pub cut_time : (n : ℕ) (c d : Content) → d ≡ cut_to n c → Moves c d
cut_time n c d is = subst (λ (x : Content). Moves c x) (sym is) (elapses_more (write_of 0 [] c.file) c.past.changes c.file (shortened n c.file) refl)

pub cut_follows : (n : ℕ) (c d : Content) → d ≡ cut_to n c → n ≤ c.file.size → Follows (Cut n) (Leaves c.past.changes c.file) (Leaves d.past.changes d.file)
cut_follows n c d is le = subst (λ (x : Content). Follows (Cut n) (Leaves c.past.changes c.file) (Leaves x.past.changes x.file)) (sym is) (cut_leaves n c.past.changes c.file le)

pub cut_seen : (n : ℕ) (c d : Content) → d ≡ cut_to n c → n ≤ c.file.size → seen_in d.file ≡ take n (seen_in c.file)
cut_seen n c d is le = ap (λ (x : Content). seen_in x.file) is ∙ sym (take-take n c.file.size c.file.store le)

pub sync_time : (c d : Content) → d ≡ was_synced c → Moves c d
sync_time c d is = subst (λ (x : Content). Moves c x) (sym is) (elapses_more (sync_of c.file) c.past.changes c.file c.file refl)

pub sync_only : (c d : Content) → d ≡ was_synced c → Only (seen_in c.file) (Leaves d.past.changes d.file)
sync_only c d is = subst (λ (x : Content). Only (seen_in c.file) (Leaves x.past.changes x.file)) (sym is) (sync_leaves c.past.changes c.file)

-- more room
pub padded_seen : (c d : Content) → Padded c d → IsWhole c.file c.past → seen_in d.file ≡ seen_in c.file
padded_seen c d p w = ap (λ (f : File). seen_in f) p.file ∙ seen_padded p.more c.file w.inside

pub padded_crash : (c d : Content) → Padded c d → IsWhole c.file c.past → (x : List ℕ) → Leaves d.past.changes d.file x → Leaves c.past.changes c.file x
padded_crash c d p w x left =
    leaves_less p.more c.past.changes c.file w.inside w.changes x (subst (λ (y : List Change × File). Leaves y.0 y.1 x) (λ i. (p.changes i, p.file i)) left)

pub padded_time : (c d : Content) → Padded c d → IsWhole c.file c.past → Moves c d
padded_time c d p w =
    subst
    (λ (y : List Change × File). Elapses (length c.past.changes) (length y.0) (λ t x. HadLeft (length c.past.changes - t) c.past.changes c.file x) (λ t x. HadLeft (length y.0 - t) y.0 y.1 x) (Leaves y.0 y.1))
    (λ i. (sym p.changes i, sym p.file i)) (elapses_padded p.more c.past.changes c.file w.inside w.changes)
