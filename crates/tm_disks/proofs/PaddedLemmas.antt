-- More room behind the stored bytes changes nothing.
use Rattle.std.proofs.Common.{◌≡◌, ◌∙◌, inl, inr, ℕ, zero, suc, ◌+◌, ◌-◌, ◌≤◌, max, cond, List, [], ◌∷◌, ◌++◌, length, replicate, refl, sym, ap, subst, arith, length-append}
use Rattle.std.proofs.lemmas.List.{take-append-le, length-replicate}
use Rattle.tm_disks.specs.Disk.{Elapses}
use Rattle.tm_disks.specs.MemoryDisk.{Change, File, over, put, undone, filled_by, seen_in, synced, filled, Leaves, HadLeft, AreInside, padded, Padded, Content, Past, IsWhole}
use Rattle.tm_disks.proofs.StoreLemmas.{length-put}

over_padded : (s z bytes : List ℕ) → length bytes ≤ length s → over (s ++ z) bytes ≡ over s bytes ++ z
over_padded s z [] le = refl
over_padded [] z (b ∷ bytes) le = absurd (omega arith)
over_padded (x ∷ s) z (b ∷ bytes) le = ap (λ (l : List ℕ). b ∷ l) (over_padded s z bytes (omega arith))

put_padded : (s z : List ℕ) (at : ℕ) (bytes : List ℕ) → at + length bytes ≤ length s → put (s ++ z) at bytes ≡ put s at bytes ++ z
put_padded s z zero bytes le = over_padded s z bytes (omega (arith, le))
put_padded [] z (suc at) bytes le = absurd (omega arith)
put_padded (x ∷ s) z (suc at) bytes le = ap (λ (l : List ℕ). x ∷ l) (put_padded s z at bytes (omega arith))

pub seen_padded : (z : List ℕ) (f : File) → f.size ≤ length f.store → seen_in (padded z f) ≡ seen_in f
seen_padded z f inside = take-append-le f.size f.store z inside

undone_padded : (z : List ℕ) (ch : Change) (f : File) → ch.at + length ch.kept ≤ length f.store → undone ch (padded z f) ≡ padded z (undone ch f)
undone_padded z ch f within = λ i. record { store = put_padded f.store z ch.at ch.kept within i; size = ch.size }

filled_by_padded : (z : List ℕ) (ch : Change) (f : File) → ch.at + length ch.kept ≤ length f.store → filled_by ch (padded z f) ≡ padded z (filled_by ch f)
filled_by_padded z ch f within =
    let fits : ch.at + length (replicate (length ch.kept) 255) ≤ length f.store = omega (arith, within, length-replicate {A = ℕ} (length ch.kept) 255) in
    λ i. record { store = put_padded f.store z ch.at (replicate (length ch.kept) 255) fits i; size = max f.size ch.size }

-- the same number of stored bytes
inside_of : (n m : ℕ) (chs : List Change) → m ≡ n → AreInside n chs → AreInside m chs
inside_of n m chs is fits = subst (λ (k : ℕ). AreInside k chs) (sym is) fits

synced_padded : (z : List ℕ) (chs : List Change) (f : File) → f.size ≤ length f.store → AreInside (length f.store) chs → synced chs (padded z f) ≡ synced chs f
synced_padded z [] f inside fits = seen_padded z f inside
synced_padded z (ch ∷ chs) f inside fits =
    let long = length-put f.store ch.at ch.kept in
    λ i. cond ch.is_sync (seen_padded z f inside i)
    ((ap (λ (g : File). synced chs g) (undone_padded z ch f fits.0)
    ∙ synced_padded z chs (undone ch f) (omega (arith, long, fits.1)) (inside_of (length f.store) (length (undone ch f).store) chs long fits.2)) i)

filled_padded : (z : List ℕ) (chs : List Change) (f : File) → f.size ≤ length f.store → AreInside (length f.store) chs → filled chs (padded z f) ≡ filled chs f
filled_padded z [] f inside fits = seen_padded z f inside
filled_padded z (ch ∷ chs) f inside fits =
    let long = length-put f.store ch.at (replicate (length ch.kept) 255) in
    λ i. cond ch.is_sync (seen_padded z f inside i)
    ((ap (λ (g : File). filled chs g) (filled_by_padded z ch f fits.0)
    ∙ filled_padded z chs (filled_by ch f) (omega (arith, long, fits.1, inside)) (inside_of (length f.store) (length (filled_by ch f).store) chs long fits.2)) i)

pub leaves_less : (z : List ℕ) (chs : List Change) (f : File) → f.size ≤ length f.store → AreInside (length f.store) chs
    → (c : List ℕ) → Leaves chs (padded z f) c → Leaves chs f c
leaves_less z chs f inside fits c (inl is) = inl (is ∙ seen_padded z f inside)
leaves_less z chs f inside fits c (inr (inl is)) = inr (inl (is ∙ synced_padded z chs f inside fits))
leaves_less z chs f inside fits c (inr (inr is)) = inr (inr (is ∙ filled_padded z chs f inside fits))

leaves_more : (z : List ℕ) (chs : List Change) (f : File) → f.size ≤ length f.store → AreInside (length f.store) chs
    → (c : List ℕ) → Leaves chs f c → Leaves chs (padded z f) c
leaves_more z chs f inside fits c (inl is) = inl (is ∙ sym (seen_padded z f inside))
leaves_more z chs f inside fits c (inr (inl is)) = inr (inl (is ∙ sym (synced_padded z chs f inside fits)))
leaves_more z chs f inside fits c (inr (inr is)) = inr (inr (is ∙ sym (filled_padded z chs f inside fits)))

had_less : (n : ℕ) (z : List ℕ) (chs : List Change) (f : File) → f.size ≤ length f.store → AreInside (length f.store) chs
    → (c : List ℕ) → HadLeft n chs (padded z f) c → HadLeft n chs f c
had_less zero z chs f inside fits c left = leaves_less z chs f inside fits c left
had_less (suc n) z [] f inside fits c left = leaves_less z [] f inside fits c left
had_less (suc n) z (ch ∷ chs) f inside fits c (inl left) = inl (leaves_less z (ch ∷ chs) f inside fits c left)
had_less (suc n) z (ch ∷ chs) f inside fits c (inr left) =
    let long = length-put f.store ch.at ch.kept in
    inr (had_less n z chs (undone ch f) (omega (arith, long, fits.1)) (inside_of (length f.store) (length (undone ch f).store) chs long fits.2) c
    (subst (λ (g : File). HadLeft n chs g c) (undone_padded z ch f fits.0) left))

had_more : (n : ℕ) (z : List ℕ) (chs : List Change) (f : File) → f.size ≤ length f.store → AreInside (length f.store) chs
    → (c : List ℕ) → HadLeft n chs f c → HadLeft n chs (padded z f) c
had_more zero z chs f inside fits c left = leaves_more z chs f inside fits c left
had_more (suc n) z [] f inside fits c left = leaves_more z [] f inside fits c left
had_more (suc n) z (ch ∷ chs) f inside fits c (inl left) = inl (leaves_more z (ch ∷ chs) f inside fits c left)
had_more (suc n) z (ch ∷ chs) f inside fits c (inr left) =
    let long = length-put f.store ch.at ch.kept in
    inr (subst (λ (g : File). HadLeft n chs g c) (sym (undone_padded z ch f fits.0))
    (had_more n z chs (undone ch f) (omega (arith, long, fits.1)) (inside_of (length f.store) (length (undone ch f).store) chs long fits.2) c left))

pub elapses_padded : (z : List ℕ) (chs : List Change) (f : File) → f.size ≤ length f.store → AreInside (length f.store) chs
    → Elapses (length chs) (length chs) (λ t c. HadLeft (length chs - t) chs f c) (λ t c. HadLeft (length chs - t) chs (padded z f) c) (Leaves chs (padded z f))
elapses_padded z chs f inside fits = record {
  later = omega arith;
  nothing_else = λ t c le left. inl (had_less (length chs - t) z chs f inside fits c left);
  keeps = λ t c le left. had_more (length chs - t) z chs f inside fits c left;
}

pub inside_more : (n m : ℕ) (chs : List Change) → n ≤ m → AreInside n chs → AreInside m chs
inside_more n m [] le fits = tt
inside_more n m (ch ∷ chs) le fits = (omega (arith, le, fits.0), omega (arith, le, fits.1), inside_more n m chs le fits.2)

pub padded_of : (c d : Content) (more : List ℕ) → d.file.store ≡ c.file.store ++ more → d.file.size ≡ c.file.size → d.past.changes ≡ c.past.changes → Padded c d
padded_of c d more store size changes = record { more = more; file = λ i. record { store = store i; size = size i }; changes = changes }

pub whole_more : (f g : File) (p q : Past) (more : List ℕ) → IsWhole f p → g.store ≡ f.store ++ more → g.size ≡ f.size → q.changes ≡ p.changes
    → q.room.size ≤ length g.store → IsWhole g q
whole_more f g p q more w store size changes room =
    let long : length g.store ≡ length f.store + length more = ap length store ∙ length-append f.store more in
    record {
      inside = omega (arith, w.inside, long, size);
      room = room;
      changes = subst (λ (chs : List Change). AreInside (length g.store) chs) (sym changes) (inside_more (length f.store) (length g.store) p.changes (omega (arith, long)) w.changes);
    }
