-- The groups of a log can be spelled, and so can the stamps that a takeover lists.
use Rattle.std.proofs.Common.{◌≤◌, ◌+◌, ◌-◌, ◌*◌, ℕ, zero, suc, Bool, true, false, List, [], ◌∷◌, Option, Some, None, sym, subst, cond, arith}
use Rattle.std.specs.Prelude.{nat_eq, drop, map, slice_get, take}
use Rattle.std.specs.List.{AllByRecursion}
use Rattle.std.specs.Cmp.{nat_cmp_total}
use Rattle.std.specs.Ordering.{nat_cmp}
use Rattle.std.specs.FinMap.{FinMap, entries-insert, put}
use Rattle.std.specs.FinMap as fin
use Rattle.std.specs.FinMap.Entries.{by_order}
use Rattle.std.specs.declared.cmp.Ordering.{Ordering}
use Rattle.std.specs.declared.cmp.Ordering.TheVariants.{Less, Equal, Greater}
use Rattle.tm_data.specs.Maps.{entries-empty}
use Rattle.tm_data.specs.declared.log.Group.{Group}
use Rattle.tm_data.specs.declared.log.Record.{Record}
use Rattle.tm_base.specs.declared.message.PageStamp.{PageStamp}
use Rattle.page_model.specs.Effects.{page_of}
use Rattle.log_writer.specs.Log.{Log, durable_count, durable_seq, durable_stamp}
use Rattle.master_model.specs.Recovery.{page_stamp, pages_of, part_of, part_size, with_groups, with_records, with_stamp}
use Rattle.master_model.specs.Facts.{AreGroups, GroupBrought, IsRestOf, stamp_in}
use Rattle.master_model.proofs.WholeLemmas.{stamp_there}
use Rattle.format_laws.specs.Spelled.{AreStamps, IsStamp}

-- ---- the groups of a log

rises_to : (writer seq after last : ℕ) (gs : List Group) → AreGroups writer seq after last gs → after ≤ last
rises_to writer seq after last [] h = h
rises_to writer seq after last (g ∷ gs) h = omega (arith, h.2, rises_to writer (seq + 1) g.stamp.0 last gs h.6)

pub groups_brought : (writer seq after last : ℕ) (gs : List Group) → 1 ≤ writer → IsStamp last → AreGroups writer seq after last gs → AllByRecursion GroupBrought gs
groups_brought writer seq after last [] one fits h = tt
groups_brought writer seq after last (g ∷ gs) one fits h =
    let to : g.stamp.0 ≤ last = rises_to writer (seq + 1) g.stamp.0 last gs h.6 in
    (record { learnt = (h.3, omega (arith, h.5, to, fits)); writer = omega (arith, h.0, one); stamp = omega (arith, to, fits) }, groups_brought writer (seq + 1) g.stamp.0 last gs one fits h.6)

-- No stamp of a log is above the last one.
abbrev Below : ℕ → List Group → Type 0
Below last gs = AllByRecursion (λ (g : Group). g.stamp.0 ≤ last) gs

all_below : (writer seq after last : ℕ) (gs : List Group) → AreGroups writer seq after last gs → Below last gs
all_below writer seq after last [] h = tt
all_below writer seq after last (g ∷ gs) h = (rises_to writer (seq + 1) g.stamp.0 last gs h.6, all_below writer (seq + 1) g.stamp.0 last gs h.6)

group_below : (last : ℕ) (gs : List Group) (i : ℕ) → Below last gs → stamp_in (slice_get gs i) ≤ last
group_below last [] i h = omega arith
group_below last (g ∷ gs) zero h = h.0
group_below last (g ∷ gs) (suc i) h = group_below last gs i h.1

pub durable_below : (writer after last : ℕ) (gs : List Group) (log : Log) → IsRestOf gs log → AreGroups writer 1 after last gs → durable_stamp log ≤ last
durable_below writer after last gs log r h =
    subst (λ (k : ℕ). k ≤ last) (sym (stamp_there gs log (durable_count log.groups) r)) (by (nat_eq (durable_seq log) 0) (group_below last gs (durable_seq log - 1) (all_below writer 1 after last gs h)))
  where
    by : (b : Bool) → stamp_in (slice_get gs (durable_seq log - 1)) ≤ last → cond b 0 (stamp_in (slice_get gs (durable_seq log - 1))) ≤ last
    by true k = omega arith
    by false k = k

-- ---- the stamps of pages

abbrev Fit : List (ℕ × ℕ) → Type 0
Fit es = AllByRecursion (λ (e : ℕ × ℕ). IsStamp e.1) es

put_fits : (page stamp : ℕ) (es : List (ℕ × ℕ)) → IsStamp stamp → Fit es → Fit (put nat_cmp page stamp es)
put_fits page stamp [] fits h = (fits, tt)
put_fits page stamp (e ∷ es) fits h = by (nat_cmp page e.0) (put_fits page stamp es fits h.1)
  where
    by : (r : Ordering) → Fit (put nat_cmp page stamp es) → Fit (by_order r ((page, stamp) ∷ e ∷ es) ((e.0, stamp) ∷ es) (e ∷ put nat_cmp page stamp es))
    by Less rest = (fits, h)
    by Equal rest = (fits, h.1)
    by Greater rest = (h.0, rest)

stamp_fits : (m : FinMap nat_cmp ℕ) (stamp : ℕ) (o : Option ℕ) → IsStamp stamp → Fit (fin.entries m) → Fit (fin.entries (with_stamp m stamp o))
stamp_fits m stamp None fits h = h
stamp_fits m stamp (Some page) fits h = subst Fit (sym (entries-insert nat_cmp_total m page stamp)) (put_fits page stamp (fin.entries m) fits h)

records_fit : (m : FinMap nat_cmp ℕ) (stamp : ℕ) (rs : List Record) → IsStamp stamp → Fit (fin.entries m) → Fit (fin.entries (with_records m stamp rs))
records_fit m stamp [] fits h = h
records_fit m stamp (r ∷ rs) fits h = records_fit (with_stamp m stamp (page_of r)) stamp rs fits (stamp_fits m stamp (page_of r) fits h)

groups_fit : (m : FinMap nat_cmp ℕ) (gs : List Group) → AllByRecursion GroupBrought gs → Fit (fin.entries m) → Fit (fin.entries (with_groups m gs))
groups_fit m [] brought h = h
groups_fit m (g ∷ gs) brought h = groups_fit (with_records m g.stamp.0 g.records) gs brought.1 (records_fit m g.stamp.0 g.records brought.0.stamp h)

listed_fit : (es : List (ℕ × ℕ)) → Fit es → AreStamps (map page_stamp es)
listed_fit [] h = tt
listed_fit (e ∷ es) h = (h.0, listed_fit es h.1)

drop_fits : (n : ℕ) (ps : List PageStamp) → AreStamps ps → AreStamps (drop n ps)
drop_fits zero ps h = h
drop_fits (suc n) [] h = tt
drop_fits (suc n) (p ∷ ps) h = drop_fits n ps h.1

take_fits : (n : ℕ) (ps : List PageStamp) → AreStamps ps → AreStamps (take n ps)
take_fits zero ps h = tt
take_fits (suc n) [] h = tt
take_fits (suc n) (p ∷ ps) h = (h.0, take_fits n ps h.1)

no_pages : FinMap nat_cmp ℕ
no_pages = fin.empty

pub part_fits : (gs : List Group) (part : ℕ) → AllByRecursion GroupBrought gs → AreStamps (part_of (pages_of gs) part)
part_fits gs part brought =
    take_fits part_size (drop ((part - 1) * part_size) (pages_of gs)) (drop_fits ((part - 1) * part_size) (pages_of gs)
    (listed_fit (fin.entries (with_groups fin.empty gs)) (groups_fit fin.empty gs brought (subst Fit (sym (entries-empty nat_cmp)) tt))))
