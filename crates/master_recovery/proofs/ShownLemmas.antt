-- What the code keeps of a recovery, and what is seen of it.
use Rattle.std.specs.Prelude.{◌≡◌, ℕ, ◌+◌, Bool, true, false, List, [], length, nat_le}
use Rattle.std.proofs.Common.{sym, ◌∙◌, ap}
use Rattle.std.specs.declared.option.Option.{Option}
use Rattle.std.specs.Ordering.{nat_cmp}
use Rattle.std.specs.FinMap as fin
use Rattle.std.specs.FinMap.{FinMap}
use Rattle.tm_data.specs.declared.log.Group.{Group}
use Rattle.tm_data.specs.Orders.{txn_cmp}
use Rattle.master_model.specs.declared.recovery.Stage.TheVariants.{Seal, Scan, Take}
use Rattle.master_model.specs.Recovery.{in_turn, is_last, with_groups, written_cmp, written_by}
use Rattle.master_recovery.specs.declared.batch.Batch.{Batch}
use Rattle.master_recovery.specs.Gathered.{gathered}
use Rattle.master_recovery.specs.Places.{itself, nothing, page_key, stamp_value, valued, with_items}
use Rattle.master_recovery.specs.Seen.{Seen, ended_by, listed, read_on, scanned, shown, with_read}
use Rattle.master_recovery.proofs.BatchLemmas.{groups_ends, groups_pages, groups_rows, reads_none, reads_some}
use Rattle.master_recovery.proofs.PlaceLemmas.{valued-empty}

abbrev Pages : Type 0
Pages = FinMap nat_cmp (Option ℕ)

abbrev Rows : Type 0
Rows = FinMap written_cmp (Option (Unit {0}))

abbrev Ends : Type 0
Ends = FinMap txn_cmp (Option (Unit {0}))

pub new_shown : (writer : ℕ) (pages : Pages) (rows : Rows) (ended : Ends) → pages ≡ fin.empty → rows ≡ fin.empty → ended ≡ fin.empty
    → shown writer Seal pages rows ended ≡ record { writer = writer; stage = Seal; pages = fin.empty; written = fin.empty; ended = fin.empty; undo = [] }
new_shown writer pages rows ended p q e = λ i. record {
  writer = writer;
  stage = Seal;
  pages = (ap valued p ∙ valued-empty nat_cmp) i;
  written = (ap valued q ∙ valued-empty written_cmp) i;
  ended = (ap valued e ∙ valued-empty txn_cmp) i;
  undo = [];
}

-- Places alone change nothing that is seen.
pub places_shown : (writer store most next : ℕ) (pages new_pages : Pages) (rows new_rows : Rows) (ended new_ended : Ends)
    → valued new_pages ≡ valued pages → valued new_rows ≡ valued rows → valued new_ended ≡ valued ended
    → shown writer (Scan store most next) new_pages new_rows new_ended ≡ shown writer (Scan store most next) pages rows ended
places_shown writer store most next pages new_pages rows new_rows ended new_ended p q e = λ i. record {
  writer = writer;
  stage = Scan store most next;
  pages = p i;
  written = q i;
  ended = e i;
  undo = [];
}

-- What was read of some groups.
module _ (writer store most next after : ℕ) (groups : List Group) (pages new_pages : Pages) (rows new_rows : Rows) (ended new_ended : Ends) where
  abbrev turn : List Group
  turn = in_turn writer next most groups

  abbrev was : Seen
  was = shown writer (Scan store most next) pages rows ended

  -- the pages, rows and ends of the groups that are in turn are kept
  pub record Kept : Type 0 where
    pub counted : after ≡ next + length turn
    pub pages_are : valued new_pages ≡ with_groups (valued pages) turn
    pub rows_are : valued new_rows ≡ written_by (valued rows) writer turn
    pub ends_are : valued new_ended ≡ ended_by (valued ended) turn

  pub stays_shown : Kept → after ≡ next → was ≡ scanned was groups
  stays_shown k none = sym (reads_none was store most next turn (sym k.counted ∙ none))

  goes_shown : Kept → (after ≡ next → ⊥) → (more : Bool) → nat_le after most ≡ more → read_on (with_read was turn) store most after more ≡ scanned was groups
  goes_shown k some more is =
      sym (reads_some was store most next turn (λ none. some (k.counted ∙ none))
      ∙ ap (λ n. read_on (with_read was turn) store most n (nat_le n most)) (sym k.counted) ∙ ap (read_on (with_read was turn) store most after) is)

  pub scans_shown : Kept → (after ≡ next → ⊥) → nat_le after most ≡ true → shown writer (Scan store most after) new_pages new_rows new_ended ≡ scanned was groups
  scans_shown k some is =
      (λ i. record { writer = writer; stage = Scan store most after; pages = k.pages_are i; written = k.rows_are i; ended = k.ends_are i; undo = [] })
      ∙ goes_shown k some true is

  pub takes_shown : Kept → (after ≡ next → ⊥) → nat_le after most ≡ false → shown writer (Take 1 (is_last (listed (valued new_pages)) 1)) new_pages new_rows new_ended ≡ scanned was groups
  takes_shown k some is =
      (λ i. record { writer = writer; stage = Take 1 (is_last (listed (k.pages_are i)) 1); pages = k.pages_are i; written = k.rows_are i; ended = k.ends_are i; undo = [] })
      ∙ goes_shown k some false is

-- So it is where the lists that were gathered are entered, once they have places.
pub keeps : (writer store most next after : ℕ) (groups : List Group) (pages placed_pages new_pages : Pages) (rows placed_rows new_rows : Rows) (ended placed_ended new_ended : Ends) (none batch : Batch)
    → after ≡ next + length (in_turn writer next most groups) → none ≡ record { pages = []; rows = []; ended = [] } → batch ≡ gathered writer none (in_turn writer next most groups)
    → valued placed_pages ≡ valued pages → valued placed_rows ≡ valued rows → valued placed_ended ≡ valued ended
    → valued new_pages ≡ with_items page_key stamp_value (valued placed_pages) batch.pages
    → valued new_rows ≡ with_items itself nothing (valued placed_rows) batch.rows
    → valued new_ended ≡ with_items itself nothing (valued placed_ended) batch.ended
    → Kept writer store most next after groups pages new_pages rows new_rows ended new_ended
keeps writer store most next after groups pages placed_pages new_pages rows placed_rows new_rows ended placed_ended new_ended none batch count empty is p q e np nq ne =
    let gs = in_turn writer next most groups in
    record {
      counted = count;
      pages_are = np ∙ (λ i. with_items page_key stamp_value (p i) (is i).pages) ∙ groups_pages (valued pages) writer none gs ∙ ap (λ b. with_groups (with_items page_key stamp_value (valued pages) b.pages) gs) empty;
      rows_are = nq ∙ (λ i. with_items itself nothing (q i) (is i).rows) ∙ groups_rows (valued rows) writer none gs ∙ ap (λ b. written_by (with_items itself nothing (valued rows) b.rows) writer gs) empty;
      ends_are = ne ∙ (λ i. with_items itself nothing (e i) (is i).ended) ∙ groups_ends (valued ended) writer none gs ∙ ap (λ b. ended_by (with_items itself nothing (valued ended) b.ended) gs) empty;
    }
