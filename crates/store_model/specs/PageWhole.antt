-- What a page store has of the writers' logs: the first groups of each, with all their records on its pages.
use Rattle.std.specs.Prelude.{◌≡◌, ◌≤◌, ℕ, ◌-◌, ◌^◌, true, cond, nat_lt, List, [], ◌∷◌, length, take, filter}
use Rattle.std.specs.FinMap.{get, insert}
use Rattle.std.specs.declared.option.Option.TheVariants.{Some}
use Rattle.tm_data.specs.declared.log.Group.{Group}
use Rattle.tm_base.specs.declared.message.RosterEntry.{RosterEntry}
use Rattle.page_model.specs.Effects.{page_of}
use Rattle.page_model.specs.Versions.{links_of}
use Rattle.page_model.specs.declared.link.Link.{Link}
use Rattle.store_model.specs.PageState.{PageStoreState, is_own}
use Rattle.store_model.specs.PageStep.{brought, front_of, is_on, with_links}
use Rattle.store_model.specs.PageFacts.{Among, Falls, IsChange, IsTakenTo}

-- A record of the page in a group that was taken: `count` is how many of each writer were, the first ones.
pub record WasTaken (logs : ℕ → List Group) (count : ℕ → ℕ) (page : ℕ) (l : Link) : Type 0 where
  pub change : IsChange logs page l
  pub seq : change.group.seq ≤ count change.group.writer.0

-- The chain of a page, the newest first, has exactly the records on it of the groups taken. Only the store's own pages
-- have any.
pub record HasChain (logs : ℕ → List Group) (count : ℕ → ℕ) (s : PageStoreState) (page : ℕ) : Type 0 where
  pub falls : Falls (links_of s.pages page)
  pub only : (l : Link) → Among l (links_of s.pages page) → (is_own s page ≡ true) × WasTaken logs count page l
  pub all : (l : Link) → is_own s page ≡ true → WasTaken logs count page l → Among l (links_of s.pages page)

-- Of a writer its first groups were taken: the number that comes next is the one after the last of them, and the frontier
-- is its stamp, or the writer's start.
pub record HasTaken (logs : ℕ → List Group) (count : ℕ) (s : PageStoreState) (writer : ℕ) : Type 0 where
  pub within : count ≤ length (logs writer)
  pub to : IsTakenTo s writer (take count (logs writer))

-- `logs` are the writers' lists, all that was ever logged or no more than what is on every log store.
pub record IsWhole (logs : ℕ → List Group) (s : PageStoreState) : Type 0 where
  pub count : ℕ → ℕ
  pub fronts : (writer : ℕ) → HasTaken logs (count writer) s writer
  pub chains : (page : ℕ) → HasChain logs count s page
  -- the roster has each entry under its writer's number
  pub keys : (writer : ℕ) (e : RosterEntry) → get s.roster writer ≡ Some e → e.writer.0 ≡ writer

-- ---- a start from what was kept

-- Of a group the records on the store's pages.
abbrev pub part_of : ℕ → ℕ → Group → Group
part_of number stores g = record g { records = filter (λ r. is_on number stores (page_of r)) g.records }

-- The state with a kept part of a group: its records, and how far the writer's log was taken.
abbrev pub with_part : PageStoreState → Group → PageStoreState
with_part s g = record s {
  fronts = cond (nat_lt g.seq (2 ^ 32 - 1)) (insert s.fronts g.writer.0 (front_of g)) s.fronts;
  pages = with_links s.pages (brought s.number s.stores (g ∷ []));
}
