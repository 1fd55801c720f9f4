-- What a master changes when it logs groups of records.
use Rattle.std.specs.Prelude.{ℕ, ◌+◌, ◌-◌, ◌^◌, Bool, true, false, nat_lt, nat_le, List, [], ◌∷◌, drop, map}
use Rattle.std.specs.declared.option.Option.{Option}
use Rattle.std.specs.declared.option.Option.TheVariants.{None, Some}
use Rattle.tm_data.specs.declared.image.Image.{Image}
use Rattle.tm_data.specs.declared.log.Group.{Group}
use Rattle.tm_data.specs.declared.log.Record.{Record}
use Rattle.tm_base.specs.declared.reply.Reply.TheVariants as reply
use Rattle.page_model.specs.Effects.{redone_at, page_of}
use Rattle.page_model.specs.Pool.{image_of, replaced}
use Rattle.vs_clock.specs.State.{ticked, told}
use Rattle.log_writer.specs.Log.{Log, appended, last_seq}
use Rattle.lease_desk.specs.Desk.{changed}
use Rattle.master_model.specs.State.{Work, Answer, says}

-- ---- whether it may

-- So many further groups have numbers below 2^32 - 1.
abbrev pub has_numbers : Work → ℕ → Bool
has_numbers w count = nat_lt (last_seq w.log + count) (2 ^ 32 - 1)

-- And stamps up to 2^63 - 1, each one above the scalar before it.
abbrev pub has_stamps : Work → ℕ → Bool
has_stamps w count = nat_le (w.clock.scalar + count) (2 ^ 63 - 1)

-- A command that logs so many groups goes on, or is refused because numbers or stamps are spent.
abbrev pub if_room : Work → Bool → Bool → Answer → Answer
if_room w false stamps goes_on = says w reply.FullGroups
if_room w true false goes_on = says w reply.StampsSpent
if_room w true true goes_on = goes_on

abbrev pub with_room : Work → ℕ → Answer → Answer
with_room w count goes_on = if_room w (has_numbers w count) (has_stamps w count) goes_on

-- ---- one group

-- An image with a record's effect, in the place that it has among the others.
abbrev pub put_back : List Image → Option Image → List Image
put_back images None = images
put_back images (Some new) = replaced new images

abbrev pub redone_if : List Image → Record → ℕ → Option Image → List Image
redone_if images change stamp None = images
redone_if images change stamp (Some image) = put_back images (redone_at image change stamp)

-- The record changes its page's image, and the page's last change has the group's stamp.
abbrev pub with_change : Work → Record → ℕ → Option ℕ → Work
with_change w change stamp None = w
with_change w change stamp (Some page) = record w {
  pool = record w.pool { images = redone_if w.pool.images change stamp (image_of page w.pool.images) };
  leases = changed w.leases page (record { 0 = stamp });
}

abbrev pub with_changes : Work → List Record → ℕ → Work
with_changes w [] stamp = w
with_changes w (r ∷ rs) stamp = with_changes (with_change w r stamp (page_of r)) rs stamp

-- The next group: it has the next number and the next stamp, and tells what was learnt since the one before.
abbrev pub next_group : Work → List Record → Group
next_group w records = record {
  writer = w.log.writer;
  seq = last_seq w.log + 1;
  stamp = record { 0 = w.clock.scalar + 1 };
  learnt = w.clock.untold;
  records = records;
}

abbrev pub with_group : Work → Group → Work
with_group w g =
    with_changes (record w { clock = told (ticked w.clock); log = appended w.log g }) g.records g.stamp.0

-- ---- several groups

-- What they are, the first one first, and the state after them.
pub record Logged : Type 0 where
  pub work : Work
  pub groups : List Group

abbrev pub in_front : Group → Logged → Logged
in_front g l = record l { groups = g ∷ l.groups }

abbrev pub logs : Work → List (List Record) → Logged
logs w [] = record { work = w; groups = [] }
logs w (r ∷ rs) = in_front (next_group w r) (logs (with_group w (next_group w r)) rs)

-- ---- what was logged

-- The groups that a log has behind the last number which it had before.
abbrev pub logged_since : Log → Log → List Group
logged_since old new = drop (last_seq old - new.gone) (map (λ l. l.group) new.groups)
