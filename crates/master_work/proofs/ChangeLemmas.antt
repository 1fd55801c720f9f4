-- A record that is logged changes the image of its page, if it suits that.
use Rattle.std.proofs.Common.{◌≡◌, ◌∙◌, ◌+◌, arith, length-append, ℕ, Bool, true, false, List, [], ◌∷◌, Option, Some, None, IsSome, nat_eq, refl, sym, ap, subst}
use Rattle.std.specs.Cmp.{unsigned_Decides}
use Rattle.std.specs.List.{AllByRecursion}
use Rattle.std.specs.declared.result.Result.{Result}
use Rattle.std.specs.declared.result.Result.TheVariants.{Ok, Err}
use Rattle.tm_data.specs.declared.image.Image.{Image}
use Rattle.tm_data.specs.declared.log.Group.{Group}
use Rattle.tm_data.specs.declared.log.Record.{Record}
use Rattle.tm_data.specs.declared.transaction.Stamp.{Stamp}
use Rattle.page_model.specs.Effects.{page_of, prev_of, redone_at}
use Rattle.page_model.specs.Pool.{Pool, image_of}
use Rattle.page_redo.specs.declared.error.RedoError.{RedoError}
use Rattle.page_redo.specs.declared.error.RedoError.TheVariants.{WrongPrev, Unfit, NoMemory}
use Rattle.page_redo.specs.Redo.{Answers, if_next, if_suiting}
use Rattle.buffer_pool.specs.Change.{change_held, change_of, with_version}
use Rattle.vs_clock.specs.State.{ticked, told}
use Rattle.log_writer.specs.Log.{appended, last_seq, unacknowledged}
use Rattle.lease_desk.specs.Desk.{changed}
use Rattle.master_model.specs.State.{Work}
use Rattle.master_model.specs.Logging.{put_back, redone_if, next_group, with_change, with_changes, with_group}
use Rattle.master_work.specs.Changes.{IsMadeOn, group_after, redone_in}
use Rattle.master_work.proofs.LogLemmas.{plain_changes}

-- What is answered of a record that was made on the image: its effect, or that it doesn't suit, and has none.
abbrev Made : Pool → ℕ → Record → ℕ → Type 0
Made p page r stamp = (o : Option Image) × (change_of p page r stamp ≡ with_version p (if_suiting o)) × (redone_in p page r stamp ≡ record p { images = put_back p.images o })

made : (p : Pool) (page : ℕ) (r : Record) (stamp : ℕ) → IsMadeOn p page r → Made p page r stamp
made p page r stamp (image, is, same) = (
  redone_at image r stamp,
  ap (λ (x : Option Image). change_held p x r stamp) is ∙ ap (λ (b : Bool). with_version p (if_next image r stamp b)) ((unsigned_Decides (prev_of r) image.stamp.0).1 same),
  ap (λ (x : Option Image). record p { images = redone_if p.images r stamp x }) is,
)

pub applied : (p new : Pool) (page : ℕ) (r : Record) (stamp : ℕ) → IsMadeOn p page r → change_of p page r stamp ≡ Ok new → new ≡ redone_in p page r stamp
applied p new page r stamp on is = by m.0 (sym m.1 ∙ is) ∙ sym m.2
  where
    m : Made p page r stamp
    m = made p page r stamp on

    by : (o : Option Image) → with_version p (if_suiting o) ≡ Ok new → new ≡ record p { images = put_back p.images o }
    by None e = absurd (cc e)
    by (Some i) e = cc e

pub unfit : (p : Pool) (page : ℕ) (r : Record) (stamp : ℕ) → IsMadeOn p page r → change_of p page r stamp ≡ Err Unfit → p ≡ redone_in p page r stamp
unfit p page r stamp on is = by m.0 (sym m.1 ∙ is) ∙ sym m.2
  where
    m : Made p page r stamp
    m = made p page r stamp on

    by : (o : Option Image) → with_version p (if_suiting o) ≡ Err Unfit → p ≡ record p { images = put_back p.images o }
    by None e = refl
    by (Some i) e = absurd (cc e)

pub never_wrong : (p : Pool) (page : ℕ) (r : Record) (stamp : ℕ) (has wants : Stamp) → IsMadeOn p page r → change_of p page r stamp ≡ Err (WrongPrev has wants) → p ≡ redone_in p page r stamp
never_wrong p page r stamp has wants on is = absurd (by m.0 (sym m.1 ∙ is))
  where
    m : Made p page r stamp
    m = made p page r stamp on

    by : (o : Option Image) → with_version p (if_suiting o) ≡ Err (WrongPrev has wants) → ⊥
    by None e = cc e
    by (Some i) e = cc e

-- the state once a group of one record is logged
pub with_one : (w : Work) (g : Group) (r : Record) (page : ℕ) (new : Pool) → g.records ≡ r ∷ [] → page_of r ≡ Some page → new ≡ redone_in w.pool page r g.stamp.0
    → record w { clock = told (ticked w.clock); log = appended w.log g; pool = new; leases = changed w.leases page g.stamp } ≡ with_group w g
with_one w g r page new one names is =
    ap (λ (p : Pool). record logged { pool = p; leases = changed w.leases page g.stamp }) is
    ∙ sym (ap (λ (rs : List Record). with_changes logged rs g.stamp.0) one ∙ ap (λ (o : Option ℕ). with_change logged r g.stamp.0 o) names)
  where
    logged : Work
    logged = record w { clock = told (ticked w.clock); log = appended w.log g }

-- and one after it that changes no page
pub with_two : (w : Work) (g after : Group) (r : Record) (page : ℕ) (new : Pool) → g.records ≡ r ∷ [] → page_of r ≡ Some page → new ≡ redone_in w.pool page r g.stamp.0
    → AllByRecursion (λ (x : Record). page_of x ≡ None) after.records
    → record w { clock = told (ticked (told (ticked w.clock))); log = appended (appended w.log g) after; pool = new; leases = changed w.leases page g.stamp } ≡ with_group (with_group w g) after
with_two w g after r page new one names is plain =
    ap (λ (v : Work). record v { clock = told (ticked v.clock); log = appended v.log after }) (with_one w g r page new one names is)
    ∙ sym (plain_changes (record (with_group w g) { clock = told (ticked (with_group w g).clock); log = appended (with_group w g).log after }) after.records after.stamp.0 plain)

-- that is the next group once the first one is logged
pub after_is : (w : Work) (g : Group) (r : Record) (page : ℕ) (records : List Record) → g.records ≡ r ∷ [] → page_of r ≡ Some page → group_after w records ≡ next_group (with_group w g) records
after_is w g r page records one names =
    let logged = with_one w g r page (redone_in w.pool page r g.stamp.0) one names refl in
    let seq : last_seq w.log + 2 ≡ last_seq (appended w.log g) + 1 = omega (arith, length-append w.log.groups (unacknowledged g ∷ [])) in
    let stamp : w.clock.scalar + 2 ≡ w.clock.scalar + 1 + 1 = omega arith in
    (λ i. record { writer = w.log.writer; seq = seq i; stamp = record { 0 = stamp i }; learnt = []; records = records }) ∙ ap (λ (v : Work). next_group v records) logged
