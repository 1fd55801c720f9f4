-- Own tags are of transactions that were begun, and are open.
use Rattle.std.proofs.Common.{◌≡◌, ℕ, Bool, true, false, List, [], ◌∷◌, Option, Some, None, cond, arith}
use Rattle.std.specs.Prelude.{nat_eq, not, length}
use Rattle.std.specs.List.{AllByRecursion}
use Rattle.std.specs.FinMap as fin
use Rattle.tm_data.specs.declared.image.Image.{Image}
use Rattle.tm_data.specs.declared.log.Group.{Group}
use Rattle.tm_data.specs.declared.transaction.Page.{Page}
use Rattle.tm_data.specs.declared.transaction.Txn.{Txn}
use Rattle.tm_data.specs.declared.transaction.Writer.{Writer}
use Rattle.tm_base.specs.declared.command.Command.{Command}
use Rattle.tm_base.specs.declared.message.Message.{Message}
use Rattle.tm_base.specs.declared.message.Node.{Node}
use Rattle.tm_base.specs.declared.message.Node.TheVariants.{LogStore}
use Rattle.tm_base.specs.declared.message.Note.{Note}
use Rattle.tm_base.specs.declared.message.Note.TheVariants as note
use Rattle.tm_base.specs.declared.message.Tag.{Tag}
use Rattle.page_model.specs.Splits.{Halves, halves}
use Rattle.lock_table.specs.Tags.{PageTag, Tags, is_on, moved, moved_tag, page_tag, same_txn}
use Rattle.master_model.specs.State.{Work, Life, State, durable, joined}
use Rattle.master_model.specs.Fates.{is_ended, is_open, is_own}
use Rattle.master_model.specs.Reads.{txn_numbered}
use Rattle.master_model.specs.Writes.{last_page, parted, parted_by, tags_after}
use Rattle.master_model.specs.Acks.{ends_between}
use Rattle.master_model.specs.Leases.{binding, with_images}
use Rattle.master_model.specs.Step as does
use Rattle.master_model.specs.Step.{step, start, on_command}
use Rattle.master_model.specs.Facts.{Brings, Facts, GrantIsBegun, GrantsBegun, IsBegun, LifeFacts, OwnTags, TagsAreBegun, WorkFacts}
use Rattle.master_model.proofs.GrowMoves.{GrowsFor, grown_moves}
use Rattle.master_model.proofs.Moves.{Cause, Granted, with_ack_of}
use Rattle.master_model.proofs.OpenLemmas.{unended_open}
use Rattle.master_model.proofs.SessionLemmas as session_lemmas
use Rattle.master_model.proofs.SessionLemmas.{session_facts}
use Rattle.master_model.proofs.StepMoves.{Allows, AllowsAck, AllowsFresh, backs_any, command_moves, note_moves_for}
use Rattle.master_model.proofs.TagLemmas.{unended_own, without_passes}
use Rattle.master_model.proofs.TagSetLemmas.{AllTags, all_inserted, all_moved, all_none, all_with, left_passes}

abbrev AreBegun : Work → List Tag → Type 0
AreBegun w tags = AllByRecursion (λ (t : Tag). IsBegun w t.txn) tags

-- What a grant brings.
abbrev Begun : Work → Cause → Type 0
Begun w (Granted page epoch stamp tags vector) = AreBegun w tags
Begun w other = Unit {0}

abbrev Known : List Group → Work → Type 0
Known gs w = session_lemmas.Known gs w × TagsAreBegun w

binding_begun : (w : Work) (ts : List Tag) → AreBegun w ts → AreBegun w (binding w ts)
binding_begun w [] h = tt
binding_begun w (t ∷ ts) h = by (is_ended w t.txn) (binding_begun w ts h.1)
  where
    by : (b : Bool) → AreBegun w (binding w ts) → AreBegun w (cond (not b) (t ∷ binding w ts) (binding w ts))
    by true rest = rest
    by false rest = (h.0, rest)

image_begun : (w : Work) (o : Option (List Image)) → TagsAreBegun w → TagsAreBegun (with_images w o)
image_begun w None h = h
image_begun w (Some images) h = h

-- ---- tags move

module _ (P : Txn → Type 0) where
  moves_on : (page : ℕ) (at : List ℕ) (to : ℕ) (t : PageTag) → P t.txn → P (moved_tag page at to t).txn
  moves_on page at to t h = by _
    where
      by : (b : Bool) → P (cond b (record t { page = to }) t).txn
      by true = h
      by false = h

  all_on : (tags : Tags) (page : ℕ) (at : List ℕ) (to : ℕ) → AllTags (λ (t : PageTag). P t.txn) tags → AllTags (λ (t : PageTag). P t.txn) (moved tags page at to)
  all_on tags page at to h = all_moved (λ (t : PageTag). P t.txn) (λ (t : PageTag). P t.txn) tags page at to (moves_on page at to) h

  all_parted : (tags : Tags) (leaf : Page) (separator : List ℕ) (fresh : List Page) (is_root : Bool) → AllTags (λ (t : PageTag). P t.txn) tags → AllTags (λ (t : PageTag). P t.txn) (parted tags leaf separator fresh is_root)
  all_parted tags leaf separator [] is_root h = h
  all_parted tags leaf separator (p ∷ ps) false h = all_on tags leaf.0 separator (last_page p ps).0 h
  all_parted tags leaf separator (p ∷ ps) true h = all_on (moved tags leaf.0 separator (last_page p ps).0) leaf.0 [] p.0 (all_on tags leaf.0 separator (last_page p ps).0 h)

  all_after : (tags : Tags) (leaf : Image) (path fresh : List Page) → AllTags (λ (t : PageTag). P t.txn) tags → AllTags (λ (t : PageTag). P t.txn) (tags_after tags leaf path fresh)
  all_after tags leaf path fresh h = by (halves leaf.body)
    where
      by : (o : Option Halves) → AllTags (λ (t : PageTag). P t.txn) (parted_by tags leaf.page fresh (nat_eq (length path) 1) o)
      by None = h
      by (Some half) = all_parted tags leaf.page half.separator fresh (nat_eq (length path) 1) h

-- ---- all of it

begun_moves : GrowsFor Begun Known
begun_moves = record {
  hears_stamp = λ w stamp is gs h. h;
  hears_vector = λ w vector is gs h. h;
  acks = λ w store seq is came gs h. (session_facts.acks w store seq is tt gs h.0, h.1);
  acks_more = λ w store seq is came gs h. (
    session_facts.acks_more w store seq is tt gs h.0,
    λ t at. h.1 t (without_passes w.tags (ends_between (with_ack_of w store seq).log (durable w) (durable (with_ack_of w store seq))) t at).0,
  );
  let_go = λ w may gs h. (session_facts.let_go w (λ page. tt) gs h.0, h.1);
  group = λ w records none room gs h. (session_facts.group w records none room gs h.0, h.1);
  change = λ w r stamp page is gs h. h;
  grant = λ w page epoch stamp tags vector new brought fits granted gs h. (
    h.0,
    all_with (λ (t : PageTag). IsBegun w t.txn) w.tags page.0 (binding w tags) h.1 (binding_begun w tags granted),
  );
  image = λ w image held same gs h. (session_facts.image w image held same gs h.0, image_begun w _ h.1);
  fresh_page = λ w page is came gs h. h;
  fresh_none = λ w gs h. h;
  recall = λ w page epoch came gs h. h;
  give_back = λ w page is came gs h. (h.0, λ t at. h.1 t (left_passes w.tags (λ x. not (is_on page x)) t at).0);
  release = λ w page epoch is gs h. h;
  path = λ w path gs h. h;
  end = λ w t is gs h. (h.0, λ u at. h.1 u (left_passes w.tags (λ x. not (same_txn x.txn t)) u at).0);
  mark = λ w t is known gs h. h;
  name = λ w t gs h. h;
  begin = λ w session is gs h. (session_facts.begin w session is gs h.0, λ t at own. let two = h.1 t at own in (two.0, omega (arith, two.1)));
  tag = λ w session page key own is active held gs h. (
    h.0,
    all_inserted (λ (t : PageTag). IsBegun w t.txn) w.tags (page_tag page key (txn_numbered w own.number)) h.1 (λ mine. let f = h.0.1.each session own is in (f.from_one, f.most)),
  );
  put = λ w p leaf path fresh count is some gs h. (session_facts.put w p leaf path fresh count is some gs h.0, all_after (IsBegun w) w.tags leaf path fresh h.1);
  session = λ w session own left is going gs h. (session_facts.session w session own left is going gs h.0, h.1);
  ends = λ w session own committed is going room gs h. (session_facts.ends w session own committed is going room gs h.0, h.1);
  free = λ w session own committed seq is at durable gs h. (session_facts.free w session own committed seq is at durable gs h.0, h.1);
}

-- ---- a master

acks_are : (w : Work) (writer : Writer) (seq : ℕ) (from : Node) → AllowsAck Begun w writer seq from
acks_are w writer seq (LogStore store) = λ is. tt
acks_are w writer seq other = tt

fresh_are : (w : Work) (writer : Writer) (page : Option Page) → AllowsFresh Begun w writer page
fresh_are w writer None = tt
fresh_are w writer (Some page) = λ is. tt

grants_are : (w : Work) (from : Node) (n : Note) → GrantsBegun w n → Allows Begun w from n
grants_are w from (note.Ack writer seq) h = acks_are w writer seq from
grants_are w from (note.Grant writer page epoch of tags vector) h = λ is. h
grants_are w from (note.FreshIs writer nth page) h = fresh_are w writer page
grants_are w from other h = tt

joined_begun : (s : State) (stamp : ℕ) (n : Note) → OwnTags s.life → OwnTags (does.joins s stamp n).life
joined_begun s stamp (note.Registered boot writer) h = by (nat_eq boot s.boot)
  where
    by : (b : Bool) → OwnTags (does.joins_if s writer stamp b).life
    by true = all_none (λ (t : PageTag). IsBegun (joined s.number s.stores writer stamp) t.txn)
    by false = h
joined_begun s stamp other h = h

pub begun_at_start : (number boot stores : ℕ) → OwnTags (start number boot stores).0.life
begun_at_start number boot stores = tt

pub message_begun : (begun : ℕ) (gs : List Group) (s : State) (m : Message) → Facts begun gs s → OwnTags s.life → Brings m → GrantIsBegun s.life m.note → OwnTags (step s m).0.life
message_begun begun gs s m f h brings grant = by s.life f h grant
  where
    in_life : (l : Life) (b : Bool) → WorkFacts begun gs l.work → TagsAreBegun l.work → GrantsBegun l.work m.note → OwnTags (does.step_in s l m b).0.life
    in_life l true f k grant = h
    in_life l false f k grant =
        let heard : Life = does.heard l m.stamp.0 in
        (note_moves_for (grown_moves begun_moves) heard m.from m.stamp.0 m.note brings.0 (grants_are heard.work m.from m.note grant) (backs_any Begun (λ w page. tt) m.note) gs ((f.of_rest, f.of_sessions), k)).1.1

    by : (o : Option Life) → LifeFacts begun gs o → OwnTags o → GrantIsBegun o m.note → OwnTags (does.step_by s m o).0.life
    by None f k grant = joined_begun s m.stamp.0 m.note h
    by (Some l) f k grant = in_life l l.fenced f k grant

pub command_begun : (begun : ℕ) (gs : List Group) (s : State) (session : ℕ) (asked : Command) → Facts begun gs s → OwnTags s.life → OwnTags (on_command s session asked).0.life
command_begun begun gs s session asked f h = by s.life f h
  where
    in_life : (l : Life) (b : Bool) → WorkFacts begun gs l.work → TagsAreBegun l.work → OwnTags (does.command_in s l session asked b).0.life
    in_life l true f k = h
    in_life l false f k = (command_moves (grown_moves begun_moves) l session asked gs ((f.of_rest, f.of_sessions), k)).1.1

    by : (o : Option Life) → LifeFacts begun gs o → OwnTags o → OwnTags (does.command_by s session asked o).0.life
    by None f k = h
    by (Some l) f k = in_life l l.fenced f k

pub own_tag_open : (begun : ℕ) (gs : List Group) (w : Work) (t : PageTag) → WorkFacts begun gs w → TagsAreBegun w → fin.contains_key w.tags t ≡ true → is_own w t.txn ≡ true → is_open w t.txn.number ≡ true
own_tag_open begun gs w t f h at own = let two = h t at own in unended_open w t.txn.number (unended_own w t.txn (f.of_tags.binds t at) own) two.0 two.1
