-- When a get and a put are done.
use Rattle.std.proofs.Common.{◌≡◌, ◌≤◌, ◌<◌, ◌+◌, ◌-◌, ◌^◌, ◌⊎◌, inl, inr, ℕ, Bool, true, false, List, [], ◌∷◌, Option, Some, None, Result, Ok, Err, refl, ap, sym, subst, ◌∙◌, cond, not, arith}
use Rattle.std.specs.Prelude.{nat_eq, nat_lt, nat_le, ◌&&◌, length, reverse, take}
use Rattle.std.specs.FinMap as fin
use Rattle.std.specs.FinSet as sets
use Rattle.std.proofs.lemmas.Bool.Decides.{nat_tests}
use Rattle.std.proofs.lemmas.List.{length-reverse}
use Rattle.tm_data.specs.declared.image.Image.{Image}
use Rattle.tm_data.specs.declared.log.Record.{Record}
use Rattle.tm_data.specs.declared.row.Row.{Row}
use Rattle.tm_data.specs.declared.transaction.Page.{Page}
use Rattle.tm_data.specs.declared.transaction.Txn.{Txn}
use Rattle.tm_base.specs.declared.command.Command.TheVariants as command
use Rattle.tm_base.specs.declared.message.Tag.{Tag}
use Rattle.tm_base.specs.declared.reply.Reply.{Reply}
use Rattle.tm_base.specs.declared.reply.Reply.TheVariants as reply
use Rattle.page_model.specs.Pool.{image_of, used, used_if, without}
use Rattle.page_model.specs.Splits.{Halves, Refusal, Spot, halves, is_full, images_on, with_image, full_pages, page_above, plan_of, plan_with, groups_below, groups_of_root, half_for, TooHigh, Wanting, spot_of, splitting, splitting_root, if_enough}
use Rattle.page_model.specs.Tree.{Images, level_of, table_of}
use Rattle.lease_desk.specs.Desk.{is_held, lease_of}
use Rattle.log_writer.specs.Log.{last_seq}
use Rattle.master_model.specs.declared.session.Own.{Own}
use Rattle.master_model.specs.declared.session.Progress.{Progress}
use Rattle.lock_table.specs.Tags.{Tags, foreign_on, is_full as tags_full, others_on, page_tag, same_txn, tags_on, takes}
use Rattle.master_model.specs.State.{Work, Life, State, Answer, writer_of}
use Rattle.master_model.specs.Fates as fates
use Rattle.master_model.specs.Fates.{is_ended, is_own, standing_by}
use Rattle.master_model.specs.Paths as paths
use Rattle.master_model.specs.Paths.{here, image_if, last_of, row_at, used_all, uses}
use Rattle.master_model.specs.Logging.{has_numbers, has_stamps, if_room, logs, with_room}
use Rattle.master_model.specs.Reads as reads
use Rattle.master_model.specs.Reads.{txn_numbered}
use Rattle.master_model.specs.Writes as writes
use Rattle.master_model.specs.Writes.{Put}
use Rattle.master_model.specs.Step as does
use Rattle.master_model.specs.Step.{on_command}
use Rattle.master_model.specs.Replies.{IsShort, MayGet, MayGetIn, MayPut, MayPutIn, RowIsFree, SplitsFit, TagsAreFree, Works}

-- ---- a session that works on a key

abbrev Answers : (Reply → Type 0) → Answer → Type 0
Answers P a = P a.reply

table_is : (table : ℕ) → 1 ≤ table → table ≤ 1024 → reads.is_table table ≡ true
table_is table from most = by (nat_le 1 table) (nat_le table 1024) (grind (arith, nat_tests)) (grind (arith, nat_tests))
  where
    by : (a b : Bool) → a ≡ true → b ≡ true → a && b ≡ true
    by true true h k = refl
    by true false h k = absurd (cc k)
    by false b h k = absurd (cc h)

key_is : (key : List ℕ) (most : ℕ) → length key ≤ most → nat_le (length key) most ≡ true
key_is key most h = grind (arith, nat_tests)

module _ (P : Reply → Type 0) (w : Work) (session table : ℕ) (key : List ℕ) (h : Works w session table key) where
  on_key : (goes_on : Work → List Page → Image → Answer) → Answers P (goes_on (uses w h.path) h.path h.leaf) → Answers P (paths.on_path w table key goes_on)
  on_key goes_on k = subst (λ (r : Result (List Page) Page). Answers P (paths.on_found w r goes_on)) (sym h.on_path) (subst (λ (o : Option Image). Answers P (paths.at_leaf w o (goes_on (uses w h.path) h.path))) (sym h.at_leaf) k)

  named : (a : Answer) → Answers P a → Answers P (reads.if_named w table key a)
  named a k = subst (λ (b : Bool). Answers P (reads.if_table w table b (reads.if_key w key (nat_le (length key) 64) a))) (sym (table_is table h.named.from_one h.named.most))
      (subst (λ (b : Bool). Answers P (reads.if_key w key b a)) (sym (key_is key 64 h.named.short)) k)

  active : (a : Answer) → Answers P a → Answers P (reads.if_active w (txn_numbered w h.own.number) h.own.progress a)
  active a k = subst (λ (p : Progress). Answers P (reads.if_active w (txn_numbered w h.own.number) p a)) (sym h.active) k

  in_session : (goes_on : Own → Answer) → Answers P (goes_on h.own) → Answers P (reads.in_session w session goes_on)
  in_session goes_on k = subst (λ (o : Option Own). Answers P (reads.on_session w o goes_on)) (sym h.in_session) k

-- ---- what binds nobody

free_of : (w : Work) (t : Txn) (locked : Reply) → is_ended w t ≡ true → fates.blocked w t locked ≡ None
free_of w t locked is = ap (λ (b : Bool). fates.blocked_by w t locked (standing_by (is_own w t) b (sets.contains w.told_open t))) is ∙ free (is_own w t)
  where
    free : (own : Bool) → fates.blocked_by w t locked (standing_by own true (sets.contains w.told_open t)) ≡ None
    free true = refl
    free false = refl

tags_free : (w : Work) (words : Tag → Reply) (ts : List Tag) → TagsAreFree w ts → fates.blocked_by_tags w words ts ≡ None
tags_free w words [] h = refl
tags_free w words (t ∷ ts) h = ap (λ (o : Option Answer). fates.or_later o (fates.blocked_by_tags w words ts)) (free_of w t.txn (words t) h.0) ∙ tags_free w words ts h.1

-- ---- get

abbrev IsValue : Reply → Type 0
IsValue said = (value : Option (List ℕ)) × (said ≡ reply.Value value)

has_room : (tags : Tags) (page : ℕ) (key : List ℕ) (t : Txn) → length (tags_on tags page) < 4096 → takes tags page key t ≡ true
has_room tags page key t h = by (fin.contains_key tags (page_tag page key t)) (tags_full tags page) (grind (arith, nat_tests))
  where
    by : (a b : Bool) → b ≡ false → cond a true (not b) ≡ true
    by true b k = refl
    by false false k = refl
    by false true k = absurd (cc k)

reads_value : (w : Work) (page : ℕ) (key : List ℕ) (t : Txn) (value : Option (List ℕ)) → takes w.tags page key t ≡ true → Answers IsValue (reads.reads w page key t value)
reads_value w page key t value room = subst (λ (b : Bool). Answers IsValue (reads.reads_if w page key t value b)) (sym room) (value, refl)

row_value : (w : Work) (leaf : Image) (key : List ℕ) (t : Txn) (o : Option Row) → RowIsFree w t o → takes w.tags leaf.page.0 key t ≡ true → Answers IsValue (reads.get_row w leaf key t o)
row_value w leaf key t None free room = reads_value w leaf.page.0 key t None room
row_value w leaf key t (Some row) free room = by (same_txn row.txn t) refl free
  where
    by : (b : Bool) → same_txn row.txn t ≡ b → (same_txn row.txn t ≡ true) ⊎ (is_ended w row.txn ≡ true) → Answers IsValue (reads.get_of w leaf key t row b)
    by true is h = (row.now, refl)
    by false is (inl same) = absurd (cc (same, is))
    by false is (inr ended) =
        subst (λ (o : Option Answer). Answers IsValue (fates.unless o (reads.reads w leaf.page.0 key t row.now))) (sym (free_of w row.txn (reply.LockedRow row.txn key) ended)) (reads_value w leaf.page.0 key t row.now room)

get_done : (w : Work) (session table : ℕ) (key : List ℕ) → MayGet w session table key → Answers IsValue (reads.get w session table key)
get_done w session table key h =
    let k : Works w session table key = h.works in
    let t : Txn = txn_numbered w k.own.number in
    in_session IsValue w session table key k _ (active IsValue w session table key k _ (named IsValue w session table key k _ (on_key IsValue w session table key k (reads.get_at key t)
    (row_value (uses w k.path) k.leaf key t (row_at k.leaf key) k.free (has_room w.tags k.leaf.page.0 key t h.room)))))

pub get_is_done : (s : State) (session table : ℕ) (key : List ℕ) → MayGetIn s.life session table key → (value : Option (List ℕ)) × ((on_command s session (command.Get table key)).1 ≡ reply.Value value)
get_is_done s session table key = by s.life
  where
    by : (o : Option Life) → MayGetIn o session table key → (value : Option (List ℕ)) × ((does.command_by s session (command.Get table key) o).1 ≡ reply.Value value)
    by None h = absurd h
    by (Some l) h = subst (λ (b : Bool). (value : Option (List ℕ)) × ((does.command_in s l session (command.Get table key) b).1 ≡ reply.Value value)) (sym h.0) (get_done l.work session table key h.1)

-- ---- a path that is used changes no image

image_page : (page : ℕ) (images : List Image) (i : Image) → image_of page images ≡ Some i → i.page.0 ≡ page
image_page page [] i is = absurd (cc is)
image_page page (x ∷ images) i is = by (nat_eq page x.page.0) refl is (image_page page images i)
  where
    by : (b : Bool) → nat_eq page x.page.0 ≡ b → cond b (Some x) (image_of page images) ≡ Some i → (image_of page images ≡ Some i → i.page.0 ≡ page) → i.page.0 ≡ page
    by true same h rest = let one : x ≡ i = cc h in let two : x.page.0 ≡ page = grind (arith, nat_tests) in ap (λ (y : Image). y.page.0) (sym one) ∙ two
    by false other h rest = rest h

image_without : (page gone : ℕ) (images : List Image) → nat_eq page gone ≡ false → image_of page (without gone images) ≡ image_of page images
image_without page gone [] apart = refl
image_without page gone (x ∷ images) apart = by (nat_eq gone x.page.0) (nat_eq page x.page.0) refl refl (image_without page gone images apart)
  where
    by : (a b : Bool) → nat_eq gone x.page.0 ≡ a → nat_eq page x.page.0 ≡ b → image_of page (without gone images) ≡ image_of page images
        → image_of page (cond a images (x ∷ without gone images)) ≡ cond b (Some x) (image_of page images)
    by true true is_a is_b rest = let one : gone ≡ page = grind (arith, nat_tests) in absurd (apart_not page gone one apart)
      where
        apart_not : (p q : ℕ) → q ≡ p → nat_eq p q ≡ false → ⊥
        apart_not p q same k = let yes : nat_eq p q ≡ true = grind (arith, nat_tests) in cc (yes, k)
    by true false is_a is_b rest = refl
    by false b is_a is_b rest = ap (λ (c : Bool). cond c (Some x) (image_of page (without gone images))) is_b ∙ ap (λ (o : Option Image). cond b (Some x) o) rest

image_used : (page q : ℕ) (images : List Image) → image_of q (used page images) ≡ image_of q images
image_used page q images = by (image_of page images) refl
  where
    there : (i : Image) → image_of page images ≡ Some i → (b : Bool) → nat_eq q i.page.0 ≡ b → cond b (Some i) (image_of q (without i.page.0 images)) ≡ image_of q images
    there i is true same =
        let one : page ≡ q = (λ (at : i.page.0 ≡ page). sym at) (image_page page images i is) ∙ sym (equal q i.page.0 same) in
        sym is ∙ ap (λ (n : ℕ). image_of n images) one
      where
        equal : (a b : ℕ) → nat_eq a b ≡ true → a ≡ b
        equal a b k = grind (arith, nat_tests)
    there i is false apart = image_without q i.page.0 images apart

    by : (o : Option Image) → image_of page images ≡ o → image_of q (used_if o images) ≡ image_of q images
    by None is = refl
    by (Some i) is = there i is (nat_eq q i.page.0) refl

image_along : (path : List Page) (q : ℕ) (images : List Image) → image_of q (used_all path images) ≡ image_of q images
image_along [] q images = refl
image_along (p ∷ ps) q images = image_along ps q (used p.0 images) ∙ image_used p.0 q images

pub here_along : (w : Work) (path : List Page) (q : ℕ) → here (uses w path) q ≡ here w q
here_along w path q = by (is_held (lease_of w.leases q).state)
  where
    by : (b : Bool) → image_if (uses w path) q b ≡ image_if w q b
    by true = image_along path q w.pool.images
    by false = refl

pub images_same : (f g : Images) (path : List Page) → ((q : ℕ) → f q ≡ g q) → images_on f path ≡ images_on g path
images_same f g [] same = refl
images_same f g (p ∷ ps) same = ap (λ (o : Option Image). with_image o (images_on f ps)) (same p.0) ∙ ap (λ (is : List Image). with_image (g p.0) is) (images_same f g ps same)

missing_same : (f g : Images) (ps : List Page) → ((q : ℕ) → f q ≡ g q) → writes.first_missing f ps ≡ writes.first_missing g ps
missing_same f g [] same = refl
missing_same f g (p ∷ ps) same =
    ap (λ (o : Option Image). cond (writes.is_blank o) (writes.first_missing f ps) (Some p)) (same p.0) ∙ ap (λ (o : Option Page). cond (writes.is_blank (g p.0)) o (Some p)) (missing_same f g ps same)

-- ---- the plan

below_count : (row : Row) (spot : Spot) (images : List Image) (fresh : List Page) (stamp : ℕ) → length (groups_below row spot images fresh stamp) ≤ length images + 1
below_count row spot [] fresh stamp = omega arith
below_count row spot (image ∷ images) [] stamp = omega arith
below_count row spot (image ∷ images) (page ∷ fresh) stamp = by (halves image.body) (λ half. below_count row half images fresh (stamp + 1))
  where
    by : (o : Option Halves) → ((half : Spot) → length (groups_below row half images fresh (stamp + 1)) ≤ length images + 1)
        → length (splitting row spot image o page stamp (λ half. groups_below row half images fresh (stamp + 1))) ≤ length (image ∷ images) + 1
    by None rest = omega arith
    by (Some h) rest = omega (arith, rest (record { page = half_for row.key h image.page page; stamp = stamp; table = table_of image.body }))

root_count : (row : Row) (image : Image) (images : List Image) (fresh : List Page) (stamp : ℕ) → length (groups_of_root row image images fresh stamp) ≤ length images + 2
root_count row image images [] stamp = omega arith
root_count row image images (left ∷ []) stamp = omega arith
root_count row image images (left ∷ right ∷ fresh) stamp = by (halves image.body)
  where
    by : (o : Option Halves) → length (splitting_root row image o left right stamp (λ half. groups_below row half images fresh (stamp + 1))) ≤ length images + 2
    by None = omega arith
    by (Some h) = omega (arith, below_count row (record { page = half_for row.key h left right; stamp = stamp; table = table_of image.body }) images fresh (stamp + 1))

-- There is a plan, with a group for each page that splits and one for the row.
abbrev IsPlan : ℕ → Result (List (List Record)) Refusal → Type 0
IsPlan most plan = (groups : List (List Record)) × (plan ≡ Ok groups) × (length groups ≤ most)

enough : (needed most : ℕ) (fresh : List Page) (groups : List (List Record)) → needed ≤ length fresh → length groups ≤ most → IsPlan most (if_enough needed fresh groups)
enough needed most fresh groups h k = subst (λ (b : Bool). IsPlan most (cond b (Err (Wanting (needed - length fresh))) (Ok groups))) (sym not_less) (groups, refl, k)
  where
    not_less : nat_lt (length fresh) needed ≡ false
    not_less = grind (arith, nat_tests)

plan_is : (row : Row) (fresh : List Page) (first : ℕ) (above : Option Image) (splits : List Image) → SplitsFit fresh above splits → IsPlan (length splits + 1) (plan_with row fresh first above splits)
plan_is row fresh first (Some above) splits h = enough (length splits) (length splits + 1) fresh (groups_below row (spot_of above) splits fresh first) h (below_count row (spot_of above) splits fresh first)
plan_is row fresh first None [] h = absurd h
plan_is row fresh first None (root ∷ below) h = subst (λ (b : Bool). IsPlan (length (root ∷ below) + 1) (cond b (Err TooHigh) (if_enough (length below + 2) fresh (groups_of_root row root below fresh first)))) (sym (low (level_of root.body) h.0))
    (enough (length below + 2) (length (root ∷ below) + 1) fresh (groups_of_root row root below fresh first) h.1 (omega (arith, root_count row root below fresh first)))
  where
    low : (level : ℕ) → level < 5 → nat_le 5 level ≡ false
    low level k = grind (arith, nat_tests)

-- ---- put

abbrev IsDone : Reply → Type 0
IsDone said = said ≡ reply.Done

room_done : (w : Work) (count most : ℕ) (a : Answer) → count ≤ most → last_seq w.log + most < 2 ^ 32 - 1 → w.clock.scalar + most ≤ 2 ^ 63 - 1 → Answers IsDone a → Answers IsDone (with_room w count a)
room_done w count most a less numbers stamps k =
    subst (λ (b : Bool). Answers IsDone (if_room w b (has_stamps w count) a)) (sym numbers_are) (subst (λ (b : Bool). Answers IsDone (if_room w true b a)) (sym stamps_are) k)
  where
    numbers_fit : last_seq w.log + count < 2 ^ 32 - 1
    numbers_fit = omega (arith, less, numbers)

    stamps_fit : w.clock.scalar + count ≤ 2 ^ 63 - 1
    stamps_fit = omega (arith, less, stamps)

    numbers_are : has_numbers w count ≡ true
    numbers_are = grind (arith, nat_tests)

    stamps_are : has_stamps w count ≡ true
    stamps_are = grind (arith, nat_tests)

row_unblocked : (w : Work) (key : List ℕ) (t : Txn) (o : Option Row) → RowIsFree w t o → writes.blocked_by_row w key t o ≡ None
row_unblocked w key t None free = refl
row_unblocked w key t (Some row) free = by (same_txn row.txn t) refl free
  where
    by : (b : Bool) → same_txn row.txn t ≡ b → (same_txn row.txn t ≡ true) ⊎ (is_ended w row.txn ≡ true) → writes.blocked_by_other w key row b ≡ None
    by true is h = refl
    by false is (inl same) = absurd (cc (same, is))
    by false is (inr ended) = free_of w row.txn (reply.LockedRow row.txn key) ended

split_unblocked : (w : Work) (page : ℕ) (b : Bool) → (b ≡ true → TagsAreFree w (foreign_on w.tags page (writer_of w))) → writes.blocked_if_full w page b ≡ None
split_unblocked w page false h = refl
split_unblocked w page true h = tags_free w (λ t. reply.LockedSplit t.txn t.key) (foreign_on w.tags page (writer_of w)) (h refl)

not_blocked : (P : Answer → Type 0) (o : Option Answer) (a : Answer) → o ≡ None → P a → P (fates.unless o a)
not_blocked P o a none k = subst (λ (x : Option Answer). P (fates.unless x a)) (sym none) k

-- By the images of the path, which are the same before and after its use.
planned_done : (w : Work) (p : Put) (path : List Page) (leaf : Image) (upward : List Image) → images_on (here (uses w path)) path ≡ images_on (here w) path → reverse (images_on (here w) path) ≡ upward
    → SplitsFit w.stock (page_above p.row upward) (reverse (full_pages p.row upward))
    → writes.first_missing (here w) (take (writes.fresh_for (full_pages p.row upward) (page_above p.row upward)) w.stock) ≡ None
    → last_seq w.log + length (full_pages p.row upward) + 1 < 2 ^ 32 - 1 → w.clock.scalar + length (full_pages p.row upward) + 1 ≤ 2 ^ 63 - 1
    → Answers IsDone (writes.put_by p (uses w path) path leaf (plan_of (here (uses w path)) path p.row w.stock (w.clock.scalar + 1)))
planned_done w p path leaf upward same is splits blank numbers stamps =
    let u : Work = uses w path in
    let here_is : reverse (images_on (here u) path) ≡ upward = ap (λ (x : List Image). reverse x) same ∙ is in
    subst (λ (x : List Image). Answers IsDone (writes.put_by p u path leaf (plan_with p.row w.stock (w.clock.scalar + 1) (page_above p.row x) (reverse (full_pages p.row x))))) (sym here_is)
    (with_plan u here_is (plan_is p.row w.stock (w.clock.scalar + 1) (page_above p.row upward) (reverse (full_pages p.row upward)) splits))
  where
    fresh : List Page
    fresh = take (writes.fresh_for (full_pages p.row upward) (page_above p.row upward)) w.stock

    none : writes.first_missing (here (uses w path)) fresh ≡ None
    none = missing_same (here (uses w path)) (here w) fresh (here_along w path) ∙ blank

    count : length (reverse (full_pages p.row upward)) ≡ length (full_pages p.row upward)
    count = length-reverse (full_pages p.row upward)

    with_plan : (u : Work) → reverse (images_on (here (uses w path)) path) ≡ upward → IsPlan (length (reverse (full_pages p.row upward)) + 1) (plan_with p.row w.stock (w.clock.scalar + 1) (page_above p.row upward) (reverse (full_pages p.row upward)))
        → Answers IsDone (writes.put_by p (uses w path) path leaf (plan_with p.row w.stock (w.clock.scalar + 1) (page_above p.row upward) (reverse (full_pages p.row upward))))
    with_plan u here_is plan =
        subst (λ (r : Result (List (List Record)) Refusal). Answers IsDone (writes.put_by p (uses w path) path leaf r)) (sym plan.1)
        (subst (λ (x : List Image). Answers IsDone (writes.put_planned p (uses w path) path leaf (take (writes.fresh_for (full_pages p.row x) (page_above p.row x)) w.stock) plan.0)) (sym here_is)
        (subst (λ (o : Option Page). Answers IsDone (writes.if_here (uses w path) o (with_room (uses w path) (length plan.0) (writes.put_logged p leaf path fresh (logs (uses w path) plan.0))))) (sym none)
        (room_done (uses w path) (length plan.0) (length (reverse (full_pages p.row upward)) + 1) (writes.put_logged p leaf path fresh (logs (uses w path) plan.0)) plan.2 (omega (arith, numbers, count)) (omega (arith, stamps, count)) refl)))

value_done : (w : Work) (value : Option (List ℕ)) (a : Answer) → IsShort value → Answers IsDone a → Answers IsDone (writes.if_value w value a)
value_done w None a h k = k
value_done w (Some value) a h k = subst (λ (b : Bool). Answers IsDone (writes.if_short w value b a)) (sym (key_is value 512 h)) k

put_done : (w : Work) (session table : ℕ) (key : List ℕ) (value : Option (List ℕ)) → MayPut w session table key value → Answers IsDone (writes.put w session table key value)
put_done w session table key value h =
    let k : Works w session table key = h.works in
    let t : Txn = txn_numbered w k.own.number in
    let u : Work = uses w k.path in
    let row : Row = writes.row_put key t value (row_at k.leaf key) in
    let p : Put = record { session = session; own = k.own; table = table; row = row } in
    in_session IsDone w session table key k _ (active IsDone w session table key k _ (named IsDone w session table key k _ (value_done w value _ h.short (on_key IsDone w session table key k (writes.put_at session k.own table key value)
    (not_blocked (Answers IsDone) (writes.blocked_by_row u key t (row_at k.leaf key)) _ (row_unblocked u key t (row_at k.leaf key) k.free)
    (not_blocked (Answers IsDone) (writes.blocked_by_readers u k.leaf.page.0 key t) _ (tags_free u (λ x. reply.LockedRow x.txn key) (others_on u.tags k.leaf.page.0 key t) h.fits.readers)
    (not_blocked (Answers IsDone) (writes.blocked_if_full u k.leaf.page.0 (is_full row k.leaf.body)) _ (split_unblocked u k.leaf.page.0 (is_full row k.leaf.body) h.fits.foreign)
    (planned_done w p k.path k.leaf (reverse (images_on (here w) k.path)) (images_same (here u) (here w) k.path (here_along w k.path)) refl h.fits.splits h.fits.blank h.fits.numbers h.fits.stamps))))))))

pub put_is_done : (s : State) (session table : ℕ) (key value : List ℕ) → MayPutIn s.life session table key (Some value) → (on_command s session (command.Put table key value)).1 ≡ reply.Done
put_is_done s session table key value = by s.life
  where
    by : (o : Option Life) → MayPutIn o session table key (Some value) → (does.command_by s session (command.Put table key value) o).1 ≡ reply.Done
    by None h = absurd h
    by (Some l) h = subst (λ (b : Bool). (does.command_in s l session (command.Put table key value) b).1 ≡ reply.Done) (sym h.0) (put_done l.work session table key (Some value) h.1)

pub del_is_done : (s : State) (session table : ℕ) (key : List ℕ) → MayPutIn s.life session table key None → (on_command s session (command.Del table key)).1 ≡ reply.Done
del_is_done s session table key = by s.life
  where
    by : (o : Option Life) → MayPutIn o session table key None → (does.command_by s session (command.Del table key) o).1 ≡ reply.Done
    by None h = absurd h
    by (Some l) h = subst (λ (b : Bool). (does.command_in s l session (command.Del table key) b).1 ≡ reply.Done) (sym h.0) (put_done l.work session table key None h.1)
