-- The bodies of all kinds obey the two laws: what is read was spelled so, and what is spelled so is read.
use Rattle.std.proofs.Common.{◌≡◌, ℕ, ◌≤◌, Bool, true, false, List, ◌++◌, Option, Some, None, Ok, refl, append_assoc, arith}
use Rattle.std.specs.Prelude.{nat_eq}
use Rattle.std.proofs.lemmas.Bool.{eqb-true, eqb-false, ne_eqb}
use Rattle.tm_data.specs.declared.transaction.Writer.{Writer}
use Rattle.tm_data.specs.declared.transaction.Page.{Page}
use Rattle.tm_data.specs.declared.transaction.Stamp.{Stamp}
use Rattle.tm_data.specs.declared.transaction.Txn.{Txn}
use Rattle.tm_data.specs.declared.vector.VectorEntry.{VectorEntry}
use Rattle.tm_data.specs.declared.log.Group.{Group}
use Rattle.tm_base.specs.declared.message.Note.{Note}
use Rattle.tm_base.specs.declared.message.Note.TheVariants.{Register, Registered, Append, Ack, Gap, Sealed, Stable, Fetch, Groups, Seal, SealedAt, Close, Closed, Takeover, Taken, Undone, Recovered, Request, RequestFresh, Recall, Grant, FreshIs, Release, Released, ReadPage, PageIs, Missing, Ask, Fate, Roster, Want}
use Rattle.tm_base.specs.declared.message.PageStamp.{PageStamp}
use Rattle.tm_base.specs.declared.message.RosterEntry.{RosterEntry}
use Rattle.tm_data.specs.declared.image.Image.{Image}
use Rattle.tm_base.specs.declared.message.Tag.{Tag}
use Rattle.wire_fields.specs.Field.{IsBytes, Found, IsField}
use Rattle.wire_fields.specs.Spelling.{IsWithin, u8_bytes, u32_bytes, u64_bytes}
use Rattle.wire_fields.proofs.Parts.{step, ends}
use Rattle.page_image.specs.Spelling.{txn_bytes}
use Rattle.page_image.proofs.RowLemmas.{part, joins, txn_law}
use Rattle.page_image.proofs.ImageLemmas.{image_law}
use Rattle.log_record.specs.Spelling.{flag_of, learnt_bytes}
use Rattle.log_record.proofs.GroupLemmas.{group_law, learnt_law}
use Rattle.node_messages.specs.declared.shape.Lease.{Lease}
use Rattle.message_parts.specs.Spelling.{IsNumber, groups_bytes, page_stamps_bytes, tags_bytes}
use Rattle.node_messages.specs.Spelling.{page_number, IsSomePage, writer_number, IsSomeWriter, pair_bytes, IsPair, end_bytes, IsEnd, lease_bytes, IsLease, left_bytes, AreLeft, kind_of, body_bytes, IsSound}
use Rattle.node_messages.specs.Reading.{some_page, some_writer, pair_note, pair_at, ending_note, ending_at, lease_at, recall_note, recall_at, grant_note, grant_at, register_at, registered_at, append_at, groups_note_at, seal_at, log_note_at, takeover_at, undone_at, recovered_at, end_note_at, fresh_at, lease_note_at, read_page_at, page_is_at, missing_at, ask_at, fate_at, roster_note_at, want_at, page_note_at, note_at}
use Rattle.message_parts.proofs.PartLemmas.{from, number_law, small_law, writer_law, page_law, stamp_law, flag_law}
use Rattle.message_parts.proofs.ListLemmas.{groups_law, page_stamps_law, tags_law, roster_law}

-- ---- what may be wanting

record IsNumberOf {A : Type 0} (Fits : Option A → Type 0) (number_of : Option A → ℕ) (n : ℕ) (a : Option A) : Type 0 where
  pub same : number_of a ≡ n
  pub sound : Fits a

some_page_by : (n : ℕ) (b : Bool) → nat_eq n 0 ≡ b → IsNumber n → IsNumberOf IsSomePage page_number n (some_page n)
some_page_by n true is fits = let none : n ≡ 0 = eqb-true _ _ is in rw none (record { same = refl; sound = tt })
some_page_by n false is fits =
    let other : n ≡ 0 → ⊥ = eqb-false _ _ is in
    let sound : IsWithin 1 4294967295 n = record { reaches = omega arith; stays = fits.stays } in
    rw is (record { same = refl; sound = sound })

some_page_is : (n : ℕ) → IsNumber n → IsNumberOf IsSomePage page_number n (some_page n)
some_page_is n fits = some_page_by n (nat_eq n 0) refl fits

some_page_back : (p : Option Page) → IsSomePage p → some_page (page_number p) ≡ p
some_page_back None fits = refl
some_page_back (Some p) fits = let some : nat_eq p.0 0 ≡ false = ne_eqb _ _ (λ none. omega (arith, fits.reaches)) in rw some refl

page_number_fits : (p : Option Page) → IsSomePage p → IsNumber (page_number p)
page_number_fits None fits = record { reaches = omega arith; stays = omega arith }
page_number_fits (Some p) fits = record { reaches = omega arith; stays = fits.stays }

some_writer_by : (n : ℕ) (b : Bool) → nat_eq n 0 ≡ b → IsNumber n → IsNumberOf IsSomeWriter writer_number n (some_writer n)
some_writer_by n true is fits = let none : n ≡ 0 = eqb-true _ _ is in rw none (record { same = refl; sound = tt })
some_writer_by n false is fits =
    let other : n ≡ 0 → ⊥ = eqb-false _ _ is in
    let sound : IsWithin 1 4294967295 n = record { reaches = omega arith; stays = fits.stays } in
    rw is (record { same = refl; sound = sound })

some_writer_is : (n : ℕ) → IsNumber n → IsNumberOf IsSomeWriter writer_number n (some_writer n)
some_writer_is n fits = some_writer_by n (nat_eq n 0) refl fits

some_writer_back : (w : Option Writer) → IsSomeWriter w → some_writer (writer_number w) ≡ w
some_writer_back None fits = refl
some_writer_back (Some w) fits = let some : nat_eq w.0 0 ≡ false = ne_eqb _ _ (λ none. omega (arith, fits.reaches)) in rw some refl

writer_number_fits : (w : Option Writer) → IsSomeWriter w → IsNumber (writer_number w)
writer_number_fits None fits = record { reaches = omega arith; stays = omega arith }
writer_number_fits (Some w) fits = record { reaches = omega arith; stays = fits.stays }

-- ---- notes

-- a sound note of this kind
pub record IsOf (kind : ℕ) (note : Note) : Type 0 where
  pub same : kind_of note ≡ kind
  pub sound : IsSound note

-- and these are the bytes of its body
record Shows (kind : ℕ) (text : List ℕ) (note : Note) : Type 0 where
  pub same : kind_of note ≡ kind
  pub spelled : body_bytes note ≡ text
  pub sound : IsSound note

-- ---- bodies of one shape

abbrev ShowsPairs : ℕ → Type 0
ShowsPairs kind = (w : Writer) (n : ℕ) → IsPair w n → Shows kind (pair_bytes w n) (pair_note kind w n)

pair_takes : (total kind : ℕ) → ShowsPairs kind → (bytes : List ℕ) (x : Note × List ℕ) → IsBytes bytes → pair_at total kind bytes ≡ Ok x → Found body_bytes (IsOf kind) bytes x
unfolding pair_at
pair_takes total kind shows bytes x fits e =
    let writer = step (writer_law total) fits e in
    let number = step (number_law total) writer.left writer.next in
    let s = shows writer.value number.value (writer.fits, number.fits) in
    ends number.next (record { parts = rw s.spelled ((joins (part writer) (part number)).whole); fits = record { same = s.same; sound = s.sound }; left = number.left })

pair_again : (total kind : ℕ) (w : Writer) (n : ℕ) (rest : List ℕ) → IsPair w n → pair_at total kind (pair_bytes w n ++ rest) ≡ Ok (pair_note kind w n, rest)
unfolding pair_at
pair_again total kind w n rest fits =
    rw (append_assoc (u32_bytes w.0) (u32_bytes n) rest, (writer_law total).again w (u32_bytes n ++ rest) fits.0, (number_law total).again n rest fits.1) refl

abbrev ShowsEnds : ℕ → Type 0
ShowsEnds kind = (w : Writer) (length store : ℕ) → IsEnd w length store → Shows kind (end_bytes w length store) (ending_note kind w length store)

ending_takes : (total kind : ℕ) → ShowsEnds kind → (bytes : List ℕ) (x : Note × List ℕ) → IsBytes bytes → ending_at total kind bytes ≡ Ok x → Found body_bytes (IsOf kind) bytes x
unfolding ending_at
ending_takes total kind shows bytes x fits e =
    let writer = step (writer_law total) fits e in
    let size = step (number_law total) writer.left writer.next in
    let store = step (small_law total) size.left size.next in
    let s = shows writer.value size.value store.value (writer.fits, size.fits, store.fits) in
    ends store.next (record { parts = rw s.spelled ((joins (part writer) (joins (part size) (part store))).whole); fits = record { same = s.same; sound = s.sound }; left = store.left })

ending_again : (total kind : ℕ) (w : Writer) (length store : ℕ) (rest : List ℕ) → IsEnd w length store → ending_at total kind (end_bytes w length store ++ rest) ≡ Ok (ending_note kind w length store, rest)
unfolding ending_at
ending_again total kind w length store rest fits =
    let a = u32_bytes length in
    let b = u8_bytes store in
    rw (
      append_assoc (u32_bytes w.0) (a ++ b) rest,
      append_assoc a b rest,
      (writer_law total).again w (a ++ (b ++ rest)) fits.0,
      (number_law total).again length (b ++ rest) fits.1,
      (small_law total).again store rest fits.2,
    ) refl

abbrev spelled_lease : Lease → List ℕ
spelled_lease l = lease_bytes l.writer l.page l.epoch

abbrev IsLeaseOf : Lease → Type 0
IsLeaseOf l = IsLease l.writer l.page l.epoch

lease_takes : (total : ℕ) (bytes : List ℕ) (x : Lease × List ℕ) → IsBytes bytes → lease_at total bytes ≡ Ok x → Found spelled_lease IsLeaseOf bytes x
unfolding lease_at
lease_takes total bytes x fits e =
    let writer = step (writer_law total) fits e in
    let page = step (page_law total) writer.left writer.next in
    let epoch = step (number_law total) page.left page.next in
    let sound : IsLease writer.value page.value epoch.value = (writer.fits, page.fits, epoch.fits) in
    ends epoch.next (record { parts = (joins (part writer) (joins (part page) (part epoch))).whole; fits = sound; left = epoch.left })

lease_again : (total : ℕ) (l : Lease) (rest : List ℕ) → IsLeaseOf l → lease_at total (spelled_lease l ++ rest) ≡ Ok (l, rest)
unfolding lease_at
lease_again total l rest fits =
    let a = u32_bytes l.page.0 in
    let b = u32_bytes l.epoch in
    rw (
      append_assoc (u32_bytes l.writer.0) (a ++ b) rest,
      append_assoc a b rest,
      (writer_law total).again l.writer (a ++ (b ++ rest)) fits.0,
      (page_law total).again l.page (b ++ rest) fits.1,
      (number_law total).again l.epoch rest fits.2,
    ) refl

lease_law : (total : ℕ) → IsField (lease_at total) spelled_lease IsLeaseOf
lease_law total = record { takes = lease_takes total; again = lease_again total }

abbrev ShowsLeases : ℕ → Type 0
ShowsLeases kind = (l : Lease) → IsLeaseOf l → Shows kind (spelled_lease l) (recall_note kind l)

recall_takes : (total kind : ℕ) → ShowsLeases kind → (bytes : List ℕ) (x : Note × List ℕ) → IsBytes bytes → recall_at total kind bytes ≡ Ok x → Found body_bytes (IsOf kind) bytes x
unfolding recall_at
recall_takes total kind shows bytes x fits e =
    let lease = step (lease_law total) fits e in
    let s = shows lease.value lease.fits in
    ends lease.next (record { parts = rw s.spelled lease.parts; fits = record { same = s.same; sound = s.sound }; left = lease.left })

recall_again : (total kind : ℕ) (l : Lease) (rest : List ℕ) → IsLeaseOf l → recall_at total kind (spelled_lease l ++ rest) ≡ Ok (recall_note kind l, rest)
unfolding recall_at
recall_again total kind l rest fits = rw ((lease_law total).again l rest fits) refl

abbrev ShowsGrants : ℕ → Type 0
ShowsGrants kind = (l : Lease) (stamp : Stamp) (tags : List Tag) (vector : List VectorEntry) → IsLeaseOf l → AreLeft stamp tags vector → Shows kind (spelled_lease l ++ left_bytes stamp tags vector) (grant_note kind l stamp tags vector)

grant_takes : (total kind : ℕ) → ShowsGrants kind → (bytes : List ℕ) (x : Note × List ℕ) → IsBytes bytes → grant_at total kind bytes ≡ Ok x → Found body_bytes (IsOf kind) bytes x
unfolding grant_at
grant_takes total kind shows bytes x fits e =
    let lease = step (lease_law total) fits e in
    let stamp = step (stamp_law total) lease.left lease.next in
    let tags = step (tags_law total) stamp.left stamp.next in
    let vector = step (learnt_law total 0) tags.left tags.next in
    let s = shows lease.value stamp.value tags.value vector.value lease.fits (stamp.fits, tags.fits, vector.fits) in
    ends vector.next (record {
      parts = rw s.spelled ((joins (part lease) (joins (part stamp) (joins (part tags) (part vector)))).whole);
      fits = record { same = s.same; sound = s.sound };
      left = vector.left;
    })

grant_again : (total kind : ℕ) (l : Lease) (stamp : Stamp) (tags : List Tag) (vector : List VectorEntry) (rest : List ℕ) → IsLeaseOf l → AreLeft stamp tags vector
    → grant_at total kind ((spelled_lease l ++ left_bytes stamp tags vector) ++ rest) ≡ Ok (grant_note kind l stamp tags vector, rest)
unfolding grant_at
grant_again total kind l stamp tags vector rest fits left =
    let a = u64_bytes stamp.0 in
    let b = tags_bytes tags in
    let c = learnt_bytes vector in
    rw (
      append_assoc (spelled_lease l) (a ++ (b ++ c)) rest,
      append_assoc a (b ++ c) rest,
      append_assoc b c rest,
      (lease_law total).again l (a ++ (b ++ (c ++ rest))) fits,
      (stamp_law total).again stamp (b ++ (c ++ rest)) left.0,
      (tags_law total).again tags (c ++ rest) left.1,
      (learnt_law total 0).again vector rest left.2,
    ) refl

-- ---- kinds 1 to 11

register_takes : (total : ℕ) (bytes : List ℕ) (x : Note × List ℕ) → IsBytes bytes → register_at total bytes ≡ Ok x → Found body_bytes (IsOf 1) bytes x
unfolding register_at
register_takes total bytes x fits e =
    let boot = step (number_law total) fits e in
    ends boot.next (record { parts = boot.parts; fits = record { same = refl; sound = boot.fits }; left = boot.left })

register_again : (total boot : ℕ) (rest : List ℕ) → IsNumber boot → register_at total (u32_bytes boot ++ rest) ≡ Ok (Register boot, rest)
unfolding register_at
register_again total boot rest fits = rw ((number_law total).again boot rest fits) refl

registered_takes : (total : ℕ) (bytes : List ℕ) (x : Note × List ℕ) → IsBytes bytes → registered_at total bytes ≡ Ok x → Found body_bytes (IsOf 2) bytes x
unfolding registered_at
registered_takes total bytes x fits e =
    let boot = step (number_law total) fits e in
    let writer = step (writer_law total) boot.left boot.next in
    let sound : IsSound (Registered boot.value writer.value) = (boot.fits, writer.fits) in
    ends writer.next (record { parts = (joins (part boot) (part writer)).whole; fits = record { same = refl; sound = sound }; left = writer.left })

registered_again : (total boot : ℕ) (w : Writer) (rest : List ℕ) → IsSound (Registered boot w) → registered_at total (body_bytes (Registered boot w) ++ rest) ≡ Ok (Registered boot w, rest)
unfolding registered_at
registered_again total boot w rest fits =
    rw (append_assoc (u32_bytes boot) (u32_bytes w.0) rest, (number_law total).again boot (u32_bytes w.0 ++ rest) fits.0, (writer_law total).again w rest fits.1) refl

append_takes : (total : ℕ) (bytes : List ℕ) (x : Note × List ℕ) → IsBytes bytes → append_at total bytes ≡ Ok x → Found body_bytes (IsOf 3) bytes x
unfolding append_at
append_takes total bytes x fits e =
    let group = step (group_law total 1) fits e in
    ends group.next (record { parts = group.parts; fits = record { same = refl; sound = group.fits }; left = group.left })

append_again : (total : ℕ) (group : Group) (rest : List ℕ) → IsSound (Append group) → append_at total (body_bytes (Append group) ++ rest) ≡ Ok (Append group, rest)
unfolding append_at
append_again total group rest fits = rw ((group_law total 1).again group rest fits) refl

groups_takes : (total : ℕ) (bytes : List ℕ) (x : Note × List ℕ) → IsBytes bytes → groups_note_at total bytes ≡ Ok x → Found body_bytes (IsOf 9) bytes x
unfolding groups_note_at
groups_takes total bytes x fits e =
    let writer = step (writer_law total) fits e in
    let groups = step (groups_law total) writer.left writer.next in
    let sound : IsSound (Groups writer.value groups.value) = (writer.fits, groups.fits) in
    ends groups.next (record { parts = (joins (part writer) (part groups)).whole; fits = record { same = refl; sound = sound }; left = groups.left })

groups_again : (total : ℕ) (w : Writer) (groups : List Group) (rest : List ℕ) → IsSound (Groups w groups) → groups_note_at total (body_bytes (Groups w groups) ++ rest) ≡ Ok (Groups w groups, rest)
unfolding groups_note_at
groups_again total w groups rest fits =
    rw (append_assoc (u32_bytes w.0) (groups_bytes groups) rest, (writer_law total).again w (groups_bytes groups ++ rest) fits.0, (groups_law total).again groups rest fits.1) refl

seal_takes : (total : ℕ) (bytes : List ℕ) (x : Note × List ℕ) → IsBytes bytes → seal_at total bytes ≡ Ok x → Found body_bytes (IsOf 10) bytes x
unfolding seal_at
seal_takes total bytes x fits e =
    let writer = step (writer_law total) fits e in
    ends writer.next (record { parts = writer.parts; fits = record { same = refl; sound = writer.fits }; left = writer.left })

seal_again : (total : ℕ) (w : Writer) (rest : List ℕ) → IsSound (Seal w) → seal_at total (body_bytes (Seal w) ++ rest) ≡ Ok (Seal w, rest)
unfolding seal_at
seal_again total w rest fits = rw ((writer_law total).again w rest fits) refl

-- ---- kinds 12 to 17

takeover_takes : (total : ℕ) (bytes : List ℕ) (x : Note × List ℕ) → IsBytes bytes → takeover_at total bytes ≡ Ok x → Found body_bytes (IsOf 14) bytes x
unfolding takeover_at
takeover_takes total bytes x fits e =
    let writer = step (writer_law total) fits e in
    let number = step (number_law total) writer.left writer.next in
    let flag = step (flag_law total) number.left number.next in
    let pages = step (page_stamps_law total) flag.left flag.next in
    let vector = step (learnt_law total 0) pages.left pages.next in
    let sound : IsSound (Takeover writer.value number.value flag.value pages.value vector.value) = ((writer.fits, number.fits), pages.fits, vector.fits) in
    ends vector.next (record {
      parts = (joins (joins (part writer) (part number)) (joins (part flag) (joins (part pages) (part vector)))).whole;
      fits = record { same = refl; sound = sound };
      left = vector.left;
    })

takeover_again : (total : ℕ) (w : Writer) (number : ℕ) (flag : Bool) (pages : List PageStamp) (vector : List VectorEntry) (rest : List ℕ) → IsSound (Takeover w number flag pages vector)
    → takeover_at total (body_bytes (Takeover w number flag pages vector) ++ rest) ≡ Ok (Takeover w number flag pages vector, rest)
unfolding takeover_at
takeover_again total w number flag pages vector rest fits =
    let a = u32_bytes w.0 in
    let b = u32_bytes number in
    let c = u8_bytes (flag_of flag) in
    let d = page_stamps_bytes pages in
    let f = learnt_bytes vector in
    rw (
      append_assoc (a ++ b) (c ++ (d ++ f)) rest,
      append_assoc a b ((c ++ (d ++ f)) ++ rest),
      append_assoc c (d ++ f) rest,
      append_assoc d f rest,
      (writer_law total).again w (b ++ (c ++ (d ++ (f ++ rest)))) fits.0.0,
      (number_law total).again number (c ++ (d ++ (f ++ rest))) fits.0.1,
      (flag_law total).again flag (d ++ (f ++ rest)) tt,
      (page_stamps_law total).again pages (f ++ rest) fits.1,
      (learnt_law total 0).again vector rest fits.2,
    ) refl

undone_takes : (total : ℕ) (bytes : List ℕ) (x : Note × List ℕ) → IsBytes bytes → undone_at total bytes ≡ Ok x → Found body_bytes (IsOf 16) bytes x
unfolding undone_at
undone_takes total bytes x fits e =
    let writer = step (writer_law total) fits e in
    let recoverer = step (writer_law total) writer.left writer.next in
    let vector = step (learnt_law total 0) recoverer.left recoverer.next in
    let sound : IsSound (Undone writer.value recoverer.value vector.value) = (writer.fits, recoverer.fits, vector.fits) in
    ends vector.next (record { parts = (joins (part writer) (joins (part recoverer) (part vector))).whole; fits = record { same = refl; sound = sound }; left = vector.left })

undone_again : (total : ℕ) (w r : Writer) (vector : List VectorEntry) (rest : List ℕ) → IsSound (Undone w r vector) → undone_at total (body_bytes (Undone w r vector) ++ rest) ≡ Ok (Undone w r vector, rest)
unfolding undone_at
undone_again total w r vector rest fits =
    let a = u32_bytes r.0 in
    let b = learnt_bytes vector in
    rw (
      append_assoc (u32_bytes w.0) (a ++ b) rest,
      append_assoc a b rest,
      (writer_law total).again w (a ++ (b ++ rest)) fits.0,
      (writer_law total).again r (b ++ rest) fits.1,
      (learnt_law total 0).again vector rest fits.2,
    ) refl

recovered_takes : (total : ℕ) (bytes : List ℕ) (x : Note × List ℕ) → IsBytes bytes → recovered_at total bytes ≡ Ok x → Found body_bytes (IsOf 17) bytes x
unfolding recovered_at
recovered_takes total bytes x fits e =
    let writer = step (writer_law total) fits e in
    let vector = step (learnt_law total 0) writer.left writer.next in
    let sound : IsSound (Recovered writer.value vector.value) = (writer.fits, vector.fits) in
    ends vector.next (record { parts = (joins (part writer) (part vector)).whole; fits = record { same = refl; sound = sound }; left = vector.left })

recovered_again : (total : ℕ) (w : Writer) (vector : List VectorEntry) (rest : List ℕ) → IsSound (Recovered w vector) → recovered_at total (body_bytes (Recovered w vector) ++ rest) ≡ Ok (Recovered w vector, rest)
unfolding recovered_at
recovered_again total w vector rest fits =
    rw (append_assoc (u32_bytes w.0) (learnt_bytes vector) rest, (writer_law total).again w (learnt_bytes vector ++ rest) fits.0, (learnt_law total 0).again vector rest fits.1) refl

-- ---- kinds 18 to 24

fresh_takes : (total : ℕ) (bytes : List ℕ) (x : Note × List ℕ) → IsBytes bytes → fresh_at total bytes ≡ Ok x → Found body_bytes (IsOf 22) bytes x
unfolding fresh_at
fresh_takes total bytes x fits e =
    let writer = step (writer_law total) fits e in
    let nth = step (number_law total) writer.left writer.next in
    let page = step (number_law total) nth.left nth.next in
    let is = some_page_is page.value page.fits in
    ends page.next (record {
      parts = rw is.same ((joins (joins (part writer) (part nth)) (part page)).whole);
      fits = record { same = refl; sound = ((writer.fits, nth.fits), is.sound) };
      left = page.left;
    })

fresh_again : (total : ℕ) (w : Writer) (nth : ℕ) (page : Option Page) (rest : List ℕ) → IsSound (FreshIs w nth page) → fresh_at total (body_bytes (FreshIs w nth page) ++ rest) ≡ Ok (FreshIs w nth page, rest)
unfolding fresh_at
fresh_again total w nth page rest fits =
    let a = u32_bytes w.0 in
    let b = u32_bytes nth in
    let c = u32_bytes (page_number page) in
    rw (
      append_assoc (a ++ b) c rest,
      append_assoc a b (c ++ rest),
      (writer_law total).again w (b ++ (c ++ rest)) fits.0.0,
      (number_law total).again nth (c ++ rest) fits.0.1,
      (number_law total).again (page_number page) rest (page_number_fits page fits.1),
      some_page_back page fits.1,
    ) refl

-- ---- kinds 25 to 31

read_page_takes : (total : ℕ) (bytes : List ℕ) (x : Note × List ℕ) → IsBytes bytes → read_page_at total bytes ≡ Ok x → Found body_bytes (IsOf 25) bytes x
unfolding read_page_at
read_page_takes total bytes x fits e =
    let page = step (page_law total) fits e in
    ends page.next (record { parts = page.parts; fits = record { same = refl; sound = page.fits }; left = page.left })

read_page_again : (total : ℕ) (page : Page) (rest : List ℕ) → IsSound (ReadPage page) → read_page_at total (body_bytes (ReadPage page) ++ rest) ≡ Ok (ReadPage page, rest)
unfolding read_page_at
read_page_again total page rest fits = rw ((page_law total).again page rest fits) refl

page_is_takes : (total : ℕ) (bytes : List ℕ) (x : Note × List ℕ) → IsBytes bytes → page_is_at total bytes ≡ Ok x → Found body_bytes (IsOf 26) bytes x
unfolding page_is_at
page_is_takes total bytes x fits e =
    let image = step (image_law total) fits e in
    ends image.next (record { parts = image.parts; fits = record { same = refl; sound = image.fits }; left = image.left })

page_is_again : (total : ℕ) (image : Image) (rest : List ℕ) → IsSound (PageIs image) → page_is_at total (body_bytes (PageIs image) ++ rest) ≡ Ok (PageIs image, rest)
unfolding page_is_at
page_is_again total image rest fits = rw ((image_law total).again image rest fits) refl

missing_takes : (total : ℕ) (bytes : List ℕ) (x : Note × List ℕ) → IsBytes bytes → missing_at total bytes ≡ Ok x → Found body_bytes (IsOf 27) bytes x
unfolding missing_at
missing_takes total bytes x fits e =
    let page = step (page_law total) fits e in
    let stamp = step (stamp_law total) page.left page.next in
    let sound : IsSound (Missing page.value stamp.value) = (page.fits, stamp.fits) in
    ends stamp.next (record { parts = (joins (part page) (part stamp)).whole; fits = record { same = refl; sound = sound }; left = stamp.left })

missing_again : (total : ℕ) (page : Page) (stamp : Stamp) (rest : List ℕ) → IsSound (Missing page stamp) → missing_at total (body_bytes (Missing page stamp) ++ rest) ≡ Ok (Missing page stamp, rest)
unfolding missing_at
missing_again total page stamp rest fits =
    rw (append_assoc (u32_bytes page.0) (u64_bytes stamp.0) rest, (page_law total).again page (u64_bytes stamp.0 ++ rest) fits.0, (stamp_law total).again stamp rest fits.1) refl

ask_takes : (total : ℕ) (bytes : List ℕ) (x : Note × List ℕ) → IsBytes bytes → ask_at total bytes ≡ Ok x → Found body_bytes (IsOf 28) bytes x
unfolding ask_at
ask_takes total bytes x fits e =
    let txn = step (txn_law total) fits e in
    let master = step (small_law total) txn.left txn.next in
    let sound : IsSound (Ask txn.value master.value) = (txn.fits, master.fits) in
    ends master.next (record { parts = (joins (part txn) (part master)).whole; fits = record { same = refl; sound = sound }; left = master.left })

ask_again : (total : ℕ) (txn : Txn) (master : ℕ) (rest : List ℕ) → IsSound (Ask txn master) → ask_at total (body_bytes (Ask txn master) ++ rest) ≡ Ok (Ask txn master, rest)
unfolding ask_at
ask_again total txn master rest fits =
    rw (append_assoc (txn_bytes txn) (u8_bytes master) rest, (txn_law total).again txn (u8_bytes master ++ rest) fits.0, (small_law total).again master rest fits.1) refl

fate_takes : (total : ℕ) (bytes : List ℕ) (x : Note × List ℕ) → IsBytes bytes → fate_at total bytes ≡ Ok x → Found body_bytes (IsOf 29) bytes x
unfolding fate_at
fate_takes total bytes x fits e =
    let txn = step (txn_law total) fits e in
    let flag = step (flag_law total) txn.left txn.next in
    let vector = step (learnt_law total 0) flag.left flag.next in
    let sound : IsSound (Fate txn.value flag.value vector.value) = (txn.fits, vector.fits) in
    ends vector.next (record { parts = (joins (part txn) (joins (part flag) (part vector))).whole; fits = record { same = refl; sound = sound }; left = vector.left })

fate_again : (total : ℕ) (txn : Txn) (flag : Bool) (vector : List VectorEntry) (rest : List ℕ) → IsSound (Fate txn flag vector) → fate_at total (body_bytes (Fate txn flag vector) ++ rest) ≡ Ok (Fate txn flag vector, rest)
unfolding fate_at
fate_again total txn flag vector rest fits =
    let a = u8_bytes (flag_of flag) in
    let b = learnt_bytes vector in
    rw (
      append_assoc (txn_bytes txn) (a ++ b) rest,
      append_assoc a b rest,
      (txn_law total).again txn (a ++ (b ++ rest)) fits.0,
      (flag_law total).again flag (b ++ rest) tt,
      (learnt_law total 0).again vector rest fits.1,
    ) refl

roster_takes : (total : ℕ) (bytes : List ℕ) (x : Note × List ℕ) → IsBytes bytes → roster_note_at total bytes ≡ Ok x → Found body_bytes (IsOf 30) bytes x
unfolding roster_note_at
roster_takes total bytes x fits e =
    let entries = step (roster_law total) fits e in
    ends entries.next (record { parts = entries.parts; fits = record { same = refl; sound = entries.fits }; left = entries.left })

roster_again : (total : ℕ) (entries : List RosterEntry) (rest : List ℕ) → IsSound (Roster entries) → roster_note_at total (body_bytes (Roster entries) ++ rest) ≡ Ok (Roster entries, rest)
unfolding roster_note_at
roster_again total entries rest fits = rw ((roster_law total).again entries rest fits) refl

want_takes : (total : ℕ) (bytes : List ℕ) (x : Note × List ℕ) → IsBytes bytes → want_at total bytes ≡ Ok x → Found body_bytes (IsOf 31) bytes x
unfolding want_at
want_takes total bytes x fits e =
    let number = step (number_law total) fits e in
    let is = some_writer_is number.value number.fits in
    ends number.next (record { parts = rw is.same number.parts; fits = record { same = refl; sound = is.sound }; left = number.left })

want_again : (total : ℕ) (w : Option Writer) (rest : List ℕ) → IsSound (Want w) → want_at total (body_bytes (Want w) ++ rest) ≡ Ok (Want w, rest)
unfolding want_at
want_again total w rest fits = rw ((number_law total).again (writer_number w) rest (writer_number_fits w fits), some_writer_back w fits) refl

-- ---- all kinds

abbrev Takes : ℕ → ℕ → Type 0
Takes total kind = (bytes : List ℕ) (x : Note × List ℕ) → IsBytes bytes → note_at total kind bytes ≡ Ok x → Found body_bytes (IsOf kind) bytes x

-- the kinds from one on, from the last ones down
past_all : (total kind : ℕ) → kind ≤ 31 → 32 ≤ kind → Takes total kind
past_all total kind most least = let no : ⊥ = omega (arith, most, least) in absurd no

takes_from_25 : (total kind : ℕ) → kind ≤ 31 → 25 ≤ kind → Takes total kind
unfolding note_at log_note_at end_note_at lease_note_at page_note_at
takes_from_25 total kind most least25 =
    from (Takes total) 25 kind least25 (read_page_takes total) (λ least26.
    from (Takes total) 26 kind least26 (page_is_takes total) (λ least27.
    from (Takes total) 27 kind least27 (missing_takes total) (λ least28.
    from (Takes total) 28 kind least28 (ask_takes total) (λ least29.
    from (Takes total) 29 kind least29 (fate_takes total) (λ least30.
    from (Takes total) 30 kind least30 (roster_takes total) (λ least31.
    from (Takes total) 31 kind least31 (want_takes total) (past_all total kind most)))))))

takes_from_18 : (total kind : ℕ) → kind ≤ 31 → 18 ≤ kind → Takes total kind
unfolding note_at log_note_at end_note_at lease_note_at page_note_at
takes_from_18 total kind most least18 =
    from (Takes total) 18 kind least18 (pair_takes total 18 (λ w n a. record { same = refl; spelled = refl; sound = a })) (λ least19.
    from (Takes total) 19 kind least19 (pair_takes total 19 (λ w n a. record { same = refl; spelled = refl; sound = a })) (λ least20.
    from (Takes total) 20 kind least20 (recall_takes total 20 (λ l a. record { same = refl; spelled = refl; sound = a })) (λ least21.
    from (Takes total) 21 kind least21 (grant_takes total 21 (λ l s t v a b. record { same = refl; spelled = refl; sound = (a, b) })) (λ least22.
    from (Takes total) 22 kind least22 (fresh_takes total) (λ least23.
    from (Takes total) 23 kind least23 (grant_takes total 23 (λ l s t v a b. record { same = refl; spelled = refl; sound = (a, b) })) (λ least24.
    from (Takes total) 24 kind least24 (recall_takes total 24 (λ l a. record { same = refl; spelled = refl; sound = a })) (takes_from_25 total kind most)))))))

takes_from_12 : (total kind : ℕ) → kind ≤ 31 → 12 ≤ kind → Takes total kind
unfolding note_at log_note_at end_note_at lease_note_at page_note_at
takes_from_12 total kind most least12 =
    from (Takes total) 12 kind least12 (ending_takes total 12 (λ w n s a. record { same = refl; spelled = refl; sound = a })) (λ least13.
    from (Takes total) 13 kind least13 (ending_takes total 13 (λ w n s a. record { same = refl; spelled = refl; sound = a })) (λ least14.
    from (Takes total) 14 kind least14 (takeover_takes total) (λ least15.
    from (Takes total) 15 kind least15 (pair_takes total 15 (λ w n a. record { same = refl; spelled = refl; sound = a })) (λ least16.
    from (Takes total) 16 kind least16 (undone_takes total) (λ least17.
    from (Takes total) 17 kind least17 (recovered_takes total) (takes_from_18 total kind most))))))

takes_from_1 : (total kind : ℕ) → kind ≤ 31 → 1 ≤ kind → Takes total kind
unfolding note_at log_note_at end_note_at lease_note_at page_note_at
takes_from_1 total kind most least1 =
    from (Takes total) 1 kind least1 (register_takes total) (λ least2.
    from (Takes total) 2 kind least2 (registered_takes total) (λ least3.
    from (Takes total) 3 kind least3 (append_takes total) (λ least4.
    from (Takes total) 4 kind least4 (pair_takes total 4 (λ w n a. record { same = refl; spelled = refl; sound = a })) (λ least5.
    from (Takes total) 5 kind least5 (pair_takes total 5 (λ w n a. record { same = refl; spelled = refl; sound = a })) (λ least6.
    from (Takes total) 6 kind least6 (pair_takes total 6 (λ w n a. record { same = refl; spelled = refl; sound = a })) (λ least7.
    from (Takes total) 7 kind least7 (pair_takes total 7 (λ w n a. record { same = refl; spelled = refl; sound = a })) (λ least8.
    from (Takes total) 8 kind least8 (pair_takes total 8 (λ w n a. record { same = refl; spelled = refl; sound = a })) (λ least9.
    from (Takes total) 9 kind least9 (groups_takes total) (λ least10.
    from (Takes total) 10 kind least10 (seal_takes total) (λ least11.
    from (Takes total) 11 kind least11 (pair_takes total 11 (λ w n a. record { same = refl; spelled = refl; sound = a })) (takes_from_12 total kind most)))))))))))

again : (total : ℕ) (note : Note) (rest : List ℕ) → IsSound note → note_at total (kind_of note) (body_bytes note ++ rest) ≡ Ok (note, rest)
unfolding note_at log_note_at end_note_at lease_note_at page_note_at
again total (Register boot) rest fits = register_again total boot rest fits
again total (Registered boot writer) rest fits = registered_again total boot writer rest fits
again total (Append group) rest fits = append_again total group rest fits
again total (Ack writer seq) rest fits = pair_again total 4 writer seq rest fits
again total (Gap writer next) rest fits = pair_again total 5 writer next rest fits
again total (Sealed writer length) rest fits = pair_again total 6 writer length rest fits
again total (Stable writer seq) rest fits = pair_again total 7 writer seq rest fits
again total (Fetch writer first) rest fits = pair_again total 8 writer first rest fits
again total (Groups writer groups) rest fits = groups_again total writer groups rest fits
again total (Seal writer) rest fits = seal_again total writer rest fits
again total (SealedAt writer length) rest fits = pair_again total 11 writer length rest fits
again total (Close writer length store) rest fits = ending_again total 12 writer length store rest fits
again total (Closed writer length store) rest fits = ending_again total 13 writer length store rest fits
again total (Takeover writer number flag pages vector) rest fits = takeover_again total writer number flag pages vector rest fits
again total (Taken writer number) rest fits = pair_again total 15 writer number rest fits
again total (Undone writer recoverer vector) rest fits = undone_again total writer recoverer vector rest fits
again total (Recovered writer vector) rest fits = recovered_again total writer vector rest fits
again total (Request writer page) rest fits = pair_again total 18 writer page.0 rest fits
again total (RequestFresh writer nth) rest fits = pair_again total 19 writer nth rest fits
again total (Recall writer page epoch) rest fits = recall_again total 20 (record { writer = writer; page = page; epoch = epoch }) rest fits
again total (Grant writer page epoch stamp tags vector) rest fits = grant_again total 21 (record { writer = writer; page = page; epoch = epoch }) stamp tags vector rest fits.0 fits.1
again total (FreshIs writer nth page) rest fits = fresh_again total writer nth page rest fits
again total (Release writer page epoch stamp tags vector) rest fits = grant_again total 23 (record { writer = writer; page = page; epoch = epoch }) stamp tags vector rest fits.0 fits.1
again total (Released writer page epoch) rest fits = recall_again total 24 (record { writer = writer; page = page; epoch = epoch }) rest fits
again total (ReadPage page) rest fits = read_page_again total page rest fits
again total (PageIs image) rest fits = page_is_again total image rest fits
again total (Missing page stamp) rest fits = missing_again total page stamp rest fits
again total (Ask txn master) rest fits = ask_again total txn master rest fits
again total (Fate txn flag vector) rest fits = fate_again total txn flag vector rest fits
again total (Roster entries) rest fits = roster_again total entries rest fits
again total (Want writer) rest fits = want_again total writer rest fits

pub kind_within : (note : Note) → IsWithin 1 31 (kind_of note)
kind_within (Register boot) = record { reaches = omega arith; stays = omega arith }
kind_within (Registered boot writer) = record { reaches = omega arith; stays = omega arith }
kind_within (Append group) = record { reaches = omega arith; stays = omega arith }
kind_within (Ack writer seq) = record { reaches = omega arith; stays = omega arith }
kind_within (Gap writer next) = record { reaches = omega arith; stays = omega arith }
kind_within (Sealed writer length) = record { reaches = omega arith; stays = omega arith }
kind_within (Stable writer seq) = record { reaches = omega arith; stays = omega arith }
kind_within (Fetch writer first) = record { reaches = omega arith; stays = omega arith }
kind_within (Groups writer groups) = record { reaches = omega arith; stays = omega arith }
kind_within (Seal writer) = record { reaches = omega arith; stays = omega arith }
kind_within (SealedAt writer length) = record { reaches = omega arith; stays = omega arith }
kind_within (Close writer length store) = record { reaches = omega arith; stays = omega arith }
kind_within (Closed writer length store) = record { reaches = omega arith; stays = omega arith }
kind_within (Takeover writer number flag pages vector) = record { reaches = omega arith; stays = omega arith }
kind_within (Taken writer number) = record { reaches = omega arith; stays = omega arith }
kind_within (Undone writer recoverer vector) = record { reaches = omega arith; stays = omega arith }
kind_within (Recovered writer vector) = record { reaches = omega arith; stays = omega arith }
kind_within (Request writer page) = record { reaches = omega arith; stays = omega arith }
kind_within (RequestFresh writer nth) = record { reaches = omega arith; stays = omega arith }
kind_within (Recall writer page epoch) = record { reaches = omega arith; stays = omega arith }
kind_within (Grant writer page epoch stamp tags vector) = record { reaches = omega arith; stays = omega arith }
kind_within (FreshIs writer nth page) = record { reaches = omega arith; stays = omega arith }
kind_within (Release writer page epoch stamp tags vector) = record { reaches = omega arith; stays = omega arith }
kind_within (Released writer page epoch) = record { reaches = omega arith; stays = omega arith }
kind_within (ReadPage page) = record { reaches = omega arith; stays = omega arith }
kind_within (PageIs image) = record { reaches = omega arith; stays = omega arith }
kind_within (Missing page stamp) = record { reaches = omega arith; stays = omega arith }
kind_within (Ask txn master) = record { reaches = omega arith; stays = omega arith }
kind_within (Fate txn flag vector) = record { reaches = omega arith; stays = omega arith }
kind_within (Roster entries) = record { reaches = omega arith; stays = omega arith }
kind_within (Want writer) = record { reaches = omega arith; stays = omega arith }

pub note_law : (total kind : ℕ) → IsWithin 1 31 kind → IsField (note_at total kind) body_bytes (IsOf kind)
note_law total kind within = record { takes = takes_from_1 total kind within.stays within.reaches; again = λ note rest fits. rw (← fits.same) (again total note rest fits.sound) }
