-- Numbers and nodes obey the two laws: what is read was spelled so, and what is spelled so is read.
use Rattle.std.proofs.Common.{◌≡◌, ℕ, ◌+◌, ◌≤◌, Bool, true, false, List, ◌++◌, Ok, refl, sym, subst, arith}
use Rattle.std.specs.Prelude.{nat_eq}
use Rattle.std.proofs.lemmas.Bool.{eqb-true, eqb-false}
use Rattle.tm_data.specs.declared.transaction.Writer.{Writer}
use Rattle.tm_data.specs.declared.transaction.Page.{Page}
use Rattle.tm_data.specs.declared.transaction.Stamp.{Stamp}
use Rattle.tm_base.specs.declared.message.Node.{Node}
use Rattle.tm_base.specs.declared.message.Node.TheVariants.{Master, LogStore, PageStore, LockManager, Replica}
use Rattle.wire_fields.specs.Field.{IsBytes, Found, IsField}
use Rattle.wire_fields.specs.Spelling.{IsWithin, u8_bytes, u32_bytes, u64_bytes}
use Rattle.wire_fields.specs.Reading.{u8_at, u32_at}
use Rattle.wire_fields.proofs.Parts.{step, ends}
use Rattle.wire_fields.proofs.Fields.{u8_law, u32_law, u64_law, kind_law}
use Rattle.page_image.proofs.RowLemmas.{part, joins}
use Rattle.log_record.specs.Spelling.{flag_of}
use Rattle.message_parts.specs.Spelling.{node_kind, node_number, node_bytes, IsNode, IsWriter, IsNumber, IsSmall, IsStamp}
use Rattle.message_parts.specs.Reading.{writer_at, page_at, stamp_at, flag_at, last_number, node_of, node_at}

-- ---- numbers from one on, one by one

at_or_above : (P : ℕ → Type 0) (n kind : ℕ) (b : Bool) → nat_eq kind n ≡ b → n ≤ kind → P n → (n + 1 ≤ kind → P kind) → P kind
at_or_above P n kind true is least here above = subst P (sym (eqb-true _ _ is)) here
at_or_above P n kind false is least here above = let other : kind ≡ n → ⊥ = eqb-false _ _ is in above (omega arith)

-- a fact of a kind from n on, by the one of n and that of the kinds above
pub from : (P : ℕ → Type 0) (n kind : ℕ) → n ≤ kind → P n → (n + 1 ≤ kind → P kind) → P kind
from P n kind least here above = at_or_above P n kind (nat_eq kind n) refl least here above

-- ---- numbers

pub number_law : (total : ℕ) → IsField (u32_at total 0 4294967295) u32_bytes IsNumber
number_law total = u32_law total 0 4294967295 (omega arith)

pub from_one_law : (total : ℕ) → IsField (u32_at total 1 4294967295) u32_bytes (IsWithin 1 4294967295)
from_one_law total = u32_law total 1 4294967295 (omega arith)

pub small_law : (total : ℕ) → IsField (u8_at total 0 255) u8_bytes IsSmall
small_law total = u8_law total 0 255

abbrev pub writer_bytes : Writer → List ℕ
writer_bytes w = u32_bytes w.0

writer_takes : (total : ℕ) (bytes : List ℕ) (x : Writer × List ℕ) → IsBytes bytes → writer_at total bytes ≡ Ok x → Found writer_bytes IsWriter bytes x
unfolding writer_at
writer_takes total bytes x fits e =
    let number = step (from_one_law total) fits e in
    ends number.next (record { parts = number.parts; fits = number.fits; left = number.left })

writer_again : (total : ℕ) (w : Writer) (rest : List ℕ) → IsWriter w → writer_at total (writer_bytes w ++ rest) ≡ Ok (w, rest)
unfolding writer_at
writer_again total w rest fits = rw ((from_one_law total).again w.0 rest fits) refl

pub writer_law : (total : ℕ) → IsField (writer_at total) writer_bytes IsWriter
writer_law total = record { takes = writer_takes total; again = writer_again total }

abbrev pub page_bytes : Page → List ℕ
page_bytes p = u32_bytes p.0

abbrev pub IsPage : Page → Type 0
IsPage p = IsNumber p.0

page_takes : (total : ℕ) (bytes : List ℕ) (x : Page × List ℕ) → IsBytes bytes → page_at total bytes ≡ Ok x → Found page_bytes IsPage bytes x
unfolding page_at
page_takes total bytes x fits e =
    let number = step (number_law total) fits e in
    ends number.next (record { parts = number.parts; fits = number.fits; left = number.left })

page_again : (total : ℕ) (p : Page) (rest : List ℕ) → IsPage p → page_at total (page_bytes p ++ rest) ≡ Ok (p, rest)
unfolding page_at
page_again total p rest fits = rw ((number_law total).again p.0 rest fits) refl

pub page_law : (total : ℕ) → IsField (page_at total) page_bytes IsPage
page_law total = record { takes = page_takes total; again = page_again total }

abbrev pub stamp_bytes : Stamp → List ℕ
stamp_bytes s = u64_bytes s.0

stamp_takes : (total : ℕ) (bytes : List ℕ) (x : Stamp × List ℕ) → IsBytes bytes → stamp_at total bytes ≡ Ok x → Found stamp_bytes IsStamp bytes x
unfolding stamp_at
stamp_takes total bytes x fits e =
    let number = step (u64_law total 0 9223372036854775807 (omega arith)) fits e in
    ends number.next (record { parts = number.parts; fits = number.fits; left = number.left })

stamp_again : (total : ℕ) (s : Stamp) (rest : List ℕ) → IsStamp s → stamp_at total (stamp_bytes s ++ rest) ≡ Ok (s, rest)
unfolding stamp_at
stamp_again total s rest fits = rw ((u64_law total 0 9223372036854775807 (omega arith)).again s.0 rest fits) refl

pub stamp_law : (total : ℕ) → IsField (stamp_at total) stamp_bytes IsStamp
stamp_law total = record { takes = stamp_takes total; again = stamp_again total }

-- ---- truth values

abbrev pub flag_bytes : Bool → List ℕ
flag_bytes b = u8_bytes (flag_of b)

abbrev pub AnyFlag : Bool → Type 0
AnyFlag b = Unit {0}

flag_is : (n : ℕ) (b : Bool) → nat_eq n 1 ≡ b → n ≤ 1 → flag_of b ≡ n
flag_is n true is most = sym (eqb-true _ _ is)
flag_is n false is most = let other : n ≡ 1 → ⊥ = eqb-false _ _ is in omega arith

flag_within : (b : Bool) → IsWithin 0 1 (flag_of b)
flag_within true = record { reaches = omega arith; stays = omega arith }
flag_within false = record { reaches = omega arith; stays = omega arith }

flag_back : (b : Bool) → nat_eq (flag_of b) 1 ≡ b
flag_back true = refl
flag_back false = refl

flag_takes : (total : ℕ) (bytes : List ℕ) (x : Bool × List ℕ) → IsBytes bytes → flag_at total bytes ≡ Ok x → Found flag_bytes AnyFlag bytes x
unfolding flag_at
flag_takes total bytes x fits e =
    let number = step (u8_law total 0 1) fits e in
    let same = flag_is number.value (nat_eq number.value 1) refl number.fits.stays in
    ends number.next (record { parts = rw same number.parts; fits = tt; left = number.left })

flag_again : (total : ℕ) (b : Bool) (rest : List ℕ) → AnyFlag b → flag_at total (flag_bytes b ++ rest) ≡ Ok (b, rest)
unfolding flag_at
flag_again total b rest fits = rw ((u8_law total 0 1).again (flag_of b) rest (flag_within b), flag_back b) refl

pub flag_law : (total : ℕ) → IsField (flag_at total) flag_bytes AnyFlag
flag_law total = record { takes = flag_takes total; again = flag_again total }

-- ---- nodes

-- a node of this kind and number
pub record IsNodeOf (kind number : ℕ) (node : Node) : Type 0 where
  pub same_kind : node_kind node ≡ kind
  pub same_number : node_number node ≡ number
  pub sound : IsNode node

abbrev OfKind : ℕ → ℕ → Type 0
OfKind number kind = IsWithin 1 (last_number kind) number → IsNodeOf kind number (node_of kind number)

of_lock_manager : (number : ℕ) → OfKind number 4
of_lock_manager number within = let one : 1 ≡ number = omega (arith, within.reaches, within.stays) in record { same_kind = refl; same_number = one; sound = record { reaches = omega arith; stays = omega arith } }

no_sixth : (number kind : ℕ) → kind ≤ 5 → 6 ≤ kind → OfKind number kind
no_sixth number kind most least within = let no : ⊥ = omega (arith, most, least) in absurd no

node_is : (kind number : ℕ) → IsWithin 1 5 kind → OfKind number kind
node_is kind number fits =
    from (OfKind number) 1 kind fits.reaches (λ within. record { same_kind = refl; same_number = refl; sound = within })
    (λ a. from (OfKind number) 2 kind a (λ within. record { same_kind = refl; same_number = refl; sound = within })
    (λ b. from (OfKind number) 3 kind b (λ within. record { same_kind = refl; same_number = refl; sound = within })
    (λ c. from (OfKind number) 4 kind c (of_lock_manager number) (λ d. from (OfKind number) 5 kind d (λ within. record { same_kind = refl; same_number = refl; sound = within }) (no_sixth number kind fits.stays)))))

node_takes : (total : ℕ) (bytes : List ℕ) (x : Node × List ℕ) → IsBytes bytes → node_at total bytes ≡ Ok x → Found node_bytes IsNode bytes x
unfolding node_at
node_takes total bytes x fits e =
    let kind = step (kind_law total 1 5) fits e in
    let number = step (u8_law total 1 (last_number kind.value)) kind.left kind.next in
    let is = node_is kind.value number.value kind.fits number.fits in
    ends number.next (record { parts = rw (is.same_kind, is.same_number) ((joins (part kind) (part number)).whole); fits = is.sound; left = number.left })

node_back : (node : Node) → node_of (node_kind node) (node_number node) ≡ node
node_back (Master number) = refl
node_back (LogStore number) = refl
node_back (PageStore number) = refl
node_back LockManager = refl
node_back (Replica number) = refl

kind_within : (node : Node) → IsWithin 1 5 (node_kind node)
kind_within (Master number) = record { reaches = omega arith; stays = omega arith }
kind_within (LogStore number) = record { reaches = omega arith; stays = omega arith }
kind_within (PageStore number) = record { reaches = omega arith; stays = omega arith }
kind_within LockManager = record { reaches = omega arith; stays = omega arith }
kind_within (Replica number) = record { reaches = omega arith; stays = omega arith }

number_within : (node : Node) → IsNode node → IsWithin 1 (last_number (node_kind node)) (node_number node)
number_within (Master number) fits = fits
number_within (LogStore number) fits = fits
number_within (PageStore number) fits = fits
number_within LockManager fits = record { reaches = omega arith; stays = omega arith }
number_within (Replica number) fits = fits

node_again : (total : ℕ) (node : Node) (rest : List ℕ) → IsNode node → node_at total (node_bytes node ++ rest) ≡ Ok (node, rest)
unfolding node_at
node_again total node rest fits =
    rw (
      (kind_law total 1 5).again (node_kind node) (u8_bytes (node_number node) ++ rest) (kind_within node),
      (u8_law total 1 (last_number (node_kind node))).again (node_number node) rest (number_within node fits),
      node_back node,
    ) refl

pub node_law : (total : ℕ) → IsField (node_at total) node_bytes IsNode
node_law total = record { takes = node_takes total; again = node_again total }
