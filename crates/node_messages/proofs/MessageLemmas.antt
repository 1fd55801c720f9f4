-- Messages obey the two laws: what is read was spelled so, and what is spelled so is read.
use Rattle.std.proofs.Common.{◌≡◌, ℕ, List, [], ◌++◌, length, Result, Ok, Err, refl, sym, ap, subst, ◌∙◌, append_assoc}
use Rattle.std.specs.Prelude.{IfOk}
use Rattle.std.proofs.lemmas.List.{append-nil}
use Rattle.tm_base.specs.declared.message.Message.{Message}
use Rattle.wire_fields.specs.declared.error.ReadError.{ReadError}
use Rattle.wire_fields.specs.Field.{IsBytes, Found, IsField}
use Rattle.wire_fields.specs.Spelling.{u8_bytes, u64_bytes}
use Rattle.wire_fields.specs.Reading.{◌>>=◌, Gives, end_at}
use Rattle.wire_fields.proofs.Parts.{step, ends}
use Rattle.wire_fields.proofs.Fields.{kind_law, end_is, end_again}
use Rattle.page_image.proofs.RowLemmas.{part, joins}
use Rattle.message_parts.specs.Spelling.{node_bytes}
use Rattle.node_messages.specs.Spelling.{kind_of, body_bytes, message_bytes, IsMessage}
use Rattle.node_messages.specs.Reading.{message_at, message_of}
use Rattle.message_parts.proofs.PartLemmas.{stamp_law, node_law}
use Rattle.node_messages.proofs.NoteLemmas.{kind_within, note_law}

message_takes : (total : ℕ) (bytes : List ℕ) (x : Message × List ℕ) → IsBytes bytes → message_at total bytes ≡ Ok x → Found message_bytes IsMessage bytes x
unfolding message_at
message_takes total bytes x fits e =
    let from = step (node_law total) fits e in
    let to = step (node_law total) from.left from.next in
    let stamp = step (stamp_law total) to.left to.next in
    let kind = step (kind_law total 1 31) stamp.left stamp.next in
    let note = step (note_law total kind.value kind.fits) kind.left kind.next in
    let same : kind_of note.value ≡ kind.value = note.fits.same in
    ends note.next (record {
      parts = rw same ((joins (part from) (joins (part to) (joins (part stamp) (joins (part kind) (part note))))).whole);
      fits = record { from = from.fits; to = to.fits; stamp = stamp.fits; note = note.fits.sound };
      left = note.left;
    })

message_again : (total : ℕ) (m : Message) (rest : List ℕ) → IsMessage m → message_at total (message_bytes m ++ rest) ≡ Ok (m, rest)
unfolding message_at
message_again total m rest fits =
    let kind = kind_of m.note in
    let a = node_bytes m.to in
    let b = u64_bytes m.stamp.0 in
    let c = u8_bytes kind in
    let d = body_bytes m.note in
    rw (
      append_assoc (node_bytes m.from) (a ++ (b ++ (c ++ d))) rest,
      append_assoc a (b ++ (c ++ d)) rest,
      append_assoc b (c ++ d) rest,
      append_assoc c d rest,
      (node_law total).again m.from (a ++ (b ++ (c ++ (d ++ rest)))) fits.from,
      (node_law total).again m.to (b ++ (c ++ (d ++ rest))) fits.to,
      (stamp_law total).again m.stamp (c ++ (d ++ rest)) fits.stamp,
      (kind_law total 1 31).again kind (d ++ rest) (kind_within m.note),
      (note_law total kind (kind_within m.note)).again m.note rest (record { same = refl; sound = fits.note }),
    ) refl

message_law : (total : ℕ) → IsField (message_at total) message_bytes IsMessage
message_law total = record { takes = message_takes total; again = message_again total }

-- ---- all of the bytes

ended : (r : Result (Unit {0}) ReadError) (i j : Message) → (r >>= λ none. Ok i) ≡ Ok j → (r ≡ Ok tt) × (i ≡ j)
ended (Ok u) i j e = (refl, cc)
ended (Err d) i j e = absurd cc

whole_is : (bytes : List ℕ) (m : Message) → IsBytes bytes → message_of bytes ≡ Ok m → IsMessage m × (bytes ≡ message_bytes m)
unfolding message_of
whole_is bytes m fits e =
    let message = step (message_law (length bytes)) fits e in
    let none = ended (end_at (length bytes) message.rest) message.value m message.next in
    let nothing : message.rest ≡ [] = end_is (length bytes) message.rest tt none.0 in
    let whole : bytes ≡ message_bytes message.value = message.parts ∙ ap (λ (t : List ℕ). message_bytes message.value ++ t) nothing ∙ append-nil (message_bytes message.value) in
    subst (λ (v : Message). IsMessage v × (bytes ≡ message_bytes v)) none.1 (message.fits, whole)

pub whole_again : (m : Message) → IsMessage m → message_of (message_bytes m) ≡ Ok m
unfolding message_of
whole_again m fits =
    let n = length (message_bytes m) in
    let read : message_at n (message_bytes m) ≡ Ok (m, []) = ap (message_at n) (sym (append-nil (message_bytes m))) ∙ (message_law n).again m [] fits in
    rw (read, end_again n) refl

pub is_found : (bytes : List ℕ) (r : Result Message ReadError) → IsBytes bytes → Gives (λ x. x) r (message_of bytes) → IfOk r (λ m. IsMessage m × (bytes ≡ message_bytes m))
is_found bytes (Ok m) fits given = whole_is bytes m fits given
is_found bytes (Err e) fits given = tt
