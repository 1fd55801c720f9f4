-- What a line of no form is not, and the words of a line.
use Rattle.std.proofs.Common.{◌≡◌, ◌∙◌, ℕ, ◌≤◌, List, [], ◌∷◌, ◌++◌, codes, decimal, length, cond, nat_eq, Some, None, Option, refl, sym, ap, subst, arith}
use Rattle.std.specs.Cmp.Lexicographic.{pointwise}
use Rattle.tm_data.specs.declared.vector.VectorEntry.{VectorEntry}
use Rattle.tm_base.specs.declared.message.Node.{Node}
use Rattle.tm_base.specs.declared.message.Node.TheVariants.{Master, LogStore, PageStore, LockManager, Replica}
use Rattle.tm_base.specs.declared.command.Command.{Command}
use Rattle.tm_base.specs.declared.command.Command.TheVariants as command
use Rattle.tm_base.specs.declared.step.Step.{Step}
use Rattle.tm_base.specs.declared.step.Step.TheVariants as step
use Rattle.tm_base.specs.declared.step.Line.{Line}
use Rattle.tm_base.specs.declared.step.Line.TheVariants as line
use Rattle.text_fields.specs.Fields.{HasNoBlank, hex_text}
use Rattle.text_fields.proofs.FieldLemmas.{decimal_blank, hex_text_blank}
use Rattle.schedule_lines.specs.declared.verb.Verb.{Verb}
use Rattle.schedule_lines.specs.declared.verb.Verb.TheVariants as verb
use Rattle.schedule_lines.specs.Lines.{IsNode, IsFrom, IsCommand, AreEntries, IsStep, IsLine, HasText, node_text, from_text, entry_words, command_words, step_words, line_words, text_of, joined}
use Rattle.schedule_lines.specs.Parts.{parted}
use Rattle.schedule_lines.specs.Inside.{verb_word, IsNoLine}
use Rattle.schedule_lines.proofs.PartLemmas.{known_free, more_free, both_free, AllFree, parted_joined, joined_parted}

-- ---- lines of no form

pub no_line_begins : (ws : List (List ℕ)) (word : List ℕ) (rest : List (List ℕ)) → ws ≡ word ∷ rest → ((v : Verb) → word ≡ verb_word v → ⊥)
    → (l : Line) → line_words l ≡ ws → ⊥
no_line_begins ws word rest is none (line.World masters page_stores replicas) e = none verb.World cc
no_line_begins ws word rest is none (line.Step (step.Do master session c)) e = none verb.Do cc
no_line_begins ws word rest is none (line.Step (step.Deliver number)) e = none verb.Deliver cc
no_line_begins ws word rest is none (line.Step (step.Lose number)) e = none verb.Lose cc
no_line_begins ws word rest is none (line.Step (step.Tick node)) e = none verb.Tick cc
no_line_begins ws word rest is none (line.Step (step.Stop node mode)) e = none verb.Stop cc
no_line_begins ws word rest is none (line.Step (step.Start node)) e = none verb.Start cc
no_line_begins ws word rest is none (line.Step (step.Fail node call mode)) e = none verb.Fail cc
no_line_begins ws word rest is none (line.Step (step.Page store page stamp)) e = none verb.Page cc
no_line_begins ws word rest is none (line.Step (step.Version store page stamp)) e = none verb.Version cc
no_line_begins ws word rest is none (line.Step (step.Publish replica bound)) e = none verb.Publish cc
no_line_begins ws word rest is none (line.Step (step.Lag replica)) e = none verb.Lag cc
no_line_begins ws word rest is none (line.Step (step.Get replica point table key)) e = none verb.Get cc
no_line_begins ws word rest is none (line.Step (step.Scan replica point table from count)) e = none verb.Scan cc
no_line_begins ws word rest is none (line.Drain most) e = none verb.Drain cc
no_line_begins ws word rest is none line.LoseAll e = none verb.Lose cc
no_line_begins ws word rest is none line.TickAll e = none verb.Tick cc
no_line_begins ws word rest is none (line.Try attempts master session c) e = none verb.Try cc

-- the verb that a word is
abbrev first_of : List Verb → List ℕ → Option Verb
first_of [] w = None
first_of (v ∷ vs) w = cond (pointwise nat_eq (verb_word v) w) (Some v) (first_of vs w)

abbrev named : List ℕ → Option Verb
named w = first_of (verb.World ∷ verb.Do ∷ verb.Deliver ∷ verb.Lose ∷ verb.Tick ∷ verb.Stop ∷ verb.Start ∷ verb.Fail ∷ verb.Page ∷ verb.Version ∷ verb.Publish ∷ verb.Lag ∷ verb.Get ∷ verb.Scan ∷ verb.Drain ∷ verb.Try ∷ []) w

verb_again : (v : Verb) → named (verb_word v) ≡ Some v
verb_again verb.World = refl
verb_again verb.Do = refl
verb_again verb.Deliver = refl
verb_again verb.Lose = refl
verb_again verb.Tick = refl
verb_again verb.Stop = refl
verb_again verb.Start = refl
verb_again verb.Fail = refl
verb_again verb.Page = refl
verb_again verb.Version = refl
verb_again verb.Publish = refl
verb_again verb.Lag = refl
verb_again verb.Get = refl
verb_again verb.Scan = refl
verb_again verb.Drain = refl
verb_again verb.Try = refl

pub same_verb : (v w : Verb) → verb_word v ≡ verb_word w → v ≡ w
same_verb v w is = let e : Some v ≡ Some w = sym (verb_again v) ∙ ap named is ∙ verb_again w in cc

same_form : (w v : Verb) (fields ws : List (List ℕ)) → verb_word w ∷ fields ≡ verb_word v ∷ ws → IsNoLine v ws → IsNoLine w fields
same_form w v fields ws is none =
    let first : verb_word w ≡ verb_word v = cc in
    let rest : fields ≡ ws = cc in
    subst (λ (u : Verb). IsNoLine u fields) (sym (same_verb w v first)) (subst (IsNoLine v) (sym rest) none)

-- a line with this verb is of its form
pub no_line : (l : Line) (v : Verb) (ws : List (List ℕ)) → IsNoLine v ws → IsLine l → line_words l ≡ verb_word v ∷ ws → ⊥
no_line (line.World masters page_stores replicas) v ws none fit is =
    same_form verb.World v (decimal masters ∷ decimal page_stores ∷ decimal replicas ∷ []) ws is none masters page_stores replicas fit.0 fit.1 fit.2 refl
no_line (line.Step (step.Do master session c)) v ws none fit is =
    same_form verb.Do v (node_text (Master master) ∷ decimal session ∷ command_words c) ws is none master (decimal session ∷ command_words c) fit.0 refl session c fit.1 fit.2 refl
no_line (line.Step (step.Deliver number)) v ws none fit is = same_form verb.Deliver v (decimal number ∷ []) ws is none number fit refl
no_line (line.Step (step.Lose number)) v ws none fit is = (same_form verb.Lose v (decimal number ∷ []) ws is none).0 number fit refl
no_line (line.Step (step.Tick node)) v ws none fit is = (same_form verb.Tick v (node_text node ∷ []) ws is none).0 node fit refl
no_line (line.Step (step.Stop node mode)) v ws none fit is = same_form verb.Stop v (node_text node ∷ decimal mode ∷ []) ws is none node mode fit.0 fit.1 refl
no_line (line.Step (step.Start node)) v ws none fit is = same_form verb.Start v (node_text node ∷ []) ws is none node fit refl
no_line (line.Step (step.Fail node call mode)) v ws none fit is =
    same_form verb.Fail v (node_text node ∷ decimal call ∷ decimal mode ∷ []) ws is none node call mode fit.0 fit.1 fit.2 fit.3 refl
no_line (line.Step (step.Page store page stamp)) v ws none fit is =
    same_form verb.Page v (node_text (PageStore store) ∷ decimal page.0 ∷ decimal stamp.0 ∷ []) ws is none store (decimal page.0 ∷ decimal stamp.0 ∷ []) fit.0 refl page.0 stamp.0 fit.1 fit.2 refl
no_line (line.Step (step.Version store page stamp)) v ws none fit is =
    same_form verb.Version v (node_text (PageStore store) ∷ decimal page.0 ∷ decimal stamp.0 ∷ []) ws is none store (decimal page.0 ∷ decimal stamp.0 ∷ []) fit.0 refl page.0 stamp.0 fit.1 fit.2 refl
no_line (line.Step (step.Publish replica bound)) v ws none fit is =
    same_form verb.Publish v (node_text (Replica replica) ∷ entry_words bound) ws is none replica (entry_words bound) fit.0 refl bound fit.1 fit.2 refl
no_line (line.Step (step.Lag replica)) v ws none fit is = same_form verb.Lag v (node_text (Replica replica) ∷ []) ws is none replica [] fit refl refl
no_line (line.Step (step.Get replica point table key)) v ws none fit is =
    same_form verb.Get v (node_text (Replica replica) ∷ decimal point ∷ decimal table ∷ hex_text key ∷ []) ws is none replica (decimal point ∷ decimal table ∷ hex_text key ∷ [])
    fit.0 refl point table key fit.1 fit.2 fit.3 refl
no_line (line.Step (step.Scan replica point table from count)) v ws none fit is =
    same_form verb.Scan v (node_text (Replica replica) ∷ decimal point ∷ decimal table ∷ from_text from ∷ decimal count ∷ []) ws is none replica
    (decimal point ∷ decimal table ∷ from_text from ∷ decimal count ∷ []) fit.0 refl point table from count fit.1 fit.2 fit.3 fit.4 refl
no_line (line.Drain most) v ws none fit is = same_form verb.Drain v (decimal most ∷ []) ws is none most fit refl
no_line line.LoseAll v ws none fit is = (same_form verb.Lose v (codes "all" ∷ []) ws is none).1 refl
no_line line.TickAll v ws none fit is = (same_form verb.Tick v (codes "all" ∷ []) ws is none).1 refl
no_line (line.Try attempts master session c) v ws none fit is =
    same_form verb.Try v (decimal attempts ∷ node_text (Master master) ∷ decimal session ∷ command_words c) ws is none attempts
    (node_text (Master master) ∷ decimal session ∷ command_words c) fit.0 refl master (decimal session ∷ command_words c) fit.1 refl session c fit.2 fit.3 refl

-- ---- the words of a line have no blank

numbered_free : (letter n : ℕ) → (letter ≡ 32 → ⊥) → n ≤ 255 → HasNoBlank (letter ∷ decimal n)
numbered_free letter n other small = more_free letter (decimal n) other (decimal_blank n (omega arith))

pub node_free : (node : Node) → IsNode node → HasNoBlank (node_text node)
node_free (Master n) fit = numbered_free 109 n (λ is. omega arith) fit.1
node_free (LogStore n) fit = numbered_free 108 n (λ is. omega arith) fit.1
node_free (PageStore n) fit = numbered_free 112 n (λ is. omega arith) fit.1
node_free LockManager fit = known_free (codes "g") refl
node_free (Replica n) fit = numbered_free 114 n (λ is. omega arith) fit.1

pub from_free : (from : Option (List ℕ)) → IsFrom from → HasNoBlank (from_text from)
from_free None fit = known_free (codes "-") refl
from_free (Some key) fit = hex_text_blank key fit.0

pub entries_free : (es : List VectorEntry) → AreEntries es → AllFree (entry_words es)
entries_free [] fit = tt
entries_free (e ∷ es) fit = (
  both_free (decimal e.writer.0) (codes ":" ++ decimal e.stamp.0) (decimal_blank e.writer.0 (omega arith)) (more_free 58 (decimal e.stamp.0) (λ is. omega arith) (decimal_blank e.stamp.0 (omega arith))),
  entries_free es fit.2,
)

pub command_free : (c : Command) → IsCommand c → AllFree (command_words c)
command_free command.Begin fit =
    (known_free (codes "begin") refl, tt)
command_free (command.Get table key) fit =
    (known_free (codes "get") refl, (decimal_blank table (omega arith), (hex_text_blank key fit.1.0, tt)))
command_free (command.Put table key value) fit =
    (known_free (codes "put") refl, (decimal_blank table (omega arith), (hex_text_blank key fit.1.0, (hex_text_blank value fit.2.0, tt))))
command_free (command.Del table key) fit =
    (known_free (codes "del") refl, (decimal_blank table (omega arith), (hex_text_blank key fit.1.0, tt)))
command_free command.Commit fit =
    (known_free (codes "commit") refl, tt)
command_free command.Abort fit =
    (known_free (codes "abort") refl, tt)
command_free (command.Recover writer) fit =
    (known_free (codes "recover") refl, (decimal_blank writer.0 (omega arith), tt))

-- words, of which there is one at least
abbrev pub AreWords : List (List ℕ) → Type 0
AreWords [] = ⊥
AreWords (w ∷ ws) = HasNoBlank w × AllFree ws

pub step_free : (s : Step) → IsStep s → AreWords (step_words s)
step_free (step.Do master session c) fit =
    (known_free (codes "do") refl, (node_free (Master master) fit.0, (decimal_blank session (omega arith), command_free c fit.2)))
step_free (step.Deliver number) fit =
    (known_free (codes "deliver") refl, (decimal_blank number (omega arith), tt))
step_free (step.Lose number) fit =
    (known_free (codes "lose") refl, (decimal_blank number (omega arith), tt))
step_free (step.Tick node) fit =
    (known_free (codes "tick") refl, (node_free node fit, tt))
step_free (step.Stop node mode) fit =
    (known_free (codes "stop") refl, (node_free node fit.0, (decimal_blank mode (omega arith), tt)))
step_free (step.Start node) fit =
    (known_free (codes "start") refl, (node_free node fit, tt))
step_free (step.Fail node call mode) fit =
    (known_free (codes "fail") refl, (node_free node fit.0, (decimal_blank call (omega arith), (decimal_blank mode (omega arith), tt))))
step_free (step.Page store page stamp) fit =
    (known_free (codes "page") refl, (node_free (PageStore store) fit.0, (decimal_blank page.0 (omega arith), (decimal_blank stamp.0 (omega arith), tt))))
step_free (step.Version store page stamp) fit =
    (known_free (codes "version") refl, (node_free (PageStore store) fit.0, (decimal_blank page.0 (omega arith), (decimal_blank stamp.0 (omega arith), tt))))
step_free (step.Publish replica bound) fit =
    (known_free (codes "publish") refl, (node_free (Replica replica) fit.0, entries_free bound fit.2))
step_free (step.Lag replica) fit =
    (known_free (codes "lag") refl, (node_free (Replica replica) fit, tt))
step_free (step.Get replica point table key) fit =
    (known_free (codes "get") refl, (node_free (Replica replica) fit.0, (decimal_blank point (omega arith), (decimal_blank table (omega arith), (hex_text_blank key fit.3.0, tt)))))
step_free (step.Scan replica point table from count) fit =
    (known_free (codes "scan") refl, (node_free (Replica replica) fit.0, (decimal_blank point (omega arith), (decimal_blank table (omega arith), (from_free from fit.3, (decimal_blank count (omega arith), tt))))))

line_free : (l : Line) → IsLine l → AreWords (line_words l)
line_free (line.World masters page_stores replicas) fit =
    (known_free (codes "world") refl, (decimal_blank masters (omega arith), (decimal_blank page_stores (omega arith), (decimal_blank replicas (omega arith), tt))))
line_free (line.Step s) fit = step_free s fit
line_free (line.Drain most) fit =
    (known_free (codes "drain") refl, (decimal_blank most (omega arith), tt))
line_free line.LoseAll fit =
    (known_free (codes "lose") refl, (known_free (codes "all") refl, tt))
line_free line.TickAll fit =
    (known_free (codes "tick") refl, (known_free (codes "all") refl, tt))
line_free (line.Try attempts master session c) fit =
    (known_free (codes "try") refl, (decimal_blank attempts (omega arith), (node_free (Master master) fit.1, (decimal_blank session (omega arith), command_free c fit.3))))

pub parted_words : (ws : List (List ℕ)) → AreWords ws → parted (joined ws) ≡ ws
parted_words [] all = absurd all
parted_words (w ∷ ws) all = parted_joined w ws all.0 all.1

pub line_parted : (l : Line) → IsLine l → parted (joined (line_words l)) ≡ line_words l
line_parted l fit = parted_words (line_words l) (line_free l fit)

-- what was read, and what is none
pub line_read : (text : List ℕ) (ws : List (List ℕ)) (l : Line) → ws ≡ parted text → line_words l ≡ ws → IsLine l → length text ≤ 8192 → (text ≡ text_of l) × HasText l
line_read text ws l parts is fit small =
    let whole : text ≡ text_of l = sym (joined_parted text) ∙ ap joined (sym parts) ∙ ap joined (sym is) in
    (whole, record { ranges = fit; size = omega (arith, ap length whole) })

pub line_spelled : (text : List ℕ) (ws : List (List ℕ)) (l : Line) → ws ≡ parted text → IsLine l → text ≡ text_of l → line_words l ≡ ws
line_spelled text ws l parts fit is = sym (line_parted l fit) ∙ ap parted (sym is) ∙ sym parts
