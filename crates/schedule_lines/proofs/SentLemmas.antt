-- Commands that a node is sent: their words, and their size within their line.
use Rattle.std.proofs.Common.{◌≡◌, ◌∙◌, ℕ, ◌+◌, ◌≤◌, List, [], ◌∷◌, ◌++◌, codes, decimal, length, length-append, refl, sym, ap, subst, arith}
use Rattle.tm_base.specs.declared.message.Node.{Node}
use Rattle.tm_base.specs.declared.message.Node.TheVariants.{Master, PageStore, Replica}
use Rattle.tm_base.specs.declared.command.Command.{Command}
use Rattle.tm_base.specs.declared.step.Step.{Step}
use Rattle.tm_base.specs.declared.step.Step.TheVariants as step
use Rattle.tm_base.specs.declared.step.Line.TheVariants as line
use Rattle.text_fields.specs.Fields.{hex_text}
use Rattle.text_fields.proofs.FieldLemmas.{decimal_blank, hex_text_blank}
use Rattle.schedule_lines.specs.declared.verb.Verb.{Verb}
use Rattle.schedule_lines.specs.declared.verb.Verb.TheVariants as verb
use Rattle.schedule_lines.specs.Lines.{IsIn, IsNode, IsCommand, IsStep, IsOf, IsSent, behind, joined, node_text, from_text, entry_words, command_words, text_of, sent_words, sent_text}
use Rattle.schedule_lines.specs.Parts.{parted}
use Rattle.schedule_lines.specs.Inside.{verb_word, IsCommandOf, IsNoSession, IsNoCommandOf, IsRead, IsUnread, NotMaster, front_of}
use Rattle.schedule_lines.proofs.PartLemmas.{known_free, joined_parted, parted_some}
use Rattle.schedule_lines.proofs.LineLemmas.{AreWords, same_verb, from_free, entries_free, command_free, parted_words}

-- ---- sizes

node_line : (v x : List ℕ) (ws : List (List ℕ)) → length (joined (v ∷ x ∷ ws)) ≡ 1 + length x + length (joined (v ∷ ws))
node_line v x ws =
    omega (arith, length-append v (32 ∷ (x ++ behind ws)), length-append x (behind ws), length-append v (behind ws))

master_line : (x session : List ℕ) (ws : List (List ℕ)) → length (joined (codes "do" ∷ x ∷ session ∷ ws)) ≡ 4 + length x + length (joined (session ∷ ws))
master_line x session ws = omega (arith, length-append x (32 ∷ (session ++ behind ws)))

line_size : (node : Node) (s : Step) → IsOf node s → length (text_of (line.Step s)) ≡ front_of node + length (node_text node) + length (sent_text s)
line_size (Master n) (step.Do master session c) own =
    subst (λ m. length (text_of (line.Step (step.Do m session c))) ≡ 4 + length (node_text (Master n)) + length (sent_text (step.Do m session c))) own
    (master_line (node_text (Master n)) (decimal session) (command_words c))
line_size (PageStore n) (step.Page store page stamp) own =
    subst (λ m. length (text_of (line.Step (step.Page m page stamp))) ≡ 1 + length (node_text (PageStore n)) + length (sent_text (step.Page m page stamp))) own
    (node_line (codes "page") (node_text (PageStore n)) (decimal page.0 ∷ decimal stamp.0 ∷ []))
line_size (PageStore n) (step.Version store page stamp) own =
    subst (λ m. length (text_of (line.Step (step.Version m page stamp))) ≡ 1 + length (node_text (PageStore n)) + length (sent_text (step.Version m page stamp))) own
    (node_line (codes "version") (node_text (PageStore n)) (decimal page.0 ∷ decimal stamp.0 ∷ []))
line_size (Replica n) (step.Publish replica bound) own =
    subst (λ m. length (text_of (line.Step (step.Publish m bound))) ≡ 1 + length (node_text (Replica n)) + length (sent_text (step.Publish m bound))) own
    (node_line (codes "publish") (node_text (Replica n)) (entry_words bound))
line_size (Replica n) (step.Lag replica) own =
    subst (λ m. length (text_of (line.Step (step.Lag m))) ≡ 1 + length (node_text (Replica n)) + length (sent_text (step.Lag m))) own
    (node_line (codes "lag") (node_text (Replica n)) [])
line_size (Replica n) (step.Get replica point table key) own =
    subst (λ m. length (text_of (line.Step (step.Get m point table key))) ≡ 1 + length (node_text (Replica n)) + length (sent_text (step.Get m point table key))) own
    (node_line (codes "get") (node_text (Replica n)) (decimal point ∷ decimal table ∷ hex_text key ∷ []))
line_size (Replica n) (step.Scan replica point table from count) own =
    subst (λ m. length (text_of (line.Step (step.Scan m point table from count))) ≡ 1 + length (node_text (Replica n)) + length (sent_text (step.Scan m point table from count))) own
    (node_line (codes "scan") (node_text (Replica n)) (decimal point ∷ decimal table ∷ from_text from ∷ decimal count ∷ []))
line_size node s own = absurd own

-- the node of a step in its range has a word
node_of : (node : Node) (s : Step) → IsOf node s → IsStep s → IsNode node
node_of (Master n) (step.Do master session c) own fit = subst (IsIn 1 255) (sym own) fit.0
node_of (PageStore n) (step.Page store page stamp) own fit = subst (IsIn 1 255) (sym own) fit.0
node_of (PageStore n) (step.Version store page stamp) own fit = subst (IsIn 1 255) (sym own) fit.0
node_of (Replica n) (step.Publish replica bound) own fit = subst (IsIn 1 255) (sym own) fit.0
node_of (Replica n) (step.Lag replica) own fit = subst (IsIn 1 255) (sym own) fit
node_of (Replica n) (step.Get replica point table key) own fit = subst (IsIn 1 255) (sym own) fit.0
node_of (Replica n) (step.Scan replica point table from count) own fit = subst (IsIn 1 255) (sym own) fit.0
node_of node s own fit = absurd own

pub no_room : (node : Node) (text : List ℕ) → (IsNode node → front_of node + length (node_text node) + length text ≤ 8192 → ⊥) → IsUnread node text
no_room node text small s sent is =
    small (node_of node s sent.own sent.line.ranges) (omega (arith, line_size node s sent.own, ap length is, sent.line.size))

-- ---- words

sent_free : (node : Node) (s : Step) → IsOf node s → IsStep s → AreWords (sent_words s)
sent_free (Master n) (step.Do master session c) own fit = (decimal_blank session (omega arith), command_free c fit.2)
sent_free (PageStore n) (step.Page store page stamp) own fit =
    (known_free (codes "page") refl, (decimal_blank page.0 (omega arith), (decimal_blank stamp.0 (omega arith), tt)))
sent_free (PageStore n) (step.Version store page stamp) own fit =
    (known_free (codes "version") refl, (decimal_blank page.0 (omega arith), (decimal_blank stamp.0 (omega arith), tt)))
sent_free (Replica n) (step.Publish replica bound) own fit = (known_free (codes "publish") refl, entries_free bound fit.2)
sent_free (Replica n) (step.Lag replica) own fit = (known_free (codes "lag") refl, tt)
sent_free (Replica n) (step.Get replica point table key) own fit =
    (known_free (codes "get") refl, (decimal_blank point (omega arith), (decimal_blank table (omega arith), (hex_text_blank key fit.3.0, tt))))
sent_free (Replica n) (step.Scan replica point table from count) own fit =
    (known_free (codes "scan") refl, (decimal_blank point (omega arith), (decimal_blank table (omega arith), (from_free from fit.3, (decimal_blank count (omega arith), tt)))))
sent_free node s own fit = absurd own

pub sent_parted : (node : Node) (s : Step) → IsSent node s → parted (sent_text s) ≡ sent_words s
sent_parted node s sent = parted_words (sent_words s) (sent_free node s sent.own sent.line.ranges)

sent_spelled : (node : Node) (text : List ℕ) (ws : List (List ℕ)) (s : Step) → ws ≡ parted text → IsSent node s → text ≡ sent_text s → sent_words s ≡ ws
sent_spelled node text ws s parts sent is =
    sym (sent_parted node s sent) ∙ ap parted (sym is) ∙ sym parts

-- ---- what was read, and what is none

is_read : (node : Node) (text : List ℕ) (ws : List (List ℕ)) (s : Step) → ws ≡ parted text → sent_words s ≡ ws → IsOf node s → IsStep s
    → front_of node + length (node_text node) + length text ≤ 8192 → IsRead node text s
is_read node text ws s parts is own fit small =
    let whole : text ≡ sent_text s = sym (joined_parted text) ∙ ap joined (sym parts) ∙ ap joined (sym is) in
    (whole, record { own = own; line = record { ranges = fit; size = omega (arith, line_size node s own, ap length whole) } })

pub master_read : (n : ℕ) (text : List ℕ) (ws : List (List ℕ)) (session : ℕ) (c : Command) → ws ≡ parted text → ws ≡ decimal session ∷ command_words c → IsIn 1 255 n
    → IsIn 1 4096 session → IsCommand c → 4 + length (node_text (Master n)) + length text ≤ 8192 → IsRead (Master n) text (step.Do n session c)
master_read n text ws session c parts is number fit command small =
    is_read (Master n) text ws (step.Do n session c) parts (sym is) refl (number, fit, command) small

pub master_unread : (n : ℕ) (text : List ℕ) (ws : List (List ℕ)) → ws ≡ parted text → IsNoSession ws → IsUnread (Master n) text
master_unread n text ws parts none s sent is = by_step s sent.own sent.line.ranges (sent_spelled (Master n) text ws s parts sent is)
  where
    by_step : (s : Step) → IsOf (Master n) s → IsStep s → sent_words s ≡ ws → ⊥
    by_step (step.Do master session c) own fit e = none session c fit.1 fit.2 (sym e)
    by_step s own fit e = absurd own

pub other_read : (node : Node) (text : List ℕ) (ws rest : List (List ℕ)) (word : List ℕ) (v : Verb) (s : Step) → ws ≡ parted text → ws ≡ word ∷ rest → word ≡ verb_word v
    → IsCommandOf node v rest s → NotMaster node → 1 + length (node_text node) + length text ≤ 8192 → IsRead node text s
other_read node text ws rest word v s parts next is command kind small =
    is_read node text ws s parts (command.1 ∙ ap (λ (w : List ℕ). w ∷ rest) (sym is) ∙ sym next) command.2 command.3 (front node kind small)
  where
    front : (node : Node) → NotMaster node → 1 + length (node_text node) + length text ≤ 8192 → front_of node + length (node_text node) + length text ≤ 8192
    front (Master n) kind small = absurd kind
    front node kind small = small

same_command : (F : Verb → List (List ℕ) → Type 0) (w v : Verb) (fields rest ws : List (List ℕ)) (word : List ℕ) → verb_word w ∷ fields ≡ ws → ws ≡ word ∷ rest → word ≡ verb_word v
    → F v rest → F w fields
same_command F w v fields rest ws word is next known none =
    let first : verb_word w ≡ verb_word v = cc in
    let more : fields ≡ rest = cc in
    subst (λ (u : Verb). F u fields) (sym (same_verb w v first)) (subst (F v) (sym more) none)

pub other_unread : (node : Node) (text : List ℕ) (ws rest : List (List ℕ)) (word : List ℕ) (v : Verb) → ws ≡ parted text → ws ≡ word ∷ rest → word ≡ verb_word v
    → IsNoCommandOf node v rest → NotMaster node → IsUnread node text
other_unread node text ws rest word v parts next known none kind s sent is =
    by_step node kind s none sent.own sent.line.ranges (sent_spelled node text ws s parts sent is)
  where
    by_step : (node : Node) → NotMaster node → (s : Step) → IsNoCommandOf node v rest → IsOf node s → IsStep s → sent_words s ≡ ws → ⊥
    by_step (Master n) kind s none own fit e = absurd kind
    by_step (PageStore n) kind (step.Page store page stamp) none own fit e =
        same_command (IsNoCommandOf (PageStore n)) verb.Page v (decimal page.0 ∷ decimal stamp.0 ∷ []) rest ws word e next known none page.0 stamp.0 fit.1 fit.2 refl
    by_step (PageStore n) kind (step.Version store page stamp) none own fit e =
        same_command (IsNoCommandOf (PageStore n)) verb.Version v (decimal page.0 ∷ decimal stamp.0 ∷ []) rest ws word e next known none page.0 stamp.0 fit.1 fit.2 refl
    by_step (Replica n) kind (step.Publish replica bound) none own fit e =
        same_command (IsNoCommandOf (Replica n)) verb.Publish v (entry_words bound) rest ws word e next known none bound fit.1 fit.2 refl
    by_step (Replica n) kind (step.Lag replica) none own fit e = same_command (IsNoCommandOf (Replica n)) verb.Lag v [] rest ws word e next known none refl
    by_step (Replica n) kind (step.Get replica point table key) none own fit e =
        same_command (IsNoCommandOf (Replica n)) verb.Get v (decimal point ∷ decimal table ∷ hex_text key ∷ []) rest ws word e next known none point table key fit.1 fit.2 fit.3 refl
    by_step (Replica n) kind (step.Scan replica point table from count) none own fit e =
        same_command (IsNoCommandOf (Replica n)) verb.Scan v (decimal point ∷ decimal table ∷ from_text from ∷ decimal count ∷ []) rest ws word e next known none point table from count
        fit.1 fit.2 fit.3 fit.4 refl
    by_step node kind s none own fit e = absurd own

pub no_verb : (node : Node) (text : List ℕ) (ws rest : List (List ℕ)) (word : List ℕ) → ws ≡ parted text → ws ≡ word ∷ rest → ((v : Verb) → word ≡ verb_word v → ⊥)
    → NotMaster node → IsUnread node text
no_verb node text ws rest word parts next none kind s sent is =
    by_step node kind s sent.own (sent_spelled node text ws s parts sent is)
  where
    by_step : (node : Node) → NotMaster node → (s : Step) → IsOf node s → sent_words s ≡ ws → ⊥
    by_step (Master n) kind s own e = absurd kind
    by_step (PageStore n) kind (step.Page store page stamp) own e = none verb.Page cc
    by_step (PageStore n) kind (step.Version store page stamp) own e = none verb.Version cc
    by_step (Replica n) kind (step.Publish replica bound) own e = none verb.Publish cc
    by_step (Replica n) kind (step.Lag replica) own e = none verb.Lag cc
    by_step (Replica n) kind (step.Get replica point table key) own e = none verb.Get cc
    by_step (Replica n) kind (step.Scan replica point table from count) own e = none verb.Scan cc
    by_step node kind s own e = absurd own

pub no_word : (node : Node) (text : List ℕ) (ws : List (List ℕ)) → ws ≡ parted text → ws ≡ [] → IsUnread node text
no_word node text ws parts none s sent is = parted_some text (sym parts ∙ none)
