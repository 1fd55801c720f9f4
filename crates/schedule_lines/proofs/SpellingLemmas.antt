-- A text is of one line alone.
use Rattle.std.proofs.Common.{◌≡◌, ◌∙◌, ℕ, ◌≤◌, List, [], ◌∷◌, codes, decimal, length, cond, nat_eq, Some, None, Option, refl, sym, ap, subst, arith}
use Rattle.std.proofs.lemmas.Fmt.{decimal_is_IsNumeral, decimal_injective}
use Rattle.std.specs.Cmp.Lexicographic.{pointwise}
use Rattle.std.specs.Str.Parse.{AllDigits}
use Rattle.tm_data.specs.declared.vector.VectorEntry.{VectorEntry}
use Rattle.tm_base.specs.declared.message.Node.{Node}
use Rattle.tm_base.specs.declared.message.Node.TheVariants.{Master, LogStore, PageStore, LockManager, Replica}
use Rattle.tm_base.specs.declared.command.Command.{Command}
use Rattle.tm_base.specs.declared.command.Command.TheVariants as command
use Rattle.tm_base.specs.declared.step.Step.{Step}
use Rattle.tm_base.specs.declared.step.Step.TheVariants as step
use Rattle.tm_base.specs.declared.step.Line.{Line}
use Rattle.tm_base.specs.declared.step.Line.TheVariants as line
use Rattle.text_fields.specs.Fields.{hex_text}
use Rattle.text_fields.proofs.FieldLemmas.{hex_text_injective}
use Rattle.schedule_lines.specs.declared.verb.Verb.{Verb}
use Rattle.schedule_lines.specs.declared.verb.Verb.TheVariants as verb
use Rattle.schedule_lines.specs.declared.verb.CommandVerb.{CommandVerb}
use Rattle.schedule_lines.specs.declared.verb.CommandVerb.TheVariants as word
use Rattle.schedule_lines.specs.Lines.{IsNode, IsKey, IsValue, IsFrom, AreEntries, IsCommand, IsLine, HasText, node_text, from_text, entry_words, command_words, step_words, line_words, sent_words, sent_text, joined, text_of, IsOf, IsSent}
use Rattle.schedule_lines.specs.Parts.{parted}
use Rattle.schedule_lines.specs.Inside.{verb_word, command_word}
use Rattle.schedule_lines.proofs.LineLemmas.{same_verb, line_parted}
use Rattle.schedule_lines.proofs.SentLemmas.{sent_parted}
use Rattle.schedule_lines.proofs.EntryLemmas.{same_entry}

-- ---- fields

parts : {A : Type 0} {a b : A} {x y : List A} → a ∷ x ≡ b ∷ y → (a ≡ b) × (x ≡ y)
parts e = (cc, cc)

same_number : (m n : ℕ) → m ≤ 9223372036854775807 → n ≤ 9223372036854775807 → decimal m ≡ decimal n → m ≡ n
same_number m n p q e = decimal_injective m n (omega arith) (omega arith) e

same_key : (a b : List ℕ) → IsKey a → IsKey b → hex_text a ≡ hex_text b → a ≡ b
same_key a b p q e = hex_text_injective a b p.0 q.0 e

same_value : (a b : List ℕ) → IsValue a → IsValue b → hex_text a ≡ hex_text b → a ≡ b
same_value a b p q e = hex_text_injective a b p.0 q.0 e

same_from : (a b : Option (List ℕ)) → IsFrom a → IsFrom b → from_text a ≡ from_text b → a ≡ b
same_from None None p q e = refl
same_from None (Some k) p q e = let none : [] ≡ k = hex_text_injective [] k (λ i. omega arith) q.0 e in absurd (omega (arith, ap length none, q.1.0))
same_from (Some k) None p q e = let none : k ≡ [] = hex_text_injective k [] p.0 (λ i. omega arith) e in absurd (omega (arith, ap length none, p.1.0))
same_from (Some a) (Some b) p q e = ap (λ (k : List ℕ). Some k) (hex_text_injective a b p.0 q.0 e)

same_numbered : (letter m n : ℕ) → m ≤ 255 → n ≤ 255 → letter ∷ decimal m ≡ letter ∷ decimal n → m ≡ n
same_numbered letter m n p q e = same_number m n (omega arith) (omega arith) (parts e).1

abbrev first : List ℕ → ℕ
first [] = 0
first (b ∷ bs) = b

same_node : (a b : Node) → IsNode a → IsNode b → node_text a ≡ node_text b → a ≡ b
same_node (Master m) (Master n) p q e = ap (λ (k : ℕ). Master k) (same_numbered 109 m n p.1 q.1 e)
same_node (LogStore m) (LogStore n) p q e = ap (λ (k : ℕ). LogStore k) (same_numbered 108 m n p.1 q.1 e)
same_node (PageStore m) (PageStore n) p q e = ap (λ (k : ℕ). PageStore k) (same_numbered 112 m n p.1 q.1 e)
same_node LockManager LockManager p q e = refl
same_node (Replica m) (Replica n) p q e = ap (λ (k : ℕ). Replica k) (same_numbered 114 m n p.1 q.1 e)
same_node a b p q e = absurd (omega (arith, ap first e))

same_entries : (es fs : List VectorEntry) → AreEntries es → AreEntries fs → entry_words es ≡ entry_words fs → es ≡ fs
same_entries [] [] p q e = refl
same_entries [] (f ∷ fs) p q e = cc
same_entries (d ∷ es) [] p q e = cc
same_entries (d ∷ es) (f ∷ fs) p q e =
    let one = same_entry d f p.0.1 q.0.1 p.1.1 q.1.1 (parts e).0 in
    let more = same_entries es fs p.2 q.2 (parts e).1 in
    ap (λ (x : VectorEntry). x ∷ es) one ∙ ap (λ (xs : List VectorEntry). f ∷ xs) more

no_number : (n : ℕ) → n ≤ 9223372036854775807 → decimal n ≡ codes "all" → ⊥
no_number n small is = let digits : AllDigits 10 (codes "all") = subst (AllDigits 10) is (decimal_is_IsNumeral n (omega arith)).0.1 in omega (arith, digits.0)

no_node : (x : Node) → node_text x ≡ codes "all" → ⊥
no_node (Master n) is = omega (arith, ap first is)
no_node (LogStore n) is = omega (arith, ap first is)
no_node (PageStore n) is = omega (arith, ap first is)
no_node LockManager is = omega (arith, ap first is)
no_node (Replica n) is = omega (arith, ap first is)

-- ---- commands

abbrev verb_of_command : Command → CommandVerb
verb_of_command command.Begin = word.Begin
verb_of_command (command.Get table key) = word.Get
verb_of_command (command.Put table key value) = word.Put
verb_of_command (command.Del table key) = word.Del
verb_of_command command.Commit = word.Commit
verb_of_command command.Abort = word.Abort
verb_of_command (command.Recover writer) = word.Recover

abbrev first_of : List CommandVerb → List ℕ → Option CommandVerb
first_of [] w = None
first_of (v ∷ vs) w = cond (pointwise nat_eq (command_word v) w) (Some v) (first_of vs w)

abbrev named : List ℕ → Option CommandVerb
named w = first_of (word.Begin ∷ word.Get ∷ word.Put ∷ word.Del ∷ word.Commit ∷ word.Abort ∷ word.Recover ∷ []) w

verb_again : (v : CommandVerb) → named (command_word v) ≡ Some v
verb_again word.Begin = refl
verb_again word.Get = refl
verb_again word.Put = refl
verb_again word.Del = refl
verb_again word.Commit = refl
verb_again word.Abort = refl
verb_again word.Recover = refl

same_command_verb : (v w : CommandVerb) → command_word v ≡ command_word w → v ≡ w
same_command_verb v w is = let e : Some v ≡ Some w = sym (verb_again v) ∙ ap named is ∙ verb_again w in cc

command_begins : (c : Command) → (rest : List (List ℕ)) × (command_words c ≡ command_word (verb_of_command c) ∷ rest)
command_begins command.Begin = ([], refl)
command_begins (command.Get table key) = (decimal table ∷ hex_text key ∷ [], refl)
command_begins (command.Put table key value) = (decimal table ∷ hex_text key ∷ hex_text value ∷ [], refl)
command_begins (command.Del table key) = (decimal table ∷ hex_text key ∷ [], refl)
command_begins command.Commit = ([], refl)
command_begins command.Abort = ([], refl)
command_begins (command.Recover writer) = (decimal writer.0 ∷ [], refl)

command_by_verb : (a b : Command) → IsCommand a → IsCommand b → verb_of_command a ≡ verb_of_command b → command_words a ≡ command_words b → a ≡ b
command_by_verb command.Begin command.Begin p q e is = refl
command_by_verb (command.Get t k) (command.Get t' k') p q e is =
    let table = parts (parts is).1 in
    let key = parts table.1 in
    let x : t ≡ t' = same_number t t' (omega arith) (omega arith) table.0 in
    let y : k ≡ k' = same_key k k' p.1 q.1 key.0 in
    ap (λ (n : ℕ). command.Get n k) x ∙ ap (λ (n : List ℕ). command.Get t' n) y
command_by_verb (command.Put t k v) (command.Put t' k' v') p q e is =
    let table = parts (parts is).1 in
    let key = parts table.1 in
    let value = parts key.1 in
    let x : t ≡ t' = same_number t t' (omega arith) (omega arith) table.0 in
    let y : k ≡ k' = same_key k k' p.1 q.1 key.0 in
    let z : v ≡ v' = same_value v v' p.2 q.2 value.0 in
    ap (λ (n : ℕ). command.Put n k v) x ∙ ap (λ (n : List ℕ). command.Put t' n v) y ∙ ap (λ (n : List ℕ). command.Put t' k' n) z
command_by_verb (command.Del t k) (command.Del t' k') p q e is =
    let table = parts (parts is).1 in
    let key = parts table.1 in
    let x : t ≡ t' = same_number t t' (omega arith) (omega arith) table.0 in
    let y : k ≡ k' = same_key k k' p.1 q.1 key.0 in
    ap (λ (n : ℕ). command.Del n k) x ∙ ap (λ (n : List ℕ). command.Del t' n) y
command_by_verb command.Commit command.Commit p q e is = refl
command_by_verb command.Abort command.Abort p q e is = refl
command_by_verb (command.Recover w) (command.Recover w') p q e is =
    let x : w.0 ≡ w'.0 = same_number w.0 w'.0 (omega arith) (omega arith) (parts (parts is).1).0 in
    ap (λ (n : ℕ). command.Recover (record { 0 = n })) x
command_by_verb a b _ _ e _ = cc

same_command : (a b : Command) → IsCommand a → IsCommand b → command_words a ≡ command_words b → a ≡ b
same_command a b p q is =
    let x = command_begins a in
    let y = command_begins b in
    let begin : command_word (verb_of_command a) ∷ x.0 ≡ command_word (verb_of_command b) ∷ y.0 = sym x.1 ∙ is ∙ y.1 in
    command_by_verb a b p q (same_command_verb (verb_of_command a) (verb_of_command b) (parts begin).0) is

-- ---- lines

abbrev verb_of_line : Line → Verb
verb_of_line (line.World m p r) = verb.World
verb_of_line (line.Step (step.Do m s c)) = verb.Do
verb_of_line (line.Step (step.Deliver n)) = verb.Deliver
verb_of_line (line.Step (step.Lose n)) = verb.Lose
verb_of_line (line.Step (step.Tick x)) = verb.Tick
verb_of_line (line.Step (step.Stop x n)) = verb.Stop
verb_of_line (line.Step (step.Start x)) = verb.Start
verb_of_line (line.Step (step.Fail x k n)) = verb.Fail
verb_of_line (line.Step (step.Page n p s)) = verb.Page
verb_of_line (line.Step (step.Version n p s)) = verb.Version
verb_of_line (line.Step (step.Publish n v)) = verb.Publish
verb_of_line (line.Step (step.Lag n)) = verb.Lag
verb_of_line (line.Step (step.Get n p t k)) = verb.Get
verb_of_line (line.Step (step.Scan n p t f c)) = verb.Scan
verb_of_line (line.Drain n) = verb.Drain
verb_of_line line.LoseAll = verb.Lose
verb_of_line line.TickAll = verb.Tick
verb_of_line (line.Try a m s c) = verb.Try

line_begins : (l : Line) → (rest : List (List ℕ)) × (line_words l ≡ verb_word (verb_of_line l) ∷ rest)
line_begins (line.World m p r) = (decimal m ∷ decimal p ∷ decimal r ∷ [], refl)
line_begins (line.Step (step.Do m s c)) = (node_text (Master m) ∷ decimal s ∷ command_words c, refl)
line_begins (line.Step (step.Deliver n)) = (decimal n ∷ [], refl)
line_begins (line.Step (step.Lose n)) = (decimal n ∷ [], refl)
line_begins (line.Step (step.Tick x)) = (node_text x ∷ [], refl)
line_begins (line.Step (step.Stop x n)) = (node_text x ∷ decimal n ∷ [], refl)
line_begins (line.Step (step.Start x)) = (node_text x ∷ [], refl)
line_begins (line.Step (step.Fail x k n)) = (node_text x ∷ decimal k ∷ decimal n ∷ [], refl)
line_begins (line.Step (step.Page n p s)) = (node_text (PageStore n) ∷ decimal p.0 ∷ decimal s.0 ∷ [], refl)
line_begins (line.Step (step.Version n p s)) = (node_text (PageStore n) ∷ decimal p.0 ∷ decimal s.0 ∷ [], refl)
line_begins (line.Step (step.Publish n v)) = (node_text (Replica n) ∷ entry_words v, refl)
line_begins (line.Step (step.Lag n)) = (node_text (Replica n) ∷ [], refl)
line_begins (line.Step (step.Get n p t k)) = (node_text (Replica n) ∷ decimal p ∷ decimal t ∷ hex_text k ∷ [], refl)
line_begins (line.Step (step.Scan n p t f c)) = (node_text (Replica n) ∷ decimal p ∷ decimal t ∷ from_text f ∷ decimal c ∷ [], refl)
line_begins (line.Drain n) = (decimal n ∷ [], refl)
line_begins line.LoseAll = (codes "all" ∷ [], refl)
line_begins line.TickAll = (codes "all" ∷ [], refl)
line_begins (line.Try a m s c) = (decimal a ∷ node_text (Master m) ∷ decimal s ∷ command_words c, refl)

line_by_verb : (a b : Line) → IsLine a → IsLine b → verb_of_line a ≡ verb_of_line b → line_words a ≡ line_words b → a ≡ b
line_by_verb (line.World m p r) (line.World m' p' r') fit fit' e is =
    let w0 = parts (parts is).1 in
    let e0 : m ≡ m' = same_number m m' (omega arith) (omega arith) w0.0 in
    let w1 = parts w0.1 in
    let e1 : p ≡ p' = same_number p p' (omega arith) (omega arith) w1.0 in
    let w2 = parts w1.1 in
    let e2 : r ≡ r' = same_number r r' (omega arith) (omega arith) w2.0 in
    ap (λ (z : ℕ). line.World z p r) e0 ∙ ap (λ (z : ℕ). line.World m' z r) e1 ∙ ap (λ (z : ℕ). line.World m' p' z) e2
line_by_verb (line.Step (step.Do m s c)) (line.Step (step.Do m' s' c')) fit fit' e is =
    let w0 = parts (parts is).1 in
    let e0 : m ≡ m' = same_numbered 109 m m' (omega arith) (omega arith) w0.0 in
    let w1 = parts w0.1 in
    let e1 : s ≡ s' = same_number s s' (omega arith) (omega arith) w1.0 in
    let e2 : c ≡ c' = same_command c c' fit.2 fit'.2 w1.1 in
    ap (λ (z : ℕ). line.Step (step.Do z s c)) e0 ∙ ap (λ (z : ℕ). line.Step (step.Do m' z c)) e1 ∙ ap (λ (z : Command). line.Step (step.Do m' s' z)) e2
line_by_verb (line.Step (step.Deliver n)) (line.Step (step.Deliver n')) fit fit' e is =
    let w0 = parts (parts is).1 in
    let e0 : n ≡ n' = same_number n n' (omega arith) (omega arith) w0.0 in
    ap (λ (z : ℕ). line.Step (step.Deliver z)) e0
line_by_verb (line.Step (step.Lose n)) (line.Step (step.Lose n')) fit fit' e is =
    let w0 = parts (parts is).1 in
    let e0 : n ≡ n' = same_number n n' (omega arith) (omega arith) w0.0 in
    ap (λ (z : ℕ). line.Step (step.Lose z)) e0
line_by_verb (line.Step (step.Tick x)) (line.Step (step.Tick x')) fit fit' e is =
    let w0 = parts (parts is).1 in
    let e0 : x ≡ x' = same_node x x' fit fit' w0.0 in
    ap (λ (z : Node). line.Step (step.Tick z)) e0
line_by_verb (line.Step (step.Stop x n)) (line.Step (step.Stop x' n')) fit fit' e is =
    let w0 = parts (parts is).1 in
    let e0 : x ≡ x' = same_node x x' fit.0 fit'.0 w0.0 in
    let w1 = parts w0.1 in
    let e1 : n ≡ n' = same_number n n' (omega arith) (omega arith) w1.0 in
    ap (λ (z : Node). line.Step (step.Stop z n)) e0 ∙ ap (λ (z : ℕ). line.Step (step.Stop x' z)) e1
line_by_verb (line.Step (step.Start x)) (line.Step (step.Start x')) fit fit' e is =
    let w0 = parts (parts is).1 in
    let e0 : x ≡ x' = same_node x x' fit fit' w0.0 in
    ap (λ (z : Node). line.Step (step.Start z)) e0
line_by_verb (line.Step (step.Fail x k n)) (line.Step (step.Fail x' k' n')) fit fit' e is =
    let w0 = parts (parts is).1 in
    let e0 : x ≡ x' = same_node x x' fit.0 fit'.0 w0.0 in
    let w1 = parts w0.1 in
    let e1 : k ≡ k' = same_number k k' (omega arith) (omega arith) w1.0 in
    let w2 = parts w1.1 in
    let e2 : n ≡ n' = same_number n n' (omega arith) (omega arith) w2.0 in
    ap (λ (z : Node). line.Step (step.Fail z k n)) e0 ∙ ap (λ (z : ℕ). line.Step (step.Fail x' z n)) e1 ∙ ap (λ (z : ℕ). line.Step (step.Fail x' k' z)) e2
line_by_verb (line.Step (step.Page n p s)) (line.Step (step.Page n' p' s')) fit fit' e is =
    let w0 = parts (parts is).1 in
    let e0 : n ≡ n' = same_numbered 112 n n' (omega arith) (omega arith) w0.0 in
    let w1 = parts w0.1 in
    let e1 : p.0 ≡ p'.0 = same_number p.0 p'.0 (omega arith) (omega arith) w1.0 in
    let w2 = parts w1.1 in
    let e2 : s.0 ≡ s'.0 = same_number s.0 s'.0 (omega arith) (omega arith) w2.0 in
    ap (λ (z : ℕ). line.Step (step.Page z p s)) e0 ∙ ap (λ (z : ℕ). line.Step (step.Page n' (record { 0 = z }) s)) e1 ∙ ap (λ (z : ℕ). line.Step (step.Page n' p' (record { 0 = z }))) e2
line_by_verb (line.Step (step.Version n p s)) (line.Step (step.Version n' p' s')) fit fit' e is =
    let w0 = parts (parts is).1 in
    let e0 : n ≡ n' = same_numbered 112 n n' (omega arith) (omega arith) w0.0 in
    let w1 = parts w0.1 in
    let e1 : p.0 ≡ p'.0 = same_number p.0 p'.0 (omega arith) (omega arith) w1.0 in
    let w2 = parts w1.1 in
    let e2 : s.0 ≡ s'.0 = same_number s.0 s'.0 (omega arith) (omega arith) w2.0 in
    ap (λ (z : ℕ). line.Step (step.Version z p s)) e0 ∙ ap (λ (z : ℕ). line.Step (step.Version n' (record { 0 = z }) s)) e1 ∙ ap (λ (z : ℕ). line.Step (step.Version n' p' (record { 0 = z }))) e2
line_by_verb (line.Step (step.Publish n v)) (line.Step (step.Publish n' v')) fit fit' e is =
    let w0 = parts (parts is).1 in
    let e0 : n ≡ n' = same_numbered 114 n n' (omega arith) (omega arith) w0.0 in
    let e1 : v ≡ v' = same_entries v v' fit.2 fit'.2 w0.1 in
    ap (λ (z : ℕ). line.Step (step.Publish z v)) e0 ∙ ap (λ (z : List VectorEntry). line.Step (step.Publish n' z)) e1
line_by_verb (line.Step (step.Lag n)) (line.Step (step.Lag n')) fit fit' e is =
    let w0 = parts (parts is).1 in
    let e0 : n ≡ n' = same_numbered 114 n n' (omega arith) (omega arith) w0.0 in
    ap (λ (z : ℕ). line.Step (step.Lag z)) e0
line_by_verb (line.Step (step.Get n p t k)) (line.Step (step.Get n' p' t' k')) fit fit' e is =
    let w0 = parts (parts is).1 in
    let e0 : n ≡ n' = same_numbered 114 n n' (omega arith) (omega arith) w0.0 in
    let w1 = parts w0.1 in
    let e1 : p ≡ p' = same_number p p' (omega arith) (omega arith) w1.0 in
    let w2 = parts w1.1 in
    let e2 : t ≡ t' = same_number t t' (omega arith) (omega arith) w2.0 in
    let w3 = parts w2.1 in
    let e3 : k ≡ k' = same_key k k' fit.3 fit'.3 w3.0 in
    ap (λ (z : ℕ). line.Step (step.Get z p t k)) e0 ∙ ap (λ (z : ℕ). line.Step (step.Get n' z t k)) e1 ∙ ap (λ (z : ℕ). line.Step (step.Get n' p' z k)) e2 ∙ ap (λ (z : List ℕ). line.Step (step.Get n' p' t' z)) e3
line_by_verb (line.Step (step.Scan n p t f c)) (line.Step (step.Scan n' p' t' f' c')) fit fit' e is =
    let w0 = parts (parts is).1 in
    let e0 : n ≡ n' = same_numbered 114 n n' (omega arith) (omega arith) w0.0 in
    let w1 = parts w0.1 in
    let e1 : p ≡ p' = same_number p p' (omega arith) (omega arith) w1.0 in
    let w2 = parts w1.1 in
    let e2 : t ≡ t' = same_number t t' (omega arith) (omega arith) w2.0 in
    let w3 = parts w2.1 in
    let e3 : f ≡ f' = same_from f f' fit.3 fit'.3 w3.0 in
    let w4 = parts w3.1 in
    let e4 : c ≡ c' = same_number c c' (omega arith) (omega arith) w4.0 in
    ap (λ (z : ℕ). line.Step (step.Scan z p t f c)) e0 ∙ ap (λ (z : ℕ). line.Step (step.Scan n' z t f c)) e1 ∙ ap (λ (z : ℕ). line.Step (step.Scan n' p' z f c)) e2 ∙ ap (λ (z : Option (List ℕ)). line.Step (step.Scan n' p' t' z c)) e3 ∙ ap (λ (z : ℕ). line.Step (step.Scan n' p' t' f' z)) e4
line_by_verb (line.Drain n) (line.Drain n') fit fit' e is =
    let w0 = parts (parts is).1 in
    let e0 : n ≡ n' = same_number n n' (omega arith) (omega arith) w0.0 in
    ap (λ (z : ℕ). line.Drain z) e0
line_by_verb (line.Try a m s c) (line.Try a' m' s' c') fit fit' e is =
    let w0 = parts (parts is).1 in
    let e0 : a ≡ a' = same_number a a' (omega arith) (omega arith) w0.0 in
    let w1 = parts w0.1 in
    let e1 : m ≡ m' = same_numbered 109 m m' (omega arith) (omega arith) w1.0 in
    let w2 = parts w1.1 in
    let e2 : s ≡ s' = same_number s s' (omega arith) (omega arith) w2.0 in
    let e3 : c ≡ c' = same_command c c' fit.3 fit'.3 w2.1 in
    ap (λ (z : ℕ). line.Try z m s c) e0 ∙ ap (λ (z : ℕ). line.Try a' z s c) e1 ∙ ap (λ (z : ℕ). line.Try a' m' z c) e2 ∙ ap (λ (z : Command). line.Try a' m' s' z) e3
line_by_verb line.LoseAll line.LoseAll fit fit' e is = refl
line_by_verb line.TickAll line.TickAll fit fit' e is = refl
line_by_verb (line.Step (step.Lose n)) line.LoseAll fit fit' e is = absurd (no_number n (omega arith) (parts (parts is).1).0)
line_by_verb line.LoseAll (line.Step (step.Lose n)) fit fit' e is = absurd (no_number n (omega arith) (sym (parts (parts is).1).0))
line_by_verb (line.Step (step.Tick x)) line.TickAll fit fit' e is = absurd (no_node x (parts (parts is).1).0)
line_by_verb line.TickAll (line.Step (step.Tick x)) fit fit' e is = absurd (no_node x (sym (parts (parts is).1).0))
line_by_verb (line.World m p r) (line.Step (step.Lose n)) _ _ e _ = cc
line_by_verb (line.Drain k) (line.Step (step.Lose n)) _ _ e _ = cc
line_by_verb (line.Try a m s c) (line.Step (step.Lose n)) _ _ e _ = cc
line_by_verb a b _ _ e _ = cc

pub lines_differ : (a b : Line) → HasText a → HasText b → text_of a ≡ text_of b → a ≡ b
lines_differ a b p q is =
    let words : line_words a ≡ line_words b = sym (line_parted a p.ranges) ∙ ap parted is ∙ line_parted b q.ranges in
    let x = line_begins a in
    let y = line_begins b in
    let begin : verb_word (verb_of_line a) ∷ x.0 ≡ verb_word (verb_of_line b) ∷ y.0 = sym x.1 ∙ words ∙ y.1 in
    line_by_verb a b p.ranges q.ranges (same_verb (verb_of_line a) (verb_of_line b) (parts begin).0) words

-- ---- commands of a node

-- the words of a line, of the command and the node
abbrev with_node : Node → List (List ℕ) → List (List ℕ)
with_node (Master n) ws = codes "do" ∷ node_text (Master n) ∷ ws
with_node node [] = []
with_node node (w ∷ ws) = w ∷ node_text node ∷ ws

own_words : (node : Node) (s : Step) → IsOf node s → step_words s ≡ with_node node (sent_words s)
own_words (Master n) (step.Do master session c) own = ap (λ (k : ℕ). codes "do" ∷ node_text (Master k) ∷ decimal session ∷ command_words c) (sym own)
own_words (PageStore n) (step.Page store page stamp) own = ap (λ (k : ℕ). codes "page" ∷ node_text (PageStore k) ∷ decimal page.0 ∷ decimal stamp.0 ∷ []) (sym own)
own_words (PageStore n) (step.Version store page stamp) own = ap (λ (k : ℕ). codes "version" ∷ node_text (PageStore k) ∷ decimal page.0 ∷ decimal stamp.0 ∷ []) (sym own)
own_words (Replica n) (step.Publish replica bound) own = ap (λ (k : ℕ). codes "publish" ∷ node_text (Replica k) ∷ entry_words bound) (sym own)
own_words (Replica n) (step.Lag replica) own = ap (λ (k : ℕ). codes "lag" ∷ node_text (Replica k) ∷ []) (sym own)
own_words (Replica n) (step.Get replica point table key) own =
    ap (λ (k : ℕ). codes "get" ∷ node_text (Replica k) ∷ decimal point ∷ decimal table ∷ hex_text key ∷ []) (sym own)
own_words (Replica n) (step.Scan replica point table from count) own =
    ap (λ (k : ℕ). codes "scan" ∷ node_text (Replica k) ∷ decimal point ∷ decimal table ∷ from_text from ∷ decimal count ∷ []) (sym own)
own_words node s own = absurd own

pub commands_differ : (node : Node) (s t : Step) → IsSent node s → IsSent node t → sent_text s ≡ sent_text t → s ≡ t
commands_differ node s t p q is =
    let sent : sent_words s ≡ sent_words t = sym (sent_parted node s p) ∙ ap parted is ∙ sent_parted node t q in
    let words : step_words s ≡ step_words t = own_words node s p.own ∙ ap (with_node node) sent ∙ sym (own_words node t q.own) in
    let same : line.Step s ≡ line.Step t = lines_differ (line.Step s) (line.Step t) p.line q.line (ap joined words) in
    cc
