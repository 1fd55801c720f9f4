-- Lists of words.
use Rattle.std.proofs.Common.{◌≡◌, ℕ, List, ◌∷◌, Option, Some, None, IfSome, IfNone}
use Rattle.tm_base.specs.declared.command.Command.{Command}
use Rattle.tm_base.specs.declared.command.Command.TheVariants as command
use Rattle.schedule_lines.specs.declared.verb.CommandVerb.{CommandVerb}
use Rattle.schedule_lines.specs.declared.verb.CommandVerb.TheVariants as verb
use Rattle.schedule_lines.specs.Lines.{command_words}
use Rattle.schedule_lines.specs.Inside.{command_word}

pub if_none : {A : Type 0} {P : Type 0} (o : Option A) → P → IfNone o P
if_none None p = p
if_none (Some x) p = tt

pub some_weaker : {A : Type 0} {P Q : A → Type 0} (o : Option A) → ((x : A) → P x → Q x) → IfSome o P → IfSome o Q
some_weaker None f p = tt
some_weaker (Some x) f p = f x p

pub none_weaker : {A : Type 0} {P Q : Type 0} (o : Option A) → (P → Q) → IfNone o P → IfNone o Q
none_weaker None f p = f p
none_weaker (Some x) f p = tt

-- what two readings of words have behind their first word, behind their second, and behind their third
pub second : {A : Type 0} {ws us zs : List A} {a x : A} → ws ≡ a ∷ us → ws ≡ x ∷ zs → us ≡ zs
second p q = cc

pub third : {A : Type 0} {ws us vs zs : List A} {a b x y : A} → ws ≡ a ∷ us → us ≡ b ∷ vs → ws ≡ x ∷ y ∷ zs → vs ≡ zs
third p q r = cc

pub fourth : {A : Type 0} {ws us vs ts zs : List A} {a b c x y z : A} → ws ≡ a ∷ us → us ≡ b ∷ vs → vs ≡ c ∷ ts → ws ≡ x ∷ y ∷ z ∷ zs → ts ≡ zs
fourth p q r s = cc

pub no_command_begins : (ws : List (List ℕ)) (word : List ℕ) (rest : List (List ℕ)) → ws ≡ word ∷ rest → ((v : CommandVerb) → word ≡ command_word v → ⊥)
    → (c : Command) → ws ≡ command_words c → ⊥
no_command_begins ws word rest is none command.Begin e = none verb.Begin cc
no_command_begins ws word rest is none (command.Get table key) e = none verb.Get cc
no_command_begins ws word rest is none (command.Put table key value) e = none verb.Put cc
no_command_begins ws word rest is none (command.Del table key) e = none verb.Del cc
no_command_begins ws word rest is none command.Commit e = none verb.Commit cc
no_command_begins ws word rest is none command.Abort e = none verb.Abort cc
no_command_begins ws word rest is none (command.Recover writer) e = none verb.Recover cc
