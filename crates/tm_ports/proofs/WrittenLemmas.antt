-- Writes one after another.
use Rattle.std.proofs.Common.{◌≡◌, ◌∙◌, ℕ, ◌<◌, ◌≤◌, arith, List, [], ◌++◌, length, take, drop, sym, ap, subst, refl, append_assoc, append-nil, length-append}
use Rattle.std.proofs.lemmas.List.{take-append-drop}
use Rattle.std.proofs.Math.Seq.{take-append_seam}
use Rattle.std.proofs.KnownBytes.{Appends-trans, Appends-nil, Appends-kept}
use Rattle.std.specs.Io.KnownBytes.{Appends, Keeps}
use Rattle.std.specs.declared.option.Option.{Option}
use Rattle.tm_ports.specs.Faults.{SinkCause}
use Rattle.tm_ports.specs.Writes.{TakesFront}
use Rattle.tm_ports.specs.declared.sink.SinkError.{SinkError}
use Rattle.tm_ports.specs.declared.sink.SinkError.TheVariants.{Failed, NoMemory}

-- of these bytes a sink took all but a rest
pub record Written (old new : Option (List ℕ)) (bytes rest : List ℕ) : Type 0 where
  pub front : List ℕ
  pub whole : front ++ rest ≡ bytes
  pub taken : Appends old new front

pub nothing_written : (old : Option (List ℕ)) (bytes : List ℕ) → Written old old bytes bytes
nothing_written old bytes = record { front = []; whole = refl; taken = Appends-nil old }

-- n more bytes
pub written_more : (a b c : Option (List ℕ)) (bytes rest : List ℕ) (n : ℕ) → Written a b bytes rest → Appends b c (take n rest) → Written a c bytes (drop n rest)
written_more a b c bytes rest n so more =
    record {
      front = so.front ++ take n rest;
      whole = append_assoc so.front (take n rest) (drop n rest) ∙ ap (λ l. so.front ++ l) (take-append-drop n rest) ∙ so.whole;
      taken = Appends-trans a b c so.front (take n rest) so.taken more;
    }

-- a write that took nothing
pub front_taken : (a b c : Option (List ℕ)) (bytes rest : List ℕ) → Written a b bytes rest → Keeps b c → 0 < length rest → TakesFront a c bytes
front_taken a b c bytes rest so kept some =
    let front : take (length so.front) bytes ≡ so.front = ap (take (length so.front)) (sym so.whole) ∙ take-append_seam so.front rest in
    record {
      count = length so.front;
      short = omega (arith, length-append so.front rest, ap length so.whole);
      taken = subst (λ l. Appends a c l) (sym front) (Appends-kept a b c so.front so.taken kept);
    }

pub all_written : (a b : Option (List ℕ)) (bytes rest : List ℕ) → Written a b bytes rest → rest ≡ [] → Appends a b bytes
all_written a b bytes rest so none =
    subst (λ l. Appends a b l) (sym (append-nil so.front) ∙ ap (λ l. so.front ++ l) (sym none) ∙ so.whole) so.taken

-- a count that rose in a later call rose since an earlier moment
pub cause_since : (e : SinkError) (before mid now : ℕ) → before ≤ mid → SinkCause e mid now → SinkCause e before now
cause_since Failed before mid now earlier rose = omega arith
cause_since NoMemory before mid now earlier later = tt
