-- What a line did, and why it did not.
use Rattle.std.proofs.Common.{◌≡◌, ◌∙◌, ℕ, List, ◌++◌, Some, Option, take, drop, take-append-drop, refl, sym, ap, subst}
use Rattle.tm_ports.specs.Writes.{TakesFront}
use Rattle.net_world.specs.World.{State}
use Rattle.taurus.specs.Inside.{DoesStep, Does, Interrupts}

pub does_some : (old : Option State) (w : State) (line : List ℕ) (new : Option State) (after : State) (text : List ℕ) → old ≡ Some w → new ≡ Some after → DoesStep w line after text → Does old line new text
does_some old w line new after text is so does = subst (λ o. Does o line new text) (sym is) (after, so, does)

pub interrupted : (old : Option State) (line : List ℕ) (new : Option State) (text bytes : List ℕ) (T1 T2 : Option (List ℕ)) → Does old line new text → bytes ≡ text → TakesFront T1 T2 bytes → Interrupts old line T1 T2
interrupted old line new text bytes T1 T2 does is so =
    record {
      new = new;
      text = text;
      does = does;
      front = take so.count bytes;
      unwritten = drop so.count bytes;
      whole = sym is ∙ sym (take-append-drop so.count bytes);
      written = so.taken;
    }
