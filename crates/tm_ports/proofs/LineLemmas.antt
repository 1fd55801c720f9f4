-- Lines in the buffer of a reader.
use Rattle.std.proofs.Common.{◌≡◌, ◌≢◌, ◌∙◌, ℕ, ◌+◌, ◌-◌, ◌<◌, ◌≤◌, List, [], ◌∷◌, ◌++◌, length, take, drop, refl, sym, ap, subst, arith, append_assoc}
use Rattle.std.proofs.Math.Seq.{take-add, take-append-add, drop-append_seam}
use Rattle.std.proofs.lemmas.List.{take-take, take-append-drop, take_all, drop-drop, drop-take, take_at, length-take-le, length-take, length-drop, take-append-le}
use Rattle.std.proofs.lemmas.List.Elements.{All-append, All-drop, All-head}
use Rattle.std.proofs.KnownBytes.{Consumes-trans, Consumes-kept}
use Rattle.std.specs.Io.KnownBytes.{Consumes, Keeps, IsAtEnd}
use Rattle.std.specs.declared.option.Option.{Option}
use Rattle.tm_ports.specs.Found.{Finds, IsRest}
use Rattle.tm_ports.specs.Lines.{HasLine, IsLine, IsHeld, Holds, IsTooLong, IsShortLine}
use Rattle.tm_ports.specs.declared.lines.Found.{Found}
use Rattle.tm_ports.specs.declared.lines.Found.TheVariants.{Line, Last, End}

-- no line feed in the first a bytes, and none in the b behind them
pub line_joined : (bytes : List ℕ) (a b : ℕ) → IsLine (take a bytes) → IsLine (take b (drop a bytes)) → IsLine (take (a + b) bytes)
line_joined bytes a b first second = subst IsLine (sym (take-add a b bytes)) (All-append (λ byte. byte ≢ 10) (take a bytes) (take b (drop a bytes)) first second)

-- the first n bytes of the part of a buffer that a scan looks at
pub scanned_part : (buffer : List ℕ) (start held clear n : ℕ) → clear + n ≤ held
    → take n (take (start + held - (start + clear)) (drop (start + clear) buffer)) ≡ take n (drop clear (drop start buffer))
scanned_part buffer start held clear n inside =
    let enough : n ≤ start + held - (start + clear) = omega arith in
    take-take n (start + held - (start + clear)) (drop (start + clear) buffer) enough ∙ ap (take n) (sym (drop-drop clear start buffer))

-- n more bytes were looked at, and have no line feed
pub held_clear : (buffer : List ℕ) (start held clear n : ℕ) → IsHeld buffer start held clear → clear + n ≤ held
    → IsLine (take n (take (start + held - (start + clear)) (drop (start + clear) buffer))) → IsHeld buffer start held (clear + n)
held_clear buffer start held clear n so inside scanned =
    record {
      size = so.size;
      inside = so.inside;
      seen = inside;
      clean = line_joined (drop start buffer) clear n so.clean (subst IsLine (scanned_part buffer start held clear n inside) scanned);
    }

-- what has no line feed, as a part of what is held
pub clear_part : (buffer : List ℕ) (start held clear : ℕ) → IsHeld buffer start held clear → IsLine (take clear (take held (drop start buffer)))
clear_part buffer start held clear so = subst IsLine (sym (take-take clear held (drop start buffer) so.seen)) so.clean

-- behind the first n held bytes the others are held
pub held_after : (buffer : List ℕ) (start held n : ℕ) → n ≤ held → take (held - n) (drop (start + n) buffer) ≡ drop n (take held (drop start buffer))
held_after buffer start held n inside =
    let whole : n + (held - n) ≡ held = omega arith in
    ap (take (held - n)) (sym (drop-drop n start buffer)) ∙ sym (drop-take n (held - n) (drop start buffer)) ∙ ap (λ m. drop n (take m (drop start buffer))) whole

-- what a read put behind the first `held` bytes of a buffer is held behind them
pub held_more : (buffer more rest : List ℕ) (held n : ℕ) → held ≤ length buffer → n ≤ length more
    → take (held + n) (take held buffer ++ (more ++ rest)) ≡ take held buffer ++ take n more
held_more buffer more rest held n inside enough =
    let size : length (take held buffer) ≡ held = length-take-le held buffer inside in
    ap (λ m. take (m + n) (take held buffer ++ (more ++ rest))) (sym size) ∙ take-append-add (take held buffer) (more ++ rest) n
    ∙ ap (λ l. take held buffer ++ l) (take-append-le n more rest enough)

-- a scan doesn't go past what is held
pub scan_bound : (bytes : List ℕ) (start held clear n : ℕ) → clear ≤ held → n ≤ length (take (start + held - (start + clear)) bytes) → clear + n ≤ held
scan_bound bytes start held clear n seen within = omega (arith, length-take (start + held - (start + clear)) bytes)

-- a buffer that was filled behind what it held, which now stands in front
pub held_filled : (buffer new rest input : List ℕ) (len start held clear m : ℕ) → IsHeld buffer start held clear → length new ≡ len → length new ≡ length buffer
    → held ≤ m → m ≤ length new → take m new ≡ take held (drop start buffer) ++ input → IsHeld (take len (new ++ rest)) 0 m clear
held_filled buffer new rest input len start held clear m so size same more inside filled =
    let whole : take len (new ++ rest) ≡ new = take_at new rest len size in
    let held_size : length (take held (drop start buffer)) ≡ held = length-take-le held (drop start buffer) (omega (arith, so.inside, length-drop start buffer)) in
    let front : take clear (drop start buffer) ≡ take clear new =
    sym (take-take clear held (drop start buffer) so.seen) ∙ sym (take-append-le clear (take held (drop start buffer)) input (omega (arith, so.seen, held_size)))
    ∙ ap (take clear) (sym filled) ∙ take-take clear m new (omega (arith, so.seen))
    in
    subst (λ (l : List ℕ). IsHeld l 0 m clear) (sym whole) (record {
      size = same ∙ so.size;
      inside = omega arith;
      seen = omega (arith, so.seen);
      clean = subst IsLine front so.clean;
    })

-- nothing was handed out in either of two steps
pub holds_more : (a b c : Option (List ℕ)) (held mid now input : List ℕ) → Holds a b held mid → Consumes b c input → now ≡ mid ++ input → Holds a c held now
holds_more a b c held mid now input so read is =
    record {
      input = so.input ++ input;
      read = Consumes-trans a b c so.input input so.read read;
      all = sym (append_assoc held so.input input) ∙ ap (λ l. l ++ input) so.all ∙ sym is;
    }

-- a step that failed read nothing
pub holds_kept : (a b c : Option (List ℕ)) (held mid now : List ℕ) → Holds a b held mid → Keeps b c → now ≡ mid → Holds a c held now
holds_kept a b c held mid now so kept is = record { input = so.input; read = Consumes-kept a b c so.input so.read kept; all = so.all ∙ sym is }

-- a first line that is too long
pub too_long : (bytes : List ℕ) (n : ℕ) → IsLine (take n bytes) → n ≤ length bytes → 8192 < n → IsTooLong bytes
too_long bytes n line within long =
    record { front = take n bytes; rest = drop n bytes; whole = sym (take-append-drop n bytes); line = line; long = omega (arith, length-take n bytes) }

-- what is held has no line feed and isn't too long
pub short_line : (bytes : List ℕ) (n : ℕ) → IsLine (take n bytes) → length bytes ≤ n → n ≤ 8192 → IsShortLine bytes
short_line bytes n line all short = record { one = subst IsLine (take_all n bytes all) line; short = omega arith }

-- what is handed out where the source is at its end
pub finds_rest : (a b : Option (List ℕ)) (held mid now : List ℕ) (answer : Found) → Holds a b held mid → IsAtEnd b → IsShortLine mid → IsRest answer mid → now ≡ [] → Finds a b held now answer
finds_rest a b held mid now (Line line) so end fits rest empty = absurd rest
finds_rest a b held mid now End so end fits rest empty = record { input = so.input; read = so.read; found = record { none = so.all ∙ rest; empty = empty; ended = end } }
finds_rest a b held mid now (Last line) so end fits rest empty =
    record {
      input = so.input;
      read = so.read;
      found = record {
        fits = subst IsShortLine (sym rest.0) fits;
        some = subst (λ l. l ≢ []) (sym rest.0) rest.1;
        whole = so.all ∙ sym rest.0;
        empty = empty;
        ended = end;
      };
    }

-- a line with its line feed isn't all line
pub not_all_line : (bytes : List ℕ) → IsLine bytes → HasLine bytes → ⊥
not_all_line bytes clean has =
    let all : IsLine (has.line ++ 10 ∷ has.rest) = subst IsLine has.whole clean in
    let behind : IsLine (10 ∷ has.rest) = subst IsLine (drop-append_seam has.line (10 ∷ has.rest)) (All-drop (λ byte. byte ≢ 10) (length has.line) (has.line ++ 10 ∷ has.rest) all) in
    All-head (λ byte. byte ≢ 10) 10 has.rest behind refl

-- what was looked at to its end, and has no line feed, isn't a line that is ready
pub not_ready : (now held : List ℕ) (end : ℕ) → IsLine (take end held) → length held ≤ end → held ≡ now → HasLine now → ⊥
not_ready now held end clean all same has = not_all_line now (subst IsLine (take_all end held all ∙ same) clean) has
