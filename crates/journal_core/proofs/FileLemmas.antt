-- What the steps of an append and of an opening make of a file, and what a crash leaves in them.
use Rattle.std.proofs.Common.{◌≡◌, ◌≢◌, inl, inr, ℕ, ◌+◌, ◌≤◌, List, [], ◌∷◌, ◌++◌, length, get_or, take, drop, refl, sym, ◌∙◌, ap, subst, arith, append_assoc, length-append, length-take, take-append-drop}
use Rattle.std.specs.Int.{w32, to_be_bytes}
use Rattle.std.specs.declared.result.Result.TheVariants.{Ok}
use Rattle.std.proofs.lemmas.Bool.{cases_eq}
use Rattle.std.proofs.lemmas.Bool.Decides.{nat_tests}
use Rattle.std.proofs.lemmas.Nat.{from_be_bytes-to_be_bytes_4}
use Rattle.std.proofs.lemmas.List.{append-nil, take_at, drop_at, take_all, drop_all, get_or_at}
use Rattle.tm_disks.specs.Disk.{Holds, Torn, Cut}
use Rattle.journal_core.specs.Reading.{max_body, opened, bodies_of, bodies_in, IsBeforeOrAfter, kept, with_record}
use Rattle.journal_core.specs.Inside.{AreRecords, IsAtRest, IsParsed}
use Rattle.journal_core.proofs.ReadingLemmas.{no_records, one_more, opens, parts}

-- records and an end gate are at rest
pub rest_of : (front : List ℕ) (bodies : List (List ℕ)) (gate : ℕ) (file : List ℕ) (end : ℕ) → AreRecords front bodies → gate ≢ 1 → file ≡ front ++ gate ∷ [] → end ≡ length front
    → IsAtRest file end × (opened file ≡ Ok bodies)
rest_of front bodies gate file end are shut is place =
    let reads : opened file ≡ Ok bodies = ap opened is ∙ opens front bodies gate [] are shut in
    let same : bodies_in file ≡ bodies = ap bodies_of reads in
    let front_is : take end file ≡ front = ap (λ (l : List ℕ). take end l) is ∙ take_at front (gate ∷ []) end (sym place) in
    let gate_is : get_or file end 0 ≡ gate = ap (λ (l : List ℕ). get_or l end 0) is ∙ get_or_at front gate [] 0 end (sym place) in (
      record {
        size = ap length is ∙ omega (arith, length-append front (gate ∷ []), place);
        shut = λ open_gate. shut (sym gate_is ∙ open_gate);
        front = subst (λ (p : List ℕ × List (List ℕ)). AreRecords p.0 p.1) (λ i. (sym front_is i, sym same i)) are;
      },
      reads,
    )

pub short_opens : (c : List ℕ) → length c ≤ 1 → opened c ≡ Ok []
short_opens c short = grind (arith, nat_tests)

pub kept_short : (c : List ℕ) (end : ℕ) → length c ≤ 1 → kept c end ≡ 0 ∷ []
kept_short c end short = grind (arith, nat_tests)

pub kept_long : (c : List ℕ) (end : ℕ) → 2 ≤ length c → kept c end ≡ take (end + 1) c
kept_long c end long = grind (arith, nat_tests)

-- ---- an append

module _ (file : List ℕ) (end : ℕ) (rest : IsAtRest file end) where
  abbrev front : List ℕ
  front = take end file

  abbrev gate : ℕ
  gate = get_or file end 0

  long : length front ≡ end
  long = omega (arith, length-take end file, rest.size)

  split : file ≡ front ++ gate ∷ []
  split = parts file end (omega (arith, rest.size)) ∙ ap (λ (l : List ℕ). front ++ gate ∷ l) (drop_all (end + 1) file (omega (arith, rest.size)))

  -- the end gate stands in each outcome of the first write
  pub torn_behind : (n : ℕ) (c : List ℕ) → Torn (end + 1) n file c → opened c ≡ Ok (bodies_in file)
  torn_behind n c torn =
      let start : take (end + 1) c ≡ front ++ gate ∷ [] = torn.before ∙ take_all (end + 1) file (omega (arith, rest.size)) ∙ split in
      let whole : c ≡ front ++ gate ∷ drop (end + 1) c =
      sym (take-append-drop (end + 1) c) ∙ ap (λ (l : List ℕ). l ++ drop (end + 1) c) start ∙ append_assoc front (gate ∷ []) (drop (end + 1) c) in
      ap opened whole ∙ opens front (bodies_in file) gate (drop (end + 1) c) rest.front rest.shut

  pub written_behind : (bytes new : List ℕ) → Holds file (end + 1) bytes new → new ≡ front ++ gate ∷ bytes
  written_behind bytes new holds =
      holds
      ∙ ap (λ (l : List ℕ). l ++ bytes ++ drop (end + 1 + length bytes) file) (take_all (end + 1) file (omega (arith, rest.size)))
      ∙ ap (λ (l : List ℕ). file ++ bytes ++ l) (drop_all (end + 1 + length bytes) file (omega (arith, rest.size)))
      ∙ append-nil (file ++ bytes)
      ∙ ap (λ (l : List ℕ). l ++ bytes) split
      ∙ append_assoc front (gate ∷ []) bytes

  staged : (bytes : List ℕ) → front ++ gate ∷ bytes ≡ (front ++ gate ∷ []) ++ bytes
  staged bytes = sym (append_assoc front (gate ∷ []) bytes)

  back : (bytes : List ℕ) → drop (end + 1) (front ++ gate ∷ bytes) ≡ bytes
  back bytes = ap (λ (l : List ℕ). drop (end + 1) l) (staged bytes) ∙ drop_at (front ++ gate ∷ []) bytes (end + 1) (omega (arith, long, length-append front (gate ∷ [])))

  pub long_staged : (bytes : List ℕ) → length (front ++ gate ∷ bytes) ≡ end + 1 + length bytes
  long_staged bytes = omega (arith, long, length-append front (gate ∷ bytes))

  -- what was written stands whole in each outcome of the second write
  torn_gate : (bytes c : List ℕ) → Torn end 1 (front ++ gate ∷ bytes) c → c ≡ front ++ get_or c end 0 ∷ bytes
  torn_gate bytes c torn =
      let start : take end c ≡ front = torn.before ∙ take_at front (gate ∷ bytes) end long in
      let behind : drop (end + 1) c ≡ bytes = torn.after ∙ back bytes in
      parts c end (omega (arith, torn.no_shorter, long_staged bytes)) ∙ (λ i. start i ++ get_or c end 0 ∷ behind i)

  pub written_gate : (bytes new : List ℕ) → Holds (front ++ gate ∷ bytes) end (1 ∷ []) new → new ≡ front ++ 1 ∷ bytes
  written_gate bytes new holds =
      holds
      ∙ ap (λ (l : List ℕ). l ++ (1 ∷ []) ++ drop (end + 1) (front ++ gate ∷ bytes)) (take_at front (gate ∷ bytes) end long)
      ∙ ap (λ (l : List ℕ). front ++ (1 ∷ []) ++ l) (back bytes)
      ∙ append_assoc front (1 ∷ []) bytes

  module _ (body : List ℕ) (short : length body ≤ max_body) where
    abbrev hdr : List ℕ
    hdr = to_be_bytes w32 (length body)

    abbrev bytes : List ℕ
    bytes = (hdr ++ body) ++ 0 ∷ []

    abbrev more : List ℕ
    more = front ++ 1 ∷ (hdr ++ body)

    are_more : AreRecords more (bodies_in file ++ body ∷ [])
    are_more = one_more front (bodies_in file) hdr body rest.front refl (from_be_bytes-to_be_bytes_4 (length body) (omega (arith, short))) short

    open_gate : front ++ 1 ∷ bytes ≡ more ++ 0 ∷ []
    open_gate = sym (append_assoc front (1 ∷ (hdr ++ body)) (0 ∷ []))

    no_gate : ◌≢◌ {A = ℕ} 0 1
    no_gate = λ is. absurd (omega (arith, is))

    gate_leaves : (c : List ℕ) (g : ℕ) → c ≡ front ++ g ∷ bytes → IsBeforeOrAfter (bodies_in file) body c
    gate_leaves c g is = elim (cases_eq g 1) [
      | inl one ↦
          let all : c ≡ more ++ 0 ∷ [] = is ∙ ap (λ (k : ℕ). front ++ k ∷ bytes) one ∙ open_gate in
          inr (ap opened all ∙ opens more (bodies_in file ++ body ∷ []) 0 [] are_more no_gate)
      | inr shut ↦ inl (ap opened is ∙ opens front (bodies_in file) g bytes rest.front shut)
    ]

    pub torn_open : (c : List ℕ) → Torn end 1 (front ++ gate ∷ bytes) c → IsBeforeOrAfter (bodies_in file) body c
    torn_open c torn = gate_leaves c (get_or c end 0) (torn_gate bytes c torn)

    pub rests_again : (new : List ℕ) → new ≡ front ++ 1 ∷ bytes → IsAtRest new (end + (5 + length body)) × (opened new ≡ Ok (bodies_in file ++ body ∷ []))
    rests_again new is = rest_of more (bodies_in file ++ body ∷ []) 0 new (end + (5 + length body)) are_more no_gate (is ∙ open_gate)
        (omega (arith, long, length-append front (1 ∷ (hdr ++ body)), length-append hdr body))

    pub record_stands : (new : List ℕ) → new ≡ front ++ 1 ∷ bytes → new ≡ with_record file body
    record_stands new is = is ∙ ap (λ (k : ℕ). take k file ++ 1 ∷ bytes) (omega (arith, rest.size))

-- ---- an opening

-- a new journal
pub begun_leaves : (file c : List ℕ) → length file ≤ 1 → Torn 0 1 file c → opened c ≡ Ok []
begun_leaves file c short torn = short_opens c (omega (arith, short, torn.no_longer))

pub begun : (file new : List ℕ) → length file ≤ 1 → Holds file 0 (0 ∷ []) new → new ≡ 0 ∷ []
begun file new short holds = holds ∙ ap (λ (l : List ℕ). 0 ∷ l) (drop_all 1 file short)

pub begun_rests : (new : List ℕ) → new ≡ 0 ∷ [] → IsAtRest new 0 × (opened new ≡ Ok [])
begun_rests new is = rest_of [] [] 0 new 0 no_records (λ one. absurd (omega (arith, one))) is refl

-- the end of a file
module _ (file : List ℕ) (bodies : List (List ℕ)) (end : ℕ) (parsed : IsParsed file bodies end) where
  abbrev records : List ℕ
  records = take end file

  abbrev end_gate : ℕ
  end_gate = get_or file end 0

  tall : length records ≡ end
  tall = omega (arith, length-take end file, parsed.inside)

  top : take (end + 1) file ≡ records ++ end_gate ∷ []
  top =
      ap (λ (l : List ℕ). take (end + 1) l) (parts file end parsed.inside ∙ sym (append_assoc records (end_gate ∷ []) (drop (end + 1) file)))
      ∙ take_at (records ++ end_gate ∷ []) (drop (end + 1) file) (end + 1) (omega (arith, tall, length-append records (end_gate ∷ [])))

  pub cut_leaves : (c : List ℕ) → Cut (end + 1) file c → opened c ≡ Ok bodies
  cut_leaves c cut =
      let whole : c ≡ records ++ end_gate ∷ drop (end + 1) c =
      sym (take-append-drop (end + 1) c) ∙ ap (λ (l : List ℕ). l ++ drop (end + 1) c) (cut.front ∙ top) ∙ append_assoc records (end_gate ∷ []) (drop (end + 1) c) in
      ap opened whole ∙ opens records bodies end_gate (drop (end + 1) c) parsed.front parsed.shut

  pub cut_rests : (new : List ℕ) → new ≡ take (end + 1) file → IsAtRest new end × (opened new ≡ Ok bodies)
  cut_rests new is = rest_of records bodies end_gate new end parsed.front parsed.shut (is ∙ top) (sym tall)
