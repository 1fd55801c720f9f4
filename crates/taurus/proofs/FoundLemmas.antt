-- What a reader of lines found, where it is known what that is.
use Rattle.std.proofs.Common.{◌≡◌, ◌≢◌, ◌∙◌, ℕ, List, [], ◌∷◌, ◌++◌, Option, sym, ap, subst}
use Rattle.std.specs.Io.KnownBytes.{IsAtEnd}
use Rattle.tm_ports.specs.Found.{Finds}
use Rattle.tm_ports.specs.declared.lines.Found.{Found}
use Rattle.tm_ports.specs.declared.lines.Found.TheVariants.{Line, Last, End}
use Rattle.taurus.specs.Inside.{TakesLine, TakesLast, TakesEnd, TakesSome}

module _ (L1 L2 : Option (List ℕ)) (held held' : List ℕ) (found : Found) (finds : Finds L1 L2 held held' found) where
  pub line_taken : (line same : List ℕ) → found ≡ Line line → line ≡ same → TakesLine L1 L2 held held' same
  line_taken line same is e =
      let so = subst (λ (f : Found). Finds L1 L2 held held' f) (is ∙ ap Line e) finds in
      record { input = so.input; read = so.read; one = so.found.fits.one; whole = so.found.whole }

  pub last_taken : (line same : List ℕ) → found ≡ Last line → line ≡ same → TakesLast L1 L2 held same
  last_taken line same is e =
      let so = subst (λ (f : Found). Finds L1 L2 held held' f) (is ∙ ap Last e) finds in
      record { input = so.input; read = so.read; one = so.found.fits.one; whole = so.found.whole; some = so.found.some; ended = so.found.ended }

  pub end_taken : found ≡ End → TakesEnd L1 L2 held
  end_taken is =
      let so = subst (λ (f : Found). Finds L1 L2 held held' f) is finds in
      record { input = so.input; read = so.read; none = so.found.none; ended = so.found.ended }

  pub some_line : (line : List ℕ) → found ≡ Line line → TakesSome L1 L2 held
  some_line line is =
      let so = subst (λ (f : Found). Finds L1 L2 held held' f) is finds in
      record { input = so.input; read = so.read; some = λ none. not_empty line (held') (sym so.found.whole ∙ none) }
    where
      not_empty : (a b : List ℕ) → a ++ 10 ∷ b ≡ [] → ⊥
      not_empty [] b e = cc
      not_empty (x ∷ a) b e = cc

  pub some_last : (line : List ℕ) → found ≡ Last line → TakesSome L1 L2 held
  some_last line is =
      let so = subst (λ (f : Found). Finds L1 L2 held held' f) is finds in
      record { input = so.input; read = so.read; some = λ none. so.found.some (sym so.found.whole ∙ none) }
