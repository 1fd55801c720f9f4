-- The order of places, with its laws.
use Rattle.std.specs.Prelude.{ℕ, refl}
use Rattle.std.specs.Ordering.{nat_cmp, ordering_then}
use Rattle.std.specs.Cmp.{IsTotalOrder, nat_cmp_total}
use Rattle.std.specs.Coded.{Coded, code_by, coded×, coded_ℕ}
use Rattle.std.specs.FinMap.{IsAntisymmetric}
use Rattle.std.proofs.Common.{ap}
use Rattle.std.proofs.lemmas.Cmp.{then_total, on_total}
use Rattle.std.proofs.lemmas.Map.Lookups.{exact_pairs, exact_unsigned}
use Rattle.std.specs.declared.cmp.Ordering.{Ordering}
use Rattle.version_chain.specs.declared.places.Place.{Place}
use Rattle.version_chain.specs.declared.places.Written.{Written}

-- A page at a stamp.
abbrev pub place_at : ℕ → ℕ → Place
place_at page stamp = record { stamp = record { 0 = stamp }; page = record { 0 = page } }

abbrev pub place_pair : Place → ℕ × ℕ
place_pair p = (p.stamp.0, p.page.0)

abbrev pub pair_place : ℕ × ℕ → Place
pair_place p = place_at p.1 p.0

-- By stamp, and then by page.
abbrev pub place_cmp : Place → Place → Ordering
place_cmp a b = ordering_then (nat_cmp a.stamp.0 b.stamp.0) (nat_cmp a.page.0 b.page.0)

abbrev pub coded_place : Coded Place
coded_place = code_by (ℕ × ℕ) (coded× coded_ℕ coded_ℕ) place_pair pair_place (λ _. refl)

-- Places that compare alike are one.
pub place_cmp-exact : IsAntisymmetric place_cmp
place_cmp-exact a b h = ap pair_place (exact_pairs nat_cmp nat_cmp exact_unsigned exact_unsigned (place_pair a) (place_pair b) h)

pub place_cmp-total : IsTotalOrder place_cmp
place_cmp-total = then_total (on_total (λ p. p.stamp.0) nat_cmp_total) (on_total (λ p. p.page.0) nat_cmp_total)

-- A place where a writer has a record.
abbrev pub written_at : ℕ → Place → Written
written_at writer at = record { writer = record { 0 = writer }; at = at }

-- By writer, and then by place.
abbrev pub written_cmp : Written → Written → Ordering
written_cmp a b = ordering_then (nat_cmp a.writer.0 b.writer.0) (place_cmp a.at b.at)

pub written_cmp-exact : IsAntisymmetric written_cmp
written_cmp-exact a b h = ap (λ (p : ℕ × Place). written_at p.0 p.1) (exact_pairs nat_cmp place_cmp exact_unsigned place_cmp-exact (a.writer.0, a.at) (b.writer.0, b.at) h)

pub written_cmp-total : IsTotalOrder written_cmp
written_cmp-total = then_total (on_total (λ w. w.writer.0) nat_cmp_total) (on_total (λ w. w.at) place_cmp-total)

abbrev pub coded_written : Coded Written
coded_written = code_by (ℕ × (ℕ × ℕ)) (coded× coded_ℕ (coded× coded_ℕ coded_ℕ)) (λ w. (w.writer.0, place_pair w.at)) (λ p. written_at p.0 (pair_place p.1)) (λ _. refl)
