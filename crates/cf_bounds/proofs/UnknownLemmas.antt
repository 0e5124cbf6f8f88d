-- With the same unknowns rows have the same parts.
use Rattle.std.proofs.Common.{◌≡◌, ℕ, List, [], ◌∷◌, ◌++◌, not, ◌||◌, refl, ◌∙◌, ap, ap₂}
use Rattle.std.specs.Prelude.{filter, map}
use Rattle.std.specs.List.{fold}
use Rattle.std.proofs.lemmas.List.Elements.{filter_agree}
use Rattle.cf_linear.specs.Rows.{Row}
use Rattle.cf_linear.specs.Systems.{System, need_zero, need_nonneg}
use Rattle.cf_linear.specs.Steps.{has_column, has_unknown, unknown_part, known_part, tighten_row, Tightened, next_tightened, then_tighten, tighten_all}
use Rattle.cf_linear.specs.Unknowns.{HaveSame}
use Rattle.cf_bounds.specs.Cleaning.{needs_of, tightened}

module _ (us vs : List ℕ) (s : HaveSame us vs) where
  has_same : (r : Row) → has_unknown us r ≡ has_unknown vs r
  has_same [] = refl
  has_same ((c, k) ∷ r) = ap₂ (λ a b. a || b) (s.each c) (has_same r)

  unknown_same : (r : Row) → unknown_part us r ≡ unknown_part vs r
  unknown_same r = filter_agree (λ (c, k). has_column us c) (λ (c, k). has_column vs c) (λ (c, k). s.each c) r

  known_same : (r : Row) → known_part us r ≡ known_part vs r
  known_same r = filter_agree (λ (c, k). not (has_column us c)) (λ (c, k). not (has_column vs c)) (λ (c, k). ap not (s.each c)) r

  row_same : (n : ℕ) (r : Row) → tighten_row us n r ≡ tighten_row vs n r
  row_same n r = rw (unknown_same r, known_same r) refl

  all_same : (t : Tightened) (rows : List Row) → fold (then_tighten us) t rows ≡ fold (then_tighten vs) t rows
  all_same t [] = refl
  all_same t (r ∷ rows) =
      ap (λ x. fold (then_tighten us) (next_tightened t x) rows) (row_same t.next r) ∙ all_same (next_tightened t (tighten_row vs t.next r)) rows

  pub held_same : (rows : List Row) → filter (has_unknown us) rows ≡ filter (has_unknown vs) rows
  held_same rows = filter_agree (has_unknown us) (has_unknown vs) has_same rows

  bare_same : (rows : List Row) → filter (λ r. not (has_unknown us r)) rows ≡ filter (λ r. not (has_unknown vs r)) rows
  bare_same rows = filter_agree (λ r. not (has_unknown us r)) (λ r. not (has_unknown vs r)) (λ r. ap not (has_same r)) rows

  pub tightened_same : (m : System) → tightened us m ≡ tightened vs m
  tightened_same m = ap (tighten_all us m.next) (held_same m.inequalities) ∙ all_same _ (filter (has_unknown vs) m.inequalities)

  pub needs_same : (m : System) → needs_of us m ≡ needs_of vs m
  needs_same m = ap₂ (λ a b. map need_zero a ++ map need_nonneg b) (bare_same m.equations) (bare_same m.inequalities)
