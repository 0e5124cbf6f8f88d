-- The end of an equation that stands anywhere.
use Rattle.std.proofs.Common.{◌≡◌, ℕ, zero, suc, List, [], ◌∷◌, ◌++◌, Some, refl, sym, subst, inl, take, drop}
use Rattle.std.specs.Prelude.{slice_get}
use Rattle.cf_linear.specs.Rows.{Row, Values, Rises, IsRow}
use Rattle.cf_linear.specs.Systems.{System, Answer, EachRow, Sat}
use Rattle.cf_linear.specs.Steps.{present, last}
use Rattle.cf_linear.specs.Keep.{In, Over, IsColumn, Formed}
use Rattle.cf_linear.specs.Solved.{Owes}
use Rattle.cf_linear.proofs.KindLemmas.{IsZero}
use Rattle.cf_equation.proofs.StepLaws.{In-present, only_unknown, last_owes, last_formed}
use Rattle.cf_elim.proofs.StageSmall.{RowsSmall}

-- ---- one row of a list before the others
module _ (Q : Row → Type 0) where
  pub to_front : (rows : List Row) (i : ℕ) (e : Row) → slice_get rows i ≡ Some e → EachRow Q rows → EachRow Q (e ∷ (take i rows ++ drop (suc i) rows))
  to_front [] i e s h = cc
  to_front (r ∷ rows) zero e s h = let q : r ≡ e = cc in subst (λ x. EachRow Q (x ∷ rows)) q h
  to_front (r ∷ rows) (suc i) e s h = let f = to_front rows i e s h.1 in (f.0, (h.0, f.1))

  pub from_front : (rows : List Row) (i : ℕ) (e : Row) → slice_get rows i ≡ Some e → EachRow Q (e ∷ (take i rows ++ drop (suc i) rows)) → EachRow Q rows
  from_front [] i e s h = cc
  from_front (r ∷ rows) zero e s h = let q : r ≡ e = cc in subst (λ x. EachRow Q (x ∷ rows)) (sym q) h
  from_front (r ∷ rows) (suc i) e s h = (h.1.0, from_front rows i e s (h.0, h.1.1))

-- the system with these equations
abbrev pub with_equations : System → List Row → System
with_equations m rows = record { known = m.known; unknown = m.unknown; next = m.next; equations = rows; inequalities = m.inequalities; needs = m.needs }

module _ (m : System) (i : ℕ) (e : Row) (s : slice_get m.equations i ≡ Some e) where
  abbrev rest : List Row
  rest = take i m.equations ++ drop (suc i) m.equations

  abbrev pub front : System
  front = with_equations m (e ∷ rest)

  sat_front : (v : Values) → Sat m v → Sat front v
  sat_front v h = record { zero = to_front (IsZero v) m.equations i e s h.zero; nonneg = h.nonneg }

  sat_back : (v : Values) → Sat front v → Sat m v
  sat_back v h = record { zero = from_front (IsZero v) m.equations i e s h.zero; nonneg = h.nonneg }

  pub formed_front : Formed m → Formed front
  formed_front f = record {
    constant = f.constant;
    below = f.below;
    unknown_below = f.unknown_below;
    apart = f.apart;
    zero = to_front (Over (IsColumn m)) m.equations i e s f.zero;
    nonneg = f.nonneg;
    zero_rise = to_front (Rises 0) m.equations i e s f.zero_rise;
    nonneg_rise = f.nonneg_rise;
  }

  pub rows_front : RowsSmall m → RowsSmall front
  rows_front h = record { zero = to_front IsRow m.equations i e s h.zero; nonneg = h.nonneg }

  owes_from : (a : Answer) → Owes front a → Owes m a
  owes_from a o = record {
    keeps = record {
      forth = λ v one h. o.keeps.forth v one (sat_front v h);
      back = λ v one w f h. sat_back _ (o.keeps.back v one w f h);
    };
    kept = o.kept;
    columns = record {
      constant = o.columns.constant;
      below = o.columns.below;
      grows = o.columns.grows;
      bound_known = o.columns.bound_known;
      let_known = o.columns.let_known;
      only = o.columns.only;
      over = o.columns.over;
      bounds_rise = o.columns.bounds_rise;
      lets_rise = o.columns.lets_rise;
      apart = o.columns.apart;
    };
  }

  pub last_front : (u : ℕ) → last front e rest u ≡ last m e rest u
  unfolding last
  last_front u = refl

  -- an equation with one unknown
  module _ (u : ℕ) (f : Formed m) (p : present m.unknown e ≡ u ∷ []) where
    pub alone_in : In u m.unknown
    alone_in = (In-present u m.unknown e (subst (λ xs. In u xs) (sym p) (inl refl))).0

    pub over_at : Over (IsColumn m) e
    over_at = (to_front (Over (IsColumn m)) m.equations i e s f.zero).0

    pub last_at_owes : Owes m (last m e rest u)
    last_at_owes =
        let g = formed_front f in
        let q = In-present u m.unknown e (subst (λ xs. In u xs) (sym p) (inl refl)) in
        subst (Owes m) (last_front u) (owes_from (last front e rest u) (last_owes front e rest u g refl q.0 q.1
        (only_unknown front e u g.zero.0 g.zero_rise.0 p)))

    pub last_at_formed : Formed (last m e rest u).system
    last_at_formed =
        let g = formed_front f in
        subst (λ (a : Answer). Formed a.system) (last_front u) (last_formed front e rest u g refl (only_unknown front e u g.zero.0 g.zero_rise.0 p))
