-- One row after the other in the place of its column, from the last one on.
use Rattle.std.proofs.Common.{◌≡◌, ℕ, zero, suc, ◌+◌, ◌<◌, [], ◌∷◌, List, refl, sym, ◌∙◌, ap, subst, get_or, length, drop, drop-cons, add-one}
use Rattle.cf_linear.specs.Parts.{IsRowFault}
use Rattle.cf_linear.specs.Rows.{Row, subst_passes}
use Rattle.cf_linear.specs.declared.refusal.RowFault.{RowFault}
use Rattle.cf_formula.specs.declared.substitution.Replacement.{Replacement}
use Rattle.cf_formula.specs.SubstitutionView.{pairs_of}
use Rattle.cf_formula.specs.Turns.{subst_rows, rows_pass}
use Rattle.cf_formula.proofs.RewritingCode.{first_fault, second_fault}

-- a fault on the way from the last ones is one on the whole way
earlier_fault : (rs : List Replacement) (i : ℕ) (row : Row) (e : RowFault) → IsRowFault (rows_pass (pairs_of (drop i rs)) row) e →
    IsRowFault (rows_pass (pairs_of rs) row) e
earlier_fault rs zero row e h = h
earlier_fault [] (suc i) row e h = h
earlier_fault (r ∷ rs) (suc i) row e h =
    first_fault (rows_pass (pairs_of rs) row) (subst_passes r.column r.row (subst_rows (pairs_of rs) row)) e (earlier_fault rs i row e h)

pub put_fault : (rs : List Replacement) (i n : ℕ) (r : Replacement) (row put : Row) (e : RowFault) → i < length rs → n ≡ i + 1 → r ≡ get_or rs i r →
    put ≡ subst_rows (pairs_of (drop n rs)) row → IsRowFault (subst_passes r.column r.row put) e → IsRowFault (rows_pass (pairs_of rs) row) e
put_fault rs i n r row put e h m g p f =
    let d : drop i rs ≡ get_or rs i r ∷ drop n rs = rw (m, add-one, drop-cons rs i r) refl in
    let k : drop i rs ≡ r ∷ drop n rs = d ∙ ap (λ (x : Replacement). x ∷ drop n rs) (sym g) in
    let q : IsRowFault (subst_passes r.column r.row (subst_rows (pairs_of (drop n rs)) row)) e =
    subst (λ s. IsRowFault (subst_passes r.column r.row s) e) p f in
    earlier_fault rs i row e (subst (λ s. IsRowFault (rows_pass (pairs_of s) row) e) (sym k)
    (second_fault (rows_pass (pairs_of (drop n rs)) row) (subst_passes r.column r.row (subst_rows (pairs_of (drop n rs)) row)) e q))
