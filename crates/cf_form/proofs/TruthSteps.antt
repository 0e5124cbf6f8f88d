-- One more step of the loop over number forms.
use Rattle.std.proofs.Common.{◌≡◌, ℕ, ◌+◌, ◌<◌, Bool, true, false, List, [], ◌∷◌, ◌++◌, length, map, take, get_or, refl, sym, ap, ◌∙◌}
use Rattle.std.specs.Prelude.{◌||◌}
use Rattle.std.proofs.lemmas.List.{map_more}
use Rattle.cf_form.specs.declared.wide.WideTerm.{WideTerm as DeclaredTerm}
use Rattle.cf_form.specs.Wide.{WideTerm, term_has_truth, some_has_truth}
use Rattle.cf_form.specs.WideView.{wides_of, wide_term, wide_terms}

or_or : (a b c : Bool) → (a || (b || c)) ≡ ((a || b) || c)
or_or true b c = refl
or_or false b c = refl

or_false : (b : Bool) → (b || false) ≡ b
or_false true = refl
or_false false = refl

one_more : (x : ℕ) (ts : List WideTerm) (t : WideTerm) → some_has_truth x (wides_of (ts ++ t ∷ [])) ≡ (some_has_truth x (wides_of ts) || term_has_truth x t)
one_more x [] t = or_false (term_has_truth x t)
one_more x (u ∷ ts) t =
    ap (λ b. term_has_truth x u || b) (one_more x ts t) ∙ or_or (term_has_truth x u) (some_has_truth x (wides_of ts)) (term_has_truth x t)

pub truth_next : (x : ℕ) (ts : List DeclaredTerm) (i : ℕ) (t : DeclaredTerm) → i < length ts → t ≡ get_or ts i t →
    some_has_truth x (wide_terms (take (i + 1) ts)) ≡ (some_has_truth x (wide_terms (take i ts)) || term_has_truth x (wide_term t))
truth_next x ts i t l e =
    ap (λ us. some_has_truth x (wides_of us)) (map_more wide_term ts i t l ∙ ap (λ u. map wide_term (take i ts) ++ wide_term u ∷ []) (sym e))
    ∙ one_more x (map wide_term (take i ts)) (wide_term t)
