-- An environment in which the parameters have the values of a sample.
use Rattle.std.proofs.Common.{◌≡◌, ℕ, zero, suc, ◌+◌, ◌<◌, ◌==◌, pos, true, false, cond, List, [], ◌∷◌, length, map, subst, refl, sym, ◌∙◌, arith}
use Rattle.std.specs.List.{range_with_len}
use Rattle.std.proofs.lemmas.Bool.{cond_both, eqb-true}
use Rattle.std.proofs.lemmas.List.{length-map, ext_get_or}
use Rattle.std.proofs.lemmas.List.FromFn.{length-map-range_with_len, get_or-map-range_with_len}
use Rattle.cf_tree.specs.declared.base.Base.{Base}
use Rattle.cf_tree.specs.declared.base.Base.TheVariants.{Int, Bool as Truth, Set}
use Rattle.cf_tree.specs.Occurs.{rel_holds}
use Rattle.cf_tree.specs.RelTree.{RelTree}
use Rattle.cf_tree.specs.Values.{Value, number, truth, elements, value_at, HasBase, HaveBases}
use Rattle.cf_tree.proofs.SetLemmas.{on_bool}
use Rattle.cf_linear.specs.Layout.{place, has_level}
use Rattle.cf_cases.specs.Holding.{EachOf}
use Rattle.cf_venn.proofs.AgreeLaws.{at_place}
use Rattle.cf_venn.proofs.ColumnLaws.{place_within}
use Rattle.cf_venn.proofs.LevelLaws.{Up, up_filter, by_places, same_each, length_have}
use Rattle.cf_warn.specs.Questions.{parameters, base_at, parameter_bases}
use Rattle.cf_warn.specs.Solutions.{IsAt}
use Rattle.cf_warn.proofs.TwiceLaws.{have_at, each_within}

abbrev default : Base → Value
default Int = number (pos 0)
default Truth = truth false
default Set = elements []

has_default : (b : Base) → HasBase b (default b)
has_default Int = (pos 0, refl)
has_default Truth = (false, refl)
has_default Set = ([], refl, tt)

have_listed : (bs : List Base) (n : ℕ) (f : ℕ → Value) → ((i : ℕ) → i < length bs → HasBase (base_at bs i) (f (n + i))) →
    HaveBases bs (map f (range_with_len n (length bs)))
have_listed [] n f h = tt
have_listed (b ∷ bs) n f h =
    let z : n + 0 ≡ n = omega arith in (
      subst (λ x. HasBase b (f x)) z (h 0 (omega arith)),
      have_listed bs (n + 1) f (λ i l. let s : n + suc i ≡ n + 1 + i = omega arith in subst (λ x. HasBase (base_at bs i) (f x)) s (h (suc i) (omega arith))),
    )

up_range : (a n : ℕ) → Up a (range_with_len a n)
up_range a zero = tt
up_range a (suc n) = let s : a + 1 ≡ suc a = omega arith in (omega arith, subst (λ m. Up m (range_with_len (a + 1) n)) s (up_range (a + 1) n))

each_has : (P : ℕ → Type 0) (xs : List ℕ) (x : ℕ) → EachOf P xs → has_level xs x ≡ true → P x
each_has P [] x e h = absurd (cc)
each_has P (y ∷ xs) x e h = on_bool (y == x) (λ t. subst P (eqb-true y x t) e.0) (λ t. each_has P xs x e.1 (rw t at h))

listed_again : (vs : List Value) (n : ℕ) → length vs ≡ n → map (value_at vs) (range_with_len 0 n) ≡ vs
listed_again vs n e =
    let size = length-map-range_with_len (value_at vs) 0 n in
    ext_get_or (number (pos 0)) (map (value_at vs) (range_with_len 0 n)) vs (size ∙ sym e)
    (λ i l. get_or-map-range_with_len (value_at vs) 0 n i i (number (pos 0)) (omega arith) (omega arith))

module _ (scope : List Base) (rel : RelTree) (sample : List Value) (have : HaveBases (parameter_bases scope rel) sample) where
  -- the sample's values at the parameters, and others elsewhere
  abbrev value_of : ℕ → Value
  value_of x = cond (has_level (parameters scope rel) x) (value_at sample (place x (parameters scope rel))) (default (base_at scope x))

  has_value : (x : ℕ) → HasBase (base_at scope x) (value_of x)
  has_value x =
      cond_both (has_level (parameters scope rel) x) (value_at sample (place x (parameters scope rel))) (default (base_at scope x))
      (λ v. HasBase (base_at scope x) v)
      (λ h.
      let p = place_within x (parameters scope rel) h in
      let l = length-map (parameters scope rel) (base_at scope) in
      subst (λ b. HasBase b (value_at sample (place x (parameters scope rel)))) (at_place (base_at scope) Int (parameters scope rel) x h)
      (have_at (parameter_bases scope rel) sample (place x (parameters scope rel)) have (omega arith)))
      (λ h. has_default (base_at scope x))

  value_when : (x : ℕ) → has_level (parameters scope rel) x ≡ true → value_of x ≡ value_at sample (place x (parameters scope rel))
  value_when x h = rw h refl

  pub sample_somewhere : (env : List Value) × IsAt scope rel sample env
  sample_somewhere =
      let env = map value_of (range_with_len 0 (length scope)) in
      let size = length_have (parameter_bases scope rel) sample have ∙ length-map (parameters scope rel) (base_at scope) in
      let same : map (value_at env) (parameters scope rel) ≡ sample =
      same_each (value_at env) (λ x. value_at sample (place x (parameters scope rel))) (parameters scope rel)
      (λ x h. get_or-map-range_with_len value_of 0 (length scope) x x (number (pos 0))
      (each_has (λ y. y < length scope) (parameters scope rel) x (each_within scope rel) h) (omega arith)
      ∙ value_when x h)
      ∙ by_places (value_at sample) 0 (parameters scope rel) (up_filter (λ x. rel_holds x rel) 0 (range_with_len 0 (length scope)) (up_range 0 (length scope)))
      ∙ listed_again sample (length (parameters scope rel)) size in (
        env,
        record {
          bases = have_listed scope 0 value_of (λ i l. let z : i ≡ 0 + i = omega arith in
              subst (λ x. HasBase (base_at scope i) (value_of x)) z (has_value i));
          same = same;
        },
      )
