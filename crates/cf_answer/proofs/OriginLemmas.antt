-- What the numbers of chooses are of.
use Rattle.std.proofs.Common.{◌≡◌, ◌≢◌, ℕ, zero, suc, ◌<◌, inl, inr, List, [], ◌∷◌, Ok, Err, Result, IfOk, IfErr, length, map, get_or, All, refl, sym, ap, ◌∙◌, subst, arith}
use Rattle.std.specs.Prelude.{flat_map, Contains}
use Rattle.std.specs.List.Sorted.{IsNonDecreasingBy, IsSearchInRange, IsBinarySearchResult}
use Rattle.std.specs.Ordering.{nat_cmp, ordering_index}
use Rattle.std.proofs.lemmas.Bool.{cases_order}
use Rattle.std.proofs.lemmas.Bool.Decides.{nat_tests}
use Rattle.std.proofs.lemmas.Cmp.{ranked}
use Rattle.std.proofs.lemmas.List.Elements.{All-contains, All-head, All-tail, Contains-append_cases, Contains-append_left, Contains-append_right, Contains-get_or}
use Rattle.std.proofs.lemmas.List.Sorted.{Contains-permutation, IsPermutation-sym}
use Rattle.cf_match.specs.Matches.{MatchTree, match_tree}
use Rattle.cf_match.specs.declared.lowered.MatchInfo.{MatchInfo}
use Rattle.cf_answer.specs.Checks.{IsMatch, IsArm, IsOwn}
use Rattle.cf_answer.specs.Checking.{AreMatches}

-- what a search by a number finds
module _ {X : Type 0} (key : X → ℕ) (xs : List X) (r : IsNonDecreasingBy key xs) (n : ℕ) where
  comparisons_rise : IsNonDecreasingBy (λ x. ordering_index (nat_cmp (key x) n)) xs
  comparisons_rise i j d l m = let keys = r i j d l m in grind (arith, nat_tests)

  pub searched : (s : Result ℕ ℕ) → IsSearchInRange s (length xs) → IsBinarySearchResult (λ x. nat_cmp (key x) n) xs s →
      IfOk s (λ i. (i < length xs) × ((d : X) → key (get_or xs i d) ≡ n)) × IfErr s (λ _. All (λ x. key x ≢ n) xs)
  searched (Ok i) b h = ((b, λ d. ranked _ n _ (sym (h d))), tt)
  searched (Err i) b h = (
    tt,
    λ k d l e.
        elim (cases_order k i) as (λ _. ⊥) [
          | inl same ↦ let more : n < key (get_or xs k d) = ranked _ n _ (sym ((h comparisons_rise).1 k d (omega (arith, same)) l)) in omega (arith, more, e)
          | inr s ↦ elim s as (λ _. ⊥) [
            | inl less ↦ let low : key (get_or xs k d) < n = ranked _ n _ (sym ((h comparisons_rise).0 k d (omega arith) less)) in omega (arith, low, e)
            | inr past ↦ let more : n < key (get_or xs k d) = ranked _ n _ (sym ((h comparisons_rise).1 k d (omega (arith, past)) l)) in omega (arith, more, e)
          ]
        ],
  )

abbrev arms_in : List MatchInfo → List ℕ
arms_in infos = flat_map (λ m. m.arms.items) infos

-- one more in front
later : {X : Type 0} (y : X) (xs : List X) (x : X) → Contains xs x → Contains (y ∷ xs) x
later y xs x h = (suc h.0, omega (arith, h.1), h.2)

-- the match that has an arm
arm_match : (infos : List MatchInfo) (n : ℕ) → Contains (arms_in infos) n → (m : MatchTree) × Contains (map match_tree infos) m × IsArm m n
arm_match [] n h = absurd (omega (arith, h.1))
arm_match (info ∷ infos) n h =
    elim (Contains-append_cases info.arms.items (arms_in infos) n h) [
      | inl here ↦ (match_tree info, (0, omega arith, refl), here)
      | inr there ↦ let m = arm_match infos n there in (m.0, later (match_tree info) (map match_tree infos) m.0 m.1, m.2)
    ]

match_arm_in : (infos : List MatchInfo) (m : MatchTree) (n : ℕ) → Contains (map match_tree infos) m → IsArm m n → Contains (arms_in infos) n
match_arm_in [] m n h a = absurd (omega (arith, h.1))
match_arm_in (info ∷ infos) m n (zero, lt, is) a = Contains-append_left info.arms.items (arms_in infos) n (subst (λ v. IsArm v n) (sym is) a)
match_arm_in (info ∷ infos) m n (suc k, lt, is) a =
    Contains-append_right info.arms.items (arms_in infos) n (match_arm_in infos m n (k, omega (arith, lt), is) a)

no_match_of : (infos : List MatchInfo) (m : MatchTree) (n : ℕ) → All (λ i. i.number ≢ n) infos → Contains (map match_tree infos) m → IsMatch m n → ⊥
no_match_of [] m n absent h e = omega (arith, h.1)
no_match_of (info ∷ infos) m n absent (zero, lt, is) e = All-head (λ i. i.number ≢ n) info infos absent (ap (λ v. v.number) is ∙ e)
no_match_of (info ∷ infos) m n absent (suc k, lt, is) e = no_match_of infos m n (All-tail (λ i. i.number ≢ n) info infos absent) (k, omega (arith, lt), is) e

match_at : (infos : List MatchInfo) (i : ℕ) (d : MatchInfo) → i < length infos → Contains (map match_tree infos) (match_tree (get_or infos i d))
match_at [] i d h = absurd (omega (arith, h))
match_at (info ∷ infos) zero d h = (0, omega arith, refl)
match_at (info ∷ infos) (suc i) d h =
    later (match_tree info) (map match_tree infos) (match_tree (get_or infos i d)) (match_at infos i d (omega (arith, h)))

-- ---- origins
module _ (infos : List MatchInfo) (arms : List ℕ) (h : AreMatches infos arms) where
  pub found_match : (i n : ℕ) (x : MatchInfo) → x ≡ get_or infos i x → i < length infos → ((d : MatchInfo) → (get_or infos i d).number ≡ n) →
      Contains (map match_tree infos) (match_tree x) × IsMatch (match_tree x) n
  found_match i n x is lt same = (
    subst (λ v. Contains (map match_tree infos) (match_tree v)) (sym is) (match_at infos i x lt),
    ap (λ v. v.number) is ∙ same x,
  )

  pub found_arm : (i n : ℕ) → (i < length arms) × ((d : ℕ) → get_or arms i d ≡ n) → (m : MatchTree) × Contains (map match_tree infos) m × IsArm m n
  found_arm i n found =
      let here : Contains arms n = subst (Contains arms) (found.1 0) (Contains-get_or arms i 0 found.0) in
      arm_match infos n (Contains-permutation arms (arms_in infos) n (IsPermutation-sym (arms_in infos) arms h.arms_are) here)

  pub found_none : (n : ℕ) → All (λ m. m.number ≢ n) infos → All (λ k. k ≢ n) arms → IsOwn (map match_tree infos) n
  found_none n no_match no_arm m c = (
    no_match_of infos m n no_match c,
    λ a.
        All-contains (λ k. k ≢ n) arms n no_arm (Contains-permutation (arms_in infos) arms n h.arms_are (match_arm_in infos m n c a)) refl,
  )
