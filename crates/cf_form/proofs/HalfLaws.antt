-- Trees of halves: all of some relations hold, or some of them does.
use Rattle.std.specs.Prelude.{ℕ, zero, suc, ◌/◌, ◌<◌, ◌≤◌, ◌⊎◌, ◌↔◌, List, [], ◌∷◌, ◌++◌, length, take, drop}
use Rattle.std.proofs.Common.{arith, inl, inr}
use Rattle.std.proofs.Math.Nat.{div-add-mod, mod-lt}
use Rattle.std.proofs.lemmas.List.{length-take-le, length-drop}
use Rattle.cf_tree.specs.Relation.{Holds}
use Rattle.cf_tree.specs.RelTree.{RelTree, rel_true, rel_false, rel_and, rel_or}
use Rattle.cf_tree.specs.Values.{Value}
use Rattle.cf_form.specs.Alternatives.{halves_within, all_of, some_of}

abbrev pub HoldAll : List RelTree → List Value → Type 0
HoldAll [] env = Unit {0}
HoldAll (r ∷ rs) env = Holds r env × HoldAll rs env

abbrev pub HoldSome : List RelTree → List Value → Type 0
HoldSome [] env = ⊥
HoldSome (r ∷ rs) env = Holds r env ⊎ HoldSome rs env

pub all_joined : (rs ss : List RelTree) (env : List Value) → HoldAll rs env → HoldAll ss env → HoldAll (rs ++ ss) env
all_joined [] ss env h k = k
all_joined (r ∷ rs) ss env h k = (h.0, all_joined rs ss env h.1 k)

pub all_apart : (rs ss : List RelTree) (env : List Value) → HoldAll (rs ++ ss) env → HoldAll rs env × HoldAll ss env
all_apart [] ss env h = (tt, h)
all_apart (r ∷ rs) ss env h = let p = all_apart rs ss env h.1 in ((h.0, p.0), p.1)

both_halves : (n : ℕ) (rs : List RelTree) (env : List Value) → HoldAll (take n rs) env → HoldAll (drop n rs) env → HoldAll rs env
both_halves zero rs env h k = k
both_halves (suc n) [] env h k = tt
both_halves (suc n) (r ∷ rs) env h k = (h.0, both_halves n rs env h.1 k)

each_half : (n : ℕ) (rs : List RelTree) (env : List Value) → HoldAll rs env → HoldAll (take n rs) env × HoldAll (drop n rs) env
each_half zero rs env h = (tt, h)
each_half (suc n) [] env h = (tt, tt)
each_half (suc n) (r ∷ rs) env h = let p = each_half n rs env h.1 in ((h.0, p.0), p.1)

some_half : (n : ℕ) (rs : List RelTree) (env : List Value) → HoldSome rs env → HoldSome (take n rs) env ⊎ HoldSome (drop n rs) env
some_half zero rs env h = inr h
some_half (suc n) [] env h = absurd h
some_half (suc n) (r ∷ rs) env h =
    elim h [
      | inl p ↦ inl (inl p)
      | inr s ↦ elim (some_half n rs env s) as (λ _. HoldSome (take (suc n) (r ∷ rs)) env ⊎ HoldSome (drop (suc n) (r ∷ rs)) env) [
        | inl q ↦ inl (inr q)
        | inr q ↦ inr q
      ]
    ]

left_half : (n : ℕ) (rs : List RelTree) (env : List Value) → HoldSome (take n rs) env → HoldSome rs env
left_half zero rs env h = absurd h
left_half (suc n) [] env h = absurd h
left_half (suc n) (r ∷ rs) env h = elim h as (λ _. HoldSome (r ∷ rs) env) [ inl p ↦ inl p | inr q ↦ inr (left_half n rs env q) ]

right_half : (n : ℕ) (rs : List RelTree) (env : List Value) → HoldSome (drop n rs) env → HoldSome rs env
right_half zero rs env h = h
right_half (suc n) [] env h = absurd h
right_half (suc n) (r ∷ rs) env h = inr (right_half n rs env h)

half_below : (m : ℕ) → 2 ≤ m → (1 ≤ m / 2) × (m / 2 < m)
half_below m l = let a = div-add-mod m 2 in let some : 0 < 2 = omega arith in let b = mod-lt m some in (omega (arith, a, b), omega (arith, a, b))

-- each half of two or more is shorter than the whole
halves_shorter : (n : ℕ) (rs : List RelTree) → 2 ≤ length rs → length rs ≤ suc n
    → (length (take (length rs / 2) rs) ≤ n) × (length (drop (length rs / 2) rs) ≤ n)
halves_shorter n rs two l =
    let half = half_below (length rs) two in
    let a = length-take-le (length rs / 2) rs (omega (arith, half.1)) in
    let b = length-drop (length rs / 2) rs in
    (omega (arith, half.1, a), omega (arith, half.0, b))

all_within : (n : ℕ) (rs : List RelTree) (env : List Value) → length rs ≤ n → Holds (halves_within n rel_and rel_true rs) env ↔ HoldAll rs env
all_within zero [] env l = (λ h. tt, λ h. tt)
all_within zero (r ∷ rs) env l = absurd (omega arith)
all_within (suc n) [] env l = (λ h. tt, λ h. tt)
all_within (suc n) (r ∷ []) env l = (λ h. (h, tt), λ h. h.0)
all_within (suc n) (r ∷ s ∷ rs) env l =
    let all = r ∷ s ∷ rs in
    let shorter = halves_shorter n all (omega arith) l in
    let left = all_within n (take (length all / 2) all) env shorter.0 in
    let right = all_within n (drop (length all / 2) all) env shorter.1 in (
      (λ h. both_halves (length all / 2) all env (left.0 h.0) (right.0 h.1)),
      (λ h. let p = each_half (length all / 2) all env h in (left.1 p.0, right.1 p.1)),
    )

some_within : (n : ℕ) (rs : List RelTree) (env : List Value) → length rs ≤ n → Holds (halves_within n rel_or rel_false rs) env ↔ HoldSome rs env
some_within zero [] env l = (λ h. h, λ h. h)
some_within zero (r ∷ rs) env l = absurd (omega arith)
some_within (suc n) [] env l = (λ h. h, λ h. h)
some_within (suc n) (r ∷ []) env l = (λ h. inl h, λ h. elim h [ inl p ↦ p | inr q ↦ absurd q ])
some_within (suc n) (r ∷ s ∷ rs) env l =
    let all = r ∷ s ∷ rs in
    let half = length all / 2 in
    let shorter = halves_shorter n all (omega arith) l in
    let left = some_within n (take half all) env shorter.0 in
    let right = some_within n (drop half all) env shorter.1 in (
      (λ h. elim h as (λ _. HoldSome (r ∷ s ∷ rs) env) [ inl p ↦ left_half half all env (left.0 p) | inr q ↦ right_half half all env (right.0 q) ]),
      (λ h. elim (some_half half all env h) as (λ _. Holds (halves_within (suc n) rel_or rel_false (r ∷ s ∷ rs)) env)
          [ inl p ↦ inl (left.1 p) | inr q ↦ inr (right.1 q) ]),
    )

pub all_holds : (rs : List RelTree) (env : List Value) → Holds (all_of rs) env ↔ HoldAll rs env
all_holds rs env = all_within (length rs) rs env (omega arith)

pub some_holds : (rs : List RelTree) (env : List Value) → Holds (some_of rs) env ↔ HoldSome rs env
some_holds rs env = some_within (length rs) rs env (omega arith)
