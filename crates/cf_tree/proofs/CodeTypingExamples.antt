-- Worked examples that hold down the bases of each form of target code, and where no solve may stand.
use Rattle.std.specs.Prelude.{ℕ, pos, ◌≤◌, ◌≡◌, None, List, [], ◌∷◌, length}
use Rattle.std.proofs.Common.{refl, ap, arith, true}
use Rattle.std.proofs.lemmas.Int.{ints}
use Rattle.std.proofs.lemmas.List.Elements.{All-cons, All-nil, All-head}
use Rattle.cf_tree.specs.declared.base.Base.{Base}
use Rattle.cf_tree.specs.declared.base.Base.TheVariants.{Int, Bool, Set}
use Rattle.cf_tree.specs.declared.base.Order.TheVariants.{Eq, Ne, Lt, Le, Gt, Ge}
use Rattle.cf_tree.specs.CodeTree.{CodeTree, code_lit, code_truth, code_var, code_set_of, code_tuple, code_sum, code_sub, code_mul, code_neg, code_div, code_mod, code_min, code_max, code_compare, code_divides, code_and, code_or, code_not, code_union, code_inter, code_diff, code_subset, code_card, code_slice, code_fresh, code_if, code_let, code_solve, codes_of, no_codes, ItemTree, items_of, need_item, let_item, ArmTree, arm_of, arms_of, no_arms}
use Rattle.cf_tree.specs.Typing.{HasBases, HasNoSolve, IsTypedCode, ask, one}

-- a code with a number, a set and a truth value in scope has these bases
abbrev Typed : CodeTree → List Base → Type 0
Typed code bs = IsTypedCode code (Int ∷ Set ∷ Bool ∷ []) bs

abbrev Part : CodeTree → Base → Type 0
Part code b = HasBases code (Int ∷ Set ∷ Bool ∷ []) (ask b) (one b)

abbrev int : List Base
int = Int ∷ []

abbrev bool : List Base
bool = Bool ∷ []

abbrev set : List Base
set = Set ∷ []

abbrev n : CodeTree
n = code_var 0

abbrev s : CodeTree
s = code_var 1

abbrev t : CodeTree
t = code_var 2

abbrev lit : CodeTree
lit = code_lit (pos 1)

abbrev truth : CodeTree
truth = code_truth true

abbrev two : CodeTree → CodeTree → (List CodeTree)
two a b = a ∷ b ∷ []

n-is : Part n Int
n-is = (Int, refl, (refl, refl))

s-is : Part s Set
s-is = (Set, refl, (refl, refl))

t-is : Part t Bool
t-is = (Bool, refl, (refl, refl))

-- leaves
leaves : (Typed lit int) × (Typed truth bool) × (Typed n int) × (Typed s set) × (Typed t bool) × (Typed lit bool → ⊥) × (Typed truth int → ⊥)
    × (Typed n set → ⊥)
leaves = ((refl, refl), (refl, refl), n-is, s-is, t-is, λ h. let e = h.0 in cc, λ h. let e = h.0 in cc, λ h. let e = h.1 in let f = h.2.0 in cc)

-- numbers
numbers : (Typed (code_sub n n) int) × (Typed (code_mul n n) int) × (Typed (code_neg n) int) × (Typed (code_div n (pos 1)) int)
    × (Typed (code_mod n (pos 1)) int)
    × (Typed (code_sum (codes_of (two n n))) int) × (Typed (code_min (codes_of (n ∷ []))) int) × (Typed (code_max (codes_of (n ∷ []))) int)
    × (Typed (code_card s) int)
numbers = (
  (n-is, n-is, (refl, refl)),
  (n-is, n-is, (refl, refl)),
  (n-is, (refl, refl)),
  (omega (arith, ints), n-is, (refl, refl)),
  (omega (arith, ints), n-is, (refl, refl)),
  (omega arith, (n-is, (n-is, tt)), (refl, refl)),
  (omega arith, (n-is, tt), (refl, refl)),
  (omega arith, (n-is, tt), (refl, refl)),
  (s-is, (refl, refl)),
)

no_number_parts : (Typed (code_sub truth lit) int → ⊥) × (Typed (code_sub lit truth) int → ⊥) × (Typed (code_mul truth lit) int → ⊥)
    × (Typed (code_mul lit truth) int → ⊥)
    × (Typed (code_neg truth) int → ⊥) × (Typed (code_div truth (pos 2)) int → ⊥) × (Typed (code_mod truth (pos 2)) int → ⊥)
    × (Typed (code_sum (codes_of (two lit truth))) int → ⊥)
    × (Typed (code_min (codes_of (two lit truth))) int → ⊥) × (Typed (code_max (codes_of (two lit truth))) int → ⊥) × (Typed (code_card lit) int → ⊥)
no_number_parts = (
  λ h. let e = h.0.0 in cc,
  λ h. let e = h.1.0 in cc,
  λ h. let e = h.0.0 in cc,
  λ h. let e = h.1.0 in cc,
  λ h. let e = h.0.0 in cc,
  λ h. let e = h.1.0 in cc,
  λ h. let e = h.1.0 in cc,
  λ h. let e = h.1.1.0.0 in cc,
  λ h. let e = h.1.1.0.0 in cc,
  λ h. let e = h.1.1.0.0 in cc,
  λ h. let e = h.0.0 in cc,
)

-- truth
truths : (Typed (code_and t t) bool) × (Typed (code_or t t) bool) × (Typed (code_not t) bool) × (Typed (code_divides (pos 1) n) bool)
    × (Typed (code_subset s s) bool)
truths = ((t-is, t-is, (refl, refl)), (t-is, t-is, (refl, refl)), (t-is, (refl, refl)), (omega (arith, ints), n-is, (refl, refl)), (s-is, s-is, (refl, refl)))

no_truth_parts : (Typed (code_and lit truth) bool → ⊥) × (Typed (code_and truth lit) bool → ⊥) × (Typed (code_or lit truth) bool → ⊥)
    × (Typed (code_or truth lit) bool → ⊥)
    × (Typed (code_not lit) bool → ⊥) × (Typed (code_divides (pos 2) truth) bool → ⊥) × (Typed (code_subset lit s) bool → ⊥)
    × (Typed (code_subset s lit) bool → ⊥)
no_truth_parts = (
  λ h. let e = h.0.0 in cc,
  λ h. let e = h.1.0 in cc,
  λ h. let e = h.0.0 in cc,
  λ h. let e = h.1.0 in cc,
  λ h. let e = h.0.0 in cc,
  λ h. let e = h.1.0 in cc,
  λ h. let e = h.0.0 in cc,
  λ h. let e = h.1.0 in cc,
)

-- == and != take two sides of one base, the others numbers
compares : (Typed (code_compare Eq s s) bool) × (Typed (code_compare Ne t t) bool) × (Typed (code_compare Lt n n) bool)
    × (Typed (code_compare Le n n) bool) × (Typed (code_compare Gt n n) bool)
    × (Typed (code_compare Ge n n) bool)
compares = (
  (Set, tt, (Set, refl, (refl, tt)), (Set, refl, (refl, tt)), (refl, refl)),
  (Bool, tt, (Bool, refl, (refl, tt)), (Bool, refl, (refl, tt)), (refl, refl)),
  (Int, refl, n-is, n-is, (refl, refl)),
  (Int, refl, n-is, n-is, (refl, refl)),
  (Int, refl, n-is, n-is, (refl, refl)),
  (Int, refl, n-is, n-is, (refl, refl)),
)

no_sides : (Typed (code_compare Eq lit truth) bool → ⊥) × (Typed (code_compare Lt truth truth) bool → ⊥) × (Typed (code_compare Le truth truth) bool → ⊥)
    × (Typed (code_compare Gt truth truth) bool → ⊥) × (Typed (code_compare Ge truth truth) bool → ⊥)
no_sides = (
  λ h. let e = h.2.0 in let f = h.3.0 in cc,
  λ h. let e = h.1 in let f = h.2.0 in cc,
  λ h. let e = h.1 in let f = h.2.0 in cc,
  λ h. let e = h.1 in let f = h.2.0 in cc,
  λ h. let e = h.1 in let f = h.2.0 in cc,
)

-- sets
sets : (Typed (code_set_of (codes_of (n ∷ []))) set) × (Typed (code_set_of no_codes) set) × (Typed (code_union (codes_of (two s s))) set)
    × (Typed (code_inter (codes_of (two s s))) set)
    × (Typed (code_diff s s) set) × (Typed (code_slice s n n) set) × (Typed (code_fresh s n) set)
sets = (
  ((n-is, tt), (refl, refl)),
  (tt, (refl, refl)),
  (omega arith, (s-is, (s-is, tt)), (refl, refl)),
  (omega arith, (s-is, (s-is, tt)), (refl, refl)),
  (s-is, s-is, (refl, refl)),
  (s-is, n-is, n-is, (refl, refl)),
  (s-is, n-is, (refl, refl)),
)

no_set_parts : (Typed (code_set_of (codes_of (truth ∷ []))) set → ⊥) × (Typed (code_union (codes_of (two s lit))) set → ⊥)
    × (Typed (code_inter (codes_of (two s lit))) set → ⊥)
    × (Typed (code_diff lit s) set → ⊥) × (Typed (code_diff s lit) set → ⊥) × (Typed (code_slice lit n n) set → ⊥)
    × (Typed (code_slice s truth n) set → ⊥) × (Typed (code_slice s n truth) set → ⊥)
    × (Typed (code_fresh lit n) set → ⊥) × (Typed (code_fresh s truth) set → ⊥)
no_set_parts = (
  λ h. let e = h.0.0.0 in cc,
  λ h. let e = h.1.1.0.0 in cc,
  λ h. let e = h.1.1.0.0 in cc,
  λ h. let e = h.0.0 in cc,
  λ h. let e = h.1.0 in cc,
  λ h. let e = h.0.0 in cc,
  λ h. let e = h.1.0 in cc,
  λ h. let e = h.2.0 in cc,
  λ h. let e = h.0.0 in cc,
  λ h. let e = h.1.0 in cc,
)

-- the least lengths of lists
too_short : (Typed (code_tuple (codes_of (n ∷ []))) int → ⊥) × (Typed (code_sum (codes_of (n ∷ []))) int → ⊥) × (Typed (code_union (codes_of (s ∷ []))) set → ⊥)
    × (Typed (code_inter (codes_of (s ∷ []))) set → ⊥) × (Typed (code_min no_codes) int → ⊥) × (Typed (code_max no_codes) int → ⊥)
too_short = (
  λ h. let e : 2 ≤ 1 = h.0 in omega (arith, e),
  λ h. let e : 2 ≤ 1 = h.0 in omega (arith, e),
  λ h. let e : 2 ≤ 1 = h.0 in omega (arith, e),
  λ h. let e : 2 ≤ 1 = h.0 in omega (arith, e),
  λ h. let e : 1 ≤ 0 = h.0 in omega (arith, e),
  λ h. let e : 1 ≤ 0 = h.0 in omega (arith, e),
)

-- a divisor is at least 1
no_divisors : (Typed (code_div n (pos 0)) int → ⊥) × (Typed (code_mod n (pos 0)) int → ⊥) × (Typed (code_divides (pos 0) n) bool → ⊥)
no_divisors = (λ h. omega (arith, ints, h.0), λ h. omega (arith, ints, h.0), λ h. omega (arith, ints, h.0))

-- both branches have the bases of the whole, and are asked them
branches : (Typed (code_if t n lit) int) × (Typed (code_if t (code_solve 1 no_arms) (code_solve 2 no_arms)) (Int ∷ Set ∷ []))
branches = ((t-is, n-is, (refl, refl)), (t-is, (refl, tt), (refl, tt)))

no_branches : (Typed (code_if lit n n) int → ⊥) × (Typed (code_if t truth n) int → ⊥) × (Typed (code_if t n truth) int → ⊥)
no_branches = (λ h. let e = h.0.0 in cc, λ h. let e = h.1.0 in cc, λ h. let e = h.2.0 in cc)

-- a part of a tuple is asked its share
shares : (Typed (code_tuple (codes_of (code_solve 1 no_arms ∷ n ∷ []))) (Set ∷ Int ∷ []))
    × ((bs : List Base) → HasBases (code_tuple (codes_of (code_solve 1 no_arms ∷ n ∷ []))) (Int ∷ []) None bs → ⊥)
shares = ((omega arith, (Set, Int ∷ [], refl, (refl, tt), (Int, [], refl, n-is, refl)), refl), λ bs h. let e = h.1.3.0 in cc)

no_shares : (Typed (code_tuple (codes_of (two n n))) (Int ∷ Bool ∷ []) → ⊥) × (Typed (code_tuple (codes_of (two n n))) (Int ∷ Int ∷ Int ∷ []) → ⊥)
no_shares = (
  λ h. let d = h.1.2 in let e = h.1.4.2 in let f = h.1.4.3.1 in let g = h.1.4.3.2.0 in cc,
  λ h. let d = h.1.2 in let e = h.1.4.2 in let f = h.1.4.4 in cc,
)

-- the value of a let is asked nothing, and its body what the whole is asked
lets : Typed (code_let 3 1 lit (code_solve 1 no_arms)) set
lets = (Int ∷ [], (refl, tt), refl, refl, (refl, tt))

no_lets : (Typed (code_let 3 2 lit lit) int → ⊥) × (Typed (code_let 4 1 lit lit) int → ⊥) × (Typed (code_let 3 1 (code_solve 1 no_arms) lit) int → ⊥)
    × (Typed (code_let 3 1 lit truth) int → ⊥)
no_lets = (
  λ h. let e = ap length h.1.0 in omega (arith, e, h.3),
  λ h. let e : 4 ≡ 3 = h.2 in omega (arith, e),
  λ h. let e = h.1.0 in cc,
  λ h. let e = h.4.0 in cc,
)

-- solves: all arms give the bases of the whole
abbrev arm : List ℕ → List ItemTree → List CodeTree → ArmTree
arm bounds items gives = arm_of bounds (items_of items) (codes_of gives)

abbrev solve : List ArmTree → CodeTree
solve arms = code_solve 1 (arms_of arms)

two_gives : Typed (solve (arm [] [] (two lit lit) ∷ [])) (Int ∷ Int ∷ [])
two_gives = (refl, ((All-nil (λ b. 1 ≤ b), omega arith), tt, (tt, (tt, tt)), (Int, Int ∷ [], refl, (refl, tt), (Int, [], refl, (refl, tt), refl)), tt))

two_gives-asked_one : Typed (solve (arm [] [] (two lit lit) ∷ [])) int → ⊥
two_gives-asked_one h = let d = h.1.3.2 in let e = h.1.3.4.2 in cc

other_base : Typed (solve (arm [] [] (lit ∷ []) ∷ arm [] [] (truth ∷ []) ∷ [])) int → ⊥
other_base h = let d = h.1.4.3.2 in let e = h.1.4.3.3.0 in cc

first_base : Typed (solve (arm [] [] (truth ∷ []) ∷ arm [] [] (lit ∷ []) ∷ [])) int → ⊥
first_base h = let d = h.1.3.2 in let e = h.1.3.3.0 in cc

no_bounds : Typed (solve (arm (0 ∷ []) [] (lit ∷ []) ∷ [])) int → ⊥
no_bounds h = let e : 1 ≤ 0 = All-head (λ b. 1 ≤ b) 0 [] h.1.0.0 in omega (arith, e)

need-of_number : Typed (solve (arm [] (need_item lit ∷ []) (lit ∷ []) ∷ [])) int → ⊥
need-of_number h = let e = h.1.3.0.0 in cc

let-of_two : Typed (solve (arm [] (let_item (code_tuple (codes_of (two lit lit))) ∷ []) (lit ∷ []) ∷ [])) int → ⊥
let-of_two h = let d = h.1.3.1.1.2 in let e = h.1.3.1.1.4.2 in cc

-- a let of an arm stands behind the searches, and a need binds nothing
arm-levels : Typed (solve (arm (2 ∷ []) (need_item t ∷ let_item s ∷ []) (code_var 4 ∷ code_var 3 ∷ []) ∷ [])) (Set ∷ Int ∷ [])
arm-levels = (
  refl,
  (
    (All-cons (λ b. 1 ≤ b) 2 [] (omega arith) (All-nil (λ b. 1 ≤ b)), omega arith),
    (tt, (tt, tt)),
    (tt, (tt, tt)),
    (
      (Bool, refl, (refl, refl)),
      (
        Set,
        (Set, refl, (refl, tt)),
        (
          Set,
          Int ∷ [],
          refl,
          (Set, refl, (refl, tt)),
          (
            Int,
            [],
            refl,
            (Int, refl, (refl, tt)),
            refl,
          ),
        ),
      ),
    ),
    tt,
  ),
)

-- no solve in a let, in a need or in a give of an arm
solve-in_let : Typed (solve (arm [] (let_item (code_solve 2 no_arms) ∷ []) (lit ∷ []) ∷ [])) int → ⊥
solve-in_let h = h.1.1.0

solve-in_need : Typed (solve (arm [] (let_item lit ∷ need_item (code_solve 2 no_arms) ∷ []) (lit ∷ []) ∷ [])) int → ⊥
solve-in_need h = h.1.1.1.0

-- nor deeper in one
abbrev inner : CodeTree
inner = code_solve 2 no_arms

deep-one : (HasNoSolve inner → ⊥) × (HasNoSolve (code_neg inner) → ⊥) × (HasNoSolve (code_div inner (pos 2)) → ⊥)
    × (HasNoSolve (code_mod inner (pos 2)) → ⊥) × (HasNoSolve (code_divides (pos 2) inner) → ⊥)
    × (HasNoSolve (code_not inner) → ⊥) × (HasNoSolve (code_card inner) → ⊥)
deep-one = (λ h. h, λ h. h, λ h. h, λ h. h, λ h. h, λ h. h, λ h. h)

deep-two : (HasNoSolve (code_sub inner n) → ⊥) × (HasNoSolve (code_sub n inner) → ⊥) × (HasNoSolve (code_mul inner n) → ⊥) × (HasNoSolve (code_mul n inner) → ⊥)
    × (HasNoSolve (code_compare Eq inner n) → ⊥) × (HasNoSolve (code_compare Eq n inner) → ⊥) × (HasNoSolve (code_and inner n) → ⊥)
    × (HasNoSolve (code_and n inner) → ⊥)
    × (HasNoSolve (code_or inner n) → ⊥) × (HasNoSolve (code_or n inner) → ⊥) × (HasNoSolve (code_diff inner n) → ⊥) × (HasNoSolve (code_diff n inner) → ⊥)
    × (HasNoSolve (code_subset inner n) → ⊥) × (HasNoSolve (code_subset n inner) → ⊥) × (HasNoSolve (code_fresh inner n) → ⊥)
    × (HasNoSolve (code_fresh n inner) → ⊥)
    × (HasNoSolve (code_let 0 1 inner n) → ⊥) × (HasNoSolve (code_let 0 1 n inner) → ⊥)
deep-two = (
  λ h. h.0,
  λ h. h.1,
  λ h. h.0,
  λ h. h.1,
  λ h. h.0,
  λ h. h.1,
  λ h. h.0,
  λ h. h.1,
  λ h. h.0,
  λ h. h.1,
  λ h. h.0,
  λ h. h.1,
  λ h. h.0,
  λ h. h.1,
  λ h. h.0,
  λ h. h.1,
  λ h. h.0,
  λ h. h.1,
)

deep-three : (HasNoSolve (code_slice inner n n) → ⊥) × (HasNoSolve (code_slice n inner n) → ⊥) × (HasNoSolve (code_slice n n inner) → ⊥)
    × (HasNoSolve (code_if inner n n) → ⊥) × (HasNoSolve (code_if n inner n) → ⊥) × (HasNoSolve (code_if n n inner) → ⊥)
deep-three = (λ h. h.0, λ h. h.1, λ h. h.2, λ h. h.0, λ h. h.1, λ h. h.2)

deep-lists : (HasNoSolve (code_set_of (codes_of (two n inner))) → ⊥) × (HasNoSolve (code_tuple (codes_of (two n inner))) → ⊥)
    × (HasNoSolve (code_sum (codes_of (two n inner))) → ⊥)
    × (HasNoSolve (code_min (codes_of (two n inner))) → ⊥) × (HasNoSolve (code_max (codes_of (two n inner))) → ⊥)
    × (HasNoSolve (code_union (codes_of (two n inner))) → ⊥)
    × (HasNoSolve (code_inter (codes_of (two inner n))) → ⊥)
deep-lists = (λ h. h.1.0, λ h. h.1.0, λ h. h.1.0, λ h. h.1.0, λ h. h.1.0, λ h. h.1.0, λ h. h.0)

no-solve : HasNoSolve (code_sum (codes_of (two (code_neg n) (code_if t truth (code_max (codes_of (two n lit)))))))
no-solve = (tt, ((tt, tt, (tt, (tt, tt))), tt))
