-- Codes of chooses, one after the other, and found by what tells a choose.
use Rattle.std.proofs.Common.{◌≡◌, ℕ, zero, suc, ◌-◌, ◌<◌, ltb, true, false, List, [], ◌∷◌, ◌++◌, length, map, get_or, take, drop, All, Contains, refl, sym, ap, ◌∙◌, subst, arith}
use Rattle.std.specs.List.Sorted.{IsNonDecreasing, IsNonDecreasingBy, IsPartitionPoint}
use Rattle.std.proofs.lemmas.Bool.{ltb-true}
use Rattle.std.proofs.lemmas.List.{append-nil, length-map, length-drop, get_or-map, take_all}
use Rattle.std.proofs.lemmas.List.Elements.{All-nil, All-cons, All-head, All-tail}
use Rattle.cf_tree.specs.ChooseTree.{ChooseTree}
use Rattle.cf_tree.specs.ChooseView.{choose_tree}
use Rattle.cf_tree.specs.CodeView.{code_tree}
use Rattle.cf_build.specs.declared.choose_codes.ChooseCode.{ChooseCode}
use Rattle.cf_build.specs.declared.same.Mark.{Mark}
use Rattle.cf_build.specs.declared.solves.SolvedChoose.{SolvedChoose}
use Rattle.cf_build.specs.Chooses.{solve_of}
use Rattle.cf_build.specs.Known.{kept, solve_code, IsChooseCode, IsKnown}
use Rattle.cf_build.specs.Marks.{choose_marks}
use Rattle.cf_build.specs.Solves.{IsSolved}
use Rattle.cf_build.proofs.MarkLaws.{marks_number, marks_solve}
use Rattle.cf_build.proofs.SolveLists.{solve_is}

-- the codes that are made, and then those that are left
abbrev pub AreMadeOf : List SolvedChoose → List SolvedChoose → List ChooseCode → Type 0
AreMadeOf all left codes = map kept codes ++ map solve_code left ≡ map solve_code all

pub all_made : (all left : List SolvedChoose) (codes : List ChooseCode) → length left ≡ 0 → AreMadeOf all left codes → map kept codes ≡ map solve_code all
all_made all [] codes none h = sym (append-nil (map kept codes)) ∙ h
all_made all (s ∷ left) codes none h = absurd (omega (arith, none))

-- ---- what is kept of solved chooses
marks_kept : (cs : List ChooseCode) → map (λ k. k.1) (map kept cs) ≡ map (λ c. c.marks.items) cs
marks_kept [] = refl
marks_kept (c ∷ cs) = ap (λ xs. c.marks.items ∷ xs) (marks_kept cs)

marks_solved : (ss : List SolvedChoose) → map (λ k. k.1) (map solve_code ss) ≡ map (λ s. choose_marks (choose_tree s.choose)) ss
marks_solved [] = refl
marks_solved (s ∷ ss) = ap (λ xs. choose_marks (choose_tree s.choose) ∷ xs) (marks_solved ss)

pub marks_made : (cs : List ChooseCode) (ss : List SolvedChoose) → map kept cs ≡ map solve_code ss →
    map (λ c. c.marks.items) cs ≡ map (λ s. choose_marks (choose_tree s.choose)) ss
marks_made cs ss e = sym (marks_kept cs) ∙ ap (λ ks. map (λ k. k.1) ks) e ∙ marks_solved ss

numbers_kept : (cs : List ChooseCode) → map (λ k. k.0) (map kept cs) ≡ map (λ c. c.number) cs
numbers_kept [] = refl
numbers_kept (c ∷ cs) = ap (λ xs. c.number ∷ xs) (numbers_kept cs)

numbers_solved : (ss : List SolvedChoose) → map (λ k. k.0) (map solve_code ss) ≡ map (λ s. s.choose.number) ss
numbers_solved [] = refl
numbers_solved (s ∷ ss) = ap (λ xs. s.choose.number ∷ xs) (numbers_solved ss)

pub made_rise : (cs : List ChooseCode) (ss : List SolvedChoose) → map kept cs ≡ map solve_code ss → IsNonDecreasing (map (λ s. s.choose.number) ss) →
    IsNonDecreasing (map (λ c. c.number) cs)
made_rise cs ss e r = subst IsNonDecreasing (sym (numbers_solved ss) ∙ ap (λ ks. map (λ k. k.0) ks) (sym e) ∙ numbers_kept cs) r

code_kept : (c : ChooseCode) (s : SolvedChoose) → kept c ≡ solve_code s → IsSolved (choose_tree s.choose) s → IsChooseCode c
code_kept c s e h = (
  choose_tree s.choose,
  ap (λ k. k.0) e,
  ap (λ k. k.1) e,
  ap (λ k. k.2) e ∙ solve_is (choose_tree s.choose) s h,
)

pub codes_made : (cs : List ChooseCode) (ss : List SolvedChoose) → map kept cs ≡ map solve_code ss → All (λ s. IsSolved (choose_tree s.choose) s) ss →
    All IsChooseCode cs
codes_made [] ss e h = All-nil IsChooseCode
codes_made (c ∷ cs) [] e h = cc
codes_made (c ∷ cs) (s ∷ ss) e h =
    let first : kept c ≡ solve_code s = ap (λ ks. get_or ks 0 (kept c)) e in
    let rest : map kept cs ≡ map solve_code ss = ap (λ ks. drop 1 ks) e in
    All-cons IsChooseCode c cs (code_kept c s first (All-head (λ s. IsSolved (choose_tree s.choose) s) s ss h))
    (codes_made cs ss rest (All-tail (λ s. IsSolved (choose_tree s.choose) s) s ss h))

-- ---- the place of a number
pub numbers_rise : (cs : List ChooseCode) → IsNonDecreasing (map (λ c. c.number) cs) → IsNonDecreasingBy (λ c. c.number) cs
numbers_rise cs h i j d l m =
    let low : i < length cs = omega (arith, l, m) in
    let high : j < length (map (λ c. c.number) cs) = omega (arith, m, length-map cs (λ c. c.number)) in
    rw (get_or-map (λ c. c.number) cs i d d.number low, get_or-map (λ c. c.number) cs j d d.number m) at (h i j d.number l high)

-- those before the first whose number is not smaller
pub smaller_before : (cs : List ChooseCode) (n number : ℕ) →
    IsPartitionPoint (λ c. ltb c.number number ≡ true) (λ c. ltb c.number number ≡ false) cs n → All (λ c. c.number < number) (take n cs)
smaller_before cs zero number h = All-nil (λ c. c.number < number)
smaller_before [] (suc n) number h = All-nil (λ c. c.number < number)
smaller_before (c ∷ cs) (suc n) number h =
    All-cons (λ c. c.number < number) c (take n cs) (ltb-true c.number number (h.0 0 c (omega arith) (omega arith)))
    (smaller_before cs n number (
      λ k d z l. h.0 (suc k) d (omega arith) (omega (arith, l)),
      λ k d z l. h.1 (suc k) d (omega (arith, z)) (omega (arith, l)),
    ))

-- ---- found by marks
-- the number that is kept is that of the choose
number_told : (c : ChooseCode) → IsChooseCode c → (q : ChooseTree) → c.marks.items ≡ choose_marks q → c.number ≡ q.number
number_told c k q e = k.1 ∙ marks_number k.0 q (sym k.2 ∙ e)

-- what is known stands behind the codes of smaller numbers
known_from_place : (cs : List ChooseCode) (n : ℕ) (q : ChooseTree) → All (λ c. c.number < q.number) (take n cs) → IsKnown cs q → IsKnown (drop n cs) q
known_from_place cs zero q l h = h
known_from_place [] (suc n) q l h = h
known_from_place (c ∷ cs) (suc n) q l (k, (zero, m, e)) =
    let same = number_told c (All-head IsChooseCode c cs k) q e in
    let less = All-head (λ c. c.number < q.number) c (take n cs) l in absurd (omega (arith, same, less))
known_from_place (c ∷ cs) (suc n) q l (k, (suc i, m, e)) =
    known_from_place cs n q (All-tail (λ c. c.number < q.number) c (take n cs) l) (All-tail IsChooseCode c cs k, (i, omega (arith, m), e))

-- what a call takes of the codes from a place on
pub codes_from : (items codes : List ChooseCode) (n : ℕ) → items ≡ codes → take (length items - n) (drop n items) ≡ drop n codes
codes_from items codes n e = take_all (length items - n) (drop n items) (omega (arith, length-drop n items)) ∙ ap (λ cs. drop n cs) e

-- the same of what a call has
pub known_place : (cs rest : List ChooseCode) (n number : ℕ) (q : ChooseTree) → number ≡ q.number → All (λ c. c.number < number) (take n cs) →
    IsKnown cs q → rest ≡ drop n cs → IsKnown rest q
known_place cs rest n number q e l h is =
    subst (λ ds. IsKnown ds q) (sym is) (known_from_place cs n q (subst (λ k. All (λ c. c.number < k) (take n cs)) e l) h)

-- ---- the first with these marks
-- a code with the marks of a choose is its solve
pub found_here : (code : ChooseCode) (more rest : List ChooseCode) (ms : List Mark) → rest ≡ code ∷ more → All IsChooseCode rest → code.marks.items ≡ ms →
    (q : ChooseTree) → choose_marks q ≡ ms → code_tree code.code ≡ solve_of q
found_here code more rest ms is all same q e =
    let k = All-head IsChooseCode code more (subst (λ cs. All IsChooseCode cs) is all) in k.3 ∙ marks_solve k.0 q (sym k.2 ∙ same ∙ sym e)

abbrev AreLeft : List ChooseCode → List Mark → Type 0
AreLeft cs ms = All IsChooseCode cs × Contains (map (λ c. c.marks.items) cs) ms

others_left : (code : ChooseCode) (more : List ChooseCode) (ms : List Mark) → (code.marks.items ≡ ms → ⊥) → AreLeft (code ∷ more) ms → AreLeft more ms
others_left code more ms differ (k, (zero, l, e)) = absurd (differ e)
others_left code more ms differ (k, (suc i, l, e)) = (All-tail IsChooseCode code more k, (i, omega (arith, l), e))

pub found_later : (code : ChooseCode) (more rest : List ChooseCode) (ms : List Mark) → rest ≡ code ∷ more → (code.marks.items ≡ ms → ⊥) → AreLeft rest ms →
    AreLeft more ms
found_later code more rest ms is differ h = others_left code more ms differ (subst (λ cs. AreLeft cs ms) is h)
