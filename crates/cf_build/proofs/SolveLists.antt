-- Chooses that are solved in order, and the first that is refused.
use Rattle.std.proofs.Common.{◌≡◌, ℕ, zero, suc, ◌<◌, Some, None, List, [], ◌∷◌, ◌++◌, length, map, take, get_or, All, Contains, refl, sym, ap, ◌∙◌, subst, arith}
use Rattle.std.specs.Prelude.{Option}
use Rattle.std.specs.List.Sorted.{IsNonDecreasing}
use Rattle.std.proofs.lemmas.List.Elements.{All-nil, All-cons, All-head, All-tail, All-contains}
use Rattle.cf_tree.specs.CodeTree.{arms_of}
use Rattle.cf_tree.specs.CodeView.{arm_trees}
use Rattle.cf_tree.specs.Params.{names_of}
use Rattle.cf_tree.specs.RelView.{rel_tree}
use Rattle.cf_linear.specs.declared.refusal.Refusal.{Refusal}
use Rattle.cf_linear.specs.Chooses.{arms, limit}
use Rattle.cf_choose.specs.Solved.{ArmsSolve}
use Rattle.cf_tree.specs.declared.choose.Choose.{Choose}
use Rattle.cf_build.specs.declared.solves.SolvedChoose.{SolvedChoose}
use Rattle.cf_build.specs.declared.fault.BuildFault.{BuildFault}
use Rattle.cf_build.specs.declared.fault.BuildFault.TheVariants as faults
use Rattle.cf_tree.specs.ChooseTree.{ChooseTree}
use Rattle.cf_build.specs.Chooses.{by_number, limit_of, choose_arms, solve_of, refused_or, first_refused}
use Rattle.cf_tree.specs.ChooseView.{choose_tree}
use Rattle.cf_build.specs.Known.{solve_code}
use Rattle.cf_build.specs.Solves.{AreSolved, IsSolved, IsSolveOf, IsFaultAmong, FaultAnswer}
use Rattle.cf_build.proofs.ChooseLaws.{some_pair}

pub solved_push : (qs : List ChooseTree) (ss : List SolvedChoose) (q : ChooseTree) (s : SolvedChoose) → AreSolved qs ss → IsSolved q s →
    AreSolved (qs ++ q ∷ []) (ss ++ s ∷ [])
solved_push [] [] q s h k = (k, tt)
solved_push [] (t ∷ ss) q s h k = absurd h
solved_push (p ∷ qs) [] q s h k = absurd h
solved_push (p ∷ qs) (t ∷ ss) q s h k = (h.0, solved_push qs ss q s h.1 k)

pub solved_number : (q : ChooseTree) (s : SolvedChoose) → IsSolved q s → s.choose.number ≡ q.number
solved_number q s h = ap (λ p. p.number) h.choose

pub solved_names : (q : ChooseTree) (s : SolvedChoose) → IsSolved q s → names_of s.choose.scope.now ≡ q.names
solved_names q s h = ap (λ p. p.names) h.choose

-- a solved choose passes no limit
solved_limit : (q : ChooseTree) (s : SolvedChoose) → IsSolved q s → limit_of q ≡ None
solved_limit q s h =
    let o = h.solved in
    let within : limit q.scope q.outputs q.relation ≡ None = rw (← o.same_scope, ← o.same_outputs, ← o.same_relation) o.solved.within in within

-- ---- the first that is refused
refused_here : (q : ChooseTree) (qs : List ChooseTree) (r : Refusal) → limit_of q ≡ Some r → first_refused (q ∷ qs) ≡ Some (q.number, r)
refused_here q qs r e = ap (λ o. refused_or q.number o (first_refused qs)) e

refused_later : (q : ChooseTree) (qs : List ChooseTree) → limit_of q ≡ None → first_refused (q ∷ qs) ≡ first_refused qs
refused_later q qs e = ap (λ o. refused_or q.number o (first_refused qs)) e

abbrev pub IsWithin : ChooseTree → Type 0
IsWithin q = limit_of q ≡ None

-- the first that is met behind chooses that pass no limit
refused_at : (cs : List Choose) (i : ℕ) (c : Choose) (r : Refusal) → i < length cs → c ≡ get_or cs i c → All IsWithin (map choose_tree (take i cs)) →
    limit_of (choose_tree c) ≡ Some r → first_refused (map choose_tree cs) ≡ Some (c.number, r)
refused_at [] i c r l is h e = absurd (omega (arith, l))
refused_at (d ∷ cs) zero c r l is h e =
    let same : c ≡ d = is in
    subst (λ x. first_refused (map choose_tree (d ∷ cs)) ≡ Some (x.number, r)) (sym same)
    (refused_here (choose_tree d) (map choose_tree cs) r (subst (λ x. limit_of (choose_tree x) ≡ Some r) same e))
refused_at (d ∷ cs) (suc i) c r l is h e =
    let earlier = map choose_tree (take i cs) in
    refused_later (choose_tree d) (map choose_tree cs) (All-head IsWithin (choose_tree d) earlier h)
    ∙ refused_at cs i c r (omega (arith, l)) is (All-tail IsWithin (choose_tree d) earlier h) e

pub refused_alone : (q : ChooseTree) (r : Refusal) → limit_of q ≡ Some r → first_refused (q ∷ []) ≡ Some (q.number, r)
refused_alone q r e = refused_here q [] r e

alone : (q : ChooseTree) (n : ℕ) (r : Refusal) → first_refused (q ∷ []) ≡ Some (n, r) → (q.number ≡ n) × (limit_of q ≡ Some r)
alone q n r h = by (limit_of q) refl h
  where
    by : (o : Option Refusal) → limit_of q ≡ o → refused_or q.number o None ≡ Some (n, r) → (q.number ≡ n) × (limit_of q ≡ Some r)
    by None e f = cc
    by (Some s) e f = let p = some_pair q.number n s r f in (p.0, e ∙ ap (λ x. Some x) p.1)

pub fault_behind : (cs : List Choose) (i : ℕ) (c : Choose) (fault : BuildFault) → i < length cs → c ≡ get_or cs i c →
    All IsWithin (map choose_tree (take i cs)) → IsFaultAmong (choose_tree c ∷ []) fault → IsFaultAmong (map choose_tree cs) fault
fault_behind cs i c (faults.Choose n r) l is h f =
    let one = alone (choose_tree c) n r f in
    subst (λ m. first_refused (map choose_tree cs) ≡ Some (m, r)) one.0 (refused_at cs i c r l is h one.1)
fault_behind cs i c faults.NoMemory l is h f = tt

solved_within : (qs : List ChooseTree) (ss : List SolvedChoose) → AreSolved qs ss → All IsWithin qs
solved_within [] [] h = All-nil IsWithin
solved_within [] (s ∷ ss) h = absurd h
solved_within (q ∷ qs) [] h = absurd h
solved_within (q ∷ qs) (s ∷ ss) h = All-cons IsWithin q qs (solved_limit q s h.0) (solved_within qs ss h.1)

pub fault_at : (cs : List Choose) (i : ℕ) (c : Choose) (ss : List SolvedChoose) (fault : BuildFault) → i < length cs → c ≡ get_or cs i c →
    AreSolved (map choose_tree (take i cs)) ss → IsFaultAmong (choose_tree c ∷ []) fault → IsFaultAmong (map choose_tree cs) fault
fault_at cs i c ss fault l is h f = fault_behind cs i c fault l is (solved_within (map choose_tree (take i cs)) ss h) f

pub fault_in_order : (qs : List ChooseTree) (fault : BuildFault) → IsFaultAmong (by_number qs) fault → FaultAnswer qs fault
fault_in_order qs (faults.Choose n r) h = h
fault_in_order qs faults.NoMemory h = tt

-- ---- the codes of solved chooses
arms_same : (q : ChooseTree) (s : SolvedChoose) → IsSolved q s →
    arms s.solved.scope.items s.solved.outputs.items (rel_tree s.solved.rel) ≡ arms q.scope q.outputs q.relation
arms_same q s h = let o = h.solved in rw (o.same_scope, o.same_outputs, o.same_relation) refl

pub solve_is : (q : ChooseTree) (s : SolvedChoose) → IsSolved q s → (solve_code s).2 ≡ solve_of q
solve_is q s h = rw (solved_number q s h, arms_same q s h) refl

solves : (q : ChooseTree) (s : SolvedChoose) → IsSolved q s → IsSolveOf q (solve_of q)
solves q s h =
    let o = h.solved in
    let k = o.solved in
    let moved : ArmsSolve q.scope q.outputs q.relation (arm_trees s.solved.arms.items) = rw (← o.same_scope, ← o.same_outputs, ← o.same_relation) k.solve in
    let solved : ArmsSolve q.scope q.outputs q.relation (choose_arms q) =
    subst (λ ts. ArmsSolve q.scope q.outputs q.relation (arms_of ts)) (k.arms_are ∙ arms_same q s h) moved in
    record {
      code = refl;
      within = solved_limit q s h;
      solved = solved;
      spelled = ((h.typed.positive, h.fits), solved.spelled h.typed.several);
    }

solved_all : (qs : List ChooseTree) (ss : List SolvedChoose) → AreSolved qs ss → All (λ q. IsSolveOf q (solve_of q)) qs
solved_all [] [] h = All-nil (λ q. IsSolveOf q (solve_of q))
solved_all [] (s ∷ ss) h = absurd h
solved_all (q ∷ qs) [] h = absurd h
solved_all (q ∷ qs) (s ∷ ss) h = All-cons (λ q. IsSolveOf q (solve_of q)) q qs (solves q s h.0) (solved_all qs ss h.1)

pub solved_has : (qs : List ChooseTree) (ss : List SolvedChoose) → AreSolved qs ss → (q : ChooseTree) → Contains qs q → IsSolveOf q (solve_of q)
solved_has qs ss h q c = All-contains (λ x. IsSolveOf x (solve_of x)) qs q (solved_all qs ss h) c

-- solved chooses are the chooses
pub solved_chooses : (qs : List ChooseTree) (ss : List SolvedChoose) → AreSolved qs ss → map (λ s. choose_tree s.choose) ss ≡ qs
solved_chooses [] [] h = refl
solved_chooses [] (s ∷ ss) h = absurd h
solved_chooses (q ∷ qs) [] h = absurd h
solved_chooses (q ∷ qs) (s ∷ ss) h = rw (h.0.choose, solved_chooses qs ss h.1) refl

pub each_solved : (qs : List ChooseTree) (ss : List SolvedChoose) → AreSolved qs ss → All (λ s. IsSolved (choose_tree s.choose) s) ss
each_solved [] [] h = All-nil (λ s. IsSolved (choose_tree s.choose) s)
each_solved [] (s ∷ ss) h = absurd h
each_solved (q ∷ qs) [] h = absurd h
each_solved (q ∷ qs) (s ∷ ss) h =
    All-cons (λ s. IsSolved (choose_tree s.choose) s) s ss (subst (λ p. IsSolved p s) (sym h.0.choose) h.0) (each_solved qs ss h.1)

numbers_solved : (cs : List Choose) (ss : List SolvedChoose) → AreSolved (map choose_tree cs) ss → map (λ s. s.choose.number) ss ≡ map (λ c. c.number) cs
numbers_solved [] [] h = refl
numbers_solved [] (s ∷ ss) h = absurd h
numbers_solved (c ∷ cs) [] h = absurd h
numbers_solved (c ∷ cs) (s ∷ ss) h = rw (solved_number (choose_tree c) s h.0, numbers_solved cs ss h.1) refl

pub solved_rise : (cs : List Choose) (ss : List SolvedChoose) → IsNonDecreasing (map (λ c. c.number) cs) → AreSolved (map choose_tree cs) ss →
    IsNonDecreasing (map (λ s. s.choose.number) ss)
solved_rise cs ss r h = subst IsNonDecreasing (sym (numbers_solved cs ss h)) r
