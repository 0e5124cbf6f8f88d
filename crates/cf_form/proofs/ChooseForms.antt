-- The form of a choose allows what the choose of the source does.
use Rattle.std.proofs.Common.{◌≡◌, ◌↔◌, ℕ, suc, pos, Bool, true, false, Some, List, [], ◌∷◌, ◌++◌, length, map, slice_get, append-nil, append_assoc, refl, sym, ap, ◌∙◌, subst}
use Rattle.std.specs.Bool.{MatchBool}
use Rattle.std.specs.Prelude.{if◌then◌else◌}
use Rattle.std.proofs.lemmas.List.{map-append}
use Rattle.cf_tree.specs.declared.base.Base.{Base}
use Rattle.cf_tree.specs.declared.base.Base.TheVariants.{Int, Bool as Truth, Set}
use Rattle.cf_tree.specs.Allowed.{AllowedThen, goes_on, ends_at, AllowedIn, AllowedAll, Gives, Calling, Chosen, Solutions, SolvesAtAim}
use Rattle.cf_tree.specs.ExprTree.{ExprTree, expr_var, exprs_of}
use Rattle.cf_tree.specs.OneOutcome.{AllowsOnly}
use Rattle.cf_tree.specs.Relation.{Sol}
use Rattle.cf_tree.specs.Values.{Value, number, truth, truth_of, Outcome, values, no_solution, value_at, HasBase, HaveBases}
use Rattle.cf_tree.proofs.OneOutcomeLemmas.{then_only}
use Rattle.cf_form.specs.Branches.{WideChoose, Branch, relation_at, all_outputs}
use Rattle.cf_form.specs.Formed.{as_number, branching, given_out, all_given_out, one_or_tuple, has_truths}
use Rattle.cf_form.proofs.ChooseLaw.{as_output, branch_of}
use Rattle.cf_form.proofs.Ordinary.{Read, read_behind, Is, var_is}
use Rattle.cf_form.proofs.Outcomes.{Agree, then_alone, iff_then, Keeps}

-- ---- branches
same : {X : Type 0} → X ↔ X
same = ((λ x. x), λ x. x)

module _ (calls : Calling) (q : WideChoose) (env : List Value) (o : Outcome) where
  -- what the choose of a branch allows
  abbrev pub InBranch : Branch → Type 0
  InBranch branch = Chosen q.number (Sol (map as_number (all_outputs q)) (relation_at q branch) env) o

  abbrev Branching : List ℕ → Branch → Type 0
  Branching xs branch = AllowedIn calls (branching q xs branch) env o

  on_value : (x : ℕ) (xs : List ℕ) (branch : Branch) (t : Bool) →
      (Branching xs (branch ++ (x, t) ∷ []) ↔ InBranch (branch ++ (x, t) ∷ branch_of env xs)) →
      MatchBool t (Branching xs (branch ++ (x, true) ∷ [])) (Branching xs (branch ++ (x, false) ∷ [])) ↔ InBranch (branch ++ (x, t) ∷ branch_of env xs)
  on_value x xs branch true h = h
  on_value x xs branch false h = h

  -- the nested tests lead to the branch of the environment
  pub branching_is : (xs : List ℕ) (branch : Branch) → Branching xs branch ↔ InBranch (branch ++ branch_of env xs)
  branching_is [] branch = subst (λ b. Branching [] branch ↔ InBranch b) (sym (append-nil branch)) same
  branching_is (x ∷ xs) branch =
      let t = truth_of (value_at env x) in
      let rest = branching_is xs (branch ++ (x, t) ∷ []) in
      iff_then
      (then_alone {P = AllowedIn calls (expr_var x) env} (value_at env x) o (λ p. same))
      (on_value x xs branch t (subst (λ b. Branching xs (branch ++ (x, t) ∷ []) ↔ InBranch b) (append_assoc branch ((x, t) ∷ []) (branch_of env xs)) rest))

-- ---- what is given out
pub read_front : (env : List Value) (x : ℕ) (vs more : List Value) → Read env x (vs ++ more) → Read env x vs
read_front env x [] more r = tt
read_front env x (v ∷ vs) more r = (r.0, read_front env (suc x) vs more r.1)

module _ (calls : Calling) (env : List Value) where
  abbrev AreValues : List ExprTree → List Value → Type 0
  AreValues [] [] = Unit {0}
  AreValues [] (v ∷ vs) = ⊥
  AreValues (e ∷ es) [] = ⊥
  AreValues (e ∷ es) (v ∷ vs) = Is calls env e v × AreValues es vs

  all_are : (es : List ExprTree) (vs : List Value) → AreValues es vs → AllowsOnly (AllowedAll calls (exprs_of es) env) vs
  all_are [] [] h = (refl, λ o s. s)
  all_are [] (v ∷ vs) h = absurd h
  all_are (e ∷ es) [] h = absurd h
  all_are (e ∷ es) (v ∷ vs) h =
      then_only {first = AllowedIn calls e env} (v ∷ []) (v ∷ vs) h.0
      (then_only {first = AllowedAll calls (exprs_of es) env} vs (v ∷ vs) (all_are es vs h.1) (refl, λ o s. s))

  several_are : (es : List ExprTree) (vs : List Value) → AreValues es vs → AllowsOnly (AllowedIn calls (one_or_tuple es) env) vs
  several_are [] [] h = (refl, λ o s. s)
  several_are [] (v ∷ vs) h = absurd h
  several_are (e ∷ []) [] h = absurd h
  several_are (e ∷ []) (v ∷ []) h = h.0
  several_are (e ∷ []) (v ∷ w ∷ vs) h = absurd h.1
  several_are (e ∷ f ∷ es) vs h = all_are (e ∷ f ∷ es) vs h

  truth_is : (b : Bool) (x : ℕ) → slice_get env x ≡ Some (as_output (truth b)) → Is calls env (given_out Truth x) (truth b)
  truth_is true x e =
      then_only {first = AllowedIn calls (expr_var x) env} (number (pos 1) ∷ []) (truth true ∷ []) (var_is calls env x (number (pos 1)) e)
      (then_only {first = Gives (number (pos 1))} (number (pos 1) ∷ []) (truth true ∷ []) (refl, λ o s. s) (refl, λ o s. s))
  truth_is false x e =
      then_only {first = AllowedIn calls (expr_var x) env} (number (pos 0) ∷ []) (truth false ∷ []) (var_is calls env x (number (pos 0)) e)
      (then_only {first = Gives (number (pos 1))} (number (pos 1) ∷ []) (truth false ∷ []) (refl, λ o s. s) (refl, λ o s. s))

  given_out_is : (b : Base) (x : ℕ) (v : Value) → HasBase b v → slice_get env x ≡ Some (as_output v) → Is calls env (given_out b x) v
  given_out_is Int x v h e = var_is calls env x v (subst (λ w. slice_get env x ≡ Some (as_output w) → slice_get env x ≡ Some w) (sym h.1) (λ p. p) e)
  given_out_is Truth x v h e =
      subst (λ w. slice_get env x ≡ Some (as_output w) → Is calls env (given_out Truth x) w) (sym h.1) (λ p. truth_is h.0 x p) e
  given_out_is Set x v h e = var_is calls env x v (subst (λ w. slice_get env x ≡ Some (as_output w) → slice_get env x ≡ Some w) (sym h.1) (λ p. p) e)

  all_given : (bs : List Base) (x : ℕ) (vs : List Value) → HaveBases bs vs → Read env x (map as_output vs) → AreValues (all_given_out x bs) vs
  all_given [] x [] h r = tt
  all_given [] x (v ∷ vs) h r = absurd h
  all_given (b ∷ bs) x [] h r = absurd h
  all_given (b ∷ bs) x (v ∷ vs) h r = (given_out_is b x v h.0 r.0, all_given bs (suc x) vs h.1 r.1)

-- of all outputs, the first are given out
pub are_given_out : (calls : Calling) (env : List Value) (bs : List Base) (xs ks : List Value) → HaveBases bs xs →
    AllowsOnly (AllowedIn calls (one_or_tuple (all_given_out (length env) bs)) (env ++ map as_output (xs ++ ks))) xs
are_given_out calls env bs xs ks h =
    let all : map as_output (xs ++ ks) ≡ map as_output xs ++ map as_output ks = map-append as_output xs ks in
    let ys = map as_output xs ++ map as_output ks in
    let r = read_front (env ++ ys) (length env) (map as_output xs) (map as_output ks) (read_behind env ys) in
    rw all (several_are calls (env ++ ys) (all_given_out (length env) bs) xs (all_given calls (env ++ ys) bs (length env) xs h r))

-- ---- what the choose allows
pub truths_by : (b : Bool) → if b then false else true ≡ true → b ≡ false
truths_by true e = cc
truths_by false e = refl

plain_outputs : (bs : List Base) (xs : List Value) → has_truths bs ≡ false → HaveBases bs xs → map as_output xs ≡ xs
plain_outputs [] [] e h = refl
plain_outputs [] (x ∷ xs) e h = absurd h
plain_outputs (b ∷ bs) [] e h = absurd h
plain_outputs (Int ∷ bs) (x ∷ xs) e h =
    let first : as_output x ≡ x = rw h.0.1 refl in
    let rest = plain_outputs bs xs e h.1 in cc
plain_outputs (Truth ∷ bs) (x ∷ xs) e h = cc
plain_outputs (Set ∷ bs) (x ∷ xs) e h =
    let first : as_output x ≡ x = rw h.0.1 refl in
    let rest = plain_outputs bs xs e h.1 in cc

none_hidden : (ks : List Value) → HaveBases [] ks → ks ≡ []
none_hidden [] h = refl
none_hidden (k ∷ ks) h = absurd h

module _ (n : ℕ) (outputs hidden : List Base) (solves : Solutions) (chosen : List Value → Type 0)
    (bases : (xs ks : List Value) → solves xs ks → HaveBases outputs xs × HaveBases hidden ks)
    (forth : (xs ks : List Value) → solves xs ks → chosen (map as_output (xs ++ ks)))
    (back : (ys : List Value) → chosen ys → (xs : List Value) × (ks : List Value) × (ys ≡ map as_output (xs ++ ks)) × solves xs ks) where
  abbrev pub Solved : List Value → Type 0
  Solved = SolvesAtAim solves (λ all xs ks. Unit {0})

  none_forth : ((xs : List Value) → Solved xs → ⊥) → (ys : List Value) → chosen ys → ⊥
  none_forth none ys c = let s = back ys c in none s.0 (s.1, s.3, tt)

  none_back : ((ys : List Value) → chosen ys → ⊥) → (xs : List Value) → Solved xs → ⊥
  none_back none xs s = none (map as_output (xs ++ s.0)) (forth xs s.0 s.1)

  solved_keeps : (o : Outcome) → Chosen n Solved o → Keeps outputs o
  solved_keeps (values xs) s = (bases xs s.0 s.1).0
  solved_keeps (no_solution m) s = tt

  -- where all outputs are given out as they are
  module _ (nothing : hidden ≡ []) (plain : has_truths outputs ≡ false) where
    unchanged : (xs ks : List Value) → solves xs ks → map as_output (xs ++ ks) ≡ xs
    unchanged xs ks s =
        let b = bases xs ks s in
        let no : ks ≡ [] = none_hidden ks (subst (λ hs. HaveBases hs ks) nothing b.1) in
        ap (λ zs. map as_output (xs ++ zs)) no ∙ ap (map as_output) (append-nil xs) ∙ plain_outputs outputs xs plain b.0

    as_forth : (o : Outcome) → Chosen n Solved o → Chosen n chosen o
    as_forth (values xs) s = subst chosen (unchanged xs s.0 s.1) (forth xs s.0 s.1)
    as_forth (no_solution m) s = (s.0, none_forth s.1)

    as_back : (o : Outcome) → Chosen n chosen o → Chosen n Solved o
    as_back (values ys) c =
        let s = back ys c in
        let e : ys ≡ s.0 = s.2 ∙ unchanged s.0 s.1 s.3 in
        subst Solved (sym e) (s.1, s.3, tt)
    as_back (no_solution m) c = (c.0, none_back c.1)

    pub as_chosen_agrees : (o : Outcome) → Agree outputs o (Chosen n Solved o) (Chosen n chosen o)
    as_chosen_agrees o = record { forth = as_forth o; back = as_back o; keeps = solved_keeps o }

  -- where a body behind the choose gives the outputs out
  module _ (calls : Calling) (env : List Value) (body : ExprTree)
      (gives : (xs ks : List Value) → HaveBases outputs xs → AllowsOnly (AllowedIn calls body (env ++ map as_output (xs ++ ks))) xs) where
    abbrev pub Bound : Outcome → Type 0
    Bound = AllowedThen (Chosen n chosen) (λ ys. AllowedIn calls body (env ++ ys))

    bound_forth : (o : Outcome) → Chosen n Solved o → Bound o
    bound_forth (values xs) s = goes_on (map as_output (xs ++ s.0)) (forth xs s.0 s.1) (gives xs s.0 (bases xs s.0 s.1).0).0
    bound_forth (no_solution m) s = ends_at m (s.0, none_forth s.1) refl

    bound_back : (o : Outcome) → Bound o → Chosen n Solved o
    bound_back o (goes_on ys c r) =
        let s = back ys c in
        let only = (gives s.0 s.1 (bases s.0 s.1 s.3).0).1 o (subst (λ zs. AllowedIn calls body (env ++ zs) o) s.2 r) in
        subst (Chosen n Solved) (sym only) (s.1, s.3, tt)
    bound_back o (ends_at m c e) = subst (Chosen n Solved) (sym e) (c.0, none_back c.1)

    pub bound_agrees : (o : Outcome) → Agree outputs o (Chosen n Solved o) (Bound o)
    bound_agrees o = record { forth = bound_forth o; back = bound_back o; keeps = solved_keeps o }
