-- How the parts of a run follow one another.
use Rattle.std.proofs.Common.{◌≡◌, ℕ, ℤ, List, [], ◌∷◌, ◌++◌, refl, sym, ap, subst}
use Rattle.std.specs.Prelude.{Some, None, Bool, true, false, Result, if◌then◌else◌}
use Rattle.std.proofs.lemmas.List.{append_assoc, append-nil}
use Rattle.cf_tree.specs.declared.base.Base.{Base}
use Rattle.cf_tree.specs.declared.raw.BinOp.{BinOp}
use Rattle.cf_tree.specs.declared.raw.BinOp.TheVariants.{Add, Sub, Mul, And, Or, Union, Inter, Diff, Subset, Implies, Compare}
use Rattle.cf_tree.specs.declared.expr.Expr.{Expr}
use Rattle.cf_tree.specs.ExprTree.{MatchArmTree, match_arm, MatchArmTrees, match_arm_more}
use Rattle.cf_tree.specs.ExprView.{expr_tree, expr_trees}
use Rattle.cf_tree.specs.Values.{Value, values, no_solution, truth, truth_of}
use Rattle.cf_late.specs.ChooseRun.{LateOutcome, comes_to, overflow, refused, gives}
use Rattle.cf_late.specs.declared.stop.Stop.{Stop}
use Rattle.cf_late.specs.declared.stop.Stop.TheVariants as stop
use Rattle.cf_late.specs.Answers.{StopIs, LateAnswer, decided_by, joined_by, arm_fits, arm_taken}
use Rattle.cf_late.specs.LateRun.{then_late, late_right, late_in, late_all, late_arms}

-- a part that stops, stops the whole
pub stop_then : (e : Stop) (r : LateOutcome) (go : List Value → LateOutcome) → StopIs e r → StopIs e (then_late r go)
stop_then stop.NoMemory r go h = tt
stop_then stop.Overflow r go h = rw h refl
stop_then (stop.Unsolved n) r go h = rw h refl
stop_then (stop.Refused n x) r go h = rw h refl

-- the left side decides, or the right one goes on
pub right_decided : (op : BinOp) (v : Value) (r : LateOutcome) (b : Bool) → decided_by op v ≡ Some b → late_right op v r ≡ gives (truth b ∷ [])
right_decided Add v r b e = absurd (cc)
right_decided Sub v r b e = absurd (cc)
right_decided Mul v r b e = absurd (cc)
right_decided And v r b e = by (truth_of v) e
  where
    by : (t : Bool) → (if t then None else Some false) ≡ Some b → (if t then r else gives (truth false ∷ [])) ≡ gives (truth b ∷ [])
    by true q = absurd (cc)
    by false q = let same : false ≡ b = cc in rw same refl
right_decided Or v r b e = by (truth_of v) e
  where
    by : (t : Bool) → (if t then Some true else None) ≡ Some b → (if t then gives (truth true ∷ []) else r) ≡ gives (truth b ∷ [])
    by true q = let same : true ≡ b = cc in rw same refl
    by false q = absurd (cc)
right_decided Union v r b e = absurd (cc)
right_decided Inter v r b e = absurd (cc)
right_decided Diff v r b e = absurd (cc)
right_decided Subset v r b e = absurd (cc)
right_decided Implies v r b e = by (truth_of v) e
  where
    by : (t : Bool) → (if t then None else Some true) ≡ Some b → (if t then r else gives (truth true ∷ [])) ≡ gives (truth b ∷ [])
    by true q = absurd (cc)
    by false q = let same : true ≡ b = cc in rw same refl
right_decided (Compare o) v r b e = absurd (cc)

right_self : (r : LateOutcome) → r ≡ then_late r (λ ys. gives ys)
right_self (comes_to (values vs)) = refl
right_self (comes_to (no_solution n)) = refl
right_self overflow = refl
right_self (refused n x) = refl

pub right_joined : (op : BinOp) (v : Value) (r : LateOutcome) → decided_by op v ≡ None → late_right op v r ≡ then_late r (λ ys. joined_by op v ys)
right_joined Add v r e = refl
right_joined Sub v r e = refl
right_joined Mul v r e = refl
right_joined And v r e = by (truth_of v) e
  where
    by : (t : Bool) → (if t then None else Some false) ≡ None → (if t then r else gives (truth false ∷ [])) ≡ then_late r (λ ys. gives ys)
    by true q = right_self r
    by false q = absurd (cc)
right_joined Or v r e = by (truth_of v) e
  where
    by : (t : Bool) → (if t then Some true else None) ≡ None → (if t then gives (truth true ∷ []) else r) ≡ then_late r (λ ys. gives ys)
    by true q = absurd (cc)
    by false q = right_self r
right_joined Union v r e = refl
right_joined Inter v r e = refl
right_joined Diff v r e = refl
right_joined Subset v r e = refl
right_joined Implies v r e = by (truth_of v) e
  where
    by : (t : Bool) → (if t then None else Some true) ≡ None → (if t then r else gives (truth true ∷ [])) ≡ then_late r (λ ys. gives ys)
    by true q = right_self r
    by false q = absurd (cc)
right_joined (Compare o) v r e = refl

-- what the right side comes to decides
pub right_goes_on : (op : BinOp) (v : Value) (r : LateOutcome) (ys : List Value) (answer : Result (List Value) Stop) → decided_by op v ≡ None → r ≡ gives ys →
    LateAnswer answer (joined_by op v ys) → LateAnswer answer (late_right op v r)
right_goes_on op v r ys answer e h a =
    subst (LateAnswer answer) (sym (right_joined op v r e)) (subst (λ s. LateAnswer answer (then_late s (λ zs. joined_by op v zs))) (sym h) a)

pub right_stops : (op : BinOp) (v : Value) (r : LateOutcome) (s : Stop) → decided_by op v ≡ None → StopIs s r → StopIs s (late_right op v r)
right_stops op v r s e h = subst (StopIs s) (sym (right_joined op v r e)) (stop_then s r (λ ys. joined_by op v ys) h)

-- ---- all parts, of which the first have given vs
pub all_start : (r : LateOutcome) → then_late r (λ ys. gives ([] ++ ys)) ≡ r
all_start r = sym (right_self r)

pub all_end : (vs : List Value) → then_late (gives []) (λ ys. gives (vs ++ ys)) ≡ gives vs
all_end vs = ap gives (append-nil vs)

module _ (calls : ℕ → List Value → LateOutcome) (e : Expr) (es : List Expr) (env vs : List Value) where
  abbrev with_part : LateOutcome
  with_part = then_late (late_all calls (expr_trees (e ∷ es)) env) (λ ys. gives (vs ++ ys))

  pub all_next : (more : List Value) → late_in calls (expr_tree e) env ≡ gives more →
      with_part ≡ then_late (late_all calls (expr_trees es) env) (λ ys. gives ((vs ++ more) ++ ys))
  all_next more h =
      subst (λ r. then_late (then_late r (λ xs. then_late (late_all calls (expr_trees es) env) (λ ys. gives (xs ++ ys)))) (λ ys. gives (vs ++ ys))
      ≡ then_late (late_all calls (expr_trees es) env) (λ ys. gives ((vs ++ more) ++ ys))) (sym h) (by (late_all calls (expr_trees es) env))
    where
      by : (r : LateOutcome) → then_late (then_late r (λ ys. gives (more ++ ys))) (λ ys. gives (vs ++ ys)) ≡ then_late r (λ ys. gives ((vs ++ more) ++ ys))
      by (comes_to (values ys)) = ap gives (sym (append_assoc vs more ys))
      by (comes_to (no_solution n)) = refl
      by overflow = refl
      by (refused n x) = refl

  pub all_stop : (s : Stop) → StopIs s (late_in calls (expr_tree e) env) → StopIs s with_part
  all_stop s h =
      stop_then s (late_all calls (expr_trees (e ∷ es)) env) (λ ys. gives (vs ++ ys))
      (stop_then s (late_in calls (expr_tree e) env) (λ xs. then_late (late_all calls (expr_trees es) env) (λ ys. gives (xs ++ ys))) h)

-- ---- arms
module _ (calls : ℕ → List Value → LateOutcome) (n : ℕ) (scope : List Base) (a : MatchArmTree) (arms : MatchArmTrees) (z : ℤ) (env : List Value) where
  pub arm_is_taken : arm_fits a z ≡ true → late_arms calls n scope (match_arm_more a arms) z env ≡ arm_taken calls scope a env
  arm_is_taken e = by a e
    where
      by : (a : MatchArmTree) → arm_fits a z ≡ true → late_arms calls n scope (match_arm_more a arms) z env ≡ arm_taken calls scope a env
      by (match_arm m factors k body) e = rw e refl

  pub arm_is_left : arm_fits a z ≡ false → late_arms calls n scope (match_arm_more a arms) z env ≡ late_arms calls n scope arms z env
  arm_is_left e = by a e
    where
      by : (a : MatchArmTree) → arm_fits a z ≡ false → late_arms calls n scope (match_arm_more a arms) z env ≡ late_arms calls n scope arms z env
      by (match_arm m factors k body) e = rw e refl
