-- Steps of the walk through a constant.
use Rattle.std.proofs.Common.{◌≡◌, ℕ, ℤ, false, List, [], ◌∷◌, ◌++◌, length, reverse, Result, Ok, Err, refl, sym, subst, ◌∙◌}
use Rattle.std.proofs.lemmas.List.{map-append}
use Rattle.cf_tree.specs.declared.base.Edition.{Edition}
use Rattle.cf_tree.specs.declared.base.Place.{Place}
use Rattle.cf_tree.specs.DefView.{RawDefTree}
use Rattle.cf_tree.specs.RawTree.{RawTree}
use Rattle.cf_program.specs.declared.fault.TypeFault.{TypeFault}
use Rattle.cf_program.specs.declared.linearity.Linearity.{Linearity}
use Rattle.cf_program.specs.CheckAnswers.{CheckAnswer, CheckFault}
use Rattle.cf_program.specs.Checked.{walk_const}
use Rattle.cf_program.specs.Constants.{Constant, constant_names}
use Rattle.cf_program.specs.Names.{callee_from, is_among}
use Rattle.cf_program.specs.Then.{◌>>=◌}
use Rattle.cf_program.specs.Walk.{Context, Form, behind, walk}
use Rattle.cf_type.specs.Valued.{constants_of}
use Rattle.cf_type.specs.Walked.{const_form, with_constant}
use Rattle.cf_type.proofs.WalkSteps.{fails_then, goes_on}

-- what is made of a value, where the value itself is answered
pub shown_then : {X Y : Type 0} (view : X → Y) (r s : Result X TypeFault) → CheckAnswer (λ x. x) r s → CheckAnswer view r (s >>= λ x. Ok (view x))
shown_then view (Ok x) s h = rw h refl
shown_then view (Err e) s h = fails_then e s (λ x. Ok (view x)) h

-- one constant more in a table
pub constants_more : (es : List (List ℕ × ℤ)) (x : List ℕ) (k : ℤ) → constants_of (es ++ (x, k) ∷ []) ≡ with_constant (constants_of es) x k
constants_more es x k = map-append (λ e. record { name = e.0; value = e.1 }) es ((x, k) ∷ [])

-- the expression of a constant whose name is new
module _ (edition : Edition) (how : Linearity) (all : List RawDefTree) (constants : List Constant) (before : List RawDefTree) (n : ℕ) (p : Place)
    (x : List ℕ) (e : RawTree) (count : ℕ) (counted : count ≡ length before) (new : is_among (constant_names constants) x ≡ false) where
  abbrev at : Context
  at = behind edition how (callee_from count 0 all) constants (reverse before)

  walked : walk_const edition how all constants before n p x e ≡ (walk at [] n e >>= const_form constants x e)
  walked = rw (counted, new) refl

  pub const_fails : (fault : TypeFault) → CheckFault fault (walk at [] n e) → CheckFault fault (walk_const edition how all constants before n p x e)
  const_fails fault h = subst (λ r. CheckFault fault r) (sym walked) (fails_then fault (walk at [] n e) (const_form constants x e) h)

  pub const_goes_on : (f : Form) → walk at [] n e ≡ Ok f → walk_const edition how all constants before n p x e ≡ const_form constants x e f
  const_goes_on f h = walked ∙ goes_on (walk at [] n e) f (const_form constants x e) h
