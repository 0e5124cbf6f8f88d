-- The readers of the grammar are local.
use Rattle.std.proofs.Common.{ℕ, suc, zero, Bool, List, [], length}
use Rattle.cf_lex.specs.declared.token.Token.{Token}
use Rattle.cf_lex.specs.declared.token.TokenKind.{TokenKind}
use Rattle.cf_tree.specs.CodeTree.{CodeTree, ItemTree}
use Rattle.cf_reader.specs.Readers.{Reader, refuse}
use Rattle.cf_reader.proofs.Near.{Local, pure_local, refuse_local, end_local, any_local, bind_local, first_local, deep_local, must_local, others_local, several_local}
use Rattle.cf_target.specs.declared.form.Operation.{Operation}
use Rattle.cf_target.specs.declared.form.Operation.TheVariants as operations
use Rattle.cf_target.specs.declared.form.Step.{Step}
use Rattle.cf_target.specs.Reading.{variables_of, all_variables, vars_of, bounds_of, list_of, elements_of, one_of, divided_of, listed_of, slice_of, fresh_of, if_of, let_of, operated_of, behind_of, inside_of, item_of, steps_of, all_steps, gives_of, arm_from, all_arms, solve_of, forms_of, unless_zero, word_of, negative_of, step, read}

variables_local : {more other : List Token} (j k last : ℕ) → Local more other (variables_of j last) (variables_of k last)
unfolding variables_of
variables_local zero k last = end_local _
variables_local (suc j) zero last = any_local
    (first_local _ (λ p. bind_local (must_local _) (λ x. variables_local j j x)) (bind_local (must_local _) (λ p. pure_local _)))
variables_local (suc j) (suc k) last = first_local _ (λ p. bind_local (must_local _) (λ x. variables_local j k x))
    (bind_local (must_local _) (λ p. pure_local _))

all_variables_local : {more other : List Token} (last : ℕ) → Local more other (all_variables last) (all_variables last)
unfolding all_variables
all_variables_local {more} {other} last = record {
  within = λ ts m l. (variables_local {more = more} {other = other} (length ts) (length ts) last).within ts m l;
  near = λ ts us n. (variables_local {more = more} {other = other} (length ts) (length us) last).near ts us n;
}

pub vars_local : {more other : List Token} → Local more other vars_of vars_of
unfolding vars_of
vars_local =
    first_local _ (λ p. bind_local (must_local _)
    (λ x. bind_local (must_local _) (λ q. bind_local (must_local _) (λ y. bind_local (all_variables_local y) (λ last. pure_local _)))))
    (bind_local (must_local _) (λ x. pure_local _))

pub bounds_local : {more other : List Token} → Local more other bounds_of bounds_of
unfolding bounds_of
bounds_local = first_local _ (λ p. pure_local _) (several_local _ _ _ _ (must_local _))

list_local : {more other : List Token} {part : Reader CodeTree} (close : TokenKind) → Local more other part part →
    Local more other (list_of part close) (list_of part close)
unfolding list_of
list_local close h = several_local _ _ _ _ h

elements_local : {more other : List Token} {part : Reader CodeTree} → Local more other part part → Local more other (elements_of part) (elements_of part)
unfolding elements_of
elements_local h = first_local _ (λ p. pure_local _) (list_local _ h)

one_local : {more other : List Token} {part : Reader CodeTree} → Local more other part part → Local more other (one_of part) (one_of part)
unfolding one_of
one_local h = bind_local (must_local _) (λ p. bind_local h (λ c. bind_local (must_local _) (λ q. pure_local _)))

divided_local : {more other : List Token} {part : Reader CodeTree} → Local more other part part → Local more other (divided_of part) (divided_of part)
unfolding divided_of
divided_local h = bind_local (must_local _)
    (λ p. bind_local h (λ c. bind_local (must_local _) (λ q. bind_local (must_local _) (λ k. bind_local (must_local _) (λ r. pure_local _)))))

listed_local : {more other : List Token} {part : Reader CodeTree} → Local more other part part → Local more other (listed_of part) (listed_of part)
unfolding listed_of
listed_local h = bind_local (must_local _) (λ p. list_local _ h)

slice_local : {more other : List Token} {part : Reader CodeTree} → Local more other part part → Local more other (slice_of part) (slice_of part)
unfolding slice_of
slice_local h =
    bind_local (must_local _) (λ p. bind_local h
    (λ c. bind_local (must_local _) (λ q. bind_local h
    (λ d. bind_local (must_local _) (λ r. bind_local h (λ e. bind_local (must_local _) (λ s. pure_local _)))))))

fresh_local : {more other : List Token} {part : Reader CodeTree} → Local more other part part → Local more other (fresh_of part) (fresh_of part)
unfolding fresh_of
fresh_local h = bind_local (must_local _)
    (λ p. bind_local h (λ c. bind_local (must_local _) (λ q. bind_local h (λ d. bind_local (must_local _) (λ s. pure_local _)))))

if_local : {more other : List Token} {part : Reader CodeTree} → Local more other part part → Local more other (if_of part) (if_of part)
unfolding if_of
if_local h = bind_local h (λ t. bind_local (must_local _)
    (λ p. bind_local h (λ c. bind_local (must_local _) (λ q. bind_local h (λ d. bind_local (must_local _) (λ s. pure_local _))))))

let_local : {more other : List Token} {part : Reader CodeTree} → Local more other part part → Local more other (let_of part) (let_of part)
unfolding let_of
let_local h = bind_local vars_local (λ xs. bind_local (must_local _)
    (λ p. bind_local h (λ c. bind_local (must_local _) (λ q. bind_local h (λ d. bind_local (must_local _) (λ s. pure_local _))))))

operated_local : {more other : List Token} {part : Reader CodeTree} (c : CodeTree) (op : Operation) → Local more other part part →
    Local more other (operated_of part c op) (operated_of part c op)
unfolding operated_of
operated_local c (operations.Two two) h = bind_local h (λ d. bind_local (must_local _) (λ p. pure_local _))
operated_local c (operations.Many many) h = bind_local (several_local _ _ _ _ h) (λ cs. pure_local _)

behind_local : {more other : List Token} {head part : Reader CodeTree} (n : ℕ) (may : Bool) (c : CodeTree) → Local more other head head →
    Local more other part part →
    Local more other (behind_of head part n may c) (behind_of head part n may c)
unfolding behind_of
behind_local n may c g h =
    first_local _ (λ p. bind_local (several_local _ _ _ _ g) (λ cs. pure_local _)) (
    first_local _ (λ op. bind_local (operated_local c _ h) (λ d. pure_local _)) (
    first_local _ (λ k. bind_local h (λ d. bind_local (must_local _) (λ p. pure_local _))) (
    refuse_local)))

inside_local : {more other : List Token} {head part : Reader CodeTree} (m n : ℕ) → Local more other head head → Local more other part part →
    Local more other (inside_of head part m n) (inside_of head part m n)
unfolding inside_of
inside_local m n g h =
    deep_local _ _ (λ p. bind_local (if_local h) (λ c. pure_local _)) (
    deep_local _ _ (λ p. bind_local (let_local h) (λ c. pure_local _)) (
    bind_local g (λ c. behind_local n _ c g h)))

item_local : {more other : List Token} {part : Reader CodeTree} (s : Step) → Local more other part part → Local more other (item_of part s) (item_of part s)
unfolding item_of
item_local s h = bind_local h (λ c. bind_local (must_local _) (λ p. pure_local _))

steps_local : {more other : List Token} {part : Reader CodeTree} (j k : ℕ) (done : List ItemTree) → Local more other part part →
    Local more other (steps_of part j done) (steps_of part k done)
unfolding steps_of
steps_local zero k done h = end_local _
steps_local (suc j) zero done h =
    any_local (first_local _ (λ s. bind_local (item_local s h) (λ i. steps_local j j _ h)) (bind_local (must_local _) (λ p. pure_local _)))
steps_local (suc j) (suc k) done h = first_local _ (λ s. bind_local (item_local s h) (λ i. steps_local j k _ h)) (bind_local (must_local _) (λ p. pure_local _))

all_steps_local : {more other : List Token} {part : Reader CodeTree} → Local more other part part → Local more other (all_steps part) (all_steps part)
unfolding all_steps
all_steps_local h = record {
  within = λ ts m l. (steps_local (length ts) (length ts) [] h).within ts m l;
  near = λ ts us n. (steps_local (length ts) (length us) [] h).near ts us n;
}

gives_local : {more other : List Token} {part less : Reader CodeTree} (n : ℕ) → Local more other part part → Local more other less less →
    Local more other (gives_of part less n) (gives_of part less n)
unfolding gives_of
gives_local n g h = first_local _ (λ p. bind_local (inside_local n _ g h) (λ x. pure_local _)) (bind_local g (λ c. pure_local _))

pub arm_local : {more other : List Token} {part less : Reader CodeTree} (n : ℕ) → Local more other part part → Local more other less less →
    Local more other (arm_from part less n) (arm_from part less n)
unfolding arm_from
arm_local n g h =
    bind_local (must_local _) (λ p. bind_local bounds_local
    (λ bounds. bind_local (must_local _) (λ q. bind_local (all_steps_local g) (λ steps. bind_local (gives_local n g h) (λ gives.
    bind_local (must_local _) (λ r. pure_local _))))))

all_arms_local : {more other : List Token} {part less : Reader CodeTree} (n : ℕ) → Local more other part part → Local more other less less →
    Local more other (all_arms part less n) (all_arms part less n)
unfolding all_arms
all_arms_local zero g h = bind_local (must_local _) (λ p. pure_local _)
all_arms_local (suc n) g h = others_local _ _ _ _ (arm_local (suc n) g h)

solve_local : {more other : List Token} {part less : Reader CodeTree} (n : ℕ) → Local more other part part → Local more other less less →
    Local more other (solve_of part less n) (solve_of part less n)
unfolding solve_of
solve_local n g h = bind_local (must_local _) (λ x. bind_local (must_local _) (λ p. bind_local (all_arms_local n g h) (λ arms. pure_local _)))

forms_local : {more other : List Token} {part : Reader CodeTree} → Local more other part part → Local more other (forms_of part) (forms_of part)
unfolding forms_of
forms_local h =
    first_local _ (λ u. bind_local (one_local h) (λ c. pure_local _)) (
    first_local _ (λ d. bind_local (divided_local h) (λ x. pure_local _)) (
    first_local _ (λ e. bind_local (listed_local h) (λ cs. pure_local _)) (
    first_local _ (λ p. slice_local h) (
    first_local _ (λ p. fresh_local h) (
    refuse_local)))))

unless_zero_local : {A : Type 0} {more other : List Token} {r : Reader A} (n : ℕ) → Local more other r r → Local more other (unless_zero n r) (unless_zero n r)
unfolding unless_zero refuse
unless_zero_local zero h = refuse_local
unless_zero_local (suc n) h = h

word_local : {more other : List Token} {part less : Reader CodeTree} (n : ℕ) → Local more other part part → Local more other less less →
    Local more other (word_of part less n) (word_of part less n)
unfolding word_of
word_local n g h = first_local _ (λ p. solve_local n g h) (unless_zero_local n (forms_local g))

step_local : {more other : List Token} {part less : Reader CodeTree} (n : ℕ) → Local more other part part → Local more other less less →
    Local more other (step part less n) (step part less n)
unfolding step negative_of
step_local n g h =
    first_local _ (λ k. pure_local _) (
    first_local _ (λ p. bind_local (must_local _) (λ k. pure_local _)) (
    first_local _ (λ t. pure_local _) (
    first_local _ (λ x. pure_local _) (
    first_local _ (λ p. bind_local (elements_local g) (λ cs. pure_local _)) (
    deep_local _ _ (λ p. bind_local (inside_local n n g g) (λ x. pure_local _)) (
    word_local n g h))))))

pub read_local : (more other : List Token) (n : ℕ) → Local more other (read n) (read n)
unfolding read
read_local more other zero = refuse_local
read_local more other (suc zero) = step_local 0 refuse_local refuse_local
read_local more other (suc (suc n)) = step_local (suc n) (read_local more other (suc n)) (read_local more other n)
