-- What a reached says of a meaning and of the greatest number met.
use Rattle.std.proofs.Common.{◌≡◌, ℕ, ◌-◌, ◌^◌, ◌≤◌, ◌<◌, nat_le, cond, Bool, true, false, List, refl, ◌∙◌, arith}
use Rattle.std.proofs.lemmas.Bool.Decides.{nat_tests}
use Rattle.cf_tree.specs.CodeTree.{CodeTree}
use Rattle.cf_tree.specs.Values.{Value, values, no_solution}
use Rattle.cf_tree.specs.Meaning.{Got, got, none_at, path, means, peak, outcome_of}
use Rattle.cf_eval.specs.Reached.{given, none_from, past, reached_to, reached}
use Rattle.cf_eval.proofs.Reaching.{reached_is}

given_parts : (t : Bool) (g : Got (List Value)) (vs : List Value) → cond t (reached_to g) past ≡ given vs → (outcome_of g ≡ values vs) × (t ≡ true)
given_parts true (got x) vs e = (cc, refl)
given_parts true (none_at n) vs e = cc
given_parts false g vs e = cc

none_parts : (t : Bool) (g : Got (List Value)) (n : ℕ) → cond t (reached_to g) past ≡ none_from n → (outcome_of g ≡ no_solution n) × (t ≡ true)
none_parts true (got x) n e = cc
none_parts true (none_at m) n e = (cc, refl)
none_parts false g n e = cc

past_parts : (t : Bool) (g : Got (List Value)) → cond t (reached_to g) past ≡ past → t ≡ false
past_parts true (got x) e = cc
past_parts true (none_at n) e = cc
past_parts false g e = refl

within_limit : (n m : ℕ) → nat_le n m ≡ true → n ≤ m
within_limit n m e = grind (arith, nat_tests)

past_limit : (n m : ℕ) → nat_le n m ≡ false → m < n
past_limit n m e = grind (arith, nat_tests)

pub given_means : (c : CodeTree) (env vs : List Value) → reached c env ≡ given vs → (means c env ≡ values vs) × (peak c env ≤ 2 ^ 127 - 1)
given_means c env vs e =
    let p = given_parts (nat_le (path c env).peak (2 ^ 127 - 1)) (path c env).gives vs (reached_is c env ∙ e) in
    (p.0, within_limit _ _ p.1)

pub none_means : (c : CodeTree) (env : List Value) (n : ℕ) → reached c env ≡ none_from n → (means c env ≡ no_solution n) × (peak c env ≤ 2 ^ 127 - 1)
none_means c env n e =
    let p = none_parts (nat_le (path c env).peak (2 ^ 127 - 1)) (path c env).gives n (reached_is c env ∙ e) in
    (p.0, within_limit _ _ p.1)

pub past_means : (c : CodeTree) (env : List Value) → reached c env ≡ past → 2 ^ 127 - 1 < peak c env
past_means c env e = past_limit _ _ (past_parts (nat_le (path c env).peak (2 ^ 127 - 1)) (path c env).gives (reached_is c env ∙ e))
