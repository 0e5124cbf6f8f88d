-- Statements: blocks, and what they mean.
use Rattle.std.specs.Prelude.{ℕ, List, ◌∷◌, ◌++◌, Option, Some, None, if◌then◌else◌}
use Rattle.cf_tree.specs.CodeTree.{CodeTree}
use Rattle.cf_tree.specs.Meaning.{Path, gives_only, no_solution_at, then_path, if_some, or_later, first_from, count_below, tuple_at, meets_all, truth_in, path}
use Rattle.cf_tree.specs.Values.{Value, first_of}

pub data Block : Type 0 where
  -- the values of a code
  give : CodeTree → Block
  -- no solution at this number
  none : ℕ → Block
  -- the arm is left
  leave : Block
  -- what the first gives is bound behind the variables, for the second
  bind : Block → Block → Block
  -- the first value that the first gives is bound before the variables, for the second
  part : Block → Block → Block
  -- the values of the first and then those of the second, which does not see them
  join : Block → Block → Block
  -- the second or the third, as the first gives true or false
  test : Block → Block → Block → Block
  -- the first block at each tuple below the bounds until it gives; or else the second
  arm : List ℕ → Block → Block → Block

abbrev pub given : List Value → Path (Option (List Value))
given vs = gives_only (Some vs)

-- the way through a block: the values, or none where the arm is left
abbrev pub exec : Block → List Value → Path (Option (List Value))
exec (give c) env = then_path (path c env) given
exec (none n) env = no_solution_at n
exec leave env = gives_only None
exec (bind a b) env = then_path (exec a env) (λ f. if_some f (λ vs. exec b (env ++ vs)))
exec (part a b) env = then_path (exec a env) (λ f. if_some f (λ vs. exec b (first_of vs ∷ env)))
exec (join a b) env = then_path (exec a env) (λ f. if_some f (λ vs. then_path (exec b env) (λ g. if_some g (λ ws. gives_only (Some (vs ++ ws))))))
exec (test t a b) env = then_path (exec t env) (λ f. if_some f (λ vs. if truth_in vs then exec a env else exec b env))
exec (arm ks a b) env =
    then_path (first_from (count_below ks) 0 (λ i. then_path (meets_all (tuple_at ks i)) (λ vs. exec a (env ++ vs))))
    (λ f. or_later f (exec b env))
