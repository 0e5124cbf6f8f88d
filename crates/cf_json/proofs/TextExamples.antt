-- Worked examples: outcomes as JSON.
use Rattle.std.proofs.Common.{◌≡◌, ℕ, pos, true, false, List, [], ◌∷◌, ◌++◌, refl, codes}
use Rattle.std.specs.Prelude.{map, ◌==◌, if◌then◌else◌}
use Rattle.std.specs.Prelude.{negsuc}
use Rattle.std.specs.Fmt.{digits}
use Rattle.cf_tree.specs.Values.{number, truth, elements, values, no_solution}
use Rattle.cf_linear.specs.declared.refusal.LimitKind.TheVariants.{Search}
use Rattle.cf_linear.specs.declared.refusal.Refusal.TheVariants.{Past, Limit}
use Rattle.cf_late.specs.ChooseRun.{comes_to, overflow, refused}
use Rattle.cf_json.specs.Texts.{array, error_text, json_text, listed, name_at, object, quoted}

-- an apostrophe stands for a quote
abbrev with_quotes : List ℕ → List ℕ
with_quotes bs = map (λ b. if b == 39 then 34 else b) bs

abbrev names : List (List ℕ)
names = codes "x" ∷ codes "s" ∷ []

two-names : json_text names (comes_to (values (number (pos 1) ∷ elements (pos 1 ∷ pos 2 ∷ []) ∷ []))) ≡ with_quotes (codes "{'x': 1, 's': [1, 2]}")
unfolding digits
two-names = refl

-- where no name stands, results are counted from 1
no-names : json_text [] (comes_to (values (number (negsuc 6) ∷ truth true ∷ truth false ∷ []))) ≡ with_quotes (codes "{'r1': -7, 'r2': true, 'r3': false}")
unfolding digits
no-names = refl

one-name : json_text (codes "x" ∷ []) (comes_to (values (number (pos 0) ∷ number (pos 5) ∷ []))) ≡ with_quotes (codes "{'x': 0, 'r2': 5}")
unfolding digits
one-name = refl

no-values : json_text names (comes_to (values [])) ≡ codes "{}"
no-values = refl

empty-set : json_text names (comes_to (values (elements [] ∷ []))) ≡ with_quotes (codes "{'x': []}")
empty-set = refl

large-number : json_text [] (comes_to (values (number (pos 170141183460469231731687303715884105727) ∷ [])))
    ≡ with_quotes (codes "{'r1': 170141183460469231731687303715884105727}")
unfolding digits
large-number = refl

no-solution : json_text names (comes_to (no_solution 12)) ≡ with_quotes (codes "{'error': 'no solution', 'choose': 12}")
unfolding digits
no-solution = refl

past : json_text names overflow ≡ with_quotes (codes "{'error': 'overflow'}")
past = refl

too-many_tuples : json_text names (refused 1 (Limit Search 2097152)) ≡ with_quotes (codes "{'error': 'Search 2097152', 'choose': 1}")
unfolding digits
too-many_tuples = refl

large-coefficient : json_text [] (refused 3 Past) ≡ with_quotes (codes "{'error': 'coefficient past 128 bits', 'choose': 3}")
unfolding digits
large-coefficient = refl

of-a_line : error_text (codes "bad input") ≡ with_quotes (codes "{'error': 'bad input'}")
of-a_line = refl

-- the parts
a-list : listed (codes "a" ∷ codes "b" ∷ codes "c" ∷ []) ≡ codes "a, b, c"
a-list = refl

an-array : array (negsuc 0 ∷ pos 0 ∷ pos 10 ∷ []) ≡ codes "[-1, 0, 10]"
unfolding digits
an-array = refl

an-object : object (codes "a" ∷ []) ≡ codes "{a}"
an-object = refl

a-word : quoted (codes "x") ≡ 34 ∷ 120 ∷ 34 ∷ []
a-word = refl

third-name : name_at names 2 ≡ codes "r3"
unfolding digits
third-name = refl
