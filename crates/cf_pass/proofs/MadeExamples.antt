-- Worked examples: what passes have made of a code.
use Rattle.std.proofs.Common.{◌≡◌, ◌∙◌, ℕ, Bool, true, false, List, [], ◌∷◌, codes, refl, sym, ap}
use Rattle.cf_tree.specs.CodeTree.{CodeTree, code_var, code_neg, code_not}
use Rattle.cf_pass.specs.Passes.{Told, AreMade}
use Rattle.cf_pass.proofs.Forms.{improves_self}

abbrev pass : (ℕ → CodeTree → CodeTree) → Bool → Told
pass makes whole = record { name = codes "p"; tally = 0; turns = 0; makes = makes; whole = whole }

abbrev stays : ℕ → CodeTree → CodeTree
stays outside c = c

abbrev negates : ℕ → CodeTree → CodeTree
negates outside c = code_neg c

abbrev denies : ℕ → CodeTree → CodeTree
denies outside c = code_not c

abbrev levels : ℕ → CodeTree → CodeTree
levels outside c = code_var outside

abbrev a : CodeTree
a = code_var 7

-- two passes, told before and after
abbrev two : List Told
two = pass negates true ∷ pass denies true ∷ []

two_that_stay : AreMade 1 (pass stays true ∷ pass stays true ∷ []) (pass stays true ∷ pass stays true ∷ []) a a
two_that_stay = (
  a,
  record { better = improves_self 1 a; made = λ _. refl },
  (a, record { better = improves_self 1 a; made = λ _. refl }, refl),
)

no_pass : AreMade 1 [] [] a a
no_pass = refl

-- without a pass nothing else is made
another_code : AreMade 1 [] [] a (code_neg a) → ⊥
another_code h = cc h

-- from the first to the last
in_order : (c : CodeTree) → AreMade 1 two two a c → c ≡ code_not (code_neg a)
in_order c h = h.2.2 ∙ h.2.1.made refl ∙ ap code_not (h.1.made refl)

from_last_to_first : AreMade 1 two two a (code_neg (code_not a)) → ⊥
from_last_to_first h = absurd (let same = in_order (code_neg (code_not a)) h in cc)

-- the code of one of them is left out, that of both is
first_left_out : AreMade 1 two two a (code_not a) → ⊥
first_left_out h = absurd (let same = in_order (code_not a) h in cc)

second_left_out : AreMade 1 two two a (code_neg a) → ⊥
second_left_out h = absurd (let same = in_order (code_neg a) h in cc)

both_left_out : AreMade 1 two two a a → ⊥
both_left_out h = absurd (let same = in_order a h in cc)

-- a pass that found no memory has made what may take the code's place
found_no_memory : AreMade 1 (pass negates true ∷ []) (pass negates false ∷ []) a a
found_no_memory = (a, record { better = improves_self 1 a; made = λ e. absurd cc }, refl)

-- that is told behind its turn, and what it makes before
was_not_whole : AreMade 1 (pass negates false ∷ []) (pass negates true ∷ []) a a → ⊥
was_not_whole h = absurd (let same = h.2 ∙ h.1.made refl in cc)

makes_before : (c : CodeTree) → AreMade 1 (pass negates true ∷ []) (pass denies true ∷ []) a c → c ≡ code_neg a
makes_before c h = h.2 ∙ h.1.made refl

-- as many variables are bound outside
outside_one : (c : CodeTree) → AreMade 1 (pass levels true ∷ []) (pass levels true ∷ []) a c → c ≡ code_var 1
outside_one c h = h.2 ∙ h.1.made refl

-- as many as before
one_fewer : AreMade 1 two (pass negates true ∷ []) a (code_neg a) → ⊥
one_fewer h = h.2

one_more : AreMade 1 (pass negates true ∷ []) two a (code_not (code_neg a)) → ⊥
one_more h = h.2
