-- Which case has an index.
use Rattle.std.specs.Prelude.{ℕ, zero, suc, ◌-◌, ◌^◌, ◌<◌, ◌/◌, ◌%◌, ◌==◌, nat_lt, Bool, true, false, List, [], ◌∷◌, ◌++◌, length, get_or, Option, Some, None}
use Rattle.std.specs.Prelude.{if◌then◌else◌}
use Rattle.cf_tree.specs.declared.base.Order.{Order}
use Rattle.cf_tree.specs.declared.base.Order.TheVariants.{Eq, Ne, Lt, Le, Gt, Ge}
use Rattle.cf_linear.specs.Cases.{Atom, Normal, normal_atom, normal_and, normal_or, Signed, atom_signs, atom_ways, case_count}

-- the choice with this index of the choices of n signs
abbrev pub signs_at : ℕ → ℕ → List Bool
signs_at zero j = []
signs_at (suc n) j = (if nat_lt j (2 ^ n) then false ∷ signs_at n j else true ∷ signs_at n (j - 2 ^ n))

-- the atom and the signs with this index of the cases of an atom
abbrev pub atom_at : Atom → ℕ → Signed
atom_at a i = (get_or (atom_ways a) (i % length (atom_ways a)) a, signs_at (atom_signs a) (i / length (atom_ways a)))

-- the case with this index
unfoldable pub case_by : Normal → ℕ → List Signed
case_by (normal_atom a) i = atom_at a i ∷ []
case_by (normal_and p q) i = case_by p (i / case_count q) ++ case_by q (i % case_count q)
case_by (normal_or p q) i = (if nat_lt i (case_count p) then case_by p i else case_by q (i - case_count p))

-- ---- parts
-- the order that stands for this one in the case with this index
abbrev pub way_at : Order → ℕ → Order
way_at Ne i = (if i % 2 == 0 then Lt else Gt)
way_at Eq i = Eq
way_at Lt i = Lt
way_at Le i = Le
way_at Gt i = Gt
way_at Ge i = Ge

-- both parts, or either
abbrev pub joined : Bool → Normal → Normal → Normal
joined true p q = normal_and p q
joined false p q = normal_or p q

-- the indices of the cases of a left part with m and of a right part with n cases that make up the case with this index of both, or of either
abbrev pub parts_at : Bool → ℕ → ℕ → ℕ → Option ℕ × Option ℕ
parts_at true m n i = (Some (i / n), Some (i % n))
parts_at false m n i = (if nat_lt i m then (Some i, None) else (None, Some (i - m)))

-- the atoms of the case with this index, if any
abbrev pub part_by : Normal → Option ℕ → List Signed
part_by p None = []
part_by p (Some i) = case_by p i

-- an index of a case
abbrev pub IsIndex : Normal → Option ℕ → Type 0
IsIndex p None = Unit {0}
IsIndex p (Some i) = (i < case_count p) × (i < 2 ^ 64)
