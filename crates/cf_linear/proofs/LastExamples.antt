-- The end of an equation beside two others: these keep their order, and so do the inequalities.
use Rattle.std.proofs.Common.{◌≡◌, pos, negsuc, [], ◌∷◌, refl}
use Rattle.cf_linear.specs.Rows.{Row}
use Rattle.cf_linear.specs.Steps.{last}
use Rattle.cf_linear.specs.Systems.{System, floor_of, need_divides, row_how}

-- x1 - 5 = 0, x1 + x2 = 0, 7 + x1 + 2 * x3 = 0, and x1 + x3 >= 0, 1 - x1 >= 0
abbrev first_equation : Row
first_equation = (0, negsuc 4) ∷ (1, pos 1) ∷ []

abbrev second_equation : Row
second_equation = (1, pos 1) ∷ (2, pos 1) ∷ []

abbrev third_equation : Row
third_equation = (0, pos 7) ∷ (1, pos 1) ∷ (3, pos 2) ∷ []

abbrev three : System
three = record {
  known = 0 ∷ [];
  unknown = 1 ∷ 2 ∷ 3 ∷ [];
  next = 4;
  equations = first_equation ∷ second_equation ∷ third_equation ∷ [];
  inequalities = ((1, pos 1) ∷ (3, pos 1) ∷ []) ∷ ((0, pos 1) ∷ (1, negsuc 0) ∷ []) ∷ [];
  needs = 0;
}

last_of_three : last three first_equation (second_equation ∷ third_equation ∷ []) 1 ≡
    record {
      system = record {
        known = 0 ∷ [];
        unknown = 2 ∷ 3 ∷ [];
        next = 4;
        equations = ((0, pos 5) ∷ (2, pos 1) ∷ []) ∷ ((0, pos 12) ∷ (3, pos 2) ∷ []) ∷ [];
        inequalities = ((0, pos 5) ∷ (3, pos 1) ∷ []) ∷ ((0, negsuc 3) ∷ []) ∷ [];
        needs = 0;
      };
      steps = [];
      back = (1, row_how ((0, pos 5) ∷ [])) ∷ [];
      bounds = [];
    }
unfolding last
last_of_three = refl

-- 2 * x1 - 6 = 0: a divided known part is a new column, which is the last known one, with the sign turned
abbrev doubled_equation : Row
doubled_equation = (0, negsuc 5) ∷ (1, pos 2) ∷ []

divided_of_three : last three doubled_equation (second_equation ∷ third_equation ∷ []) 1 ≡
    record {
      system = record {
        known = 0 ∷ 4 ∷ [];
        unknown = 2 ∷ 3 ∷ [];
        next = 5;
        equations = ((2, pos 1) ∷ (4, negsuc 0) ∷ []) ∷ ((0, pos 7) ∷ (3, pos 2) ∷ (4, negsuc 0) ∷ []) ∷ [];
        inequalities = ((3, pos 1) ∷ (4, negsuc 0) ∷ []) ∷ ((0, pos 1) ∷ (4, pos 1) ∷ []) ∷ [];
        needs = 1;
      };
      steps = need_divides (pos 2) ((0, negsuc 5) ∷ []) ∷ floor_of 4 ((0, negsuc 5) ∷ []) (pos 2) ∷ [];
      back = (1, row_how ((4, negsuc 0) ∷ [])) ∷ [];
      bounds = [];
    }
unfolding last
divided_of_three = refl

-- for a negative coefficient the sign is kept
abbrev turned_equation : Row
turned_equation = (0, pos 6) ∷ (1, negsuc 1) ∷ []

turned_of_three : (last three turned_equation (second_equation ∷ third_equation ∷ []) 1).back ≡ (1, row_how ((4, pos 1) ∷ [])) ∷ []
unfolding last
turned_of_three = refl
