-- Steps on small systems: each is computed.
use Rattle.std.proofs.Common.{◌≡◌, ◌-◌, ◌^◌, pos, negsuc, refl, List, [], ◌∷◌, true, false, Ok, Err, ℤ}
use Rattle.cf_num.specs.Divisors.{gcd_by, factors_by}
use Rattle.cf_linear.specs.declared.refusal.LimitKind.TheVariants.{Rows, Columns, Search}
use Rattle.cf_linear.specs.declared.refusal.Refusal.TheVariants.{Past, Limit}
use Rattle.cf_linear.specs.Rows.{Row}
use Rattle.cf_linear.specs.Systems.{System, need_divides, need_nonneg, floor_of, row_how, greatest}
use Rattle.cf_linear.specs.Steps.{clean, mix, last, searched, dropped}
use Rattle.cf_linear.specs.Stages.{limits}
use Rattle.cf_elim.specs.declared.act.Act.TheVariants.{Clean, Mix, Last, Search as SearchAct, Drop}
use Rattle.cf_cert.specs.declared.verdict.Why.TheVariants.{Unknown, Factor, Single, Held, Exact, Left, Refused}
use Rattle.cf_cert.specs.Applying.{apply}
use Rattle.cf_cert.specs.Certifying.{follow, eliminated}

-- c1 is known, c2 and c3 are not
abbrev two_unknowns : List Row → List Row → System
two_unknowns equations inequalities = record {
  known = 0 ∷ 1 ∷ [];
  unknown = 2 ∷ 3 ∷ [];
  next = 4;
  equations = equations;
  inequalities = inequalities;
  needs = 0;
}

-- 2 * c2 + 4 * c3 - c1 = 0 and c2 >= 0
abbrev mixed : System
mixed = two_unknowns (((1, negsuc 0) ∷ (2, pos 2) ∷ (3, pos 4) ∷ []) ∷ []) (((2, pos 1) ∷ []) ∷ [])

abbrev most : ℤ
most = pos (2 ^ 127 - 1)

-- c2 = c4 - 2 * c5 and c3 = c5
pub mix-makes : apply limits 1 mixed (Mix 2 3 (pos 1) (negsuc 1) (pos 0) (pos 1)) ≡ Ok (record {
  system = record {
    known = 0 ∷ 1 ∷ [];
    unknown = 4 ∷ 5 ∷ [];
    next = 6;
    equations = ((1, negsuc 0) ∷ (4, pos 2) ∷ []) ∷ [];
    inequalities = ((4, pos 1) ∷ (5, negsuc 1) ∷ []) ∷ [];
    needs = 0;
  };
  steps = [];
  back = (2, row_how ((4, pos 1) ∷ (5, negsuc 1) ∷ [])) ∷ (3, row_how ((5, pos 1) ∷ [])) ∷ [];
  bounds = [];
})
unfolding apply mix
mix-makes = refl

-- a determinant of -1: the two change places, and their order stays
pub mix-turns : apply limits 1 mixed (Mix 3 2 (pos 0) (pos 1) (pos 1) (pos 0)) ≡ Ok (record {
  system = record {
    known = 0 ∷ 1 ∷ [];
    unknown = 5 ∷ 4 ∷ [];
    next = 6;
    equations = ((1, negsuc 0) ∷ (4, pos 2) ∷ (5, pos 4) ∷ []) ∷ [];
    inequalities = ((4, pos 1) ∷ []) ∷ [];
    needs = 0;
  };
  steps = [];
  back = (3, row_how ((5, pos 1) ∷ [])) ∷ (2, row_how ((4, pos 1) ∷ [])) ∷ [];
  bounds = [];
})
unfolding apply mix
mix-turns = refl

pub mix-known : apply limits 1 mixed (Mix 1 3 (pos 1) (pos 0) (pos 0) (pos 1)) ≡ Err Unknown
unfolding apply mix
mix-known = refl

pub mix-second-known : apply limits 1 mixed (Mix 2 9 (pos 1) (pos 0) (pos 0) (pos 1)) ≡ Err Unknown
unfolding apply mix
mix-second-known = refl

pub mix-twice : apply limits 1 mixed (Mix 2 2 (pos 1) (pos 0) (pos 0) (pos 1)) ≡ Err Unknown
unfolding apply mix
mix-twice = refl

pub mix-unknown-first : apply limits 1 mixed (Mix 2 2 most (pos 0) (pos 0) (pos 2)) ≡ Err Unknown
unfolding apply mix
mix-unknown-first = refl

pub mix-two : apply limits 1 mixed (Mix 2 3 (pos 2) (pos 0) (pos 0) (pos 1)) ≡ Err Factor
unfolding apply mix
mix-two = refl

pub mix-none : apply limits 1 mixed (Mix 2 3 (pos 1) (pos 1) (pos 1) (pos 1)) ≡ Err Factor
unfolding apply mix
mix-none = refl

-- a product of the determinant, its other product, and their difference
pub mix-product-past : apply limits 1 mixed (Mix 2 3 most (pos 0) (pos 0) (pos 2)) ≡ Err (Refused Past)
unfolding apply mix
mix-product-past = refl

pub mix-other-product-past : apply limits 1 mixed (Mix 2 3 (pos 0) most (pos 2) (pos 0)) ≡ Err (Refused Past)
unfolding apply mix
mix-other-product-past = refl

pub mix-difference-past : apply limits 1 mixed (Mix 2 3 most (negsuc 0) (pos 1) (pos 1)) ≡ Err (Refused Past)
unfolding apply mix
mix-difference-past = refl

-- the new rows
pub mix-rows-past : apply limits 1 mixed (Mix 2 3 (pos 1) most (pos 0) (pos 1)) ≡ Err (Refused Past)
unfolding apply mix
mix-rows-past = refl

pub mix-factor-first : apply limits 1 mixed (Mix 2 3 (pos 2) most (pos 0) (pos 1)) ≡ Err Factor
unfolding apply mix
mix-factor-first = refl

-- c2 + c3 = 0 and 3 * c3 - c1 = 0
abbrev held : System
held = two_unknowns (((2, pos 1) ∷ (3, pos 1) ∷ []) ∷ ((1, negsuc 0) ∷ (3, pos 3) ∷ []) ∷ []) []

-- the second equation, of three times c3
pub last-makes : apply limits 1 held (Last 1) ≡ Ok (record {
  system = record {
    known = 0 ∷ 1 ∷ 4 ∷ [];
    unknown = 2 ∷ [];
    next = 5;
    equations = ((2, pos 1) ∷ (4, negsuc 0) ∷ []) ∷ [];
    inequalities = [];
    needs = 1;
  };
  steps = need_divides (pos 3) ((1, negsuc 0) ∷ []) ∷ floor_of 4 ((1, negsuc 0) ∷ []) (pos 3) ∷ [];
  back = (3, row_how ((4, negsuc 0) ∷ [])) ∷ [];
  bounds = [];
})
unfolding apply last
last-makes = refl

pub last-two : apply limits 1 held (Last 0) ≡ Err Single
unfolding apply last
last-two = refl

pub last-none : apply limits 1 held (Last 2) ≡ Err Single
unfolding apply last
last-none = refl

pub last-without-unknown : apply limits 1 (two_unknowns (((1, pos 1) ∷ []) ∷ []) []) (Last 0) ≡ Err Single
unfolding apply last
last-without-unknown = refl

-- what it would leave: two rows and a need, and four columns
pub last-rows : apply (record { search = 1; rows = 1; columns = 4 }) 1 held (Last 1) ≡ Err (Refused (Limit Rows 2))
unfolding apply last
last-rows = refl

pub last-columns : apply (record { search = 1; rows = 2; columns = 3 }) 1 held (Last 1) ≡ Err (Refused (Limit Columns 4))
unfolding apply last
last-columns = refl

-- c2 + 2 * c1 = 0 beside most * c2 + c3 = 0
abbrev great : System
great = two_unknowns (((2, most) ∷ (3, pos 1) ∷ []) ∷ ((1, pos 2) ∷ (2, pos 1) ∷ []) ∷ []) []

pub last-past : apply limits 1 great (Last 1) ≡ Err (Refused Past)
unfolding apply last
last-past = refl

pub last-counts-first : apply (record { search = 1; rows = 0; columns = 4 }) 1 great (Last 1) ≡ Err (Refused (Limit Rows 1))
unfolding apply last
last-counts-first = refl

pub search-held : apply limits 1 held (SearchAct 3 true) ≡ Err Held
unfolding apply searched
search-held = refl

pub search-held-first : apply (record { search = 0; rows = 9; columns = 9 }) 1 held (SearchAct 3 true) ≡ Err Held
unfolding apply searched
search-held-first = refl

pub search-known : apply limits 1 held (SearchAct 1 true) ≡ Err Unknown
unfolding apply searched
search-known = refl

pub drop-held : apply limits 1 held (Drop 3) ≡ Err Held
unfolding apply dropped
drop-held = refl

pub drop-known : apply limits 1 held (Drop 0) ≡ Err Unknown
unfolding apply dropped
drop-known = refl

-- 2 * c2 - c1 >= 0 and c1 - 3 * c2 >= 0
abbrev between : System
between = record {
  known = 0 ∷ 1 ∷ [];
  unknown = 2 ∷ [];
  next = 3;
  equations = [];
  inequalities = ((1, negsuc 0) ∷ (2, pos 2) ∷ []) ∷ ((1, pos 1) ∷ (2, negsuc 2) ∷ []) ∷ [];
  needs = 0;
}

-- c1 + c3 - 2 * c4 = 0 and c2 - c4 >= 0
abbrev searched_low : System
searched_low = record {
  known = 0 ∷ 1 ∷ 3 ∷ [];
  unknown = 2 ∷ 4 ∷ [];
  next = 5;
  equations = ((1, pos 1) ∷ (3, pos 1) ∷ (4, negsuc 1) ∷ []) ∷ [];
  inequalities = ((2, pos 1) ∷ (4, negsuc 0) ∷ []) ∷ ((1, pos 1) ∷ (2, negsuc 2) ∷ []) ∷ [];
  needs = 0;
}

pub search-lower : apply limits 1 between (SearchAct 2 true) ≡ Ok (record { system = searched_low; steps = []; back = []; bounds = (3, 2) ∷ [] })
unfolding apply searched
search-lower = refl

-- c1 - c3 - 3 * c4 = 0 and c4 - c2 >= 0
pub search-upper : apply limits 1 between (SearchAct 2 false) ≡ Ok (record {
  system = record {
    known = 0 ∷ 1 ∷ 3 ∷ [];
    unknown = 2 ∷ 4 ∷ [];
    next = 5;
    equations = ((1, pos 1) ∷ (3, negsuc 0) ∷ (4, negsuc 2) ∷ []) ∷ [];
    inequalities = ((1, negsuc 0) ∷ (2, pos 2) ∷ []) ∷ ((2, negsuc 0) ∷ (4, pos 1) ∷ []) ∷ [];
    needs = 0;
  };
  steps = [];
  back = [];
  bounds = (3, 3) ∷ [];
})
unfolding apply searched
search-upper = refl

-- a search counts its tuples with those before it, and neither rows nor columns
pub search-limit : apply limits 1048576 between (SearchAct 2 true) ≡ Err (Refused (Limit Search 2097152))
unfolding apply searched
search-limit = refl

pub search-uncounted : apply (record { search = 2; rows = 0; columns = 0 }) 1 between (SearchAct 2 true) ≡ apply limits 1 between (SearchAct 2 true)
unfolding apply searched
search-uncounted = refl

pub drop-inexact : apply limits 1 between (Drop 2) ≡ Err Exact
unfolding apply dropped
drop-inexact = refl

-- the same where c2 = 0 is an equation too
pub drop-held-first : apply limits 1 (record {
  known = 0 ∷ 1 ∷ [];
  unknown = 2 ∷ [];
  next = 3;
  equations = ((2, pos 1) ∷ []) ∷ [];
  inequalities = between.inequalities;
  needs = 0;
}) (Drop 2) ≡ Err Held
unfolding apply dropped
drop-held-first = refl

pub drop-inexact-first : apply (record { search = 1; rows = 0; columns = 0 }) 1 between (Drop 2) ≡ Err Exact
unfolding apply dropped
drop-inexact-first = refl

-- the lower bound c4 with the upper one c1 / 3
pub drop-makes : apply limits 1 searched_low (Drop 2) ≡ Ok (record {
  system = record {
    known = 0 ∷ 1 ∷ 3 ∷ [];
    unknown = 4 ∷ [];
    next = 5;
    equations = ((1, pos 1) ∷ (3, pos 1) ∷ (4, negsuc 1) ∷ []) ∷ [];
    inequalities = ((1, pos 1) ∷ (4, negsuc 2) ∷ []) ∷ [];
    needs = 0;
  };
  steps = [];
  back = (2, greatest (((4, negsuc 0) ∷ [], pos 1) ∷ [])) ∷ [];
  bounds = [];
})
unfolding apply dropped
drop-makes = refl

pub drop-new-held : apply limits 1 searched_low (Drop 4) ≡ Err Held
unfolding apply dropped
drop-new-held = refl

pub drop-rows : apply (record { search = 1; rows = 1; columns = 4 }) 1 searched_low (Drop 2) ≡ Err (Refused (Limit Rows 2))
unfolding apply dropped
drop-rows = refl

pub drop-columns : apply (record { search = 1; rows = 2; columns = 3 }) 1 searched_low (Drop 2) ≡ Err (Refused (Limit Columns 4))
unfolding apply dropped
drop-columns = refl

-- most * c1 + c2 >= 0 and c1 - 2 * c2 >= 0
abbrev great_pair : System
great_pair = record {
  known = 0 ∷ 1 ∷ [];
  unknown = 2 ∷ [];
  next = 3;
  equations = [];
  inequalities = ((1, most) ∷ (2, pos 1) ∷ []) ∷ ((1, pos 1) ∷ (2, negsuc 1) ∷ []) ∷ [];
  needs = 0;
}

pub drop-past : apply limits 1 great_pair (Drop 2) ≡ Err (Refused Past)
unfolding apply dropped
drop-past = refl

pub drop-counts-first : apply (record { search = 1; rows = 0; columns = 4 }) 1 great_pair (Drop 2) ≡ Err (Refused (Limit Rows 1))
unfolding apply dropped
drop-counts-first = refl

-- 2 * c2 - c1 >= 0 and 1 >= 0
abbrev untidy : System
untidy = record {
  known = 0 ∷ 1 ∷ [];
  unknown = 2 ∷ [];
  next = 3;
  equations = [];
  inequalities = ((1, negsuc 0) ∷ (2, pos 2) ∷ []) ∷ ((0, pos 1) ∷ []) ∷ [];
  needs = 0;
}

pub clean-makes : apply limits 1 untidy Clean ≡ Ok (record {
  system = record {
    known = 0 ∷ 1 ∷ 3 ∷ [];
    unknown = 2 ∷ [];
    next = 4;
    equations = [];
    inequalities = ((2, pos 1) ∷ (3, pos 1) ∷ []) ∷ [];
    needs = 1;
  };
  steps = need_nonneg ((0, pos 1) ∷ []) ∷ floor_of 3 ((1, negsuc 0) ∷ []) (pos 2) ∷ [];
  back = [];
  bounds = [];
})
unfolding apply clean gcd_by factors_by
clean-makes = refl

pub clean-rows : apply (record { search = 1; rows = 1; columns = 4 }) 1 untidy Clean ≡ Err (Refused (Limit Rows 2))
unfolding apply clean gcd_by factors_by
clean-rows = refl

pub clean-columns : apply (record { search = 1; rows = 2; columns = 3 }) 1 untidy Clean ≡ Err (Refused (Limit Columns 4))
unfolding apply clean gcd_by factors_by
clean-columns = refl

-- ---- steps one after the other
abbrev none : System
none = record { known = 0 ∷ []; unknown = []; next = 1; equations = []; inequalities = []; needs = 0 }

pub nothing-left : follow limits 1 1 none [] ≡ Ok (record { system = none; steps = []; back = []; bounds = [] })
unfolding follow
nothing-left = refl

pub unknown-left : follow limits 7 1 (record { known = 0 ∷ []; unknown = 1 ∷ []; next = 2; equations = []; inequalities = []; needs = 0 }) [] ≡ Err (7, Left)
unfolding follow
unknown-left = refl

pub equation-left : follow limits 7 1 (record { known = 0 ∷ []; unknown = []; next = 1; equations = [] ∷ []; inequalities = []; needs = 0 }) [] ≡ Err (7, Left)
unfolding follow
equation-left = refl

pub inequality-left : follow limits 7 1 (record { known = 0 ∷ []; unknown = []; next = 1; equations = []; inequalities = [] ∷ []; needs = 0 }) [] ≡
    Err (7, Left)
unfolding follow
inequality-left = refl

pub second-step : eliminated limits between (Clean ∷ Drop 9 ∷ Clean ∷ []) ≡ Err (2, Unknown)
unfolding eliminated follow apply clean dropped gcd_by factors_by
second-step = refl

pub first-counts : eliminated (record { search = 1; rows = 1; columns = 4 }) between (Clean ∷ []) ≡ Err (0, Refused (Limit Rows 2))
unfolding eliminated follow apply clean
first-counts = refl

-- searches of two and of three tuples have six
pub searches-multiply : eliminated (record { search = 5; rows = 9; columns = 9 }) between (SearchAct 2 true ∷ SearchAct 2 false ∷ []) ≡
    Err (2, Refused (Limit Search 6))
unfolding eliminated follow apply searched
searches-multiply = refl

-- to the end: c2 comes back from c4, c4 from the search
pub whole-case : eliminated limits between (SearchAct 2 true ∷ Drop 2 ∷ Last 0 ∷ Clean ∷ []) ≡ Ok (record {
  system = record { known = 0 ∷ 1 ∷ 3 ∷ 5 ∷ []; unknown = []; next = 6; equations = []; inequalities = []; needs = 2 };
  steps =
      need_divides (pos 2) ((1, pos 1) ∷ (3, pos 1) ∷ []) ∷ floor_of 5 ((1, pos 1) ∷ (3, pos 1) ∷ []) (pos 2)
      ∷ need_nonneg ((1, pos 1) ∷ (5, negsuc 2) ∷ []) ∷ [];
  back = (4, row_how ((5, pos 1) ∷ [])) ∷ (2, greatest (((4, negsuc 0) ∷ [], pos 1) ∷ [])) ∷ [];
  bounds = (3, 2) ∷ [];
})
unfolding eliminated follow apply searched dropped last clean
whole-case = refl
