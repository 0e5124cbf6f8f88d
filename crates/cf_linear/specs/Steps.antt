-- The steps of the elimination: Clean, Merge, the end of an equation, the search and the drop of an unknown.
use Rattle.std.specs.Prelude.{ℕ, ◌+◌, ◌*◌, ◌-◌, ◌^◌, ◌==◌, nat_lt, nat_le, ℤ, pos, negsuc, neg_ℤ, unsigned_abs, int_lt, List, [], ◌∷◌, ◌++◌, length, map, filter, min, max, Bool, true, not, ◌&&◌, ◌||◌, Option, Some, None, if◌then◌else◌}
use Rattle.std.specs.List.{list_any, list_all, fold, flat_map}
use Rattle.std.specs.Int.{int_div_euclid, int_rem_euclid}
use Rattle.cf_num.specs.Divisors.{gcd_of}
use Rattle.cf_num.specs.Parts.{parts_of}
use Rattle.cf_linear.specs.Rows.{Row, entry, is_zero, put, comb, comb_passes, same_row, without, norm, subst_row, subst_passes}
use Rattle.cf_linear.specs.Systems.{System, Step, floor_of, need_nonneg, need_zero, need_divides, How, row_how, greatest, least, Answer, then_answer}

-- ---- parts of rows
abbrev pub has_column : List ℕ → ℕ → Bool
has_column us c = list_any (λ u. u == c) us

abbrev pub has_unknown : List ℕ → Row → Bool
has_unknown us r = list_any (λ (c, k). has_column us c) r

abbrev pub unknown_part : List ℕ → Row → Row
unknown_part us r = filter (λ (c, k). has_column us c) r

abbrev pub known_part : List ℕ → Row → Row
known_part us r = filter (λ (c, k). not (has_column us c)) r

-- the unknowns of a row, in their order
abbrev pub present : List ℕ → Row → List ℕ
present us r = filter (λ u. not (is_zero (entry r u))) us

-- the greatest common divisor of the entries
abbrev pub common : Row → ℕ
common [] = 0
common ((c, k) ∷ r) = gcd_of (unsigned_abs k) (common r)

abbrev pub divides_it : ℕ → ℤ → Bool
divides_it g k = is_zero (int_rem_euclid k (pos g))

-- each entry divided by g and rounded down
abbrev pub divided : ℕ → Row → Row
divided g [] = []
divided g ((c, k) ∷ r) = put c (int_div_euclid k (pos g)) (divided g r)

abbrev pub subst_all : ℕ → Row → List Row → List Row
subst_all x s rows = map (subst_row x s) rows

abbrev pub one_at : ℕ → Row
one_at c = (c, pos 1) ∷ []

abbrev pub greatest_of : List ℕ → ℕ
greatest_of ns = fold max 0 ns

-- ---- Clean
-- an inequality is tightened by the greatest common divisor g of its unknowns' coefficients; where g does not divide the known part, its floor by g is a new column
abbrev pub tighten_row : List ℕ → ℕ → Row → Option Step × Row
tighten_row us next r =
    let g = common (unknown_part us r) in
    if nat_le g 1 then (None, r) else
    (if list_all (λ (c, k). (c == 0) || divides_it g k) (known_part us r) then (None, divided g r)
    else (Some (floor_of next (known_part us r) (pos g)), comb (pos 1) (divided g (unknown_part us r)) (pos 1) (one_at next)))

pub record Tightened : Type 0 where
  pub next : ℕ
  pub made : List ℕ
  pub steps : List Step
  pub rows : List Row

abbrev pub next_tightened : Tightened → (Option Step × Row) → Tightened
next_tightened t (None, r) = record { next = t.next; made = t.made; steps = t.steps; rows = t.rows ++ (r ∷ []) }
next_tightened t (Some m, r) = record { next = t.next + 1; made = t.made ++ (t.next ∷ []); steps = t.steps ++ (m ∷ []); rows = t.rows ++ (r ∷ []) }

abbrev pub then_tighten : List ℕ → Tightened → Row → Tightened
then_tighten us t r = next_tightened t (tighten_row us t.next r)

abbrev pub tighten_all : List ℕ → ℕ → List Row → Tightened
tighten_all us next rows = fold (then_tighten us) (record { next = next; made = []; steps = []; rows = [] }) rows

-- the rows without those that are equal to an earlier one
abbrev pub distinct_after : List Row → List Row → List Row
distinct_after seen [] = []
distinct_after seen (r ∷ rows) = (if list_any (same_row r) seen then distinct_after seen rows else r ∷ distinct_after (r ∷ seen) rows)

-- rows without unknowns become needs, the inequalities are tightened, and equal ones are dropped
unfoldable pub clean : System → Answer
clean m =
    let zeros = filter (λ r. not (has_unknown m.unknown r)) m.equations in
    let nonnegs = filter (λ r. not (has_unknown m.unknown r)) m.inequalities in
    let t = tighten_all m.unknown m.next (filter (has_unknown m.unknown) m.inequalities) in
    record {
      system = record {
        known = m.known ++ t.made;
        unknown = m.unknown;
        next = t.next;
        equations = filter (has_unknown m.unknown) m.equations;
        inequalities = distinct_after [] t.rows;
        needs = m.needs + length zeros + length nonnegs;
      };
      steps = map need_zero zeros ++ map need_nonneg nonnegs ++ t.steps;
      back = [];
      bounds = [];
    }

-- ---- an equation step
abbrev pub replaced : ℕ → ℕ → List ℕ → List ℕ
replaced x y us = map (λ u. (if u == x then y else u)) us

-- a at column u and b at column v
abbrev pub two_at : ℤ → ℕ → ℤ → ℕ → Row
two_at a u b v = comb a (one_at u) b (one_at v)

-- x = a * u + b * v and y = c * u + d * v, for new unknowns u and v in the places of x and y
unfoldable pub mix : System → ℕ → ℕ → ℤ → ℤ → ℤ → ℤ → Answer
mix m x y a b c d =
    let u = m.next in
    let v = m.next + 1 in
    record {
      system = record {
        known = m.known;
        unknown = replaced x u (replaced y v m.unknown);
        next = m.next + 2;
        equations = subst_all x (two_at a u b v) (subst_all y (two_at c u d v) m.equations);
        inequalities = subst_all x (two_at a u b v) (subst_all y (two_at c u d v) m.inequalities);
        needs = m.needs;
      };
      steps = [];
      back = (x, row_how (two_at a u b v)) ∷ (y, row_how (two_at c u d v)) ∷ [];
      bounds = [];
    }

abbrev pub mix_passes : System → ℕ → ℕ → ℤ → ℤ → ℤ → ℤ → Bool
mix_passes m x y a b c d =
    list_any (λ r. subst_passes y (two_at c m.next d (m.next + 1)) r || subst_passes x (two_at a m.next b (m.next + 1))
    (subst_row y (two_at c m.next d (m.next + 1)) r)) (m.equations ++ m.inequalities)

-- the factors of a Merge of two unknowns with coefficients a and b: x1 = s * u - (b / g) * v and x2 = t * u + (a / g) * v
pub record Factors : Type 0 where
  pub s : ℤ
  pub m : ℤ
  pub t : ℤ
  pub n : ℤ

unfoldable pub factors_of : ℤ → ℤ → Factors
factors_of a b = let p = parts_of a b in record { s = p.s; m = neg_ℤ (int_div_euclid b p.g); t = p.t; n = int_div_euclid a p.g }

-- Merge: the two unknowns of the equation e give way to two new ones, of which e holds the first alone
unfoldable pub merge : System → Row → ℕ → ℕ → Answer
merge m e x1 x2 = let f = factors_of (entry e x1) (entry e x2) in mix m x1 x2 f.s f.m f.t f.n

unfoldable pub merge_passes : System → Row → ℕ → ℕ → Bool
merge_passes m e x1 x2 = let f = factors_of (entry e x1) (entry e x2) in mix_passes m x1 x2 f.s f.m f.t f.n

unfoldable pub merge_factor : Row → ℕ → ℕ → ℕ
merge_factor e x1 x2 =
    let f = factors_of (entry e x1) (entry e x2) in
    max (unsigned_abs f.s + unsigned_abs f.m) (unsigned_abs f.t + unsigned_abs f.n)

abbrev pub is_positive : ℤ → Bool
is_positive k = int_lt (pos 0) k

abbrev pub is_unit : ℤ → Bool
is_unit c = unsigned_abs c == 1

-- the row that is u where c * u + r = 0: -c * r for c of 1 or -1, else the column d of floor(r / |c|) with its sign turned for positive c
abbrev pub solved_row : ℤ → Row → ℕ → Row
solved_row c r d =
    (if is_unit c then comb (neg_ℤ c) r (pos 0) [] else (d, (if is_positive c then negsuc 0 else pos 1)) ∷ [])

-- the equation e, one of the system, has the one unknown u; both leave, and the other equations are `rest`
unfoldable pub last : System → Row → List Row → ℕ → Answer
last m e rest u =
    let c = entry e u in
    let r = without u e in
    let d = m.next in
    let s = solved_row c r d in
    record {
      system = record {
        known = (if is_unit c then m.known else m.known ++ (d ∷ []));
        unknown = filter (λ w. not (w == u)) m.unknown;
        next = (if is_unit c then m.next else m.next + 1);
        equations = subst_all u s rest;
        inequalities = subst_all u s m.inequalities;
        needs = (if is_unit c then m.needs else m.needs + 1);
      };
      steps = (if is_unit c then [] else need_divides (pos (unsigned_abs c)) r ∷ floor_of d r (pos (unsigned_abs c)) ∷ []);
      back = (u, row_how s) ∷ [];
      bounds = [];
    }

abbrev pub last_passes : System → Row → List Row → ℕ → Bool
last_passes m e rest u = list_any (subst_passes u (solved_row (entry e u) (without u e) m.next)) (rest ++ m.inequalities)

-- ---- a Bound step
abbrev pub lowers : ℕ → List Row → List Row
lowers x rows = filter (λ r. is_positive (entry r x)) rows

abbrev pub uppers : ℕ → List Row → List Row
uppers x rows = filter (λ r. int_lt (entry r x) (pos 0)) rows

abbrev pub free_of : ℕ → List Row → List Row
free_of x rows = filter (λ r. is_zero (entry r x)) rows

-- which unknown goes, by which side, the product of that side's coefficients, and how many pairs its bounds make
pub record Pick : Type 0 where
  pub unknown : ℕ
  pub lower : Bool
  pub product : ℕ
  pub pairs : ℕ

-- the product of the coefficients of x, which stops at 2^64 - 1
abbrev pub product_of : ℕ → List Row → ℕ
product_of x rows = fold (λ n r. min (n * unsigned_abs (entry r x)) (2 ^ 64 - 1)) 1 rows

abbrev pub has_greater : ℕ → List Row → Bool
has_greater x rows = list_any (λ r. nat_lt 1 (unsigned_abs (entry r x))) rows

abbrev pub pick_at : List Row → ℕ → Pick
pick_at rows x =
    let low = lowers x rows in
    let high = uppers x rows in
    let p = product_of x low in
    let q = product_of x high in
    let both = has_greater x low && has_greater x high in
    record { unknown = x; lower = (if both then nat_le p q else true); product = (if both then min p q else 1); pairs = length low * length high }

abbrev pub is_better : Pick → Pick → Bool
is_better c d = nat_lt c.product d.product || ((c.product == d.product) && nat_lt c.pairs d.pairs)

abbrev pub best : Pick → List Pick → Pick
best c [] = c
best c (d ∷ ds) = best (if is_better d c then d else c) ds

-- the least product, then the fewest pairs, then the least place, among x and then us
unfoldable pub pick : List Row → ℕ → List ℕ → Pick
pick rows x us = best (pick_at rows x) (map (pick_at rows) us)

-- whether the row is a bound of x on that side with a coefficient above 1
abbrev pub searches : ℕ → Bool → Row → Bool
searches x lower r = nat_lt 1 (unsigned_abs (entry r x)) && (if lower then is_positive (entry r x) else int_lt (entry r x) (pos 0))

-- -l + k - p * n for a lower bound p * x + l, and m - k - q * n for an upper bound -q * x + m, n being the column after k
abbrev pub search_equation : ℕ → Bool → ℕ → Row → Row
search_equation x lower k r =
    comb (if lower then negsuc 0 else pos 1) (without x r) (pos 1)
    (two_at (if lower then pos 1 else negsuc 0) k (neg_ℤ (pos (unsigned_abs (entry r x)))) (k + 1))

-- x - n for a lower bound, and -x + n for an upper bound
abbrev pub search_bound : ℕ → Bool → ℕ → Row
search_bound x lower k = two_at (if lower then pos 1 else negsuc 0) x (if lower then negsuc 0 else pos 1) (k + 1)

pub record Found : Type 0 where
  pub next : ℕ
  pub columns : List ℕ
  pub unknowns : List ℕ
  pub equations : List Row
  pub rows : List Row
  pub bounds : List (ℕ × ℕ)

abbrev pub found_row : ℕ → Bool → Found → Row → Found
found_row x lower s r =
    (if searches x lower r then
    record {
      next = s.next + 2;
      columns = s.columns ++ (s.next ∷ []);
      unknowns = s.unknowns ++ ((s.next + 1) ∷ []);
      equations = s.equations ++ (search_equation x lower s.next r ∷ []);
      rows = s.rows ++ (search_bound x lower s.next ∷ []);
      bounds = s.bounds ++ ((s.next, unsigned_abs (entry r x)) ∷ []);
    }
    else record { next = s.next; columns = s.columns; unknowns = s.unknowns; equations = s.equations; rows = s.rows ++ (r ∷ []); bounds = s.bounds })

abbrev pub found_all : ℕ → Bool → Found → List Row → Found
found_all x lower s rows = fold (found_row x lower) s rows

abbrev pub no_found : System → Found
no_found m = record { next = m.next; columns = []; unknowns = []; equations = []; rows = []; bounds = [] }

abbrev pub searched_as : System → Found → Answer
searched_as m s = record {
  system = record {
    known = m.known ++ s.columns;
    unknown = m.unknown ++ s.unknowns;
    next = s.next;
    equations = m.equations ++ s.equations;
    inequalities =
        s.rows;
    needs = m.needs;
  };
  steps = [];
  back = [];
  bounds = s.bounds;
}

-- each bound of x on that side with a coefficient above 1 becomes an equation with a search column and a new unknown
unfoldable pub searched : System → ℕ → Bool → Answer
searched m x lower = searched_as m (found_all x lower (no_found m) m.inequalities)

-- q * l + p * m for a lower bound p * x + l and an upper bound -q * x + m
abbrev pub pair_row : ℕ → Row → Row → Row
pair_row x low high = comb (neg_ℤ (entry high x)) (without x low) (entry low x) (without x high)

abbrev pub pairs_of : ℕ → List Row → List Row → List Row
pairs_of x low high = flat_map (λ l. map (pair_row x l) high) low

abbrev pub how_between : ℕ → List Row → List Row → How
how_between x [] [] = row_how []
how_between x [] (u ∷ high) = least (map (λ r. (without x r, neg_ℤ (entry r x))) (u ∷ high))
how_between x (l ∷ low) high = greatest (map (λ r. (without x r, entry r x)) (l ∷ low))

-- x, which no equation holds, is dropped
unfoldable pub dropped : System → ℕ → Answer
dropped m x = record {
  system = record {
    known = m.known;
    unknown = filter (λ w. not (w == x)) m.unknown;
    next = m.next;
    equations = m.equations;
    inequalities = free_of x m.inequalities ++ pairs_of x (lowers x m.inequalities) (uppers x m.inequalities);
    needs = m.needs;
  };
  steps = [];
  back = (x, how_between x (lowers x m.inequalities) (uppers x m.inequalities)) ∷ [];
  bounds = [];
}

abbrev pub pair_passes : ℕ → Row → Row → Bool
pair_passes x low high = comb_passes (neg_ℤ (entry high x)) (without x low) (entry low x) (without x high)

abbrev pub drop_passes : System → ℕ → Bool
drop_passes m x = list_any (λ l. list_any (pair_passes x l) (uppers x m.inequalities)) (lowers x m.inequalities)

-- the search, where the picked product is above 1
unfoldable pub searched_by : System → Pick → Answer
searched_by m c = (if nat_lt 1 c.product then searched m c.unknown c.lower else record { system = m; steps = []; back = []; bounds = [] })

-- the search and then the drop of the picked unknown
unfoldable pub bound : System → Pick → Answer
bound m c = let s = searched_by m c in then_answer s (dropped s.system c.unknown)

unfoldable pub bound_passes : System → Pick → Bool
bound_passes m c = drop_passes (searched_by m c).system c.unknown

-- the greatest search bound, times the greatest norm, without the entry of x, of an inequality that holds x
unfoldable pub bound_factor : System → Pick → ℕ
bound_factor m c =
    max 1 (greatest_of (map (λ (k, n). n) (searched_by m c).bounds)) *
    greatest_of (map (λ r. norm (without c.unknown r)) (filter (λ r. not (is_zero (entry r c.unknown))) m.inequalities))

-- the greatest norm of a row that gets a new column
abbrev pub let_norm : Step → ℕ
let_norm (floor_of c r g) = norm r
let_norm (need_nonneg r) = 0
let_norm (need_zero r) = 0
let_norm (need_divides g r) = 0
