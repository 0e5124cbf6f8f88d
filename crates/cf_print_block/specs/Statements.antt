-- The statements of a block, in a language.
use Rattle.std.specs.Prelude.{◌≡◌, ℕ, zero, suc, ◌+◌, ◌-◌, Bool, true, false, not, ◌&&◌, List, [], ◌∷◌, ◌++◌, map, length, Option, Some, None, codes, decimal, nat_eq, nat_lt, if◌then◌else◌, slice_get, pos}
use Rattle.cf_tree.specs.declared.base.Base.{Base}
use Rattle.cf_tree.specs.declared.base.Base.TheVariants.{Int}
use Rattle.cf_range.specs.Ranges.{between, whole}
use Rattle.cf_stmt.specs.Blocks.{Block, give, none, leave, bind, part, join, test, arm}
use Rattle.cf_print_term.specs.Expressions.{Sight}
use Rattle.cf_print_line.specs.Heads.{all_parameters, part_opening, part_closing}
use Rattle.cf_print_line.specs.Layout.{line, let_lines, read_lines, comment_text, none_text, next_text, fall_lines, if_text, guard_text, end_lines, guard_end, else_lines, scope_lines, search_text, give_lines, owned_text, call_lines}
use Rattle.cf_print_block.specs.Places.{Setting, table, name_in, deeper, leaving_by, behind_arm, outputs_at, giving_of, giving, Draft, put, taking, freed, given, variable, first_at_hand, behind_one, behind, ahead, Held, wish_at}
use Rattle.cf_print_shape.specs.Shapes.{number_of, is_none, is_leave, is_if, exit_of, gives, is_straight, can_fall, is_plain, block_reads, those_read, results_of}
use Rattle.cf_print_shape.specs.Wishes.{given_at}
use Rattle.cf_print.specs.Names.{is_one_of}
use Rattle.cf_print.specs.declared.language.Language.{Language}
use Rattle.cf_print.specs.declared.language.Language.TheVariants.{C, Python, JavaScript, Rust}
use Rattle.cf_print_shape.specs.declared.exit.Exit.{Exit}
use Rattle.cf_print_shape.specs.declared.exit.Exit.TheVariants.{Falls, GoesOn, Ends}
use Rattle.cf_print_block.specs.declared.place.Place.{Place}
use Rattle.cf_print_block.specs.declared.naming.Role.{Role}
use Rattle.cf_print_block.specs.declared.naming.Role.TheVariants.{Value as AValue, Pointer}
use Rattle.cf_print_block.specs.declared.values.AtHand.{AtHand}
use Rattle.cf_print_block.specs.declared.values.Wish.{Wish}
use Rattle.cf_print_block.specs.declared.searches.Loops.{Loops}
use Rattle.cf_print_block.specs.declared.inner.Inner.{Inner}

-- ---- values in variables

abbrev pub given_text : Language → AtHand → List ℕ
given_text l v = if v.is_variable then owned_text l v.base v.text else v.text

abbrev pub given_texts : Language → List AtHand → List (List ℕ)
given_texts l vs = map (given_text l) vs

-- one value more
abbrev pub with_value : AtHand → Draft → Held → Held
with_value v d h = record { values = h.values ++ (v ∷ []); draft = d }

-- a value gets a variable, if it is none
unfoldable pub with_let : Setting → ℕ → Wish → AtHand → Held → Held
with_let s depth wish v h =
    let name = name_in s h.draft.taken v.base wish.name in
    with_value (variable (table s) v.base v.range name)
    (taking name (put (let_lines s.language depth wish.is_read v.is_small v.base name v.text) h.draft)) h

unfoldable pub with_variable : Setting → ℕ → Wish → AtHand → Held → Held
with_variable s depth wish v h =
    if v.is_variable then with_value v (put (read_lines s.language depth wish.is_read v.text) h.draft) h else with_let s depth wish v h

-- values in variables, each by the same wish, behind those that have variables
abbrev pub in_variables : Setting → ℕ → Wish → List AtHand → Held → Held
in_variables s depth wish [] h = h
in_variables s depth wish (v ∷ vs) h = in_variables s depth wish vs (with_variable s depth wish v h)

abbrev pub no_values : Draft → Held
no_values d = record { values = []; draft = d }

unfoldable pub all_in_variables : Setting → ℕ → Wish → Held → Held
all_in_variables s depth wish h = in_variables s depth wish h.values (no_values h.draft)

abbrev pub no_wish : Wish
no_wish = record { name = None; is_read = true }

abbrev pub never_read : Wish
never_read = record { name = None; is_read = false }

-- of a value that a block gets as the variable x
abbrev pub wish_for : Setting → Place → Block → ℕ → Wish
wish_for s p b x = record { name = wish_at (outputs_at s p.giving) (given_at 0 b x); is_read = block_reads x b }

-- values in variables, which are those of a block from x on
abbrev pub as_variables : Setting → Place → Block → ℕ → List AtHand → Held → Held
as_variables s p b x [] h = h
as_variables s p b x (v ∷ vs) h = as_variables s p b (suc x) vs (with_variable s p.depth (wish_for s p b x) v h)

unfoldable pub bound_for : Setting → Place → ℕ → Block → Held → Held
bound_for s p x b h = as_variables s p b x h.values (no_values h.draft)

-- a block that gets values behind the variables, or one before them
unfoldable pub inner_behind : Setting → Place → Sight → Block → Held → Inner
inner_behind s p w b h = let k = bound_for s p (length w.names) b h in record { scope = behind w k.values; draft = k.draft }

unfoldable pub inner_ahead : Setting → Place → Sight → Block → Held → Inner
inner_ahead s p w b h = let k = bound_for s p 0 b h in record { scope = ahead (first_at_hand k.values) w; draft = k.draft }

-- values stay as they are where no statement comes between
unfoldable pub kept : Setting → ℕ → Bool → Held → Held
kept s depth is_plain h = if is_plain then h else all_in_variables s depth no_wish h

abbrev pub joined_held : Held → Held → Held
joined_held a b = record { values = a.values ++ b.values; draft = b.draft }

-- ---- names of functions, results and pointers

abbrev pub times_in : ℕ → List ℕ → ℕ
times_in n [] = 0
times_in n (m ∷ ms) = if nat_eq n m then suc (times_in n ms) else times_in n ms

abbrev pub first_name : ℕ → List ℕ
first_name n = if nat_eq n 0 then codes "part" else codes "choose_" ++ decimal n

-- behind so many functions for the same choose, or for parts of main
abbrev pub numbered_name : ℕ → ℕ → List ℕ
numbered_name n k = if nat_eq k 0 then first_name n else first_name n ++ codes "_" ++ decimal (suc k)

unfoldable pub function_name : ℕ → List ℕ → List ℕ
function_name n numbers = numbered_name n (times_in n numbers)

abbrev pub pointer_wish : Option (List ℕ) → List ℕ
pointer_wish None = codes "out"
pointer_wish (Some o) = codes "out_" ++ o

-- the wish for the k-th name of some variables, where these are asked
abbrev pub role_wish : Role → List (List ℕ) → ℕ → Option (List ℕ)
role_wish AValue asked k = slice_get asked k
role_wish Pointer asked k = Some (pointer_wish (slice_get asked k))

-- names for variables of these bases, from the k-th on
abbrev pub names_for : Setting → Role → List (List ℕ) → ℕ → List Base → List (List ℕ) → List (List ℕ)
names_for s r asked k [] taken = []
names_for s r asked k (b ∷ bs) taken =
    let name = name_in s taken b (role_wish r asked k) in name ∷ names_for s r asked (suc k) bs (taken ++ (name ∷ []))

-- in C a pointer for each result
abbrev pub has_pointers : Language → Bool
has_pointers C = true
has_pointers Python = false
has_pointers JavaScript = false
has_pointers Rust = false

abbrev pub pointers_for : Setting → List (List ℕ) → List Base → List (List ℕ) → List (List ℕ)
pointers_for s asked bs taken = if has_pointers s.language then names_for s Pointer asked 0 bs taken else []

-- ---- functions for parts

-- names of parameters and their bases
pub record Parameters : Type 0 where
  pub names : List (List ℕ)
  pub bases : List Base

-- one more behind them, where its name is none of theirs
abbrev pub with_parameter : List ℕ → Base → Parameters → Parameters
with_parameter x b ps =
    if is_one_of x ps.names then ps else record { names = ps.names ++ (x ∷ []); bases = ps.bases ++ (b ∷ []) }

-- variables of these names and bases behind them: two that have one name have one value, and are one parameter
abbrev pub with_parameters : List (List ℕ) → List Base → Parameters → Parameters
with_parameters (x ∷ xs) (b ∷ bs) ps = with_parameters xs bs (with_parameter x b ps)
with_parameters _ _ ps = ps

abbrev pub parameters_of : List (List ℕ) → List Base → Parameters
parameters_of xs bs = with_parameters xs bs (record { names = []; bases = [] })

-- whether each of these names is none of those before it
abbrev pub differ_behind : List (List ℕ) → List (List ℕ) → Bool
differ_behind seen [] = true
differ_behind seen (x ∷ xs) = not (is_one_of x seen) && differ_behind (seen ++ (x ∷ [])) xs

-- a block that is not straight becomes a function before this one, with what it reads as parameters
pub record Function : Type 0 where
  pub number : ℕ
  pub name : List ℕ
  pub params : List (List ℕ)
  pub bases : List Base
  pub results : List Base
  pub pointers : List (List ℕ)

unfoldable pub function_of : Setting → Sight → Block → List ℕ → Function
function_of s w a numbers =
    let n = number_of a in
    let read = parameters_of (those_read 0 a w.names) (those_read 0 a w.bases) in
    let results = results_of w.bases a in
    record {
      number = n;
      name = function_name n numbers;
      params = read.names;
      bases = read.bases;
      results = results;
      pointers = pointers_for s (s.outputs n) results read.names;
    }

-- its parameters differ from each other
abbrev pub ParametersDiffer : Type 0
ParametersDiffer = (s : Setting) (w : Sight) (a : Block) (numbers : List ℕ) → differ_behind [] (function_of s w a numbers).params ≡ true

abbrev pub inside : Function → Place
inside f = record { depth = 1; exit = Falls; arms = 0; giving = giving_of f.number }

-- its draft before its first statement, behind these functions
unfoldable pub begun : Setting → Function → List ℕ → List ℕ → Draft
begun s f functions numbers = record {
  lines = part_opening s.language f.number f.name (all_parameters s.language f.params f.bases f.pointers f.results) f.results;
  pointers = f.pointers;
  taken = f.params ++ f.pointers;
  functions = functions;
  numbers = numbers ++ (f.number ∷ []);
}

abbrev pub variables : Setting → List (List ℕ) → List Base → List AtHand
variables s (x ∷ xs) (b ∷ bs) = variable (table s) b whole x ∷ variables s xs bs
variables s _ _ = []

-- its results in variables, behind the lines of the function that calls it, whose draft this was; and the draft behind its last statement
unfoldable pub results_held : Setting → ℕ → Function → List ℕ → List (List ℕ) → List (List ℕ) → Draft → Held
results_held s depth f lines pointers taken done =
    let names = names_for s AValue (outputs_at s (giving_of f.number)) 0 f.results taken in
    let status = name_in s (taken ++ names) Int (Some (codes "status")) in
    record {
      values = variables s names f.results;
      draft = record {
        lines = lines ++ call_lines s.language depth status f.results names f.name f.params;
        pointers = pointers;
        taken = (taken ++ names) ++ (status ∷ []);
        functions = (done.functions ++ done.lines) ++ part_closing s.language;
        numbers = done.numbers;
      };
    }

unfoldable pub called : Setting → Place → Sight → Block → (Place → Draft → Draft) → Draft → Held
called s p w a body d =
    let f = function_of s w a d.numbers in
    results_held s p.depth f d.lines d.pointers d.taken (body (inside f) (begun s f d.functions d.numbers))

-- the values of a block: in its place where it is straight
unfoldable pub in_place : Setting → Place → Sight → Block → (Place → Draft → Held) → (Place → Draft → Draft) → Draft → Held
in_place s p w a straight body d = if is_straight p.exit a then straight p d else called s p w a body d

-- ---- lines of a place

abbrev pub exit_lines : Language → ℕ → Exit → List ℕ
exit_lines l depth Falls = fall_lines l depth
exit_lines l depth GoesOn = line l depth (next_text l)
exit_lines l depth (Ends n) = line l depth (none_text l depth n)

-- where a condition holds the block is left
abbrev pub guard_lines : Language → ℕ → List ℕ → Exit → List ℕ
guard_lines l depth condition e = line l depth (guard_text l condition) ++ exit_lines l (suc depth) e ++ guard_end l depth

unfoldable pub give_back : Setting → Place → Held → Draft
give_back s p h = put (give_lines s.language p.depth h.draft.pointers (given_texts s.language h.values)) h.draft

-- an arm among several is told by a comment
abbrev pub arm_text : ℕ → List ℕ
arm_text k = codes "Arm " ++ decimal (suc k) ++ codes "."

abbrev pub arm_comment : Language → Place → List ℕ
arm_comment l p = line l p.depth (comment_text l (arm_text p.arms))

abbrev pub arm_lines : Language → Place → Option ℕ → List ℕ
arm_lines l p (Some n) = if nat_eq p.arms 0 then [] else arm_comment l p
arm_lines l p None = arm_comment l p

-- before the last arm behind others, where nothing but its statements is left of it
abbrev pub last_arm_lines : Language → Place → Block → List ℕ
last_arm_lines l p (arm ks a b) = []
last_arm_lines l p (none n) = []
last_arm_lines l p leave = []
last_arm_lines l p b = arm_comment l p

-- what stands behind an arm
abbrev pub told_behind : Setting → Block → (Place → Draft → Draft) → Place → Draft → Draft
told_behind s b later p d = later p (put (last_arm_lines s.language p b) d)

-- ---- tests: a side that only leaves is a guard

-- behind the first side, whose names are free again, and behind the second
unfoldable pub first_side : Setting → Place → AtHand → (Place → Draft → Draft) → Draft → Draft
first_side s p v side d = freed (length d.taken) (side (deeper p) (put (line s.language p.depth (if_text s.language v.text)) d))

unfoldable pub second_side : Setting → Place → ℕ → (Place → Draft → Draft) → Draft → Draft
second_side s p n side d = freed n (side (deeper p) (put (else_lines s.language p.depth) d))

unfoldable pub branched : Setting → Place → Block → Block → AtHand → (Place → Draft → Draft) → (Place → Draft → Draft) → Draft → Draft
branched s p a b v yes_side no_side d =
    let behind_yes = first_side s p v yes_side d in
    if is_leave b then put (end_lines s.language p.depth) behind_yes
    else if can_fall a then put (end_lines s.language p.depth) (second_side s p (length d.taken) no_side behind_yes)
    else no_side p (put (end_lines s.language p.depth) behind_yes)

-- what the sides come to that only leave, the second first
abbrev pub tested_by : Option Exit → Option Exit → Setting → Place → Block → Block → AtHand → (Place → Draft → Draft) → (Place → Draft → Draft) → Draft → Draft
tested_by (Some e) f s p a b v yes_side no_side d = yes_side p (put (guard_lines s.language p.depth v.denied e) d)
tested_by None (Some e) s p a b v yes_side no_side d = no_side p (put (guard_lines s.language p.depth v.text e) d)
tested_by None None s p a b v yes_side no_side d = branched s p a b v yes_side no_side d

unfoldable pub tested : Setting → Place → Block → Block → Held → (Place → Draft → Draft) → (Place → Draft → Draft) → Draft
tested s p a b h yes_side no_side = tested_by (exit_of p.exit b) (exit_of p.exit a) s p a b (first_at_hand h.values) yes_side no_side h.draft

abbrev pub guarded_by : Option Exit → Option Exit → Setting → Place → AtHand → (Place → Draft → Held) → (Place → Draft → Held) → Draft → Held
guarded_by (Some e) f s p v yes_side no_side d = yes_side p (put (guard_lines s.language p.depth v.denied e) d)
guarded_by None (Some e) s p v yes_side no_side d = no_side p (put (guard_lines s.language p.depth v.text e) d)
guarded_by None None s p v yes_side no_side d = no_values d

unfoldable pub guarded : Setting → Place → Block → Block → Held → (Place → Draft → Held) → (Place → Draft → Held) → Held
guarded s p a b h yes_side no_side = guarded_by (exit_of p.exit b) (exit_of p.exit a) s p (first_at_hand h.values) yes_side no_side h.draft

-- ---- arms

-- an arm has a scope for its variables, unless these stand within an `if`
abbrev pub has_scope : Language → Block → Bool
has_scope Python a = false
has_scope C a = not (is_if a)
has_scope JavaScript a = not (is_if a)
has_scope Rust a = not (is_if a)

abbrev pub arm_place : Bool → Place → Place
arm_place true p = deeper (leaving_by Falls p)
arm_place false p = leaving_by Falls p

abbrev pub put_when : Bool → List ℕ → Draft → Draft
put_when true lines d = put lines d
put_when false lines d = d

-- an arm without searches: the last one has guards
unfoldable pub plain_arm : Setting → Place → Option ℕ → Bool → (Place → Draft → Draft) → (Place → Draft → Draft) → Draft → Draft
plain_arm s p (Some n) scoped body later d = body (leaving_by (Ends n) p) (put (arm_lines s.language p (Some n)) d)
plain_arm s p None scoped body later d =
    let ended = body (arm_place scoped p) (put_when scoped (scope_lines s.language p.depth) (put (arm_lines s.language p None) d)) in
    later (behind_arm p) (put_when scoped (end_lines s.language p.depth) (freed (length d.taken) ended))

-- what the variable of the j-th search is named after: i, j, k, k3 and so on
abbrev pub search_letter : ℕ → List ℕ
search_letter j = if nat_eq j 0 then codes "i" else if nat_eq j 1 then codes "j" else codes "k"

abbrev pub search_name : ℕ → List ℕ
search_name j = search_letter j ++ (if nat_lt 2 j then decimal j else [])

-- one loop more, for the j-th search
unfoldable pub with_loop : Setting → ℕ → ℕ → Loops → Loops
with_loop s j k l =
    let name = name_in s l.draft.taken Int (Some (search_name j)) in
    record {
      draft = taking name (put (line s.language l.depth (search_text s.language name k)) l.draft);
      scope = behind_one l.scope (variable (table s) Int (between (pos 0) (pos (k - 1))) name);
      depth = suc l.depth;
    }

-- the loops of searches below these bounds
abbrev pub loops_of : Setting → ℕ → List ℕ → Loops → Loops
loops_of s j [] l = l
loops_of s j (k ∷ ks) l = loops_of s (suc j) ks (with_loop s j k l)

abbrev pub loop_ends : Language → ℕ → ℕ → List ℕ
loop_ends l depth zero = []
loop_ends l depth (suc n) = end_lines l (depth + n) ++ loop_ends l depth n

unfoldable pub searched_arm : Setting → Place → Sight → List ℕ → Option ℕ → (Sight → Place → Draft → Draft) → (Place → Draft → Draft) → Draft → Draft
searched_arm s p w ks last body later d =
    let l = loops_of s 0 ks (record { draft = put (arm_lines s.language p last) d; scope = w; depth = p.depth }) in
    let ended = body l.scope (record { depth = l.depth; exit = GoesOn; arms = 0; giving = p.giving }) l.draft in
    later (behind_arm p) (put (loop_ends s.language p.depth (length ks)) (freed (length d.taken) ended))

-- ---- blocks

abbrev mutual
  -- the draft behind the statements of a block that gives the values of a function
  pub block : Setting → Sight → Block → Place → Draft → Draft
  block s w (give c) p d = give_back s p (record { values = given (table s) w c; draft = d })
  block s w (none n) p d = put (exit_lines s.language p.depth (Ends n)) d
  block s w leave p d = put (exit_lines s.language p.depth p.exit) d
  -- what stands behind a block that never gives is not reached
  block s w (bind a b) p d =
      if gives a
      then (let i = inner_behind s p w b (in_place s p w a (held s w a) (block s w a) d) in block s i.scope b p i.draft)
      else block s w a p d
  block s w (part a b) p d =
      if gives a
      then (let i = inner_ahead s p w b (in_place s p w a (held s w a) (block s w a) d) in block s i.scope b p i.draft)
      else block s w a p d
  block s w (join a b) p d =
      if gives a
      then (if gives b
      then give_back s p
      (let h = kept s p.depth (is_plain b) (in_place s p w a (held s w a) (block s w a) d) in
      joined_held h (in_place s p w b (held s w b) (block s w b) h.draft))
      else block s w b p (all_in_variables s p.depth never_read (in_place s p w a (held s w a) (block s w a) d)).draft)
      else block s w a p d
  block s w (test t a b) p d =
      if gives t
      then tested s p a b (in_place s p w t (held s w t) (block s w t) d) (block s w a) (block s w b)
      else block s w t p d
  block s w (arm ks a b) p d =
      let q = giving s (number_of b) p in
      if nat_eq (length ks) 0
      then plain_arm s q (is_none b) (has_scope s.language a) (block s w a) (told_behind s b (block s w b)) d
      else searched_arm s q w ks (is_none b) (λ v. block s v a) (told_behind s b (block s w b)) d

  -- the values of a straight block, behind its statements
  pub held : Setting → Sight → Block → Place → Draft → Held
  held s w (give c) p d = record { values = given (table s) w c; draft = d }
  held s w (bind a b) p d =
      let i = inner_behind s p w b (in_place s p w a (held s w a) (block s w a) d) in held s i.scope b p i.draft
  held s w (part a b) p d =
      let i = inner_ahead s p w b (in_place s p w a (held s w a) (block s w a) d) in held s i.scope b p i.draft
  held s w (join a b) p d =
      let h = kept s p.depth (is_plain b) (in_place s p w a (held s w a) (block s w a) d) in
      joined_held h (in_place s p w b (held s w b) (block s w b) h.draft)
  held s w (test t a b) p d = guarded s p a b (in_place s p w t (held s w t) (block s w t) d) (held s w a) (held s w b)
  held s w (arm ks a b) p d = held s w a (leaving_by (Ends (number_of b)) (giving s (number_of b) p)) d
  held s w (none n) p d = no_values d
  held s w leave p d = no_values d
