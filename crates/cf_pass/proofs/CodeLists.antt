-- Lists of codes with better parts, and the forms over them.
use Rattle.std.proofs.Common.{◌≡◌, ◌≤◌, ◌<◌, ℕ, ℤ, pos, ◌+ℤ◌, Option, None, List, [], ◌++◌, length, refl, arith}
use Rattle.std.specs.Int.{int_max, int_min}
use Rattle.cf_tree.specs.declared.base.Base.{Base}
use Rattle.cf_tree.specs.declared.base.Base.TheVariants.{Int, Set}
use Rattle.cf_tree.specs.CodeTree.{code_set_of, code_tuple, code_sum, code_min, code_max, code_union, code_inter, CodeTrees, no_codes, code_more, count, codes_size, codes_depth}
use Rattle.cf_tree.specs.Meaning.{meets, number_in, all_path, set_path, sum_path, best_path, join_path}
use Rattle.cf_tree.specs.Sets.{set_union, set_inter}
use Rattle.cf_tree.specs.Spelled.{AreSpelled, AreGives}
use Rattle.cf_tree.specs.Typing.{AllHave, PartsHave, HaveNoSolve, one, share, ask}
use Rattle.cf_tree.specs.Values.{Value, HaveBases}
use Rattle.cf_pass.specs.Improves.{IsNoWorse, Improves}
use Rattle.cf_pass.specs.Lacks.{AllLack}
use Rattle.cf_pass.specs.Parts.{AllImprove}
use Rattle.cf_pass.proofs.Ways.{same_way, then_any}
use Rattle.cf_pass.proofs.Forms.{improves_self, improves_on}

pub all_self : (n : ℕ) (cs : CodeTrees) → AllImprove n cs cs
all_self n no_codes = tt
all_self n (code_more c cs) = (improves_self n c, all_self n cs)

pub all_on : (n : ℕ) (olds bs cs : CodeTrees) → AllImprove n olds bs → AllImprove n bs cs → AllImprove n olds cs
all_on n no_codes no_codes cs h k = k
all_on n no_codes (code_more b bs) cs h k = absurd h
all_on n (code_more a olds) no_codes cs h k = absurd h
all_on n (code_more a olds) (code_more b bs) no_codes h k = absurd k
all_on n (code_more a olds) (code_more b bs) (code_more c cs) h k = (improves_on n a b c h.0 k.0, all_on n olds bs cs h.1 k.1)

pub all_count : (n : ℕ) (cs ds : CodeTrees) → AllImprove n cs ds → count ds ≡ count cs
all_count n no_codes no_codes h = refl
all_count n no_codes (code_more d ds) h = absurd h
all_count n (code_more c cs) no_codes h = absurd h
all_count n (code_more c cs) (code_more d ds) h = omega (arith, all_count n cs ds h.1)

pub all_size : (n : ℕ) (cs ds : CodeTrees) → AllImprove n cs ds → codes_size ds ≤ codes_size cs
all_size n no_codes no_codes h = omega arith
all_size n no_codes (code_more d ds) h = absurd h
all_size n (code_more c cs) no_codes h = absurd h
all_size n (code_more c cs) (code_more d ds) h = omega (arith, h.0.size, all_size n cs ds h.1)

pub all_deep : (n : ℕ) (cs ds : CodeTrees) → AllImprove n cs ds → codes_depth ds ≤ codes_depth cs
all_deep n no_codes no_codes h = omega arith
all_deep n no_codes (code_more d ds) h = absurd h
all_deep n (code_more c cs) no_codes h = absurd h
all_deep n (code_more c cs) (code_more d ds) h = omega (arith, h.0.deep, all_deep n cs ds h.1)

pub all_lack : (n : ℕ) (cs ds : CodeTrees) → AllImprove n cs ds → (x : ℕ) → (l : x < n) → (u : AllLack x cs) → AllLack x ds
all_lack n no_codes no_codes h x l u = tt
all_lack n no_codes (code_more d ds) h x l u = absurd h
all_lack n (code_more c cs) no_codes h x l u = absurd h
all_lack n (code_more c cs) (code_more d ds) h x l u = (h.0.lacks x l u.0, all_lack n cs ds h.1 x l u.1)

pub all_spelled : (n : ℕ) (cs ds : CodeTrees) → AllImprove n cs ds → (u : AreSpelled cs) → AreSpelled ds
all_spelled n no_codes no_codes h u = tt
all_spelled n no_codes (code_more d ds) h u = absurd h
all_spelled n (code_more c cs) no_codes h u = absurd h
all_spelled n (code_more c cs) (code_more d ds) h u = (h.0.spelled u.0, all_spelled n cs ds h.1 u.1)

pub all_no_solve : (n : ℕ) (cs ds : CodeTrees) → AllImprove n cs ds → (u : HaveNoSolve cs) → HaveNoSolve ds
all_no_solve n no_codes no_codes h u = tt
all_no_solve n no_codes (code_more d ds) h u = absurd h
all_no_solve n (code_more c cs) no_codes h u = absurd h
all_no_solve n (code_more c cs) (code_more d ds) h u = (h.0.no_solve u.0, all_no_solve n cs ds h.1 u.1)

pub all_gives : (n : ℕ) (cs ds : CodeTrees) → AllImprove n cs ds → AreGives cs → AreGives ds
all_gives n no_codes ds h u = absurd u
all_gives n (code_more c cs) no_codes h u = absurd h
all_gives n (code_more c no_codes) (code_more d no_codes) h u = h.0.no_tuple u
all_gives n (code_more c no_codes) (code_more d (code_more e ds)) h u = absurd h.1
all_gives n (code_more c (code_more b cs)) (code_more d no_codes) h u = absurd h.1
all_gives n (code_more c (code_more b cs)) (code_more d (code_more e ds)) h u = tt

pub all_typed : (n : ℕ) (cs ds : CodeTrees) → AllImprove n cs ds → (scope : List Base) → (b : Base) → (l : length scope ≡ n) → (t : AllHave cs scope b) →
    AllHave ds scope b
all_typed n no_codes no_codes h scope b l t = tt
all_typed n no_codes (code_more d ds) h scope b l t = absurd h
all_typed n (code_more c cs) no_codes h scope b l t = absurd h
all_typed n (code_more c cs) (code_more d ds) h scope b l t = (h.0.typed scope (ask b) (one b) l t.0, all_typed n cs ds h.1 scope b l t.1)

pub parts_typed : (n : ℕ) (cs ds : CodeTrees) → AllImprove n cs ds → (scope : List Base) (asked : Option (List Base)) (bs : List Base) → length scope ≡ n →
    PartsHave cs scope asked bs → PartsHave ds scope asked bs
parts_typed n no_codes no_codes h scope asked bs l t = t
parts_typed n no_codes (code_more d ds) h scope asked bs l t = absurd h
parts_typed n (code_more c cs) no_codes h scope asked bs l t = absurd h
parts_typed n (code_more c cs) (code_more d ds) h scope asked bs l t =
    (t.0, t.1, t.2, h.0.typed scope (share asked t.0) (one t.0) l t.3, parts_typed n cs ds h.1 scope asked t.1 l t.4)

pub parts_run : (n : ℕ) (cs ds : CodeTrees) → AllImprove n cs ds → (scope : List Base) (asked : Option (List Base)) (bs : List Base) (env done : List Value) →
    length scope ≡ n → PartsHave cs scope asked bs → HaveBases scope env → IsNoWorse (all_path cs env done) (all_path ds env done)
parts_run n no_codes no_codes h scope asked bs env done l t e = same_way _
parts_run n no_codes (code_more d ds) h scope asked bs env done l t e = absurd h
parts_run n (code_more c cs) no_codes h scope asked bs env done l t e = absurd h
parts_run n (code_more c cs) (code_more d ds) h scope asked bs env done l t e =
    then_any _ _ _ _ (h.0.runs scope (share asked t.0) (one t.0) env l t.3 e) (λ xs. parts_run n cs ds h.1 scope asked t.1 env (done ++ xs) l t.4 e)

pub set_run : (n : ℕ) (cs ds : CodeTrees) → AllImprove n cs ds → (scope : List Base) → (b : Base) → (l : length scope ≡ n) → (t : AllHave cs scope b) →
    (env : List Value) → (e : HaveBases scope env) → (done : List ℤ) → IsNoWorse (set_path cs env done) (set_path ds env done)
set_run n no_codes no_codes h scope b l t env e done = same_way _
set_run n no_codes (code_more d ds) h scope b l t env e done = absurd h
set_run n (code_more c cs) no_codes h scope b l t env e done = absurd h
set_run n (code_more c cs) (code_more d ds) h scope b l t env e done =
    then_any _ _ _ _ (h.0.runs scope (ask b) (one b) env l t.0 e) (λ x. set_run n cs ds h.1 scope b l t.1 env e _)

pub sum_run : (n : ℕ) (cs ds : CodeTrees) → AllImprove n cs ds → (scope : List Base) → (b : Base) → (l : length scope ≡ n) → (t : AllHave cs scope b) →
    (env : List Value) → (e : HaveBases scope env) → (z : ℤ) → IsNoWorse (sum_path cs env z) (sum_path ds env z)
sum_run n no_codes no_codes h scope b l t env e z = same_way _
sum_run n no_codes (code_more d ds) h scope b l t env e z = absurd h
sum_run n (code_more c cs) no_codes h scope b l t env e z = absurd h
sum_run n (code_more c cs) (code_more d ds) h scope b l t env e z =
    then_any _ _ _ _ (h.0.runs scope (ask b) (one b) env l t.0 e)
    (λ x. then_any _ _ _ _ (same_way (meets (z +ℤ number_in x))) (λ s. sum_run n cs ds h.1 scope b l t.1 env e (number_in s)))

pub min_run : (n : ℕ) (cs ds : CodeTrees) → AllImprove n cs ds → (scope : List Base) → (b : Base) → (l : length scope ≡ n) → (t : AllHave cs scope b) →
    (env : List Value) → (e : HaveBases scope env) → (z : Option ℤ) → IsNoWorse (best_path int_min cs env z) (best_path int_min ds env z)
min_run n no_codes no_codes h scope b l t env e z = same_way _
min_run n no_codes (code_more d ds) h scope b l t env e z = absurd h
min_run n (code_more c cs) no_codes h scope b l t env e z = absurd h
min_run n (code_more c cs) (code_more d ds) h scope b l t env e z =
    then_any _ _ _ _ (h.0.runs scope (ask b) (one b) env l t.0 e) (λ x. min_run n cs ds h.1 scope b l t.1 env e _)

pub max_run : (n : ℕ) (cs ds : CodeTrees) → AllImprove n cs ds → (scope : List Base) → (b : Base) → (l : length scope ≡ n) → (t : AllHave cs scope b) →
    (env : List Value) → (e : HaveBases scope env) → (z : Option ℤ) → IsNoWorse (best_path int_max cs env z) (best_path int_max ds env z)
max_run n no_codes no_codes h scope b l t env e z = same_way _
max_run n no_codes (code_more d ds) h scope b l t env e z = absurd h
max_run n (code_more c cs) no_codes h scope b l t env e z = absurd h
max_run n (code_more c cs) (code_more d ds) h scope b l t env e z =
    then_any _ _ _ _ (h.0.runs scope (ask b) (one b) env l t.0 e) (λ x. max_run n cs ds h.1 scope b l t.1 env e _)

pub union_run : (n : ℕ) (cs ds : CodeTrees) → AllImprove n cs ds → (scope : List Base) → (b : Base) → (l : length scope ≡ n) → (t : AllHave cs scope b) →
    (env : List Value) → (e : HaveBases scope env) → (zs : Option (List ℤ)) → IsNoWorse (join_path set_union cs env zs) (join_path set_union ds env zs)
union_run n no_codes no_codes h scope b l t env e zs = same_way _
union_run n no_codes (code_more d ds) h scope b l t env e zs = absurd h
union_run n (code_more c cs) no_codes h scope b l t env e zs = absurd h
union_run n (code_more c cs) (code_more d ds) h scope b l t env e zs =
    then_any _ _ _ _ (h.0.runs scope (ask b) (one b) env l t.0 e) (λ x. union_run n cs ds h.1 scope b l t.1 env e _)

pub inter_run : (n : ℕ) (cs ds : CodeTrees) → AllImprove n cs ds → (scope : List Base) → (b : Base) → (l : length scope ≡ n) → (t : AllHave cs scope b) →
    (env : List Value) → (e : HaveBases scope env) → (zs : Option (List ℤ)) → IsNoWorse (join_path set_inter cs env zs) (join_path set_inter ds env zs)
inter_run n no_codes no_codes h scope b l t env e zs = same_way _
inter_run n no_codes (code_more d ds) h scope b l t env e zs = absurd h
inter_run n (code_more c cs) no_codes h scope b l t env e zs = absurd h
inter_run n (code_more c cs) (code_more d ds) h scope b l t env e zs =
    then_any _ _ _ _ (h.0.runs scope (ask b) (one b) env l t.0 e) (λ x. inter_run n cs ds h.1 scope b l t.1 env e _)

-- ---- the forms over lists
module _ (n : ℕ) (cs ds : CodeTrees) (h : AllImprove n cs ds) where
  as_many : (k : ℕ) → k ≤ count cs → k ≤ count ds
  as_many k l = omega (arith, all_count n cs ds h)

  pub improves_set_of : Improves n (code_set_of cs) (code_set_of ds)
  improves_set_of = record {
    typed = λ scope asked bs l t. (all_typed n cs ds h scope Int l t.0, t.1);
    runs = λ scope asked bs env l t e. set_run n cs ds h scope Int l t.0 env e [];
    size = omega (arith, all_size n cs ds h);
    deep = omega (arith, all_deep n cs ds h);
    lacks = all_lack n cs ds h;
    spelled = all_spelled n cs ds h;
    no_solve = all_no_solve n cs ds h;
    no_tuple = λ u. u;
  }

  pub improves_tuple : Improves n (code_tuple cs) (code_tuple ds)
  improves_tuple = record {
    typed = λ scope asked bs l t. (as_many 2 t.0, parts_typed n cs ds h scope asked bs l t.1, t.2);
    runs = λ scope asked bs env l t e. parts_run n cs ds h scope asked bs env [] l t.1 e;
    size = omega (arith, all_size n cs ds h);
    deep = omega (arith, all_deep n cs ds h);
    lacks = all_lack n cs ds h;
    spelled = λ u. (as_many 2 u.0, all_spelled n cs ds h u.1);
    no_solve = all_no_solve n cs ds h;
    no_tuple = λ u. u;
  }

  pub improves_sum : Improves n (code_sum cs) (code_sum ds)
  improves_sum = record {
    typed = λ scope asked bs l t. (as_many 2 t.0, all_typed n cs ds h scope Int l t.1, t.2);
    runs = λ scope asked bs env l t e. sum_run n cs ds h scope Int l t.1 env e (pos 0);
    size = omega (arith, all_size n cs ds h);
    deep = omega (arith, all_deep n cs ds h);
    lacks = all_lack n cs ds h;
    spelled = λ u. (as_many 2 u.0, all_spelled n cs ds h u.1);
    no_solve = all_no_solve n cs ds h;
    no_tuple = λ u. u;
  }

  pub improves_min : Improves n (code_min cs) (code_min ds)
  improves_min = record {
    typed = λ scope asked bs l t. (as_many 1 t.0, all_typed n cs ds h scope Int l t.1, t.2);
    runs = λ scope asked bs env l t e. min_run n cs ds h scope Int l t.1 env e None;
    size = omega (arith, all_size n cs ds h);
    deep = omega (arith, all_deep n cs ds h);
    lacks = all_lack n cs ds h;
    spelled = λ u. (as_many 1 u.0, all_spelled n cs ds h u.1);
    no_solve = all_no_solve n cs ds h;
    no_tuple = λ u. u;
  }

  pub improves_max : Improves n (code_max cs) (code_max ds)
  improves_max = record {
    typed = λ scope asked bs l t. (as_many 1 t.0, all_typed n cs ds h scope Int l t.1, t.2);
    runs = λ scope asked bs env l t e. max_run n cs ds h scope Int l t.1 env e None;
    size = omega (arith, all_size n cs ds h);
    deep = omega (arith, all_deep n cs ds h);
    lacks = all_lack n cs ds h;
    spelled = λ u. (as_many 1 u.0, all_spelled n cs ds h u.1);
    no_solve = all_no_solve n cs ds h;
    no_tuple = λ u. u;
  }

  pub improves_union : Improves n (code_union cs) (code_union ds)
  improves_union = record {
    typed = λ scope asked bs l t. (as_many 2 t.0, all_typed n cs ds h scope Set l t.1, t.2);
    runs = λ scope asked bs env l t e. union_run n cs ds h scope Set l t.1 env e None;
    size = omega (arith, all_size n cs ds h);
    deep = omega (arith, all_deep n cs ds h);
    lacks = all_lack n cs ds h;
    spelled = λ u. (as_many 2 u.0, all_spelled n cs ds h u.1);
    no_solve = all_no_solve n cs ds h;
    no_tuple = λ u. u;
  }

  pub improves_inter : Improves n (code_inter cs) (code_inter ds)
  improves_inter = record {
    typed = λ scope asked bs l t. (as_many 2 t.0, all_typed n cs ds h scope Set l t.1, t.2);
    runs = λ scope asked bs env l t e. inter_run n cs ds h scope Set l t.1 env e None;
    size = omega (arith, all_size n cs ds h);
    deep = omega (arith, all_deep n cs ds h);
    lacks = all_lack n cs ds h;
    spelled = λ u. (as_many 2 u.0, all_spelled n cs ds h u.1);
    no_solve = all_no_solve n cs ds h;
    no_tuple = λ u. u;
  }
