-- A target that was built keeps what it promises.
use Rattle.std.proofs.Common.{◌≡◌, ℕ, zero, suc, ◌≤◌, ◌<◌, Some, List, [], ◌∷◌, ◌++◌, length, map, reverse, slice_get, slice_index, get_or, All, Contains, refl, sym, ap, ◌∙◌, subst, arith}
use Rattle.std.specs.List.Sorted.{IsPermutation, IsNonDecreasing, IsNonDecreasingBy, IsStableByKey}
use Rattle.std.specs.Ordering.{nat_cmp}
use Rattle.std.proofs.lemmas.List.{reverse-append, map-append, length-map, get_or-map}
use Rattle.std.proofs.lemmas.List.Sorted.{All-permutation}
use Rattle.std.proofs.lemmas.Option.{slice_get_within}
use Rattle.std.proofs.lemmas.List.Elements.{All-nil, All-cons, All-head, All-tail, All-append, All-pop, All-weaker}
use Rattle.cf_tree.specs.declared.base.Base.{Base}
use Rattle.cf_tree.specs.declared.base.Base.TheVariants.{Int, Bool as Truth, Set}
use Rattle.cf_tree.specs.declared.code.Code.{Code}
use Rattle.cf_tree.specs.declared.expr.Def.{Def}
use Rattle.cf_tree.specs.declared.target.RawTarget.{RawTarget}
use Rattle.cf_tree.specs.CodeTree.{CodeTree}
use Rattle.cf_tree.specs.CodeView.{code_tree}
use Rattle.cf_tree.specs.DefView.{DefTree, def_tree}
use Rattle.cf_tree.specs.ExprTree.{ExprTree, ExprTrees, expr_lit, expr_truth, expr_var, expr_set_of, expr_tuple, expr_neg, expr_not, expr_abs, expr_binary, expr_chain, expr_min, expr_max, expr_divides, expr_div, expr_mod, expr_card, expr_if, expr_call, expr_let, expr_choose, expr_choose_where, expr_match, no_exprs, expr_more}
use Rattle.cf_tree.specs.ExprView.{expr_tree}
use Rattle.cf_tree.specs.Relation.{IsTyped, IsLinear}
use Rattle.cf_tree.specs.Typing.{IsTypedCode}
use Rattle.cf_tree.specs.Values.{HaveBases}
use Rattle.cf_choose.specs.Solved.{IsOutput}
use Rattle.cf_pass.specs.Improves.{Improves}
use Rattle.cf_tree.specs.Params.{bases_of, names_of}
use Rattle.cf_program.specs.Size.{depths}
use Rattle.cf_program.specs.TypedProgram.{Takes, IsTypedProgram, numbers, numbers_all, all_numbers, IsOutput as IsTypedOutput}
use Rattle.cf_program.proofs.PlainTypes.{ExprHasBases, AllHave, PartsHave, AreTypedDefs}
use Rattle.cf_program.specs.Walk.{side_of}
use Rattle.cf_tree.specs.declared.choose.Choose.{Choose}
use Rattle.cf_program.specs.Lowered.{lowered_def}
use Rattle.cf_build.specs.declared.choose_codes.ChooseCode.{ChooseCode}
use Rattle.cf_build.specs.declared.solves.SolvedChoose.{SolvedChoose}
use Rattle.cf_build.specs.Built.{IsBuilt, unfolded_code}
use Rattle.cf_build.specs.Codes.{called, codes_behind}
use Rattle.cf_build.specs.Known.{IsChooseCode, AreKnown}
use Rattle.cf_build.specs.Marks.{choose_marks}
use Rattle.cf_build.specs.Runs.{lowered_bodies}
use Rattle.cf_tree.specs.ChooseTree.{ChooseTree}
use Rattle.cf_build.specs.Chooses.{chooses_in, chooses_in_all, all_chooses, by_number, solve_of}
use Rattle.cf_shift.specs.Shifted.{HasLevels}
use Rattle.cf_program.specs.NoMatch.{HasNoMatch}
use Rattle.cf_tree.specs.ChooseView.{choose_tree}
use Rattle.cf_build.specs.Solves.{chooses_of, AreSolved, IsTypedChoose, IsSolveOf}
use Rattle.cf_build.proofs.CalledCodes.{def_at}
use Rattle.cf_build.proofs.KnownLaws.{Keeps, bodies_known, solved_known}
use Rattle.cf_build.proofs.Meanings.{sides_have}
use Rattle.cf_build.proofs.NumberOrder.{sorted_by_number}
use Rattle.cf_build.proofs.PickedPaths.{AreFit}
use Rattle.cf_match.proofs.NoMatchLaws.{lowered_same}
use Rattle.cf_pass.proofs.Forms.{improves_self}
use Rattle.cf_build.proofs.Plain.{IsPlain, ArePlain, HasPlainBody, plain_bodies}
use Rattle.cf_build.proofs.Programs.{Knows, bodies, program_known, map_reverse}
use Rattle.cf_build.proofs.Runs.{runs_as_picked, bodies_lowered}

-- ---- the numbers of chooses
abbrev numbers_of : List ChooseTree → List ℕ
numbers_of qs = map (λ q. q.number) qs

both_numbers : (a b : ExprTree) → numbers a ≡ numbers_of (chooses_in a) → numbers b ≡ numbers_of (chooses_in b) →
    numbers a ++ numbers b ≡ numbers_of (chooses_in a ++ chooses_in b)
both_numbers a b e f = rw (map-append (λ q. q.number) (chooses_in a) (chooses_in b), e, f) refl

mutual
  numbers_are : (e : ExprTree) → IsPlain e → numbers e ≡ numbers_of (chooses_in e)
  numbers_are (expr_lit k) p = refl
  numbers_are (expr_truth t) p = refl
  numbers_are (expr_var x) p = refl
  numbers_are (expr_set_of es) p = all_numbers_are es p
  numbers_are (expr_tuple es) p = all_numbers_are es p
  numbers_are (expr_neg a) p = numbers_are a p
  numbers_are (expr_not a) p = numbers_are a p
  numbers_are (expr_abs a) p = numbers_are a p
  numbers_are (expr_binary op a b) p = both_numbers a b (numbers_are a (p.0.0, p.1.1)) (numbers_are b (p.0.1, p.1.2))
  numbers_are (expr_chain orders es) p = absurd p.1
  numbers_are (expr_min es) p = absurd p.1
  numbers_are (expr_max es) p = absurd p.1
  numbers_are (expr_divides k a) p = numbers_are a p
  numbers_are (expr_div a k) p = numbers_are a p
  numbers_are (expr_mod a k) p = numbers_are a p
  numbers_are (expr_card a) p = numbers_are a p
  numbers_are (expr_if t a b) p =
      rw (
        map-append (λ q. q.number) (chooses_in t ++ chooses_in a) (chooses_in b),
        map-append (λ q. q.number) (chooses_in t) (chooses_in a),
        numbers_are t (p.0.0, p.1.0),
        numbers_are a (p.0.1, p.1.1),
        numbers_are b (p.0.2, p.1.2),
      ) refl
  numbers_are (expr_call f es) p = all_numbers_are es p
  numbers_are (expr_let n a b) p = both_numbers a b (numbers_are a (p.0.0, p.1.0)) (numbers_are b (p.0.1, p.1.1))
  numbers_are (expr_choose n params outputs rel) p = refl
  numbers_are (expr_choose_where n params outputs hidden given rel aim) p = absurd p.1
  numbers_are (expr_match n params a arms) p = absurd p.0

  all_numbers_are : (es : ExprTrees) → ArePlain es → numbers_all es ≡ numbers_of (chooses_in_all es)
  all_numbers_are no_exprs p = refl
  all_numbers_are (expr_more e es) p =
      rw (map-append (λ q. q.number) (chooses_in e) (chooses_in_all es), numbers_are e (p.0.0, p.1.0), all_numbers_are es (p.0.1, p.1.1)) refl

program_numbers : (ds : List DefTree) → All HasPlainBody ds → all_numbers ds ≡ numbers_of (chooses_of ds)
program_numbers [] p = refl
program_numbers (d ∷ ds) p =
    rw (
      map-append (λ q. q.number) (chooses_in d.body) (chooses_of ds),
      numbers_are d.body (All-head HasPlainBody d ds p),
      program_numbers ds (All-tail HasPlainBody d ds p),
    ) refl

pub chooses_same : (ds : List DefTree) → All HasPlainBody ds → all_chooses ds ≡ chooses_of ds
chooses_same [] p = refl
chooses_same (d ∷ ds) p =
    rw (lowered_same d.body (All-head HasPlainBody d ds p).0, chooses_same ds (All-tail HasPlainBody d ds p)) refl

lowered_defs : (ds : List DefTree) → All HasPlainBody ds → map lowered_def ds ≡ ds
lowered_defs [] p = refl
lowered_defs (d ∷ ds) p =
    rw (lowered_same d.body (All-head HasPlainBody d ds p).0, lowered_defs ds (All-tail HasPlainBody d ds p)) refl

-- ---- each choose may be solved
abbrev MayBeSolved : ChooseTree → Type 0
MayBeSolved q = (1 ≤ length q.outputs) × All IsOutput q.outputs × IsTyped (q.scope ++ q.outputs) q.relation × IsLinear q.relation

output_is : (b : Base) → IsTypedOutput b → IsOutput b
output_is Int s = tt
output_is Truth s = s
output_is Set s = tt

module _ (takes : ℕ → List Base → List Base → Type 0) where
  mutual
    may : (e : ExprTree) → IsPlain e → (scope bs : List Base) → ExprHasBases takes e scope bs → All MayBeSolved (chooses_in e)
    may (expr_lit k) p scope bs h = All-nil MayBeSolved
    may (expr_truth t) p scope bs h = All-nil MayBeSolved
    may (expr_var x) p scope bs h = All-nil MayBeSolved
    may (expr_set_of es) p scope bs h = all_may es p scope Int h.0
    may (expr_tuple es) p scope bs h = parts_may es p scope bs h.1
    may (expr_neg a) p scope bs h = may a p scope _ h.0
    may (expr_not a) p scope bs h = may a p scope _ h.0
    may (expr_abs a) p scope bs h = may a p scope _ h.0
    may (expr_binary op a b) p scope bs h =
        let t = sides_have (side_of op) (λ c. ExprHasBases takes a scope (c ∷ [])) (λ c. ExprHasBases takes b scope (c ∷ [])) h.0 in
        All-append MayBeSolved (chooses_in a) (chooses_in b) (may a (p.0.0, p.1.1) scope (t.0 ∷ []) t.1) (may b (p.0.1, p.1.2) scope (t.0 ∷ []) t.2)
    may (expr_chain orders es) p scope bs h = absurd p.1
    may (expr_min es) p scope bs h = absurd p.1
    may (expr_max es) p scope bs h = absurd p.1
    may (expr_divides k a) p scope bs h = may a p scope _ h.1
    may (expr_div a k) p scope bs h = may a p scope _ h.1
    may (expr_mod a k) p scope bs h = may a p scope _ h.1
    may (expr_card a) p scope bs h = may a p scope _ h.0
    may (expr_if t a b) p scope bs h =
        All-append MayBeSolved (chooses_in t ++ chooses_in a) (chooses_in b)
        (All-append MayBeSolved (chooses_in t) (chooses_in a) (may t (p.0.0, p.1.0) scope _ h.0) (may a (p.0.1, p.1.1) scope _ h.1))
        (may b (p.0.2, p.1.2) scope _ h.2)
    may (expr_call f es) p scope bs h = parts_may es p scope h.0 h.2
    may (expr_let n a b) p scope bs h =
        All-append MayBeSolved (chooses_in a) (chooses_in b) (may a (p.0.0, p.1.0) scope h.0 h.1) (may b (p.0.1, p.1.1) (scope ++ h.0) bs h.4)
    may (expr_choose n params outputs rel) p scope bs h =
        All-cons MayBeSolved (record { number = n; names = names_of params; scope = bases_of params; outputs = outputs; relation = rel }) []
        (h.1, All-weaker IsTypedOutput IsOutput output_is outputs h.2, rw h.0 h.3, h.4) (All-nil MayBeSolved)
    may (expr_choose_where n params outputs hidden given rel aim) p scope bs h = absurd p.1
    may (expr_match n params a arms) p scope bs h = absurd p.0

    all_may : (es : ExprTrees) → ArePlain es → (scope : List Base) (b : Base) → AllHave takes es scope b → All MayBeSolved (chooses_in_all es)
    all_may no_exprs p scope b h = All-nil MayBeSolved
    all_may (expr_more a es) p scope b h =
        All-append MayBeSolved (chooses_in a) (chooses_in_all es) (may a (p.0.0, p.1.0) scope _ h.0) (all_may es (p.0.1, p.1.1) scope b h.1)

    parts_may : (es : ExprTrees) → ArePlain es → (scope bs : List Base) → PartsHave takes es scope bs → All MayBeSolved (chooses_in_all es)
    parts_may no_exprs p scope bs h = All-nil MayBeSolved
    parts_may (expr_more a es) p scope bs h =
        All-append MayBeSolved (chooses_in a) (chooses_in_all es) (may a (p.0.0, p.1.0) scope _ h.3) (parts_may es (p.0.1, p.1.1) scope h.1 h.4)

abbrev HasTypes : DefTree → Type 0
HasTypes d = (earlier : List DefTree) × ExprHasBases (Takes earlier) d.body (bases_of d.params) d.results

typed_each : (ds : List DefTree) → AreTypedDefs ds → All HasTypes ds
typed_each [] t = All-nil HasTypes
typed_each (d ∷ ds) t = All-cons HasTypes d ds (ds, t.0.1) (typed_each ds t.1)

all_turned : (P : DefTree → Type 0) (ds : List DefTree) → All P (reverse ds) → All P ds
all_turned P [] h = All-nil P
all_turned P (d ∷ ds) h =
    let k = All-pop P (reverse ds ++ d ∷ []) (reverse ds) (Some d) refl (rw (reverse-append (d ∷ []) ds) at h) in
    All-cons P d ds k.1 (all_turned P ds k.0)

program_may : (ds : List DefTree) → All HasPlainBody ds → All HasTypes ds → All MayBeSolved (chooses_of ds)
program_may [] p t = All-nil MayBeSolved
program_may (d ∷ ds) p t =
    let h = All-head HasTypes d ds t in
    All-append MayBeSolved (chooses_in d.body) (chooses_of ds)
    (may (Takes h.0) d.body (All-head HasPlainBody d ds p) (bases_of d.params) d.results h.1)
    (program_may ds (All-tail HasPlainBody d ds p) (All-tail HasTypes d ds t))

chooses_typed : (qs : List ChooseTree) → All MayBeSolved qs → All (λ n. 1 ≤ n) (numbers_of qs) → All IsTypedChoose qs
chooses_typed [] m p = All-nil IsTypedChoose
chooses_typed (q ∷ qs) m p =
    let h = All-head MayBeSolved q qs m in
    All-cons IsTypedChoose q qs (record {
      positive = All-head (λ n. 1 ≤ n) q.number (numbers_of qs) p;
      several = h.0;
      outputs = h.1;
      typed = h.2;
      linear = h.3;
    })
    (chooses_typed qs (All-tail MayBeSolved q qs m) (All-tail (λ n. 1 ≤ n) q.number (numbers_of qs) p))

not_falling : {X : Type 0} (f : X → ℕ) (xs : List X) → IsNonDecreasingBy f xs → IsNonDecreasing (map f xs)
not_falling f [] h i j d l m = absurd (omega (arith, m))
not_falling f (x ∷ xs) h i j d l m =
    let last : j < length (x ∷ xs) = omega (arith, m, length-map (x ∷ xs) f) in
    let first : i < length (x ∷ xs) = omega (arith, l, last) in
    rw (get_or-map f (x ∷ xs) i x d first, get_or-map f (x ∷ xs) j x d last) (h i j x l last)

each_typed : (cs : List Choose) → All IsTypedChoose (map choose_tree cs) → All (λ c. IsTypedChoose (choose_tree c)) cs
each_typed [] h = All-nil (λ c. IsTypedChoose (choose_tree c))
each_typed (c ∷ cs) h =
    All-cons (λ c. IsTypedChoose (choose_tree c)) c cs (All-head IsTypedChoose (choose_tree c) (map choose_tree cs) h)
    (each_typed cs (All-tail IsTypedChoose (choose_tree c) (map choose_tree cs) h))

index_within : (ns : List ℕ) (f : ℕ) → All (λ n. n ≤ 200) ns → slice_index ns f ≤ 200
index_within [] f h = omega arith
index_within (n ∷ ns) zero h = All-head (λ n. n ≤ 200) n ns h
index_within (n ∷ ns) (suc f) h = index_within ns f (All-tail (λ n. n ≤ 200) n ns h)

-- ---- the program whose functions stand in vectors
module _ (ds : List Def) (main : ℕ) (t : IsTypedProgram (map def_tree ds) main) (p : All (λ d. HasNoMatch (expr_tree d.body)) ds) where
  plain : All HasPlainBody (map def_tree ds)
  plain = plain_bodies ds p t.formed

  all_typed : (cs : List Choose) → map choose_tree cs ≡ chooses_of (map def_tree ds) → All (λ c. IsTypedChoose (choose_tree c)) cs
  all_typed cs e =
      let may_be = program_may (map def_tree ds) plain (all_turned HasTypes (map def_tree ds) (typed_each (reverse (map def_tree ds)) t.typed)) in
      each_typed cs (rw e (chooses_typed (chooses_of (map def_tree ds)) may_be (rw (program_numbers (map def_tree ds) plain) at t.positive)))

  -- the chooses that were found, and the same in the order of their numbers
  module _ (cs sorted : List Choose) (e : map choose_tree cs ≡ chooses_of (map def_tree ds)) (m : IsPermutation cs sorted)
      (o : IsNonDecreasingBy (λ c. c.number) sorted) where
    pub in_order : IsStableByKey (λ c. c.number) nat_cmp cs sorted → map choose_tree sorted ≡ by_number (all_chooses (map def_tree ds))
    in_order stable = sorted_by_number cs sorted o m stable ∙ ap by_number (e ∙ sym (chooses_same (map def_tree ds) plain))

    pub in_order_rises : IsNonDecreasing (map (λ c. c.number) sorted)
    in_order_rises = not_falling (λ c. c.number) sorted o

    pub in_order_typed : All (λ c. IsTypedChoose (choose_tree c)) sorted
    in_order_typed = All-permutation (λ c. IsTypedChoose (choose_tree c)) cs sorted m (all_typed cs e)

  pub all_known : (ss : List SolvedChoose) (codes : List ChooseCode) → AreSolved (by_number (all_chooses (map def_tree ds))) ss →
      All IsChooseCode codes → map (λ c. c.marks.items) codes ≡ map (λ s. choose_marks (choose_tree s.choose)) ss →
      All (λ d. AreKnown codes (expr_tree d.body)) ds
  all_known ss codes h k e =
      bodies_known codes ds
      (subst (λ qs. Keeps codes qs) (chooses_same (map def_tree ds) plain) (solved_known (all_chooses (map def_tree ds)) ss codes h k e))

  module _ (solve : (q : ChooseTree) → Contains (all_chooses (map def_tree ds)) q → IsSolveOf q (solve_of q)) (codes : List CodeTree)
      (same : codes ≡ codes_behind solve_of [] (map def_tree ds)) where
    known : Knows (map def_tree ds) (reverse (map def_tree ds)) codes (depths (map def_tree ds))
    known = rw same (program_known solve_of (map def_tree ds) t.typed plain solve)

    main_typed : (d : DefTree) → slice_get (map def_tree ds) main ≡ Some d → IsTypedCode (called codes main) (bases_of d.params) d.results
    main_typed d e = known.typed main (bases_of d.params) d.results (known.takes main d e) (Some d.results) refl

    all_bodies : bodies (reverse (map def_tree ds)) ≡ reverse (lowered_bodies (map def_tree ds))
    all_bodies = map_reverse (map def_tree ds) ∙ ap (λ bs. reverse bs) (sym (bodies_lowered (map def_tree ds) plain))

    -- the code is the definition's
    is_unfolded : called codes main ≡ unfolded_code (map def_tree ds) main
    is_unfolded = ap (λ cs. called cs main) (same ∙ ap (λ xs. codes_behind solve_of [] xs) (sym (lowered_defs (map def_tree ds) plain)))

    pub main_built : (d : DefTree) → slice_get (map def_tree ds) main ≡ Some d → (raw : RawTarget) → raw.params.items ≡ bases_of d.params →
        raw.results.items ≡ d.results → code_tree raw.code ≡ called codes main → HasLevels (called codes main) →
        IsBuilt (map def_tree ds) main [] [] raw
    main_built d e raw ps rs c l =
        let takes = known.takes main d e in
        record {
          like_main = (d, e, ps, rs);
          made = c ∙ is_unfolded;
          rewritten = subst (λ k. Improves (length raw.params.items) (unfolded_code (map def_tree ds) main) k) (sym (c ∙ is_unfolded))
              (improves_self (length raw.params.items) (unfolded_code (map def_tree ds) main));
          typed =
              subst (λ k. IsTypedCode k raw.params.items raw.results.items) (sym c)
              (subst (λ bs. IsTypedCode (called codes main) bs raw.results.items) (sym ps)
              (subst (λ bs. IsTypedCode (called codes main) (bases_of d.params) bs) (sym rs) (main_typed d e)));
          spelled = rw (c, rs) (
            omega (arith, known.shallow main, index_within (depths (map def_tree ds)) main t.shallow),
            known.spelled main (bases_of d.params) d.results takes l,
            known.several main (bases_of d.params) d.results takes,
          );
          solved = solve;
          runs = λ env h small.
              let fit : AreFit (bases_of d.params) env = record { bases = subst (λ bs. HaveBases bs env) ps h; small = small } in
              rw c (runs_as_picked (map def_tree ds) main (called codes main) env (bodies (reverse (map def_tree ds))) all_bodies
              (known.picked main (bases_of d.params) d.results takes env fit) (known.entered main (bases_of d.params) d.results takes env fit));
          allowed = λ env h. rw (c, ← map_reverse (map def_tree ds)) (known.fine main (bases_of d.params) d.results takes env (rw ps at h)).0;
        }

pub main_below : (ds : List Def) (main : ℕ) → IsTypedProgram (map def_tree ds) main → main < length ds
main_below ds main t = let h = t.has_main in omega (arith, slice_get_within (map def_tree ds) main h.0 h.1, length-map ds def_tree)

-- the target with the code of `main`
module _ (ds : List Def) (main : ℕ) (t : IsTypedProgram (map def_tree ds) main) (p : All (λ d. HasNoMatch (expr_tree d.body)) ds)
    (solve : (q : ChooseTree) → Contains (all_chooses (map def_tree ds)) q → IsSolveOf q (solve_of q)) (c : Code)
    (is : code_tree c ≡ called (codes_behind solve_of [] (map def_tree ds)) main) (l : HasLevels (code_tree c)) (d : Def)
    (there : d ≡ get_or ds main d) where
  pub target_built : (raw : RawTarget) → (raw.params.items ≡ bases_of d.params.items) × (raw.results.items ≡ d.results.items) ×
      (code_tree raw.code ≡ code_tree c) → IsBuilt (map def_tree ds) main [] [] raw
  target_built raw r =
      main_built ds main t p solve (codes_behind solve_of [] (map def_tree ds)) refl (def_tree d) (def_at ds main d (main_below ds main t) there) raw
      r.0 r.1 (r.2 ∙ is) (subst (λ k. HasLevels k) is l)
