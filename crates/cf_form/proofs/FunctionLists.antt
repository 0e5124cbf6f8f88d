-- Functions in the order of the text, and last first.
use Rattle.std.proofs.Common.{◌≡◌, ℕ, zero, suc, ◌<◌, ◌==◌, Bool, true, false, Some, List, [], ◌∷◌, ◌++◌, length, map, reverse, slice_get, MatchBool, append-nil, append_assoc, refl, sym, ap, ◌∙◌, subst, arith, length-append}
use Rattle.std.specs.List.{AllByRecursion}
use Rattle.std.proofs.lemmas.Bool.{eqb-true, eq-eqb}
use Rattle.std.proofs.lemmas.List.{reverse-append, map-append}
use Rattle.cf_tree.specs.declared.base.Base.{Base}
use Rattle.cf_tree.specs.DefView.{DefTree}
use Rattle.cf_tree.specs.Params.{bases_of}
use Rattle.cf_program.specs.TypedProgram.{Takes}
use Rattle.cf_form.specs.Expansion.{call_expanded}
use Rattle.cf_form.specs.Formed.{formed, formed_def, formed_behind}
use Rattle.cf_form.specs.Laws.{bodies}
use Rattle.cf_form.specs.SourceChooses.{WithBodies, chooses_in, chooses_behind}
use Rattle.cf_form.proofs.Lists.{rec_left, rec_right, rec_of_map}

-- ---- what a function takes
pick_then : (X Y : Type 0) (b : Bool) → b ≡ true → X → MatchBool b X Y
pick_then X Y true e x = x
pick_then X Y false e x = cc

pick_else : (X Y : Type 0) (b : Bool) → b ≡ false → Y → MatchBool b X Y
pick_else X Y true e y = cc
pick_else X Y false e y = y

still_apart : (k n m : ℕ) → m ≡ suc n → (k == n) ≡ false → (suc k == m) ≡ false
still_apart k n m e h = by (suc k == m) refl
  where
    by : (b : Bool) → (suc k == m) ≡ b → b ≡ false
    by false q = refl
    by true q =
        let same : suc k ≡ m = eqb-true (suc k) m q in
        let back : (k == n) ≡ true = eq-eqb k n (omega arith) in
        cc

apart : (m n : ℕ) → m < n → (m == n) ≡ false
apart m n h = grind arith

takes_later : (es : List DefTree) (d : DefTree) (k : ℕ) (ps rs : List Base) → Takes es k ps rs → Takes (es ++ d ∷ []) (suc k) ps rs
takes_later [] d k ps rs h = absurd h
takes_later (e ∷ es) d k ps rs h = by (k == length es) refl (takes_later es d k ps rs) h
  where
    longer : length (es ++ d ∷ []) ≡ suc (length es)
    longer = omega (arith, length-append es (d ∷ []))

    by : (b : Bool) → (k == length es) ≡ b → (Takes es k ps rs → Takes (es ++ d ∷ []) (suc k) ps rs) → MatchBool b ((ps ≡ bases_of e.params)
        × (rs ≡ e.results)) (Takes es k ps rs) → MatchBool (suc k == length (es ++ d ∷ [])) ((ps ≡ bases_of e.params)
        × (rs ≡ e.results)) (Takes (es ++ d ∷ []) (suc k) ps rs)
    by true q rest g =
        let same : k ≡ length es = eqb-true k (length es) q in
        pick_then _ _ (suc k == length (es ++ d ∷ [])) (eq-eqb (suc k) (length (es ++ d ∷ [])) (omega (arith, longer))) g
    by false q rest g = pick_else _ _ (suc k == length (es ++ d ∷ [])) (still_apart k (length es) (length (es ++ d ∷ [])) longer q) (rest g)

takes_first : (es : List DefTree) (d : DefTree) → Takes (es ++ d ∷ []) 0 (bases_of d.params) d.results
takes_first [] d = (refl, refl)
takes_first (e ∷ es) d = pick_else _ _ (0 == length (es ++ d ∷ [])) (apart 0 (length (es ++ d ∷ [])) (omega (
  arith,
  length-append es (d ∷ []),
))) (takes_first es d)

pub takes_at : (ds : List DefTree) (k : ℕ) (d : DefTree) → slice_get ds k ≡ Some d → Takes (reverse ds) k (bases_of d.params) d.results
takes_at [] k d e = cc
takes_at (c ∷ ds) zero d e = let same : c ≡ d = cc in rw (reverse-append (c ∷ []) ds, ← same) (takes_first (reverse ds) c)
takes_at (c ∷ ds) (suc k) d e = rw (reverse-append (c ∷ []) ds) (takes_later (reverse ds) c k (bases_of d.params) d.results (takes_at ds k d e))

-- ---- bodies
pub bodies_turned : (ds : List DefTree) → bodies (reverse ds) ≡ reverse (bodies ds)
bodies_turned [] = refl
bodies_turned (d ∷ ds) =
    rw (reverse-append (d ∷ []) ds, reverse-append (d.body ∷ []) (bodies ds), map-append (λ d. d.body) (reverse ds) (d ∷ []), bodies_turned ds) refl

-- one more function behind those before
pub turned_more : (before : List DefTree) (d : DefTree) → reverse (before ++ d ∷ []) ≡ d ∷ reverse before
turned_more before d = reverse-append before (d ∷ [])

-- what functions that stand last first are formed to
abbrev pub formed_last : List DefTree → List DefTree
formed_last [] = []
formed_last (d ∷ earlier) =
    record {
      name = d.name;
      params = d.params;
      results = d.results;
      body = formed (call_expanded (bodies earlier)) (length d.params) d.body;
    }
    ∷ formed_last earlier

formed_is : (before : List DefTree) (d : DefTree) → formed_def before d ∷ formed_last (reverse before) ≡ formed_last (d ∷ reverse before)
formed_is before d =
    ap (λ es.
    record { name = d.name; params = d.params; results = d.results; body = formed (call_expanded es) (length d.params) d.body }
    ∷ formed_last (reverse before)) (sym (bodies_turned before))

formed_all : (before ds : List DefTree) → reverse (formed_behind before ds) ++ formed_last (reverse before) ≡ formed_last (reverse (before ++ ds))
formed_all before [] = ap (λ ds. formed_last (reverse ds)) (sym (append-nil before))
formed_all before (d ∷ ds) =
    let rest = formed_all (before ++ d ∷ []) ds in
    let one : formed_last (reverse (before ++ d ∷ [])) ≡ formed_def before d ∷ formed_last (reverse before) =
    ap formed_last (turned_more before d) ∙ sym (formed_is before d) in
    let more : reverse (formed_def before d ∷ formed_behind (before ++ d ∷ []) ds) ≡ reverse (formed_behind (before ++ d ∷ []) ds) ++ formed_def before d ∷ [] =
    reverse-append (formed_def before d ∷ []) (formed_behind (before ++ d ∷ []) ds) in
    ap (λ xs. xs ++ formed_last (reverse before)) more
    ∙ append_assoc (reverse (formed_behind (before ++ d ∷ []) ds)) (formed_def before d ∷ []) (formed_last (reverse before))
    ∙ ap (λ xs. reverse (formed_behind (before ++ d ∷ []) ds) ++ xs) (sym one)
    ∙ rest
    ∙ ap (λ xs. formed_last (reverse xs)) (append_assoc before (d ∷ []) ds)

-- the formed functions last first
pub formed_turned : (ds : List DefTree) → reverse (formed_behind [] ds) ≡ formed_last (reverse ds)
formed_turned ds = sym (append-nil (reverse (formed_behind [] ds))) ∙ formed_all [] ds

-- ---- the chooses of functions
-- what is so of each choose with the bodies before it, where the functions stand last first
abbrev pub AllChooses : (WithBodies → Type 0) → List DefTree → Type 0
AllChooses P [] = Unit {0}
AllChooses P (d ∷ earlier) = AllByRecursion (λ q. P (bodies earlier, q)) (chooses_in d.body) × AllChooses P earlier

one_function : (P : WithBodies → Type 0) (before : List DefTree) (d : DefTree) →
    AllByRecursion P (map (λ q. (reverse (bodies before), q)) (chooses_in d.body)) → AllByRecursion (λ q. P (bodies (reverse before), q)) (chooses_in d.body)
one_function P before d h =
    subst (λ es. AllByRecursion (λ q. P (es, q)) (chooses_in d.body)) (sym (bodies_turned before))
    (rec_of_map P (λ q. (reverse (bodies before), q)) (chooses_in d.body) h)

chooses_all : (P : WithBodies → Type 0) (before ds : List DefTree) → AllByRecursion P (chooses_behind before ds) → AllChooses P (reverse before) →
    AllChooses P (reverse (before ++ ds))
chooses_all P before [] h k = subst (λ ds. AllChooses P (reverse ds)) (sym (append-nil before)) k
chooses_all P before (d ∷ ds) h k =
    let these = map (λ q. (reverse (bodies before), q)) (chooses_in d.body) in
    let rest = chooses_behind (before ++ d ∷ []) ds in
    let here = one_function P before d (rec_left P these rest h) in
    let more : AllChooses P (reverse (before ++ d ∷ [])) = subst (AllChooses P) (sym (turned_more before d)) (here, k) in
    subst (λ xs. AllChooses P (reverse xs)) (append_assoc before (d ∷ []) ds) (chooses_all P (before ++ d ∷ []) ds (rec_right P these rest h) more)

pub chooses_turned : (P : WithBodies → Type 0) (ds : List DefTree) → AllByRecursion P (chooses_behind [] ds) → AllChooses P (reverse ds)
chooses_turned P ds h = chooses_all P [] ds h tt
