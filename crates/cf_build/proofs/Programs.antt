-- The codes of the functions of a program.
use Rattle.std.proofs.Common.{◌≡◌, ℕ, zero, suc, ◌+◌, ◌*◌, ◌≤◌, ◌<◌, ◌==◌, Bool, true, false, Option, Some, List, [], ◌∷◌, ◌++◌, length, map, reverse, slice_get, slice_index, All, MatchBool, Contains, ◌⊎◌, inl, inr, refl, sym, ◌∙◌, subst, arith, length-append}
use Rattle.std.specs.Prelude.{if◌then◌else◌}
use Rattle.std.proofs.lemmas.Bool.{eqb-true, eq-eqb, cases_order}
use Rattle.std.proofs.lemmas.Bool.Decides.{nat_tests}
use Rattle.std.proofs.lemmas.List.{append_assoc, append-nil, reverse-append, map-append, length-map}
use Rattle.std.proofs.lemmas.List.Elements.{All-head, All-tail, Contains-append_left, Contains-append_right}
use Rattle.cf_tree.specs.declared.base.Base.{Base}
use Rattle.cf_tree.specs.Allowed.{AllowedIn, AllowedCall}
use Rattle.cf_tree.specs.CodeTree.{CodeTree, code_depth}
use Rattle.cf_tree.specs.DefView.{DefTree}
use Rattle.cf_tree.specs.ExprTree.{ExprTree}
use Rattle.cf_tree.specs.Meaning.{means, path}
use Rattle.cf_tree.specs.Spelled.{IsSpelled}
use Rattle.cf_tree.specs.Typing.{Meets, HasBases as CodeHas}
use Rattle.cf_tree.specs.Values.{Value, Outcome, HaveBases}
use Rattle.cf_growth.specs.Overflowing.{picked_in, picked_call, IsFineIn, IsFineCall}
use Rattle.cf_program.specs.Lowered.{lowered}
use Rattle.cf_tree.specs.Params.{bases_of}
use Rattle.cf_program.specs.Size.{depth_in, measured, depths}
use Rattle.cf_program.specs.TypedProgram.{Takes}
use Rattle.cf_program.proofs.PlainTypes.{IsTypedDef, AreTypedDefs}
use Rattle.cf_build.specs.Codes.{code_of, called, codes_behind}
use Rattle.cf_tree.specs.ChooseTree.{ChooseTree}
use Rattle.cf_build.specs.Chooses.{chooses_in, all_chooses}
use Rattle.cf_shift.specs.Shifted.{HasLevels}
use Rattle.cf_match.proofs.NoMatchLaws.{lowered_same}
use Rattle.cf_build.specs.Solves.{IsSolveOf}
use Rattle.cf_build.proofs.CodeLists.{called_old, called_new, called_past}
use Rattle.cf_build.proofs.CodeSpelling.{depth_within, spelled}
use Rattle.cf_build.proofs.CodeTyping.{typed}
use Rattle.cf_build.proofs.EnteredChooses.{entered}
use Rattle.cf_build.proofs.Meanings.{fine}
use Rattle.cf_build.proofs.PickedPaths.{IsPickedBy, AreFit, Around, picked_by}
use Rattle.cf_build.proofs.Plain.{IsPlain, HasPlainBody}
use Rattle.cf_build.proofs.Values.{Keeps}

-- ---- lists that grow
pub pick_then : (X Y : Type 0) (b : Bool) → b ≡ true → X → MatchBool b X Y
pick_then X Y true e x = x
pick_then X Y false e x = cc

pub pick_else : (X Y : Type 0) (b : Bool) → b ≡ false → Y → MatchBool b X Y
pick_else X Y true e y = cc
pick_else X Y false e y = y

apart : (m n : ℕ) → m < n → (m == n) ≡ false
apart m n h = grind (arith, nat_tests)

index_old : (ns : List ℕ) (n f : ℕ) → f < length ns → slice_index (ns ++ n ∷ []) f ≡ slice_index ns f
index_old [] n f h = absurd (omega (arith, h))
index_old (m ∷ ns) n zero h = refl
index_old (m ∷ ns) n (suc f) h = index_old ns n f (omega (arith, h))

index_new : (ns : List ℕ) (n f : ℕ) → f ≡ length ns → slice_index (ns ++ n ∷ []) f ≡ n
index_new [] n zero e = refl
index_new [] n (suc f) e = absurd (omega (arith, e))
index_new (m ∷ ns) n zero e = absurd (omega (arith, e))
index_new (m ∷ ns) n (suc f) e = index_new ns n f (omega (arith, e))

-- ---- functions
takes_small : (earlier : List DefTree) (f : ℕ) (ps rs : List Base) → Takes earlier f ps rs → f < length earlier
takes_small [] f ps rs h = absurd h
takes_small (d ∷ earlier) f ps rs h = by (f == length earlier) refl (takes_small earlier f ps rs) h
  where
    by : (b : Bool) → (f == length earlier) ≡ b → (Takes earlier f ps rs → f < length earlier) →
        MatchBool b ((ps ≡ bases_of d.params) × (rs ≡ d.results)) (Takes earlier f ps rs) → f < length (d ∷ earlier)
    by true e small t = let same : f ≡ length earlier = eqb-true f (length earlier) e in omega arith
    by false e small t = let less : f < length earlier = small t in omega arith

-- the function that was added, or one before it
pub data IsTaken (d : DefTree) (earlier : List DefTree) (f : ℕ) (ps rs : List Base) : Type 0 where
  new : f ≡ length earlier → ps ≡ bases_of d.params → rs ≡ d.results → IsTaken d earlier f ps rs
  old : f < length earlier → Takes earlier f ps rs → IsTaken d earlier f ps rs

taken : (d : DefTree) (earlier : List DefTree) (f : ℕ) (ps rs : List Base) → Takes (d ∷ earlier) f ps rs → IsTaken d earlier f ps rs
taken d earlier f ps rs h = by (f == length earlier) refl h
  where
    by : (b : Bool) → (f == length earlier) ≡ b → MatchBool b ((ps ≡ bases_of d.params) × (rs ≡ d.results)) (Takes earlier f ps rs) → IsTaken d earlier f ps rs
    by true e t = new (eqb-true f (length earlier) e) t.0 t.1
    by false e t = old (takes_small earlier f ps rs t) t

abbrev pub bodies : List DefTree → List ExprTree
bodies defs = map (λ d. d.body) defs

pick_first : (b : Bool) (x y : Option Outcome) → b ≡ true → (if b then x else y) ≡ x
pick_first true x y e = refl
pick_first false x y e = cc

pick_second : (b : Bool) (x y : Option Outcome) → b ≡ false → (if b then x else y) ≡ y
pick_second true x y e = cc
pick_second false x y e = refl

is_last : (earlier : List DefTree) (f : ℕ) → f ≡ length earlier → (f == length (bodies earlier)) ≡ true
is_last earlier f e = eq-eqb f (length (bodies earlier)) (omega (arith, e, length-map earlier (λ d. d.body)))

is_before : (earlier : List DefTree) (f : ℕ) → f < length earlier → (f == length (bodies earlier)) ≡ false
is_before earlier f l = apart f (length (bodies earlier)) (omega (arith, l, length-map earlier (λ d. d.body)))

picks_new : (d : DefTree) (earlier : List DefTree) (f : ℕ) (xs : List Value) → f ≡ length earlier →
    picked_call (bodies (d ∷ earlier)) f xs ≡ picked_in (picked_call (bodies earlier)) d.body xs
picks_new d earlier f xs e = pick_first (f == length (bodies earlier)) _ _ (is_last earlier f e)

picks_old : (d : DefTree) (earlier : List DefTree) (f : ℕ) (xs : List Value) → f < length earlier →
    picked_call (bodies (d ∷ earlier)) f xs ≡ picked_call (bodies earlier) f xs
picks_old d earlier f xs l = pick_second (f == length (bodies earlier)) _ _ (is_before earlier f l)

enters_new : (d : DefTree) (earlier : List DefTree) (f : ℕ) (xs : List Value) → f ≡ length earlier →
    IsFineIn (picked_call (bodies earlier)) (IsFineCall (bodies earlier)) d.body xs → IsFineCall (bodies (d ∷ earlier)) f xs
enters_new d earlier f xs e h = pick_then _ _ (f == length (bodies earlier)) (is_last earlier f e) h

enters_old : (d : DefTree) (earlier : List DefTree) (f : ℕ) (xs : List Value) → f < length earlier → IsFineCall (bodies earlier) f xs →
    IsFineCall (bodies (d ∷ earlier)) f xs
enters_old d earlier f xs l h = pick_else _ _ (f == length (bodies earlier)) (is_before earlier f l) h

allows_new : (d : DefTree) (earlier : List DefTree) (f : ℕ) (xs : List Value) (o : Outcome) → f ≡ length earlier →
    AllowedIn (AllowedCall (bodies earlier)) d.body xs o → AllowedCall (bodies (d ∷ earlier)) f xs o
allows_new d earlier f xs o e a = pick_then _ _ (f == length (bodies earlier)) (is_last earlier f e) a

allows_old : (d : DefTree) (earlier : List DefTree) (f : ℕ) (xs : List Value) (o : Outcome) → f < length earlier → AllowedCall (bodies earlier) f xs o →
    AllowedCall (bodies (d ∷ earlier)) f xs o
allows_old d earlier f xs o l a = pick_else _ _ (f == length (bodies earlier)) (is_before earlier f l) a

get_last : (xs : List DefTree) (y : DefTree) (i : ℕ) (z : DefTree) → slice_get (xs ++ y ∷ []) i ≡ Some z →
    ((i ≡ length xs) × (y ≡ z)) ⊎ ((i < length xs) × (slice_get xs i ≡ Some z))
get_last [] y zero z e = inl (refl, cc)
get_last [] y (suc i) z e = absurd (cc)
get_last (x ∷ xs) y zero z e = inr (omega arith, e)
get_last (x ∷ xs) y (suc i) z e = elim (get_last xs y i z e) [ inl p ↦ inl (omega (arith, p.0), p.1) | inr p ↦ inr (omega (arith, p.0), p.1) ]

takes_here : (d : DefTree) (earlier : List DefTree) (f : ℕ) → f ≡ length earlier → Takes (d ∷ earlier) f (bases_of d.params) d.results
takes_here d earlier f e = pick_then _ _ (f == length earlier) (eq-eqb f (length earlier) e) (refl, refl)

takes_before : (d : DefTree) (earlier : List DefTree) (f : ℕ) (ps rs : List Base) → f < length earlier → Takes earlier f ps rs → Takes (d ∷ earlier) f ps rs
takes_before d earlier f ps rs l t = pick_else _ _ (f == length earlier) (apart f (length earlier) l) t

-- what is known of the functions that are done, which `earlier` holds last first, of their codes, and of their depths
pub record Knows (done earlier : List DefTree) (known : List CodeTree) (deep : List ℕ) : Type 0 where
  pub codes : length known ≡ length earlier
  pub depths : length deep ≡ length earlier
  pub defs : length done ≡ length earlier
  pub several : (f : ℕ) (ps rs : List Base) → Takes earlier f ps rs → 1 ≤ length rs
  pub typed : (f : ℕ) (ps rs : List Base) → Takes earlier f ps rs → (asked : Option (List Base)) → Meets asked rs → CodeHas (called known f) ps asked rs
  pub spelled : (f : ℕ) (ps rs : List Base) → Takes earlier f ps rs → HasLevels (called known f) → IsSpelled (called known f)
  pub fine : (f : ℕ) (ps rs : List Base) → Takes earlier f ps rs → (xs : List Value) → HaveBases ps xs →
      AllowedCall (bodies earlier) f xs (means (called known f) xs) × Keeps rs (means (called known f) xs)
  pub picked : (f : ℕ) (ps rs : List Base) → Takes earlier f ps rs → (xs : List Value) → AreFit ps xs →
      IsPickedBy (picked_call (bodies earlier) f xs) (path (called known f) xs)
  pub entered : (f : ℕ) (ps rs : List Base) → Takes earlier f ps rs → (xs : List Value) → AreFit ps xs → IsFineCall (bodies earlier) f xs
  pub shallow : (f : ℕ) → code_depth (called known f) ≤ 2 * slice_index deep f + 16
  pub takes : (f : ℕ) (d : DefTree) → slice_get done f ≡ Some d → Takes earlier f (bases_of d.params) d.results

-- nothing is known of no function
knows_none : Knows [] [] [] []
knows_none = record {
  codes = refl;
  depths = refl;
  defs = refl;
  several = λ f ps rs t. absurd t;
  typed = λ f ps rs t. absurd t;
  spelled = λ f ps rs t l. absurd t;
  fine = λ f ps rs t. absurd t;
  picked = λ f ps rs t. absurd t;
  entered = λ f ps rs t. absurd t;
  shallow = λ f. omega arith;
  takes = λ f d e. cc;
}

module _ (solves : ChooseTree → CodeTree) (done earlier : List DefTree) (known : List CodeTree) (deep : List ℕ) (k : Knows done earlier known deep)
    (d : DefTree)
  where
    abbrev code : CodeTree
    code = code_of (called known) solves (length d.params) d.body

    abbrev depth : ℕ
    depth = depth_in (λ f. slice_index deep f) d.body

    module _ (h : IsTypedDef earlier d) (p : IsPlain d.body) (s : (q : ChooseTree) → Contains (chooses_in d.body) q → IsSolveOf q (solves q)) where
      arity : length d.params ≡ length (bases_of d.params)
      arity = sym (length-map d.params (λ x. x.base))

      typed_next : (f : ℕ) (ps rs : List Base) → IsTaken d earlier f ps rs → (asked : Option (List Base)) → Meets asked rs →
          CodeHas (called (known ++ code ∷ []) f) ps asked rs
      typed_next f ps rs (new e a b) asked m =
          rw (called_new known code f (e ∙ sym k.codes), a, b)
          (typed (called known) solves (Takes earlier) k.typed d.body p s (bases_of d.params) d.results h.1 asked (rw b at m) (length d.params) arity)
      typed_next f ps rs (old less t) asked m = rw (called_old known code f (rw k.codes less)) (k.typed f ps rs t asked m)

      spelled_next : (f : ℕ) (ps rs : List Base) → IsTaken d earlier f ps rs → HasLevels (called (known ++ code ∷ []) f) →
          IsSpelled (called (known ++ code ∷ []) f)
      spelled_next f ps rs (new e a b) l =
          let is : called (known ++ code ∷ []) f ≡ code = called_new known code f (e ∙ sym k.codes) in
          subst (λ c. IsSpelled c) (sym is)
          (spelled (called known) solves (Takes earlier) k.spelled d.body p s (bases_of d.params) d.results h.1 (length d.params)
          (subst (λ c. HasLevels c) is l))
      spelled_next f ps rs (old less t) l =
          let is : called (known ++ code ∷ []) f ≡ called known f = called_old known code f (omega (arith, less, k.codes)) in
          subst (λ c. IsSpelled c) (sym is) (k.spelled f ps rs t (subst (λ c. HasLevels c) is l))

      fine_next : (f : ℕ) (ps rs : List Base) → IsTaken d earlier f ps rs → (xs : List Value) → HaveBases ps xs →
          AllowedCall (bodies (d ∷ earlier)) f xs (means (called (known ++ code ∷ []) f) xs) × Keeps rs (means (called (known ++ code ∷ []) f) xs)
      fine_next f ps rs (new e a b) xs x =
          let r = fine (called known) solves (Takes earlier) (AllowedCall (bodies earlier)) k.fine d.body p s (bases_of d.params) d.results h.1 xs (rw a at x)
          (length d.params) arity in
          rw (called_new known code f (e ∙ sym k.codes), b) (allows_new d earlier f xs (means code xs) e r.0, r.1)
      fine_next f ps rs (old less t) xs x =
          let r = k.fine f ps rs t xs x in
          rw (called_old known code f (rw k.codes less)) (allows_old d earlier f xs (means (called known f) xs) less r.0, r.1)

      around : (f : ℕ) (ps : List Base) (xs : List Value) → ps ≡ bases_of d.params → AreFit ps xs → Around (bases_of d.params) xs (length d.params)
      around f ps xs a x = record { bases = subst (λ bs. HaveBases bs xs) a x.bases; small = x.small; level = arity }

      picked_next : (f : ℕ) (ps rs : List Base) → IsTaken d earlier f ps rs → (xs : List Value) → AreFit ps xs →
          IsPickedBy (picked_call (bodies (d ∷ earlier)) f xs) (path (called (known ++ code ∷ []) f) xs)
      picked_next f ps rs (new e a b) xs x =
          subst (λ o. IsPickedBy o (path (called (known ++ code ∷ []) f) xs)) (sym (picks_new d earlier f xs e))
          (subst (λ c. IsPickedBy (picked_in (picked_call (bodies earlier)) d.body xs) (path c xs)) (sym (called_new known code f (e ∙ sym k.codes)))
          (picked_by (called known) solves (Takes earlier) (AllowedCall (bodies earlier)) (picked_call (bodies earlier)) k.fine k.picked d.body p s
          (bases_of d.params) d.results h.1 xs (length d.params) (around f ps xs a x)))
      picked_next f ps rs (old less t) xs x =
          subst (λ o. IsPickedBy o (path (called (known ++ code ∷ []) f) xs)) (sym (picks_old d earlier f xs less))
          (subst (λ c. IsPickedBy (picked_call (bodies earlier) f xs) (path c xs)) (sym (called_old known code f (rw k.codes less)))
          (k.picked f ps rs t xs x))

      entered_next : (f : ℕ) (ps rs : List Base) → IsTaken d earlier f ps rs → (xs : List Value) → AreFit ps xs → IsFineCall (bodies (d ∷ earlier)) f xs
      entered_next f ps rs (new e a b) xs x =
          enters_new d earlier f xs e
          (entered (called known) solves (Takes earlier) (AllowedCall (bodies earlier)) (picked_call (bodies earlier)) (IsFineCall (bodies earlier)) k.fine
          k.picked k.entered d.body p s (bases_of d.params) d.results h.1 xs (length d.params) (around f ps xs a x))
      entered_next f ps rs (old less t) xs x = enters_old d earlier f xs less (k.entered f ps rs t xs x)

      shallow_next : (f : ℕ) → code_depth (called (known ++ code ∷ []) f) ≤ 2 * slice_index (deep ++ depth ∷ []) f + 16
      shallow_next f =
          elim (cases_order (length known) f) as (λ _. code_depth (called (known ++ code ∷ []) f) ≤ 2 * slice_index (deep ++ depth ∷ []) f + 16) [
            | inl same ↦
                rw (called_new known code f (sym same), index_new deep depth f (sym same ∙ k.codes ∙ sym k.depths))
                (depth_within (called known) solves (λ f. slice_index deep f) k.shallow d.body p s (length d.params))
            | inr s ↦
                elim s as (λ _. code_depth (called (known ++ code ∷ []) f) ≤ 2 * slice_index (deep ++ depth ∷ []) f + 16) [
                  | inl more ↦ rw (called_past (known ++ code ∷ []) f (omega (arith, length-append known (code ∷ []), more))) (omega arith)
                  | inr less ↦ rw (called_old known code f less, index_old deep depth f (omega (arith, less, k.codes, k.depths))) (k.shallow f)
                ]
          ]

      takes_next : (f : ℕ) (e : DefTree) → slice_get (done ++ d ∷ []) f ≡ Some e → Takes (d ∷ earlier) f (bases_of e.params) e.results
      takes_next f e g =
          elim (get_last done d f e g) as (λ _. Takes (d ∷ earlier) f (bases_of e.params) e.results) [
            | inl p ↦ rw (← p.1) (takes_here d earlier f (p.0 ∙ k.defs))
            | inr p ↦ takes_before d earlier f (bases_of e.params) e.results (omega (arith, p.0, k.defs)) (k.takes f e p.1)
          ]

      several_next : (f : ℕ) (ps rs : List Base) → IsTaken d earlier f ps rs → 1 ≤ length rs
      several_next f ps rs (new e a b) = rw b h.0
      several_next f ps rs (old less t) = k.several f ps rs t

      pub knows_next : Knows (done ++ d ∷ []) (d ∷ earlier) (known ++ code ∷ []) (deep ++ depth ∷ [])
      knows_next = record {
        codes = omega (arith, k.codes, length-append known (code ∷ []));
        depths = omega (arith, k.depths, length-append deep (depth ∷ []));
        defs = omega (arith, k.defs, length-append done (d ∷ []));
        several = λ f ps rs t. several_next f ps rs (taken d earlier f ps rs t);
        typed = λ f ps rs t. typed_next f ps rs (taken d earlier f ps rs t);
        spelled = λ f ps rs t l. spelled_next f ps rs (taken d earlier f ps rs t) l;
        fine = λ f ps rs t. fine_next f ps rs (taken d earlier f ps rs t);
        picked = λ f ps rs t. picked_next f ps rs (taken d earlier f ps rs t);
        entered = λ f ps rs t. entered_next f ps rs (taken d earlier f ps rs t);
        shallow = shallow_next;
        takes = takes_next;
      }

-- ---- all functions
typed_tail : (ds earlier : List DefTree) → AreTypedDefs (ds ++ earlier) → AreTypedDefs earlier
typed_tail [] earlier h = h
typed_tail (d ∷ ds) earlier h = typed_tail ds earlier h.1

pub all_known : (solves : ChooseTree → CodeTree) (ds done earlier : List DefTree) (known : List CodeTree) (deep : List ℕ) → Knows done earlier known deep →
    AreTypedDefs (reverse ds ++ earlier) → All HasPlainBody ds →
    ((q : ChooseTree) → Contains (all_chooses ds) q → IsSolveOf q (solves q)) →
    Knows (done ++ ds) (reverse ds ++ earlier) (codes_behind solves known ds) (deep ++ measured depth_in deep ds)
all_known solves [] done earlier known deep k t p s = rw (append-nil done, append-nil deep) k
all_known solves (d ∷ ds) done earlier known deep k t p s =
    let q = All-head HasPlainBody d ds p in
    let c = code_of (called known) solves (length d.params) d.body in
    let n = depth_in (λ f. slice_index deep f) d.body in
    let turned : reverse (d ∷ ds) ++ earlier ≡ reverse ds ++ d ∷ earlier = rw (reverse-append (d ∷ []) ds) (append_assoc (reverse ds) (d ∷ []) earlier) in
    let rest : AreTypedDefs (reverse ds ++ d ∷ earlier) = rw turned at t in
    let next = knows_next solves done earlier known deep k d (typed_tail (reverse ds) (d ∷ earlier) rest).0 q
    (λ x m. s x (Contains-append_left (chooses_in (lowered d.body)) (all_chooses ds) x (rw (lowered_same d.body q.0) m))) in
    let all = all_known solves ds (done ++ d ∷ []) (d ∷ earlier) (known ++ c ∷ []) (deep ++ n ∷ []) next rest (All-tail HasPlainBody d ds p)
    (λ x m. s x (Contains-append_right (chooses_in (lowered d.body)) (all_chooses ds) x m)) in
    let depths_are : deep ++ measured depth_in deep (d ∷ ds) ≡ (deep ++ n ∷ []) ++ measured depth_in (deep ++ n ∷ []) ds =
    rw (lowered_same d.body q.0) (sym (append_assoc deep (n ∷ []) (measured depth_in (deep ++ n ∷ []) ds))) in
    rw (← append_assoc done (d ∷ []) ds, turned, depths_are) all

pub map_reverse : (ds : List DefTree) → bodies (reverse ds) ≡ reverse (bodies ds)
map_reverse [] = refl
map_reverse (d ∷ ds) =
    rw (reverse-append (d ∷ []) ds, reverse-append (d.body ∷ []) (bodies ds), map-append (λ d. d.body) (reverse ds) (d ∷ []), map_reverse ds) refl

-- what is known of a whole program
pub program_known : (solves : ChooseTree → CodeTree) (defs : List DefTree) → AreTypedDefs (reverse defs) → All HasPlainBody defs →
    ((q : ChooseTree) → Contains (all_chooses defs) q → IsSolveOf q (solves q)) →
    Knows defs (reverse defs) (codes_behind solves [] defs) (depths defs)
program_known solves defs t p s =
    subst (λ earlier. Knows defs earlier (codes_behind solves [] defs) (depths defs)) (append-nil (reverse defs))
    (all_known solves defs [] [] [] [] knows_none (rw (append-nil (reverse defs)) t) p s)
