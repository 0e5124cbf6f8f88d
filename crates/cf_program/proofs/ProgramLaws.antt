-- A program in which no rule is broken keeps its facts.
use Rattle.std.proofs.Common.{◌≡◌, ℕ, zero, suc, ◌+◌, ◌≤◌, ◌<◌, Bool, true, false, ◌==◌, nat_lt, List, [], ◌∷◌, ◌++◌, length, map, reverse, slice_get, codes, Option, Some, None, option_map, Ok, All, MatchBool, ◌⊎◌, inl, inr, refl, sym, ◌∙◌, ap, subst, cond, arith, not}
use Rattle.std.proofs.lemmas.Bool.{eqb-true, eq-eqb, ltb-true}
use Rattle.std.proofs.lemmas.List.{append_assoc, append-nil, length-append, length-map, reverse-append, length-reverse}
use Rattle.std.proofs.lemmas.List.Elements.{All-nil, All-cons, All-head, All-tail, All-push}
use Rattle.std.proofs.lemmas.Slice.Eq.{bytes_eq-Decides}
use Rattle.std.specs.Str.{bytes_eq}
use Rattle.cf_num.specs.Limit.{IsWithin}
use Rattle.cf_tree.specs.declared.base.Base.{Base}
use Rattle.cf_tree.specs.declared.base.Base.TheVariants.{Int}
use Rattle.cf_tree.specs.declared.base.Edition.{Edition}
use Rattle.cf_tree.specs.declared.base.Edition.TheVariants.{Two, Three}
use Rattle.cf_tree.specs.declared.base.Place.{Place}
use Rattle.cf_tree.specs.declared.raw.Param.{Param}
use Rattle.cf_tree.specs.DefView.{RawDefTree, DefTree, RawItemTree, item_const, item_def}
use Rattle.cf_tree.specs.RawTree.{RawTree}
use Rattle.cf_program.specs.declared.fault.TypeFault.{TypeFault}
use Rattle.cf_program.specs.declared.fault.TypeFault.TheVariants.{Weight, Depth}
use Rattle.cf_program.specs.declared.linearity.Linearity.{Linearity}
use Rattle.cf_program.specs.Checked.{TypedTree, functions_of, def_form, walk_const, walk_def, walk_items, main_from, size_fault, with_main, sized, checked}
use Rattle.cf_program.specs.Constants.{Constant, constant_names, value}
use Rattle.cf_program.specs.DistinctNames.{AreDistinct, IsDistinctlyNamed}
use Rattle.cf_program.specs.Laws.{RulesKeepTypes, RulesKeepSources, RulesKeepNames}
use Rattle.cf_program.specs.LateLinear.{IsLinearBy}
use Rattle.cf_program.specs.Linear.{Held, Found, linear, holders, found, called}
use Rattle.cf_program.specs.LinearTrees.{holds, call_holds, DefsAreLinear}
use Rattle.cf_program.specs.Names.{Callee, callee, callee_from, is_among, repeated}
use Rattle.cf_program.specs.NoForm.{HasNoForm}
use Rattle.cf_tree.specs.Params.{bases_of, names_of}
use Rattle.cf_tree.specs.Bases.{same_bases}
use Rattle.cf_program.specs.Size.{weights, depths, first_above}
use Rattle.cf_program.specs.Source.{IsSpelledDef, IsSpelledItem, IsSpelledProgram}
use Rattle.cf_program.specs.TypedProgram.{numbers, all_numbers, Takes, AreTypedDefsBy, IsProgramBy}
use Rattle.cf_program.specs.TypedSource.{IsSourceBy}
use Rattle.cf_program.specs.Walk.{by_edition, Form, Context, behind, is_one, takes_inputs, walk}
use Rattle.cf_tree.proofs.BaseLemmas.{same_bases_is}
use Rattle.cf_program.proofs.ConstantLaws.{value_within}
use Rattle.cf_program.proofs.HeldLaws.{CallsHold, Holds, walk_holds}
use Rattle.cf_program.proofs.Kept.{WhenOk, when_ok, when_err, when_bind, when_kept, when_no_fault, when_none_repeated, when_is, when_any, when_both, when_then}
use Rattle.cf_program.proofs.LinearLaws.{Tame, walk_tame}
use Rattle.cf_program.proofs.NameLaws.{either, not_true, DefsDiffer, items_named, program_named}
use Rattle.cf_program.proofs.PatternLaws.{AreWithin}
use Rattle.cf_program.proofs.Rising.{Rising, rising_le, rising_append, rising_distinct, rising_above}
use Rattle.cf_program.proofs.SizeLemmas.{above_kept}
use Rattle.cf_program.proofs.SomeLaws.{takes_some}
use Rattle.cf_program.proofs.WalkLaws.{ExprHas, Knows, Sound, Good, walk_good}

-- functions with levels that stand for these functions, as far as calls see them
abbrev pub Mirrors : List RawDefTree → List DefTree → Type 0
Mirrors [] [] = Unit {0}
Mirrors [] (d ∷ ds) = ⊥
Mirrors (r ∷ rs) [] = ⊥
Mirrors (r ∷ rs) (d ∷ ds) = (d.name ≡ r.name) × (d.params ≡ r.params) × (d.results ≡ r.results) × Mirrors rs ds

mirrors_push : (rs : List RawDefTree) (ds : List DefTree) (r : RawDefTree) (f : Form) → Mirrors rs ds → Mirrors (rs ++ r ∷ []) (ds ++ def_form r f ∷ [])
mirrors_push [] [] r f h = (refl, refl, refl, tt)
mirrors_push [] (d ∷ ds) r f h = absurd h
mirrors_push (q ∷ rs) [] r f h = absurd h
mirrors_push (q ∷ rs) (d ∷ ds) r f h = (h.0, h.1, h.2, mirrors_push rs ds r f h.3)

names_mirrored : (rs : List RawDefTree) (ds : List DefTree) → Mirrors rs ds → map (λ d. d.name) rs ≡ map (λ d. d.name) ds
names_mirrored [] [] h = refl
names_mirrored [] (d ∷ ds) h = absurd h
names_mirrored (q ∷ rs) [] h = absurd h
names_mirrored (q ∷ rs) (d ∷ ds) h =
    let first : d.name ≡ q.name = h.0 in
    let rest : map (λ d. d.name) rs ≡ map (λ d. d.name) ds = names_mirrored rs ds h.3 in
    rw (first, rest) refl

params_mirrored : (rs : List RawDefTree) (ds : List DefTree) → Mirrors rs ds → All (λ r. AreDistinct (names_of r.params)) rs → All (λ d. AreDistinct
    (names_of d.params)) ds
params_mirrored [] [] h all = All-nil (λ d. AreDistinct (names_of d.params))
params_mirrored [] (d ∷ ds) h all = absurd h
params_mirrored (q ∷ rs) [] h all = absurd h
params_mirrored (q ∷ rs) (d ∷ ds) h all =
    let P : List Param → Type 0 = λ ps. AreDistinct (names_of ps) in
    All-cons (λ d. AreDistinct (names_of d.params)) d ds (subst P (sym h.1) (All-head (λ r. AreDistinct (names_of r.params)) q rs all))
    (params_mirrored rs ds h.3 (All-tail (λ r. AreDistinct (names_of r.params)) q rs all))

mirrored : (rs : List RawDefTree) (ds : List DefTree) (k : ℕ) (r : RawDefTree) → Mirrors rs ds → slice_get rs k ≡ Some r → (d : DefTree)
    × (slice_get ds k ≡ Some d) × (d.name ≡ r.name) × (d.params ≡ r.params) × (d.results ≡ r.results)
mirrored [] ds k r h e = cc
mirrored (q ∷ rs) [] k r h e = absurd h
mirrored (q ∷ rs) (d ∷ ds) zero r h e =
    let same : q ≡ r = cc in
    (d, refl, h.0 ∙ ap (λ x. x.name) same, h.1 ∙ ap (λ x. x.params) same, h.2 ∙ ap (λ x. x.results) same)
mirrored (q ∷ rs) (d ∷ ds) (suc k) r h e = mirrored rs ds k r h.3 e

pick_else : (X Y : Type 0) (b : Bool) → b ≡ false → Y → MatchBool b X Y
pick_else X Y true e y = cc
pick_else X Y false e y = y

pick_then : (X Y : Type 0) (b : Bool) → b ≡ true → X → MatchBool b X Y
pick_then X Y true e x = x
pick_then X Y false e x = cc

still_apart : (k n m : ℕ) → m ≡ suc n → (k == n) ≡ false → (suc k == m) ≡ false
still_apart k n m e h = by (suc k == m) refl
  where
    by : (b : Bool) → (suc k == m) ≡ b → b ≡ false
    by false q = refl
    by true q =
        let same : suc k ≡ m = eqb-true (suc k) m q in
        let back : (k == n) ≡ true = eq-eqb k n (omega arith) in
        cc

apart : (m n : ℕ) → m < n → (m == n) ≡ false
apart m n h = grind arith

-- what a function takes does not change where one more stands before all
takes_shift : (es : List DefTree) (d : DefTree) (k : ℕ) (ps rs : List Base) → Takes es k ps rs → Takes (es ++ d ∷ []) (suc k) ps rs
takes_shift [] d k ps rs h = absurd h
takes_shift (e ∷ es) d k ps rs h = by (k == length es) refl (takes_shift es d k ps rs) h
  where
    longer : length (es ++ d ∷ []) ≡ suc (length es)
    longer = omega (arith, length-append es (d ∷ []))

    by : (b : Bool) → (k == length es) ≡ b → (Takes es k ps rs → Takes (es ++ d ∷ []) (suc k) ps rs) → MatchBool b ((ps ≡ bases_of e.params)
        × (rs ≡ e.results)) (Takes es k ps rs) → MatchBool (suc k == length (es ++ d ∷ [])) ((ps ≡ bases_of e.params)
        × (rs ≡ e.results)) (Takes (es ++ d ∷ []) (suc k) ps rs)
    by true q rest g =
        let same : k ≡ length es = eqb-true k (length es) q in
        pick_then _ _ (suc k == length (es ++ d ∷ [])) (eq-eqb (suc k) (length (es ++ d ∷ [])) (omega (arith, longer))) g
    by false q rest g = pick_else _ _ (suc k == length (es ++ d ∷ [])) (still_apart k (length es) (length (es ++ d ∷ [])) longer q) (rest g)

takes_first : (es : List DefTree) (d : DefTree) → Takes (es ++ d ∷ []) 0 (bases_of d.params) d.results
takes_first [] d = (refl, refl)
takes_first (e ∷ es) d = pick_else _ _ (0 == length (es ++ d ∷ [])) (apart 0 (length (es ++ d ∷ [])) (omega (
  arith,
  length-append es (d ∷ []),
))) (takes_first es d)

takes_at : (ds : List DefTree) (k : ℕ) (d : DefTree) → slice_get ds k ≡ Some d → Takes (reverse ds) k (bases_of d.params) d.results
takes_at [] k d e = cc
takes_at (c ∷ ds) zero d e = let same : c ≡ d = cc in rw (reverse-append (c ∷ []) ds, ← same) (takes_first (reverse ds) c)
takes_at (c ∷ ds) (suc k) d e = rw (reverse-append (c ∷ []) ds) (takes_shift (reverse ds) c k (bases_of d.params) d.results (takes_at ds k d e))

abbrev pub FoundDef : ℕ → ℕ → List RawDefTree → List ℕ → Callee → Type 0
FoundDef caller i ds x c =
    (k : ℕ) × (d : RawDefTree) × (c.number ≡ i + k) × (slice_get ds k ≡ Some d) × (c.params ≡ bases_of d.params) × (c.results ≡ d.results)
    × (c.is_earlier ≡ nat_lt c.number caller) × (d.name ≡ x)

callee_found : (caller i : ℕ) (ds : List RawDefTree) (x : List ℕ) (c : Callee) → callee_from caller i ds x ≡ Some c → FoundDef caller i ds x c
callee_found caller i [] x c e = cc
callee_found caller i (d ∷ ds) x c e = by (bytes_eq d.name x) refl (callee_found caller (suc i) ds x c) e
  where
    by : (b : Bool) → bytes_eq d.name x ≡ b → (callee_from caller (suc i) ds x ≡ Some c → FoundDef caller (suc i) ds x c) → cond b (Some
        (callee caller i d)) (callee_from caller (suc i) ds x) ≡ Some c → FoundDef caller i (d ∷ ds) x c
    by true q rest h =
        let same : callee caller i d ≡ c = cc in
        rw (← same) (0, d, omega arith, refl, refl, refl, refl, (bytes_eq-Decides d.name x).0 q)
    by false q rest h = let f : FoundDef caller (suc i) ds x c = rest h in (suc f.0, f.1, omega (arith, f.2), f.3, f.4, f.5, f.6, f.7)

within_front : (xs ys : List RawDefTree) (k : ℕ) (d : RawDefTree) → k < length xs → slice_get (xs ++ ys) k ≡ Some d → slice_get xs k ≡ Some d
within_front [] ys k d h e = absurd (omega arith)
within_front (x ∷ xs) ys zero d h e = e
within_front (x ∷ xs) ys (suc k) d h e = within_front xs ys k d (omega arith) e

knows_earlier : (before rest : List RawDefTree) (done : List DefTree) → Mirrors before done → Knows (callee_from (length before) 0 (before ++ rest))
    (Takes (reverse done))
knows_earlier before rest done m x c e earlier =
    let f : FoundDef (length before) 0 (before ++ rest) x c = callee_found (length before) 0 (before ++ rest) x c e in
    let small : c.number < length before = ltb-true c.number (length before) (sym f.6 ∙ earlier) in
    let at : slice_get before f.0 ≡ Some f.1 = within_front before rest f.0 f.1 (omega (arith, f.2)) f.3 in
    let g : (d : DefTree) × (slice_get done f.0 ≡ Some d) × (d.name ≡ f.1.name) × (d.params ≡ f.1.params)
    × (d.results ≡ f.1.results) = mirrored before done f.0 f.1 m at in
    let t : Takes (reverse done) f.0 (bases_of g.0.params) g.0.results = takes_at done f.0 g.0 g.1 in
    let number : f.0 ≡ c.number = omega (arith, f.2) in
    let params : bases_of g.0.params ≡ c.params = ap bases_of g.3 ∙ sym f.4 in
    let results : g.0.results ≡ c.results = g.4 ∙ sym f.5 in
    let P : ℕ → Type 0 = λ k. Takes (reverse done) k (bases_of g.0.params) g.0.results in
    let Q : List Base → Type 0 = λ ps. Takes (reverse done) c.number ps g.0.results in
    let R : List Base → Type 0 = λ rs. Takes (reverse done) c.number c.params rs in
    subst R results (subst Q params (subst P number t))

-- what a call of each function is found to hold, its tree holds
abbrev pub DefsHold : List RawDefTree → List DefTree → Type 0
DefsHold before done =
    (k : ℕ) (d : RawDefTree) → slice_get before k ≡ Some d → (inputs : Bool) (vs hs : List Held) → length vs ≡ length d.params →
    called inputs (reverse before) d.name vs ≡ linear hs → (call_holds inputs (reverse done) k vs ≡ Some hs) × (length hs ≡ length d.results)

mirrors_length : (rs : List RawDefTree) (ds : List DefTree) → Mirrors rs ds → length rs ≡ length ds
mirrors_length [] [] h = refl
mirrors_length [] (d ∷ ds) h = absurd h
mirrors_length (q ∷ rs) [] h = absurd h
mirrors_length (q ∷ rs) (d ∷ ds) h = ap suc (mirrors_length rs ds h.3)

-- one is among them, or the last
at_push : (xs : List RawDefTree) (x : RawDefTree) (k : ℕ) (d : RawDefTree) → slice_get (xs ++ x ∷ []) k ≡ Some d →
    ((k < length xs) × (slice_get xs k ≡ Some d)) ⊎ ((k ≡ length xs) × (x ≡ d))
at_push [] x zero d e = inr (refl, cc)
at_push [] x (suc k) d e = cc
at_push (y ∷ xs) x zero d e = inl (omega arith, e)
at_push (y ∷ xs) x (suc k) d e = by (at_push xs x k d e)
  where
    by : ((k < length xs) × (slice_get xs k ≡ Some d)) ⊎ ((k ≡ length xs) × (x ≡ d)) →
        ((suc k < length (y ∷ xs)) × (slice_get (y ∷ xs) (suc k) ≡ Some d)) ⊎ ((suc k ≡ length (y ∷ xs)) × (x ≡ d))
    by (inl h) = inl (omega (arith, h.0), h.1)
    by (inr h) = inr (omega (arith, h.0), h.1)

-- a name that is not among these is that of none of them
not_named : (ds : List RawDefTree) (x : List ℕ) (k : ℕ) (d : RawDefTree) → is_among (map (λ e. e.name) ds) x ≡ false → slice_get ds k ≡ Some d →
    bytes_eq d.name x ≡ false
not_named [] x k d h e = cc
not_named (c ∷ ds) x zero d h e =
    let same : c ≡ d = cc in
    ap (λ f. bytes_eq f.name x) (sym same) ∙ (either (bytes_eq c.name x) (is_among (map (λ f. f.name) ds) x) h).0
not_named (c ∷ ds) x (suc k) d h e = not_named ds x k d (either (bytes_eq c.name x) (is_among (map (λ f. f.name) ds) x) h).1 e

differs_back : (x y : List ℕ) → bytes_eq x y ≡ false → bytes_eq y x ≡ false
differs_back x y h = by (bytes_eq y x) refl
  where
    by : (b : Bool) → bytes_eq y x ≡ b → b ≡ false
    by false e = refl
    by true e =
        let same : x ≡ y = sym ((bytes_eq-Decides y x).0 e) in
        let yes : bytes_eq x y ≡ true = (bytes_eq-Decides x y).1 same in
        cc

abbrev pub body_of : Edition → Linearity → List Constant → List RawDefTree → List RawDefTree → Context
body_of edition how constants before all = behind edition how (callee_from (length before) 0 all) constants (reverse before)

calls_hold : (edition : Edition) (how : Linearity) (constants : List Constant) (before rest : List RawDefTree) (done : List DefTree) →
    DefsHold before done → CallsHold (body_of edition how constants before (before ++ rest)) (reverse done)
calls_hold edition how constants before rest done h x c e earlier inputs vs hs l q =
    let f : FoundDef (length before) 0 (before ++ rest) x c = callee_found (length before) 0 (before ++ rest) x c e in
    let small : c.number < length before = ltb-true c.number (length before) (sym f.6 ∙ earlier) in
    let at : slice_get before f.0 ≡ Some f.1 = within_front before rest f.0 f.1 (omega (arith, f.2)) f.3 in
    let number : f.0 ≡ c.number = omega (arith, f.2) in
    let P : ℕ → Type 0 = λ k. call_holds inputs (reverse done) k vs ≡ Some hs in
    let many : length vs ≡ length f.1.params = l ∙ ap length f.4 ∙ length-map f.1.params (λ p. p.base) in
    let named : called inputs (reverse before) f.1.name vs ≡ linear hs = ap (λ y. called inputs (reverse before) y vs) f.7 ∙ q in
    let r : (call_holds inputs (reverse done) f.0 vs ≡ Some hs) × (length hs ≡ length f.1.results) = h f.0 f.1 at inputs vs hs many named in
    (subst P number r.0, r.1 ∙ ap length (sym f.5))

on_found : (b : Bool) (x y : Found) (hs : List Held) → cond b x y ≡ linear hs → ((b ≡ true) × (x ≡ linear hs)) ⊎ ((b ≡ false) × (y ≡ linear hs))
on_found true x y hs e = inl (refl, e)
on_found false x y hs e = inr (refl, e)

defs_hold_push : (edition : Edition) (how : Linearity) (constants : List Constant) (before all : List RawDefTree) (done : List DefTree) (d : RawDefTree)
    (f : Form) → length before ≡ length done → is_among (map (λ e. e.name) before) d.name ≡ false → DefsHold before done →
    Holds (body_of edition how constants before all) (reverse done) d.params d.body f → f.bases ≡ d.results →
    DefsHold (before ++ d ∷ []) (done ++ def_form d f ∷ [])
defs_hold_push edition how constants before all done d f same new h body bases k e at inputs vs hs l q =
    by (at_push before d k e at)
  where
    unrolled : cond (bytes_eq d.name e.name) (found inputs (called inputs (reverse before)) (holders (names_of d.params) vs) d.body)
        (called inputs (reverse before) e.name vs) ≡ linear hs
    unrolled = subst (λ ds. called inputs ds e.name vs ≡ linear hs) (reverse-append before (d ∷ [])) q

    last : length done ≡ length (reverse done)
    last = sym (length-reverse done)

    rolled : cond (k == length (reverse done)) (holds inputs (call_holds inputs (reverse done)) vs f.tree) (call_holds inputs (reverse done) k vs) ≡ Some hs →
        call_holds inputs (reverse (done ++ def_form d f ∷ [])) k vs ≡ Some hs
    rolled g = subst (λ ds. call_holds inputs ds k vs ≡ Some hs) (sym (reverse-append done (def_form d f ∷ []))) g

    by : ((k < length before) × (slice_get before k ≡ Some e)) ⊎ ((k ≡ length before) × (d ≡ e)) →
        (call_holds inputs (reverse (done ++ def_form d f ∷ [])) k vs ≡ Some hs) × (length hs ≡ length e.results)
    by (inl g) =
        let other : bytes_eq d.name e.name ≡ false = differs_back e.name d.name (not_named before d.name k e new g.1) in
        let earlier : called inputs (reverse before) e.name vs ≡ linear hs = rw other at unrolled in
        let r : (call_holds inputs (reverse done) k vs ≡ Some hs) × (length hs ≡ length e.results) = h k e g.1 inputs vs hs l earlier in
        let lower : (k == length (reverse done)) ≡ false = apart k (length (reverse done)) (omega (arith, g.0, same, last)) in
        (rolled (rw lower r.0), r.1)
    by (inr g) =
        let yes : bytes_eq d.name e.name ≡ true = (bytes_eq-Decides d.name e.name).1 (ap (λ c. c.name) g.1) in
        let here : found inputs (called inputs (reverse before)) (holders (names_of d.params) vs) d.body ≡ linear hs = rw yes at unrolled in
        let many : length vs ≡ length d.params = l ∙ ap (λ c. length c.params) (sym g.1) in
        let r : (holds inputs (call_holds inputs (reverse done)) vs f.tree ≡ Some hs) × (length hs ≡ length f.bases) = body inputs vs hs many here in
        let top : (k == length (reverse done)) ≡ true = eq-eqb k (length (reverse done)) (g.0 ∙ same ∙ last) in
        (rolled (rw top r.0), r.1 ∙ ap length bases ∙ ap (λ c. length c.results) g.1)

pub record GoodDefs (edition : Edition) (how : Linearity) (constants : List Constant) (before : List RawDefTree) (done : List DefTree) (n : ℕ) : Type 0 where
  pub mirrors : Mirrors before done
  pub typed : AreTypedDefsBy (IsLinearBy how) (reverse done)
  pub rising : Rising 1 (all_numbers done) n
  pub within : AreWithin constants
  pub linear : DefsAreLinear (takes_inputs how) (reverse done)
  pub formed : edition ≡ Two → All (λ d. HasNoForm d.body) done
  pub held : DefsHold before done

abbrev pub GoodStep : Edition → Linearity → List Constant → List RawDefTree → List DefTree → RawDefTree → DefTree × ℕ → Type 0
GoodStep edition how constants before done d r = GoodDefs edition how constants (before ++ d ∷ []) (done ++ r.0 ∷ []) r.1

all_numbers_push : (ds : List DefTree) (d : DefTree) → all_numbers (ds ++ d ∷ []) ≡ all_numbers ds ++ numbers d.body
all_numbers_push [] d = append-nil (numbers d.body)
all_numbers_push (c ∷ ds) d = ap (λ ks. numbers c.body ++ ks) (all_numbers_push ds d) ∙ sym (append_assoc (numbers c.body) (all_numbers ds) (numbers d.body))

body_sound : (edition : Edition) (how : Linearity) (constants : List Constant) (before rest : List RawDefTree) (done : List DefTree) (n : ℕ) →
    GoodDefs edition how constants before done n → Sound (body_of edition how constants before (before ++ rest)) (Takes (reverse done))
body_sound edition how constants before rest done n g = record {
  calls = knows_earlier before rest done g.mirrors;
  some = takes_some (IsLinearBy how) (reverse done) g.typed;
  constants = g.within;
}

def_good : (edition : Edition) (how : Linearity) (constants : List Constant) (before all : List RawDefTree) (done : List DefTree) (n : ℕ) (d : RawDefTree)
    (f : Form) → IsSpelledDef edition d → GoodDefs edition how constants before done n → is_among (map (λ e. e.name) before) d.name ≡ false →
    Good (body_of edition how constants before all) (Takes (reverse done)) (bases_of d.params) n f →
    Tame (body_of edition how constants before all) (reverse done) f →
    Holds (body_of edition how constants before all) (reverse done) d.params d.body f → f.bases ≡ d.results →
    GoodStep edition how constants before done d (def_form d f, f.next)
def_good edition how constants before all done n d f s g new h t i e =
    let P : List Base → Type 0 = λ bs. ExprHas (body_of edition how constants before all) (Takes (reverse done)) f.tree (bases_of d.params) bs in
    record {
      mirrors = mirrors_push before done d f g.mirrors;
      typed = rw (reverse-append done (def_form d f ∷ [])) ((s.0, subst P e h.typed), g.typed);
      rising =
          rw (all_numbers_push done (def_form d f))
          (rising_append 1 (all_numbers done) n (numbers f.tree) f.next g.rising h.rising);
      within = g.within;
      linear = rw (reverse-append done (def_form d f ∷ [])) (t.linear, g.linear);
      formed = λ two. All-push (λ c. HasNoForm c.body) done (def_form d f) (g.formed two) (t.formed two);
      held = defs_hold_push edition how constants before all done d f (mirrors_length before done g.mirrors) new g.held i e;
    }

walk_def_good : (edition : Edition) (how : Linearity) (constants : List Constant) (before rest : List RawDefTree) (done : List DefTree) (n : ℕ)
    (d : RawDefTree) → IsSpelledDef edition d → GoodDefs edition how constants before done n →
    WhenOk (GoodStep edition how constants before done d) (walk_def edition how (before ++ rest) constants before n d)
walk_def_good edition how constants before rest done n d s g =
    let body : Context = body_of edition how constants before (before ++ rest) in
    let known : CallsHold body (reverse done) = calls_hold edition how constants before rest done g.held in
    when_kept (not (is_among (map (λ e. e.name) before) d.name)) _ _ (λ new.
    when_none_repeated (repeated (constant_names constants) (names_of d.params) (map (λ p. p.place) d.params)) _ (
    when_bind (walk body d.params n d.body) _
    (when_both (walk body d.params n d.body) (walk_good body (Takes (reverse done)) (body_sound edition how constants before rest done n g) d.params n
    (rising_le 1 (all_numbers done) n g.rising) d.body s.1) (when_both (walk body d.params n d.body) (walk_tame body (reverse done) known d.params n d.body s.1)
    (walk_holds body (reverse done) known d.params n d.body s.1)))
    (λ f h.
    when_kept (same_bases f.bases d.results) _ _ (λ e.
    when_ok (def_form d f, f.next) (def_good edition how constants before (before ++ rest) done n d f s g (not_true (is_among (map (λ e. e.name) before) d.name)
    new) h.0 h.1.0 h.1.1 (same_bases_is f.bases d.results e))))))

walk_const_good : (edition : Edition) (how : Linearity) (all : List RawDefTree) (constants : List Constant) (before : List RawDefTree) (n : ℕ) (p : Place)
    (x : List ℕ) (e : RawTree) → AreWithin constants → IsSpelledItem edition (item_const p x e) →
    WhenOk AreWithin (walk_const edition how all constants before n p x e)
walk_const_good edition how all constants before n p x e w s =
    when_kept (not (is_among (constant_names constants) x)) _ _ (λ _.
    when_then (walk (body_of edition how constants before all) [] n e) _ (λ f.
    when_kept (is_one Int f.bases) _ _ (λ _.
    when_bind (value constants e) _ (value_within edition constants w e s.1) (λ k h.
    when_ok _ (All-push (λ c. IsWithin c.value) constants (record { name = x; value = k }) w h)))))

abbrev pub GoodAll : Edition → Linearity → List RawDefTree → List DefTree → Type 0
GoodAll edition how all done = (n : ℕ) × (constants : List Constant) × GoodDefs edition how constants all done n

with_constants : (edition : Edition) (how : Linearity) (constants more : List Constant) (before : List RawDefTree) (done : List DefTree) (n : ℕ) →
    GoodDefs edition how constants before done n → AreWithin more → GoodDefs edition how more before done n
with_constants edition how constants more before done n g w = record {
  mirrors = g.mirrors;
  typed = g.typed;
  rising = g.rising;
  within = w;
  linear = g.linear;
  formed = g.formed;
  held = g.held;
}

walk_items_good : (edition : Edition) (how : Linearity) (constants : List Constant) (before : List RawDefTree) (done : List DefTree) (n : ℕ)
    (items : List RawItemTree) → All (IsSpelledItem edition) items → GoodDefs edition how constants before done n →
    WhenOk (GoodAll edition how (before ++ functions_of items)) (walk_items edition how (before ++ functions_of items) constants before done n items)
walk_items_good edition how constants before done n [] s g = when_ok done (n, constants, rw (append-nil before) g)
walk_items_good edition how constants before done n (item_const p x e ∷ items) s g =
    when_bind (walk_const edition how (before ++ functions_of items) constants before n p x e) _
    (walk_const_good edition how (before ++ functions_of items) constants before n p x e g.within (All-head (IsSpelledItem edition) (item_const p x e) items s))
    (λ more w.
    walk_items_good edition how more before done n items (All-tail (IsSpelledItem edition) (item_const p x e) items s)
    (with_constants edition how constants more before done n g w))
walk_items_good edition how constants before done n (item_def d ∷ items) s g =
    when_bind (walk_def edition how (before ++ d ∷ functions_of items) constants before n d) _
    (walk_def_good edition how constants before (d ∷ functions_of items) done n d (All-head (IsSpelledItem edition) (item_def d) items s) g) (λ r h.
    let same : before ++ d ∷ [] ++ functions_of items ≡ before ++ d ∷ functions_of items = append_assoc before (d ∷ []) (functions_of items) in
    let P : List RawDefTree → Type 0 = λ all. WhenOk (GoodAll edition how all) (walk_items edition how all constants (before ++ d ∷ []) (done ++ r.0 ∷ []) r.1
    items) in
    subst P same (walk_items_good edition how constants (before ++ d ∷ []) (done ++ r.0 ∷ []) r.1 items (All-tail (IsSpelledItem edition) (item_def d) items s)
    h))

abbrev pub IsMain : List RawDefTree → ℕ → ℕ → Type 0
IsMain ds i m = (k : ℕ) × (d : RawDefTree) × (m ≡ i + k) × (slice_get ds k ≡ Some d) × (d.name ≡ codes "main")

main_found : (i : ℕ) (ds : List RawDefTree) (m : ℕ) → main_from i ds ≡ Some m → IsMain ds i m
main_found i [] m e = cc
main_found i (d ∷ ds) m e = by (bytes_eq d.name (codes "main")) refl (main_found (suc i) ds m) e
  where
    by : (b : Bool) → bytes_eq d.name (codes "main") ≡ b → (main_from (suc i) ds ≡ Some m → IsMain ds (suc i) m) → cond b (Some i) (main_from
        (suc i) ds) ≡ Some m → IsMain (d ∷ ds) i m
    by true q rest h =
        let same : i ≡ m = cc in
        (0, d, omega arith, refl, (bytes_eq-Decides d.name (codes "main")).0 q)
    by false q rest h = let f : IsMain ds (suc i) m = rest h in (suc f.0, f.1, omega (arith, f.2), f.3, f.4)

sizes_kept : (limit : ℕ) (fault : ℕ → TypeFault) (ns : List ℕ) → size_fault limit fault ns ≡ None → All (λ n. n ≤ limit) ns
sizes_kept limit fault ns e = by (first_above limit 0 ns) refl e
  where
    by : (o : Option (ℕ × ℕ)) → first_above limit 0 ns ≡ o → option_map (λ p. fault p.1) o ≡ None → All (λ n. n ≤ limit) ns
    by None is h = above_kept limit 0 ns is
    by (Some p) is h = cc

-- a walked program with its number of `main`
pub record GoodTree (edition : Edition) (how : Linearity) (t : TypedTree) : Type 0 where
  pub source : IsSourceBy how t.defs t.main
  pub formed : edition ≡ Two → All (λ d. HasNoForm d.body) t.defs

with_main_good : (edition : Edition) (how : Linearity) (ds : List RawDefTree) (defs : List DefTree) (o : Option ℕ) → main_from 0 ds ≡ o →
    GoodAll edition how ds defs → DefsDiffer edition [] ds → WhenOk (GoodTree edition how) (with_main defs o)
with_main_good edition how ds defs None e g named = when_err _
with_main_good edition how ds defs (Some m) e g named =
    let f : IsMain ds 0 m = main_found 0 ds m e in
    let h : (d : DefTree) × (slice_get defs f.0 ≡ Some d) × (d.name ≡ f.1.name) × (d.params ≡ f.1.params)
    × (d.results ≡ f.1.results) = mirrored ds defs f.0 f.1 g.2.mirrors f.3 in
    let number : f.0 ≡ m = omega (arith, f.2) in
    let P : ℕ → Type 0 = λ k. slice_get defs k ≡ Some h.0 in
    when_ok _ (record {
      source = record {
        typed = g.2.typed;
        linear = g.2.linear;
        functions = subst AreDistinct (names_mirrored ds defs g.2.mirrors) named.fresh.1;
        params = params_mirrored ds defs g.2.mirrors named.params;
        has_main = (h.0, subst P number h.1, h.2 ∙ f.4);
        distinct = rising_distinct 1 (all_numbers defs) g.0 g.2.rising;
        positive = rising_above 1 (all_numbers defs) g.0 g.2.rising;
      };
      formed = g.2.formed;
    })

sized_good : (how : Linearity) (t : TypedTree) → GoodTree Two how t → WhenOk (λ u. IsProgramBy (IsLinearBy how) u.defs u.main) (sized t)
sized_good how t g =
    when_no_fault (size_fault 1000000 Weight (weights t.defs)) _ (λ light.
    when_no_fault (size_fault 200 Depth (depths t.defs)) _ (λ shallow.
    when_ok t (record {
      typed = g.source.typed;
      functions = g.source.functions;
      params = g.source.params;
      has_main = g.source.has_main;
      positive = g.source.positive;
      formed = g.formed refl;
      light = sizes_kept 1000000 Weight (weights t.defs) light;
      shallow = sizes_kept 200 Depth (depths t.defs) shallow;
    })))

none_good : (edition : Edition) (how : Linearity) → GoodDefs edition how [] [] [] 1
none_good edition how = record {
  mirrors = tt;
  typed = tt;
  rising = omega arith;
  within = All-nil (λ c. IsWithin c.value);
  linear = tt;
  formed = λ _. All-nil (λ d. HasNoForm d.body);
  held = λ k d e. cc;
}

module _ (edition : Edition) (how : Linearity) (items : List RawItemTree) (s : IsSpelledProgram edition items) where
  walked_named : WhenOk (λ _. DefsDiffer edition [] (functions_of items)) (walk_items edition how (functions_of items) [] [] [] 1 items)
  walked_named = items_named edition how (functions_of items) [] [] [] 1 items (λ _. refl) s

  -- what follows from what holds before the functions are measured
  checked_good : {Q : TypedTree → Type 0} → ((t : TypedTree) → GoodTree edition how t → WhenOk Q (by_edition edition (sized t) (Ok t))) →
      WhenOk Q (checked edition how items)
  checked_good more =
      when_bind (walk_items edition how (functions_of items) [] [] [] 1 items) _
      (when_both (walk_items edition how (functions_of items) [] [] [] 1 items) (walk_items_good edition how [] [] [] 1 items s (none_good edition how))
      walked_named)
      (λ defs g.
      when_bind (with_main defs (main_from 0 (functions_of items))) _
      (with_main_good edition how (functions_of items) defs (main_from 0 (functions_of items)) refl g.0 g.1) more)

pub rules_keep_types : RulesKeepTypes
rules_keep_types how items t s e = when_is (checked Two how items) t (checked_good Two how items s (sized_good how)) e

pub rules_keep_sources : RulesKeepSources
rules_keep_sources how items t s e = when_is (checked Three how items) t (checked_good Three how items s (λ u g. when_ok u g.source)) e

pub rules_keep_names : RulesKeepNames
rules_keep_names how items t s e =
    when_is (checked Two how items) t (when_bind (walk_items Two how (functions_of items) [] [] [] 1 items) _ (walked_named Two how items s) (λ defs h.
    when_any _ (program_named (functions_of items) h))) e

-- the same of functions that are walked, as the code has them
module _ (how : Linearity) (items : List RawItemTree) (defs : List DefTree) where
  pub is_program : IsSpelledProgram Two items → (m : ℕ) → walk_items Two how (functions_of items) [] [] [] 1 items ≡ Ok defs →
      main_from 0 (functions_of items) ≡ Some m → size_fault 1000000 Weight (weights defs) ≡ None → size_fault 200 Depth (depths defs) ≡ None →
      IsProgramBy (IsLinearBy how) defs m
  is_program s m w e light shallow = rules_keep_types how items (record { defs = defs; main = m }) s (rw (w, e, light, shallow) refl)

  pub is_source : IsSpelledProgram Three items → (m : ℕ) → walk_items Three how (functions_of items) [] [] [] 1 items ≡ Ok defs →
      main_from 0 (functions_of items) ≡ Some m → IsSourceBy how defs m
  is_source s m w e = rules_keep_sources how items (record { defs = defs; main = m }) s (rw (w, e) refl)

  pub is_named : IsSpelledProgram Two items → walk_items Two how (functions_of items) [] [] [] 1 items ≡ Ok defs → IsDistinctlyNamed (functions_of items)
  is_named s w = program_named (functions_of items) (when_is (walk_items Two how (functions_of items) [] [] [] 1 items) defs (walked_named Two how items s) w)
