-- The functions of a program and their lowered forms allow the same outcomes.
use Rattle.std.proofs.Common.{◌≡◌, ℕ, zero, suc, ◌<◌, ◌==◌, Bool, true, false, Some, List, [], ◌∷◌, ◌++◌, length, map, reverse, slice_get, MatchBool, All, refl, sym, ap, ◌∙◌, subst, arith, length-append}
use Rattle.std.proofs.lemmas.Bool.{eqb-true, eq-eqb}
use Rattle.std.proofs.lemmas.List.{reverse-append, map-append, length-map}
use Rattle.std.proofs.lemmas.List.Elements.{All-head, All-tail}
use Rattle.std.proofs.lemmas.List.Sorted.{IsPermutation-reverse, All-permutation}
use Rattle.cf_tree.specs.declared.base.Base.{Base}
use Rattle.cf_tree.specs.Allowed.{AllowedIn, AllowedCall}
use Rattle.cf_tree.specs.DefView.{DefTree}
use Rattle.cf_tree.specs.ExprTree.{ExprTree}
use Rattle.cf_tree.specs.Values.{Value, Outcome, HaveBases}
use Rattle.cf_program.specs.Lowered.{lowered, lowered_def}
use Rattle.cf_program.specs.NoForm.{HasNoForm}
use Rattle.cf_tree.specs.Params.{bases_of}
use Rattle.cf_program.specs.TypedProgram.{Takes}
use Rattle.cf_program.proofs.PlainTypes.{AreTypedDefs}
use Rattle.cf_match.specs.Laws.{bodies, LoweringKeepsOutcomes}
use Rattle.cf_match.proofs.LoweredLaws.{agrees}
use Rattle.cf_match.proofs.Outcomes.{Agree}

-- ---- what a function takes
pick_then : (X Y : Type 0) (b : Bool) → b ≡ true → X → MatchBool b X Y
pick_then X Y true e x = x
pick_then X Y false e x = cc

pick_else : (X Y : Type 0) (b : Bool) → b ≡ false → Y → MatchBool b X Y
pick_else X Y true e y = cc
pick_else X Y false e y = y

still_apart : (k n m : ℕ) → m ≡ suc n → (k == n) ≡ false → (suc k == m) ≡ false
still_apart k n m e h = by (suc k == m) refl
  where
    by : (b : Bool) → (suc k == m) ≡ b → b ≡ false
    by false q = refl
    by true q =
        let same : suc k ≡ m = eqb-true (suc k) m q in
        let back : (k == n) ≡ true = eq-eqb k n (omega arith) in
        cc

apart : (m n : ℕ) → m < n → (m == n) ≡ false
apart m n h = grind arith

takes_later : (es : List DefTree) (d : DefTree) (k : ℕ) (ps rs : List Base) → Takes es k ps rs → Takes (es ++ d ∷ []) (suc k) ps rs
takes_later [] d k ps rs h = absurd h
takes_later (e ∷ es) d k ps rs h = by (k == length es) refl (takes_later es d k ps rs) h
  where
    longer : length (es ++ d ∷ []) ≡ suc (length es)
    longer = omega (arith, length-append es (d ∷ []))

    by : (b : Bool) → (k == length es) ≡ b → (Takes es k ps rs → Takes (es ++ d ∷ []) (suc k) ps rs) → MatchBool b ((ps ≡ bases_of e.params)
        × (rs ≡ e.results)) (Takes es k ps rs) → MatchBool (suc k == length (es ++ d ∷ [])) ((ps ≡ bases_of e.params)
        × (rs ≡ e.results)) (Takes (es ++ d ∷ []) (suc k) ps rs)
    by true q rest g =
        let same : k ≡ length es = eqb-true k (length es) q in
        pick_then _ _ (suc k == length (es ++ d ∷ [])) (eq-eqb (suc k) (length (es ++ d ∷ [])) (omega (arith, longer))) g
    by false q rest g = pick_else _ _ (suc k == length (es ++ d ∷ [])) (still_apart k (length es) (length (es ++ d ∷ [])) longer q) (rest g)

takes_first : (es : List DefTree) (d : DefTree) → Takes (es ++ d ∷ []) 0 (bases_of d.params) d.results
takes_first [] d = (refl, refl)
takes_first (e ∷ es) d = pick_else _ _ (0 == length (es ++ d ∷ [])) (apart 0 (length (es ++ d ∷ [])) (omega (
  arith,
  length-append es (d ∷ []),
))) (takes_first es d)

pub takes_at : (ds : List DefTree) (k : ℕ) (d : DefTree) → slice_get ds k ≡ Some d → Takes (reverse ds) k (bases_of d.params) d.results
takes_at [] k d e = cc
takes_at (c ∷ ds) zero d e = let same : c ≡ d = cc in rw (reverse-append (c ∷ []) ds, ← same) (takes_first (reverse ds) c)
takes_at (c ∷ ds) (suc k) d e = rw (reverse-append (c ∷ []) ds) (takes_later (reverse ds) c k (bases_of d.params) d.results (takes_at ds k d e))

-- ---- what a call allows
abbrev lows : List DefTree → List ExprTree
lows ds = map lowered (bodies ds)

pub one_test : (f n m : ℕ) (b : Bool) → n ≡ m → (f == n) ≡ b → (f == m) ≡ b
one_test f n m b e h = subst (λ k. (f == k) ≡ b) e h

on_either : (rs : List Base) (o : Outcome) (X Y : Type 0) (a : Bool) (X' Y' : Type 0) (c b : Bool) → a ≡ b → c ≡ b →
    MatchBool b (Agree rs o X X') (Agree rs o Y Y') → Agree rs o (MatchBool a X Y) (MatchBool c X' Y')
on_either rs o X Y a X' Y' c true e g h = rw (e, g) h
on_either rs o X Y a X' Y' c false e g h = rw (e, g) h

-- ---- functions without the forms of `HasNoForm`
abbrev pub IsFormed : DefTree → Type 0
IsFormed d = HasNoForm d.body

abbrev pub AreFormed : List DefTree → Type 0
AreFormed ds = All IsFormed ds

pub turned_formed : (ds : List DefTree) → AreFormed ds → AreFormed (reverse ds)
turned_formed ds h = All-permutation IsFormed ds (reverse ds) (IsPermutation-reverse ds) h

calls_agree : (earlier : List DefTree) → AreTypedDefs earlier → AreFormed earlier → (f : ℕ) (ps rs : List Base) → Takes earlier f ps rs → (xs : List Value) →
    HaveBases ps xs →
    (o : Outcome) →
    Agree rs o (AllowedCall (bodies earlier) f xs o) (AllowedCall (lows earlier) f xs o)
calls_agree [] t p f ps rs h xs v o = absurd h
calls_agree (d ∷ earlier) t p f ps rs h xs v o =
    by (f == length earlier) refl h
    (λ e. agrees (Takes earlier) (AllowedCall (bodies earlier)) (AllowedCall (lows earlier)) (calls_agree earlier t.1 (All-tail IsFormed d earlier p)) d.body
    (bases_of d.params) d.results (All-head IsFormed d earlier p) t.0.1 xs
    (subst (λ qs. HaveBases qs xs) e v) o)
    (λ g. calls_agree earlier t.1 (All-tail IsFormed d earlier p) f ps rs g xs v o)
  where
    by : (b : Bool) → (f == length earlier) ≡ b → MatchBool b ((ps ≡ bases_of d.params) × (rs ≡ d.results)) (Takes earlier f ps rs) →
        (ps ≡ bases_of d.params → Agree d.results o (AllowedIn (AllowedCall (bodies earlier)) d.body xs o) (AllowedIn (AllowedCall (lows earlier)) (lowered
        d.body) xs o)) →
        (Takes earlier f ps rs → Agree rs o (AllowedCall (bodies earlier) f xs o) (AllowedCall (lows earlier) f xs o)) →
        Agree rs o (AllowedCall (bodies (d ∷ earlier)) f xs o) (AllowedCall (lows (d ∷ earlier)) f xs o)
    by true e g new old =
        on_either rs o _ _ (f == length (bodies earlier)) _ _ (f == length (lows earlier)) true (one_test f (length earlier) (length (bodies earlier)) true
        (sym (length-map earlier (λ d. d.body))) e)
        (one_test f (length earlier) (length (lows earlier)) true (sym (length-map (bodies earlier) lowered ∙ length-map earlier (λ d. d.body))) e)
        (rw g.1 (new g.0))
    by false e g new old =
        on_either rs o _ _ (f == length (bodies earlier)) _ _ (f == length (lows earlier)) false (one_test f (length earlier) (length (bodies earlier))
        false (sym (length-map earlier (λ d. d.body))) e)
        (one_test f (length earlier) (length (lows earlier)) false (sym (length-map (bodies earlier) lowered ∙ length-map earlier (λ d. d.body))) e)
        (old g)

pub bodies_turned : (ds : List DefTree) → bodies (reverse ds) ≡ reverse (bodies ds)
bodies_turned [] = refl
bodies_turned (d ∷ ds) =
    rw (reverse-append (d ∷ []) ds, reverse-append (d.body ∷ []) (bodies ds), map-append (λ d. d.body) (reverse ds) (d ∷ []), bodies_turned ds) refl

lowered_turned : (es : List ExprTree) → map lowered (reverse es) ≡ reverse (map lowered es)
lowered_turned [] = refl
lowered_turned (e ∷ es) =
    rw (reverse-append (e ∷ []) es, reverse-append (lowered e ∷ []) (map lowered es), map-append lowered (reverse es) (e ∷ []), lowered_turned es) refl

bodies_lowered : (ds : List DefTree) → map lowered (bodies ds) ≡ bodies (map lowered_def ds)
bodies_lowered [] = refl
bodies_lowered (d ∷ ds) = ap (λ es. lowered d.body ∷ es) (bodies_lowered ds)

pub lowering_keeps_outcomes : LoweringKeepsOutcomes
lowering_keeps_outcomes defs main t f d e env v o =
    let a = calls_agree (reverse defs) t.typed (turned_formed defs t.formed) f (bases_of d.params) d.results (takes_at defs f d e) env v o in
    let before : bodies (reverse defs) ≡ reverse (bodies defs) = bodies_turned defs in
    let after : lows (reverse defs) ≡ reverse (bodies (map lowered_def defs)) =
    ap (λ es. map lowered es) before ∙ lowered_turned (bodies defs) ∙ ap (λ es. reverse es) (bodies_lowered defs) in
    let P : List ExprTree → Type 0 = λ es. AllowedCall es f env o in
    ((λ x. subst P after (a.forth (subst P (sym before) x))), λ y. subst P before (a.back (subst P (sym after) y)))
