-- The lowered functions of a typed program are a typed program.
use Rattle.std.proofs.Common.{◌≡◌, ℕ, zero, suc, ◌≤◌, ◌==◌, Bool, true, false, Some, List, [], ◌∷◌, ◌++◌, length, map, reverse, slice_get, slice_index, All, MatchBool, refl, sym, ap, ◌∙◌, subst}
use Rattle.std.proofs.lemmas.List.{reverse-append, map-append, length-map}
use Rattle.std.proofs.lemmas.List.Elements.{All-nil, All-cons, All-head, All-tail, All-map}
use Rattle.cf_tree.specs.declared.base.Base.{Base}
use Rattle.cf_tree.specs.DefView.{DefTree}
use Rattle.cf_tree.specs.ExprTree.{ExprTree}
use Rattle.cf_program.specs.DistinctNames.{AreDistinct}
use Rattle.cf_program.specs.Lowered.{lowered, lowered_def}
use Rattle.cf_tree.specs.Params.{bases_of, names_of}
use Rattle.cf_program.specs.Size.{weight_in, depth_in, measured}
use Rattle.cf_program.specs.TypedProgram.{numbers, all_numbers, Takes}
use Rattle.cf_program.proofs.PlainTypes.{AreTypedDefs}
use Rattle.cf_match.specs.Laws.{LoweringKeepsTypes, LoweringLeavesNoMatch}
use Rattle.cf_program.specs.NoMatch.{HasNoMatch}
use Rattle.cf_match.proofs.NoFormLaws.{lowered_formed}
use Rattle.cf_match.proofs.NoMatchLaws.{lowered_none, lowered_again}
use Rattle.cf_match.proofs.NumberLaws.{times, pairs, lowered_numbers, positive_none, none_positive}
use Rattle.cf_match.proofs.ProgramLaws.{IsFormed, AreFormed, turned_formed}
use Rattle.cf_match.proofs.TypedLaws.{lowered_typed}

same_test : (a c : Bool) (X Y Z : Type 0) → a ≡ c → (Y → Z) → MatchBool a X Y → MatchBool c X Z
same_test true true X Y Z e f h = h
same_test true false X Y Z e f h = absurd (cc)
same_test false true X Y Z e f h = absurd (cc)
same_test false false X Y Z e f h = f h

takes_lowered : (earlier : List DefTree) (f : ℕ) (ps rs : List Base) → Takes earlier f ps rs → Takes (map lowered_def earlier) f ps rs
takes_lowered [] f ps rs h = absurd h
takes_lowered (d ∷ earlier) f ps rs h =
    same_test (f == length earlier) (f == length (map lowered_def earlier)) _ _ _ (ap (λ n. f == n) (sym (length-map earlier lowered_def))) (takes_lowered
    earlier f ps rs) h

defs_typed : (earlier : List DefTree) → AreTypedDefs earlier → AreFormed earlier → AreTypedDefs (map lowered_def earlier)
defs_typed [] h p = tt
defs_typed (d ∷ earlier) h p = (
  (
    h.0.0,
    lowered_typed (Takes earlier) (Takes (map lowered_def earlier)) (takes_lowered earlier) d.body (bases_of d.params) d.results
        (All-head IsFormed d earlier p) h.0.1,
  ),
  defs_typed earlier h.1 (All-tail IsFormed d earlier p),
)

defs_turned : (ds : List DefTree) → map lowered_def (reverse ds) ≡ reverse (map lowered_def ds)
defs_turned [] = refl
defs_turned (d ∷ ds) =
    rw (reverse-append (d ∷ []) ds, reverse-append (lowered_def d ∷ []) (map lowered_def ds), map-append lowered_def (reverse ds) (d ∷ []), defs_turned ds) refl

same_names : (ds : List DefTree) → map (λ d. d.name) (map lowered_def ds) ≡ map (λ d. d.name) ds
same_names [] = refl
same_names (d ∷ ds) = ap (λ ns. d.name ∷ ns) (same_names ds)

main_kept : (ds : List DefTree) (k : ℕ) (d : DefTree) → slice_get ds k ≡ Some d → slice_get (map lowered_def ds) k ≡ Some (lowered_def d)
main_kept [] k d e = cc
main_kept (c ∷ ds) zero d e = let same : c ≡ d = cc in ap (λ x. Some (lowered_def x)) same
main_kept (c ∷ ds) (suc k) d e = main_kept ds k d e

defs_formed : (ds : List DefTree) → AreFormed ds → AreFormed (map lowered_def ds)
defs_formed [] h = All-nil IsFormed
defs_formed (d ∷ ds) h =
    All-cons IsFormed (lowered_def d) (map lowered_def ds) (lowered_formed d.body (All-head IsFormed d ds h)) (defs_formed ds (All-tail IsFormed d ds h))

all_times : (k : ℕ) (ds : List DefTree) → times k (all_numbers (map lowered_def ds)) ≡ times k (all_numbers ds)
all_times k [] = refl
all_times k (d ∷ ds) =
    pairs k (numbers d.body) (all_numbers ds) (numbers (lowered d.body)) (all_numbers (map lowered_def ds)) (lowered_numbers k d.body) (all_times k ds)

measured_same : (measure : (ℕ → ℕ) → ExprTree → ℕ) (known : List ℕ) (ds : List DefTree) →
    measured measure known (map lowered_def ds) ≡ measured measure known ds
measured_same measure known [] = refl
measured_same measure known (d ∷ ds) =
    let n = measure (λ f. slice_index known f) (lowered d.body) in
    ap (λ e. measure (λ f. slice_index known f) e ∷ measured measure (known ++ measure (λ f. slice_index known f) e ∷ []) (map lowered_def ds))
    (lowered_again d.body)
    ∙ ap (λ ns. n ∷ ns) (measured_same measure (known ++ n ∷ []) ds)

pub lowering_keeps_types : LoweringKeepsTypes
lowering_keeps_types defs main t = record {
  typed = subst AreTypedDefs (defs_turned defs) (defs_typed (reverse defs) t.typed (turned_formed defs t.formed));
  functions = subst AreDistinct (sym (same_names defs)) t.functions;
  params = All-map (λ d. AreDistinct (names_of d.params)) lowered_def defs t.params;
  has_main = (lowered_def t.has_main.0, main_kept defs main t.has_main.0 t.has_main.1, t.has_main.2);
  positive = none_positive (all_numbers (map lowered_def defs)) (all_times 0 defs ∙ positive_none (all_numbers defs) t.positive);
  formed = defs_formed defs t.formed;
  light = subst (λ ns. All (λ n. n ≤ 1000000) ns) (sym (measured_same weight_in [] defs)) t.light;
  shallow = subst (λ ns. All (λ n. n ≤ 200) ns) (sym (measured_same depth_in [] defs)) t.shallow;
}

pub lowering_leaves_no_match : LoweringLeavesNoMatch
lowering_leaves_no_match [] = All-nil (λ d. HasNoMatch d.body)
lowering_leaves_no_match (d ∷ ds) = All-cons (λ d. HasNoMatch d.body) (lowered_def d) (map lowered_def ds) (lowered_none d.body) (lowering_leaves_no_match ds)
