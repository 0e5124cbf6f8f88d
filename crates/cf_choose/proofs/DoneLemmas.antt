-- A case that is done: its parts have a spelling, and its arm is that of the definitions.
use Rattle.std.proofs.Common.{◌≡◌, ℕ, ◌+◌, ◌*◌, ◌^◌, ◌<◌, ◌≤◌, ℤ, List, [], ◌∷◌, ◌++◌, map, length, reverse, sym, ap, subst, arith, ◌∙◌}
use Rattle.std.proofs.lemmas.List.{length-map, reverse-append}
use Rattle.cf_tree.specs.declared.code.Arm.{Arm}
use Rattle.cf_tree.specs.CodeView.{arm_tree}
use Rattle.cf_linear.specs.declared.refusal.TheConstants.{MOST_SETS}
use Rattle.cf_linear.specs.declared.system.Layout.{Layout}
use Rattle.cf_linear.specs.declared.system.System.{System as DeclaredSystem}
use Rattle.cf_linear.specs.Arm.{arm}
use Rattle.cf_linear.specs.Layout.{set_count, first_free}
use Rattle.cf_linear.specs.Systems.{System, Answer, Step, floor_of, need_nonneg, need_zero, need_divides, How, row_how, greatest, least}
use Rattle.cf_linear.specs.Rows.{Row}
use Rattle.cf_linear.specs.Views.{plain_layout, system_of, step_of, back_of, bound_of}
use Rattle.cf_elim.specs.declared.solved.CaseParts.{CaseParts}
use Rattle.cf_elim.specs.Cases.{IsSolvedCase}
use Rattle.cf_elim.specs.Returning.{PairsDivide, HowDivides, BackDivides, StepDivides, StepsDivide}
use Rattle.cf_choose.specs.CaseArms.{PairsWritten, HowWritten, BackWritten, StepWritten, StepsWritten}
use Rattle.cf_choose.specs.Eliminations.{IsEliminated, HasRoom, made, first_of, IsArmFor}
use Rattle.cf_choose.specs.Fitting.{PairsFit, HowFits}
use Rattle.cf_choose.specs.ArmBuilders.{answer_of, BackFits, StepFits, StepsFit}
use Rattle.cf_choose.proofs.MadeArms.{arm_same}
use Rattle.cf_cases.proofs.FirstSystemLaws.{pow_small}

pairs_written : (bs : List (Row × ℤ)) → PairsFit bs → PairsDivide bs → PairsWritten bs
pairs_written [] f d = tt
pairs_written ((r, k) ∷ bs) f d = (f.0.0, (d.0, f.0.1 d.0), pairs_written bs f.1 d.1)

how_written : (w : How) → HowFits w → HowDivides w → HowWritten w
how_written (row_how r) f d = f
how_written (greatest bs) f d = pairs_written bs f d
how_written (least bs) f d = pairs_written bs f d

back_written : (ws : List (ℕ × How)) → BackFits ws → BackDivides ws → BackWritten ws
back_written [] f d = tt
back_written ((x, w) ∷ ws) f d = (how_written w f.0 d.0, back_written ws f.1 d.1)

step_written : (m : Step) → StepFits m → StepDivides m → StepWritten m
step_written (floor_of c r g) f d = (f.0, (d, f.1 d))
step_written (need_nonneg r) f d = f
step_written (need_zero r) f d = f
step_written (need_divides g r) f d = (f.0, (d, f.1 d))

steps_written : (ms : List Step) → StepsFit ms → StepsDivide ms → StepsWritten ms
steps_written [] f d = tt
steps_written (m ∷ ms) f d = (step_written m f.0 d.0, steps_written ms f.1 d.1)

same_length : {A B : Type 0} (f : A → B) (xs : List A) (ys : List B) → map f xs ≡ ys → length ys ≡ length xs
same_length f xs ys e = sym (ap length e) ∙ length-map xs f

eliminated : (p : CaseParts) → IsSolvedCase p → IsEliminated (first_of p) (made (first_of p))
eliminated p i = subst (IsEliminated (first_of p)) i.made (record {
  solved = i.solves;
  owes = i.owes;
  comes = i.returns.comes;
  done = i.done;
  steps =
      i.returns.steps;
  back = i.returns.back;
  bounds = i.bounds;
})

-- ---- levels and columns of 32 bits
module _ (lay : Layout) (p : CaseParts) (few : set_count (plain_layout lay) ≤ MOST_SETS) (room : HasRoom lay p) where
  pub free_fits : first_free (plain_layout lay) < 2 ^ 32
  free_fits =
      let n = room.numbers in
      let o = room.outputs in
      omega (arith, pow_small (length lay.inputs.items) (omega arith), pow_small (set_count (plain_layout lay)) few)

  pub regions_fit : lay.scope + length p.bounds.items + 2 * 2 ^ length lay.inputs.items < 2 ^ 32
  regions_fit =
      let s = room.scope in
      let b = room.bounds in
      omega (arith, pow_small (length lay.inputs.items) (omega arith))

  pub outputs_fit : lay.scope + (length lay.out_numbers.items + length lay.out_sets.items) < 2 ^ 32
  outputs_fit = let s = room.scope in let o = room.outputs in omega arith

pub arm_for : (lay : Layout) (p : CaseParts) (a : Arm) → set_count (plain_layout lay) ≤ MOST_SETS → IsSolvedCase p → HasRoom lay p →
    StepsFit (map step_of p.steps.items) → BackFits (map back_of p.back.items) →
    arm_tree a ≡ arm (plain_layout lay) (answer_of p.bounds.items p.steps.items p.back.items) → IsArmFor (plain_layout lay) p a
arm_for lay p a few i room f g e =
    let all : Answer = made (first_of p) in
    let steps : map step_of p.steps.items ≡ all.steps = ap (λ a. a.steps) i.made in
    let back : map back_of p.back.items ≡ all.back = ap (λ a. a.back) i.made in
    let bounds : map bound_of p.bounds.items ≡ all.bounds = ap (λ a. a.bounds) i.made in
    let whole = eliminated p i in
    let s = room.scope in
    let b = room.bounds in
    let t = room.steps in
    let k = room.back in
    let lb = same_length bound_of p.bounds.items all.bounds bounds in
    let lm = same_length step_of p.steps.items all.steps steps in
    let lw = same_length back_of p.back.items all.back back in
    record {
      done = record {
        ends = i.ends;
        eliminated = whole;
        writable = record {
          steps = steps_written all.steps (subst StepsFit steps f) whole.steps;
          back = back_written all.back (subst BackFits back g) whole.back;
          bounds = whole.bounds;
        };
        few = omega (arith, pow_small (length lay.inputs.items) (omega arith));
      };
      traced = record { steps = steps; bounds = bounds };
      tree = e ∙ arm_same (plain_layout lay) (answer_of p.bounds.items p.steps.items p.back.items) all steps back bounds;
    }

-- the systems that are left, last first
abbrev pub rest_of : List DeclaredSystem → List System
rest_of left = map system_of (reverse left)

pub rest_more : (left : List DeclaredSystem) (x : DeclaredSystem) → rest_of (left ++ (x ∷ [])) ≡ system_of x ∷ rest_of left
rest_more left x = ap (map system_of) (reverse-append left (x ∷ []))
