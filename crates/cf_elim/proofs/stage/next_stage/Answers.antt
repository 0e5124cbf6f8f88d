use Rattle.std.proofs.Common.{◌≡◌, ◌<◌, [], length, true, false, rules, arith}
use Rattle.std.proofs.lemmas.Grind.{common_steps}
use Rattle.std.proofs.lemmas.Result.{on_ok_weaker}
use Rattle.cf_linear.specs.Views.{system_of}
use Rattle.cf_elim.specs.Stages.{state_of}
use Rattle.cf_elim.proofs.ActLaws.{clean_added, rows_added, unknowns_added, end_added}
use Rattle.cf_elim.proofs.NextStageLaws.{next_unclean, stage_rows, stage_unknowns, stage_ends}
use Rattle.cf_elim.proofs.stage.next_stage.Goals as goal

pub returns-then-not-is_past_clean-clause-stage : goal.returns-then-not-is_past_clean-clause-stage
returns-then-not-is_past_clean-clause-stage c =
    let s = c.args.current in
    let b : s.is_past_clean ≡ false = first_of (search rules, grind (arith, common_steps)) in
    next_unclean (system_of s.system) s.tuples s.is_past_clean c.clean_stage.result b c.clean_stage.ensures.stage

pub returns-then-not-is_past_clean-clause-acts : goal.returns-then-not-is_past_clean-clause-acts
returns-then-not-is_past_clean-clause-acts c =
    let s = c.args.current in
    let b : s.is_past_clean ≡ false = first_of (search rules, grind (arith, common_steps)) in
    on_ok_weaker c.clean_stage.result (λ h. clean_added (state_of s) c.args.acts.now.items c.clean_stage.new.acts.items b h) c.clean_stage.ensures.acts

pub returns-then-not-is_empty-clause-stage : goal.returns-then-not-is_empty-clause-stage
returns-then-not-is_empty-clause-stage c =
    let s = c.args.current in
    let b : s.is_past_clean ≡ true = first_of (search rules, grind (arith, common_steps)) in
    stage_rows (system_of s.system) s.tuples s.is_past_clean c.equation_stage.result b c.equation_stage.ensures.stage

pub returns-then-not-is_empty-clause-acts : goal.returns-then-not-is_empty-clause-acts
returns-then-not-is_empty-clause-acts c =
    let s = c.args.current in
    let b : s.is_past_clean ≡ true = first_of (search rules, grind (arith, common_steps)) in
    let some : 0 < length s.system.equations.items = first_of (search rules, grind (arith, common_steps)) in
    on_ok_weaker c.equation_stage.result (λ h. rows_added (state_of s) c.args.acts.now.items c.equation_stage.new.acts.items b some h)
    c.equation_stage.ensures.acts

pub returns-then-is_empty-clause-acts : goal.returns-then-is_empty-clause-acts
returns-then-is_empty-clause-acts c =
    let s = c.args.current in
    let b : s.is_past_clean ≡ true = first_of (search rules, grind (arith, common_steps)) in
    let e : s.system.equations.items ≡ [] = first_of (search rules, grind (arith, common_steps)) in
    let u : s.system.unknown.items ≡ [] = first_of (search rules, grind (arith, common_steps)) in
    end_added (state_of s) c.args.acts.now.items b e u

pub returns-then-is_empty-clause-stage : goal.returns-then-is_empty-clause-stage
returns-then-is_empty-clause-stage c =
    let s = c.args.current in
    let b : s.is_past_clean ≡ true = first_of (search rules, grind (arith, common_steps)) in
    let e : s.system.equations.items ≡ [] = first_of (search rules, grind (arith, common_steps)) in
    let u : s.system.unknown.items ≡ [] = first_of (search rules, grind (arith, common_steps)) in
    stage_ends (system_of s.system) s.tuples s.is_past_clean b e u

pub returns-clause-stage : goal.returns-clause-stage
returns-clause-stage c =
    let s = c.args.current in
    let b : s.is_past_clean ≡ true = first_of (search rules, grind (arith, common_steps)) in
    let e : s.system.equations.items ≡ [] = first_of (search rules, grind (arith, common_steps)) in
    stage_unknowns (system_of s.system) s.tuples s.is_past_clean c.bound_stage.result b e c.bound_stage.ensures.stage

pub returns-clause-acts : goal.returns-clause-acts
returns-clause-acts c =
    let s = c.args.current in
    let b : s.is_past_clean ≡ true = first_of (search rules, grind (arith, common_steps)) in
    let e : s.system.equations.items ≡ [] = first_of (search rules, grind (arith, common_steps)) in
    on_ok_weaker c.bound_stage.result (λ h. unknowns_added (state_of s) c.args.acts.now.items c.bound_stage.new.acts.items b e h) c.bound_stage.ensures.acts
