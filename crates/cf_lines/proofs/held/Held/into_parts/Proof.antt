-- `into_parts` moves two fields where the box is there, and what they own goes with them.
use Rattle.std.proofs.Common.{List, [], ◌∷◌, ◌++◌, refl, sym, ap, ◌∙◌, subst, true, false, Bool, Option, Some, None, lit<}
use seplogic.Ra.Ura.{Ura}
use mir.Raw.{raw as bare}
use mir.Val.{Val, vcons, vnil}
use base.Logic.{SProp, ent, emp, id⊢, never, fst∗}
use base.Fml.{ftrue, fsep}
use prog.Memory.{Memory}
use prog.Routine.{Routine}
use prog.Wp.{WpFn, Tables}
use types.Logic.{Logic, sem}
use contract.Monad.{Fun}
use contract.Running.{tables, tables_of}
use sound.WpLaws.{WpFn-mono}
use types.Kit.{Item, ‵, raw, ◌⊛◌, at_ret, ◌$◌, ◌∵◌, !, qed, by, move, drop, use0, use1, join, split, fsplit, fjoin, suffices, done}
use types.Part.{whole, sub, agg}
use types.Run.{stop, fld, lit, no_more, and_then, of_opd, first, branches, skips, exec, returns, returns_within, enter}
use types.ByLocal.{alloc_all, pass_all, free_all, look_at, get, get_in, sets, env}
use types.Match.{live}
use denote.Exit.{yes}
use denote.RattleType.{RattleType}
use denote.Param.{layout}
use denote.RawPtr.{Ptr, block_ptr, null_ptr, ptr_val, in_a_block, rawptr_Lawful}
use denote.Signature.{type_at}
use denote.Steps.{nothing}
use denote.Triple.Spec.{triple_of}
use denote.Triple.Statement.{Contract}
use denote.Triple.Table.{entered}
use denote.Triple.Walked.{says, Stays, stay_dropped, walk_of, ends_at, Goes-dropped, walk_Meets}
use Rattle.std.proofs.cell.Inside.{Good}
use Rattle.std.proofs.option.Made.{Some-of, none_of}
use Rattle.std.specs.Global.{Global}
use Rattle.std.specs.contracts.alloc.Global as heap
use Rattle.std.specs.contracts.impls.GlobalAllocator.TheImpl.{ghosts}
use Rattle.std_alloc.specs.Box.Ownership.{box_owns}
use Rattle.std_alloc.proofs.BoxSteps.Form.{D, box_typed}
use Rattle.std_alloc.proofs.BoxSteps.Form as box
use Rattle.std_alloc.proofs.BoxSteps.Steps.{box_in}
use Rattle.std_alloc.proofs.ResultValues.{and_tt}
use Rattle.cf_answer.specs.contracts.answerer.Replier as replier
use Rattle.cf_lines.specs.contracts.parts.Parts as parts
use Rattle.cf_lines.proofs.AsBox.{E, Held, FromHeld as From}
use Rattle.cf_lines.proofs.HeldSteps.{word, typed, held_out, wrong}
use Rattle.cf_lines.specs.contracts.held.Held.into_parts as F
use Rattle.cf_lines.specs.contracts.held.Held.into_parts.Key.{name as #self}
use Rattle.cf_lines.proofs.held.Held.into_parts.Statement as stated
use Rattle.cf_lines.proofs.held.Held.into_parts.Code as code

abbrev stayed : Stays (F.ended).signature.params (F.ended).kept
stayed = (stay_dropped From yes, tt)

abbrev Pt : RattleType
Pt = parts.the_row replier.the_row heap.the_row ghosts

abbrev Out : RattleType
Out = type_at (F.signature).result tt

module _ {M : Type 1} {𝓤 : Ura M} (𝓛 : Logic 𝓤) (at_mem : Memory → SProp 𝓤) (run : Routine → Fun 𝓤) (𝓣 : Tables 𝓤 𝓛.H) where
  open 𝓛 use {H}

  abbrev W : Contract 𝓤
  W = walk_of 𝓛 F.ended stayed (F.clauses 𝓛 at_mem run)

  abbrev held : Ptr → Bool → Global → Option replier.the_row.Denot → Held.Denot
  held at is_open a kept = record { at = at; is_open = is_open; alloc = a; kept = kept }

  abbrev bound : Held.Denot → List Val → W.Ghost
  bound d vs = ((tt, tt, tt, (d, tt), (vs, tt)), tt)

  walk_at : (at : Ptr) (is_open : Bool) (a : Global) (kept : Option replier.the_row.Denot) (vs : List Val)
      → ent 𝓤 (W.pre (bound (held at is_open a kept) vs)) (WpFn 𝓤 H 𝓣.C 𝓣.Λ code.function (vs ++ []) (W.post (bound (held at is_open a kept) vs)))
  walk_at at true a (Some x) vs =
      let d = held at true a (Some x) in let Post = W.post (bound d vs) in
      qed 𝓛 ((‵ ftrue ⊛ ‵ (fsep (Held.own_val d vs) ftrue)) ∷ raw (emp 𝓤) ∷ []) ∵ split ! $ drop ! $ fsplit ! $ held_out ! d vs (λ h ws fits.
      in_a_block ! at (λ p. box_owns (ghosts.dealloc_token a) replier.the_row p x)
      (fst∗ 𝓤 (never 𝓤) (sem 𝓛 (ghosts.dealloc_token a (bare (layout replier.the_row)) null_ptr))) (λ b o e.
      let v : D E = record { ptr = block_ptr b o; alloc = a; value = x } in let w = box.word E h b o in let ok = box_typed E h b o fits in
      let made : Pt.Denot = record { ptr = block_ptr b o; alloc = a; value = x } in let out : Val = live 1 (vcons w vnil) in
      let good : Good (layout Out) out = (and_tt _ ok.0, (record { fits = lit< tt }, (ok.1, tt))) in
      fsplit ! $ box_in E ! v b o x refl refl $ use1 𝓛 (‵ (Pt.own_val made (w ∷ []))) (id⊢ 𝓤 _) $
      use1 𝓛 (‵ (Out.own_val (Some made) (out ∷ []))) (Some-of 𝓛 Pt made w) $ move ! (1 ∷ 2 ∷ []) $ drop ! $ drop ! $
      let Γ : List (Item 𝓤) = ‵ (Out.own_val (Some made) (out ∷ [])) ∷ [] in
      by ! (subst (λ (us : List Val). ent 𝓤 (types.Kit.⋆ 𝓛 Γ) (WpFn 𝓤 H 𝓣.C 𝓣.Λ code.function (us ++ []) Post))
      (sym (ws ∙ ap (λ (p : Ptr). word true p h ∷ []) e))
      (qed 𝓛 Γ ∵ enter ! 𝓣.C 𝓣.Λ code.function (word true (block_ptr b o) h ∷ []) _ $
      alloc_all ! (λ ls. pass_all ! refl (typed true (block_ptr b o) h fits, tt) $
      sets ! (of_opd ! (get_in ! (fld ! refl (stop !)) (sub ! 0 refl (whole !)))) refl (tt, tt) $
      sets ! (of_opd ! (get_in ! (fld ! refl (stop !)) (sub ! 1 refl (whole !)))) refl (tt, tt) $
      sets ! (of_opd ! (get_in ! (fld ! refl (stop !)) (sub ! 2 refl (whole !)))) refl fits $ sets ! (of_opd ! (get ! refl)) refl (tt, tt) $
      first ! $ branches ! (get ! refl)
      (λ _. sets ! (of_opd ! (get ! refl)) refl (tt, tt) $ sets ! (agg ! (and_then ! (get ! refl) (and_then ! (get ! refl) (no_more !)))) refl ok $
      sets ! (agg ! (and_then ! (lit ! tt) (and_then ! (get ! refl) (no_more !)))) refl good $ returns_within ! Post refl (look_at ! 0 refl) $ free_all ! refl $
      suffices ! _ (ends_at 𝓛 F.ended stayed (F.clauses 𝓛 at_mem run) (bound d vs) out (Some made) (tt, tt) (tt, tt)) $ says ! refl $
      nothing ! $ nothing ! $ fjoin ! $ join ! $ nothing ! $ join ! $ done !)
      (λ no. absurd no))))))
  walk_at at false a None vs =
      let d = held at false a None in let Post = W.post (bound d vs) in let out : Val = live 0 vnil in
      qed 𝓛 ((‵ ftrue ⊛ ‵ (fsep (Held.own_val d vs) ftrue)) ∷ raw (emp 𝓤) ∷ []) ∵ split ! $ drop ! $ fsplit ! $ held_out ! d vs (λ h ws fits.
      drop ! $ drop ! $ drop ! $ drop ! $ use0 𝓛 (‵ (Out.own_val None (out ∷ []))) (none_of 𝓛 Pt) $
      let Γ : List (Item 𝓤) = ‵ (Out.own_val None (out ∷ [])) ∷ [] in
      by ! (subst (λ (us : List Val). ent 𝓤 (types.Kit.⋆ 𝓛 Γ) (WpFn 𝓤 H 𝓣.C 𝓣.Λ code.function (us ++ []) Post)) (sym ws)
      (qed 𝓛 Γ ∵ enter ! 𝓣.C 𝓣.Λ code.function (word false at h ∷ []) _ $ alloc_all ! (λ ls. pass_all ! refl (typed false at h fits, tt) $
      sets ! (of_opd ! (get_in ! (fld ! refl (stop !)) (sub ! 0 refl (whole !)))) refl ((rawptr_Lawful 𝓛).typed at (ptr_val at ∷ []) refl).0 $
      sets ! (of_opd ! (get_in ! (fld ! refl (stop !)) (sub ! 1 refl (whole !)))) refl (tt, tt) $
      sets ! (of_opd ! (get_in ! (fld ! refl (stop !)) (sub ! 2 refl (whole !)))) refl fits $ sets ! (of_opd ! (get ! refl)) refl (tt, tt) $
      first ! $ branches ! (get ! refl) (λ yes. absurd yes)
      (λ _. skips ! $ exec ! 𝓣.C 𝓣.Λ (env code.Mir.locals ls) code.Mir.t-6 (at_ret _ Post) $
      sets ! (agg ! (and_then ! (lit ! tt) (no_more !))) refl (tt, (record { fits = lit< tt }, tt)) $ returns ! (look_at ! 0 refl) $ free_all ! refl $
      suffices ! _ (ends_at 𝓛 F.ended stayed (F.clauses 𝓛 at_mem run) (bound d vs) out None (tt, tt) (tt, tt)) $ says ! refl $
      nothing ! $ nothing ! $ fjoin ! $ join ! $ nothing ! $ join ! $ done !)))))
  walk_at at true a None vs =
      let d = held at true a None in
      qed 𝓛 ((‵ ftrue ⊛ ‵ (fsep (Held.own_val d vs) ftrue)) ∷ raw (emp 𝓤) ∷ []) ∵ split ! $ drop ! $ fsplit ! $ held_out ! d vs (λ h ws fits. wrong !)
  walk_at at false a (Some x) vs =
      let d = held at false a (Some x) in
      qed 𝓛 ((‵ ftrue ⊛ ‵ (fsep (Held.own_val d vs) ftrue)) ∷ raw (emp 𝓤) ∷ []) ∵ split ! $ drop ! $ fsplit ! $ held_out ! d vs (λ h ws fits. wrong !)

pub into_parts_spec : {M : Type 1} → stated.statement M
unfolding tables_of
into_parts_spec 𝓤 𝓛 𝓜 𝓡 wired =
    let 𝓣 : Tables 𝓤 𝓛.H = tables_of 𝓤 𝓛.H 𝓜 (tables 𝓤 𝓛.H 𝓜 𝓡 𝓡.env) in
    entered 𝓤 𝓛.H (triple_of 𝓛 F.signature (F.spec 𝓛 𝓜.mem 𝓡.returns)) 𝓣.C 𝓣.Λ #self code.function (code.unfolded 𝓤 𝓛.H 𝓜 𝓡 wired)
    (walk_Meets 𝓛 F.ended stayed (Goes-dropped 𝓛 0 From yes (λ κs x f. refl), tt) (F.clauses 𝓛 𝓜.mem 𝓡.returns) (WpFn 𝓤 𝓛.H 𝓣.C 𝓣.Λ code.function)
    (WpFn-mono 𝓤 𝓛.H 𝓛.laws 𝓣 code.function)
    (λ z. walk_at 𝓛 𝓜.mem 𝓡.returns 𝓣 z.0.3.0.at z.0.3.0.is_open z.0.3.0.alloc z.0.3.0.kept z.0.4.0))
