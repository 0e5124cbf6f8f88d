-- The machine value of a `Held`, and what it owns. Assumes `Logic`.
use Rattle.std.proofs.Common.{◌≡◌, ◌∙◌, ℕ, Bool, true, false, List, [], ◌∷◌, ◌++◌, refl, Option, lit<}
use seplogic.Ra.Ura.{Ura}
use mir.Val.{Val, vbool, vstruct, vcons, vnil, of_list, has_ty}
use base.Logic.{via, id⊢, never, never_e}
use base.Fml.{ftrue, ffalse}
use types.Logic.{Logic}
use types.Kit.{Item, Goal, Seq, Step, step, ‵, given, ◌$◌, move, drop, learn, use1, fsplit, fjoin, fpick, fpack, feq_i, feq_l}
use denote.RattleType.{RattleType, Valss}
use denote.RawPtr.{Ptr, block_ptr, null_ptr, ptr_val}
use denote.Steps.{nothing}
use denote.Param.{layout}
use denote.Struct.Struct.{within}
use denote.Struct.Owning.{shape, fields, to}
use Rattle.std.proofs.alloc.Calls.{handle_tells}
use Rattle.std.proofs.cell.Inside.{Good}
use Rattle.std_alloc.proofs.ResultValues.{and_tt}
use Rattle.std.specs.Global.{Global}
use Rattle.std.specs.contracts.alloc.Global as heap
use Rattle.cf_lines.specs.Kept.{keeps}
use Rattle.cf_lines.specs.contracts.held.Held as held
use Rattle.cf_answer.specs.contracts.answerer.Replier as replier
use Rattle.cf_lines.proofs.AsBox.{E, Held}

abbrev pub word : Bool → Ptr → Val → Val
word is_open at h = vstruct (vcons (ptr_val at) (vcons (vbool is_open) (vcons h vnil)))

-- a handle of the heap
abbrev pub Fits : Val → Type 0
Fits h = Good (layout heap.the_row) h

pub typed : (is_open : Bool) (at : Ptr) (h : Val) → Fits h → Good (layout Held) (word is_open at h)
typed is_open null_ptr h fits = (and_tt (has_ty (layout heap.the_row) h) fits.0, (record { fits = lit< tt }, (tt, (fits.1, tt))))
typed is_open (block_ptr b o) h fits = (and_tt (has_ty (layout heap.the_row) h) fits.0, (tt, (tt, (fits.1, tt))))

module _ {M : Type 1} {𝓤 : Ura M} {𝓛 : Logic 𝓤} {K : Type 0} {Γ : List (Item 𝓤)} {G : Goal 𝓤 𝓛.H} where
  pub held_out : K → (d : Held.Denot) (vs : List Val)
      → ((h : Val) → vs ≡ word d.is_open d.at h ∷ [] → Fits h
      → Seq K 𝓛 (‵ (keeps d.alloc d.is_open d.at d.kept) ∷ ‵ (heap.the_row.own_val d.alloc (h ∷ [])) ∷ Γ) G)
      → Seq K 𝓛 (‵ (Held.own_val d vs) ∷ Γ) G
  held_out t d vs k =
      fsplit t $ fpick t (λ vss. fsplit t $ feq_l t (λ ev. fsplit t $ feq_l t (λ ep. fsplit t $ feq_l t (λ eb. fsplit t $
      handle_tells E.al t d.alloc vss.1.1.0 (λ h ea fits. move t (1 ∷ []) $ drop t $ move t (1 ∷ []) $
      k h (ev ∙ (λ j. vstruct (of_list (ep j ++ (eb j ++ (ea j ++ [])))) ∷ [])) fits)))))

  pub held_in : K → (at : Ptr) (is_open : Bool) (a : Global) (kept : Option replier.the_row.Denot) (h : Val)
      → Step K 𝓛 (‵ (Held.own_val (record { at = at; is_open = is_open; alloc = a; kept = kept }) (word is_open at h ∷ [])) ∷ Γ) G
      (‵ (keeps a is_open at kept) ∷ ‵ (heap.the_row.own_val a (h ∷ [])) ∷ Γ) G
  held_in t at is_open a kept h = step (λ s. let v : Val = word is_open at h in
      let d : Held.Denot = record { at = at; is_open = is_open; alloc = a; kept = kept } in
      nothing t $ move t (2 ∷ 0 ∷ []) $ fjoin t $ feq_i t (List Val) (vbool is_open ∷ []) (vbool is_open ∷ []) refl $ fjoin t $
      feq_i t (List Val) (ptr_val at ∷ []) (ptr_val at ∷ []) refl $ fjoin t $ feq_i t (List Val) (v ∷ []) (v ∷ []) refl $ fjoin t $
      fpack t (Valss (fields held.the_type)) (within (shape held.the_type) (to held.the_type d) (v ∷ []))
      (ptr_val at ∷ [], (vbool is_open ∷ [], (h ∷ [], tt))) $ fjoin t $ s)

  -- what is open owns a box, and what is closed owns none
  pub wrong : K → Seq K 𝓛 (‵ ffalse ∷ Γ) G
  wrong t = use1 𝓛 (given ⊥ (‵ ftrue)) (via 𝓤 (never 𝓤) (id⊢ 𝓤 _) (never_e 𝓤 _)) $ learn t (λ z. absurd z)
