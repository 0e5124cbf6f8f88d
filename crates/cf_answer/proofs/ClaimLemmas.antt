-- Why `emit smt` refuses a source, and that it refuses none of which something is owed.
use Rattle.std.proofs.Common.{◌≡◌, ◌∙◌, ◌⊎◌, inl, inr, refl, sym, ap, ap₂, subst, true≢false, ℕ, Bool, true, false, List, [], ◌∷◌, map, None, Some}
use Rattle.std.specs.List.{list_all}
use Rattle.std.specs.Prelude.{All, Ok}
use Rattle.std.proofs.lemmas.List.Elements.{All-nil, All-cons, All-head, All-tail}
use Rattle.cf_lex.specs.Editions.{edition_of}
use Rattle.cf_tree.specs.ChooseTree.{ChooseTree}
use Rattle.cf_tree.specs.DefView.{RawItemTree}
use Rattle.cf_tree.specs.declared.base.Edition.{Edition}
use Rattle.cf_parse.specs.Programs.{IsProgram, program_of}
use Rattle.cf_program.specs.Checked.{TypedTree}
use Rattle.cf_program.specs.declared.linearity.Linearity.TheVariants.{Plain}
use Rattle.cf_build.specs.Chooses.{all_chooses, by_number, first_refused, limit_of, refused_or}
use Rattle.cf_build.specs.Solves.{AreSolved}
use Rattle.cf_build.specs.declared.solves.SolvedChoose.{SolvedChoose}
use Rattle.cf_form.specs.Branches.{Branch}
use Rattle.cf_smt.specs.Heads.{head_text}
use Rattle.cf_smt.specs.declared.claims.ClaimFault.{ClaimFault}
use Rattle.cf_smt.specs.declared.claims.ClaimFault.TheVariants.{Sets, NoMemory}
use Rattle.cf_answer.specs.Branches.{AreBranched, in_branches}
use Rattle.cf_answer.specs.Certificates.{asked_in}
use Rattle.cf_answer.specs.Claims.{all_have_forms, AreClaimed, choose_has_form, GoalsWritten, IsClaimFault, with_branches}
use Rattle.cf_answer.specs.Limits.{of_source}
use Rattle.cf_answer.specs.Owed.{AreGoals}
use Rattle.cf_answer.specs.Refusals.{bad_tree, IsBadProgram, IsBadClaims, bad_claims, sets_claimed, IsRefusedClaims, IsRefusedSource}
use Rattle.cf_answer.specs.Sources.{SpellsProgram, IsTypedBy}
use Rattle.cf_answer.specs.Statuses.{fault_status}
use Rattle.cf_answer.specs.Verifying.{told_in, IsToldProgram}
use Rattle.cf_answer.specs.declared.source.ToldProgram.{ToldProgram}
use Rattle.cf_answer.specs.declared.fault.Fault.{Fault}
use Rattle.cf_answer.specs.declared.fault.Fault.TheVariants as fault
use Rattle.cf_answer.proofs.CauseLemmas.{alike, unrefused}
use Rattle.cf_answer.proofs.EmitLemmas.{not_otherwise}
use Rattle.cf_answer.proofs.RuleLemmas.{typed_by_once}
use Rattle.cf_answer.proofs.SourceLemmas.{bad_alike, branched_chooses, one_program, plain_chooses, within_never_bad}
use Rattle.cf_answer.proofs.TextLemmas.{caused_too}

-- a refused source is refused here too
pub claims_refused : (text : List ℕ) (f : Fault) → IsRefusedSource text f ⊎ (f ≡ fault.NoMemory) → IsRefusedClaims text f ⊎ (f ≡ fault.NoMemory)
claims_refused text f (inl h) = inl (caused_too (of_source (edition_of text)) (IsProgram (edition_of text)) (program_of (edition_of text) 200)
    (IsBadProgram (edition_of text)) (IsBadClaims (edition_of text)) (λ x g b. bad_claims g b) text f h)
claims_refused text f (inr memory) = inr memory

-- for faults of one status
bad_claims_alike : (text : List ℕ) (program : List RawItemTree) (f g : Fault) → SpellsProgram text program → IsBadClaims (edition_of text) program f →
    IsBadClaims (edition_of text) program g → fault_status f ≡ fault_status g
bad_claims_alike text program f g s (bad_claims h a) (bad_claims i b) = bad_alike text program h i s a b
bad_claims_alike text program f g s (bad_claims h a) (sets_claimed typed is none sets) =
    absurd (not_otherwise (edition_of text) program typed is none h a)
bad_claims_alike text program f g s (sets_claimed typed is none sets) (bad_claims i b) =
    absurd (not_otherwise (edition_of text) program typed is none i b)
bad_claims_alike text program f g s (sets_claimed typed is none sets) (sets_claimed other js nothing too) = refl

pub claims_alike : (text : List ℕ) (f g : Fault) → IsRefusedClaims text f → IsRefusedClaims text g → fault_status f ≡ fault_status g
claims_alike text f g h i = alike (of_source (edition_of text)) (IsProgram (edition_of text)) (program_of (edition_of text) 200)
    (IsBadClaims (edition_of text)) (one_program text) text (bad_claims_alike text) f g h i

never_bad_claims : (edition : Edition) (program : List RawItemTree) (typed : TypedTree) → IsTypedBy edition Plain program typed →
    ((f : Fault) → IsBadProgram edition program f → ⊥) → all_have_forms typed ≡ true → (f : Fault) → IsBadClaims edition program f → ⊥
never_bad_claims edition program typed is never forms f (bad_claims g b) = never g b
never_bad_claims edition program typed is never forms f (sets_claimed other js none sets) =
    let same : other ≡ typed = typed_by_once edition Plain program other typed js is in
    true≢false (sym forms ∙ subst (λ v. all_have_forms v ≡ false) same sets)

-- ---- of solved chooses
pub solved_within : (qs : List ChooseTree) (ss : List SolvedChoose) → AreSolved qs ss → All (λ q. limit_of q ≡ None) qs
solved_within [] [] h = All-nil (λ q. limit_of q ≡ None)
solved_within [] (s ∷ ss) h = absurd h
solved_within (q ∷ qs) [] h = absurd h
solved_within (q ∷ qs) (s ∷ ss) h =
    let of = h.0.solved in
    let one : limit_of q ≡ None = rw (← of.same_scope, ← of.same_outputs, ← of.same_relation) of.solved.within in
    All-cons (λ p. limit_of p ≡ None) q qs one (solved_within qs ss h.1)

none_of_them : (qs : List ChooseTree) → All (λ q. limit_of q ≡ None) qs → first_refused qs ≡ None
none_of_them [] h = refl
none_of_them (q ∷ qs) h =
    ap (λ o. refused_or q.number o (first_refused qs)) (All-head (λ p. limit_of p ≡ None) q qs h)
    ∙ none_of_them qs (All-tail (λ p. limit_of p ≡ None) q qs h)

module _ (source : List ℕ) (p : ToldProgram) (s : IsToldProgram source p) (ss : List SolvedChoose) (solved : AreSolved (asked_in s.lowered.typed) ss) where
  pub goals_made : (text : List ℕ) → GoalsWritten (asked_in s.lowered.typed) (head_text source) text (Ok tt) →
      AreGoals source (in_branches (told_in p.formed) [] (asked_in s.lowered.typed)) text
  goals_made text h =
      let same = plain_chooses (told_in p.formed) [] (asked_in s.lowered.typed) in
      record {
        within = subst (All (λ q. limit_of q ≡ None)) (sym same) (solved_within (asked_in s.lowered.typed) ss solved);
        have_forms = ap (list_all choose_has_form) same ∙ h.0;
        more = h.1;
        is = h.2;
        are = subst (λ qs. AreClaimed (with_branches 0 0 qs) h.1) (sym same) h.3;
      }

  pub sets_refused : list_all choose_has_form (asked_in s.lowered.typed) ≡ false → IsRefusedClaims source fault.NoSetsInSmt
  sets_refused sets =
      let is = s.lowered.is in
      bad_tree is.0 fault.NoSetsInSmt is.1 (sets_claimed s.lowered.typed is.2
      (none_of_them (asked_in s.lowered.typed) (solved_within (asked_in s.lowered.typed) ss solved)) sets)

  pub goals_fault : (f : ClaimFault) (g : Fault) →
      (f ≡ Sets → g ≡ fault.NoSetsInSmt) × (f ≡ NoMemory → g ≡ fault.NoMemory) →
      IsClaimFault (list_all choose_has_form (asked_in s.lowered.typed)) f → IsRefusedClaims source g ⊎ (g ≡ fault.NoMemory)
  goals_fault Sets g is h = inl (subst (IsRefusedClaims source) (sym (is.0 refl)) (sets_refused h))
  goals_fault NoMemory g is h = inr (is.1 refl)

pub claims_unrefused : (text : List ℕ) (cs : List (ChooseTree × Branch)) (written : List ℕ) (f : Fault) (b : AreBranched text cs) → AreGoals text cs written →
    IsRefusedClaims text f → ⊥
claims_unrefused text cs written f b owed r =
    let s = b.is in
    let forms : all_have_forms b.typed ≡ true = sym (ap (list_all choose_has_form) (branched_chooses text cs b)) ∙ owed.have_forms in
    unrefused (of_source (edition_of text)) (IsProgram (edition_of text)) (program_of (edition_of text) 200) (IsBadClaims (edition_of text))
    (one_program text) text f s.0
    (never_bad_claims (edition_of text) s.0 b.typed s.2
    (within_never_bad (edition_of text) s.0 b.typed s.2 (subst (All (λ q. limit_of q ≡ None)) (branched_chooses text cs b) owed.within)) forms) r s.1
