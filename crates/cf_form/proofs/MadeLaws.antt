-- What is made of the functions of a source is a program of its forms.
use Rattle.std.proofs.Common.{◌≡◌, ◌⊎◌, inl, inr, ℕ, Option, Some, None, Result, Ok, Err, List, [], ◌∷◌, map, refl, sym, ◌∙◌, subst}
use Rattle.std.specs.Prelude.{MatchOption}
use Rattle.cf_tree.specs.DefView.{DefTree, def_tree}
use Rattle.cf_program.specs.Size.{weights, depths, first_above}
use Rattle.cf_program.specs.TypedProgram.{IsProgramBy}
use Rattle.cf_program.specs.TypedSource.{IsSourceBy}
use Rattle.cf_program.specs.LateLinear.{IsLinearBy}
use Rattle.cf_program.specs.declared.linearity.Linearity.{Linearity}
use Rattle.cf_program.proofs.SizeLemmas.{above_kept}
use Rattle.cf_form.specs.declared.chooses.WideChoose.{WideChoose as DeclaredChoose}
use Rattle.cf_form.specs.declared.fault.FormFault.{FormFault}
use Rattle.cf_form.specs.declared.fault.FormFault.TheVariants as faults
use Rattle.cf_form.specs.declared.made.Made.{Made}
use Rattle.cf_form.specs.Branches.{WideChoose}
use Rattle.cf_form.specs.FormAnswers.{AreNarrow, IsFormOf, IsUnformed}
use Rattle.cf_form.specs.Formed.{formed_defs}
use Rattle.cf_form.specs.Kept.{IsSource}
use Rattle.cf_form.specs.Laws.{AllowTheSame}
use Rattle.cf_form.specs.Made.{AreWithin, IsPast, IsTooDeep, HaveNoAims, IsMadeOver, OverAnswer, IsMade, MadeAnswer}
use Rattle.cf_form.specs.Told.{told, wide_chooses}
use Rattle.cf_form.specs.ToldView.{choose_view, told_choose}
use Rattle.cf_form.proofs.FormingLaws.{forming_allows_the_same}
use Rattle.cf_form.proofs.KeepingLaws.{formed_is, formed_plain}
use Rattle.cf_form.proofs.SourceLaws.{source_is}

-- ---- answers
pub size_answer : (defs : List DefTree) (r : Option FormFault) → None ≡ first_above 1000000 0 (weights defs) →
    MatchOption r (first_above 200 0 (depths defs) ≡ None) (λ e. IsTooDeep defs e) → MatchOption r (AreWithin defs) (λ e. IsPast defs e)
size_answer defs None light h = (sym light, h)
size_answer defs (Some (faults.Cases n count)) light h = h
size_answer defs (Some (faults.Weight f weight)) light h = absurd h
size_answer defs (Some (faults.Depth f depth)) light h = (sym light, h)
size_answer defs (Some faults.NoMemory) light h = h

pub over_answer : (defs : List DefTree) (qs : List WideChoose) (new : List DefTree) (m : Made) → new ≡ formed_defs defs → AreWithin (formed_defs defs) →
    map def_tree m.defs.items ≡ new → map told_choose m.chooses.items ≡ map told qs → IsMadeOver defs qs m
over_answer defs qs new m e w f g = (f ∙ e, w, g)

-- what is so of a choose as it is told is that none is to be least
views_unaimed : (qs : List DeclaredChoose) → HaveNoAims (map choose_view qs)
views_unaimed [] = tt
views_unaimed (q ∷ qs) = (refl, views_unaimed qs)

past_formed : (defs : List DefTree) (e : FormFault) → AreNarrow defs → IsPast (formed_defs defs) e → IsUnformed defs e ⊎ (e ≡ faults.NoMemory)
past_formed defs (faults.Cases n count) narrow h = absurd h
past_formed defs (faults.Weight f weight) narrow h = inl (narrow, h)
past_formed defs (faults.Depth f depth) narrow h = inl (narrow, h.0, h.1)
past_formed defs faults.NoMemory narrow h = inr refl

pub made_answer : (defs : List DefTree) (qs : List DeclaredChoose) (r : Result Made FormFault) →
    (map choose_view qs ≡ wide_chooses defs) × AreNarrow defs → OverAnswer defs (map choose_view qs) r → MadeAnswer defs r
made_answer defs qs (Ok m) f h = (
  f.1,
  subst HaveNoAims f.0 (views_unaimed qs),
  subst (λ ws. IsMadeOver defs ws m) f.0 h,
)
made_answer defs qs (Err e) f h = past_formed defs e f.1 h

-- ---- the program
module _ (how : Linearity) (defs : List DefTree) (main : ℕ) (s : IsSourceBy how defs main) (m : Made) (made : IsMade defs m) where
  source : IsSource how defs main
  source = source_is how defs main s made.0 made.1

  abbrev new : List DefTree
  new = formed_defs defs

  formed_program : IsProgramBy (IsLinearBy how) new main
  formed_program =
      let f = formed_is how defs main source in
      let within = made.2.1 in
      record {
        typed = f.typed.typed;
        functions = f.typed.functions;
        params = f.typed.params;
        has_main = f.typed.has_main;
        positive = f.typed.positive;
        formed = formed_plain how defs main source;
        light = above_kept 1000000 0 (weights new) within.0;
        shallow = above_kept 200 0 (depths new) within.1;
      }

  pub made_program : IsProgramBy (IsLinearBy how) (map def_tree m.defs.items) main
  made_program = subst (λ ds. IsProgramBy (IsLinearBy how) ds main) (sym made.2.0) formed_program

  pub made_form : IsFormOf how (record { defs = defs; main = main }) (record { defs = map def_tree m.defs.items; main = main })
  made_form = record {
    defs = made.2.0;
    main = refl;
    narrow = made.0;
    typed = made_program;
    outcomes = subst (λ ds. AllowTheSame defs ds) (sym made.2.0) (forming_allows_the_same how defs main source);
  }
