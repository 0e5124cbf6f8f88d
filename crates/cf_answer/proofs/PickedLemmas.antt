-- The replies of the target that a source is compiled to are what the source picks.
use Rattle.std.proofs.Common.{◌≡◌, ◌∙◌, sym, ap, subst, refl, ℕ, zero, suc, ◌-◌, ◌^◌, ◌<◌, ◌≤◌, length, ◌⊎◌, ℤ, pos, ◌+ℤ◌, codes, Bool, true, false, List, [], ◌∷◌, map, get_or, slice_get, Option, Some, None, inl, inr, arith}
use Rattle.cf_num.specs.Limit.{limit, IsWithin}
use Rattle.cf_io.specs.Limits.{line_limit}
use Rattle.cf_lex.specs.Digits.{digits_value}
use Rattle.cf_tree.specs.declared.base.Base.{Base}
use Rattle.cf_tree.specs.declared.base.Base.TheVariants as base
use Rattle.cf_tree.specs.declared.target.RawTarget.{RawTarget}
use Rattle.std.proofs.lemmas.Bool.{cases_lt}
use Rattle.cf_tree.specs.CodeView.{code_tree}
use Rattle.cf_tree.specs.Meaning.{means, peak}
use Rattle.cf_tree.specs.DefView.{DefTree}
use Rattle.cf_tree.specs.Values.{Value, number, truth, elements, Outcome, values, no_solution, number_of, HasBase, HaveBases}
use Rattle.cf_tree.proofs.RisingLemmas.{rising_set_of}
use Rattle.cf_pass.specs.Passes.{Told}
use Rattle.cf_program.specs.Checked.{TypedTree}
use Rattle.cf_tree.specs.Params.{bases_of}
use Rattle.cf_shift.specs.Meeting.{AreSmall}
use Rattle.cf_build.specs.Built.{IsBuilt, SourceAllows}
use Rattle.cf_build.specs.Runs.{RunsAsPicked}
use Rattle.cf_eval.specs.Spelling.{without_return, IsNumber, IsValue, Spells, SpellsValues}
use Rattle.cf_late.specs.ChooseRun.{comes_to, overflow, solve_run}
use Rattle.cf_late.specs.Texts.{late_text}
use Rattle.cf_eval.specs.Answers.{Answers}
use Rattle.cf_eval.specs.Seen.{plains}
use Rattle.cf_eval.specs.declared.value.Outcome.{Outcome as RunOutcome}
use Rattle.cf_eval.specs.declared.value.Outcome.TheVariants.{Values, NoSolution, Overflow}
use Rattle.cf_answer.specs.Forms.{Wording, as_text, Form, IsKeyed, too_long as key_too_long, no_key, keyed, ByKey, InForm}
use Rattle.cf_answer.specs.Owed.{by_target, IsReplyBy, IsReplyOf, AllReplied, AreReplies, ArePicked, IsSum}
use Rattle.cf_answer.specs.Picked.{main_bases, main_picks, picked_outcome, IsSourceReply, too_long as source_too_long, bad_input as source_bad_input, picks, allows, outcome_number, adds}
use Rattle.cf_answer.specs.Replies.{too_long, bad_input, comes}
use Rattle.cf_answer.specs.Sources.{Compiles}
use Rattle.cf_answer.specs.Steps.{run_number, LineAdds, long_line, odd_line, read_line, AddUp}
use Rattle.cf_answer.proofs.OutcomeLemmas.{within_run, past_run}
use Rattle.cf_answer.proofs.SpelledLemmas.{neg_within, none_within}

-- what a line spells has its bases and is small
number_fits : (w : List ℕ) (z : ℤ) → IsNumber limit w z → IsWithin z
number_fits [] z h = absurd h
number_fits (b ∷ w) z (inl h) = subst IsWithin (sym h.2) (neg_within (pos (digits_value w)) h.1.fits)
number_fits (b ∷ w) z (inr h) = subst IsWithin (sym h.1) h.0.fits

value_fits : (b : Base) (w : List ℕ) (v : Value) → IsValue limit b w v → HasBase b v × IsWithin (number_of v)
value_fits base.Int w (number z) h = ((z, refl), number_fits w z h)
value_fits base.Int w (truth t) h = absurd h
value_fits base.Int w (elements es) h = absurd h
value_fits base.Bool w (number z) h = absurd h
value_fits base.Bool w (truth t) h = ((t, refl), none_within)
value_fits base.Bool w (elements es) h = absurd h
value_fits base.Set w (number z) h = absurd h
value_fits base.Set w (truth t) h = absurd h
value_fits base.Set w (elements es) h = ((es, refl, rw h.4 (rising_set_of h.1)), none_within)

pub values_fit : (bases : List Base) (text : List ℕ) (vs : List Value) → Spells limit bases text vs → HaveBases bases vs × AreSmall limit vs
values_fit [] text [] h = (tt, tt)
values_fit [] text (v ∷ vs) h = absurd h
values_fit (b ∷ bases) text [] h = absurd h
values_fit (b ∷ bases) text (v ∷ vs) h =
    let first = value_fits b h.1 v h.5 in
    let more = values_fit bases h.2 vs h.7 in
    ((first.0, more.0), (first.1, more.1))

-- the target has the parameters of main
pub parameters_at : (ds : List DefTree) (i : ℕ) (d : DefTree) → slice_get ds i ≡ Some d →
    get_or (map (λ e. bases_of e.params) ds) i [] ≡ bases_of d.params
parameters_at [] i d e = cc
parameters_at (c ∷ ds) zero d e = let same : c ≡ d = cc in rw same refl
parameters_at (c ∷ ds) (suc i) d e = parameters_at ds i d e

same_parameters : (typed : TypedTree) (given last : List Told) (t : RawTarget) → IsBuilt typed.defs typed.main given last t → t.params.items ≡ main_bases typed
same_parameters typed given last t h = let like = h.like_main in like.2 ∙ sym (parameters_at typed.defs typed.main like.0 like.1)

-- what a target comes to is what is picked
picked_of : (typed : TypedTree) (passes : ℕ) (t : RawTarget) (vs : List Value) (o : Outcome) → main_picks typed vs ≡ Some o →
    RunsAsPicked typed.defs typed.main passes (code_tree t.code) vs → picked_outcome (main_picks typed vs) ≡ solve_run (code_tree t.code) vs
picked_of typed passes t vs o e h =
    let runs = h.outcome o e in ap picked_outcome e ∙ sym (within_run (code_tree t.code) vs o runs.0 runs.1)

picked_past : (typed : TypedTree) (t : RawTarget) (vs : List Value) → main_picks typed vs ≡ None → limit < peak (code_tree t.code) vs →
    picked_outcome (main_picks typed vs) ≡ solve_run (code_tree t.code) vs
picked_past typed t vs e past = ap picked_outcome e ∙ sym (past_run (code_tree t.code) vs past)

-- what is known of values that a line spells
record Read (typed : TypedTree) (passes : ℕ) (t : RawTarget) (line : List ℕ) (vs : List Value) : Type 0 where
  short : length line ≤ line_limit
  spelled : SpellsValues limit (main_bases typed) line vs
  asked : SpellsValues limit t.params.items line vs
  allowed : SourceAllows typed.defs typed.main vs (means (code_tree t.code) vs)
  runs : RunsAsPicked typed.defs typed.main passes (code_tree t.code) vs

-- main picks overflow: the target overflows, or it has an outcome that is allowed, and there are passes
overflows : (w : Wording) (typed : TypedTree) (passes : ℕ) (t : RawTarget) (line : List ℕ) (vs : List Value) → main_picks typed vs ≡ None →
    Read typed passes t line vs → (limit < peak (code_tree t.code) vs) ⊎ (peak (code_tree t.code) vs ≤ limit) →
    IsSourceReply w typed passes line (w.told (solve_run (code_tree t.code) vs))
overflows w typed passes t line vs e r (inl past) =
    subst (λ o. IsSourceReply w typed passes line (w.told o)) (picked_past typed t vs e past) (picks vs r.short r.spelled (λ _. r.runs.near past))
overflows w typed passes t line vs e r (inr within) =
    subst (λ o. IsSourceReply w typed passes line (w.told o)) (sym (within_run (code_tree t.code) vs (means (code_tree t.code) vs) within refl))
    (allows vs (means (code_tree t.code) vs) r.short r.spelled e (some_pass passes (λ none. r.runs.overflow none e)) r.allowed)
  where
    some_pass : (n : ℕ) → (n ≡ 0 → limit < peak (code_tree t.code) vs) → 1 ≤ n
    some_pass zero h = absurd (omega (arith, within, h refl))
    some_pass (suc n) h = omega arith

reply_to : (w : Wording) (typed : TypedTree) (passes : ℕ) (t : RawTarget) (line : List ℕ) (vs : List Value) (p : Option Outcome) → main_picks typed vs ≡ p →
    Read typed passes t line vs → IsSourceReply w typed passes line (w.told (solve_run (code_tree t.code) vs))
reply_to w typed passes t line vs (Some o) e r =
    subst (λ o. IsSourceReply w typed passes line (w.told o)) (picked_of typed passes t vs o e r.runs) (picks vs r.short r.spelled (λ none. cc))
reply_to w typed passes t line vs None e r = overflows w typed passes t line vs e r (cases_lt limit (peak (code_tree t.code) vs))

picked_reply : (w : Wording) (typed : TypedTree) (given last : List Told) (t : RawTarget) → IsBuilt typed.defs typed.main given last t → (line reply : List ℕ) →
    IsReplyBy w (by_target t) line reply → IsSourceReply w typed (length last) line reply
picked_reply w typed given last t h line reply (too_long long) = source_too_long long
picked_reply w typed given last t h line reply (bad_input short none) =
    source_bad_input short (λ vs r. none vs (subst (λ bs. SpellsValues limit bs line vs) (sym (same_parameters typed given last t h)) r))
picked_reply w typed given last t h line reply (comes vs short r) =
    let fit = values_fit t.params.items (without_return line) vs r in
    reply_to w typed (length last) t line vs (main_picks typed vs) refl (record {
      short = short;
      spelled = subst (λ bs. SpellsValues limit bs line vs) (same_parameters typed given last t h) r;
      asked = r;
      allowed = h.allowed vs fit.0;
      runs = h.runs vs fit.0 fit.1;
    })

-- the same in a form
keyed_too : (w : Wording) (P Q : List ℕ → List ℕ → Type 0) → ((line reply : List ℕ) → P line reply → Q line reply) → (line reply : List ℕ) →
    IsKeyed w P line reply → IsKeyed w Q line reply
keyed_too w P Q by line reply (key_too_long long) = key_too_long long
keyed_too w P Q by line reply (no_key short none) = no_key short none
keyed_too w P Q by line reply (keyed key rest own short whole all is) = keyed key rest own short whole all (by rest own is)

pub by_key_too : (key : Bool) (w : Wording) (P Q : List ℕ → List ℕ → Type 0) → ((line reply : List ℕ) → P line reply → Q line reply) → (line reply : List ℕ) →
    ByKey key w P line reply → ByKey key w Q line reply
by_key_too false w P Q by line reply h = by line reply h
by_key_too true w P Q by line reply h = keyed_too w P Q by line reply h

-- the same of all lines
pub all_replied : (P Q : List ℕ → List ℕ → Type 0) → ((line reply : List ℕ) → P line reply → Q line reply) → (ls : List (List ℕ)) (text : List ℕ) →
    AllReplied P ls text → AllReplied Q ls text
all_replied P Q by [] text h = h
all_replied P Q by (line ∷ ls) text h = (h.0, h.1, h.2, by line h.0 h.3, all_replied P Q by ls h.1 h.4)

pub replies_picked : (form : Form) (given last : List Told) (file : List ℕ) (t : RawTarget) (ls : List (List ℕ)) (text : List ℕ) → Compiles given last file t →
    AreReplies (record { by = by_target t; form = form }) ls text → ArePicked form (length last) file ls text
replies_picked form given last file t ls text h replies =
    let w = form.wording in (
      h.0,
      h.1,
      all_replied (IsReplyOf (record { by = by_target t; form = form })) (InForm form (λ v. IsSourceReply v h.0 (length last)))
          (by_key_too form.key w (IsReplyBy w (by_target t)) (IsSourceReply w h.0 (length last)) (picked_reply w h.0 given last t h.2)) ls text replies,
    )

-- what a run adds is what the reply of the target to the line adds, which the source picks
record Added (typed : TypedTree) (passes : ℕ) (t : RawTarget) (line : List ℕ) (z : ℤ) : Type 0 where
  reply : List ℕ
  replied : IsReplyBy as_text (by_target t) line reply
  told : IsSourceReply as_text typed passes line reply
  same : z ≡ adds typed passes line reply told

never_both : {A : Type 0} (most high : ℕ) → most < high → high ≤ most → A
never_both most high past within = absurd (omega (arith, past, within))

passes_of : (passes most high : ℕ) → high ≤ most → (passes ≡ 0 → most < high) → 1 ≤ passes
passes_of zero most high within past = never_both most high (past refl) within
passes_of (suc n) most high within past = omega arith

-- the text of what the target comes to is its reply
comes_reply : (typed : TypedTree) (passes : ℕ) (t : RawTarget) (line : List ℕ) (vs : List Value) (text : List ℕ) → Read typed passes t line vs →
    text ≡ late_text (solve_run (code_tree t.code) vs) → IsReplyBy as_text (by_target t) line text
comes_reply typed passes t line vs text r is = subst (IsReplyBy as_text (by_target t) line) (sym is) (comes vs r.short r.asked)

-- main picks an outcome
some_added : (typed : TypedTree) (passes : ℕ) (t : RawTarget) (line : List ℕ) (vs : List Value) (o : Outcome) → main_picks typed vs ≡ Some o →
    Read typed passes t line vs → Added typed passes t line (outcome_number (Some o))
some_added typed passes t line vs o e r = record {
  reply = late_text (picked_outcome (main_picks typed vs));
  replied = comes_reply typed passes t line vs (late_text (picked_outcome (main_picks typed vs))) r (ap late_text (picked_of typed passes t vs o e r.runs));
  told = picks vs r.short r.spelled (λ none. cc);
  same = ap outcome_number (sym e);
}

-- main picks overflow, and so the target does
past_added : (typed : TypedTree) (passes : ℕ) (t : RawTarget) (line : List ℕ) (vs : List Value) → main_picks typed vs ≡ None → Read typed passes t line vs →
    limit < peak (code_tree t.code) vs → Added typed passes t line (pos 0)
past_added typed passes t line vs e r past = record {
  reply = late_text (picked_outcome (main_picks typed vs));
  replied = comes_reply typed passes t line vs (late_text (picked_outcome (main_picks typed vs))) r (ap late_text (picked_past typed t vs e past));
  told = picks vs r.short r.spelled (λ _. r.runs.near past);
  same = ap outcome_number (sym e);
}

-- main picks overflow, and the target does not
within_added : (typed : TypedTree) (passes : ℕ) (t : RawTarget) (line : List ℕ) (vs : List Value) → main_picks typed vs ≡ None →
    Read typed passes t line vs → peak (code_tree t.code) vs ≤ limit → Added typed passes t line (outcome_number (Some (means (code_tree t.code) vs)))
within_added typed passes t line vs e r within = record {
  reply = late_text (comes_to (means (code_tree t.code) vs));
  replied = comes_reply typed passes t line vs (late_text (comes_to (means (code_tree t.code) vs))) r
      (ap late_text (sym (within_run (code_tree t.code) vs (means (code_tree t.code) vs) within refl)));
  told = allows vs (means (code_tree t.code) vs) r.short r.spelled e
      (passes_of passes limit (peak (code_tree t.code) vs) within (λ none. r.runs.overflow none e)) r.allowed;
  same = refl;
}

-- the target means an outcome and meets no number past the limit
meant_added : (typed : TypedTree) (passes : ℕ) (t : RawTarget) (line : List ℕ) (vs : List Value) (o : Outcome) (p : Option Outcome) → main_picks typed vs ≡ p →
    Read typed passes t line vs → means (code_tree t.code) vs ≡ o → peak (code_tree t.code) vs ≤ limit → Added typed passes t line (outcome_number (Some o))
meant_added typed passes t line vs o (Some q) e r same within =
    let picked : q ≡ o = sym (r.runs.outcome q e).1 ∙ same in
    subst (λ v. Added typed passes t line (outcome_number (Some v))) picked (some_added typed passes t line vs q e r)
meant_added typed passes t line vs o None e r same within =
    subst (λ v. Added typed passes t line (outcome_number (Some v))) same (within_added typed passes t line vs e r within)

overflow_added : (typed : TypedTree) (passes : ℕ) (t : RawTarget) (line : List ℕ) (vs : List Value) (p : Option Outcome) → main_picks typed vs ≡ p →
    Read typed passes t line vs → limit < peak (code_tree t.code) vs → Added typed passes t line (pos 0)
overflow_added typed passes t line vs (Some q) e r past = never_both limit (peak (code_tree t.code) vs) past (r.runs.outcome q e).0
overflow_added typed passes t line vs None e r past = past_added typed passes t line vs e r past

run_added : (typed : TypedTree) (passes : ℕ) (t : RawTarget) (line : List ℕ) (vs : List Value) (o : RunOutcome) → Read typed passes t line vs →
    Answers (code_tree t.code) vs o → Added typed passes t line (run_number o)
run_added typed passes t line vs (Values given) r a = meant_added typed passes t line vs (values (plains given.items)) (main_picks typed vs) refl r a.0 a.1
run_added typed passes t line vs (NoSolution n) r a = meant_added typed passes t line vs (no_solution n) (main_picks typed vs) refl r a.0 a.1
run_added typed passes t line vs Overflow r a = overflow_added typed passes t line vs (main_picks typed vs) refl r a

line_added : (typed : TypedTree) (given last : List Told) (t : RawTarget) → IsBuilt typed.defs typed.main given last t → (line : List ℕ) (z : ℤ) →
    LineAdds t line z → Added typed (length last) t line z
line_added typed given last t h line z (long_line long is) = record {
  reply = codes "line too long";
  replied = too_long long;
  told = source_too_long long;
  same = is;
}
line_added typed given last t h line z (odd_line short none is) = record {
  reply = codes "bad input";
  replied = bad_input short none;
  told = source_bad_input short (λ vs r. none vs (subst (λ bs. SpellsValues limit bs line vs) (sym (same_parameters typed given last t h)) r));
  same = is;
}
line_added typed given last t h line z (read_line vs short r by) =
    let fit = values_fit t.params.items (without_return line) vs r in
    subst (Added typed (length last) t line) (sym by.is) (run_added typed (length last) t line vs by.outcome (record {
      short = short;
      spelled = subst (λ bs. SpellsValues limit bs line vs) (same_parameters typed given last t h) r;
      asked = r;
      allowed = h.allowed vs fit.0;
      runs = h.runs vs fit.0 fit.1;
    }) by.answers)

pub sum_picked : (typed : TypedTree) (given last : List Told) (t : RawTarget) → IsBuilt typed.defs typed.main given last t → (ls : List (List ℕ)) (sum : ℤ) →
    AddUp t ls sum → IsSum t typed (length last) ls sum
sum_picked typed given last t h [] sum a = a
sum_picked typed given last t h (line ∷ ls) sum a =
    let first = line_added typed given last t h line a.0 a.3 in
    (first.reply, first.replied, first.told, a.1, a.2 ∙ ap (λ z. z +ℤ a.1) first.same, sum_picked typed given last t h ls a.1 a.4)
