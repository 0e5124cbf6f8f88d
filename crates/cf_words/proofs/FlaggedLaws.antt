-- What clap finds behind a subcommand with flags.
use Rattle.std.proofs.Common.{◌≡◌, ◌∙◌, ◌||◌, ◌++◌, ℕ, Bool, true, false, not, cond, refl, sym, ap, ap₂, subst, true≢false, List, [], ◌∷◌, fold, Option, Some, None, is_some, option_map, option_and_then, codes, bytes_eq}
use Rattle.std.proofs.lemmas.Slice.Eq.{bytes_eq-Decides}
use Rattle.std.specs.Option.{option_map_or}
use Rattle.std.specs.Prelude.{slice_get}
use Rattle.clap.proofs.OnLiterals.{clap_on_literals}
use Rattle.clap.specs.Facts.{explicit_source}
use Rattle.clap.specs.Faults.{check_fault, default_fault, defaults_fault, settle_fault, turn_fault, walk_fault}
use Rattle.clap.specs.Kinds.{Kinds, check_kinds, or_else}
use Rattle.clap.specs.Simple.{Shape, built_leaf, filled, inherited, with_index}
use Rattle.clap.specs.Walk.{Rule, Row, Text, Walk, has_row, settled, walked, with_default, with_values}
use Rattle.clap.specs.declared.error.kind.ErrorKind.TheVariants.{UnknownArgument}
use Rattle.clap.specs.declared.builder.value_parser.Reading.TheVariants.{AsWritten}
use Rattle.clap.specs.declared.parser.matches.ValueSource.TheVariants.{CommandLine, DefaultValue}
use Rattle.cf_words.proofs.RowLemmas.{added, defaulted, found, has_row_is, kept, row_at, row_of_values}
use Rattle.cf_words.specs.Grammar.{flag as the_flag, flagged_subcommand, found_unless, operand as the_operand, program}
use Rattle.cf_words.specs.Words.{checks_in, flags_in, form_in, only, operands, stands, stands_twice}
use Rattle.cf_words.specs.declared.command.CheckFlags.{CheckFlags}
use Rattle.cf_words.specs.declared.command.Flags.{Flags}
use Rattle.cf_words.specs.declared.command.ReplyForm.{ReplyForm}
use Rattle.cf_words.proofs.Uses.{AreOnce, Flag, IsOperand, Use, flag_id, flag_is, flag_not, flag_word, words_of, plain, stats, key, jsonl, strict, unique, flag, operand}
use Rattle.cf_words.proofs.LevelLaws.{Asked, said, found_from, found_in, after_turn, passes, fails, at, flag_row, operand_row, operand_turn, operand_walk, given_or, cond_same}

abbrev pub flagged : Text → Shape
flagged name = built_leaf (inherited program.top (flagged_subcommand name).top)

-- what is found at the end of the words, where no word is left that waits
abbrev settled_to : Shape → Kinds → List Row → Option Asked
settled_to s kinds rows =
    let end = fold with_default rows s.rules in
    found_unless (or_else [] (or_else kinds (or_else (defaults_fault rows s.rules) (check_fault s end false)))) (said end)

module _ (name : Text) where
  next_operand : (word : Text) (is : IsOperand word) (rows : List Row) (last : Option Text)
      → turn_fault (flagged name) [] (at rows last 2) word ≡ UnknownArgument ∷ []
  next_operand word is rows last = operand_turn word is (flagged name) [] (at rows last 2).held 2 refl

  flag_turn : (f : Flag) (rows : List Row) (position : ℕ) → has_row (flag_id f) rows ≡ false
      → turn_fault (flagged name) [] (at rows None position) (flag_word f) ≡ []
  unfolding clap_on_literals
  flag_turn plain rows position unused = rw unused refl
  flag_turn stats rows position unused = rw unused refl
  flag_turn key rows position unused = rw unused refl
  flag_turn jsonl rows position unused = rw unused refl
  flag_turn strict rows position unused = rw unused refl
  flag_turn unique rows position unused = rw unused refl

  flag_walk : (f : Flag) (rows : List Row) (position : ℕ) → row_at (flag_id f) rows ≡ None
      → walked (flagged name).rules [] (at rows None position) (flag_word f) ≡ at (rows ++ flag_row (flag_id f) ∷ []) None position
  unfolding clap_on_literals
  flag_walk plain rows position none = ap (λ rs. at rs None position) (added (codes "plain") AsWritten CommandLine (codes "true" ∷ []) rows none)
  flag_walk stats rows position none = ap (λ rs. at rs None position) (added (codes "stats") AsWritten CommandLine (codes "true" ∷ []) rows none)
  flag_walk key rows position none = ap (λ rs. at rs None position) (added (codes "key") AsWritten CommandLine (codes "true" ∷ []) rows none)
  flag_walk jsonl rows position none = ap (λ rs. at rs None position) (added (codes "jsonl") AsWritten CommandLine (codes "true" ∷ []) rows none)
  flag_walk strict rows position none = ap (λ rs. at rs None position) (added (codes "strict") AsWritten CommandLine (codes "true" ∷ []) rows none)
  flag_walk unique rows position none = ap (λ rs. at rs None position) (added (codes "unique") AsWritten CommandLine (codes "true" ∷ []) rows none)

  -- an operand that waits is settled by the next word, or by the end
  module _ (o : Text) (rows : List Row) (none : row_at (codes "operand") rows ≡ None) where
    unused : has_row (codes "operand") rows ≡ false
    unused = has_row_is (codes "operand") rows ∙ ap (λ r. is_some r) none

    settled_rows_are : (settled (flagged name).rules (at rows (Some o) 2).held).rows ≡ rows ++ operand_row o ∷ []
    settled_rows_are = added (codes "operand") AsWritten CommandLine (o ∷ []) rows none

    settles : settle_fault (flagged name).rules (flagged name).args_override_self (at rows (Some o) 2).held ≡ []
    settles = rw unused refl

    abbrev walk_on : Flag → List Row → Walk
    walk_on f rs = walked (flagged name).rules [] (at rs None 2) (flag_word f)

    abbrev turn_on : Flag → List Row → Kinds
    turn_on f rs = turn_fault (flagged name) [] (at rs None 2) (flag_word f)

    settles_walk : (f : Flag) → walked (flagged name).rules [] (at rows (Some o) 2) (flag_word f) ≡ walk_on f (rows ++ operand_row o ∷ [])
    unfolding clap_on_literals
    settles_walk plain = ap (walk_on plain) settled_rows_are
    settles_walk stats = ap (walk_on stats) settled_rows_are
    settles_walk key = ap (walk_on key) settled_rows_are
    settles_walk jsonl = ap (walk_on jsonl) settled_rows_are
    settles_walk strict = ap (walk_on strict) settled_rows_are
    settles_walk unique = ap (walk_on unique) settled_rows_are

    settles_turn : (f : Flag) → turn_fault (flagged name) [] (at rows (Some o) 2) (flag_word f) ≡ turn_on f (rows ++ operand_row o ∷ [])
    unfolding clap_on_literals
    settles_turn plain = rw unused (ap (turn_on plain) settled_rows_are)
    settles_turn stats = rw unused (ap (turn_on stats) settled_rows_are)
    settles_turn key = rw unused (ap (turn_on key) settled_rows_are)
    settles_turn jsonl = rw unused (ap (turn_on jsonl) settled_rows_are)
    settles_turn strict = rw unused (ap (turn_on strict) settled_rows_are)
    settles_turn unique = rw unused (ap (turn_on unique) settled_rows_are)

    settled_before : (us : List Use)
        → found_from said (flagged name) (at rows (Some o) 2) (words_of us) ≡ found_from said (flagged name) (at (rows ++ operand_row o ∷ []) None 2)
        (words_of us)
    unfolding walk_fault
    settled_before [] = ap₂ (settled_to (flagged name)) settles settled_rows_are
    settled_before (flag f ∷ us) = ap₂ (after_turn said (flagged name) (words_of us)) (settles_turn f) (settles_walk f)
    settled_before (operand word is ∷ us) =
        fails said (flagged name) (at rows (Some o) 2) word (words_of us) UnknownArgument [] (next_operand word is rows (Some o))
        ∙ sym (fails said (flagged name) (at (rows ++ operand_row o ∷ []) None 2) word (words_of us) UnknownArgument []
        (next_operand word is (rows ++ operand_row o ∷ []) None))

abbrev flag_rule : Flag → Rule
flag_rule f = with_index 1 (filled (the_flag (flag_id f)))

abbrev operand_rule : Rule
operand_rule = with_index 1 (filled (the_operand (codes "operand")))

abbrev pub default_row : Text → Row
default_row id = row_of_values id AsWritten DefaultValue (codes "false" ∷ [])

-- the rows with the default of a flag, where it was not used
abbrev pub with_flag_default : Text → Bool → List Row → List Row
with_flag_default id used rows = cond used rows (rows ++ default_row id ∷ [])

abbrev pub flag_found : Text → Bool → Option Row
flag_found id used = cond used (Some (flag_row id)) None

pub flag_default : (id : Text) (used : Bool) (rows : List Row) → row_at id rows ≡ flag_found id used
    → cond (has_row id rows) rows (with_values id AsWritten DefaultValue (codes "false" ∷ []) rows) ≡ with_flag_default id used rows
flag_default id true rows h =
    ap (λ b. cond b rows (with_values id AsWritten DefaultValue (codes "false" ∷ []) rows)) (has_row_is id rows ∙ ap (λ r. is_some r) h)
flag_default id false rows h = ap₂ (λ b rs. cond b rows rs) (has_row_is id rows ∙ ap (λ r. is_some r) h)
    (defaulted id AsWritten DefaultValue (codes "false" ∷ []) rows h)

pub own_default : (id : Text) (used : Bool) (rows : List Row) → bytes_eq id id ≡ true → row_at id rows ≡ flag_found id used
    → row_at id (with_flag_default id used rows) ≡ Some (cond used (flag_row id) (default_row id))
own_default id true rows same h = h
own_default id false rows same h = found id (default_row id) rows same h

pub other_default : (id other : Text) (used : Bool) (rows : List Row) → bytes_eq id other ≡ false
    → row_at other (with_flag_default id used rows) ≡ row_at other rows
other_default id other true rows apart = refl
other_default id other false rows apart = kept other (default_row id) rows apart

-- what flags ask, of which these came
abbrev flags_by : (Flag → Bool) → Flags
flags_by came = record { plain = came plain; stats = came stats }

abbrev form_by : (Flag → Bool) → ReplyForm
form_by came = record { key = came key; jsonl = came jsonl }

abbrev checks_by : (Flag → Bool) → CheckFlags
checks_by came = record { strict = came strict; unique = came unique }

-- what the rows at the end have, and what is found in them
abbrev text_in : Option Row → Option Text
text_in r = option_and_then (λ x. slice_get x.values 0) r

abbrev is_true : Option Row → Bool
is_true r = option_map_or (λ t. bytes_eq t (codes "true")) (text_in r) false

abbrev of_rows : (Flag → Option Row) → Option Row → Option Asked
of_rows flag_rows operand_found =
    let given = option_map_or (λ x. explicit_source x.source) operand_found false in
    found_unless (check_kinds false false (not given || false))
    (option_map (λ o. (flags_by (λ f. is_true (flag_rows f)), form_by (λ f. is_true (flag_rows f)), checks_by (λ f. is_true (flag_rows f)), o))
    (text_in operand_found))

-- what is asked by words behind these flags and this operand
abbrev asked_with : (Flag → Bool) → List Text → Option Asked
asked_with came operands = option_map (λ x. (flags_by came, form_by came, checks_by came, x)) (only operands)

abbrev asked_behind : (Flag → Bool) → Option Text → List Text → Option Asked
asked_behind came o words = asked_with (λ f. came f || stands (flag_word f) words) (given_or o (operands words))

abbrev end_row : Flag → Bool → Row
end_row f came = cond came (flag_row (flag_id f)) (default_row (flag_id f))

row_is_true : (f : Flag) (came : Bool) → is_true (Some (end_row f came)) ≡ (came || false)
row_is_true f true = refl
row_is_true f false = refl

answer_is : (came : Flag → Bool) (o : Option Text) → of_rows (λ f. Some (end_row f (came f))) (option_map operand_row o) ≡ asked_behind came o []
answer_is came None = refl
answer_is came (Some o) =
    λ i. Some (flags_by (λ f. row_is_true f (came f) i), form_by (λ f. row_is_true f (came f) i), checks_by (λ f. row_is_true f (came f) i), o)

-- the rows tell these flags and this operand
record Tells (came : Flag → Bool) (o : Option Text) (rows : List Row) : Type 0 where
  flags : (f : Flag) → row_at (flag_id f) rows ≡ flag_found (flag_id f) (came f)
  operand : row_at (codes "operand") rows ≡ option_map operand_row o

module _ (name : Text) where
  -- the rows with the defaults of the flags, one flag after the other
  module _ (came : Flag → Bool) (o : Option Text) (rows : List Row) (h : Tells came o rows) where
    abbrev past : Flag → List Row → List Row
    past f rs = with_flag_default (flag_id f) (came f) rs

    abbrev past_plain : List Row
    past_plain = past plain rows

    abbrev past_stats : List Row
    past_stats = past stats past_plain

    abbrev past_key : List Row
    past_key = past key past_stats

    abbrev past_jsonl : List Row
    past_jsonl = past jsonl past_key

    abbrev past_strict : List Row
    past_strict = past strict past_jsonl

    abbrev past_all : List Row
    past_all = past unique past_strict

    apart : (id : Text) (f : Flag) (rs : List Row) → bytes_eq (flag_id f) id ≡ false → row_at id (past f rs) ≡ row_at id rs
    apart id f rs other = other_default (flag_id f) id (came f) rs other

    stats_then : row_at (codes "stats") past_plain ≡ flag_found (codes "stats") (came stats)
    stats_then = apart (codes "stats") plain rows refl ∙ h.flags stats

    key_then : row_at (codes "key") past_stats ≡ flag_found (codes "key") (came key)
    key_then = apart (codes "key") stats past_plain refl ∙ apart (codes "key") plain rows refl ∙ h.flags key

    jsonl_then : row_at (codes "jsonl") past_key ≡ flag_found (codes "jsonl") (came jsonl)
    jsonl_then =
        apart (codes "jsonl") key past_stats refl ∙ apart (codes "jsonl") stats past_plain refl ∙ apart (codes "jsonl") plain rows refl ∙ h.flags jsonl

    strict_then : row_at (codes "strict") past_jsonl ≡ flag_found (codes "strict") (came strict)
    strict_then =
        apart (codes "strict") jsonl past_key refl ∙ apart (codes "strict") key past_stats refl ∙ apart (codes "strict") stats past_plain refl
        ∙ apart (codes "strict") plain rows refl ∙ h.flags strict

    unique_then : row_at (codes "unique") past_strict ≡ flag_found (codes "unique") (came unique)
    unique_then =
        apart (codes "unique") strict past_jsonl refl ∙ apart (codes "unique") jsonl past_key refl ∙ apart (codes "unique") key past_stats refl
        ∙ apart (codes "unique") stats past_plain refl ∙ apart (codes "unique") plain rows refl ∙ h.flags unique

    -- behind the flags of replies come those of `check`
    behind_replies : (id : Text) → bytes_eq (codes "strict") id ≡ false → bytes_eq (codes "unique") id ≡ false → row_at id past_all ≡ row_at id past_jsonl
    behind_replies id not_strict not_unique = apart id unique past_strict not_unique ∙ apart id strict past_jsonl not_strict

    end_is : (f : Flag) → row_at (flag_id f) past_all ≡ Some (end_row f (came f))
    end_is plain =
        behind_replies (codes "plain") refl refl ∙ apart (codes "plain") jsonl past_key refl ∙ apart (codes "plain") key past_stats refl
        ∙ apart (codes "plain") stats past_plain refl ∙ own_default (codes "plain") (came plain) rows refl (h.flags plain)
    end_is stats =
        behind_replies (codes "stats") refl refl ∙ apart (codes "stats") jsonl past_key refl ∙ apart (codes "stats") key past_stats refl
        ∙ own_default (codes "stats") (came stats) past_plain refl stats_then
    end_is key =
        behind_replies (codes "key") refl refl ∙ apart (codes "key") jsonl past_key refl ∙ own_default (codes "key") (came key) past_stats refl key_then
    end_is jsonl = behind_replies (codes "jsonl") refl refl ∙ own_default (codes "jsonl") (came jsonl) past_key refl jsonl_then
    end_is strict = apart (codes "strict") unique past_strict refl ∙ own_default (codes "strict") (came strict) past_jsonl refl strict_then
    end_is unique = own_default (codes "unique") (came unique) past_strict refl unique_then

    operand_then : row_at (codes "operand") past_all ≡ option_map operand_row o
    operand_then =
        behind_replies (codes "operand") refl refl ∙ apart (codes "operand") jsonl past_key refl ∙ apart (codes "operand") key past_stats refl
        ∙ apart (codes "operand") stats past_plain refl ∙ apart (codes "operand") plain rows refl ∙ h.operand

    abbrev over : List Rule → List Row → List Row
    over rules rs = fold with_default rs rules

    finished_is : fold with_default rows (flagged name).rules ≡ past_all
    finished_is =
        let last = with_default past_strict (flag_rule unique) in
        let answers = flag_rule strict ∷ flag_rule unique ∷ operand_rule ∷ [] in
        ap (over (flag_rule stats ∷ flag_rule key ∷ flag_rule jsonl ∷ answers)) (flag_default (codes "plain") (came plain) rows (h.flags plain))
        ∙ ap (over (flag_rule key ∷ flag_rule jsonl ∷ answers)) (flag_default (codes "stats") (came stats) past_plain stats_then)
        ∙ ap (over (flag_rule jsonl ∷ answers)) (flag_default (codes "key") (came key) past_stats key_then)
        ∙ ap (over answers) (flag_default (codes "jsonl") (came jsonl) past_key jsonl_then)
        ∙ ap (over (flag_rule unique ∷ operand_rule ∷ [])) (flag_default (codes "strict") (came strict) past_jsonl strict_then)
        ∙ cond_same (has_row (codes "operand") last) last ∙ flag_default (codes "unique") (came unique) past_strict unique_then

  no_default_fault : (rows : List Row) → defaults_fault rows (flagged name).rules ≡ []
  unfolding clap_on_literals
  no_default_fault rows =
      let after_plain = with_default rows (flag_rule plain) in
      let after_stats = with_default after_plain (flag_rule stats) in
      let after_key = with_default after_stats (flag_rule key) in
      let after_jsonl = with_default after_key (flag_rule jsonl) in
      let plain_passes : default_fault rows (flag_rule plain) ≡ [] = cond_same _ [] in
      let stats_passes : default_fault after_plain (flag_rule stats) ≡ [] = cond_same _ [] in
      let key_passes : default_fault after_stats (flag_rule key) ≡ [] = cond_same _ [] in
      let jsonl_passes : default_fault after_key (flag_rule jsonl) ≡ [] = cond_same _ [] in
      let after_strict = with_default after_jsonl (flag_rule strict) in
      let after_unique = with_default after_strict (flag_rule unique) in
      let strict_passes : default_fault after_jsonl (flag_rule strict) ≡ [] = cond_same _ [] in
      let unique_passes : default_fault after_strict (flag_rule unique) ≡ [] = cond_same _ [] in
      let operand_passes : default_fault after_unique operand_rule ≡ [] = cond_same _ [] in
      λ i. or_else (plain_passes i) (or_else (stats_passes i) (or_else (key_passes i) (or_else (jsonl_passes i) (or_else (strict_passes i)
      (or_else (unique_passes i) (or_else (operand_passes i) []))))))

  ends : (came : Flag → Bool) (o : Option Text) (rows : List Row) (position : ℕ) → Tells came o rows
      → found_from said (flagged name) (at rows None position) [] ≡ asked_behind came o []
  unfolding walk_fault
  ends came o rows position h =
      ap₂ (λ kinds rs. found_unless (or_else [] (or_else [] (or_else kinds (check_fault (flagged name) rs false)))) (said rs)) (no_default_fault rows)
      (finished_is came o rows h)
      ∙ (λ i. of_rows (λ f. end_is came o rows h f i) (operand_then came o rows h i)) ∙ answer_is came o

-- one more flag comes
abbrev also : Flag → (Flag → Bool) → Flag → Bool
also f came g = bytes_eq (flag_word f) (flag_word g) || came g

exchanged : (a b c : Bool) → ((a || b) || c) ≡ (b || (a || c))
exchanged true true c = refl
exchanged true false c = refl
exchanged false true c = refl
exchanged false false c = refl

flag_asked : (f : Flag) (came : Flag → Bool) (o : Option Text) (words : List Text)
    → asked_behind (also f came) o words ≡ asked_behind came o (flag_word f ∷ words)
flag_asked f came o words =
    let kept_out = sym (ap (λ b. cond (not b) (flag_word f ∷ operands words) (operands words)) (flag_is f)) in
    λ i. asked_with (λ g. exchanged (bytes_eq (flag_word f) (flag_word g)) (came g) (stands (flag_word g) words) i) (given_or o (kept_out i))

-- a flag's row tells that the flag came
flag_told : (f g : Flag) (came : Flag → Bool) (rows : List Row) → row_at (flag_id f) rows ≡ None → row_at (flag_id g) rows ≡ flag_found (flag_id g) (came g)
    → row_at (flag_id g) (rows ++ flag_row (flag_id f) ∷ []) ≡ flag_found (flag_id g) (also f came g)
flag_told f g came rows none told = go (bytes_eq (flag_id f) (flag_id g)) refl
  where
    go : (b : Bool) → bytes_eq (flag_id f) (flag_id g) ≡ b
        → row_at (flag_id g) (rows ++ flag_row (flag_id f) ∷ []) ≡ flag_found (flag_id g) (b || came g)
    go true same =
        let is = (bytes_eq-Decides (flag_id f) (flag_id g)).0 same in
        subst (λ id. row_at id (rows ++ flag_row (flag_id f) ∷ []) ≡ Some (flag_row id)) is
        (found (flag_id f) (flag_row (flag_id f)) rows (subst (λ id. bytes_eq (flag_id f) id ≡ true) (sym is) same) none)
    go false other = kept (flag_id g) (flag_row (flag_id f)) rows other ∙ told

flag_tells : (f : Flag) (came : Flag → Bool) (o : Option Text) (rows : List Row) → row_at (flag_id f) rows ≡ None → Tells came o rows
    → Tells (also f came) o (rows ++ flag_row (flag_id f) ∷ [])
flag_tells f came o rows none h = record {
  flags = λ g. flag_told f g came rows none (h.flags g);
  operand = kept (codes "operand") (flag_row (flag_id f)) rows (no_operand f) ∙ h.operand;
}
  where
    no_operand : (g : Flag) → bytes_eq (flag_id g) (codes "operand") ≡ false
    no_operand plain = refl
    no_operand stats = refl
    no_operand key = refl
    no_operand jsonl = refl
    no_operand strict = refl
    no_operand unique = refl

operand_tells : (came : Flag → Bool) (word : Text) (rows : List Row) → Tells came None rows → Tells came (Some word) (rows ++ operand_row word ∷ [])
operand_tells came word rows h = record {
  flags = λ f. kept (flag_id f) (operand_row word) rows (no_flag f) ∙ h.flags f;
  operand = found (codes "operand") (operand_row word) rows refl h.operand;
}
  where
    no_flag : (f : Flag) → bytes_eq (codes "operand") (flag_id f) ≡ false
    no_flag plain = refl
    no_flag stats = refl
    no_flag key = refl
    no_flag jsonl = refl
    no_flag strict = refl
    no_flag unique = refl

-- no flag comes that came before, and none comes twice
abbrev ComeOnce : (Flag → Bool) → List Text → Type 0
ComeOnce came words = (f : Flag) → cond (came f) (stands (flag_word f) words) (stands_twice (flag_word f) words) ≡ false

again : (same came later twice : Bool) → cond came (same || later) (cond same later twice) ≡ false → cond (same || came) later twice ≡ false
again true true later twice h = absurd (true≢false h)
again true false later twice h = h
again false true later twice h = h
again false false later twice h = h

once_behind_flag : (f : Flag) (came : Flag → Bool) (words : List Text) → ComeOnce came (flag_word f ∷ words) → ComeOnce (also f came) words
once_behind_flag f came words once =
    λ g. again (bytes_eq (flag_word f) (flag_word g)) (came g) (stands (flag_word g) words) (stands_twice (flag_word g) words) (once g)

came_not : (f : Flag) (came : Bool) (words : List Text)
    → cond came (stands (flag_word f) (flag_word f ∷ words)) (stands_twice (flag_word f) (flag_word f ∷ words)) ≡ false → came ≡ false
came_not f false words h = refl
came_not plain true words h = absurd (true≢false h)
came_not stats true words h = absurd (true≢false h)
came_not key true words h = absurd (true≢false h)
came_not jsonl true words h = absurd (true≢false h)
came_not strict true words h = absurd (true≢false h)
came_not unique true words h = absurd (true≢false h)

-- an operand among words is no flag
module _ (word : Text) (is : IsOperand word) where
  -- what is asked, where the operand is or is not taken for a flag
  abbrev asked_as : (Flag → Bool) → Option Text → List Text → (Flag → Bool) → Bool → Option Asked
  asked_as came o words taken is_taken =
      asked_with (λ f. came f || (taken f || stands (flag_word f) words)) (given_or o (cond (not is_taken) (word ∷ operands words) (operands words)))

  operand_asked : (came : Flag → Bool) (o : Option Text) (words : List Text)
      → asked_behind came o (word ∷ words) ≡ asked_as came o words (λ f. false) false
  operand_asked came o words = λ i. asked_as came o words (λ f. is.no_flag f i) (flag_not word is.no_flag i)

  once_behind : (came : Flag → Bool) (words : List Text) → ComeOnce came (word ∷ words) → ComeOnce came words
  once_behind came words once = λ f.
      let later = stands (flag_word f) words in
      let twice = stands_twice (flag_word f) words in
      sym (ap (λ b. cond (came f) (b || later) (cond b later twice)) (is.no_flag f)) ∙ once f

abbrev place_of : Option Text → ℕ
place_of None = 1
place_of (Some o) = 2

module _ (name : Text) where
  flags_go : (us : List Use) (came : Flag → Bool) (o : Option Text) (rows : List Row) → Tells came o rows → ComeOnce came (words_of us)
      → found_from said (flagged name) (at rows None (place_of o)) (words_of us) ≡ asked_behind came o (words_of us)
  flags_go [] came o rows h once = ends name came o rows (place_of o) h
  flags_go (flag f ∷ us) came o rows h once =
      let more = rows ++ flag_row (flag_id f) ∷ [] in
      let first = came_not f (came f) (words_of us) (once f) in
      let none : row_at (flag_id f) rows ≡ None = h.flags f ∙ ap (flag_found (flag_id f)) first in
      let unused : has_row (flag_id f) rows ≡ false = has_row_is (flag_id f) rows ∙ ap (λ r. is_some r) none in
      passes said (flagged name) (at rows None (place_of o)) (at more None (place_of o)) (flag_word f) (words_of us)
      (flag_turn name f rows (place_of o) unused) (flag_walk name f rows (place_of o) none)
      ∙ flags_go us (also f came) o more (flag_tells f came o rows none h) (once_behind_flag f came (words_of us) once)
      ∙ flag_asked f came o (words_of us)
  flags_go (operand word is ∷ us) came None rows h once =
      passes said (flagged name) (at rows None 1) (at rows (Some word) 2) word (words_of us)
      (operand_turn word is (flagged name) [] (at rows None 1).held 1 refl) (operand_walk word is (flagged name) (at rows None 1).held 1)
      ∙ settled_before name word rows h.operand us
      ∙ flags_go us came (Some word) (rows ++ operand_row word ∷ []) (operand_tells came word rows h) (once_behind word is came (words_of us) once)
      ∙ sym (operand_asked word is came None (words_of us))
  flags_go (operand word is ∷ us) came (Some o) rows h once =
      fails said (flagged name) (at rows None 2) word (words_of us) UnknownArgument [] (next_operand name word is rows None)
      ∙ sym (operand_asked word is came (Some o) (words_of us))

  abbrev none_came : Flag → Bool
  none_came f = false

  pub flags_found_are : (us : List Use) → AreOnce (words_of us)
      → found_in said (flagged name) (words_of us) ≡ option_map (λ o. (flags_in (words_of us), form_in (words_of us), checks_in (words_of us), o))
      (only (operands (words_of us)))
  flags_found_are us once =
      flags_go us none_came None [] (record { flags = none_found; operand = refl }) once
    where
      none_found : (f : Flag) → row_at (flag_id f) [] ≡ flag_found (flag_id f) false
      none_found f = refl
