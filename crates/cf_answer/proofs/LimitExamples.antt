-- The limit of a source text as a number.
use Rattle.std.proofs.Common.{◌≡◌, true, false, Some, None, codes, refl}
use Rattle.cf_print.specs.declared.language.Language.TheVariants.{C}
use Rattle.cf_words.specs.Commands.{Emitting, compile, run, pre, exec, prove, emit, goals, verify}
use Rattle.cf_words.specs.declared.command.Flags.{Flags}
use Rattle.cf_words.specs.declared.command.ReplyForm.{ReplyForm}
use Rattle.cf_tree.specs.declared.base.Edition.TheVariants.{Two, Three}
use Rattle.cf_answer.specs.Commands.{output_most, text_most}
use Rattle.cf_answer.specs.Limits.{text_limit, written_limit, of_source, of_target, tokens_of, most_of, written_most}

-- 1 MiB
most-of_a_text : text_limit ≡ 1048576
unfolding text_limit
most-of_a_text = refl

-- 64 MiB of a target or a steps file of edition 3
most-of_a_target : written_limit ≡ 67108864
unfolding written_limit
most-of_a_target = refl

by-edition : (most_of (of_source Two) ≡ text_limit) × (most_of (of_source Three) ≡ text_limit) × (most_of (of_target Two) ≡ text_limit)
    × (most_of (of_target Three) ≡ written_limit)
by-edition = (refl, refl, refl, refl)

tokens-by_edition : (tokens_of (of_source Two) ≡ Two) × (tokens_of (of_source Three) ≡ Three) × (tokens_of (of_target Three) ≡ Two)
tokens-by_edition = (refl, refl, refl)

-- what is written of language 2 has no limit
written-by_edition : (written_most Two ≡ None) × (written_most Three ≡ Some written_limit)
written-by_edition = (refl, refl)

abbrev form : ReplyForm
form = record { key = false; jsonl = false }

abbrev plain : Flags
plain = record { plain = true; stats = false }

abbrev in_c : Emitting
in_c = record { language = C; has_main = false; name = codes "answer" }

-- by whom
written-by_command : (output_most (compile plain (codes "a")) Three ≡ Some written_limit) × (output_most (compile plain (codes "a")) Two ≡ None)
    × (output_most (prove (codes "a")) Three ≡ Some written_limit) × (output_most (run plain form (codes "a")) Three ≡ None)
    × (output_most (pre (codes "a")) Three ≡ None)
written-by_command = (refl, refl, refl, refl, refl)

limits-of_emit : (output_most (emit in_c (codes "a")) Three ≡ None) × (text_most (emit in_c (codes "a")) Three ≡ text_limit)
limits-of_emit = (refl, refl)

limits-of_goals : (output_most (goals (codes "a")) Three ≡ None) × (text_most (goals (codes "a")) Three ≡ text_limit)
limits-of_goals = (refl, refl)

taken-by_command : (text_most (run plain form (codes "a")) Three ≡ text_limit) × (text_most (exec form (codes "a")) Two ≡ written_limit)
    × (text_most (verify (codes "a") (codes "b")) Two ≡ text_limit) × (text_most (verify (codes "a") (codes "b")) Three ≡ written_limit)
taken-by_command = (refl, refl, refl, refl)
