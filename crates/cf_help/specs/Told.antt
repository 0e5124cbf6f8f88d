-- The whole text that is told of a source of edition 3 that is refused.
use Rattle.std.specs.Prelude.{ℕ, List, codes, Some, None}
use Rattle.cf_tree.specs.DefView.{program_tree}
use Rattle.cf_program.specs.Checked.{functions_of}
use Rattle.cf_help.specs.Faults.{count_words, rule_words, rule_place}
use Rattle.cf_help.specs.Messages.{message, too_long_words, bad_byte_words, past_limit_words, syntax_words, choose_words}
use Rattle.cf_help.specs.Numbers.{number_place, function_place}
use Rattle.cf_help.specs.declared.telling.Refused.{Refused}
use Rattle.cf_help.specs.declared.telling.Refused.TheVariants.{TooLong, BadByte, NumberPast, Syntax, Rule, Weight, Depth, Choose}

-- What is told of the text of a file of this name that is refused so.
abbrev pub told_three : List ℕ → List ℕ → Refused → List ℕ
told_three name text TooLong = message name text None too_long_words
told_three name text (BadByte p) = message name text (Some p) (bad_byte_words text p)
told_three name text (NumberPast p) = message name text (Some p) past_limit_words
told_three name text (Syntax ts p) = message name text (Some p) (syntax_words text ts.now p)
told_three name text (Rule how program e) = message name text (rule_place e) (rule_words how (program_tree program.now) e)
told_three name text (Weight program f n) = message name text (function_place (functions_of (program_tree program.now)) f) (count_words (codes "Weight") n)
told_three name text (Depth program f n) = message name text (function_place (functions_of (program_tree program.now)) f) (count_words (codes "Depth") n)
told_three name text (Choose program n reason) = message name text (number_place (program_tree program.now) n) (choose_words n reason.now)
