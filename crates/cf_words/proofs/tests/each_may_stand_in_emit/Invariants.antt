use Rattle.std.proofs.Common.{◌≡◌, ◌||◌, map, drop, string_bytes}
use Rattle.std.specs.List.{list_all}
use Rattle.cf_words.specs.Words.{is_emit_flag, is_operand}
use Rattle.cf_words.proofs.tests.each_may_stand_in_emit.Given as goal

abbrev pub invariant-loop-word : goal.invariant-loop-word
invariant-loop-word l =
    list_all (λ w. is_emit_flag w || is_operand w) (map string_bytes (drop l.word-index l.words))
    ≡ list_all (λ w. is_emit_flag w || is_operand w) (map string_bytes l.words)
