use Rattle.cf_program.proofs.ProgramLaws.{rules_keep_types, rules_keep_sources, rules_keep_names}
use Rattle.cf_program.proofs.rules_keep_facts.Goals as goal

pub returns-clause-types : goal.returns-clause-types
returns-clause-types c = rules_keep_types

pub returns-clause-sources : goal.returns-clause-sources
returns-clause-sources c = rules_keep_sources

pub returns-clause-names : goal.returns-clause-names
returns-clause-names c = rules_keep_names
