use Rattle.vc_reader.proofs.OneAutomaton.{one_after, one_whole}
use Rattle.vc_reader.proofs.LineNames.{names_once}
use Rattle.vc_lex.specs.declared.token.Mode.TheVariants.{Line}
use Rattle.vc_reader.proofs.law.texts_spell_one_automaton.Goals as goal

pub returns-clause-after : goal.returns-clause-after
returns-clause-after g c T L = one_after T c.words_are_ordered.ensures.total L (names_once T.spelled (c.texts_have_their_tokens.ensures.sound Line))

pub returns-clause-whole : goal.returns-clause-whole
returns-clause-whole g c T L = one_whole T c.words_are_ordered.ensures.total L (names_once T.spelled (c.texts_have_their_tokens.ensures.sound Line)) c.contexts_have_texts.ensures.one c.context_lines_have_one_text.ensures.complete

pub returns-clause-names : goal.returns-clause-names
returns-clause-names g c T = names_once T.spelled (c.texts_have_their_tokens.ensures.sound Line)
