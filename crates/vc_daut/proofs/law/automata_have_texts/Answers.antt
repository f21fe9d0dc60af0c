use Rattle.std.proofs.Common.{◌≡◌, ◌≤◌, ◌∙◌, length, ap, subst}
use Rattle.vc_daut.proofs.SpelledTexts.{text_spells}
use Rattle.vc_ring.specs.Weighed.{weighed}
use Rattle.vc_lex.specs.declared.token.Mode.TheVariants.{Line}
use Rattle.vc_daut.proofs.law.automata_have_texts.Goals as goal

pub returns : goal.returns
returns g c weights =
    let count : c.tapes-tapes.result ≡ length c.args.aut.now.sets = c.tapes-tapes.ensures.value ∙ ap length c.labels.ensures in
    text_spells c.alphabets_are_sets.ensures.letters c.alphabets_are_sets.ensures.listed c.words_are_over_sets.ensures.letters
    c.context_lines_have_one_text.ensures.sound (c.texts_have_their_tokens.ensures.complete Line) c.contexts_have_texts.ensures.written
    (weighed g.S.Semiring g.S.Value.PartialEq) g.met.S.Semiring.laws g.met.S.Semiring.same g.met.S.Semiring.texts
    c.args.aut.now weights (subst (λ n. 1 ≤ n) count c.tapes-tapes.ensures.some) (subst (λ n. n ≤ 4) count c.tapes-tapes.ensures.few) c.automata_are_valid.ensures.labelled c.automata_are_valid.ensures.automaton
