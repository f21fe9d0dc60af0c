use Rattle.vc_lex.specs.declared.token.Mode.TheVariants.{Line}
use Rattle.vc_reader.proofs.LineNames.{names_once}
use Rattle.vc_reader.proofs.TakenAdditions.{no_many_triples, no_unfit_addition}
use Rattle.vc_reader.proofs.TripleLimits.{past_triples}
use Rattle.vc_reader.proofs.RefusedAdditions.{unfit_addition}
use Rattle.vc_reader.proofs.law.refusals_are_additions.Goals as goal

pub returns-clause-unfit : goal.returns-clause-unfit
returns-clause-unfit g c T L =
    unfit_addition T L c.words_are_ordered.ensures.equal (c.drafts_are_sums.ensures.weight T.set L) (c.drafts_are_sums.ensures.order T.set) (λ ts t x o. (c.transitions_are_added.ensures.standing ts t x o).0)

pub returns-clause-limit : goal.returns-clause-limit
returns-clause-limit g c T L = past_triples T L c.words_are_ordered.ensures.equal (c.drafts_are_sums.ensures.order T.set) (λ ts t x o. (c.transitions_are_added.ensures.standing ts t x o).1) (c.transitions_are_added.ensures.triples T.set)

pub returns-clause-no_unfit : goal.returns-clause-no_unfit
returns-clause-no_unfit g c T L K X sets h a line v w b =
    no_unfit_addition T L c.words_are_ordered.ensures.equal (c.drafts_are_sums.ensures.weight T.set L) (c.drafts_are_sums.ensures.order T.set) c.transitions_are_added.ensures.standing
    (c.transitions_are_added.ensures.triples T.set) (c.transitions_are_added.ensures.order T.set) (names_once T.spelled (c.texts_have_their_tokens.ensures.sound Line)) sets h a b K X line v w

pub returns-clause-no_limit : goal.returns-clause-no_limit
returns-clause-no_limit g c T L sets h a b =
    no_many_triples T L c.words_are_ordered.ensures.equal (c.drafts_are_sums.ensures.weight T.set L) (c.drafts_are_sums.ensures.order T.set) c.transitions_are_added.ensures.standing
    (c.transitions_are_added.ensures.triples T.set) (c.transitions_are_added.ensures.order T.set) (names_once T.spelled (c.texts_have_their_tokens.ensures.sound Line)) sets h a b
