use Rattle.std.proofs.Common.{sym, ◌∙◌}
use Rattle.vc_model.specs.Gathering.{gathered_steps, gathered_labels}
use Rattle.vc_model.proofs.SameMoves.{future_within-same, coefficient-same}
use Rattle.vc_model.proofs.gathered.gathering_keeps_series.Goals as goal

pub returns-clause-future : goal.returns-clause-future
returns-clause-future g c R L tapes A B labels to G final k p w l e =
    future_within-same L tapes A B labels to (gathered_labels L tapes A.transitions B.transitions G labels) final (λ q h m. gathered_steps L A.transitions B.transitions G.sums q h) k p w l e

pub returns-clause-coefficient : goal.returns-clause-coefficient
returns-clause-coefficient g c R L tapes A B labels to G states initial final w e =
    coefficient-same L tapes A B labels to (gathered_labels L tapes A.transitions B.transitions G labels) final (λ q h m. gathered_steps L A.transitions B.transitions G.sums q h) states initial w e

pub returns-clause-both : goal.returns-clause-both
returns-clause-both g c R L tapes A B a b raw G H states initial final w e =
    coefficient-same L tapes A B a.label a.to b.label final
    (λ q h m. gathered_steps L raw B.transitions H.sums q h ∙ sym (gathered_steps L raw A.transitions G.sums q h)) states initial w e
