use Rattle.std.proofs.Common.{◌≡◌, ◌∷◌, ◌++◌, ◌∙◌, [], ap, append_assoc, refl}
use Rattle.vc_expr.specs.Answers.{both_answer}
use Rattle.vc_expr.specs.Names.{tree_of}
use Rattle.vc_exprio.specs.Building.{both_call}
use Rattle.vc_exprio.specs.Making.{of_two}
use Rattle.vc_exprio.proofs.StackNames.{given_made, names_replaced}
use Rattle.vc_exprio.proofs.build.build_both.Goals as goal

pub returns-clause-answer : goal.returns-clause-answer
returns-clause-answer g c =
    let R = g.S.Semiring.set in
    let old = c.args.exprs.now in
    let names = c.args.names.now.items in
    let front = c.pop-first.new.names.items in
    let a = c.pop-first.result in
    let b = c.pop-second.result in
    let cut : names ≡ front ++ a ∷ b ∷ [] = c.pop-second.ensures ∙ ap (λ es. es ++ b ∷ []) c.pop-first.ensures ∙ append_assoc front (a ∷ []) (b ∷ []) in
    names_replaced 2 (of_two (both_call R g.S.Value.PartialEq.eq)) old c.both.new.self names front (a ∷ b ∷ []) c.put.new.names.items c.both.result c.put.result
    refl cut c.requires.names c.both.ensures.grows (given_made (both_answer R (tree_of old a) (tree_of old b)) c.both.new.self c.both.result c.both.ensures.answer) c.put.ensures
