use Rattle.std.proofs.Common.{◌∷◌, Ok, map, ap}
use Rattle.vc_expr.specs.Answers.{sum_answer}
use Rattle.vc_expr.specs.Names.{trees_of}
use Rattle.vc_lex.specs.Parts.{tape_of}
use Rattle.vc_lex.specs.Views.{seen}
use Rattle.vc_terms.specs.Identities.{atom_of}
use Rattle.vc_terms.specs.Terms.{Zero}
use Rattle.vc_exprio.specs.Building.{atoms_of, unless_unfit}
use Rattle.vc_exprio.specs.Making.{more_parts, made_after}
use Rattle.vc_exprio.specs.Occurring.{letters_over}
use Rattle.vc_exprio.specs.Spelling.{weight_of_mark}
use Rattle.vc_exprio.specs.Views.{step_seen}
use Rattle.vc_exprio.proofs.StackNames.{given_made, names_put}
use Rattle.vc_exprio.proofs.build.build_step.Goals as goal

pub returns-in-Zero-clause-answer : goal.returns-in-Zero-clause-answer
returns-in-Zero-clause-answer g c =
    let R = g.S.Semiring.set in
    let letters = letters_over (g.L.LabelSet.sets c.args.labels.now) in
    let ts = trees_of c.args.exprs.now c.args.names.now.items in
    let ops = map step_seen c.args.after.now in
    let same = g.S.Value.PartialEq.eq in
    let value = weight_of_mark R g.S.Semiring.spelled in
    let answer = Ok Zero in
    names_put (made_after R same value letters ts (step_seen c.args.step) ops) c.args.exprs.now c.zero.new.self c.args.names.now.items c.put.new.names.items (unless_unfit answer)
    (ap (λ s. made_after R same value letters ts (step_seen s) ops) c.in-Zero.is) c.zero.result c.put.result c.requires.names c.zero.ensures.grows (given_made answer c.zero.new.self c.zero.result c.zero.ensures.answer) c.put.ensures

pub returns-in-Part-clause-answer : goal.returns-in-Part-clause-answer
returns-in-Part-clause-answer g c =
    let R = g.S.Semiring.set in
    let letters = letters_over (g.L.LabelSet.sets c.args.labels.now) in
    let ts = trees_of c.args.exprs.now c.args.names.now.items in
    let ops = map step_seen c.args.after.now in
    let same = g.S.Value.PartialEq.eq in
    let value = weight_of_mark R g.S.Semiring.spelled in
    let answer = Ok (atom_of (map tape_of (seen c.in-Part.first ∷ more_parts ops))) in
    names_put (made_after R same value letters ts (step_seen c.args.step) ops) c.args.exprs.now c.build_label.new.exprs c.args.names.now.items c.put-in-Part.new.names.items (unless_unfit answer)
    (ap (λ s. made_after R same value letters ts (step_seen s) ops) c.in-Part.is) c.build_label.result c.put-in-Part.result c.requires.names c.build_label.ensures.grows (given_made answer c.build_label.new.exprs c.build_label.result c.build_label.ensures.answer) c.put-in-Part.ensures

pub returns-in-Class-clause-answer : goal.returns-in-Class-clause-answer
returns-in-Class-clause-answer g c =
    let R = g.S.Semiring.set in
    let letters = letters_over (g.L.LabelSet.sets c.args.labels.now) in
    let ts = trees_of c.args.exprs.now c.args.names.now.items in
    let ops = map step_seen c.args.after.now in
    let same = g.S.Value.PartialEq.eq in
    let value = weight_of_mark R g.S.Semiring.spelled in
    let answer = sum_answer R (atoms_of (letters (seen c.in-Class.class))) in
    names_put (made_after R same value letters ts (step_seen c.args.step) ops) c.args.exprs.now c.build_class.new.exprs c.args.names.now.items c.put-in-Class.new.names.items (unless_unfit answer)
    (ap (λ s. made_after R same value letters ts (step_seen s) ops) c.in-Class.is) c.build_class.result c.put-in-Class.result c.requires.names c.build_class.ensures.grows (given_made answer c.build_class.new.exprs c.build_class.result c.build_class.ensures.answer) c.put-in-Class.ensures
