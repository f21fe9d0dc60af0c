use Rattle.std.proofs.Common.{sym, ◌∙◌}
use Rattle.vc_label.specs.declared.tape_set.TapeKind.TheVariants.{Nullable}
use Rattle.vc_label.specs.declared.tape_set.TapeSet.{TapeSet}
use Rattle.vc_top.proofs.Joined.{joint_sets, one_set}
use Rattle.vc_top.proofs.product.product_of_nullable.Goals as goal

pub product_in-requires-clause-joint : goal.product_in-requires-clause-joint
product_in-requires-clause-joint g c =
    let k = c.labels.result.now in
    let m = c.labels-2.result.now in
    let p = one_set (g.K.LabelSet.sets k) (g.met.K.LabelSet.single_sets c.requires.first k) in
    let q = one_set (g.M.LabelSet.sets m) (g.met.M.LabelSet.single_sets c.requires.second m) in
    let u : TapeSet = record { kind = Nullable; alphabet = c.letters_of.result } in
    joint_sets c.args.first.now.sets c.args.second.now.sets _ p.0 q.0 u (sym c.labels.ensures ∙ p.1.0) (sym c.labels-2.ensures ∙ q.1.0) c.new-labels.ensures p.1.1 q.1.1
    (sym (c.requires.kind k m p.0 q.0 p.1.0 q.1.0)) (c.letters_of.ensures p.0 q.0 p.1.0 q.1.0)
