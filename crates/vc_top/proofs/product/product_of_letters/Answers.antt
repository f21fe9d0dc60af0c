use Rattle.std.proofs.Common.{refl, sym}
use Rattle.vc_label.specs.declared.tape_set.TapeKind.TheVariants.{Letters}
use Rattle.vc_label.specs.declared.tape_set.TapeSet.{TapeSet}
use Rattle.vc_top.proofs.Joined.{joint_sets}
use Rattle.vc_top.proofs.product.product_of_letters.Goals as goal

pub product_in-requires-clause-joint : goal.product_in-requires-clause-joint
product_in-requires-clause-joint g c =
    let s : TapeSet = record { kind = Letters; alphabet = c.labels.result.now.alphabet } in
    let t : TapeSet = record { kind = Letters; alphabet = c.labels-2.result.now.alphabet } in
    let u : TapeSet = record { kind = Letters; alphabet = c.letters_of.result } in
    joint_sets c.args.first.now.sets c.args.second.now.sets _ s t u (sym c.labels.ensures) (sym c.labels-2.ensures) c.new-labels.ensures tt tt refl (c.letters_of.ensures s t refl refl)
