use Rattle.std.proofs.Common.{ap, ◌∙◌, ◌||◌, ◌&&◌, nat_le}
use Rattle.vc_label.specs.Alphabets.{has_letter}
use Rattle.vc_label.specs.Letters.{is_letter}
use Rattle.vc_text.proofs.Ranges.{range_over}
use Rattle.vc_text.proofs.classes.with_range.Goals as goal

pub returns : goal.returns
returns c x =
    let a = has_letter c.args.alphabet x in
    let n = has_letter c.args.named x in
    let b = nat_le c.args.first x && nat_le x c.args.last in
    c.union.ensures x
    ∙ ap (λ t. n || t) (c.intersection.ensures x ∙ ap (λ t. a && t) (c.with_range.ensures x ∙ ap (λ t. t || (is_letter x && b)) (c.new.ensures x)))
    ∙ range_over n a (is_letter x) b (c.alphabets_are_sets.ensures.letters c.args.alphabet x)
