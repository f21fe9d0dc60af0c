use Rattle.std.proofs.Common.{◌≡◌, ◌∙◌, ap, sym, subst, [], Ok, refl}
use Rattle.vc_label.specs.Alphabets.{letters_of}
use Rattle.vc_model.specs.Lists.{In}
use Rattle.vc_reader.specs.Building.{IsAdded}
use Rattle.vc_reader.proofs.ClassLetters.{given_letters, class_given, class_is_one, class_over}
use Rattle.vc_reader.proofs.add.add_class.Goals as goal

pub unreachable-requires : goal.unreachable-requires
unreachable-requires g c =
    class_is_one (g.L.LabelSet.sets c.args.labels.now) c.args.body.now c.tape.result c.requires.class c.tape.ensures c.in-None.ensures

pub loop-letter-init : goal.loop-letter-init
loop-letter-init g c =
    let R = g.S.Semiring.set in
    let sets = g.L.LabelSet.sets c.args.labels.now in
    let body = c.args.body.now in
    let k = c.in-Some.letters in
    let all : c.into_iter-letter-iterator.result ≡ letters_of k = c.into_iter-letter-iterator.ensures.into_iter_gives ∙ c.letters-letter-items.ensures in
    record {
      leads = λ new r h. subst (λ gs. IsAdded R g.S.Semiring.spelled g.S.Semiring.numbers_fit [] c.args.builder.now gs new r)
          (ap (given_letters c.args.arrow.from c.args.arrow.to c.args.arrow.weight) all
          ∙ class_given sets body c.tape.result k c.args.arrow.from c.args.arrow.to c.args.arrow.weight c.tape.ensures c.in-Some.ensures) h;
      kept = record { sets = refl; states = refl };
      over = λ x i. class_over sets body c.tape.result k c.alphabets_are_sets.ensures.listed c.requires.class c.tape.ensures c.in-Some.ensures x (subst (In x) all i);
    }

pub returns-clause-answer : goal.returns-clause-answer
returns-clause-answer g c =
    let R = g.S.Semiring.set in
    c.loop-letter.invariant.leads c.loop-letter.builder (Ok tt)
    (subst (λ xs. IsAdded R g.S.Semiring.spelled g.S.Semiring.numbers_fit [] c.loop-letter.builder
    (given_letters c.args.arrow.from c.args.arrow.to c.args.arrow.weight xs) c.loop-letter.builder (Ok tt))
    (sym c.in-None-letter.ensures.steps.0) (refl, tt, (λ m h. absurd h)))
