use Rattle.std.proofs.Common.{arith, sym, ◌≡◌, ◌∷◌, ◌++◌, IsTrue}
use Rattle.std.proofs.lemmas.Grind.{common_steps}
use Rattle.vc_label.specs.Alphabets.{letters_of}
use Rattle.vc_label.specs.Letters.{is_letter}
use Rattle.vc_context.proofs.writer.push_letters.Goals as goal

pub push_letter-requires : goal.push_letter-requires
push_letter-requires c =
    let x = c.in-Some.letter in
    let all : c.loop-letter.yielded ++ x ∷ c.next.new.self ≡ letters_of c.args.alphabet = rw (sym c.in-Some.ensures.steps) c.loop-letter.invariant.left in
    let letter : IsTrue (is_letter x) = c.alphabets_are_sets.ensures.letters c.args.alphabet x (c.alphabets_are_sets.ensures.each c.args.alphabet c.loop-letter.yielded c.next.new.self x all) in
    grind (arith, common_steps)
