use Rattle.std.proofs.Common.{rules, ◌≡◌, ◌<◌, ◌∷◌, [], ◌++◌, ◌+◌, ◌-◌, length, take, drop}
use Rattle.vc_model.specs.Words.{Tape, cuts}
use Rattle.vc_series.proofs.Pairs.{letters_take, letters_drop, add_cut, all_cuts}
use Rattle.vc_series.proofs.word_pairs.tape_cuts.Goals as goal

pub one-requires : goal.one-requires
one-requires c = letters_take c.loop-at.at c.args.letters.now c.requires

pub one-requires-in-loop-at : goal.one-requires-in-loop-at
one-requires-in-loop-at c = letters_take (length c.args.letters.now - c.loop-at.at) (drop c.loop-at.at c.args.letters.now) (letters_drop c.loop-at.at c.args.letters.now c.requires)

pub loop-at-preserved : goal.loop-at-preserved
loop-at-preserved c =
    let a = c.args.letters.now in
    let h : c.loop-at.at < length a + 1 = search rules in
    let e : c.push.new.self.items ≡ c.loop-at.pairs.items ++ (take c.loop-at.at a ∷ [], take (length a - c.loop-at.at) (drop c.loop-at.at a) ∷ []) ∷ [] = search rules in
    add_cut (λ (d : Tape × Tape). (d.0 ∷ [], d.1 ∷ []) ∷ []) c.loop-at.at a c.loop-at.pairs.items c.push.new.self.items (cuts (a ∷ [])) h c.loop-at.invariant e

pub returns : goal.returns
returns c =
    let a = c.args.letters.now in
    let h : c.loop-at.at ≡ length a + 1 = search rules in
    all_cuts (λ (d : Tape × Tape). (d.0 ∷ [], d.1 ∷ []) ∷ []) c.loop-at.at a c.loop-at.pairs.items (cuts (a ∷ [])) h c.loop-at.invariant
