use Rattle.std.proofs.Common.{rules, ◌≡◌, ◌<◌, ◌∷◌, ◌++◌, ◌+◌, ◌-◌, map, length, take, drop}
use Rattle.std.specs.List.{flat_map}
use Rattle.vc_model.specs.Words.{Tape, Word, tape_cuts}
use Rattle.vc_series.proofs.Pairs.{letters_take, letters_drop, add_cut, all_cuts}
use Rattle.vc_series.proofs.word_pairs.cuts_with.Goals as goal

pub add_cuts-requires-clause-first : goal.add_cuts-requires-clause-first
add_cuts-requires-clause-first c = letters_take c.loop-at.at c.args.letters.now c.requires.letters

pub add_cuts-requires-clause-second : goal.add_cuts-requires-clause-second
add_cuts-requires-clause-second c = letters_take (length c.args.letters.now - c.loop-at.at) (drop c.loop-at.at c.args.letters.now) (letters_drop c.loop-at.at c.args.letters.now c.requires.letters)

pub loop-at-preserved : goal.loop-at-preserved
loop-at-preserved c =
    let a = c.args.letters.now in
    let h : c.loop-at.at < length a + 1 = search rules in
    let e : c.add_cuts.new.pairs.items ≡ c.loop-at.pairs.items ++ map (λ (d : Word × Word). (take c.loop-at.at a ∷ d.0, take (length a - c.loop-at.at) (drop c.loop-at.at a) ∷ d.1)) c.args.rest.now = search rules in
    add_cut (λ (x : Tape × Tape). map (λ (d : Word × Word). (x.0 ∷ d.0, x.1 ∷ d.1)) c.args.rest.now) c.loop-at.at a c.loop-at.pairs.items c.add_cuts.new.pairs.items
    (flat_map (λ (x : Tape × Tape). map (λ (d : Word × Word). (x.0 ∷ d.0, x.1 ∷ d.1)) c.args.rest.now) (tape_cuts a)) h c.loop-at.invariant e

pub returns : goal.returns
returns c =
    let a = c.args.letters.now in
    let h : c.loop-at.at ≡ length a + 1 = search rules in
    all_cuts (λ (x : Tape × Tape). map (λ (d : Word × Word). (x.0 ∷ d.0, x.1 ∷ d.1)) c.args.rest.now) c.loop-at.at a c.loop-at.pairs.items
    (flat_map (λ (x : Tape × Tape). map (λ (d : Word × Word). (x.0 ∷ d.0, x.1 ∷ d.1)) c.args.rest.now) (tape_cuts a)) h c.loop-at.invariant
