use Rattle.std.proofs.Common.{rules, ◌≡◌, ◌+◌, ◌++◌, ◌∷◌, [], replicate, ap, ◌∙◌, List}
use Rattle.std.specs.Prelude.{IsTrue}
use Rattle.std.proofs.lemmas.List.Elements.{All-cons, All-replicate, All-same}
use Rattle.vc_standard.proofs.StateLaws.{replicate_more}
use Rattle.vc_standard.proofs.emit.initial_weights.Goals as goal

pub loop-preserved : goal.loop-preserved
loop-preserved g c =
    let R = g.S.Semiring.set in
    let n = c.loop.counter in
    let grown : c.append-in-loop.new.into.items ≡ c.loop.weights.items ++ R.zero ∷ [] = search rules in
    let all : c.append-in-loop.new.into.items ≡ R.one ∷ replicate (n + 1) R.zero =
    grown ∙ ap (λ xs. xs ++ R.zero ∷ []) c.loop.invariant.made ∙ ap (λ (xs : List g.row.S-Value.Denot). R.one ∷ xs) (replicate_more n R.zero) in
    record {
      made = all;
      in_range = All-same (λ a. IsTrue (R.in_range a)) c.append-in-loop.new.into.items (R.one ∷ replicate (n + 1) R.zero) all
          (All-cons (λ a. IsTrue (R.in_range a)) R.one (replicate (n + 1) R.zero) g.met.S.Semiring.ranges.one_in (All-replicate (λ a. IsTrue (R.in_range a)) (n + 1) R.zero g.met.S.Semiring.ranges.zero_in));
    }
