use Rattle.std.proofs.Common.{rules, ◌≡◌, ◌∷◌, [], ◌++◌, false, true, inl, map, refl, sym, ap, ap₂, ◌∙◌, subst}
use Rattle.std.proofs.lemmas.List.{map-append}
use Rattle.std.proofs.lemmas.List.Elements.{All-cons, All-nil}
use Rattle.vc_aut.specs.Stored.{transition_of}
use Rattle.vc_aut.specs.Validity.{IsMove}
use Rattle.vc_aut.specs.declared.transition.Transition.{Transition as Stored}
use Rattle.vc_closure.specs.Brought.{IsMore}
use Rattle.vc_closure.proofs.Bringing.{one_brought}
use Rattle.vc_closure.proofs.RowSums.{mul_err, mul_ok}
use Rattle.vc_model.specs.Automata.{Transition}
use Rattle.vc_model.specs.Words.{Word, is_empty}
use Rattle.vc_closure.proofs.bring.bring_move.Goals as goal

pub returns-in-Err-clause-fault : goal.returns-in-Err-clause-fault
returns-in-Err-clause-fault g c =
    let of = transition_of {L = g.row.L.Denot} {S = g.row.S.Denot} {V = g.row.S-Value.Denot} g.L.LabelSet.parts in
    let t = c.args.transition.now in
    let full : is_empty (g.L.LabelSet.parts t.label) ≡ false = sym c.is_empty.ensures ∙ c.if-is_empty.false in
    let m = mul_err g.S.Semiring.set c.args.weight t.weight c.in-Err.overflow c.in-Err.ensures in
    ((of t, inl refl, full, m.0), m.1)

pub returns-clause-ok : goal.returns-clause-ok
returns-clause-ok g c =
    let of = transition_of {L = g.row.L.Denot} {S = g.row.S.Denot} {V = g.row.S-Value.Denot} g.L.LabelSet.parts in
    let R = g.S.Semiring.set in
    let A = c.args.aut.now.automaton in
    let t = c.args.transition.now in
    let w = c.args.weight in
    let v = g.L.LabelSet.parts t.label in
    let full : is_empty v ≡ false = sym c.is_empty.ensures ∙ c.if-is_empty.false in
    let m = mul_ok R w t.weight c.in-Ok.product c.in-Ok.ensures in
    let range : R.in_range (R.times w t.weight) ≡ true = g.met.S.Semiring.ranges.times_in w t.weight c.requires.weight c.requires.is_move.weight m.1 in
    let x : Stored g.row.L.Denot g.row.S.Denot g.row.L-Label.Denot g.row.S-Value.Denot = record { from = c.args.state; label = c.in-Ok-copy.label; to = t.to; weight = c.in-Ok.product } in
    let y : Transition g.row.S-Value.Denot = record { from = c.args.state; label = v; to = t.to; weight = R.times w t.weight } in
    let label : g.L.LabelSet.parts c.in-Ok-copy.label ≡ v = search rules in
    let same : of x ≡ y = ap₂ (λ (l : Word) (z : g.row.S-Value.Denot). record { from = c.args.state; label = l; to = t.to; weight = z }) label m.0 in
    let move_ : IsMove R c.args.aut.now.sets A.states y = record { from = c.requires.state; to = c.requires.is_move.to; label = c.requires.is_move.label; weight = range } in
    let pushed : c.push.new.self.items ≡ c.args.into.now.items ++ x ∷ [] = search rules in
    subst (IsMore R c.args.aut.now.sets A.states (map of c.args.into.now.items) (map of c.push.new.self.items)) (sym (one_brought R c.args.state w (of t) full))
    (record {
      is = ap (map of) pushed ∙ map-append of c.args.into.now.items (x ∷ []) ∙ ap (λ (z : Transition g.row.S-Value.Denot). map of c.args.into.now.items ++ z ∷ []) same;
      moves = All-cons (IsMove R c.args.aut.now.sets A.states) y [] move_ (All-nil (IsMove R c.args.aut.now.sets A.states));
    })
