use Rattle.std.proofs.Common.{◌≡◌, ◌+◌, All, length, ap, sym, ◌∙◌, subst, arith}
use Rattle.vc_eval.specs.Cells.{longest}
use Rattle.vc_eval.proofs.Sources.{All_from, longest-states, longest-by_source, no_states}
use Rattle.vc_eval.specs.Forward.{from_states}
use Rattle.vc_eval.proofs.size.longest.Goals as goal

pub longest_of-most-requires : goal.longest_of-most-requires
longest_of-most-requires g c =
    let A = c.args.aut.now.automaton in
    subst (λ us. All (λ u. length u.label ≡ 1) us) (sym c.transitions_from.ensures)
    (All_from (λ u. length u.label ≡ 1) A.transitions c.loop-s.s (λ u i. c.automata_are_valid.ensures.automaton.label u i ∙ c.requires))

pub loop-s-preserved : goal.loop-s-preserved
loop-s-preserved g c =
    let A = c.args.aut.now.automaton in
    let s = c.loop-s.s in
    ap (λ m. longest m (from_states A.transitions (s + 1) A.states)) (c.longest_of-most.ensures ∙ ap (longest c.loop-s.most) c.transitions_from.ensures)
    ∙ sym (longest-states c.loop-s.most A.transitions s A.states (omega arith))
    ∙ c.loop-s.invariant

pub returns : goal.returns
returns g c =
    let A = c.args.aut.now.automaton in
    sym (ap (longest c.loop-s.most) (no_states A.transitions c.loop-s.s A.states (omega arith)))
    ∙ c.loop-s.invariant
    ∙ longest-by_source 1 A c.automata_are_valid.ensures.automaton.from
