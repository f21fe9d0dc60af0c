use Rattle.std.proofs.Common.{◌≡◌, ◌∙◌, ap, map, rules, tests}
use Rattle.std.proofs.lemmas.Iterator.{YieldsList-from_slice}
use Rattle.std.proofs.lemmas.Iterator.Search.{any_from_yields_List}
use Rattle.std.specs.List.{list_any}
use Rattle.vc_aut.specs.Stored.{transition_of}
use Rattle.vc_model.specs.Words.{is_empty}
use Rattle.vc_aut.proofs.EmptyLabels.{empty_label_found}
use Rattle.vc_aut.proofs.automaton.Automaton.has_empty_label.Goals as goal

pub returns : goal.returns
returns g c =
    let of = transition_of {L = g.row.L.Denot} {S = g.row.S.Denot} {V = g.row.S-Value.Denot} g.L.LabelSet.parts in
    let tested : c.any.result ≡ list_any (λ x. is_empty (of x).label) c.deref.result.now =
    any_from_yields_List _ _ _ _ c.any.ensures.ran (YieldsList-from_slice c.deref.result.now cc) (λ x b q k. search (rules, tests)) in
    let stands : map of c.deref.result.now ≡ c.args.self.now.automaton.transitions =
    ap (map of) c.deref.ensures.value ∙ ap (λ a. a.automaton.transitions) c.self.view_is in
    rw tested (empty_label_found of c.args.self.now.automaton c.deref.result.now stands)
