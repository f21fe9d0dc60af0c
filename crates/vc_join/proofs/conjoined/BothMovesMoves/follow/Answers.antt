use Rattle.std.proofs.Common.{◌≡◌, ap, ap₂, sym, ◌∙◌, subst, map, length}
use Rattle.std.specs.Prelude.{OnOk, IfErr}
use Rattle.vc_aut.specs.Stored.{transition_of}
use Rattle.vc_label.specs.Sets.{IsOverSets}
use Rattle.vc_model.specs.Automata.{Transition}
use Rattle.vc_model.specs.Lists.{In}
use Rattle.vc_aut.specs.Order.{moves_from}
use Rattle.vc_search.specs.Courses.{IsStopped, led_all, targets}
use Rattle.vc_join.specs.Conjunctions.{both_items}
use Rattle.vc_join.specs.Pairs.{same_states}
use Rattle.vc_join.specs.Runs.{AreByLabel}
use Rattle.vc_join.proofs.Among.{next_states, move_among, not_empty}
use Rattle.vc_join.proofs.Alike.{all_in, by_label_from}
use Rattle.vc_join.proofs.Meeting.{FailsAmong, meets_stop}
use Rattle.vc_join.proofs.conjoined.BothMovesMoves.follow.Goals as goal

pub meet_all-requires-clause-lefts : goal.meet_all-requires-clause-lefts
meet_all-requires-clause-lefts g c =
    let T = transition_of g.L.LabelSet.parts in
    let A = c.args.self.now.first.now.automaton in
    let p = c.args.key.0 in
    let ls : map T c.transitions_from-lefts.result.now ≡ moves_from A.transitions p = c.transitions_from-lefts.ensures ∙ ap (λ z. moves_from z.automaton.transitions p) c.automaton.ensures in
    subst AreByLabel (sym ls) (by_label_from p A.transitions c.proper_automata_are_proper.ensures.labelled.drawn.order)

pub meet_all-requires-clause-rights : goal.meet_all-requires-clause-rights
meet_all-requires-clause-rights g c =
    let T = transition_of g.L.LabelSet.parts in
    let B = c.args.self.now.second.now.automaton in
    let q = c.args.key.1 in
    let rs : map T c.transitions_from-rights.result.now ≡ moves_from B.transitions q = c.transitions_from-rights.ensures ∙ ap (λ z. moves_from z.automaton.transitions q) c.automaton-2.ensures in
    subst AreByLabel (sym rs) (by_label_from q B.transitions c.proper_automata_are_proper-2.ensures.labelled.drawn.order)

pub meet_all-requires-clause-labels : goal.meet_all-requires-clause-labels
meet_all-requires-clause-labels g c t i =
    let T = transition_of g.L.LabelSet.parts in
    let A = c.args.self.now.first.now.automaton in
    let p = c.args.key.0 in
    let ls : map T c.transitions_from-lefts.result.now ≡ moves_from A.transitions p = c.transitions_from-lefts.ensures ∙ ap (λ z. moves_from z.automaton.transitions p) c.automaton.ensures in
    all_in (λ (u : Transition g.row.S-Value.Denot). IsOverSets c.args.into.now.sets u.label) A.transitions c.requires.over t (move_among A p t (subst (In t) ls i))

pub meet_all-requires-clause-not_empty : goal.meet_all-requires-clause-not_empty
meet_all-requires-clause-not_empty g c t i =
    let T = transition_of g.L.LabelSet.parts in
    let A = c.args.self.now.first.now.automaton in
    let p = c.args.key.0 in
    let ls : map T c.transitions_from-lefts.result.now ≡ moves_from A.transitions p = c.transitions_from-lefts.ensures ∙ ap (λ z. moves_from z.automaton.transitions p) c.automaton.ensures in
    not_empty t.label (c.empty_words_are_tested.ensures.length t.label).0 (c.proper_automata_are_proper.ensures.proper t (move_among A p t (subst (In t) ls i)))

pub meet_all-requires-clause-lefts_in : goal.meet_all-requires-clause-lefts_in
meet_all-requires-clause-lefts_in g c t i =
    let T = transition_of g.L.LabelSet.parts in
    let A = c.args.self.now.first.now.automaton in
    let p = c.args.key.0 in
    let ls : map T c.transitions_from-lefts.result.now ≡ moves_from A.transitions p = c.transitions_from-lefts.ensures ∙ ap (λ z. moves_from z.automaton.transitions p) c.automaton.ensures in
    (c.proper_automata_are_proper.ensures.moves t (move_among A p t (subst (In t) ls i))).weight

pub meet_all-requires-clause-rights_in : goal.meet_all-requires-clause-rights_in
meet_all-requires-clause-rights_in g c t i =
    let T = transition_of g.L.LabelSet.parts in
    let B = c.args.self.now.second.now.automaton in
    let q = c.args.key.1 in
    let rs : map T c.transitions_from-rights.result.now ≡ moves_from B.transitions q = c.transitions_from-rights.ensures ∙ ap (λ z. moves_from z.automaton.transitions q) c.automaton-2.ensures in
    (c.proper_automata_are_proper-2.ensures.moves t (move_among B q t (subst (In t) rs i))).weight

pub returns-clause-members : goal.returns-clause-members
returns-clause-members g c k i =
    next_states g.S.Semiring.set c.args.self.now.first.now.automaton c.args.self.now.second.now.automaton (λ t j. (c.proper_automata_are_proper.ensures.moves t j).to) (λ t j. (c.proper_automata_are_proper-2.ensures.moves t j).to) c.args.key k i

pub returns-clause-once : goal.returns-clause-once
returns-clause-once g c =
    c.items_are_in_order.ensures.once g.S.Semiring.set c.args.self.now.first.now.automaton c.args.self.now.second.now.automaton c.args.key c.proper_automata_are_proper.ensures.labelled.drawn.order c.proper_automata_are_proper-2.ensures.labelled.drawn.order

pub returns-clause-ok : goal.returns-clause-ok
returns-clause-ok g c =
    let T = transition_of g.L.LabelSet.parts in
    let A = c.args.self.now.first.now.automaton in
    let p = c.args.key.0 in
    let ls : map T c.transitions_from-lefts.result.now ≡ moves_from A.transitions p = c.transitions_from-lefts.ensures ∙ ap (λ z. moves_from z.automaton.transitions p) c.automaton.ensures in
    let B = c.args.self.now.second.now.automaton in
    let q = c.args.key.1 in
    let rs : map T c.transitions_from-rights.result.now ≡ moves_from B.transitions q = c.transitions_from-rights.ensures ∙ ap (λ z. moves_from z.automaton.transitions q) c.automaton-2.ensures in
    let R = g.S.Semiring.set in
    subst (λ es. OnOk c.meet_all.result (c.meet_all.new.into ≡ led_all same_states c.args.from c.args.into.now es)) (ap₂ (both_items R) ls rs) c.meet_all.ensures.ok

pub returns-clause-fault : goal.returns-clause-fault
returns-clause-fault g c =
    let T = transition_of g.L.LabelSet.parts in
    let A = c.args.self.now.first.now.automaton in
    let p = c.args.key.0 in
    let ls : map T c.transitions_from-lefts.result.now ≡ moves_from A.transitions p = c.transitions_from-lefts.ensures ∙ ap (λ z. moves_from z.automaton.transitions p) c.automaton.ensures in
    let B = c.args.self.now.second.now.automaton in
    let q = c.args.key.1 in
    let rs : map T c.transitions_from-rights.result.now ≡ moves_from B.transitions q = c.transitions_from-rights.ensures ∙ ap (λ z. moves_from z.automaton.transitions q) c.automaton-2.ensures in
    let R = g.S.Semiring.set in
    meets_stop R A B c.args.key c.args.into.now c.meet_all.result
    (subst (λ us. IfErr c.meet_all.result (IsStopped same_states (FailsAmong R (moves_from A.transitions p) us) c.args.into.now (targets (both_items R (moves_from A.transitions p) us)) (length (both_items R (moves_from A.transitions p) us)))) rs
    (subst (λ ts. IfErr c.meet_all.result (IsStopped same_states (FailsAmong R ts (map T c.transitions_from-rights.result.now)) c.args.into.now (targets (both_items R ts (map T c.transitions_from-rights.result.now))) (length (both_items R ts (map T c.transitions_from-rights.result.now))))) ls c.meet_all.ensures.fault))
