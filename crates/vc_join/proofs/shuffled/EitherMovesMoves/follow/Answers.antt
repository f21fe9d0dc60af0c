use Rattle.std.proofs.Common.{◌≡◌, ap, ap₂, sym, ◌∙◌, subst, map, length}
use Rattle.std.specs.Prelude.{OnOk, IfErr}
use Rattle.vc_aut.specs.Order.{moves_from}
use Rattle.vc_aut.specs.Stored.{transition_of}
use Rattle.vc_label.specs.Sets.{IsOverSets}
use Rattle.vc_model.specs.Automata.{Transition}
use Rattle.vc_model.specs.Gathered.{IsAscending}
use Rattle.vc_model.specs.Lists.{In}
use Rattle.vc_search.specs.Courses.{IsStopped, led_all, targets}
use Rattle.vc_join.specs.Orders.{item_before}
use Rattle.vc_join.specs.Pairs.{same_states}
use Rattle.vc_join.specs.Shuffles.{left_item, mixed_items, right_item}
use Rattle.vc_join.proofs.Among.{move_among, not_empty}
use Rattle.vc_join.proofs.Alike.{all_in}
use Rattle.vc_join.proofs.MixedStates.{mixed_states}
use Rattle.vc_join.proofs.Mixing.{MixFails, mix_stops}
use Rattle.vc_join.proofs.shuffled.EitherMovesMoves.follow.Goals as goal

pub mix_all-requires-clause-lefts : goal.mix_all-requires-clause-lefts
mix_all-requires-clause-lefts g c =
    let T = transition_of g.L.LabelSet.parts in
    let A = c.args.self.now.first.now.automaton in
    let k = c.args.key in
    let ls : map T c.transitions_from-lefts.result.now ≡ moves_from A.transitions k.0 = c.transitions_from-lefts.ensures ∙ ap (λ z. moves_from z.automaton.transitions k.0) c.automaton.ensures in
    subst (λ ts. IsAscending item_before (map (left_item k.1) ts)) (sym ls) (c.shuffled_items_are_in_order.ensures.left A k c.proper_automata_are_proper.ensures.labelled.drawn.order)

pub mix_all-requires-clause-rights : goal.mix_all-requires-clause-rights
mix_all-requires-clause-rights g c =
    let T = transition_of g.L.LabelSet.parts in
    let B = c.args.self.now.second.now.automaton in
    let k = c.args.key in
    let rs : map T c.transitions_from-rights.result.now ≡ moves_from B.transitions k.1 = c.transitions_from-rights.ensures ∙ ap (λ z. moves_from z.automaton.transitions k.1) c.automaton-2.ensures in
    subst (λ us. IsAscending item_before (map (right_item k.0) us)) (sym rs) (c.shuffled_items_are_in_order.ensures.right B k c.proper_automata_are_proper-2.ensures.labelled.drawn.order)

pub mix_all-requires-clause-lefts_over : goal.mix_all-requires-clause-lefts_over
mix_all-requires-clause-lefts_over g c t i =
    let T = transition_of g.L.LabelSet.parts in
    let A = c.args.self.now.first.now.automaton in
    let p = c.args.key.0 in
    let ls : map T c.transitions_from-lefts.result.now ≡ moves_from A.transitions p = c.transitions_from-lefts.ensures ∙ ap (λ z. moves_from z.automaton.transitions p) c.automaton.ensures in
    all_in (λ (u : Transition g.row.S-Value.Denot). IsOverSets c.args.into.now.sets u.label) A.transitions c.requires.over.0 t (move_among A p t (subst (In t) ls i))

pub mix_all-requires-clause-rights_over : goal.mix_all-requires-clause-rights_over
mix_all-requires-clause-rights_over g c t i =
    let T = transition_of g.L.LabelSet.parts in
    let B = c.args.self.now.second.now.automaton in
    let q = c.args.key.1 in
    let rs : map T c.transitions_from-rights.result.now ≡ moves_from B.transitions q = c.transitions_from-rights.ensures ∙ ap (λ z. moves_from z.automaton.transitions q) c.automaton-2.ensures in
    all_in (λ (u : Transition g.row.S-Value.Denot). IsOverSets c.args.into.now.sets u.label) B.transitions c.requires.over.1 t (move_among B q t (subst (In t) rs i))

pub mix_all-requires-clause-lefts_full : goal.mix_all-requires-clause-lefts_full
mix_all-requires-clause-lefts_full g c t i =
    let T = transition_of g.L.LabelSet.parts in
    let A = c.args.self.now.first.now.automaton in
    let p = c.args.key.0 in
    let ls : map T c.transitions_from-lefts.result.now ≡ moves_from A.transitions p = c.transitions_from-lefts.ensures ∙ ap (λ z. moves_from z.automaton.transitions p) c.automaton.ensures in
    not_empty t.label (c.empty_words_are_tested.ensures.length t.label).0 (c.proper_automata_are_proper.ensures.proper t (move_among A p t (subst (In t) ls i)))

pub mix_all-requires-clause-rights_full : goal.mix_all-requires-clause-rights_full
mix_all-requires-clause-rights_full g c t i =
    let T = transition_of g.L.LabelSet.parts in
    let B = c.args.self.now.second.now.automaton in
    let q = c.args.key.1 in
    let rs : map T c.transitions_from-rights.result.now ≡ moves_from B.transitions q = c.transitions_from-rights.ensures ∙ ap (λ z. moves_from z.automaton.transitions q) c.automaton-2.ensures in
    not_empty t.label (c.empty_words_are_tested.ensures.length t.label).0 (c.proper_automata_are_proper-2.ensures.proper t (move_among B q t (subst (In t) rs i)))

pub mix_all-requires-clause-lefts_in : goal.mix_all-requires-clause-lefts_in
mix_all-requires-clause-lefts_in g c t i =
    let T = transition_of g.L.LabelSet.parts in
    let A = c.args.self.now.first.now.automaton in
    let p = c.args.key.0 in
    let ls : map T c.transitions_from-lefts.result.now ≡ moves_from A.transitions p = c.transitions_from-lefts.ensures ∙ ap (λ z. moves_from z.automaton.transitions p) c.automaton.ensures in
    (c.proper_automata_are_proper.ensures.moves t (move_among A p t (subst (In t) ls i))).weight

pub mix_all-requires-clause-rights_in : goal.mix_all-requires-clause-rights_in
mix_all-requires-clause-rights_in g c t i =
    let T = transition_of g.L.LabelSet.parts in
    let B = c.args.self.now.second.now.automaton in
    let q = c.args.key.1 in
    let rs : map T c.transitions_from-rights.result.now ≡ moves_from B.transitions q = c.transitions_from-rights.ensures ∙ ap (λ z. moves_from z.automaton.transitions q) c.automaton-2.ensures in
    (c.proper_automata_are_proper-2.ensures.moves t (move_among B q t (subst (In t) rs i))).weight

pub returns-clause-members : goal.returns-clause-members
returns-clause-members g c k i =
    mixed_states g.S.Semiring.set c.args.self.now.first.now.automaton c.args.self.now.second.now.automaton (λ t j. (c.proper_automata_are_proper.ensures.moves t j).to) (λ t j. (c.proper_automata_are_proper-2.ensures.moves t j).to) c.args.key k c.requires.member i

pub returns-clause-once : goal.returns-clause-once
returns-clause-once g c =
    c.shuffled_items_are_in_order.ensures.once g.S.Semiring.set c.args.self.now.first.now.automaton c.args.self.now.second.now.automaton c.args.key c.proper_automata_are_proper.ensures.labelled.drawn.order

pub returns-clause-ok : goal.returns-clause-ok
returns-clause-ok g c =
    let T = transition_of g.L.LabelSet.parts in
    let A = c.args.self.now.first.now.automaton in
    let B = c.args.self.now.second.now.automaton in
    let k = c.args.key in
    let ls : map T c.transitions_from-lefts.result.now ≡ moves_from A.transitions k.0 = c.transitions_from-lefts.ensures ∙ ap (λ z. moves_from z.automaton.transitions k.0) c.automaton.ensures in
    let rs : map T c.transitions_from-rights.result.now ≡ moves_from B.transitions k.1 = c.transitions_from-rights.ensures ∙ ap (λ z. moves_from z.automaton.transitions k.1) c.automaton-2.ensures in
    let R = g.S.Semiring.set in
    subst (λ es. OnOk c.mix_all.result (c.mix_all.new.into ≡ led_all same_states c.args.from c.args.into.now es)) (ap₂ (mixed_items R k) ls rs) c.mix_all.ensures.ok

pub returns-clause-fault : goal.returns-clause-fault
returns-clause-fault g c =
    let T = transition_of g.L.LabelSet.parts in
    let A = c.args.self.now.first.now.automaton in
    let B = c.args.self.now.second.now.automaton in
    let k = c.args.key in
    let ls : map T c.transitions_from-lefts.result.now ≡ moves_from A.transitions k.0 = c.transitions_from-lefts.ensures ∙ ap (λ z. moves_from z.automaton.transitions k.0) c.automaton.ensures in
    let rs : map T c.transitions_from-rights.result.now ≡ moves_from B.transitions k.1 = c.transitions_from-rights.ensures ∙ ap (λ z. moves_from z.automaton.transitions k.1) c.automaton-2.ensures in
    let R = g.S.Semiring.set in
    let right = map T c.transitions_from-rights.result.now in
    mix_stops R A B k c.args.into.now c.mix_all.result
    (subst (λ us. IfErr c.mix_all.result (IsStopped same_states (MixFails R k (moves_from A.transitions k.0) us) c.args.into.now (targets (mixed_items R k (moves_from A.transitions k.0) us)) (length (mixed_items R k (moves_from A.transitions k.0) us)))) rs
    (subst (λ ts. IfErr c.mix_all.result (IsStopped same_states (MixFails R k ts right) c.args.into.now (targets (mixed_items R k ts right)) (length (mixed_items R k ts right)))) ls c.mix_all.ensures.fault))
