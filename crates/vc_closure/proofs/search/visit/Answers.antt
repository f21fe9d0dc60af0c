use Rattle.std.proofs.Common.{◌≡◌, ◌<◌, [], List, length, map, true, set, slice_get, slice_index_or, Some, drop, refl, sym, ap, ◌∙◌, subst, arith, rules}
use Rattle.std.proofs.lemmas.List.{length-map}
use Rattle.vc_aut.specs.Stored.{transition_of}
use Rattle.vc_closure.specs.Searches.{ArePassed, AreTaken, IsOpen, moves_from, states_of}
use Rattle.vc_closure.specs.declared.search.Step.{Step}
use Rattle.vc_model.specs.Automata.{Transition}
use Rattle.vc_model.specs.Lists.{In}
use Rattle.vc_closure.proofs.Places.{In-drop, place_is, place_within, take_rest}
use Rattle.vc_closure.proofs.Walks.{moves_member, taken_member, walk_steps}
use Rattle.vc_closure.proofs.Underway.{IsUnderway, backward, begins, cut_circuit, ends, forward, less, longer_walk, on_path}
use Rattle.vc_closure.proofs.search.visit.Goals as goal

pub walk-init : goal.walk-init
walk-init g c =
    let A = c.args.aut.now.automaton in
    subst (λ (ss : List Step). IsUnderway A c.args.tapes.now c.args.root c.args.seen.now (set c.args.seen.now c.args.root true) c.args.done.now c.args.order.now.items ss c.args.root 0) (sym c.new-path.ensures.items)
    (begins A c.args.tapes.now c.args.root c.args.seen.now c.args.done.now c.args.order.now.items c.requires.root c.requires.new c.requires.searched c.requires.left)

pub next_open-requires-clause-labels : goal.next_open-requires-clause-labels
next_open-requires-clause-labels g c t i =
    let A = c.args.aut.now.automaton in
    let m = moves_member A c.walk.state t (subst (λ (ts : List (Transition g.row.S-Value.Denot)). In t ts) c.transitions_from-moves.ensures i) in
    c.automata_are_valid.ensures.automaton.label t m.0 ∙ sym c.requires.tapes

pub next_open-requires-clause-to : goal.next_open-requires-clause-to
next_open-requires-clause-to g c t i =
    let A = c.args.aut.now.automaton in
    let m = moves_member A c.walk.state t (subst (λ (ts : List (Transition g.row.S-Value.Denot)). In t ts) c.transitions_from-moves.ensures i) in
    subst (λ n. t.to < n) (sym c.walk.invariant.searched.done_all) (c.automata_are_valid.ensures.automaton.to t m.0)

pub next_open-requires-clause-passed : goal.next_open-requires-clause-passed
next_open-requires-clause-passed g c =
    subst (λ (ts : List (Transition g.row.S-Value.Denot)). ArePassed c.args.tapes.now c.walk.done ts c.walk.at) (sym c.transitions_from-moves.ensures) c.walk.invariant.here

pub bounds-moves-place : goal.bounds-moves-place
bounds-moves-place g c =
    let of = transition_of {L = g.row.L.Denot} {S = g.row.S.Denot} {V = g.row.S-Value.Denot} g.L.LabelSet.parts in
    let u = c.in-Some.ensures.found in
    place_within of c.transitions_from-moves.result.now c.in-Some.place u.0 u.1.at

pub offset_bounds-moves-place : goal.offset_bounds-moves-place
offset_bounds-moves-place g c =
    let of = transition_of {L = g.row.L.Denot} {S = g.row.S.Denot} {V = g.row.S-Value.Denot} g.L.LabelSet.parts in
    let u = c.in-Some.ensures.found in
    let l = place_within of c.transitions_from-moves.result.now c.in-Some.place u.0 u.1.at in
    omega arith

pub bounds-moves-place-in-Some : goal.bounds-moves-place-in-Some
bounds-moves-place-in-Some g c =
    let of = transition_of {L = g.row.L.Denot} {S = g.row.S.Denot} {V = g.row.S-Value.Denot} g.L.LabelSet.parts in
    let u = c.in-Some.ensures.found in
    place_within of c.transitions_from-moves.result.now c.in-Some.place u.0 u.1.at

pub bounds-seen-to : goal.bounds-seen-to
bounds-seen-to g c =
    let of = transition_of {L = g.row.L.Denot} {S = g.row.S.Denot} {V = g.row.S-Value.Denot} g.L.LabelSet.parts in
    let A = c.args.aut.now.automaton in
    let ms = c.transitions_from-moves.result.now in
    let u = c.in-Some.ensures.found in
    let e = place_is of ms c.in-Some.place u.0 u.1.at c.index-moves-place.result in
    let at : slice_get (moves_from A c.walk.state) c.in-Some.place ≡ Some u.0 = ap (λ (ts : List (Transition g.row.S-Value.Denot)). slice_get ts c.in-Some.place) (sym c.transitions_from-moves.ensures) ∙ u.1.at in
    let m = taken_member A (record { state = c.walk.state; at = c.in-Some.place }) u.0 at in
    subst (λ n. (slice_index_or ms c.in-Some.place c.index-moves-place.result).to < n) (sym c.walk.invariant.searched.seen_all) (subst (λ (t : Transition g.row.S-Value.Denot). t.to < A.states) e (c.automata_are_valid.ensures.automaton.to u.0 m.0))

pub bounds-seen-to-in-Some : goal.bounds-seen-to-in-Some
bounds-seen-to-in-Some g c =
    let of = transition_of {L = g.row.L.Denot} {S = g.row.S.Denot} {V = g.row.S-Value.Denot} g.L.LabelSet.parts in
    let A = c.args.aut.now.automaton in
    let ms = c.transitions_from-moves.result.now in
    let u = c.in-Some.ensures.found in
    let e = place_is of ms c.in-Some.place u.0 u.1.at c.index-moves-place.result in
    let at : slice_get (moves_from A c.walk.state) c.in-Some.place ≡ Some u.0 = ap (λ (ts : List (Transition g.row.S-Value.Denot)). slice_get ts c.in-Some.place) (sym c.transitions_from-moves.ensures) ∙ u.1.at in
    let m = taken_member A (record { state = c.walk.state; at = c.in-Some.place }) u.0 at in
    subst (λ n. (slice_index_or ms c.in-Some.place c.index-moves-place.result).to < n) (sym c.walk.invariant.searched.seen_all) (subst (λ (t : Transition g.row.S-Value.Denot). t.to < A.states) e (c.automata_are_valid.ensures.automaton.to u.0 m.0))

pub place_of-back-requires : goal.place_of-back-requires
place_of-back-requires g c =
    let of = transition_of {L = g.row.L.Denot} {S = g.row.S.Denot} {V = g.row.S-Value.Denot} g.L.LabelSet.parts in
    let A = c.args.aut.now.automaton in
    let K = c.args.tapes.now in
    let ms = c.transitions_from-moves.result.now in
    let u = c.in-Some.ensures.found in
    let e = place_is of ms c.in-Some.place u.0 u.1.at c.index-moves-place.result in
    let t = of (slice_index_or ms c.in-Some.place c.index-moves-place.result) in
    let o : IsOpen K c.walk.done (moves_from A c.walk.state) c.in-Some.place t = subst (λ (ts : List (Transition g.row.S-Value.Denot)). IsOpen K c.walk.done ts c.in-Some.place t) c.transitions_from-moves.ensures (subst (λ (v : Transition g.row.S-Value.Denot). IsOpen K c.walk.done (map of ms) c.in-Some.place v) e u.1) in
    subst (λ (ss : List Step). In t.to (states_of ss)) (sym c.deref.ensures.value)
    (on_path A K c.args.root c.args.seen.now c.walk.seen c.walk.done c.walk.order.items c.walk.path.items c.walk.state c.walk.at c.walk.invariant c.in-Some.place t c.push.new.self.items c.in_ok-push-in-Some.ensures.items o c.if-seen-to.true)

pub taken-requires-clause-taken : goal.taken-requires-clause-taken
taken-requires-clause-taken g c s i =
    let of = transition_of {L = g.row.L.Denot} {S = g.row.S.Denot} {V = g.row.S-Value.Denot} g.L.LabelSet.parts in
    let A = c.args.aut.now.automaton in
    let K = c.args.tapes.now in
    let u = c.in-Some.ensures.found in
    let o : IsOpen K c.walk.done (moves_from A c.walk.state) c.in-Some.place u.0 = subst (λ (ts : List (Transition g.row.S-Value.Denot)). IsOpen K c.walk.done ts c.in-Some.place u.0) c.transitions_from-moves.ensures u.1 in
    let w = longer_walk A K c.args.root c.args.seen.now c.walk.seen c.walk.done c.walk.order.items c.walk.path.items c.walk.state c.walk.at c.walk.invariant c.in-Some.place u.0 c.push.new.self.items c.in_ok-push-in-Some.ensures.items o in
    let k = c.place_of-back.result in
    let xs = c.deref-then-seen-to.result.now in
    let j : In s c.push.new.self.items = subst (λ (ss : List Step). In s ss) c.deref-then-seen-to.ensures.value (In-drop s k xs (subst (λ (ss : List Step). In s ss) (take_rest xs k) i)) in
    walk_steps A K c.args.root u.0.to c.push.new.self.items w s j

pub taken-requires-clause-states : goal.taken-requires-clause-states
taken-requires-clause-states g c s i =
    let A = c.args.aut.now.automaton in
    let K = c.args.tapes.now in
    let u = c.in-Some.ensures.found in
    let o : IsOpen K c.walk.done (moves_from A c.walk.state) c.in-Some.place u.0 = subst (λ (ts : List (Transition g.row.S-Value.Denot)). IsOpen K c.walk.done ts c.in-Some.place u.0) c.transitions_from-moves.ensures u.1 in
    let w = longer_walk A K c.args.root c.args.seen.now c.walk.seen c.walk.done c.walk.order.items c.walk.path.items c.walk.state c.walk.at c.walk.invariant c.in-Some.place u.0 c.push.new.self.items c.in_ok-push-in-Some.ensures.items o in
    let k = c.place_of-back.result in
    let xs = c.deref-then-seen-to.result.now in
    let j : In s c.push.new.self.items = subst (λ (ss : List Step). In s ss) c.deref-then-seen-to.ensures.value (In-drop s k xs (subst (λ (ss : List Step). In s ss) (take_rest xs k) i)) in
    let t = walk_steps A K c.args.root u.0.to c.push.new.self.items w s j in
    let m = taken_member A s t.0 t.1 in
    subst (λ q. q < A.states) m.1 (c.automata_are_valid.ensures.automaton.from t.0 m.0)

pub returns-then-seen-to-clause-circuit : goal.returns-then-seen-to-clause-circuit
returns-then-seen-to-clause-circuit g c =
    let of = transition_of {L = g.row.L.Denot} {S = g.row.S.Denot} {V = g.row.S-Value.Denot} g.L.LabelSet.parts in
    let A = c.args.aut.now.automaton in
    let K = c.args.tapes.now in
    let ms = c.transitions_from-moves.result.now in
    let u = c.in-Some.ensures.found in
    let e = place_is of ms c.in-Some.place u.0 u.1.at c.index-moves-place.result in
    let o : IsOpen K c.walk.done (moves_from A c.walk.state) c.in-Some.place u.0 = subst (λ (ts : List (Transition g.row.S-Value.Denot)). IsOpen K c.walk.done ts c.in-Some.place u.0) c.transitions_from-moves.ensures u.1 in
    let longer = c.push.new.self.items in
    let w = longer_walk A K c.args.root c.args.seen.now c.walk.seen c.walk.done c.walk.order.items c.walk.path.items c.walk.state c.walk.at c.walk.invariant c.in-Some.place u.0 longer c.in_ok-push-in-Some.ensures.items o in
    let k = c.place_of-back.result in
    let d : Step = record { state = 0; at = 0 } in
    let xs = c.deref-then-seen-to.result.now in
    let l : k < length longer = subst (λ (ss : List Step). k < length ss) c.deref.ensures.value c.place_of-back.ensures.within in
    let q : (slice_index_or longer k d).state ≡ u.0.to = ap (λ (ss : List Step). (slice_index_or ss k d).state) (sym c.deref.ensures.value) ∙ c.place_of-back.ensures.place d ∙ ap (λ (t : Transition g.row.S-Value.Denot). t.to) (sym e) in
    let a : AreTaken A (drop k longer) (map of c.in_ok-circuit-in-Some.circuit.items) =
    subst (λ (ss : List Step). AreTaken A (drop k ss) (map of c.in_ok-circuit-in-Some.circuit.items)) c.deref-then-seen-to.ensures.value
    (subst (λ (ss : List Step). AreTaken A ss (map of c.in_ok-circuit-in-Some.circuit.items)) (take_rest xs k) c.in_ok-circuit-in-Some.ensures) in
    cut_circuit A K (length c.args.aut.now.sets) c.automata_are_valid.ensures.automaton.label c.args.root u.0.to longer w k d l q (map of c.in_ok-circuit-in-Some.circuit.items) a

pub walk-preserved-in-Some : goal.walk-preserved-in-Some
walk-preserved-in-Some g c =
    let of = transition_of {L = g.row.L.Denot} {S = g.row.S.Denot} {V = g.row.S-Value.Denot} g.L.LabelSet.parts in
    let A = c.args.aut.now.automaton in
    let K = c.args.tapes.now in
    let ms = c.transitions_from-moves.result.now in
    let u = c.in-Some.ensures.found in
    let e = place_is of ms c.in-Some.place u.0 u.1.at c.index-moves-place.result in
    let t = of (slice_index_or ms c.in-Some.place c.index-moves-place.result) in
    let o : IsOpen K c.walk.done (moves_from A c.walk.state) c.in-Some.place t = subst (λ (ts : List (Transition g.row.S-Value.Denot)). IsOpen K c.walk.done ts c.in-Some.place t) c.transitions_from-moves.ensures (subst (λ (v : Transition g.row.S-Value.Denot). IsOpen K c.walk.done (map of ms) c.in-Some.place v) e u.1) in
    let p : ArePassed K c.walk.done (moves_from A c.walk.state) c.in-Some.place = subst (λ (ts : List (Transition g.row.S-Value.Denot)). ArePassed K c.walk.done ts c.in-Some.place) c.transitions_from-moves.ensures c.in-Some.ensures.before in
    let m = taken_member A (record { state = c.walk.state; at = c.in-Some.place }) t o.at in
    forward A K c.args.root c.args.seen.now c.walk.seen c.walk.done c.walk.order.items c.walk.path.items c.walk.state c.walk.at c.walk.invariant c.in-Some.place t c.push.new.self.items c.in_ok-push-in-Some.ensures.items o p (c.automata_are_valid.ensures.automaton.to t m.0) c.if-seen-to.false

pub walk-smaller-in-Some : goal.walk-smaller-in-Some
walk-smaller-in-Some g c =
    let A = c.args.aut.now.automaton in
    let q = (slice_index_or c.transitions_from-moves.result.now c.in-Some.place c.index-moves-place.result).to in
    let l : q < length c.walk.seen = bounds-seen-to-in-Some g c in
    less A c.args.tapes.now c.args.root c.args.seen.now c.walk.seen c.walk.done c.walk.order.items c.walk.path.items c.walk.state c.walk.at c.walk.invariant c.push.new.self.items q (omega (arith, c.in_ok-push-in-Some.ensures.len)) (subst (λ n. q < n) c.walk.invariant.searched.seen_all l) c.if-seen-to.false

pub walk-preserved : goal.walk-preserved
walk-preserved g c =
    let of = transition_of {L = g.row.L.Denot} {S = g.row.S.Denot} {V = g.row.S-Value.Denot} g.L.LabelSet.parts in
    let A = c.args.aut.now.automaton in
    let K = c.args.tapes.now in
    let ms = moves_from A c.walk.state in
    let n : length c.transitions_from-moves.result.now ≡ length ms = sym (length-map c.transitions_from-moves.result.now of) ∙ ap (λ (ts : List (Transition g.row.S-Value.Denot)). length ts) c.transitions_from-moves.ensures in
    let p : ArePassed K c.walk.done ms (length ms) = subst (λ n. ArePassed K c.walk.done ms n) n (subst (λ (ts : List (Transition g.row.S-Value.Denot)). ArePassed K c.walk.done ts (length c.transitions_from-moves.result.now)) c.transitions_from-moves.ensures (c.in-None.ensures.none refl)) in
    backward A K c.args.root c.args.seen.now c.walk.seen c.walk.done c.walk.order.items c.walk.path.items c.walk.state c.walk.at c.walk.invariant p c.push-in-None.new.self.items c.in_ok-push-in-None.ensures.items c.automata_are_valid.ensures.automaton.from c.pop.new.self.items c.in-Some-pop.step c.in-Some-pop.ensures.items

pub returns-in_default-clause-searched : goal.returns-in_default-clause-searched
returns-in_default-clause-searched g c none =
    let of = transition_of {L = g.row.L.Denot} {S = g.row.S.Denot} {V = g.row.S-Value.Denot} g.L.LabelSet.parts in
    let A = c.args.aut.now.automaton in
    let K = c.args.tapes.now in
    let ms = moves_from A c.walk.state in
    let n : length c.transitions_from-moves.result.now ≡ length ms = sym (length-map c.transitions_from-moves.result.now of) ∙ ap (λ (ts : List (Transition g.row.S-Value.Denot)). length ts) c.transitions_from-moves.ensures in
    let p : ArePassed K c.walk.done ms (length ms) = subst (λ n. ArePassed K c.walk.done ms n) n (subst (λ (ts : List (Transition g.row.S-Value.Denot)). ArePassed K c.walk.done ts (length c.transitions_from-moves.result.now)) c.transitions_from-moves.ensures (c.in-None.ensures.none refl)) in
    let e : c.walk.path.items ≡ [] = search rules in
    (ends A K c.args.root c.args.seen.now c.walk.seen c.walk.done c.walk.order.items c.walk.path.items c.walk.state c.walk.at c.walk.invariant p c.push-in-None.new.self.items c.in_ok-push-in-None.ensures.items e).0

pub returns-in_default-clause-left : goal.returns-in_default-clause-left
returns-in_default-clause-left g c none =
    let of = transition_of {L = g.row.L.Denot} {S = g.row.S.Denot} {V = g.row.S-Value.Denot} g.L.LabelSet.parts in
    let A = c.args.aut.now.automaton in
    let K = c.args.tapes.now in
    let ms = moves_from A c.walk.state in
    let n : length c.transitions_from-moves.result.now ≡ length ms = sym (length-map c.transitions_from-moves.result.now of) ∙ ap (λ (ts : List (Transition g.row.S-Value.Denot)). length ts) c.transitions_from-moves.ensures in
    let p : ArePassed K c.walk.done ms (length ms) = subst (λ n. ArePassed K c.walk.done ms n) n (subst (λ (ts : List (Transition g.row.S-Value.Denot)). ArePassed K c.walk.done ts (length c.transitions_from-moves.result.now)) c.transitions_from-moves.ensures (c.in-None.ensures.none refl)) in
    let e : c.walk.path.items ≡ [] = search rules in
    (ends A K c.args.root c.args.seen.now c.walk.seen c.walk.done c.walk.order.items c.walk.path.items c.walk.state c.walk.at c.walk.invariant p c.push-in-None.new.self.items c.in_ok-push-in-None.ensures.items e).1
