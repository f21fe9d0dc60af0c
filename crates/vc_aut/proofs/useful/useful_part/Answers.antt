use Rattle.std.proofs.Common.{rules, ◌≡◌, ◌<◌, ℕ, List, length, map, get_or, sym, ap, ◌∙◌, subst}
use Rattle.std.proofs.lemmas.List.{length-map}
use Rattle.std.proofs.lemmas.Result.{IfOk-weaker}
use Rattle.vc_label.specs.declared.tape_set.TapeSet.{TapeSet}
use Rattle.vc_model.specs.Automata.{Automaton}
use Rattle.vc_model.specs.Lists.{In}
use Rattle.vc_model.specs.Trims.{IsTrim}
use Rattle.vc_aut.specs.Stored.{automaton_of, transition_of}
use Rattle.vc_aut.specs.Labelled.{Labelled}
use Rattle.vc_aut.specs.Validity.{IsLabelled}
use Rattle.vc_aut.proofs.Trimmed.{parts_labelled, trimmed}
use Rattle.vc_aut.proofs.Whole.{whole}
use Rattle.vc_aut.proofs.useful.useful_part.Goals as goal

pub returns-then-len-states-clause-trim : goal.returns-then-len-states-clause-trim
returns-then-len-states-clause-trim g c =
    let R = g.S.Semiring.set in
    let A = c.args.aut.now.automaton in
    let kept = c.in_ok-kept.kept.states.items in
    let n : c.len.result ≡ length kept = search rules in
    let all : length kept ≡ A.states = sym n ∙ c.if-len-states.true ∙ c.states.ensures in
    let t = whole R (length c.args.aut.now.sets) A c.automata_are_valid.ensures.automaton kept c.in_ok-kept.kept.places.items c.in_ok-kept.ensures all in
    IfOk-weaker c.copy.result _ _ (λ a h. (kept, subst (λ (x : Labelled g.row.S-Value.Denot). IsTrim R A x.automaton kept) (sym h) t)) c.copy.ensures

pub chosen-requires : goal.chosen-requires
chosen-requires g c q i =
    let l = (c.in_ok-kept.ensures.useful q).0 (subst (λ (xs : List ℕ). In q xs) c.deref.ensures.value i) in
    subst (λ n. q < n) (sym (ap (λ (ws : List g.row.S-Value.Denot). length ws) c.initial_weights.ensures ∙ c.automata_are_valid.ensures.automaton.initial)) l.0

pub chosen-requires-2 : goal.chosen-requires-2
chosen-requires-2 g c q i =
    let l = (c.in_ok-kept.ensures.useful q).0 (subst (λ (xs : List ℕ). In q xs) c.deref-2.ensures.value i) in
    subst (λ n. q < n) (sym (ap (λ (ws : List g.row.S-Value.Denot). length ws) c.final_weights.ensures ∙ c.automata_are_valid.ensures.automaton.final)) l.0

pub new-requires : goal.new-requires
new-requires g c =
    let V = g.row.S-Value.Denot in
    let R = g.S.Semiring.set in
    let A = c.args.aut.now.automaton in
    let of = transition_of {L = g.row.L.Denot} {S = g.row.S.Denot} {V = V} g.L.LabelSet.parts in
    let kept = c.in_ok-kept.kept.states.items in
    let T : Automaton V = automaton_of c.in_ok-initial_weights.initial_weights.items c.in_ok-final_weights.final_weights.items (map of c.in_ok-transitions.transitions.items) in
    let initial : T.initial ≡ map (λ q. get_or A.initial q R.zero) kept = c.in_ok-initial_weights.ensures ∙ ap (λ (ws : List V). map (λ q. get_or ws q R.zero) c.deref.result.now) c.initial_weights.ensures ∙ ap (map (λ q. get_or A.initial q R.zero)) c.deref.ensures.value in
    let final : T.final ≡ map (λ q. get_or A.final q R.zero) kept = c.in_ok-final_weights.ensures ∙ ap (λ (ws : List V). map (λ q. get_or ws q R.zero) c.deref-2.result.now) c.final_weights.ensures ∙ ap (map (λ q. get_or A.final q R.zero)) c.deref-2.ensures.value in
    let n : T.states ≡ length kept = ap (λ (ws : List V). length ws) initial ∙ length-map kept (λ q. get_or A.initial q R.zero) in
    let u = c.in_ok-kept.ensures in
    subst (λ (ss : List TapeSet). IsLabelled R (record { sets = ss; automaton = T })) (sym c.labels.ensures)
    (parts_labelled R c.args.aut.now.sets A c.automata_are_valid.ensures.labelled kept u.order (λ p i. ((u.useful p).0 i).0) u.few T initial final n c.in_ok-transitions.ensures)

pub returns-clause-trim : goal.returns-clause-trim
returns-clause-trim g c =
    let V = g.row.S-Value.Denot in
    let R = g.S.Semiring.set in
    let A = c.args.aut.now.automaton in
    let of = transition_of {L = g.row.L.Denot} {S = g.row.S.Denot} {V = V} g.L.LabelSet.parts in
    let kept = c.in_ok-kept.kept.states.items in
    let T : Automaton V = automaton_of c.in_ok-initial_weights.initial_weights.items c.in_ok-final_weights.final_weights.items (map of c.in_ok-transitions.transitions.items) in
    let initial : T.initial ≡ map (λ q. get_or A.initial q R.zero) kept = c.in_ok-initial_weights.ensures ∙ ap (λ (ws : List V). map (λ q. get_or ws q R.zero) c.deref.result.now) c.initial_weights.ensures ∙ ap (map (λ q. get_or A.initial q R.zero)) c.deref.ensures.value in
    let final : T.final ≡ map (λ q. get_or A.final q R.zero) kept = c.in_ok-final_weights.ensures ∙ ap (λ (ws : List V). map (λ q. get_or ws q R.zero) c.deref-2.result.now) c.final_weights.ensures ∙ ap (map (λ q. get_or A.final q R.zero)) c.deref-2.ensures.value in
    let n : T.states ≡ length kept = ap (λ (ws : List V). length ws) initial ∙ length-map kept (λ q. get_or A.initial q R.zero) in
    let t = trimmed R A T kept c.in_ok-kept.kept.places.items c.in_ok-kept.ensures initial final n c.in_ok-transitions.ensures in
    IfOk-weaker c.new.result _ _ (λ a h. (kept, subst (λ (x : Labelled V). IsTrim R A x.automaton kept) (sym h) t)) c.new.ensures
